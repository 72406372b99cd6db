-- The names of a job's files, by folders and parts.
-- A catalogue's rows lie in files of their pixels (HATS), those of ten thousand pixels of an order in one folder.
use Rattle.std.specs.Prelude.{◌++◌, ◌*◌, ◌/◌, ℕ, List, codes}
use Rattle.std.specs.Fmt.{decimal}
use Rattle.hx_base.specs.declared.pixel.Pixel.{Pixel}
use Rattle.hx_base.specs.declared.refusal.JobFile.{JobFile}
use Rattle.hx_base.specs.declared.refusal.JobFile.TheVariants as file

-- the folder of a file, as it goes on behind the name: work files, the catalogue, the margin catalogue
abbrev pub folder_of : JobFile → List ℕ
folder_of file.Journal = codes ".work/"
folder_of (file.Map input) = codes ".work/"
folder_of file.Plan = codes ".work/"
folder_of (file.Split input) = codes ".work/"
folder_of (file.Part part) = codes "/"
folder_of (file.MarginSplit part) = codes ".work/"
folder_of (file.Margin part) = codes "_margin/"
folder_of file.List = codes "/"
folder_of file.MarginList = codes "_margin/"
folder_of file.MarginProperties = codes "_margin/"
folder_of file.Properties = codes "/"

-- a file in a folder, and a name that ends in a number
abbrev pub inside : List ℕ → List ℕ → List ℕ
inside folder part = folder ++ (codes "/" ++ part)

abbrev pub numbered : List ℕ → ℕ → List ℕ
numbered word number = word ++ decimal number

-- the number of the folder of a pixel's rows
abbrev pub group_of : ℕ → ℕ
group_of number = number / 10000 * 10000

abbrev pub rows_part : Pixel → List ℕ
rows_part pixel =
    inside (codes "dataset") (inside (numbered (codes "Norder=") pixel.order)
    (inside (numbered (codes "Dir=") (group_of pixel.number)) (numbered (codes "Npix=") pixel.number ++ codes ".parquet")))

-- a file's name in its folder, of which the pixel is a part where the file holds a partition's rows
abbrev pub part_of : JobFile → Pixel → List ℕ
part_of file.Journal pixel = codes "journal"
part_of (file.Map input) pixel = numbered (codes "map-") input
part_of file.Plan pixel = codes "plan"
part_of (file.Split input) pixel = numbered (codes "split-") input
part_of (file.Part part) pixel = rows_part pixel
part_of (file.MarginSplit part) pixel = numbered (codes "msplit-") part
part_of (file.Margin part) pixel = rows_part pixel
part_of file.List pixel = codes "partition_info.csv"
part_of file.MarginList pixel = codes "partition_info.csv"
part_of file.MarginProperties pixel = codes "hats.properties"
part_of file.Properties pixel = codes "hats.properties"

abbrev pub path_of : List ℕ → JobFile → Pixel → List ℕ
path_of name file pixel = name ++ folder_of file ++ part_of file pixel
