-- The files of a catalogue by its name, and what a file of rows holds.
use Rattle.std.specs.Prelude.{◌≡◌, ◌++◌, ◌∷◌, ⊤, ℕ, Bool, true, false, List, [], Option, Some, None, All}
use Rattle.std.specs.List.Sorted.{IsSorted}
use Rattle.hx_base.specs.Columns.{column_names, columns_of_rows}
use Rattle.hx_base.specs.Paths.{path_of}
use Rattle.hx_base.specs.Pixels.{PixelContains}
use Rattle.hx_base.specs.Rows.{IsGood, row_cmp}
use Rattle.hx_base.specs.declared.pixel.Pixel.{Pixel}
use Rattle.hx_base.specs.declared.refusal.JobFile.{JobFile}
use Rattle.hx_base.specs.declared.refusal.JobFile.TheVariants as file
use Rattle.hx_base.specs.declared.row.Row.{Row}
use Rattle.hx_outside.specs.Folders.{Folder}
use Rattle.hx_pqread.specs.Laws.{HasColumns}

-- the pixel that stands where a file has none
abbrev pub no_pixel : Pixel
no_pixel = record { order = 0; number = 0 }

-- the properties and the list of partitions, of a catalogue and of its margin catalogue
abbrev pub properties_file : List ℕ → List ℕ
properties_file name = path_of name file.Properties no_pixel

abbrev pub list_file : List ℕ → List ℕ
list_file name = path_of name file.List no_pixel

abbrev pub margin_properties_file : List ℕ → List ℕ
margin_properties_file name = path_of name file.MarginProperties no_pixel

abbrev pub margin_list_file : List ℕ → List ℕ
margin_list_file name = path_of name file.MarginList no_pixel

-- a partition's own file, or that of its margin, by the partition's number
abbrev pub rows_of_part : Bool → ℕ → JobFile
rows_of_part false part = file.Part part
rows_of_part true part = file.Margin part

-- its name: the pixel alone tells it
abbrev pub rows_file : List ℕ → Bool → Pixel → List ℕ
rows_file name margin pixel = path_of name (rows_of_part margin 0) pixel

-- bytes are a Parquet file whose five columns are those of these rows, which are good and ascend
pub record HoldsRows (bytes : List ℕ) (rows : List Row) : Type 0 where
  pub columns : HasColumns bytes column_names (columns_of_rows rows)
  pub good : All IsGood rows
  pub ascending : IsSorted row_cmp rows

-- the like of a file that is there
abbrev pub FileHolds : Option (List ℕ) → List Row → Type 0
FileHolds None rows = ⊥
FileHolds (Some bytes) rows = HoldsRows bytes rows

-- rows that may stand in a partition's own file lie in it; those of a margin lie anywhere
abbrev pub Belong : Bool → Pixel → List Row → Type 0
Belong false pixel rows = All (PixelContains pixel) rows
Belong true pixel rows = ⊤

-- what a partition's own file has, or that of its margin
pub record HasRows (folder : Folder) (name : List ℕ) (margin : Bool) (pixel : Pixel) (rows : List Row) : Type 0 where
  pub holds : FileHolds (folder (rows_file name margin pixel)) rows
  pub belong : Belong margin pixel rows

-- all rows of the own files of some partitions, or of their margins' files: one file after another
abbrev pub AreListed : Folder → List ℕ → Bool → List Pixel → List Row → Type 0
AreListed folder name margin [] rows = rows ≡ []
AreListed folder name margin (part ∷ parts) rows = (front : List Row) × (more : List Row)
    × HasRows folder name margin part front × AreListed folder name margin parts more × (rows ≡ front ++ more)
