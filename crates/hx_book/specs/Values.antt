-- The value of each task, as what its file reads as: a filter or a sum over the rows of all inputs.
use Rattle.std.specs.Prelude.{◌≡◌, ◌∷◌, ℕ, List, [], All, IsSomeAnd, IsSorted, length, slice_get, Option, Some, None, Result, Ok, Err, false, true, sum_by}
use Rattle.hx_align.specs.Plans.{pixels_of}
use Rattle.hx_align.specs.declared.plan.PlanRow.{PlanRow}
use Rattle.hx_base.specs.Columns.{column_names, columns_of_rows}
use Rattle.hx_base.specs.Contents.{AreMarginRows, partition_rows}
use Rattle.hx_base.specs.Rows.{IsGood, row_cmp}
use Rattle.hx_base.specs.Tasks.{file_of}
use Rattle.hx_base.specs.declared.pixel.Pixel.{Pixel}
use Rattle.hx_base.specs.declared.refusal.JobFile.{JobFile}
use Rattle.hx_base.specs.declared.refusal.JobFile.TheVariants as file
use Rattle.hx_base.specs.declared.row.Row.{Row}
use Rattle.hx_base.specs.declared.task.Task.{Task}
use Rattle.hx_catalog.specs.Lists.{list_text}
use Rattle.hx_catalog.specs.Properties.{properties_text}
use Rattle.hx_catalog.specs.declared.properties.Properties.{Properties}
use Rattle.hx_hist.specs.Histograms.{Histogram, total_of}
use Rattle.hx_pqread.specs.Laws.{HasColumns}
use Rattle.hx_rows.specs.Parquet.{parquet_rows}
use Rattle.hx_rows.specs.Reading.{rows_of}
use Rattle.hx_spill.specs.Maps.{map_in}
use Rattle.hx_spill.specs.Plans.{plan_in}
use Rattle.hx_spill.specs.Splits.{split_in}
use Rattle.hx_spill.specs.Values.{IsMapFile, IsMarginSplitFile, IsSplitFile}
use Rattle.hx_book.specs.Tasks.{InputData, IsCut, JobData}

-- an input's rows, where it can be read
pub record AreRowsOf (job : JobData) (number : ℕ) (rows : List Row) : Type 0 where
  pub input : InputData
  pub there : slice_get job.inputs number ≡ Some input
  pub read : rows_of input.name input.bytes ≡ Ok rows

-- what holds of all rows and their plan, where the inputs can be read and cut
pub record OfCut (job : JobData) (P : List Row → List PlanRow → Type 0) : Type 0 where
  pub all : List Row
  pub plan : List PlanRow
  pub cut : IsCut job all plan
  pub holds : P all plan

-- what holds of the partition of a number
pub record OfPart (plan : List PlanRow) (number : ℕ) (P : Pixel → Type 0) : Type 0 where
  pub part : Pixel
  pub there : slice_get (pixels_of plan) number ≡ Some part
  pub holds : P part

-- a Parquet file has these rows in its five columns; they are good and ascend
pub record HasRows (rows : List Row) (bytes : List ℕ) : Type 0 where
  pub columns : HasColumns bytes column_names (columns_of_rows rows)
  pub read : parquet_rows bytes ≡ Ok rows
  pub good : All IsGood rows
  pub ascending : IsSorted row_cmp rows

-- the counts of an input's rows
pub record IsMapped (job : JobData) (number : ℕ) (bytes : List ℕ) : Type 0 where
  pub rows : List Row
  pub are : AreRowsOf job number rows
  pub file : IsMapFile job.settings.highest rows bytes

-- an input's rows by the partitions that contain them
pub record IsSplitOf (job : JobData) (number : ℕ) (parts : List Pixel) (bytes : List ℕ) : Type 0 where
  pub rows : List Row
  pub are : AreRowsOf job number rows
  pub file : IsSplitFile parts rows bytes

-- the rows of a partition's margin
pub record IsMarginFile (job : JobData) (all : List Row) (bytes : List ℕ) (part : Pixel) : Type 0 where
  pub margin : List Row
  pub are : AreMarginRows part job.settings.margin_order all margin
  pub file : HasRows margin bytes

-- the margins of partitions, in their order
abbrev pub AreMargins : (margin_order : ℕ) → (all : List Row) → List PlanRow → List (List Row) → Type 0
AreMargins margin_order all [] [] = Unit {0}
AreMargins margin_order all (row ∷ plan) (margin ∷ margins) = AreMarginRows row.pixel margin_order all margin × AreMargins margin_order all plan margins
AreMargins margin_order all [] (margin ∷ margins) = ⊥
AreMargins margin_order all (row ∷ plan) [] = ⊥

-- the catalogue's properties, and those of its margin catalogue
abbrev pub object_properties : JobData → List Row → List PlanRow → Properties
object_properties job all plan = record { settings = job.settings; margin = false; rows = length all; partitions = length plan }

abbrev pub margin_properties : JobData → List (List Row) → List PlanRow → Properties
margin_properties job margins plan = record { settings = job.settings; margin = true; rows = sum_by length margins; partitions = length plan }

pub record IsMarginText (job : JobData) (all : List Row) (plan : List PlanRow) (bytes : List ℕ) : Type 0 where
  pub margins : List (List Row)
  pub are : AreMargins job.settings.margin_order all plan margins
  pub text : bytes ≡ properties_text (margin_properties job margins plan)

-- the bytes of a file read as the value of its task
unfoldable pub IsFileOf : JobData → List ℕ → JobFile → Type 0
IsFileOf job bytes file.Journal = ⊥
IsFileOf job bytes (file.Map input) = IsMapped job input bytes
IsFileOf job bytes file.Plan = OfCut job (λ all plan. plan_in bytes ≡ Ok plan)
IsFileOf job bytes (file.Split input) = OfCut job (λ all plan. IsSplitOf job input (pixels_of plan) bytes)
IsFileOf job bytes (file.Part number) = OfCut job (λ all plan. OfPart plan number (λ part. HasRows (partition_rows part all) bytes))
IsFileOf job bytes (file.MarginSplit number) = OfCut job (λ all plan. OfPart plan number (λ part. IsMarginSplitFile (pixels_of plan) job.settings.margin_order (partition_rows part all) bytes))
IsFileOf job bytes (file.Margin number) = OfCut job (λ all plan. OfPart plan number (IsMarginFile job all bytes))
IsFileOf job bytes file.List = OfCut job (λ all plan. bytes ≡ list_text (pixels_of plan))
IsFileOf job bytes file.MarginList = OfCut job (λ all plan. bytes ≡ list_text (pixels_of plan))
IsFileOf job bytes file.MarginProperties = OfCut job (λ all plan. IsMarginText job all plan bytes)
IsFileOf job bytes file.Properties = OfCut job (λ all plan. bytes ≡ properties_text (object_properties job all plan))

-- bytes read as a task's value
abbrev pub IsValue : JobData → Task → List ℕ → Type 0
IsValue job t bytes = IsSomeAnd (file_of t) (IsFileOf job bytes)

-- how much was read
abbrev pub count_read : {X E : Type 0} → (X → ℕ) → Result X E → ℕ
count_read count (Ok x) = count x
count_read count (Err e) = 0

-- how many rows a file has as it reads, and partitions that of a plan; 0 for lists and properties
unfoldable pub rows_in_file : List ℕ → JobFile → ℕ
rows_in_file bytes file.Journal = 0
rows_in_file bytes (file.Map input) = count_read (λ (hist : Histogram). total_of hist.pairs) (map_in bytes)
rows_in_file bytes file.Plan = count_read length (plan_in bytes)
rows_in_file bytes (file.Split input) = count_read length (split_in bytes)
rows_in_file bytes (file.Part number) = count_read length (parquet_rows bytes)
rows_in_file bytes (file.MarginSplit number) = count_read length (split_in bytes)
rows_in_file bytes (file.Margin number) = count_read length (parquet_rows bytes)
rows_in_file bytes file.List = 0
rows_in_file bytes file.MarginList = 0
rows_in_file bytes file.MarginProperties = 0
rows_in_file bytes file.Properties = 0

abbrev pub rows_if : List ℕ → Option JobFile → ℕ
rows_if bytes None = 0
rows_if bytes (Some file) = rows_in_file bytes file

abbrev pub rows_told : Task → List ℕ → ℕ
rows_told t bytes = rows_if bytes (file_of t)
