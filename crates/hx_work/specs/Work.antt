-- What each task of an import answers, by what it was given: the file of its value, or why there is none. Only want of memory is free to
-- come in place of either.
use Rattle.std.specs.Prelude.{◌≡◌, ◌≢◌, ◌<◌, ◌≤◌, ⊤, ℕ, List, Result, Ok, Err, Vec, length}
use Rattle.std.specs.declared.alloc.Global.{Global}
use Rattle.hx_align.specs.Plans.{HasPartitions, IsPlanOf}
use Rattle.hx_align.specs.declared.plan.PlanRow.{PlanRow}
use Rattle.hx_align.specs.declared.refusal.AlignRefusal.{AlignRefusal}
use Rattle.hx_align.specs.declared.refusal.AlignRefusal.TheVariants as align_refusal
use Rattle.hx_base.specs.Columns.{column_names, columns_of_rows}
use Rattle.hx_base.specs.Limits.{most_partitions, most_rows}
use Rattle.hx_base.specs.Partitions.{IsFirstOverfull, NothingOverfull}
use Rattle.hx_base.specs.Pixels.{count_in}
use Rattle.hx_base.specs.Rows.{sorted_rows}
use Rattle.hx_base.specs.declared.pixel.Pixel.{Pixel}
use Rattle.hx_base.specs.declared.row.Row.{Row}
use Rattle.hx_hist.specs.Histograms.{Histogram, count_at}
use Rattle.hx_hist.specs.declared.hist.difference.Difference.{Difference}
use Rattle.hx_pqread.specs.Laws.{HasColumns}
use Rattle.hx_rows.specs.Parquet.{parquet_rows}
use Rattle.hx_rows.specs.declared.read.RowRefusal.{RowRefusal}
use Rattle.hx_rows.specs.declared.read.RowRefusal.TheVariants as row_refusal
use Rattle.hx_spill.specs.Plans.{plan_in}
use Rattle.hx_spill.specs.Values.{AreCountsOf, IsMapFile, IsPlanFile, IsSplitFile}
use Rattle.hx_work.specs.declared.refusal.WorkRefusal.{WorkRefusal}
use Rattle.hx_work.specs.declared.refusal.WorkRefusal.TheVariants as refusal

-- the bytes of a task's file, or why there is none
abbrev pub Work : Type 0
Work = Result (Vec ℕ Global) WorkRefusal

-- a refusal of an input's rows, of an alignment, and of counts that differ, as a task's
abbrev pub of_rows : RowRefusal → WorkRefusal
of_rows row_refusal.Memory = refusal.Memory
of_rows (row_refusal.Bad row why) = refusal.Bad row why

abbrev pub of_alignment : AlignRefusal → WorkRefusal
of_alignment (align_refusal.Overfull pixel count) = refusal.Overfull pixel count
of_alignment (align_refusal.TooMany found) = refusal.TooMany found
of_alignment align_refusal.Memory = refusal.Memory

abbrev pub of_difference : Difference → WorkRefusal
of_difference difference = refusal.Changed difference.pixel difference.kept difference.found

-- ---- map

-- an input is mapped: a file of the counts of its rows, or its first fault
abbrev pub IsMapped : (order : ℕ) → (read : Result (List Row) (ℕ × ℕ)) → Work → Type 0
IsMapped order read (Ok bytes) = (rows : List Row) × (read ≡ Ok rows) × IsMapFile order rows bytes.items
IsMapped order read (Err refusal.Memory) = ⊤
IsMapped order read (Err (refusal.Bad row why)) = read ≡ Err (row, why)
IsMapped order read (Err _) = ⊥

-- ---- plan

-- Counts of rows by pixel are planned: a file of all partitions with their counts, where no pixel is overfull and there are at most so many
-- partitions as a catalogue may have. Else the first overfull pixel with its count; or, where none is, how many partitions there are
abbrev pub IsPlanned : (count : Pixel → ℕ) → (lowest highest threshold : ℕ) → Work → Type 0
IsPlanned count lowest highest threshold (Ok bytes) =
    (plan : List PlanRow) × (plan_in bytes.items ≡ Ok plan) × NothingOverfull count highest threshold × IsPlanOf count lowest highest threshold plan × (length plan ≤ most_partitions)
IsPlanned count lowest highest threshold (Err refusal.Memory) = ⊤
IsPlanned count lowest highest threshold (Err (refusal.Overfull pixel found)) = IsFirstOverfull count highest threshold pixel × (found ≡ count (record { order = highest; number = pixel }))
IsPlanned count lowest highest threshold (Err (refusal.TooMany found)) = NothingOverfull count highest threshold × HasPartitions count lowest highest threshold found × (most_partitions < found)
IsPlanned count lowest highest threshold (Err _) = ⊥

-- the same of rows
abbrev pub IsPlannedFor : (lowest highest threshold : ℕ) → List Row → Work → Type 0
IsPlannedFor lowest highest threshold rows (Ok bytes) = IsPlanFile lowest highest threshold rows bytes.items
IsPlannedFor lowest highest threshold rows (Err refused) = IsPlanned (λ pixel. count_in pixel rows) lowest highest threshold (Err refused)

-- ---- split

-- the first pixel of an order that a histogram counts otherwise than rows do, with both counts
pub record IsFirstChange (order : ℕ) (map : Histogram) (rows : List Row) (pixel kept found : ℕ) : Type 0 where
  pub kept_count : kept ≡ count_at pixel map.pairs
  pub found_count : found ≡ count_in (record { order = order; number = pixel }) rows
  pub differ : kept ≢ found
  pub first : (lower : ℕ) → lower < pixel → count_at lower map.pairs ≡ count_in (record { order = order; number = lower }) rows

-- rows are those that were mapped, or the first change of counts is told
abbrev pub IsChecked : (map : Histogram) → List Row → Result ⊤ WorkRefusal → Type 0
IsChecked map rows (Ok done) = AreCountsOf map.order rows map
IsChecked map rows (Err refusal.Memory) = ⊤
IsChecked map rows (Err (refusal.Changed pixel kept found)) = IsFirstChange map.order map rows pixel kept found
IsChecked map rows (Err _) = ⊥

-- An input is split: a file of its rows by the partitions that contain them, where its rows are those that were mapped. Else its first
-- fault; or, where it has none, the first change of counts
abbrev pub IsSplit : (read : Result (List Row) (ℕ × ℕ)) → (map : Histogram) → (parts : List Pixel) → Work → Type 0
IsSplit read map parts (Ok bytes) = (rows : List Row) × (read ≡ Ok rows) × AreCountsOf map.order rows map × IsSplitFile parts rows bytes.items
IsSplit read map parts (Err refusal.Memory) = ⊤
IsSplit read map parts (Err (refusal.Bad row why)) = read ≡ Err (row, why)
IsSplit read map parts (Err (refusal.Changed pixel kept found)) = (rows : List Row) × (read ≡ Ok rows) × IsFirstChange map.order map rows pixel kept found
IsSplit read map parts (Err _) = ⊥

-- ---- reduce

-- bytes that read as rows: a Parquet file that has the five columns, and from which the rows are read
pub record IsRowsFile (rows : List Row) (bytes : List ℕ) : Type 0 where
  pub columns : HasColumns bytes column_names (columns_of_rows rows)
  pub reads : length rows ≤ most_rows → parquet_rows bytes ≡ Ok rows

-- the rows that were gathered for a partition are reduced: a file of them, sorted
abbrev pub IsReduced : List Row → Work → Type 0
IsReduced rows (Ok bytes) = IsRowsFile (sorted_rows rows) bytes.items
IsReduced rows (Err refusal.Memory) = ⊤
IsReduced rows (Err _) = ⊥
