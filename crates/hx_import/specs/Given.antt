-- What the tasks of an import work on, in the words of the job: under its premises, and where these don't hold what can be known all the same.
use Rattle.std.specs.Prelude.{◌≡◌, ◌<◌, ◌≤◌, ℕ, List, All, IfSome, IsSome, Ok, Some, length, slice_get, sum_by, take}
use Rattle.std.specs.List.{flat_map, slice_range}
use Rattle.hx_align.specs.Plans.{pixels_of}
use Rattle.hx_align.specs.declared.plan.PlanRow.{PlanRow}
use Rattle.hx_base.specs.Contents.{partition_rows}
use Rattle.hx_base.specs.FileWords.{IsFileWord}
use Rattle.hx_base.specs.Rows.{sorted_rows}
use Rattle.hx_base.specs.declared.pixel.Pixel.{Pixel}
use Rattle.hx_base.specs.declared.row.Row.{Row}
use Rattle.hx_base.specs.declared.settings.Settings.{Settings}
use Rattle.hx_book.specs.Books.{JobMembers, Origin, job_of}
use Rattle.hx_book.specs.Tasks.{IsCut, JobData, contents_of, names_of}
use Rattle.hx_book.specs.Values.{AreMargins, OfCut, OfPart}
use Rattle.hx_hist.specs.Histograms.{Histogram}
use Rattle.hx_inputs.specs.Inputs.{AreRows}
use Rattle.hx_margin.specs.Slices.{AreSlices}
use Rattle.hx_rows.specs.Reading.{rows_of}
use Rattle.hx_spill.specs.Splits.{split_in}
use Rattle.hx_spill.specs.Values.{AreCountsOf}
use Rattle.hx_spill.specs.declared.split.Placed.{Placed}

-- under the premises the inputs tell their bytes
abbrev pub InputsTell : JobMembers → Type 0
InputsTell j = j.premises → (number : ℕ) (origin : Origin) → slice_get j.origins number ≡ Some origin → IsSome origin.told

-- bytes under a name are those of an input, as far as it tells them, and under the premises it does
pub record AreOfInput (j : JobMembers) (number : ℕ) (name bytes : List ℕ) : Type 0 where
  pub origin : Origin
  pub there : slice_get j.origins number ≡ Some origin
  pub word : IsFileWord origin.label
  pub name_is : name ≡ origin.label
  pub bytes_are : IfSome origin.told (λ told. bytes ≡ told)
  pub told : j.premises → IsSome origin.told

-- the rows of the first inputs, one input after another
abbrev pub AreFirstRows : JobData → ℕ → List Row → Type 0
AreFirstRows job n rows = AreRows (take n (names_of job)) (take n (contents_of job)) rows

-- the rows of the inputs from one number up to another, one input after another
abbrev pub AreRowsBetween : JobData → (from to : ℕ) → List Row → Type 0
AreRowsBetween job from to rows = AreRows (slice_range (names_of job) from to) (slice_range (contents_of job) from to) rows

-- a histogram counts the rows of the inputs from one number up to another
pub record CountsBetween (job : JobData) (from to : ℕ) (hist : Histogram) : Type 0 where
  pub rows : List Row
  pub are : AreRowsBetween job from to rows
  pub counts : AreCountsOf job.settings.highest rows hist

-- and those of the first inputs
abbrev pub CountsFirst : JobData → ℕ → Histogram → Type 0
CountsFirst job n hist = CountsBetween job 0 n hist

-- the order of a partition lies within those that were asked for, and below the margin order
pub record HasAskedOrder (settings : Settings) (part : Pixel) : Type 0 where
  pub not_lower : settings.lowest ≤ part.order
  pub not_higher : part.order ≤ settings.highest
  pub below : part.order < settings.margin_order

-- the job's partitions, with a list of their pixels: their orders are below the margin order
pub record IsCutFor (j : JobMembers) (plan : List PlanRow) (parts : List Pixel) : Type 0 where
  pub pixels : parts ≡ pixels_of plan
  pub orders : All (λ part. part.order < j.settings.margin_order) parts
  pub cut : j.premises → (all : List Row) × IsCut (job_of j) all plan

-- a split file has as many rows as the input
abbrev pub HasAllRows : (name bytes file : List ℕ) → Type 0
HasAllRows name bytes file = (rows : List Row) → rows_of name bytes ≡ Ok rows → (placed : List Placed) × (split_in file ≡ Ok placed) × (length placed ≡ length rows)

-- what was gathered is, sorted, the rows of the first inputs that a partition contains
pub record GathersFirst (job : JobData) (number n : ℕ) (gathered : List Row) : Type 0 where
  pub rows : List Row
  pub are : AreFirstRows job n rows
  pub holds : OfCut job (λ all plan. OfPart plan number (λ part. sorted_rows gathered ≡ partition_rows part rows))

-- what was gathered is what the first of some partitions have of the margin of one
pub record GathersSlices (job : JobData) (part : Pixel) (parts : List Pixel) (all : List Row) (numbers : List ℕ) (gathered : List Row) : Type 0 where
  pub slices : List (List Row)
  pub are : AreSlices parts part job.settings.margin_order all numbers slices
  pub gathered_are : gathered ≡ flat_map (λ slice. slice) slices

abbrev pub GathersAround : JobData → (number : ℕ) → (numbers : List ℕ) → (gathered : List Row) → Type 0
GathersAround job number numbers gathered = OfCut job (λ all plan. OfPart plan number (λ part. GathersSlices job part (pixels_of plan) all numbers gathered))

-- how many rows and partitions a job has, and rows of margins
abbrev pub HasRows : JobData → (rows partitions : ℕ) → Type 0
HasRows job rows partitions = OfCut job (λ all plan. (rows ≡ length all) × (partitions ≡ length plan))

abbrev pub HasMargins : JobData → (margin partitions : ℕ) → Type 0
HasMargins job margin partitions = OfCut job (λ all plan. (partitions ≡ length plan) × (margins : List (List Row)) × AreMargins job.settings.margin_order all plan margins × (margin ≡ sum_by length margins))
