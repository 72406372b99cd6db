-- The numbers of a job by its records: how many rows and partitions there are, and rows of margins.
use Rattle.std.proofs.Common.{◌≡◌, ◌<◌, ◌≤◌, ◌==◌, ◌+◌, ◌*◌, ◌-◌, ◌^◌, ◌∙◌, ◌∷◌, if◌then◌else◌, Bool, ℕ, suc, List, [], Ok, All, Contains, get_or, length, min, sum_by, refl, sym, ap, subst, inl, inr, arith}
use Rattle.std.proofs.Math.Nat.{min-eq_left, mul-le-mul_right}
use Rattle.std.proofs.lemmas.Bool.{cases_Bool}
use Rattle.std.proofs.lemmas.List.{length-map}
use Rattle.std.proofs.lemmas.List.Elements.{Contains-get_or}
use Rattle.std.proofs.lemmas.List.Sums.{sum_by-cons, sum_by-le}
use Rattle.std.proofs.lemmas.Option.{get_or_from_slice_get, slice_get_within}
use Rattle.hx_align.specs.Plans.{pixels_of}
use Rattle.hx_align.specs.declared.plan.PlanRow.{PlanRow}
use Rattle.hx_base.specs.Contents.{partition_rows}
use Rattle.hx_base.specs.Limits.{FitsLimits, most_rows}
use Rattle.hx_base.specs.Partitions.{holders_of}
use Rattle.hx_base.specs.Pixels.{count_in, pixel_of, rows_in}
use Rattle.hx_base.specs.declared.pixel.Pixel.{Pixel}
use Rattle.hx_base.specs.declared.refusal.JobFile.{JobFile}
use Rattle.hx_base.specs.declared.refusal.JobFile.TheVariants as file
use Rattle.hx_base.specs.declared.row.Row.{Row}
use Rattle.hx_base.specs.declared.task.Task.{Task}
use Rattle.hx_journal.specs.declared.record.Record.{Record}
use Rattle.hx_margin.proofs.Margins.{some_margin}
use Rattle.hx_rows.proofs.Few.{parquet-read}
use Rattle.hx_rows.specs.Parquet.{parquet_rows}
use Rattle.hx_spill.proofs.One.{margin_once}
use Rattle.hx_work.proofs.Sorted.{length_sorted}
use Rattle.hx_book.specs.Tasks.{AreParts, Follow, HasKind, IsCut, IsNext, IsTask, JobData, contents_of, count_of, names_of, task}
use Rattle.hx_book.specs.Values.{AreMargins, HasRows as RowsFile, IsFileOf, IsMarginFile, IsValue, OfPart, count_read, rows_in_file, rows_told}
use Rattle.hx_book.specs.Resumable.{HasNumber, done_of}
use Rattle.hx_book.proofs.Steps.{done_from}
use Rattle.hx_import.specs.Given.{HasMargins, HasRows}
use Rattle.hx_import.proofs.Cuts.{of_these}
use Rattle.hx_import.proofs.Margined.{EachOnce}
use Rattle.hx_import.proofs.Reduced.{all_good}
use Rattle.hx_book.specs.Books.{count_of_kind, of_kind, rows_of_kind}
use Rattle.hx_import.proofs.Totals.{count_ones, kind_in, told_together}

-- ---- the rows of all partitions

abbrev holds : Row → Pixel → Bool
holds row pixel = pixel_of pixel.order row.hp == pixel.number

-- one row more
counts_row : (row : Row) (rows : List Row) (pixel : Pixel) → count_in pixel (row ∷ rows) ≡ (if holds row pixel then 1 else 0) + count_in pixel rows
counts_row row rows pixel = elim (cases_Bool (pixel_of pixel.order row.hp == pixel.number)) [ inl is ↦ rw is (omega arith) | inr not ↦ rw not (omega arith) ]

counts_holders : (row : Row) (pixels : List Pixel) → sum_by (λ pixel. if holds row pixel then 1 else 0) pixels ≡ length (holders_of row.hp pixels)
counts_holders row [] = refl
counts_holders row (p ∷ ps) =
    let rest = counts_holders row ps in
    let first = sum_by-cons (λ pixel. if holds row pixel then 1 else 0) p ps in
    first ∙ elim (cases_Bool (pixel_of p.order row.hp == p.number)) [ inl is ↦ rw is (omega (arith, rest)) | inr not ↦ rw not (omega (arith, rest)) ]

sums_add : (f g h : Pixel → ℕ) (pixels : List Pixel) → ((p : Pixel) → h p ≡ f p + g p) → sum_by h pixels ≡ sum_by f pixels + sum_by g pixels
sums_add f g h [] same = refl
sums_add f g h (p ∷ ps) same = omega (arith, same p, sum_by-cons f p ps, sum_by-cons g p ps, sum_by-cons h p ps, sums_add f g h ps same)

no_counts : (pixels : List Pixel) → sum_by (λ pixel. count_in pixel []) pixels ≡ 0
no_counts [] = refl
no_counts (p ∷ ps) = omega (arith, sum_by-cons (λ pixel. count_in pixel []) p ps, no_counts ps)

pub all_counted : (rows : List Row) (pixels : List Pixel) → All (λ row. length (holders_of row.hp pixels) ≡ 1) rows → sum_by (λ pixel. count_in pixel rows) pixels ≡ length rows
all_counted [] pixels each = no_counts pixels
all_counted (row ∷ rows) pixels each =
    let rest = all_counted rows pixels (λ k d less. each (suc k) d (omega (arith, less))) in
    let one : length (holders_of row.hp pixels) ≡ 1 = each 0 row (omega arith) in
    let sum = sums_add (λ pixel. if holds row pixel then 1 else 0) (λ pixel. count_in pixel rows) (λ pixel. count_in pixel (row ∷ rows)) pixels (counts_row row rows) in
    omega (arith, rest, one, sum, counts_holders row pixels)

pub sorted_alike : (all : List Row) (pixels : List Pixel) → sum_by (λ pixel. length (partition_rows pixel all)) pixels ≡ sum_by (λ pixel. count_in pixel all) pixels
sorted_alike all [] = refl
sorted_alike all (p ∷ ps) = omega (arith, sum_by-cons (λ pixel. length (partition_rows pixel all)) p ps, sum_by-cons (λ pixel. count_in pixel all) p ps, length_sorted (rows_in p all), sorted_alike all ps)

-- each row lies in one partition
pub each_held : EachOnce → (job : JobData) (all : List Row) (plan : List PlanRow) → FitsLimits job.settings → IsCut job all plan → All (λ row. length (holders_of row.hp (pixels_of plan)) ≡ 1) all
each_held once job all plan limits cut =
    let s = job.settings in
    let good = all_good (names_of job) (contents_of job) all cut.read in
    once all s.lowest s.highest s.threshold (pixels_of plan) (λ k d less. (good k d less).pixel) limits.lowest (omega (arith, limits.highest)) cut.planned.fits cut.planned.partitions.partitions

pub rows_of_parts : EachOnce → (job : JobData) (all : List Row) (plan : List PlanRow) → FitsLimits job.settings → IsCut job all plan → sum_by (λ pixel. length (partition_rows pixel all)) (pixels_of plan) ≡ length all
rows_of_parts once job all plan limits cut = sorted_alike all (pixels_of plan) ∙ all_counted all (pixels_of plan) (each_held once job all plan limits cut)

-- ---- what records tell

-- a record of a kind of partitions: its number's value
record Tells (job : JobData) (r : Record) (asked : JobFile) : Type 0 where
  bytes : List ℕ
  value : IsFileOf job bytes asked
  rows : r.rows ≡ rows_in_file bytes asked

part_told : (job : JobData) (r : Record) → HasNumber job r → r.task.kind ≡ 4 → Tells job r (file.Part r.task.number)
part_told job r has own =
    let same : r.task ≡ task 4 r.task.number = ap (λ (k : ℕ). task k r.task.number) own in
    let value = subst (λ (t : Task). IsValue job t has.bytes) same has.value in
    let number = subst (λ (t : Task). r.rows ≡ rows_told t has.bytes) same has.number in
    record { bytes = has.bytes; value = value; rows = number }

margin_told : (job : JobData) (r : Record) → HasNumber job r → r.task.kind ≡ 6 → Tells job r (file.Margin r.task.number)
margin_told job r has own =
    let same : r.task ≡ task 6 r.task.number = ap (λ (k : ℕ). task k r.task.number) own in
    let value = subst (λ (t : Task). IsValue job t has.bytes) same has.value in
    let number = subst (λ (t : Task). r.rows ≡ rows_told t has.bytes) same has.number in
    record { bytes = has.bytes; value = value; rows = number }

counted_rows : (bytes : List ℕ) (rows : List Row) → parquet_rows bytes ≡ Ok rows → count_read length (parquet_rows bytes) ≡ length rows
counted_rows bytes rows is = ap (count_read length) is

abbrev pub any : Pixel
any = record { order = 0; number = 0 }

module _ (job : JobData) (all : List Row) (plan : List PlanRow) (cut : IsCut job all plan) (records : List Record) (follow : Follow job [] (done_of records)) (numbers : (r : Record) → Contains records r → HasNumber job r) where
  abbrev parts : List Pixel
  parts = pixels_of plan

  are : AreParts job parts
  are = record { rows = all; plan = plan; cut = cut; pixels = refl }

  -- the tasks of partitions
  part_task : (kind n : ℕ) → 4 ≤ kind → kind ≤ 6 → count_of (length job.inputs) (length parts) kind ≡ length parts → n < length parts → IsTask job (task kind n)
  part_task kind n low high count less = record { parts = parts; are_parts = λ by. are; numbered = subst (λ (m : ℕ). n < m) (sym count) less }

  of_part : (r : Record) → Contains records r → r.task.kind ≡ 4 → (r.task.number < length parts) × (r.rows ≡ length (partition_rows (get_or parts r.task.number any) all))
  unfolding IsFileOf rows_in_file
  of_part r among own =
      let told = part_told job r (numbers r among) own in
      let here = of_these job (λ all plan. OfPart plan r.task.number (λ part. RowsFile (partition_rows part all) told.bytes)) all plan cut told.value in
      let at : get_or (pixels_of plan) r.task.number any ≡ here.part = get_or_from_slice_get (pixels_of plan) r.task.number here.part any here.there in (
        slice_get_within (pixels_of plan) r.task.number here.part here.there,
        told.rows ∙ counted_rows told.bytes (partition_rows here.part all) here.holds.read ∙ ap (λ (p : Pixel). length (partition_rows p all)) (sym at),
      )

  abbrev margin_of : Pixel → List Row
  margin_of p = (some_margin p job.settings.margin_order all).0

  of_margin : (r : Record) → Contains records r → r.task.kind ≡ 6 → (r.task.number < length parts) × (r.rows ≡ length (margin_of (get_or parts r.task.number any)))
  unfolding IsFileOf rows_in_file
  of_margin r among own =
      let m = job.settings.margin_order in
      let told = margin_told job r (numbers r among) own in
      let here = of_these job (λ all plan. OfPart plan r.task.number (IsMarginFile job all told.bytes)) all plan cut told.value in
      let at : get_or (pixels_of plan) r.task.number any ≡ here.part = get_or_from_slice_get (pixels_of plan) r.task.number here.part any here.there in
      let some = some_margin here.part m all in
      let same : here.holds.margin ≡ some.0 = margin_once here.part m all here.holds.margin some.0 here.holds.are some.1 in (
        slice_get_within (pixels_of plan) r.task.number here.part here.there,
        told.rows ∙ counted_rows told.bytes here.holds.margin here.holds.file.read ∙ ap (length {A = Row}) same ∙ ap (λ (p : Pixel). length (some_margin p m all).0) (sym at),
      )

  module _ (limits : FitsLimits job.settings) (once : EachOnce) (whole : HasKind job (done_of records) 4) where
    done : (n : ℕ) → n < length parts → Contains (done_of records) (task 4 n)
    done n less = whole n (part_task 4 n (omega arith) (omega arith) refl less)

    pub rows_told_is : sum_by (λ (r : Record). r.rows) (of_kind 4 records) ≡ length all
    rows_told_is =
        told_together job 4 records follow (λ r. r.rows) (λ p. length (partition_rows p all)) parts any of_part done
        ∙ rows_of_parts once job all plan limits cut

    pub count_told_is : length (of_kind 4 records) ≡ length plan
    count_told_is =
        sym (count_ones (of_kind 4 records))
        ∙ told_together job 4 records follow (λ r. 1) (λ p. 1) parts any (λ r among own. ((of_part r among own).0, refl)) done
        ∙ count_ones parts
        ∙ length-map plan (λ (row : PlanRow). row.pixel)

  -- the margins, one after another
  margins_of : (rest : List PlanRow) → (margins : List (List Row)) × AreMargins job.settings.margin_order all rest margins × (sum_by length margins ≡ sum_by (λ p. length (margin_of p)) (pixels_of rest))
  margins_of [] = ([], tt, refl)
  margins_of (row ∷ rest) =
      let (margins, are, sum) = margins_of rest in
      let own = some_margin row.pixel job.settings.margin_order all in
      (own.0 ∷ margins, (own.1, are), omega (arith, sum, sum_by-cons (length {A = Row}) own.0 margins, sum_by-cons (λ p. length (margin_of p)) row.pixel (pixels_of rest)))

  pub margin_told_is : HasKind job (done_of records) 6
      → (margins : List (List Row)) × AreMargins job.settings.margin_order all plan margins × (sum_by (λ (r : Record). r.rows) (of_kind 6 records) ≡ sum_by length margins)
  margin_told_is whole =
      let (margins, are, sum) = margins_of plan in (
        margins,
        are,
        told_together job 6 records follow (λ r. r.rows) (λ p. length (margin_of p)) parts any of_margin (λ n less. whole n (part_task 6 n (omega arith) (omega arith) refl less))
            ∙ sym sum,
      )

  pub margin_count : HasKind job (done_of records) 6 → length (of_kind 6 records) ≡ length plan
  margin_count whole =
      sym (count_ones (of_kind 6 records))
      ∙ told_together job 6 records follow (λ r. 1) (λ p. 1) parts any (λ r among own. ((of_margin r among own).0, refl)) (λ n less. whole n (part_task 6 n (omega arith) (omega arith) refl less))
      ∙ count_ones parts
      ∙ length-map plan (λ (row : PlanRow). row.pixel)

-- ---- the numbers as they are told

few_rows : (bytes : List ℕ) (rows : List Row) → parquet_rows bytes ≡ Ok rows → length rows ≤ most_rows
few_rows bytes rows is = let r = (parquet-read bytes rows is).few in omega (arith, r)

-- records of a kind, none of which tells more rows than a file may have, tell together what a number holds
sum_small : (kind : ℕ) (records : List Record) → ((r : Record) → Contains records r → r.task.kind ≡ kind → r.rows ≤ most_rows) → length (of_kind kind records) ≤ 100000
    → min (sum_by (λ (r : Record). r.rows) (of_kind kind records)) (2 ^ 64 - 1) ≡ sum_by (λ (r : Record). r.rows) (of_kind kind records)
sum_small kind records each few =
    let all : All (λ (r : Record). r.rows ≤ most_rows) (of_kind kind records) = λ k d less.
    let (among, own) = kind_in kind records (get_or (of_kind kind records) k d) (Contains-get_or (of_kind kind records) k d less) in
    each (get_or (of_kind kind records) k d) among own in
    let most = sum_by-le (λ (r : Record). r.rows) most_rows (of_kind kind records) all in
    let product : length (of_kind kind records) * most_rows ≤ 100000 * most_rows = mul-le-mul_right most_rows few in
    min-eq_left (omega (arith, most, product))

module _ (job : JobData) (all : List Row) (plan : List PlanRow) (cut : IsCut job all plan) (records : List Record) (follow : Follow job [] (done_of records)) (numbers : (r : Record) → Contains records r → HasNumber job r) where
  small_part : (r : Record) → Contains records r → r.task.kind ≡ 4 → r.rows ≤ most_rows
  unfolding IsFileOf rows_in_file
  small_part r among own =
      let told = part_told job r (numbers r among) own in
      let here = of_these job (λ all plan. OfPart plan r.task.number (λ part. RowsFile (partition_rows part all) told.bytes)) all plan cut told.value in
      let few = few_rows told.bytes (partition_rows here.part all) here.holds.read in
      let is : r.rows ≡ length (partition_rows here.part all) = told.rows ∙ counted_rows told.bytes (partition_rows here.part all) here.holds.read in
      omega (arith, is, few)

  small_margin : (r : Record) → Contains records r → r.task.kind ≡ 6 → r.rows ≤ most_rows
  unfolding IsFileOf rows_in_file
  small_margin r among own =
      let told = margin_told job r (numbers r among) own in
      let here = of_these job (λ all plan. OfPart plan r.task.number (IsMarginFile job all told.bytes)) all plan cut told.value in
      let few = few_rows told.bytes here.holds.margin here.holds.file.read in
      let is : r.rows ≡ length here.holds.margin = told.rows ∙ counted_rows told.bytes here.holds.margin here.holds.file.read in
      omega (arith, is, few)

  pub has_margins : HasKind job (done_of records) 6 → HasMargins job (rows_of_kind 6 records) (length plan)
  has_margins whole =
      let (margins, are, sum) = margin_told_is job all plan cut records follow numbers whole in
      let count = margin_count job all plan cut records follow numbers whole in
      record { all = all; plan = plan; cut = cut; holds = (refl, margins, are, sum_small 6 records small_margin (omega (arith, count, cut.planned.few)) ∙ sum) }

  pub has_rows_of : FitsLimits job.settings → EachOnce → HasKind job (done_of records) 4 → HasRows job (rows_of_kind 4 records) (count_of_kind 4 records)
  has_rows_of limits once whole =
      let sum = rows_told_is job all plan cut records follow numbers limits once whole in
      let count = count_told_is job all plan cut records follow numbers limits once whole in
      let few : length (of_kind 4 records) ≤ 100000 = omega (arith, count, cut.planned.few) in
      record { all = all; plan = plan; cut = cut; holds = (sum_small 4 records small_part few ∙ sum, min-eq_left (omega (arith, few)) ∙ count) }

-- the plan of a job whose plan task is recorded
cut_recorded : (job : JobData) (records : List Record) → ((r : Record) → Contains records r → HasNumber job r) → Contains (done_of records) (task 2 0) → (all : List Row) × (plan : List PlanRow) × IsCut job all plan
unfolding IsFileOf
cut_recorded job records numbers among =
    let (r, there, same) = done_from records (task 2 0) among in
    let has = numbers r there in
    let value = subst (λ (t : Task). IsValue job t has.bytes) same has.value in
    (value.all, value.plan, value.cut)

-- how many rows and partitions there are, when all but the properties is recorded
pub rows_when_last : EachOnce → (job : JobData) (records : List Record) → FitsLimits job.settings → Follow job [] (done_of records) → ((r : Record) → Contains records r → HasNumber job r)
    → IsNext job (done_of records) (task 8 0) → HasRows job (rows_of_kind 4 records) (count_of_kind 4 records)
rows_when_last once job records limits follow numbers next =
    let plan_task : IsTask job (task 2 0) = record { parts = []; are_parts = λ by. absurd (omega (arith, by.0)); numbered = omega arith } in
    let (all, plan, cut) = cut_recorded job records numbers (next.in_turn 2 (omega arith) (omega arith) 0 plan_task) in
    has_rows_of job all plan cut records follow numbers limits once (next.in_turn 4 (omega arith) (omega arith))
