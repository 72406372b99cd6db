-- The file of a partition.
use Rattle.std.proofs.Common.{◌≡◌, ◌≤◌, ◌∷◌, ◌∙◌, if◌then◌else◌, Bool, true, false, ℕ, List, [], Some, Ok, Err, All, Contains, IfOk, length, slice_get, sym, ap, subst, arith}
use Rattle.std.proofs.lemmas.List.Elements.{All-append}
use Rattle.std.proofs.lemmas.Option.{get_or_from_slice_get, slice_get_within}
use Rattle.hx_align.specs.Plans.{pixels_of}
use Rattle.hx_align.specs.declared.plan.PlanRow.{PlanRow}
use Rattle.hx_base.specs.Contents.{partition_rows}
use Rattle.hx_base.specs.Limits.{FitsLimits, most_rows}
use Rattle.hx_base.specs.Pixels.{rows_in}
use Rattle.hx_base.specs.Rows.{IsGood, sorted_rows}
use Rattle.hx_base.specs.declared.pixel.Pixel.{Pixel}
use Rattle.hx_base.specs.declared.refusal.JobFile.TheVariants as file
use Rattle.hx_base.specs.declared.row.Row.{Row}
use Rattle.hx_inputs.specs.Inputs.{AreRows}
use Rattle.hx_rows.proofs.Few.{csv-read, parquet-read}
use Rattle.hx_rows.specs.Csv.{csv_rows}
use Rattle.hx_rows.specs.Parquet.{parquet_rows}
use Rattle.hx_rows.specs.Reading.{names_parquet, rows_of}
use Rattle.hx_work.specs.Work.{IsReduced, IsRowsFile, Work}
use Rattle.hx_work.specs.declared.refusal.WorkRefusal.{WorkRefusal}
use Rattle.hx_work.specs.declared.refusal.WorkRefusal.TheVariants as work
use Rattle.hx_work.proofs.Sorted.{good_sorted, length_sorted, rows_sorted}
use Rattle.hx_book.specs.Books.{JobMembers, job_of}
use Rattle.hx_book.specs.Tasks.{IsCut, JobData, contents_of, names_of, task}
use Rattle.hx_book.specs.Values.{HasRows, IsFileOf}
use Rattle.hx_book.proofs.Ones.{rows_same}
use Rattle.hx_import.specs.Given.{GathersFirst}
use Rattle.hx_import.specs.Made.{IsRefused, refusal_of}
use Rattle.hx_import.proofs.Counted.{all_first}

-- rows that were read are good
good_read : (name bytes : List ℕ) (rows : List Row) → rows_of name bytes ≡ Ok rows → All IsGood rows
unfolding rows_of
good_read name bytes rows is = by (names_parquet name) is
  where
    by : (b : Bool) → (if b then parquet_rows bytes else csv_rows bytes) ≡ Ok rows → All IsGood rows
    by true e = (parquet-read bytes rows e).good
    by false e = (csv-read bytes rows e).good

pub all_good : (names contents : List (List ℕ)) (rows : List Row) → AreRows names contents rows → All IsGood rows
all_good [] [] rows is = subst (All IsGood) (sym is) (λ i d less. absurd (omega (arith, less)))
all_good [] (c ∷ cs) rows is = absurd is
all_good (n ∷ ns) [] rows is = absurd is
all_good (n ∷ ns) (c ∷ cs) rows (first, rest, read, more, same) = subst (All IsGood) (sym same) (All-append IsGood first rest (good_read n c first read) (all_good ns cs rest more))

-- a file of sorted rows
pub has_rows : (rows : List Row) (bytes : List ℕ) → IsRowsFile (sorted_rows rows) bytes → All IsGood rows → length rows ≤ most_rows → HasRows (sorted_rows rows) bytes
has_rows rows bytes is good few = record { columns = is.columns; read = is.reads (omega (arith, few, length_sorted rows)); good = good_sorted rows good; ascending = rows_sorted rows }

-- a partition has no more rows than the threshold
pub few_in_part : (job : JobData) (all : List Row) (plan : List PlanRow) (number : ℕ) (part : Pixel) → IsCut job all plan → slice_get (pixels_of plan) number ≡ Some part → length (partition_rows part all) ≤ job.settings.threshold
few_in_part job all plan number part cut there =
    let among : Contains (pixels_of plan) part = (number, slice_get_within (pixels_of plan) number part there, get_or_from_slice_get (pixels_of plan) number part part there) in
    let is = (cut.planned.partitions.partitions.exact part).0 among in
    omega (arith, is.most, length_sorted (rows_in part all))

module _ (j : JobMembers) (limits : FitsLimits j.settings) (number : ℕ) (gathered : List Row) (good : All IsGood gathered)
    (first : j.premises → GathersFirst (job_of j) number (length j.origins) gathered) where
  pub reduced : (result : Work) → IsReduced gathered result → IfOk result (λ made. j.premises → IsFileOf (job_of j) made.items (file.Part number))
  unfolding IsFileOf
  reduced (Ok made) is = λ p.
      let job = job_of j in
      let g = first p in
      let h = g.holds in
      let part = h.holds in
      let same : g.rows ≡ h.all = rows_same (names_of job) (contents_of job) g.rows h.all (all_first j g.rows g.are) h.cut.read in
      let rows : sorted_rows gathered ≡ partition_rows part.part h.all = part.holds ∙ ap (partition_rows part.part) same in
      let few : length gathered ≤ most_rows = omega (arith, few_in_part job h.all h.plan number part.part h.cut part.there, limits.threshold_most, length_sorted gathered, ap (length {A = Row}) rows) in record {
        all = h.all;
        plan = h.plan;
        cut = h.cut;
        holds = record { part = part.part; there = part.there; holds = subst (λ (rs : List Row). HasRows rs made.items) rows (has_rows gathered made.items is good few) };
      }
  reduced (Err r) is = tt

  pub reduce_refused : (r : WorkRefusal) → IsReduced gathered (Err r) → IsRefused j (task 4 number) (refusal_of 0 r)
  reduce_refused work.Memory is = tt
  reduce_refused (work.Bad row why) is = absurd is
  reduce_refused (work.Changed pixel kept found) is = absurd is
  reduce_refused (work.Overfull pixel count) is = absurd is
  reduce_refused (work.TooMany found) is = absurd is
