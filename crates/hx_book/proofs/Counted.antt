-- How many rows a file has as it reads.
use Rattle.std.proofs.Common.{◌≡◌, ◌∙◌, ℕ, List, Result, Ok, Err, IfOk, length, sym, ap, subst}
use Rattle.hx_align.specs.declared.plan.PlanRow.{PlanRow}
use Rattle.hx_base.specs.declared.refusal.JobFile.{JobFile}
use Rattle.hx_base.specs.declared.refusal.JobFile.TheVariants as file
use Rattle.hx_base.specs.declared.row.Row.{Row}
use Rattle.hx_hist.specs.Histograms.{Histogram, total_of}
use Rattle.hx_rows.specs.Parquet.{parquet_rows}
use Rattle.hx_spill.specs.Maps.{map_in}
use Rattle.hx_spill.specs.Plans.{plan_in}
use Rattle.hx_spill.specs.Splits.{split_in}
use Rattle.hx_spill.specs.declared.split.Placed.{Placed}
use Rattle.hx_book.specs.Recordings.{IsReadable}
use Rattle.hx_book.specs.Values.{count_read, rows_in_file}

counted : {X E F : Type 0} (read : Result X F) (f : X → ℕ) (r : Result ℕ E) → IfOk r (λ n. (x : X) → read ≡ Ok x → n ≡ f x) → IfOk r (λ n. ((x : X) × (read ≡ Ok x)) → n ≡ count_read f read)
counted read f (Ok n) h = λ (x, e). h x e ∙ ap (count_read f) (sym e)
counted read f (Err e) h = tt

module _ {E : Type 0} (bytes : List ℕ) (asked : JobFile) (r : Result ℕ E) where
  abbrev pub Counts : JobFile → Type 0
  Counts f = IfOk r (λ n. IsReadable bytes f → n ≡ rows_in_file bytes f)

  pub map_counted : (input : ℕ) → asked ≡ file.Map input → IfOk r (λ n. (hist : Histogram) → map_in bytes ≡ Ok hist → n ≡ total_of hist.pairs) → Counts asked
  unfolding rows_in_file
  map_counted input is h = subst Counts (sym is) (counted (map_in bytes) (λ (hist : Histogram). total_of hist.pairs) r h)

  pub plan_counted : asked ≡ file.Plan → IfOk r (λ n. (plan : List PlanRow) → plan_in bytes ≡ Ok plan → n ≡ length plan) → Counts asked
  unfolding rows_in_file
  plan_counted is h = subst Counts (sym is) (counted (plan_in bytes) length r h)

  pub split_counted : (input : ℕ) → asked ≡ file.Split input → IfOk r (λ n. (placed : List Placed) → split_in bytes ≡ Ok placed → n ≡ length placed) → Counts asked
  unfolding rows_in_file
  split_counted input is h = subst Counts (sym is) (counted (split_in bytes) length r h)

  pub part_counted : (number : ℕ) → asked ≡ file.Part number → IfOk r (λ n. (rows : List Row) → parquet_rows bytes ≡ Ok rows → n ≡ length rows) → Counts asked
  unfolding rows_in_file
  part_counted number is h = subst Counts (sym is) (counted (parquet_rows bytes) length r h)

  pub margin_split_counted : (number : ℕ) → asked ≡ file.MarginSplit number → IfOk r (λ n. (placed : List Placed) → split_in bytes ≡ Ok placed → n ≡ length placed) → Counts asked
  unfolding rows_in_file
  margin_split_counted number is h = subst Counts (sym is) (counted (split_in bytes) length r h)

  pub margin_counted : (number : ℕ) → asked ≡ file.Margin number → IfOk r (λ n. (rows : List Row) → parquet_rows bytes ≡ Ok rows → n ≡ length rows) → Counts asked
  unfolding rows_in_file
  margin_counted number is h = subst Counts (sym is) (counted (parquet_rows bytes) length r h)
