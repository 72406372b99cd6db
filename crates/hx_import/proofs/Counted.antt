-- The counts of all inputs, and their plan.
use Rattle.std.proofs.Common.{◌≡◌, ◌≤◌, ◌<◌, ◌+◌, ◌-◌, ◌++◌, ◌∙◌, ℕ, List, [], Some, None, Ok, Err, IfOk, length, map, take, ⊎_elim, refl, sym, ap, subst, arith, inl, inr}
use Rattle.std.proofs.lemmas.List.{length-map, take_all}
use Rattle.std.proofs.lemmas.Bool.Decides.{nat_tests}
use Rattle.std.specs.Prelude.{nat_lt, if◌then◌else◌, Bool, true, false}
use Rattle.hx_align.specs.Plans.{totals_of}
use Rattle.hx_base.specs.Limits.{above, most_partitions}
use Rattle.hx_base.specs.declared.refusal.JobFile.TheVariants as file
use Rattle.hx_base.specs.declared.refusal.Refusal.TheVariants as refusal
use Rattle.hx_base.specs.declared.refusal.SpillRefusal.{SpillRefusal}
use Rattle.hx_base.specs.declared.refusal.SpillRefusal.TheVariants as spill
use Rattle.hx_base.specs.declared.row.Row.{Row}
use Rattle.hx_base.specs.declared.settings.Settings.{Settings}
use Rattle.hx_hist.specs.Histograms.{Histogram, total_of}
use Rattle.hx_inputs.specs.Inputs.{AreRows}
use Rattle.hx_spill.specs.Items.{Refuses}
use Rattle.hx_spill.specs.Maps.{map_in}
use Rattle.hx_spill.specs.Values.{AreCountsOf, IsSumOf}
use Rattle.hx_spill.proofs.Counted.{counts_more, counts_none}
use Rattle.hx_work.specs.Work.{IsPlanned, IsPlannedFor, Work}
use Rattle.hx_work.specs.declared.refusal.WorkRefusal.{WorkRefusal}
use Rattle.hx_work.specs.declared.refusal.WorkRefusal.TheVariants as work
use Rattle.hx_book.specs.Books.{IsNotCut, JobMembers, job_of}
use Rattle.hx_book.specs.Tasks.{AreAllRows, JobData, InputData, contents_of, names_of, task}
use Rattle.hx_book.specs.Values.{IsFileOf}
use Rattle.hx_book.proofs.Keeping.{inputs_are}
use Rattle.hx_import.specs.Given.{AreFirstRows, AreRowsBetween, CountsBetween, CountsFirst}
use Rattle.hx_import.specs.Made.{IsRefused, refusal_of}
use Rattle.hx_import.proofs.Inputs.{own_rows}
use Rattle.hx_import.proofs.Ranged.{are_first, both_rows, no_rows}

-- the order of a map file
pub order_of_map : (job : JobData) (bytes : List ℕ) (number : ℕ) (hist : Histogram) → IsFileOf job bytes (file.Map number) → map_in bytes ≡ Ok hist → hist.order ≡ job.settings.highest
unfolding IsFileOf
order_of_map job bytes number hist value reads =
    let both : Ok value.file.hist ≡ Ok hist = sym value.file.reads ∙ reads in
    let same : value.file.hist ≡ hist = cc both in
    subst (λ (h : Histogram). h.order ≡ job.settings.highest) same value.file.value.order_is

map_reads : (job : JobData) (bytes : List ℕ) (number : ℕ) (e : SpillRefusal) → IsFileOf job bytes (file.Map number) → map_in bytes ≡ Err e → ⊥
unfolding IsFileOf
map_reads job bytes number e value fault = let both : Ok value.file.hist ≡ Err e = sym value.file.reads ∙ fault in cc both

pub map_undamaged : (job : JobData) (bytes : List ℕ) (number place : ℕ) (e : SpillRefusal) → e ≡ spill.Damaged place → IsFileOf job bytes (file.Map number) → Refuses e (map_in bytes) → ⊥
map_undamaged job bytes number place e is value = ⊎_elim (λ memory. cc (memory, is)) (map_reads job bytes number e value)

-- counts of no inputs
pub none_counted : (job : JobData) (n : ℕ) → CountsBetween job n n (record { order = job.settings.highest; pairs = [] })
none_counted job n = record { rows = []; are = no_rows job n; counts = counts_none job.settings.highest }

-- a histogram of no rows counts them
module _ (j : JobMembers) (s : Settings) (same : s ≡ j.settings) (hist : Histogram) (is : hist ≡ record { order = s.highest; pairs = [] }) where
  empty : hist ≡ record { order = j.settings.highest; pairs = [] }
  empty = is ∙ ap (λ (t : Settings). record { order = t.highest; pairs = [] }) same

  pub empty_order : hist.order ≡ j.settings.highest
  empty_order = ap (λ (h : Histogram). h.order) empty

  pub empty_total : (most : ℕ) → total_of hist.pairs ≤ most
  empty_total most = let none : total_of hist.pairs ≡ 0 = ap (λ (h : Histogram). total_of h.pairs) empty in omega (arith, none)

  pub empty_counted : (from to : ℕ) → from ≤ to → to - from ≡ 0 → CountsBetween (job_of j) from to hist
  empty_counted from to low none =
      let at : from ≡ to = omega (arith, low, none) in
      subst (λ (n : ℕ). CountsBetween (job_of j) from n hist) at (subst (λ (h : Histogram). CountsBetween (job_of j) from from h) (sym empty) (none_counted (job_of j) from))

-- of one input
pub one_counted : (job : JobData) (n : ℕ) (bytes : List ℕ) (map : Histogram) → IsFileOf job bytes (file.Map n) → map_in bytes ≡ Ok map → CountsBetween job n (n + 1) map
unfolding IsFileOf
one_counted job n bytes map value reads =
    let both : Ok value.file.hist ≡ Ok map = sym value.file.reads ∙ reads in
    let same : value.file.hist ≡ map = cc both in
    record { rows = value.rows; are = own_rows job n value.rows value.are; counts = subst (AreCountsOf job.settings.highest value.rows) same value.file.value }

-- and of inputs behind others
pub both_counted : (job : JobData) (from mid to : ℕ) (a b both : Histogram) → from ≤ mid → mid ≤ to → CountsBetween job from mid a → CountsBetween job mid to b
    → IsSumOf job.settings.highest a b both → CountsBetween job from to both
both_counted job from mid to a b both low high first next sum = record {
  rows = first.rows ++ next.rows;
  are = both_rows job from mid to first.rows next.rows low high first.are next.are;
  counts = counts_more job.settings.highest first.rows next.rows a b both first.counts next.counts sum;
}

-- the rows of as many inputs as there are
pub all_first : (j : JobMembers) (rows : List Row) → AreFirstRows (job_of j) (length j.origins) rows → AreAllRows (job_of j) rows
all_first j rows are =
    let job = job_of j in
    let count = inputs_are j in
    let names : take (length j.origins) (names_of job) ≡ names_of job = take_all (length j.origins) (names_of job) (omega (arith, count, length-map job.inputs (λ (i : InputData). i.name))) in
    let contents : take (length j.origins) (contents_of job) ≡ contents_of job = take_all (length j.origins) (contents_of job) (omega (arith, count, length-map job.inputs (λ (i : InputData). i.bytes))) in
    subst (λ (cs : List (List ℕ)). AreRows (names_of job) cs rows) contents (subst (λ (ns : List (List ℕ)). AreRows ns (take (length j.origins) (contents_of job)) rows) names are)

all_between : (j : JobMembers) (rows : List Row) → AreRowsBetween (job_of j) 0 (length j.origins) rows → AreAllRows (job_of j) rows
all_between j rows are = all_first j rows (are_first (job_of j) (length j.origins) rows are)

many : (found : ℕ) (n : ℕ) → n ≡ found → most_partitions < found → Some (refusal.TooMany 3 found most_partitions) ≡ above 3 most_partitions n
many found n same more = by (nat_lt most_partitions n) refl
  where
    by : (b : Bool) → nat_lt most_partitions n ≡ b → Some (refusal.TooMany 3 found most_partitions) ≡ (if b then Some (refusal.TooMany 3 n most_partitions) else None)
    by true is = ap (λ (k : ℕ). Some (refusal.TooMany 3 k most_partitions)) (sym same)
    by false is = absurd (grind (arith, nat_tests, is, same, more))

-- what is planned of counts
abbrev pub Plans : Settings → Histogram → Work → Type 0
Plans s hist result = (rows : List Row) → AreCountsOf s.highest rows hist → IsPlannedFor s.lowest s.highest s.threshold rows result

module _ (j : JobMembers) (hist : Histogram) (counts : j.premises → CountsFirst (job_of j) (length j.origins) hist) (s : Settings) (same : s ≡ j.settings) where
  pub planned : (result : Work) → Plans s hist result → IfOk result (λ made. j.premises → IsFileOf (job_of j) made.items file.Plan)
  unfolding IsFileOf
  planned (Ok made) is = λ p.
      let first = counts p in
      let plan = subst (λ (t : Settings). Plans t hist (Ok made)) same is first.rows first.counts in
      record { all = first.rows; plan = plan.plan; cut = record { read = all_between j first.rows first.are; planned = plan.value }; holds = plan.reads }
  planned (Err r) is = tt

  pub plan_refused : (r : WorkRefusal) → IsPlanned (totals_of hist) s.lowest s.highest s.threshold (Err r) → Plans s hist (Err r) → IsRefused j (task 2 0) (refusal_of 0 r)
  plan_refused work.Memory h is = tt
  plan_refused (work.Bad row why) h is = absurd h
  plan_refused (work.Changed pixel kept found) h is = absurd h
  plan_refused (work.Overfull pixel found) h is = (refl, not_cut)
    where
      not_cut : j.premises → IsNotCut j (refusal.Overfull pixel found)
      not_cut p =
          let first = counts p in
          let why = subst (λ (t : Settings). Plans t hist (Err (work.Overfull pixel found))) same is first.rows first.counts in
          record { rows = first.rows; are = all_between j first.rows first.are; refused = inl (pixel, why.0, ap (λ (n : ℕ). Some (refusal.Overfull pixel n)) why.1) }
  plan_refused (work.TooMany found) h is = (refl, refl, not_cut)
    where
      not_cut : j.premises → IsNotCut j (refusal.TooMany 3 found most_partitions)
      not_cut p =
          let first = counts p in
          let (fits, has, more) = subst (λ (t : Settings). Plans t hist (Err (work.TooMany found))) same is first.rows first.counts in
          record { rows = first.rows; are = all_between j first.rows first.are; refused = inr (fits, has.pixels, has.partitions, many found (length has.pixels) has.number more) }
