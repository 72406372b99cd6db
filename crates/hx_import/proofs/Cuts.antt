-- The job's partitions by the plan's file, and the split of an input.
use Rattle.std.proofs.Common.{◌≡◌, ◌<◌, ◌∙◌, ℕ, List, Some, None, Ok, Err, All, IfOk, get_or, length, slice_get, ⊎_elim, refl, sym, ap, subst, arith, inr}
use Rattle.std.proofs.lemmas.List.Elements.{Contains-get_or}
use Rattle.std.proofs.lemmas.Option.{slice_get-get_or}
use Rattle.hx_align.specs.Plans.{pixels_of}
use Rattle.hx_align.specs.declared.plan.PlanRow.{PlanRow}
use Rattle.hx_base.specs.Limits.{FitsLimits}
use Rattle.hx_base.specs.declared.pixel.Pixel.{Pixel}
use Rattle.hx_base.specs.declared.refusal.JobFile.TheVariants as file
use Rattle.hx_base.specs.declared.refusal.SpillRefusal.{SpillRefusal}
use Rattle.hx_base.specs.declared.refusal.SpillRefusal.TheVariants as spill
use Rattle.hx_base.specs.declared.row.Row.{Row}
use Rattle.hx_base.specs.declared.settings.Settings.{Settings}
use Rattle.hx_base.specs.declared.task.Task.{Task}
use Rattle.hx_hist.specs.Histograms.{Histogram}
use Rattle.hx_rows.specs.Reading.{rows_of}
use Rattle.hx_spill.specs.Items.{Refuses}
use Rattle.hx_spill.specs.Maps.{map_in}
use Rattle.hx_spill.specs.Plans.{plan_in}
use Rattle.hx_spill.specs.Values.{AreCountsOf}
use Rattle.hx_work.specs.Work.{IsFirstChange, IsSplit, Work}
use Rattle.hx_work.specs.declared.refusal.WorkRefusal.{WorkRefusal}
use Rattle.hx_work.specs.declared.refusal.WorkRefusal.TheVariants as work
use Rattle.hx_book.specs.Books.{JobMembers, job_of}
use Rattle.hx_book.specs.Tasks.{AreParts, GoesByParts, IsCut, IsTask, JobData, task}
use Rattle.hx_book.specs.Values.{IsFileOf, OfCut}
use Rattle.hx_book.proofs.Ones.{cut_plans, cut_rows, parts_same}
use Rattle.hx_book.proofs.Parts.{count_by_parts}
use Rattle.hx_import.specs.Given.{AreOfInput, HasAskedOrder, IsCutFor}
use Rattle.hx_import.specs.Made.{IsRefused, refusal_of}
use Rattle.hx_import.proofs.Inputs.{is_bad, one_input, rows_are}

plan_reads : (job : JobData) (bytes : List ℕ) (e : SpillRefusal) → IsFileOf job bytes file.Plan → plan_in bytes ≡ Err e → ⊥
unfolding IsFileOf
plan_reads job bytes e value fault = let both : Ok value.plan ≡ Err e = sym value.holds ∙ fault in cc both

pub plan_undamaged : (job : JobData) (bytes : List ℕ) (place : ℕ) (e : SpillRefusal) → e ≡ spill.Damaged place → IsFileOf job bytes file.Plan → Refuses e (plan_in bytes) → ⊥
plan_undamaged job bytes place e is value = ⊎_elim (λ memory. cc (memory, is)) (plan_reads job bytes e value)

-- the plan that is read is the job's
pub cut_read : (job : JobData) (bytes : List ℕ) (plan : List PlanRow) → IsFileOf job bytes file.Plan → plan_in bytes ≡ Ok plan → (all : List Row) × IsCut job all plan
unfolding IsFileOf
cut_read job bytes plan value reads =
    let both : Ok value.plan ≡ Ok plan = sym value.holds ∙ reads in
    let same : value.plan ≡ plan = cc both in
    (value.all, subst (IsCut job value.all) same value.cut)

-- a plan's orders are those that were asked for
pub orders_of_cut : (job : JobData) (all : List Row) (plan : List PlanRow) → FitsLimits job.settings → IsCut job all plan → All (HasAskedOrder job.settings) (pixels_of plan)
orders_of_cut job all plan limits cut = λ i d less.
    let is = (cut.planned.partitions.partitions.exact (get_or (pixels_of plan) i d)).0 (Contains-get_or (pixels_of plan) i d less) in
    record { not_lower = is.not_lower; not_higher = is.not_higher; below = omega (arith, is.not_higher, limits.margin_least) }

pub asked_orders : (j : JobMembers) (s : Settings) → s ≡ j.settings → FitsLimits s → (bytes : List ℕ) (plan : List PlanRow) → IsFileOf (job_of j) bytes file.Plan → plan_in bytes ≡ Ok plan
    → All (HasAskedOrder s) (pixels_of plan)
asked_orders j s same fits bytes plan value reads =
    let (all, cut) = cut_read (job_of j) bytes plan value reads in
    subst (λ (t : Settings). All (HasAskedOrder t) (pixels_of plan)) (sym same) (orders_of_cut (job_of j) all plan (subst FitsLimits same fits) cut)

pub below_margin : (s : Settings) (parts : List Pixel) → All (HasAskedOrder s) parts → All (λ part. part.order < s.margin_order) parts
below_margin s parts asked = λ i d less. (asked i d less).below

pub cut_for : (j : JobMembers) (bytes : List ℕ) (plan : List PlanRow) (parts : List Pixel) → parts ≡ pixels_of plan → All (λ part. part.order < j.settings.margin_order) (pixels_of plan)
    → plan_in bytes ≡ Ok plan → (j.premises → IsFileOf (job_of j) bytes file.Plan) → IsCutFor j plan parts
cut_for j bytes plan parts same orders reads value = record {
  pixels = same;
  orders = subst (All (λ part. part.order < j.settings.margin_order)) (sym same) orders;
  cut = λ p. cut_read (job_of j) bytes plan (value p) reads;
}

-- what holds of a job's rows and plan holds of these
pub of_these : (job : JobData) (P : List Row → List PlanRow → Type 0) (all : List Row) (plan : List PlanRow) → IsCut job all plan → OfCut job P → P all plan
of_these job P all plan cut v =
    let rows = cut_rows job v.all all v.plan plan v.cut cut in
    let plans = cut_plans job v.all all v.plan plan v.cut cut in
    subst (λ (p : List PlanRow). P all p) plans (subst (λ (r : List Row). P r v.plan) rows v.holds)

-- a task of a partition has its pixel
pub part_there : (j : JobMembers) (plan : List PlanRow) (parts : List Pixel) (t : Task) → IsCutFor j plan parts → GoesByParts t.kind → j.premises → IsTask (job_of j) t → slice_get parts t.number ≡ None → ⊥
part_there j plan parts t cut by p is none =
    let job = job_of j in
    let (all, is_cut) = cut.cut p in
    let are : AreParts job parts = record { rows = all; plan = plan; cut = is_cut; pixels = cut.pixels } in
    let same : is.parts ≡ parts = parts_same job is.parts parts (is.are_parts by) are in
    let count = count_by_parts (length job.inputs) (length is.parts) t.kind by.0 by.1 in
    let within : t.number < length parts = omega (arith, is.numbered, count, ap (length {A = Pixel}) same) in
    let d : Pixel = record { order = 0; number = 0 } in
    let both : None ≡ Some (get_or parts t.number d) = sym none ∙ slice_get-get_or parts t.number d within in
    cc both

module _ (j : JobMembers) (number : ℕ) (name bytes map : List ℕ) (is : AreOfInput j number name bytes) (hist : Histogram) (reads : map_in map ≡ Ok hist)
    (value : j.premises → IsFileOf (job_of j) map (file.Map number)) (plan : List PlanRow) (parts : List Pixel) (cut : IsCutFor j plan parts) where
  pub split : (result : Work) → IsSplit (rows_of name bytes) hist (pixels_of plan) result → IfOk result (λ made. j.premises → IsFileOf (job_of j) made.items (file.Split number))
  unfolding IsFileOf
  split (Ok made) (rows, read, counts, is_split) = λ p.
      let (all, is_cut) = cut.cut p in
      record { all = all; plan = plan; cut = is_cut; holds = record { rows = rows; are = rows_are j number name bytes is rows p read; file = is_split } }
  split (Err r) h = tt

  -- counts that differ from those of the map
  unchanged : (rows : List Row) (pixel kept found : ℕ) → rows_of name bytes ≡ Ok rows → IsFirstChange hist.order hist rows pixel kept found → j.premises → ⊥
  unfolding IsFileOf
  unchanged rows pixel kept found read change p =
      let v = value p in
      let both : Ok v.file.hist ≡ Ok hist = sym v.file.reads ∙ reads in
      let same : v.file.hist ≡ hist = cc both in
      let own : v.rows ≡ rows = one_input (job_of j) number v.rows rows v.are (rows_are j number name bytes is rows p read) in
      let counts : AreCountsOf j.settings.highest rows hist = subst (λ (rs : List Row). AreCountsOf j.settings.highest rs hist) own (subst (AreCountsOf j.settings.highest v.rows) same v.file.value) in
      let here : AreCountsOf hist.order rows hist = subst (λ (k : ℕ). AreCountsOf k rows hist) (sym counts.order_is) counts in
      change.differ (change.kept_count ∙ here.counts pixel ∙ sym change.found_count)

  pub split_refused : (r : WorkRefusal) → IsSplit (rows_of name bytes) hist (pixels_of plan) (Err r) → IsRefused j (task 3 number) (refusal_of number r)
  split_refused work.Memory h = tt
  split_refused (work.Bad row why) h = (refl, inr refl, is_bad j number name bytes is row why h)
  split_refused (work.Changed pixel kept found) (rows, read, change) = (refl, refl, unchanged rows pixel kept found read change)
  split_refused (work.Overfull pixel count) h = absurd h
  split_refused (work.TooMany found) h = absurd h
