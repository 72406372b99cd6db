-- What runs of calls leave, one after another.
use Rattle.std.proofs.Common.{◌≡◌, ◌≢◌, ◌∙◌, ◌≤◌, ◌⊎◌, ℕ, List, Some, Result, Ok, Err, IfErr, IfOk, OnErr, refl, sym, subst, arith, inl, inr, ⊎_elim}
use Rattle.hx_outside.specs.Disk.{DiskMembers, IsStable, Passes}
use Rattle.hx_outside.specs.Faults.{HasFailed}
use Rattle.hx_outside.specs.Folders.{Folder, Same, SameBut, SameButBoth, Step}
use Rattle.hx_outside.proofs.Runs.{goes_on, joined, weaker}
use Rattle.hx_publish.specs.Publishing.{HasInEach, Publishes}
use Rattle.hx_xmatch.specs.Outcomes.{LeavesText}
use Rattle.hx_xmatch.specs.Output.{output_file, temporary_file}

pub but_refl : (name : List ℕ) (f : Folder) → SameBut name f f
but_refl name f n apart = refl

pub publishes_refl : (tmp name bytes : List ℕ) (f : Folder) → Publishes tmp name bytes f f
publishes_refl tmp name bytes f = record { others = λ n a b. refl; there = inl refl }

-- only the temporary file changed
pub only_tmp : (tmp name bytes : List ℕ) → tmp ≢ name → (f g : Folder) → SameBut tmp f g → Publishes tmp name bytes f g
only_tmp tmp name bytes apart f g same = record { others = λ n a b. same n a; there = inl (same name (λ e. apart (sym e))) }

-- a failure since a later moment is one since an earlier one
pub failed_since : {S : Type 0} (faults : S → ℕ) (old mid new : S) → faults old ≤ faults mid → HasFailed faults mid new → HasFailed faults old new
failed_since faults old mid new le rose = omega (arith, le, rose)

module _ {S : Type 0} (d : DiskMembers S) (old : S) (tells : d.tells old) where
  -- nothing changed, and then a step was taken
  pub after_same : (mid new : S) (step : Step) → ((f : Folder) → step f f) → Passes d old mid Same → Passes d mid new step → Passes d old new step
  after_same mid new step idle run call =
      joined d old mid new Same step step tells run call (λ f g was same. subst (step f) (sym same) (idle f)) (λ f g h was same now taken. subst (λ (k : Folder). step k h) same taken)

  pub same_is_but : (new : S) (name : List ℕ) → Passes d old new Same → Passes d old new (SameBut name)
  same_is_but new name run = weaker d old new Same (SameBut name) run (λ f g was same n apart. λ i. same i n) tells

  pub but_twice : (mid new : S) (name : List ℕ) → Passes d old mid (SameBut name) → Passes d mid new (SameBut name) → Passes d old new (SameBut name)
  but_twice mid new name run call = goes_on d old mid new (SameBut name) (SameBut name) tells run call (λ f g h was p now q n apart. q n apart ∙ p n apart)

  pub same_then_but : (mid new : S) (name : List ℕ) → Passes d old mid Same → Passes d mid new (SameBut name) → Passes d old new (SameBut name)
  same_then_but mid new name run call = after_same mid new (SameBut name) (but_refl name) run call

  pub but_then_same : (mid new : S) (name : List ℕ) → Passes d old mid (SameBut name) → Passes d mid new Same → Passes d old new (SameBut name)
  but_then_same mid new name run call = goes_on d old mid new (SameBut name) Same tells run call (λ f g h was p now same n apart. (λ i. same i n) ∙ p n apart)

  -- the temporary file was written, and then published
  pub but_then_published : (mid new : S) (tmp name bytes : List ℕ) → tmp ≢ name → Passes d old mid (SameBut tmp) → Passes d mid new (Publishes tmp name bytes) → Passes d old new (Publishes tmp name bytes)
  but_then_published mid new tmp name bytes apart run call =
      joined d old mid new (SameBut tmp) (Publishes tmp name bytes) (Publishes tmp name bytes) tells run call
      (λ f g was p. only_tmp tmp name bytes apart f g p)
      (λ f g h was p now q. record {
        others = λ n a b. q.others n a b ∙ p n a;
        there = ⊎_elim (λ e. inl (e ∙ p name (λ is. apart (sym is)))) (λ e. inr e) q.there;
      })

  pub same_then_published : (mid new : S) (tmp name bytes : List ℕ) → Passes d old mid Same → Passes d mid new (Publishes tmp name bytes) → Passes d old new (Publishes tmp name bytes)
  same_then_published mid new tmp name bytes run call = after_same mid new (Publishes tmp name bytes) (publishes_refl tmp name bytes) run call

  -- what a text is called may be more
  pub leaves_as : (new : S) (output : List ℕ) (IsText IsOther : List ℕ → Type 0) → ((text : List ℕ) → IsText text → IsOther text) → LeavesText d old new output IsText → LeavesText d old new output IsOther
  leaves_as new output IsText IsOther more (inl run) = inl run
  leaves_as new output IsText IsOther more (inr (text, is, run)) = inr (text, more text is, run)

  pub leaves_after : (mid new : S) (output : List ℕ) (IsText : List ℕ → Type 0) → Passes d old mid Same → LeavesText d mid new output IsText → LeavesText d old new output IsText
  leaves_after mid new output IsText run (inl call) = inl (same_then_but mid new (temporary_file output) run call)
  leaves_after mid new output IsText run (inr (text, is, call)) = inr (text, is, same_then_published mid new (temporary_file output) (output_file output) text run call)

  -- the same of what is so after a refusal
  pub before_after : {T E : Type 0} (mid new : S) (name : List ℕ) (answer : Result T E) → Passes d old mid Same → d.faults old ≤ d.faults mid
      → OnErr answer (Passes d mid new (SameBut name) ⊎ HasFailed d.faults mid new) → OnErr answer (Passes d old new (SameBut name) ⊎ HasFailed d.faults old new)
  before_after mid new name (Ok done) run le h = tt
  before_after mid new name (Err given) run le h = ⊎_elim (λ call. inl (same_then_but mid new name run call)) (λ rose. inr (failed_since d.faults old mid new le rose)) h

  pub same_is_published : (new : S) (tmp name bytes : List ℕ) → Passes d old new Same → Passes d old new (Publishes tmp name bytes)
  same_is_published new tmp name bytes run = weaker d old new Same (Publishes tmp name bytes) run (λ f g was same. subst (Publishes tmp name bytes f) (sym same) (publishes_refl tmp name bytes f)) tells

  -- the temporary file in each folder once it is synced
  pub synced_in_each : (mid : S) (tmp bytes : List ℕ) → Passes d old mid Same → IsStable d mid tmp → d.reads old tmp ≡ Some bytes → HasInEach d mid tmp bytes
  synced_in_each mid tmp bytes run stable is f now = stable f now ∙ (λ i. run.seen i tmp) ∙ is

  -- only the output's files were changed
  pub leaves_both : (new : S) (output : List ℕ) (IsText : List ℕ → Type 0) → LeavesText d old new output IsText → Passes d old new (SameButBoth (temporary_file output) (output_file output))
  leaves_both new output IsText (inl run) = weaker d old new (SameBut (temporary_file output)) (SameButBoth (temporary_file output) (output_file output)) run (λ f g was same n a b. same n a) tells
  leaves_both new output IsText (inr (text, is, run)) =
      weaker d old new (Publishes (temporary_file output) (output_file output) text) (SameButBoth (temporary_file output) (output_file output)) run (λ f g was p. p.others) tells

  -- where there is one such text, the output's file is as it was or has it
  pub leaves_that : (new : S) (output that : List ℕ) (IsText : List ℕ → Type 0) → temporary_file output ≢ output_file output → ((text : List ℕ) → IsText text → text ≡ that) → LeavesText d old new output IsText
      → Passes d old new (Publishes (temporary_file output) (output_file output) that)
  leaves_that new output that IsText apart one (inl run) =
      weaker d old new (SameBut (temporary_file output)) (Publishes (temporary_file output) (output_file output) that) run (λ f g was same. only_tmp (temporary_file output) (output_file output) that apart f g same) tells
  leaves_that new output that IsText apart one (inr (text, is, run)) =
      subst (λ (t : List ℕ). Passes d old new (Publishes (temporary_file output) (output_file output) t)) (one text is) run

-- what holds anyway holds after a refusal
pub on_err : {T E : Type 0} (P : Type 0) (answer : Result T E) → P → OnErr answer P
on_err P (Ok done) p = tt
on_err P (Err given) p = p

-- what is weaker holds too
pub if_ok_more : {T E : Type 0} (answer : Result T E) (P Q : T → Type 0) → ((x : T) → P x → Q x) → IfOk answer P → IfOk answer Q
if_ok_more (Ok x) P Q more h = more x h
if_ok_more (Err given) P Q more h = tt

pub if_err_more : {T E : Type 0} (answer : Result T E) (P Q : E → Type 0) → ((x : E) → P x → Q x) → IfErr answer P → IfErr answer Q
if_err_more (Ok x) P Q more h = tt
if_err_more (Err given) P Q more h = more given h
