-- How a run of calls goes on.
use Rattle.std.proofs.Common.{◌≡◌, ◌≤◌, ◌⊎◌, ◌∙◌, sym, inl, inr, ⊎_elim, ℕ, List, arith}
use Rattle.hx_outside.specs.Folders.{Folder, Step, Same, SameBut}
use Rattle.hx_outside.specs.Disk.{DiskMembers, After, Passes, IsStable, IsDoneToAll}

module _ {S : Type 0} (d : DiskMembers S) where
  -- no call
  pub stands : (s : S) (step : Step) → d.tells s → ((f : Folder) → step f f) → Passes d s s step
  stands s step tells same = record {
    told = tells;
    later = omega arith;
    keeps = λ t f le left. left;
    leaves = λ t f le left. inl left;
    each = λ f left. (f, d.only_now s f left, same f);
    seen = same (d.reads s);
  }

  pub weaker : (old new : S) (first whole : Step) → Passes d old new first → ((f g : Folder) → d.may_leave old f → first f g → whole f g) → d.tells old → Passes d old new whole
  weaker old new first whole run more tells = record {
    told = run.told;
    later = run.later;
    keeps = run.keeps;
    leaves = run.leaves;
    each = λ f left. let (g, was, step) = run.each f left in (g, was, more g f was step);
    seen = more (d.reads old) (d.reads new) (d.reads_now old tells) run.seen;
  }

  -- two runs, one after the other
  pub joined : (old mid new : S) (first next whole : Step) → d.tells old
      → Passes d old mid first → Passes d mid new next
      → ((f g : Folder) → d.may_leave old f → first f g → whole f g)
      → ((f g h : Folder) → d.may_leave old f → first f g → d.may_leave mid g → next g h → whole f h) → Passes d old new whole
  joined old mid new first next whole tells run call more joins = record {
    told = call.told;
    later = omega (arith, run.later, call.later);
    keeps = λ t f le left. call.keeps t f (omega (arith, le, run.later)) (run.keeps t f le left);
    leaves = λ t f le left. ⊎_elim (before t f le) (λ now. inr (again f now)) (call.leaves t f (omega (arith, le, run.later)) left);
    each = λ f left. ⊎_elim (so_far f) (after f) (call.leaves (d.moment old) f run.later left);
    seen = joins (d.reads old) (d.reads mid) (d.reads new) (d.reads_now old tells) run.seen (d.reads_now mid run.told) call.seen;
  }
    where
      so_far : (f : Folder) → d.left_since mid (d.moment old) f → After (d.may_leave old) whole f
      so_far f left = let (g, was, step) = run.each f left in (g, was, more g f was step)

      after : (f : Folder) → d.left_since new (d.moment mid) f → After (d.may_leave old) whole f
      after f left =
          let (g, was, step) = call.each f left in
          let (h, first_was, far) = run.each g (d.counts_now mid (d.moment old) g run.later was) in
          (h, first_was, joins h g f first_was far was step)

      before : (t : ℕ) (f : Folder) → t ≤ d.moment old → d.left_since mid t f → d.left_since old t f ⊎ d.left_since new (d.moment old) f
      before t f le left = ⊎_elim (λ was. inl was) (λ mid_left. inr (call.keeps (d.moment old) f run.later mid_left)) (run.leaves t f le left)

      again : (f : Folder) → d.left_since new (d.moment mid) f → d.left_since new (d.moment old) f
      again f left = d.earlier new (d.moment mid) (d.moment old) f run.later left

  -- one call more
  pub goes_on : (old mid new : S) (whole next : Step) → d.tells old
      → Passes d old mid whole → Passes d mid new next
      → ((f g h : Folder) → d.may_leave old f → whole f g → d.may_leave mid g → next g h → whole f h) → Passes d old new whole
  goes_on old mid new whole next tells run call joins = joined old mid new whole next whole tells run call (λ f g now step. step) joins

  -- What each folder since some moment has, and each step keeps, it still has.
  pub stays : (old new : S) (t : ℕ) (P : Folder → Type 0) (step : Step) → t ≤ d.moment old
      → ((f : Folder) → d.left_since old t f → P f) → Passes d old new step
      → ((f g : Folder) → d.may_leave old f → P f → step f g → P g) → (f : Folder) → d.left_since new t f → P f
  stays old new t P step le so_far run keeps f left = ⊎_elim (so_far f) after (run.leaves t f le left)
    where
      after : d.left_since new (d.moment old) f → P f
      after here = let (g, was, stepped) = run.each f here in keeps g f was (so_far g (d.counts_now old t g le was)) stepped

  pub same_next : (old mid new : S) → d.tells old → Passes d old mid Same → Passes d mid new Same → Passes d old new Same
  same_next old mid new tells run call = goes_on old mid new Same Same tells run call (λ f g h was p now q. q ∙ p)

  -- a stable file stays so where nothing changes
  pub stable_next : (old new : S) (name : List ℕ) → Passes d old new Same → IsStable d old name → IsStable d new name
  stable_next old new name run stable f now =
      let (g, was, same) = run.each f (d.counts_now new (d.moment old) f run.later now) in
      (λ k. same k name) ∙ stable g was ∙ (λ k. sym run.seen k name)

  -- a stable file stays so over a change of other files
  pub stable_over : (old new : S) (name : List ℕ) (step : Step) → ((f g : Folder) → step f g → g name ≡ f name) → Passes d old new step → IsStable d old name → IsStable d new name
  stable_over old new name step same run stable f now =
      let (g, was, stepped) = run.each f (d.counts_now new (d.moment old) f run.later now) in
      same g f stepped ∙ stable g was ∙ sym (same (d.reads old) (d.reads new) run.seen)

  -- a file that a change makes of a stable one is stable where that was done to all
  pub stable_done : (old new : S) (name other : List ℕ) (change : Folder → Folder) → ((f g : Folder) → f name ≡ g name → change f other ≡ change g other)
      → IsStable d old name → d.reads new ≡ change (d.reads old) → IsDoneToAll d old new change → IsStable d new other
  stable_done old new name other change same stable seen all f now =
      let (g, was, is) = all f now in
      (λ k. is k other) ∙ same g (d.reads old) (stable g was) ∙ (λ k. sym seen k other)

  -- two runs that change one file
  pub one_file_next : (old mid new : S) (name : List ℕ) → d.tells old → Passes d old mid (SameBut name) → Passes d mid new (SameBut name) → Passes d old new (SameBut name)
  one_file_next old mid new name tells run call =
      goes_on old mid new (SameBut name) (SameBut name) tells run call (λ f g h was first now next n apart. next n apart ∙ first n apart)
