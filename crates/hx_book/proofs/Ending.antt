-- What a book hands back at its end.
use Rattle.std.proofs.Common.{◌≡◌, ◌<◌, ◌∙◌, ◌∷◌, ℕ, zero, suc, List, [], Some, None, Option, IfSome, length, map, slice_get, refl, sym, ap, subst, inl, inr, ⊎_elim, arith}
use Rattle.std.proofs.lemmas.List.{length-map}
use Rattle.hx_base.specs.Limits.{FitsLimits}
use Rattle.hx_base.specs.declared.refusal.Refusal.{Refusal}
use Rattle.hx_base.specs.declared.task.Task.{Task}
use Rattle.hx_journal.specs.declared.record.Record.{Record}
use Rattle.hx_outside.specs.Disk.{DiskMembers}
use Rattle.hx_outside.specs.Folders.{Folder}
use Rattle.hx_outside.specs.Sources.{SourceMembers}
use Rattle.hx_book.specs.Tasks.{HasKindsBefore, JobData, task}
use Rattle.hx_book.specs.Values.{IsValue}
use Rattle.hx_book.specs.Resumable.{IsFiledWhole, done_of}
use Rattle.hx_book.specs.Books.{AreBack, AreInTurn, AreNumbers, Inside, IsClosedCause, IsKept, IsOutsideCause, IsScheduled, IsSound, IsTaskCause, JobMembers, count_of_kind, job_of, kept_refusal, rows_of_kind}
use Rattle.hx_book.specs.declared.answers.Kept.{Kept}
use Rattle.hx_book.proofs.Causes.{outside_wider}
use Rattle.hx_book.proofs.Keeping.{kinds_before, ways}
use Rattle.hx_book.proofs.Steps.{done_from}

some_there : {X : Type 0} (xs : List X) (n : ℕ) (x : X) → slice_get xs n ≡ Some x → slice_get (map Some xs) n ≡ Some (Some x)
some_there [] n x e = absurd (cc e)
some_there (y ∷ ys) zero x e = ap Some e
some_there (y ∷ ys) (suc n) x e = some_there ys n x e

some_back : {X : Type 0} (xs : List X) (n : ℕ) (x : X) → slice_get (map Some xs) n ≡ Some (Some x) → slice_get xs n ≡ Some x
some_back [] n x e = absurd (cc e)
some_back (y ∷ ys) zero x e = cc e
some_back (y ∷ ys) (suc n) x e = some_back ys n x e

module _ {Src S : Type 0} (j : JobMembers) (source : SourceMembers Src) (d : DiskMembers S) (b : Inside Src S) (h : IsKept j source d b) (free : b.held ≡ None) where
  -- all sources are at home
  pub at_home : (n : ℕ) → slice_get b.homes n ≡ Some None → ⊥
  at_home n at = let a = h.away n at in let c : None ≡ Some n = sym free ∙ a.0 in cc c

  earlier_value : (k : Kept) → b.kept ≡ Some k → IsSound j d b → j.premises → (n : ℕ) → n < k.number → (bytes : List ℕ) × IsValue (job_of j) (task b.stage n) bytes
  earlier_value k is sound p n less =
      let s = sound.scheduled in
      let before = s.kept_before k is in
      let left = s.kept_left k is in
      let way = ways j source d b h sound p (d.reads b.store) (d.reads_now b.store (h.disk (h.with_tells p)).told) in
      ⊎_elim
      (λ has.
      let (r, among, same) = done_from b.journal.records (task b.stage n) has in
      let number = way.numbers r among in
      (number.bytes, subst (λ (t : Task). IsValue (job_of j) t number.bytes) same number.value))
      (λ rest. absurd (⊎_elim
      (λ (e : b.held ≡ Some n). let c : None ≡ Some n = sym free ∙ e in cc c)
      (λ (m, e, le). let c : Some k ≡ Some m = sym is ∙ e in let q : k ≡ m = cc c in let z : k.number ≡ m.number = ap (λ (x : Kept). x.number) q in omega (arith, z, le, less))
      rest))
      (s.passed n (omega (arith, less, before)) (let l = left.0 in omega (arith, less, l)))

  module _ (inputs : List Src) (gathered : map Some inputs ≡ b.homes) where
    pub all_back : AreBack j source inputs
    all_back = record {
      count = sym (length-map inputs Some) ∙ ap length gathered ∙ h.fitting.count;
      each = λ n s at. h.homes n s (subst (λ (l : List (Option Src)). slice_get l n ≡ Some (Some s)) gathered (some_there inputs n s at));
    }

    pub closed_cause : IfSome (kept_refusal b.first b.kept) (IsClosedCause j source inputs (d.faults b.store))
    closed_cause = by b.first b.kept refl refl
      where
        at_its_place : (n : ℕ) (s : Src) → slice_get b.homes n ≡ Some (Some s) → slice_get inputs n ≡ Some s
        at_its_place n s at = some_back inputs n s (subst (λ (l : List (Option Src)). slice_get l n ≡ Some (Some s)) (sym gathered) at)

        by : (o : Option Refusal) (k : Option Kept) → b.first ≡ o → b.kept ≡ k → IfSome (kept_refusal o k) (IsClosedCause j source inputs (d.faults b.store))
        by (Some r) k e is = inl (outside_wider j source (λ n s. slice_get b.homes n ≡ Some (Some s)) (λ n s. slice_get inputs n ≡ Some s) (d.faults b.store) (d.faults b.store) r (omega arith) at_its_place
            (subst (λ (x : Option Refusal). IfSome x (IsOutsideCause j source (λ n s. slice_get b.homes n ≡ Some (Some s)) (d.faults b.store))) e h.first_is))
        by None None e is = tt
        by None (Some k) e is = inr (record {
          refused = task b.stage k.number;
          cause = subst (λ (x : Option Kept). IfSome x (λ (y : Kept). IsTaskCause j (task b.stage y.number) y.refusal)) is h.kept_is;
          earlier = earlier_value k is (h.sound e);
        })

  none_first : (o : Option Refusal) (k : Option Kept) → kept_refusal o k ≡ None → o ≡ None
  none_first None k e = refl
  none_first (Some r) k e = absurd (cc e)

  -- where all tasks are recorded, each image has their files
  pub all_filed : j.premises → kept_refusal b.first b.kept ≡ None → b.stage ≡ 9 → (f : Folder) → d.may_leave b.store f → IsFiledWhole (job_of j) f
  all_filed p none nine f now =
      let sound = h.sound (none_first b.first b.kept none) in
      let s = subst (λ (i : ℕ). IsScheduled i b.partitions (done_of b.journal.records) b.stage b.from b.flags b.held b.kept) h.fitting.count sound.scheduled in (
        b.journal.records,
        ways j source d b h sound p f now,
        subst (HasKindsBefore (job_of j) (done_of b.journal.records)) nine (kinds_before j b.partitions (done_of b.journal.records) b.stage 0 (sound.planned p) s.earlier),
      )

  -- and the records tell the job's numbers
  pub all_numbers : j.premises → kept_refusal b.first b.kept ≡ None → b.stage ≡ 9
      → ((job : JobData) (records : List Record) → FitsLimits job.settings → AreInTurn job records → HasKindsBefore job (done_of records) 9 → AreNumbers job (rows_of_kind 4 records) (count_of_kind 4 records) (rows_of_kind 6 records))
      → AreNumbers (job_of j) (rows_of_kind 4 b.journal.records) (count_of_kind 4 b.journal.records) (rows_of_kind 6 b.journal.records)
  all_numbers p none nine law =
      let sound = h.sound (none_first b.first b.kept none) in
      let s = subst (λ (i : ℕ). IsScheduled i b.partitions (done_of b.journal.records) b.stage b.from b.flags b.held b.kept) h.fitting.count sound.scheduled in
      let way = ways j source d b h sound p (d.reads b.store) (d.reads_now b.store (h.disk (h.with_tells p)).told) in
      law (job_of j) b.journal.records h.fitting.limits (record { follow = way.follow; numbers = way.numbers })
      (subst (HasKindsBefore (job_of j) (done_of b.journal.records)) nine (kinds_before j b.partitions (done_of b.journal.records) b.stage 0 (sound.planned p) s.earlier))
