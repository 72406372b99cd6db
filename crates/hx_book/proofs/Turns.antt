-- How the schedule goes on: a task is claimed, recorded or refused, and the next stage opens.
use Rattle.std.proofs.Common.{◌≡◌, ◌<◌, ◌≤◌, ◌+◌, ◌++◌, ◌∷◌, ◌⊎◌, ℕ, List, [], Bool, true, false, Some, None, Option, IsSome, Contains, slice_index_or, refl, sym, ap, subst, inl, inr, ⊎_elim, arith}
use Rattle.std.proofs.lemmas.Bool.{cases_lt, cases_eq, cases_order}
use Rattle.std.proofs.lemmas.List.Elements.{Contains-push, Contains-push_cases, Contains-append_left}
use Rattle.hx_base.specs.declared.task.Task.{Task}
use Rattle.hx_book.specs.Tasks.{count_of, task}
use Rattle.hx_book.specs.Books.{IsRefusedBy, IsScheduled}
use Rattle.hx_book.specs.declared.answers.Kept.{Kept}

pub some_is : (m n : ℕ) → Some m ≡ Some n → m ≡ n
some_is m n e = cc e

module _ (inputs partitions : ℕ) (done : List Task) (stage from : ℕ) (flags : List Bool) where
  -- the front of the ready tasks is claimed
  pub claimed_schedule : (kept : Option Kept) (next : ℕ) → IsScheduled inputs partitions done stage from flags None kept → from < count_of inputs partitions stage
      → from + 1 ≤ next → ((n : ℕ) → from + 1 ≤ n → n < next → slice_index_or flags n false ≡ true) → (next < count_of inputs partitions stage → slice_index_or flags next false ≡ false)
      → IsScheduled inputs partitions done stage next flags (Some from) kept
  claimed_schedule kept next h ready later skipped found = record {
    some = h.some;
    within = h.within;
    earlier = h.earlier;
    no_later = h.no_later;
    flagged = λ n above below. h.flagged n (omega (arith, later, above)) below;
    unflagged = λ n above below. h.unflagged n (omega (arith, later, above)) below;
    front = found;
    passed = λ n above below. ⊎_elim (λ (e : n ≡ from). inr (inl (ap Some (sym e))))
        (λ other. ⊎_elim
        (λ less. ⊎_elim (λ has. inl has) (λ rest. ⊎_elim (λ (e : None ≡ Some n). absurd (cc e)) (λ refused. inr (inr refused)) rest) (h.passed n less below))
        (λ more. inl (h.flagged n (omega (arith, more)) below (skipped n (omega (arith, more)) above)))
        other)
        (cases_order n from);
    held_is = λ n e. let s : from ≡ n = some_is from n e in
        subst (λ (m : ℕ). (m < next) × (m < count_of inputs partitions stage) × (Contains done (task stage m) → ⊥)) s
        (omega (arith, later), ready, h.unflagged from (omega arith) ready (h.front ready));
    kept_before = λ k e. let l = h.kept_before k e in omega (arith, l, later);
    kept_left = h.kept_left;
    kept_below = λ n k e is. let s : from ≡ n = some_is from n e in let l = h.kept_before k is in omega (arith, l, s);
    unfinished = inr (inr (inl refl));
  }

  module _ (n : ℕ) (kept : Option Kept) (h : IsScheduled inputs partitions done stage from flags (Some n) kept) where
    -- it is recorded, and the stage goes on
    pub noted_schedule : (from < count_of inputs partitions stage) ⊎ IsSome kept → IsScheduled inputs partitions (done ++ task stage n ∷ []) stage from flags None kept
    noted_schedule on =
        let was = h.held_is n refl in
        record {
          some = h.some;
          within = h.within;
          earlier = λ kind m one less small. Contains-append_left done (task stage n ∷ []) (task kind m) (h.earlier kind m one less small);
          no_later = λ t c. ⊎_elim (λ old. h.no_later t old) (λ (new : task stage n ≡ t). let k : stage ≡ t.kind = ap (λ (x : Task). x.kind) new in omega (arith, k)) (Contains-push_cases done (task stage n) t c);
          flagged = λ m above below flag. Contains-append_left done (task stage n ∷ []) (task stage m) (h.flagged m above below flag);
          unflagged = λ m above below flag c. ⊎_elim (λ old. h.unflagged m above below flag old) (λ (new : task stage n ≡ task stage m). let k : n ≡ m = ap (λ (x : Task). x.number) new in omega (arith, k, was.0, above)) (Contains-push_cases done (task stage n) (task stage m) c);
          front = h.front;
          passed = λ m less below. ⊎_elim (λ has. inl (Contains-append_left done (task stage n ∷ []) (task stage m) has))
              (λ rest. ⊎_elim (λ e. inl (subst (λ (x : ℕ). Contains (done ++ task stage n ∷ []) (task stage x)) (some_is n m e) (Contains-push done (task stage n)))) (λ refused. inr (inr refused)) rest)
              (h.passed m less below);
          held_is = λ m (e : None ≡ Some m). absurd (cc e);
          kept_before = h.kept_before;
          kept_left = λ k e. (let l = h.kept_left k e in l.0, λ c. ⊎_elim (λ old. (h.kept_left k e).1 old) (λ (new : task stage n ≡ task stage k.number). let m : n ≡ k.number = ap (λ (x : Task). x.number) new in let l = h.kept_below n k refl e in omega (arith, m, l)) (Contains-push_cases done (task stage n) (task stage k.number) c));
          kept_below = λ m k (e : None ≡ Some m) is. absurd (cc e);
          unfinished = ⊎_elim (λ ready. inr (inl ready)) (λ some. inr (inr (inr some))) on;
        }

    -- it is refused
    pub refused_schedule : (more : Option Kept) → ((m : ℕ) → IsRefusedBy kept m → IsRefusedBy more m) → IsRefusedBy more n → IsSome more → ((k : Kept) → more ≡ Some k → (k.number ≤ n) × (k.number < count_of inputs partitions stage) × (Contains done (task stage k.number) → ⊥)) → IsScheduled inputs partitions done stage from flags None more
    refused_schedule more wider own some least = let was = h.held_is n refl in record {
      some = h.some;
      within = h.within;
      earlier = h.earlier;
      no_later = h.no_later;
      flagged = h.flagged;
      unflagged = h.unflagged;
      front = h.front;
      passed = λ m less below. ⊎_elim (λ has. inl has)
          (λ rest. inr (inr (⊎_elim (λ e. subst (IsRefusedBy more) (some_is n m e) own) (λ refused. wider m refused) rest)))
          (h.passed m less below);
      held_is = λ m (e : None ≡ Some m). absurd (cc e);
      kept_before = λ k e. let l = (least k e).0 in omega (arith, l, was.0);
      kept_left = λ k e. let l = least k e in (l.1, l.2);
      kept_below = λ m k (e : None ≡ Some m) is. absurd (cc e);
      unfinished = inr (inr (inr some));
    }

  -- it is recorded, and with it the stage is done: the next opens
  pub opened_schedule : (n next more : ℕ) → IsScheduled inputs partitions done stage from flags (Some n) None → count_of inputs partitions stage ≤ from
      → stage < next → next ≤ 9 → ((kind : ℕ) → kind ≤ stage → count_of inputs more kind ≡ count_of inputs partitions kind)
      → ((kind : ℕ) → stage < kind → kind < next → count_of inputs more kind ≡ 0) → (next < 9 → 0 < count_of inputs more next)
      → IsScheduled inputs more (done ++ task stage n ∷ []) next 0 [] None None
  opened_schedule n next more h whole later most same empty some =
      let was = h.held_is n refl in
      record {
        some = let one = h.some in omega (arith, one, later);
        within = most;
        earlier = λ kind m one less small. ⊎_elim
            (λ before. Contains-append_left done (task stage n ∷ []) (task kind m) (h.earlier kind m one before (subst (λ (c : ℕ). m < c) (same kind (omega (arith, before))) small)))
            (λ not_before. ⊎_elim
            (λ (e : kind ≡ stage). subst (λ (k : ℕ). Contains (done ++ task stage n ∷ []) (task k m)) (sym e) (this m (subst (λ (c : ℕ). m < c) (same stage (omega arith)) (subst (λ (k : ℕ). m < count_of inputs more k) e small))))
            (λ other. absurd (let z = empty kind (omega (arith, not_before, other)) less in omega (arith, z, small)))
            (cases_eq kind stage))
            (cases_lt kind stage);
        no_later = λ t c. ⊎_elim (λ old. let l = h.no_later t old in omega (arith, l, later)) (λ (new : task stage n ≡ t). let k : stage ≡ t.kind = ap (λ (x : Task). x.kind) new in omega (arith, k, later)) (Contains-push_cases done (task stage n) t c);
        flagged = λ m above below flag. absurd (none m flag);
        unflagged = λ m above below flag c. ⊎_elim (λ old. let l : next ≤ stage = h.no_later (task next m) old in omega (arith, l, later))
            (λ (new : task stage n ≡ task next m). let k : stage ≡ next = ap (λ (x : Task). x.kind) new in omega (arith, k, later)) (Contains-push_cases done (task stage n) (task next m) c);
        front = λ less. refl;
        passed = λ m less below. absurd (omega (arith, less));
        held_is = λ m (e : None ≡ Some m). absurd (cc e);
        kept_before = λ k (e : None ≡ Some k). absurd (cc e);
        kept_left = λ k (e : None ≡ Some k). absurd (cc e);
        kept_below = λ m k (e : None ≡ Some m) is. absurd (cc e);
        unfinished = ⊎_elim (λ less. inr (inl (some less))) (λ nine. inl (omega (arith, nine, most))) (cases_lt next 9);
      }
    where
      none : (m : ℕ) → slice_index_or [] m false ≡ true → ⊥
      none m e = cc e

      this : (m : ℕ) → m < count_of inputs partitions stage → Contains (done ++ task stage n ∷ []) (task stage m)
      this m small = ⊎_elim (λ has. Contains-append_left done (task stage n ∷ []) (task stage m) has)
          (λ rest. ⊎_elim (λ e. subst (λ (x : ℕ). Contains (done ++ task stage n ∷ []) (task stage x)) (some_is n m e) (Contains-push done (task stage n)))
          (λ (k, is, le). absurd (cc is)) rest)
          (h.passed m (omega (arith, small, whole)) small)

  -- where nothing is ready, held or refused, all is recorded
  pub done_schedule : (kept : Option Kept) → IsScheduled inputs partitions done stage from flags None kept → count_of inputs partitions stage ≤ from → kept ≡ None → stage ≡ 9
  done_schedule kept h whole none = ⊎_elim (λ nine. nine)
      (λ a. absurd (⊎_elim (λ ready. omega (arith, ready, whole)) (λ b. ⊎_elim (λ (some : IsSome {T = ℕ} None). nobody some) (λ some. no_refusal (subst (λ (o : Option Kept). IsSome o) none some)) b) a))
      h.unfinished
    where
      nobody : IsSome {T = ℕ} None → ⊥
      nobody e = cc e

      no_refusal : IsSome {T = Kept} None → ⊥
      no_refusal e = cc e
