-- How far the records of a journal go, one after another.
use Rattle.std.proofs.Common.{◌≡◌, ◌<◌, ◌≤◌, ◌+◌, ◌∙◌, ◌++◌, ◌∷◌, ◌⊎◌, ℕ, zero, suc, List, [], Bool, true, false, Some, None, Option, IsSome, OnOk, Result, Ok, Err, Contains, length, take, get_or, slice_index_or, refl, sym, ap, subst, inl, inr, ⊎_elim, arith, append_assoc}
use Rattle.std.proofs.lemmas.Bool.{cases_lt, cases_eq, cases_order}
use Rattle.std.proofs.lemmas.Bool.Decides.{nat_tests}
use Rattle.std.proofs.lemmas.List.{append-nil, get_or_default, length-map, take_more}
use Rattle.std.proofs.lemmas.List.Elements.{Contains-push, Contains-push_cases, Contains-append_left}
use Rattle.hx_align.specs.Plans.{pixels_of}
use Rattle.hx_align.specs.declared.plan.PlanRow.{PlanRow}
use Rattle.hx_base.specs.declared.pixel.Pixel.{Pixel}
use Rattle.hx_base.specs.declared.refusal.JobFile.TheVariants as file
use Rattle.hx_base.specs.declared.task.Task.{Task}
use Rattle.hx_journal.specs.declared.record.Record.{Record}
use Rattle.hx_book.specs.Tasks.{AreParts, Follow, IsNext, JobData, count_of, task}
use Rattle.hx_book.specs.Values.{IsFileOf, IsValue, count_read, rows_in_file, rows_told}
use Rattle.hx_book.specs.Resumable.{HasNumber, done_of}
use Rattle.hx_book.specs.Books.{AreInTurn, IsOpenTask, IsPlanned, IsRefusedBy, IsScheduled, JobMembers, job_of}
use Rattle.hx_book.specs.declared.answers.Kept.{Kept}
use Rattle.hx_book.proofs.Keeping.{is_task, numbers}
use Rattle.hx_book.proofs.Parts.{parts_few}
use Rattle.hx_book.proofs.Steps.{done_push}
use Rattle.hx_book.proofs.Turns.{claimed_schedule, noted_schedule, opened_schedule}

pub on_ok_both : {T E : Type 0} (r : Result T E) (A B C : Type 0) → OnOk r A → OnOk r B → (A → B → C) → OnOk r C
on_ok_both (Ok x) A B C a b f = f a b
on_ok_both (Err e) A B C a b f = tt

-- nothing is recorded yet
pub first_schedule : (inputs : ℕ) → 1 ≤ inputs → IsScheduled inputs 0 [] 1 0 [] None None
first_schedule inputs some = record {
  some = omega arith;
  within = omega arith;
  earlier = λ kind m one less small. absurd (omega (arith, one, less));
  no_later = λ t c. absurd (nothing t c);
  flagged = λ n above below flag. absurd (no_flag n flag);
  unflagged = λ n above below flag c. nothing (task 1 n) c;
  front = λ less. refl;
  passed = λ n less below. absurd (omega (arith, less));
  held_is = λ n (e : None ≡ Some n). absurd (cc e);
  kept_before = λ k (e : None ≡ Some k). absurd (cc e);
  kept_left = λ k (e : None ≡ Some k). absurd (cc e);
  kept_below = λ n k (e : None ≡ Some n) is. absurd (cc e);
  unfinished = inr (inl some);
}
  where
    nothing : (t : Task) → Contains [] t → ⊥
    nothing t (k, less, is) = omega (arith, less)

    no_flag : (n : ℕ) → slice_index_or [] n false ≡ true → ⊥
    no_flag n e = cc e

-- a kind with tasks
pub kind_below : (i p k n : ℕ) → n < count_of i p k → k < 9
kind_below i p k n less = grind (arith, nat_tests)

pub kind_above : (i p k n : ℕ) → n < count_of i p k → 1 ≤ k
kind_above i p k n less = grind (arith, nat_tests)

pub early_counts : (i p q k : ℕ) → k ≤ 2 → count_of i p k ≡ count_of i q k
early_counts i p q k less = grind (arith, nat_tests)

bool_cases : (b : Bool) → (b ≡ true) ⊎ (b ≡ false)
bool_cases true = inl refl
bool_cases false = inr refl

module _ (inputs partitions : ℕ) (done : List Task) (stage from : ℕ) (flags : List Bool) (h : IsScheduled inputs partitions done stage from flags None None) where
  nobody : (n : ℕ) → (None ≡ Some n) ⊎ IsRefusedBy None n → ⊥
  nobody n rest = ⊎_elim (λ (e : None ≡ Some n). cc e) (λ (k, is, le). let c : None ≡ Some k = is in cc c) rest

  -- a later task of the open stage is recorded
  pub marked_schedule : (n : ℕ) (more : List Bool) → from < n → n < count_of inputs partitions stage
      → slice_index_or more n false ≡ true → ((m : ℕ) → (m ≡ n → ⊥) → slice_index_or more m false ≡ slice_index_or flags m false)
      → IsScheduled inputs partitions (done ++ task stage n ∷ []) stage from more None None
  marked_schedule n more later small marked others = record {
    some = h.some;
    within = h.within;
    earlier = λ kind m one less below. Contains-append_left done (task stage n ∷ []) (task kind m) (h.earlier kind m one less below);
    no_later = λ t c. ⊎_elim (λ old. h.no_later t old) (λ (new : task stage n ≡ t). let k : stage ≡ t.kind = ap (λ (x : Task). x.kind) new in omega (arith, k)) (Contains-push_cases done (task stage n) t c);
    flagged = λ m above below flag. ⊎_elim
        (λ (e : m ≡ n). subst (λ (x : ℕ). Contains (done ++ task stage n ∷ []) (task stage x)) (sym e) (Contains-push done (task stage n)))
        (λ other. Contains-append_left done (task stage n ∷ []) (task stage m) (h.flagged m above below (sym (others m other) ∙ flag)))
        (cases_eq m n);
    unflagged = λ m above below flag c. ⊎_elim
        (λ (e : m ≡ n). let at : slice_index_or more n false ≡ false = subst (λ (x : ℕ). slice_index_or more x false ≡ false) e flag in let clash : true ≡ false = sym marked ∙ at in cc clash)
        (λ other. ⊎_elim (λ old. h.unflagged m above below (sym (others m other) ∙ flag) old)
        (λ (new : task stage n ≡ task stage m). other (sym (ap (λ (x : Task). x.number) new)))
        (Contains-push_cases done (task stage n) (task stage m) c))
        (cases_eq m n);
    front = λ less. others from (λ e. omega (arith, e, later)) ∙ h.front less;
    passed = λ m less below. ⊎_elim (λ has. inl (Contains-append_left done (task stage n ∷ []) (task stage m) has)) (λ rest. absurd (nobody m rest)) (h.passed m less below);
    held_is = λ m (e : None ≡ Some m). absurd (cc e);
    kept_before = λ k (e : None ≡ Some k). absurd (cc e);
    kept_left = λ k (e : None ≡ Some k). absurd (cc e);
    kept_below = λ m k (e : None ≡ Some m) is. absurd (cc e);
    unfinished = inr (inl (omega (arith, later, small)));
  }

  module _ (t : Task) (is : IsOpenTask inputs partitions stage from flags t) where
    same_task : task stage t.number ≡ t
    same_task = λ i. record { kind = sym is.kind_is i; number = t.number }

    pub marked_after : (more : List Bool) → (t.number ≡ from → ⊥) → slice_index_or more t.number false ≡ true
        → ((m : ℕ) → (m ≡ t.number → ⊥) → slice_index_or more m false ≡ slice_index_or flags m false)
        → IsScheduled inputs partitions (done ++ t ∷ []) stage from more None None
    marked_after more other marked others = subst (λ (x : Task). IsScheduled inputs partitions (done ++ x ∷ []) stage from more None None) same_task
        (marked_schedule t.number more (let a = is.above in omega (arith, a, other)) is.below marked others)

    module _ (front : t.number ≡ from) (next : ℕ) (later : t.number + 1 ≤ next)
        (skipped : (n : ℕ) → t.number + 1 ≤ n → n < next → slice_index_or flags n false ≡ true)
        (found : next < count_of inputs partitions stage → slice_index_or flags next false ≡ false) where
      claimed : IsScheduled inputs partitions done stage next flags (Some t.number) None
      claimed = subst (λ (o : Option ℕ). IsScheduled inputs partitions done stage next flags o None) (ap Some (sym front))
          (claimed_schedule inputs partitions done stage from flags None next h (let b = is.below in omega (arith, b, front)) (omega (arith, later, front))
          (λ n above less. skipped n (omega (arith, above, front)) less) found)

      -- the first ready task is recorded
      pub passed_after : next < count_of inputs partitions stage → IsScheduled inputs partitions (done ++ t ∷ []) stage next flags None None
      passed_after on = subst (λ (x : Task). IsScheduled inputs partitions (done ++ x ∷ []) stage next flags None None) same_task
          (noted_schedule inputs partitions done stage next flags t.number None claimed (inl on))

      -- and with it the stage is done
      pub opened_after : (more stage_next : ℕ) → count_of inputs partitions stage ≤ next → stage < stage_next → stage_next ≤ 9
          → ((kind : ℕ) → kind ≤ stage → count_of inputs more kind ≡ count_of inputs partitions kind)
          → ((kind : ℕ) → stage < kind → kind < stage_next → count_of inputs more kind ≡ 0) → (stage_next < 9 → 0 < count_of inputs more stage_next)
          → IsScheduled inputs more (done ++ t ∷ []) stage_next 0 [] None None
      opened_after more stage_next whole beyond most same empty some = subst (λ (x : Task). IsScheduled inputs more (done ++ x ∷ []) stage_next 0 [] None None) same_task
          (opened_schedule inputs partitions done stage next flags t.number stage_next more claimed whole beyond most same empty some)

    -- the plan is recorded
    pub plan_after : (more stage_next : ℕ) → t.kind ≡ 2 → stage < stage_next → stage_next ≤ 9
        → ((kind : ℕ) → stage < kind → kind < stage_next → count_of inputs more kind ≡ 0) → (stage_next < 9 → 0 < count_of inputs more stage_next)
        → IsScheduled inputs more (done ++ t ∷ []) stage_next 0 [] None None
    plan_after more stage_next plan beyond most empty some =
        let two : stage ≡ 2 = sym is.kind_is ∙ plan in
        let one : count_of inputs partitions stage ≡ 1 = ap (count_of inputs partitions) two in
        let below = is.below in
        let above = is.above in
        opened_after (omega (arith, below, above, one)) (t.number + 1) (omega arith) (λ n more_than less. absurd (omega (arith, more_than, less))) (λ less. absurd (omega (arith, less, one)))
        more stage_next (omega (arith, one)) beyond most (λ kind le. early_counts inputs more partitions kind (omega (arith, le, two))) empty some

-- a task that is next is open
module _ (j : JobMembers) (partitions : ℕ) (done : List Task) (stage from : ℕ) (flags : List Bool)
    (h : IsScheduled (length j.origins) partitions done stage from flags None None) (planned : 3 ≤ stage → IsPlanned j partitions) (t : Task) (next : IsNext (job_of j) done t) where
  small : t.kind ≤ stage → t.number < count_of (length j.origins) partitions t.kind
  small within = numbers j partitions done stage 0 planned h.earlier t.kind t.number within next.is_task

  some : 1 ≤ t.kind
  some = kind_above (length (job_of j).inputs) (length next.is_task.parts) t.kind t.number next.is_task.numbered

  most : t.kind < 9
  most = kind_below (length (job_of j).inputs) (length next.is_task.parts) t.kind t.number next.is_task.numbered

  ready : stage < t.kind → from < count_of (length j.origins) partitions stage
  ready before = ⊎_elim (λ (nine : stage ≡ 9). absurd (omega (arith, nine, before, most)))
      (λ a. ⊎_elim (λ is. is) (λ b. absurd (⊎_elim (λ (e : IsSome {T = ℕ} None). none_held e) (λ (e : IsSome {T = Kept} None). none_kept e) b)) a) h.unfinished
    where
      none_held : IsSome {T = ℕ} None → ⊥
      none_held e = cc e

      none_kept : IsSome {T = Kept} None → ⊥
      none_kept e = cc e

  not_later : stage < t.kind → ⊥
  not_later before =
      let front = ready before in
      h.unflagged from (omega arith) front (h.front front)
      (next.in_turn stage h.some before from (is_task j partitions done stage from planned h.earlier front))

  not_earlier : t.kind < stage → ⊥
  not_earlier before = next.is_left (h.earlier t.kind t.number some before (small (omega (arith, before))))

  pub next_is_open : IsOpenTask (length j.origins) partitions stage from flags t
  next_is_open = ⊎_elim of_stage (λ other. absurd (⊎_elim not_earlier not_later other)) (cases_order t.kind stage)
    where
      of_stage : t.kind ≡ stage → IsOpenTask (length j.origins) partitions stage from flags t
      of_stage e =
          let below : t.number < count_of (length j.origins) partitions stage = subst (λ (k : ℕ). t.number < count_of (length j.origins) partitions k) e (small (omega (arith, e))) in
          let left : Contains done (task stage t.number) → ⊥ = λ c. next.is_left (subst (λ (k : ℕ). Contains done (task k t.number)) (sym e) c) in
          let above : from ≤ t.number = ⊎_elim
          (λ less. absurd (⊎_elim left (λ rest. nobody (length j.origins) partitions done stage from flags h t.number rest) (h.passed t.number less below)))
          (λ more. omega (arith, more)) (cases_lt t.number from) in
          record {
            kind_is = e;
            above = above;
            below = below;
            unflagged = ⊎_elim (λ flag. absurd (left (h.flagged t.number above below flag))) (λ none. none) (bool_cases (slice_index_or flags t.number false));
          }

-- the record of a plan tells how many partitions there are
pub plan_number : (job : JobData) (r : Record) → r.task ≡ task 2 0 → HasNumber job r → (parts : List Pixel) × AreParts job parts × (length parts ≡ r.rows)
unfolding IsFileOf rows_in_file
plan_number job r e has = by (subst (λ (t : Task). IsValue job t has.bytes) e has.value) (has.number ∙ ap (λ (t : Task). rows_told t has.bytes) e)
  where
    by : IsFileOf job has.bytes file.Plan → r.rows ≡ rows_in_file has.bytes file.Plan → (parts : List Pixel) × AreParts job parts × (length parts ≡ r.rows)
    by v n = (
      pixels_of v.plan,
      record { rows = v.all; plan = v.plan; cut = v.cut; pixels = refl },
      length-map v.plan (λ (row : PlanRow). row.pixel) ∙ sym (n ∙ ap (count_read (length {A = PlanRow})) v.holds),
    )

pub plan_planned : (j : JobMembers) (r : Record) → r.task ≡ task 2 0 → HasNumber (job_of j) r → IsPlanned j r.rows
plan_planned j r e has = let (parts, are, long) = plan_number (job_of j) r e has in record { parts = parts; are = are; count = long }

pub plan_few : (job : JobData) (r : Record) → r.task ≡ task 2 0 → HasNumber job r → r.rows ≤ 100000
plan_few job r e has = let (parts, are, long) = plan_number job r e has in let few = parts_few job parts are in omega (arith, few, long)

-- a record is of a task that is next after those before it
pub next_at : (job : JobData) (done : List Task) (rs : List Record) (i : ℕ) (r : Record) → Follow job done (done_of rs) → i < length rs → r ≡ get_or rs i r → IsNext job (done ++ done_of (take i rs)) r.task
next_at job done [] i r h less is = absurd (omega (arith, less))
next_at job done (x ∷ xs) zero r h less is =
    subst (λ (l : List Task). IsNext job l r.task) (sym (append-nil done)) (subst (λ (y : Record). IsNext job done y.task) (sym is) h.0)
next_at job done (x ∷ xs) (suc i) r h less is =
    subst (λ (l : List Task). IsNext job l r.task) (append_assoc done (x.task ∷ []) (done_of (take i xs))) (next_at job (done ++ x.task ∷ []) xs i r h.1 (omega (arith, less)) is)

pub has_at : (rs : List Record) (i : ℕ) (r : Record) → i < length rs → r ≡ get_or rs i r → Contains rs r
has_at [] i r less is = absurd (omega (arith, less))
has_at (x ∷ xs) zero r less is = (zero, omega arith, sym is)
has_at (x ∷ xs) (suc i) r less is = let (k, below, same) = has_at xs i r (omega (arith, less)) is in (suc k, omega (arith, below), same)

pub done_next : (rs : List Record) (i : ℕ) (r : Record) → i < length rs → r ≡ get_or rs i r → done_of (take (i + 1) rs) ≡ done_of (take i rs) ++ r.task ∷ []
done_next rs i r below is = ap done_of (take_more rs i r below) ∙ done_push (take i rs) (get_or rs i r) ∙ ap (λ (x : Record). done_of (take i rs) ++ x.task ∷ []) (sym is)

module _ (j : JobMembers) (rs : List Record) (i : ℕ) (e : Record) (inputs partitions stage from : ℕ) (flags : List Bool) (below : i < length rs)
    (named : inputs ≡ length j.origins) (h : IsScheduled inputs partitions (done_of (take i rs)) stage from flags None None) where
  is_there : get_or rs i e ≡ get_or rs i (get_or rs i e)
  is_there = get_or_default rs i e (get_or rs i e) below

  -- a plan is of number 0
  plan_task : IsOpenTask inputs partitions stage from flags (get_or rs i e).task → (get_or rs i e).task.kind ≡ 2 → (get_or rs i e).task ≡ task 2 0
  plan_task open_task plan =
      let two : stage ≡ 2 = sym open_task.kind_is ∙ plan in
      let less : (get_or rs i e).task.number < 1 = subst (λ (k : ℕ). (get_or rs i e).task.number < count_of inputs partitions k) two open_task.below in
      let zero_is : (get_or rs i e).task.number ≡ 0 = omega (arith, less) in
      λ k. record { kind = plan k; number = zero_is k }

  module _ (turn : AreInTurn (job_of j) rs) (planned : 3 ≤ stage → IsPlanned j partitions) where
    here : IsScheduled (length j.origins) partitions (done_of (take i rs)) stage from flags None None
    here = subst (λ (n : ℕ). IsScheduled n partitions (done_of (take i rs)) stage from flags None None) named h

    -- the next record of a job that is under way follows
    pub walk_open : IsOpenTask inputs partitions stage from flags (get_or rs i e).task
    walk_open = subst (λ (n : ℕ). IsOpenTask n partitions stage from flags (get_or rs i e).task) (sym named)
        (next_is_open j partitions (done_of (take i rs)) stage from flags here planned (get_or rs i e).task (next_at (job_of j) [] rs i (get_or rs i e) turn.follow below is_there))

    has : HasNumber (job_of j) (get_or rs i e)
    has = turn.numbers (get_or rs i e) (has_at rs i (get_or rs i e) below is_there)

    -- and is not refused
    pub walk_kept : (IsOpenTask inputs partitions stage from flags (get_or rs i e).task → ((get_or rs i e).task.kind ≡ 2) × (100000 < (get_or rs i e).rows)) → ⊥
    walk_kept refused =
        let many = refused walk_open in
        let few = plan_few (job_of j) (get_or rs i e) (plan_task walk_open many.0) has in
        let much = many.1 in
        omega (arith, few, much)

    -- the partitions are known once the plan is recorded
    pub walk_planned : (more stage_next : ℕ) → ((get_or rs i e).task.kind ≡ 2 → (more ≡ (get_or rs i e).rows) × ((get_or rs i e).rows ≤ 100000))
        → (((get_or rs i e).task.kind ≡ 2 → ⊥) → (more ≡ partitions) × (stage ≤ 2 → stage_next ≤ 2)) → 3 ≤ stage_next → IsPlanned j more
    walk_planned more stage_next plan other late = ⊎_elim
        (λ is. subst (IsPlanned j) (sym (plan is).0) (plan_planned j (get_or rs i e) (plan_task walk_open is) has))
        (λ no. let o = other no in ⊎_elim (λ early. absurd (let l = o.1 (omega (arith, early)) in omega (arith, l, late))) (λ was. subst (IsPlanned j) (sym o.0) (planned (omega (arith, was)))) (cases_lt stage 3))
        (cases_eq (get_or rs i e).task.kind 2)

  pub walk_few : (more : ℕ) → partitions ≤ 100000 → ((get_or rs i e).task.kind ≡ 2 → (more ≡ (get_or rs i e).rows) × ((get_or rs i e).rows ≤ 100000))
      → (((get_or rs i e).task.kind ≡ 2 → ⊥) → (more ≡ partitions) × Unit {0}) → more ≤ 100000
  walk_few more few plan other = ⊎_elim (λ is. let p = plan is in let a = p.0 in let b = p.1 in omega (arith, a, b)) (λ no. let a = (other no).0 in omega (arith, a, few)) (cases_eq (get_or rs i e).task.kind 2)

  -- one record more
  pub walk_done : (more stage_next from_next : ℕ) (flags_next : List Bool)
      → IsScheduled inputs more (done_of (take i rs) ++ (get_or rs i e).task ∷ []) stage_next from_next flags_next None None
      → IsScheduled inputs more (done_of (take (i + 1) rs)) stage_next from_next flags_next None None
  walk_done more stage_next from_next flags_next next = subst (λ (l : List Task). IsScheduled inputs more l stage_next from_next flags_next None None) (sym (done_next rs i (get_or rs i e) below is_there)) next
