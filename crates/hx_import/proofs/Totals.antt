-- What the records of a kind tell together: each task of the kind is recorded once.
use Rattle.std.proofs.Common.{◌≡◌, ◌<◌, ◌==◌, ◌+◌, ◌∙◌, ◌++◌, ◌∷◌, if◌then◌else◌, ℕ, zero, suc, List, [], true, Contains, get_or, length, sum_by, refl, sym, ap, subst, inl, inr, ⊎_elim, arith}
use Rattle.std.proofs.lemmas.Bool.{cases_Bool, eq-eqb}
use Rattle.std.proofs.lemmas.Bool.Decides.{Decides-eqb}
use Rattle.std.proofs.lemmas.List.Elements.{Contains-append_left, Contains-append_right}
use Rattle.std.proofs.lemmas.List.Sums.{sum_by-cons}
use Rattle.hx_base.specs.declared.task.Task.{Task}
use Rattle.hx_journal.specs.declared.record.Record.{Record}
use Rattle.hx_book.specs.Books.{of_kind}
use Rattle.hx_book.specs.Tasks.{Follow, JobData, task}
use Rattle.hx_book.specs.Resumable.{done_of}
use Rattle.hx_book.proofs.Steps.{cons_cases, done_from, done_has}

-- ---- sums below a number

abbrev pub below : (ℕ → ℕ) → ℕ → ℕ
below f zero = 0
below f (suc n) = f 0 + below (λ k. f (suc k)) n

pub below_add : (f g : ℕ → ℕ) (n : ℕ) → below (λ k. f k + g k) n ≡ below f n + below g n
below_add f g zero = refl
below_add f g (suc n) = omega (arith, below_add (λ k. f (suc k)) (λ k. g (suc k)) n)

pub below_none : (f : ℕ → ℕ) (n : ℕ) → ((k : ℕ) → k < n → f k ≡ 0) → below f n ≡ 0
below_none f zero none = refl
below_none f (suc n) none = omega (arith, none 0 (omega arith), below_none (λ k. f (suc k)) n (λ k less. none (suc k) (omega (arith, less))))

pub below_same : (f g : ℕ → ℕ) (n : ℕ) → ((k : ℕ) → k < n → f k ≡ g k) → below f n ≡ below g n
below_same f g zero same = refl
below_same f g (suc n) same = omega (arith, same 0 (omega arith), below_same (λ k. f (suc k)) (λ k. g (suc k)) n (λ k less. same (suc k) (omega (arith, less))))

-- where one number counts
pub below_one : (f : ℕ → ℕ) (n m : ℕ) → m < n → ((k : ℕ) → k < n → (k ≡ m → ⊥) → f k ≡ 0) → below f n ≡ f m
below_one f zero m less others = absurd (omega (arith, less))
below_one f (suc n) zero less others = omega (arith, below_none (λ k. f (suc k)) n (λ k small. others (suc k) (omega (arith, small)) (λ e. omega (arith, e))))
below_one f (suc n) (suc m) less others =
    omega (arith, others 0 (omega arith) (λ e. omega (arith, e)), below_one (λ k. f (suc k)) n m (omega (arith, less)) (λ k small other. others (suc k) (omega (arith, small)) (λ e. other (omega (arith, e)))))

pub below_list : {X : Type 0} (f : X → ℕ) (xs : List X) (d : X) → below (λ k. f (get_or xs k d)) (length xs) ≡ sum_by f xs
below_list f [] d = refl
below_list f (x ∷ xs) d = omega (arith, sum_by-cons f x xs, below_list f xs d)

-- ---- records by their numbers

pub if_same : (m n c : ℕ) → m ≡ n → (if m == n then c else 0) ≡ c
if_same m n c same = rw (eq-eqb m n same) refl

pub if_other : (m n c : ℕ) → (m ≡ n → ⊥) → (if m == n then c else 0) ≡ 0
if_other m n c other = elim (cases_Bool (m == n)) [ inl is ↦ absurd (other ((Decides-eqb m n).0 is)) | inr not ↦ rw not refl ]

-- what the records of a number tell
abbrev telling : (Record → ℕ) → List Record → ℕ → ℕ
telling h [] n = 0
telling h (r ∷ rs) n = (if r.task.number == n then h r else 0) + telling h rs n

exchanged : (h : Record → ℕ) (rs : List Record) (n : ℕ) → ((r : Record) → Contains rs r → r.task.number < n) → below (telling h rs) n ≡ sum_by h rs
exchanged h [] n small = below_none (λ k. 0) n (λ k less. refl)
exchanged h (r ∷ rs) n small =
    let own = λ (k : ℕ). if r.task.number == k then h r else 0 in
    let one : below own n ≡ h r = below_one own n r.task.number (small r (0, omega arith, refl)) (λ k less other. if_other r.task.number k (h r) (λ e. other (sym e))) ∙ if_same r.task.number r.task.number (h r) refl in
    let rest = exchanged h rs n (λ s among. small s (suc among.0, omega (arith, among.1), among.2)) in
    below_add own (telling h rs) n ∙ omega (arith, one, rest, sum_by-cons h r rs)

-- no two records are of one number
abbrev Apart : List Record → Type 0
Apart [] = Unit {0}
Apart (r ∷ rs) = ((s : Record) → Contains rs s → s.task.number ≡ r.task.number → ⊥) × Apart rs

none_tells : (h : Record → ℕ) (rs : List Record) (n : ℕ) → ((s : Record) → Contains rs s → s.task.number ≡ n → ⊥) → telling h rs n ≡ 0
none_tells h [] n none = refl
none_tells h (r ∷ rs) n none =
    omega (arith, if_other r.task.number n (h r) (none r (0, omega arith, refl)), none_tells h rs n (λ s among. none s (suc among.0, omega (arith, among.1), among.2)))

one_tells : (h : Record → ℕ) (rs : List Record) (r : Record) → Apart rs → Contains rs r → telling h rs r.task.number ≡ h r
one_tells h [] r apart among = absurd (omega (arith, among.1))
one_tells h (x ∷ rs) r apart (zero, less, is) =
    let rest : telling h rs x.task.number ≡ 0 = none_tells h rs x.task.number apart.0 in
    let own : (if x.task.number == x.task.number then h x else 0) ≡ h x = if_same x.task.number x.task.number (h x) refl in
    let here : telling h (x ∷ rs) x.task.number ≡ h x = omega (arith, rest, own) in
    subst (λ (s : Record). telling h (x ∷ rs) s.task.number ≡ h s) is here
one_tells h (x ∷ rs) r apart (suc k, less, is) =
    let among : Contains rs r = (k, omega (arith, less), is) in
    let own : (if x.task.number == r.task.number then h x else 0) ≡ 0 = if_other x.task.number r.task.number (h x) (λ e. apart.0 r among (sym e)) in
    omega (arith, own, one_tells h rs r apart.1 among)

-- ---- the records of a kind

abbrev pub InKind : ℕ → List Record → Record → Type 0
InKind kind records r = Contains records r × (r.task.kind ≡ kind)

later_in : (kind : ℕ) (x : Record) (records : List Record) (r : Record) → InKind kind records r → InKind kind (x ∷ records) r
later_in kind x records r (there, is) = ((suc there.0, omega (arith, there.1), there.2), is)

cons_in : (kind : ℕ) (x : Record) (records kept : List Record) (r : Record) → (Contains kept r → InKind kind records r) → x.task.kind ≡ kind → Contains (x ∷ kept) r → InKind kind (x ∷ records) r
cons_in kind x records kept r rest own (zero, less, is) = ((0, omega arith, is), ap (λ (s : Record). s.task.kind) (sym is) ∙ own)
cons_in kind x records kept r rest own (suc k, less, is) = later_in kind x records r (rest (k, omega (arith, less), is))

pub kind_in : (kind : ℕ) (records : List Record) (r : Record) → Contains (of_kind kind records) r → InKind kind records r
kind_in kind [] r among = absurd (omega (arith, among.1))
kind_in kind (x ∷ records) r among =
    let rest = kind_in kind records r in
    elim (cases_Bool (x.task.kind == kind)) [
      | inl is ↦ cons_in kind x records (of_kind kind records) r rest ((Decides-eqb x.task.kind kind).0 is) (rw is at among)
      | inr not ↦ later_in kind x records r (rest (rw not at among))
    ]

in_kind : (kind : ℕ) (records : List Record) (r : Record) → Contains records r → r.task.kind ≡ kind → Contains (of_kind kind records) r
in_kind kind [] r among own = absurd (omega (arith, among.1))
in_kind kind (x ∷ records) r (zero, less, is) own =
    let here : (x.task.kind == kind) ≡ true = eq-eqb x.task.kind kind (ap (λ (s : Record). s.task.kind) is ∙ own) in
    rw here (0, omega arith, is)
in_kind kind (x ∷ records) r (suc k, less, is) own =
    let rest = in_kind kind records r (k, omega (arith, less), is) own in
    elim (cases_Bool (x.task.kind == kind)) [
      | inl here ↦ rw here (suc rest.0, omega (arith, rest.1), rest.2)
      | inr not ↦ rw not rest
    ]

-- a task that is done doesn't follow
not_again : (job : JobData) (done ts : List Task) (u : Task) → Follow job done ts → Contains ts u → Contains done u → ⊥
not_again job done [] u follow among before = omega (arith, among.1)
not_again job done (t ∷ ts) u (next, rest) among before = ⊎_elim
    (λ same. next.is_left (subst (Contains done) (sym same) before))
    (λ later. not_again job (done ++ t ∷ []) ts u rest later (Contains-append_left done (t ∷ []) u before))
    (cons_cases t u ts among)

alone : (job : JobData) (kind : ℕ) (done : List Task) (r : Record) (records : List Record) → Follow job (done ++ r.task ∷ []) (done_of records) → r.task.kind ≡ kind
    → (s : Record) → Contains (of_kind kind records) s → s.task.number ≡ r.task.number → ⊥
alone job kind done r records rest own s among number =
    let (there, is) = kind_in kind records s among in
    let same : s.task ≡ r.task = ap (λ (k : ℕ). task k s.task.number) (is ∙ sym own) ∙ ap (task r.task.kind) number in
    not_again job (done ++ r.task ∷ []) (done_of records) s.task rest (done_has records s there)
    (Contains-append_right done (r.task ∷ []) s.task (0, omega arith, sym same))

apart_of : (job : JobData) (kind : ℕ) (done : List Task) (records : List Record) → Follow job done (done_of records) → Apart (of_kind kind records)
apart_of job kind done [] follow = tt
apart_of job kind done (r ∷ records) (next, rest) =
    let others = apart_of job kind (done ++ r.task ∷ []) records rest in
    elim (cases_Bool (r.task.kind == kind)) [
      | inl is ↦ rw is (alone job kind done r records rest ((Decides-eqb r.task.kind kind).0 is), others)
      | inr not ↦ rw not others
    ]

-- What the records of a kind tell together: each of so many numbers is recorded, and its record tells what its part has
module _ {X : Type 0} (job : JobData) (kind : ℕ) (records : List Record) (follow : Follow job [] (done_of records)) (h : Record → ℕ) (f : X → ℕ) (parts : List X) (d : X)
    (each : (r : Record) → Contains records r → r.task.kind ≡ kind → (r.task.number < length parts) × (h r ≡ f (get_or parts r.task.number d)))
    (whole : (n : ℕ) → n < length parts → Contains (done_of records) (task kind n)) where
  abbrev rs : List Record
  rs = of_kind kind records

  at : (n : ℕ) → n < length parts → telling h rs n ≡ f (get_or parts n d)
  at n less =
      let (r, among, same) = done_from records (task kind n) (whole n less) in
      let own : r.task.kind ≡ kind = ap (λ (t : Task). t.kind) same in
      let number : r.task.number ≡ n = ap (λ (t : Task). t.number) same in
      let (small, tells) = each r among own in
      subst (λ (m : ℕ). telling h rs m ≡ f (get_or parts m d)) number
      (one_tells h rs r (apart_of job kind [] records follow) (in_kind kind records r among own) ∙ tells)

  pub told_together : sum_by h (of_kind kind records) ≡ sum_by f parts
  told_together =
      let small : (r : Record) → Contains rs r → r.task.number < length parts = λ r among. let (there, own) = kind_in kind records r among in (each r there own).0 in
      sym (exchanged h rs (length parts) small) ∙ below_same (telling h rs) (λ n. f (get_or parts n d)) (length parts) at ∙ below_list f parts d

pub count_ones : {X : Type 0} (xs : List X) → sum_by (λ x. 1) xs ≡ length xs
count_ones [] = refl
count_ones {X} (x ∷ xs) = omega (arith, sum_by-cons (λ (y : X). 1) x xs, count_ones xs)
