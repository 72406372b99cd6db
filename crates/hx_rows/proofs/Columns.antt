-- The index of the one field that passes a test.
use Rattle.std.proofs.Common.{Bor, MatchOption, Option, ap, map, ◌∙◌, codes, [], ◌∷◌, cond, inl, inr, nat_lt, length-take, ◌≡◌, ◌+◌, ◌≤◌, ◌<◌, Bool, List, ℕ, Some, None, Ok, Err, arith, count_by, false, get_or, length, sym, take, true, refl}
use Rattle.std.proofs.lemmas.Bool.{cases_Bool, cond-false, lt-ltb, ne_eqb}
use Rattle.std.proofs.lemmas.List.{get_or-map, get_or-take, length-map, take_all}
use Rattle.std.proofs.lemmas.List.Sums.{get_or-le-sum_by, count_by_more_yes, sum_by-take-le, position_or_len_is}
use Rattle.std.specs.Option.{is_some, ok_or}
use Rattle.std.specs.Str.{bytes_eq}
use Rattle.hx_base.specs.Columns.{column_names}
use Rattle.hx_rows.specs.Csv.{column_of, columns_of}
use Rattle.hx_rows.specs.declared.fault.Fault.TheVariants as fault

-- of the first n elements, one alone passes, and it stands at k
pub record IsOnlyIndex {X : Type 0} (p : X → Bool) (xs : List X) (n k : ℕ) : Type 0 where
  pub below : k < n
  pub passes : (d : X) → p (get_or xs k d) ≡ true
  pub none_before : count_by p (take k xs) ≡ 0
  pub once : count_by p (take n xs) ≡ 1

-- where no element passes, none does at an index
counted : {X : Type 0} (p : X → Bool) (xs : List X) (k i : ℕ) (d : X) → count_by p (take k xs) ≡ 0 → k ≤ length xs → i < k → p (get_or xs i d) ≡ false
counted p xs k i d none within h =
    let at = get_or-le-sum_by (λ x. cond (p x) 1 0) (take k xs) i d (omega (arith, length-take k xs)) in
    let e = get_or-take k xs i d h in
    let here = rw e at at in
    elim (cases_Bool (p (get_or xs i d))) [ inl e ↦ absurd (omega (arith, rw e at here)) | inr e ↦ e ]

pub column-found : (fields : List (List ℕ)) (name : List ℕ) (k : ℕ) → IsOnlyIndex (bytes_eq name) fields (length fields) k → Ok k ≡ column_of fields name
unfolding column_of
column-found fields name k h =
    let p = bytes_eq name in
    let whole = take_all (length fields) fields (omega arith) in
    let count = rw whole at h.once in
    let first = position_or_len_is p fields k [] (omega arith) (λ i below. counted p fields k i [] h.none_before (omega arith) below) (λ _. h.passes []) in
    let inside : nat_lt k (length fields) ≡ true = lt-ltb k (length fields) h.below in
    rw (count, first, inside) refl

pub column-missing : (fields : List (List ℕ)) (name : List ℕ) → count_by (bytes_eq name) (take (length fields) fields) ≡ 0 → Err fault.Header ≡ column_of fields name
unfolding column_of
column-missing fields name h =
    let whole = take_all (length fields) fields (omega arith) in
    let count = rw whole at h in
    rw count refl

pub column-twice : (fields : List (List ℕ)) (name : List ℕ) (n : ℕ) → 2 ≤ count_by (bytes_eq name) (take n fields) → Err fault.Header ≡ column_of fields name
unfolding column_of
column-twice fields name n h =
    let more = sum_by-take-le (λ x. cond (bytes_eq name x) 1 0) fields n in
    sym (cond-false _ _ _ (ne_eqb (count_by (bytes_eq name) fields) 1 (λ e. omega (arith, more))))

-- what the loop over the header found
pub column-known : (fields : List (List ℕ)) (name : List ℕ) (n : ℕ) (found : Option ℕ) → n ≡ length fields
    → MatchOption found (count_by (bytes_eq name) (take n fields) ≡ 0) (IsOnlyIndex (bytes_eq name) fields n) → ok_or found fault.Header ≡ column_of fields name
column-known fields name n None end h = column-missing fields name (rw end at h)
column-known fields name n (Some k) end h = column-found fields name k (rw end at h)

pub column-again : (fields : List (List ℕ)) (name : List ℕ) (n : ℕ) (found : Option ℕ) → n < length fields → bytes_eq name (get_or fields n []) ≡ true
    → MatchOption found (count_by (bytes_eq name) (take n fields) ≡ 0) (IsOnlyIndex (bytes_eq name) fields n) → is_some found ≡ true → Err fault.Header ≡ column_of fields name
column-again fields name n None within here h some = cc
column-again fields name n (Some k) within here h some = column-twice fields name (n + 1) (omega (arith, count_by_more_yes (bytes_eq name) fields n [] within here, h.once))

-- the names that a call gives
pub name-at : (names : List (Bor (List ℕ))) (d : Bor (List ℕ)) (k : ℕ) → map (λ name. name.now) names ≡ column_names → k < 5 → (get_or names k d).now ≡ get_or column_names k []
name-at names d k is low =
    let name_of = λ (name : Bor (List ℕ)). name.now in
    sym (get_or-map name_of names k d [] (omega (arith, ap length is, length-map names name_of))) ∙ ap (λ found. get_or found k []) is

-- the five columns
pub columns-known : (header : List (List ℕ)) (hp id x y z : ℕ)
    → Ok hp ≡ column_of header (codes "_healpix_29") → Ok id ≡ column_of header (codes "id") → Ok x ≡ column_of header (codes "cx")
    → Ok y ≡ column_of header (codes "cy") → Ok z ≡ column_of header (codes "cz")
    → Ok (hp ∷ id ∷ x ∷ y ∷ z ∷ []) ≡ columns_of header
unfolding columns_of
columns-known header hp id x y z a b c d e = rw (← a, ← b, ← c, ← d, ← e) refl
