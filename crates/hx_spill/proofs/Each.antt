-- Entries one after another: what was read of the first of them.
use Rattle.std.proofs.Common.{◌≡◌, ◌∙◌, ◌+◌, ◌<◌, ◌≤◌, ◌∷◌, ◌++◌, [], ℕ, zero, suc, List, Ok, Err, length, refl, ap, arith, add-one, inl, inr, sym, take, get_or, Bool, true, false, nat_lt, drop, if◌then◌else◌, ◌&&◌, nat_le}
use Rattle.std.specs.List.{list_all}
use Rattle.std.proofs.lemmas.Bool.{cases_eq}
use Rattle.std.proofs.lemmas.Bool.Decides.{nat_tests}
use Rattle.std.proofs.lemmas.List.Folds.{list_all-append}
use Rattle.std.proofs.lemmas.List.{append_cancel_left, length-append, take-append-le, take_more}
use Rattle.std.proofs.Math.Seq.{take-length}
use Rattle.hx_base.proofs.RowValues.{value-of}
use Rattle.hx_base.specs.declared.refusal.SpillRefusal.{SpillRefusal}
use Rattle.hx_base.specs.declared.refusal.SpillRefusal.TheVariants as refusal
use Rattle.hx_spill.specs.Items.{Read, Refuses, each, item, kept, whole}

module _ {X : Type 0} (entry : List X → Read X) where
  pub each-none : each 0 entry ≡ Ok []
  unfolding each
  each-none = refl

  -- one more
  pub each-more : (n : ℕ) (xs : List X) (x : X) → each n entry ≡ Ok xs → entry xs ≡ Ok x → each (n + 1) entry ≡ Ok (xs ++ x ∷ [])
  unfolding each
  each-more n xs x read next = rw (add-one n, read, next) refl

  -- the first that isn't there
  pub each-stops : (n : ℕ) (xs : List X) (refused : SpillRefusal) → each n entry ≡ Ok xs → entry xs ≡ Err refused → each (n + 1) entry ≡ Err refused
  unfolding each
  each-stops n xs refused read next = rw (add-one n, read, next) refl

  pub each-stopped : (n i : ℕ) (refused : SpillRefusal) → i ≤ n → each i entry ≡ Err refused → each n entry ≡ Err refused
  unfolding each
  each-stopped zero i refused le at = let none : i ≡ 0 = omega arith in rw none at at
  each-stopped (suc n) i refused le at =
      elim (cases_eq i (suc n)) [
        | inl is ↦ rw is at at
        | inr not ↦ rw (each-stopped n i refused (omega arith) at) refl
      ]

  -- there are so many
  pub each-length : (n : ℕ) (xs : List X) → each n entry ≡ Ok xs → length xs ≡ n
  unfolding each
  each-length zero xs read = cc read
  each-length (suc n) xs read =
      let before = value-of (each n entry) _ xs read in
      let next = value-of (entry before.0) _ xs before.2 in
      let is : before.0 ++ next.0 ∷ [] ≡ xs = cc next.2 in
      rw (← is, length-append before.0 (next.0 ∷ [])) (omega (arith, each-length n before.0 before.1))

  -- an entry that isn't there ends them
  pub each-refuses : (n i : ℕ) (xs : List X) (refused : SpillRefusal) → i < n → each i entry ≡ Ok xs → entry xs ≡ Err refused → Refuses refused (each n entry)
  each-refuses n i xs refused lt read stop = inr (each-stopped n (i + 1) refused (omega arith) (each-stops i xs refused read stop))

  -- the first of them
  pub each-take : (n i : ℕ) (xs : List X) → i ≤ n → each n entry ≡ Ok xs → each i entry ≡ Ok (take i xs)
  unfolding each
  each-take zero i xs le read = let none : i ≡ 0 = omega arith in rw none refl
  each-take (suc n) i xs le read =
      let before = value-of (each n entry) _ xs read in
      let next = value-of (entry before.0) _ xs before.2 in
      let is : before.0 ++ next.0 ∷ [] ≡ xs = cc next.2 in
      let size = each-length n before.0 before.1 in
      elim (cases_eq i (suc n)) [
        | inl all ↦
            let long = each-length (suc n) xs read in
            let whole : take i xs ≡ xs = ap (λ k. take k xs) (all ∙ sym long) ∙ take-length xs in
            rw whole (rw all read)
        | inr not ↦
            let part : take i xs ≡ take i before.0 = ap (λ (ys : List X). take i ys) (sym is) ∙ take-append-le i before.0 (next.0 ∷ []) (omega (arith, size)) in
            rw part (each-take n i before.0 (omega arith) before.1)
      ]

  each-suc : (i : ℕ) (xs : List X) → each (i + 1) entry ≡ Ok xs → each (suc i) entry ≡ Ok xs
  each-suc i xs read = rw (← add-one i) read

  -- and the next of them
  pub each-next : (n i : ℕ) (xs : List X) (d : X) → i < n → each n entry ≡ Ok xs → entry (take i xs) ≡ Ok (get_or xs i d)
  unfolding each
  each-next n i xs d lt read =
      let size = each-length n xs read in
      let more : each (suc i) entry ≡ Ok (take (i + 1) xs) = each-suc i (take (i + 1) xs) (each-take n (i + 1) xs (omega arith) read) in
      let before = value-of (each i entry) _ (take (i + 1) xs) more in
      let next = value-of (entry before.0) _ (take (i + 1) xs) before.2 in
      let same : before.0 ≡ take i xs = cc (sym before.1 ∙ each-take n i xs (omega arith) read) in
      let there : entry (take i xs) ≡ Ok next.0 = ap entry (sym same) ∙ next.1 in
      let made : before.0 ++ next.0 ∷ [] ≡ take (i + 1) xs = cc next.2 in
      let cut : take (i + 1) xs ≡ take i xs ++ get_or xs i d ∷ [] = take_more xs i d (omega (arith, size)) in
      let last : next.0 ∷ [] ≡ get_or xs i d ∷ [] = append_cancel_left (take i xs) _ _ (ap (λ (ys : List X). ys ++ next.0 ∷ []) (sym same) ∙ made ∙ cut) in
      let is : next.0 ≡ get_or xs i d = cc last in
      there ∙ ap (λ (y : X). Ok y) is

-- Entries that ascend: each begins at or behind the ends of those before it, of which the greatest is kept.
module _ {X : Type 0} (fits : X → ℕ → Bool) (end : X → ℕ) (by_end : (x : X) (p : ℕ) → fits x p ≡ nat_le (end x) p) where
  raised : (least end p : ℕ) → least ≤ end → (nat_le least p && (nat_le end p && true)) ≡ nat_le end p
  raised least end p le = grind (arith, nat_tests)

  pub ends-more : (xs : List X) (x : X) (least : ℕ) → least ≤ end x → ((p : ℕ) → list_all (λ other. fits other p) xs ≡ nat_le least p)
      → (p : ℕ) → list_all (λ other. fits other p) (xs ++ x ∷ []) ≡ nat_le (end x) p
  ends-more xs x least le before p =
      list_all-append (λ other. fits other p) xs (x ∷ [])
      ∙ rw (before p, by_end x p) (raised least (end x) p le)

-- a value that was kept keeps its rule
pub kept-is : {X : Type 0} (keeps : Bool) (x y : X) (place : ℕ) → Ok x ≡ kept keeps y place → (keeps ≡ true) × (x ≡ y)
kept-is true x y place is = (refl, cc is)
kept-is false x y place is = cc is

-- an item that was read keeps its rule
pub item-keeps : {X : Type 0} (width : ℕ) (value : List ℕ → X) (keeps : X → Bool) (place : ℕ) (bytes : List ℕ) (x : X) → item width value keeps place bytes ≡ Ok x → keeps x ≡ true
item-keeps width value keeps place bytes x is =
    let found = value-of (whole width value place bytes) _ x is in
    let kept = kept-is (keeps found.0) x found.0 place (sym found.2) in
    rw kept.1 kept.0

-- and is what stands at its place
pub item-value : {X : Type 0} (width : ℕ) (value : List ℕ → X) (keeps : X → Bool) (place : ℕ) (bytes : List ℕ) (x : X) → item width value keeps place bytes ≡ Ok x → x ≡ value (drop place bytes)
item-value width value keeps place bytes x is =
    let found = value-of (whole width value place bytes) _ x is in
    let kept = kept-is (keeps found.0) x found.0 place (sym found.2) in
    kept.1 ∙ whole-value (nat_lt (length bytes) (place + width)) found.0 (value (drop place bytes)) place found.1
  where
    whole-value : {X : Type 0} (short : Bool) (x y : X) (place : ℕ) → (if short then Err (refusal.Damaged place) else Ok y) ≡ Ok x → x ≡ y
    whole-value true x y place is = cc is
    whole-value false x y place is = cc is
