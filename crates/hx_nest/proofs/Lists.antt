-- A number put into an ascending list at its index.
use Rattle.std.proofs.Common.{◌≡◌, ◌≢◌, ◌∙◌, ◌+◌, ◌-◌, ◌<◌, ◌≤◌, ◌⊎◌, ◌↔◌, ◌∷◌, ◌++◌, [], ℕ, List, length, get_or, set, take, drop, sym, ap, arith, inl, inr, subst, zero, suc}
use Rattle.std.specs.List.{insert, between, AllWithin, Contains}
use Rattle.std.proofs.lemmas.List.{take_at, drop_at, take-take, take-set, take-set-le, take-append-drop, get_or_default, length-set, get_or-set_same, get_or-take, length-take-le}
use Rattle.std.proofs.lemmas.List.Edits.{between_more, length-between, length-insert}
use Rattle.std.proofs.lemmas.List.Elements.{Contains-append_left, Contains-append_right, Contains-append_cases, Contains-get_or}
use Rattle.std.proofs.lemmas.Slice.{between_is, take-put_mid}
use borrow.Rule.Slice.PartMut.{put_mid}
use Rattle.hx_base.proofs.Ascending.{ascends-insert, is_index_for}
use Rattle.hx_nest.specs.Lists.{Ascends, Adds}

-- a number behind the first ones, turned to the front of those from a index on
pub put : (xs ys : List ℕ) (count index y : ℕ) → count < length xs → index ≤ count
    → let part = between index (count + 1) (set xs count y) in ys ≡ drop (length part - 1) part ++ take (length part - 1) part
    → take (count + 1) (put_mid index (count + 1 - index) (set xs count y) ys) ≡ insert (take count xs) index y
put xs ys count index y room le turned =
    let zs = set xs count y in
    let size : length (set xs count y) ≡ length xs = length-set xs count y in
    let kept = between index count (set xs count y) in
    let part : between index (count + 1) (set xs count y) ≡ between index count (set xs count y) ++ y ∷ [] = between_more (set xs count y) index count 0 le (omega arith) ∙ ap (λ (z : ℕ). between index count (set xs count y) ++ z ∷ []) (get_or-set_same xs count y 0 room) in
    let long : length (between index (count + 1) (set xs count y)) ≡ count + 1 - index = length-between (set xs count y) index (count + 1) (omega arith) in
    let short : length (between index count (set xs count y)) ≡ count - index = length-between (set xs count y) index count (omega arith) in
    let m : length (between index (count + 1) (set xs count y)) - 1 ≡ count - index = omega arith in
    let same : between index count (set xs count y) ≡ drop index (take count xs) = between_is (set xs count y) index count ∙ ap (λ (l : List ℕ). drop index l) (take-set xs count y) in
    let new : ys ≡ y ∷ between index count (set xs count y) =
    turned ∙ ap (λ (k : ℕ). drop k (between index (count + 1) (set xs count y)) ++ take k (between index (count + 1) (set xs count y))) m ∙ ap (λ (l : List ℕ). drop (count - index) l ++ take (count - index) l) part
    ∙ ap (λ (l : List ℕ). l ++ take (count - index) (between index count (set xs count y) ++ y ∷ [])) (drop_at (between index count (set xs count y)) (y ∷ []) (count - index) short)
    ∙ ap (λ (l : List ℕ). y ∷ l) (take_at (between index count (set xs count y)) (y ∷ []) (count - index) short) in
    let n : length ys ≡ count + 1 - index = ap length new ∙ omega (arith, short) in
    take-put_mid index (count + 1 - index) (set xs count y) ys (count + 1) (omega arith) (omega arith)
    ∙ ap (λ (l : List ℕ). l ++ ys) (take-set-le index xs count y le)
    ∙ ap (λ (l : List ℕ). take index xs ++ l) (new ∙ ap (λ (l : List ℕ). y ∷ l) same)
    ∙ ap (λ (l : List ℕ). l ++ y ∷ drop index (take count xs)) (sym (take-take index count xs le))

-- what an insertion holds
alone : (y q : ℕ) → Contains (y ∷ []) q → q ≡ y
alone y q (zero, lt, e) = sym e
alone y q (suc k, lt, e) = absurd (omega arith)

here : (y q : ℕ) → q ≡ y → Contains (y ∷ []) q
here y q e = (0, omega arith, sym e)

contains_insert : (xs : List ℕ) (i y q : ℕ) → Contains (insert xs i y) q ↔ (Contains xs q ⊎ (q ≡ y))
contains_insert xs i y q =
    let P : List ℕ → Type 0 = λ l. Contains l q in
    let whole = take-append-drop i xs in (
      λ h.
          elim (Contains-append_cases (take i xs) (y ∷ drop i xs) q h) [
            | inl front ↦ inl (subst P whole (Contains-append_left (take i xs) (drop i xs) q front))
            | inr back ↦
                elim (Contains-append_cases (y ∷ []) (drop i xs) q back) [
                  | inl at ↦ inr (alone y q at)
                  | inr rest ↦ inl (subst P whole (Contains-append_right (take i xs) (drop i xs) q rest))
                ]
          ],
      λ h.
          elim h [
            | inl old ↦
                elim (Contains-append_cases (take i xs) (drop i xs) q (subst P (sym whole) old)) [
                  | inl front ↦ Contains-append_left (take i xs) (y ∷ drop i xs) q front
                  | inr rest ↦ Contains-append_right (take i xs) (y ∷ drop i xs) q (Contains-append_right (y ∷ []) (drop i xs) q rest)
                ]
            | inr at ↦ Contains-append_right (take i xs) (y ∷ drop i xs) q (Contains-append_left (y ∷ []) (drop i xs) q (here y q at))
          ],
    )

pub adds_insert : (xs : List ℕ) (i y : ℕ) → i ≤ length xs → AllWithin (λ x. x < y) xs 0 i → AllWithin (λ x. y ≤ x) xs i (length xs) → (i < length xs → get_or xs i 0 ≡ y → ⊥) → Ascends xs → Adds y xs (insert xs i y)
adds_insert xs i y within before after other up = record {
  ascending =
      let off : (d : ℕ) → i < length xs → get_or xs i d ≢ y = λ d lt same. other lt (get_or_default xs i 0 d lt ∙ same) in
      ascends-insert (λ (x : ℕ). x) y i xs (is_index_for (λ (x : ℕ). x) y i xs up within before after off) up;
  members = contains_insert xs i y;
  count = omega (arith, length-insert xs i y within);
}

pub adds_none : (xs : List ℕ) (i y : ℕ) → i < length xs → get_or xs i 0 ≡ y → Ascends xs → Adds y xs xs
adds_none xs i y within e up = record {
  ascending = up;
  members = λ q. (λ h. inl h, λ h. elim h [ inl old ↦ old | inr at ↦ subst (λ (z : ℕ). Contains xs z) (e ∙ sym at) (Contains-get_or xs i 0 within) ]);
  count = omega arith;
}

-- the same for the first numbers of a longer list
module _ (xs view : List ℕ) (count i y : ℕ) (long : count ≤ length xs) (is : take count xs ≡ view) (within : i ≤ length (take count xs)) where
  pub kept_insert : (new : List ℕ) → new ≡ insert (take count xs) i y → AllWithin (λ x. x < y) (take count xs) 0 i → AllWithin (λ x. y ≤ x) (take count xs) i (length (take count xs)) → (i ≡ count) ⊎ (get_or xs i 0 ≡ y → ⊥)
      → Ascends view → Adds y view new
  kept_insert new e before after other up =
      let size = length-take-le count xs long in
      let off : i < length (take count xs) → get_or (take count xs) i 0 ≡ y → ⊥ = λ lt same.
      elim other [
        | inl at ↦ absurd (omega arith)
        | inr ne ↦ ne (sym (get_or-take count xs i 0 (omega arith)) ∙ same)
      ] in
      let P : List ℕ → Type 0 = λ l. Ascends l → Adds y l new in
      subst P is (λ a. subst (λ (l : List ℕ). Adds y (take count xs) l) (sym e) (adds_insert (take count xs) i y within before after off a)) up

  pub kept_none : (i ≡ count → ⊥) → get_or xs i 0 ≡ y → Ascends view → Adds y view view
  kept_none ne e up =
      let size = length-take-le count xs long in
      let P : List ℕ → Type 0 = λ l. Ascends l → Adds y l l in
      subst P is (λ a. adds_none (take count xs) i y (omega arith) (get_or-take count xs i 0 (omega arith) ∙ e) a) up
