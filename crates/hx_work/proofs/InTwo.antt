-- Sorted lists in two: what stands below a bound, and what stands at or above it.
use Rattle.std.proofs.Common.{◌≡◌, ◌∙◌, ◌++◌, ◌∷◌, ◌||◌, [], List, Bool, true, false, filter, refl, sym, ap, inl, inr}
use Rattle.std.specs.Ordering.{is_gt}
use Rattle.std.specs.declared.cmp.Ordering.{Ordering}
use Rattle.std.proofs.lemmas.Bool.{cases_Bool}
use Rattle.hx_base.specs.Sorted.{placed, sorted}

module _ {X : Type 0} (R : X → X → Ordering) (low high : X → Bool) (below : (x y : X) → low x ≡ true → high y ≡ true → is_gt (R x y) ≡ false) (above : (x y : X) → low x ≡ true → high y ≡ true → is_gt (R y x) ≡ true) where
  -- a test that holds of each element
  abbrev Each : (X → Bool) → List X → Type 0
  Each p [] = Unit {0}
  Each p (x ∷ xs) = (p x ≡ true) × Each p xs

  each_filter : (p : X → Bool) (xs : List X) → Each p (filter p xs)
  each_filter p [] = tt
  each_filter p (x ∷ xs) =
      elim (cases_Bool (p x)) [
        | inl is ↦ rw is (is, each_filter p xs)
        | inr off ↦ rw off (each_filter p xs)
      ]

  each_placed : (p : X → Bool) (x : X) (xs : List X) → p x ≡ true → Each p xs → Each p (placed R x xs)
  each_placed p x [] h e = (h, tt)
  each_placed p x (y ∷ ys) h e =
      elim (cases_Bool (is_gt (R x y))) [
        | inl g ↦ rw g (e.0, each_placed p x ys h e.1)
        | inr g ↦ rw g (h, e)
      ]

  each_sorted : (p : X → Bool) (xs : List X) → Each p xs → Each p (sorted R xs)
  each_sorted p [] e = tt
  each_sorted p (x ∷ xs) e = each_placed p x (sorted R xs) e.0 (each_sorted p xs e.1)

  -- a low element has its place before the high ones
  placed_low : (x : X) (xs ys : List X) → low x ≡ true → Each high ys → placed R x (xs ++ ys) ≡ placed R x xs ++ ys
  placed_low x [] [] h e = refl
  placed_low x [] (y ∷ ys) h e = rw (below x y h e.0) refl
  placed_low x (z ∷ xs) ys h e =
      elim (cases_Bool (is_gt (R x z))) [
        | inl g ↦ rw g (ap (λ (zs : List X). z ∷ zs) (placed_low x xs ys h e))
        | inr g ↦ rw g refl
      ]

  -- a high one behind the low ones
  placed_high : (x : X) (xs ys : List X) → high x ≡ true → Each low xs → placed R x (xs ++ ys) ≡ xs ++ placed R x ys
  placed_high x [] ys h e = refl
  placed_high x (z ∷ xs) ys h e = rw (above z x e.0 h) (ap (λ (zs : List X). z ∷ zs) (placed_high x xs ys h e.1))

  excluded : (x : X) → low x ≡ true → high x ≡ true → ⊥
  excluded x l h = cc (sym (below x x l h) ∙ above x x l h)

  not_high : (x : X) → low x ≡ true → high x ≡ false
  not_high x l =
      elim (cases_Bool (high x)) [
        | inl h ↦ absurd (excluded x l h)
        | inr h ↦ h
      ]

  abbrev pub either : X → Bool
  either x = low x || high x

  -- what is low or high, sorted, is what is low, sorted, and what is high behind it
  pub sorted_in_two : (xs : List X) → sorted R (filter either xs) ≡ sorted R (filter low xs) ++ sorted R (filter high xs)
  sorted_in_two [] = refl
  sorted_in_two (x ∷ xs) =
      elim (cases_Bool (low x)) [
        | inl l ↦ rw (l, not_high x l) (ap (placed R x) (sorted_in_two xs) ∙ placed_low x (sorted R (filter low xs)) (sorted R (filter high xs)) l (each_sorted high (filter high xs) (each_filter high xs)))
        | inr l ↦
            elim (cases_Bool (high x)) [
              | inl h ↦ rw (l, h) (ap (placed R x) (sorted_in_two xs) ∙ placed_high x (sorted R (filter low xs)) (sorted R (filter high xs)) h (each_sorted low (filter low xs) (each_filter low xs)))
              | inr h ↦ rw (l, h) (sorted_in_two xs)
            ]
      ]
