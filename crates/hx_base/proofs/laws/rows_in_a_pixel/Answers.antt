use Rattle.std.proofs.Common.{◌≡◌, ◌==◌, ◌∷◌, ◌<◌, Bool, Contains, List, [], get_or, arith, filter, length, refl, suc, true, zero, ℕ, inl, inr}
use Rattle.std.proofs.lemmas.Bool.{cases_Bool}
use Rattle.std.proofs.lemmas.Bool.Decides.{Decides-eqb}
use Rattle.std.proofs.lemmas.List.Elements.{All-contains, filter_passes}
use Rattle.hx_base.specs.Pixels.{pixel_of}
use Rattle.hx_base.specs.declared.row.Row.{Row}
use Rattle.hx_base.proofs.laws.rows_in_a_pixel.Goals as goal

-- what stands in the rest of a list, and what stands first
later : {X : Type 0} (y x : X) (xs : List X) → Contains xs x → Contains (y ∷ xs) x
later y x xs h = (suc h.0, omega (arith, h.1), h.2)

first : {X : Type 0} (x : X) (xs : List X) → Contains (x ∷ xs) x
first x xs = (0, omega arith, refl)

-- a member of one list with y before it is a member of another with y before it, if the rests agree
in_rest : {X : Type 0} (y x : X) (zs xs : List X) (k : ℕ) → (Contains zs x → Contains xs x) → k < length (y ∷ zs) → get_or (y ∷ zs) k x ≡ x → Contains (y ∷ xs) x
in_rest y x zs xs zero f below is = (0, omega arith, is)
in_rest y x zs xs (suc k) f below is = later y x xs (f (k, omega (arith, below), is))

-- what a filter keeps was there
kept : {X : Type 0} (p : X → Bool) (xs : List X) (x : X) → Contains (filter p xs) x → Contains xs x
kept p [] x h = h
kept p (y ∷ ys) x h =
    let rest = kept p ys x in
    elim (cases_Bool (p y)) [
      | inl e ↦ let g = rw e at h in in_rest y x (filter p ys) ys g.0 rest g.1 g.2
      | inr e ↦ later y x ys (rest (rw e at h))
    ]

-- what was there and passes is kept
passed : {X : Type 0} (p : X → Bool) (xs : List X) (k : ℕ) (x : X) → p x ≡ true → (k < length xs) × (get_or xs k x ≡ x) → Contains (filter p xs) x
passed p [] k x ok h = absurd (omega (arith, h.0))
passed p (y ∷ ys) zero x ok h = rw (h.1, ok) (first x (filter p ys))
passed p (y ∷ ys) (suc k) x ok h =
    let rest = passed p ys k x ok (omega (arith, h.0), h.1) in
    elim (cases_Bool (p y)) [
      | inl e ↦ rw e (later y x (filter p ys) rest)
      | inr e ↦ rw e rest
    ]

pub returns : goal.returns
returns c = λ pixel rows row.
    let test = λ (r : Row). pixel_of pixel.order r.hp == pixel.number in (
      λ h. (kept test rows row h, (Decides-eqb _ _).0 (All-contains (λ r. test r ≡ true) (filter test rows) row (filter_passes test rows) h)),
      λ h. passed test rows h.0.0 row ((Decides-eqb _ _).1 h.1) (h.0.1, h.0.2),
    )
