-- The parents of touching pixels are equal or touch, since a step halves to a step.
use Rattle.std.proofs.Common.{◌≡◌, ◌∙◌, ◌==◌, ◌+◌, ◌-◌, ◌*◌, ◌/◌, ◌^◌, ◌⊎◌, ℕ, Bool, Option, Some, None, true, false, zero, suc, refl, sym, ap, subst, arith, inl, inr, slice_index, if◌then◌else◌, nat_lt, add-one}
use Rattle.std.proofs.lemmas.Bool.{cases_eq, cases_Bool}
use Rattle.std.proofs.lemmas.Nat.{pow_pos}
use Rattle.std.proofs.Math.Nat.{div-div-eq-div-mul, div-one, pow-suc, pow-succ'}
use Rattle.hx_base.specs.Touching.{IsAt, Touch, interleave}
use Rattle.hx_nest.specs.declared.spot.FaceXy.{FaceXy}
use Rattle.hx_nest.specs.declared.side.Side.{Side}
use Rattle.hx_nest.specs.declared.side.Side.TheVariants.{South, SouthEast, East, SouthWest, NorthEast, West, NorthWest, North}
use Rattle.hx_nest.specs.declared.step.Coordinate.{Coordinate}
use Rattle.hx_nest.specs.declared.step.Coordinate.TheVariants.{Below, Within, Above}
use Rattle.hx_nest.specs.Sides.{faces_beyond, beyond}
use Rattle.hx_nest.specs.Steps.{HasPlace, IsNear, across, pixel_at}
use Rattle.hx_nest.proofs.Reached.{SharesCorner, Steps, steps}
use Rattle.hx_nest.proofs.Touches.{touch_at, same_pixel, step_touches, below_power}

-- a pixel's parent has half its coordinates
parent_at : (k p f x y : ℕ) → IsAt (suc k) p f x y → IsAt k (p / 4) f (x / 2) (y / 2)
parent_at k p f x y here =
    let two = pow-suc 2 k in
    let four = pow-suc 4 k in
    let hx = here.x_range in
    let hy = here.y_range in
    let number : p ≡ f * (4 ^ k * 4) + interleave (suc k) x y = rw (← four) here.number in
    record { face_range = here.face_range; x_range = omega arith; y_range = omega arith; number = omega arith }

halve : Coordinate → Coordinate
halve (Within a) = Within (a / 2)
halve Below = Below
halve Above = Above

near_half : (last x : ℕ) (px : Coordinate) → IsNear (2 * last + 1) x px → IsNear last (x / 2) (halve px)
unfolding halve
near_half last x (Within a) near = (omega (arith, near), omega (arith, near), omega (arith, near))
near_half last x Below near = omega arith
near_half last x Above near = omega arith

-- two pairs of which one is half the other
abbrev IsHalf : ℕ × ℕ → ℕ × ℕ → Type 0
IsHalf half whole = (half.0 ≡ whole.0 / 2) × (half.1 ≡ whole.1 / 2)

either : (b : Bool) (p q r s : ℕ × ℕ) → IsHalf p q → IsHalf r s → IsHalf (if b then p else r) (if b then q else s)
either true p q r s h k = h
either false p q r s h k = k

module _ (last f x y u v : ℕ) (hu : u ≡ x / 2) (hv : v ≡ y / 2) where
  all : last ≡ (2 * last + 1) / 2
  all = omega arith

  none : 0 ≡ 0 / 2
  none = refl

  beyond_half : (side : Side) → IsHalf (beyond last side f u v) (beyond (2 * last + 1) side f x y)
  beyond_half South = either (nat_lt f 8) (last, last) (2 * last + 1, 2 * last + 1) (0, 0) (0, 0) (all, all) (none, none)
  beyond_half SouthEast = either (nat_lt f 8) (u, last) (x, 2 * last + 1) (0, u) (0, x) (hu, all) (none, hu)
  beyond_half East = (none, all)
  beyond_half SouthWest = either (nat_lt f 8) (last, v) (2 * last + 1, y) (v, 0) (y, 0) (all, hv) (hv, none)
  beyond_half NorthEast = either (nat_lt f 4) (v, last) (y, 2 * last + 1) (0, v) (0, y) (hv, all) (none, hv)
  beyond_half West = (all, none)
  beyond_half NorthWest = either (nat_lt f 4) (last, u) (2 * last + 1, x) (u, 0) (x, 0) (all, hu) (hu, none)
  beyond_half North = either (nat_lt f 4) (last, last) (2 * last + 1, 2 * last + 1) (0, 0) (0, 0) (all, all) (none, none)

  across_half : (side : Side) (g a b : ℕ) → across (2 * last + 1) side f x y ≡ Some (record { face = g; x = a; y = b }) → across last side f u v ≡ Some (record { face = g; x = a / 2; y = b / 2 })
  across_half side g a b e =
      let there = slice_index (faces_beyond side) f in
      let half = beyond_half side in
      elim (cases_Bool (there == 12)) [
        | inl nothing ↦ let nowhere : across (2 * last + 1) side f x y ≡ None = rw nothing refl in cc
        | inr some ↦
            let its : FaceXy = record { face = slice_index (faces_beyond side) f; x = (beyond (2 * last + 1) side f x y).0; y = (beyond (2 * last + 1) side f x y).1 } in
            let given : FaceXy = record { face = g; x = a; y = b } in
            let o : across (2 * last + 1) side f x y ≡ Some its = rw some refl in
            let same : its ≡ given = cc in
            let s : slice_index (faces_beyond side) f ≡ g = ap (λ (z : FaceXy). z.face) same in
            let px : (beyond last side f u v).0 ≡ a / 2 = half.0 ∙ ap (λ (z : FaceXy). z.x / 2) same in
            let py : (beyond last side f u v).1 ≡ b / 2 = half.1 ∙ ap (λ (z : FaceXy). z.y / 2) same in
            rw (some, s, px, py) refl
      ]

pixel_half : (last f g a b : ℕ) (px py : Coordinate) → pixel_at (2 * last + 1) f px py ≡ Some (record { face = g; x = a; y = b }) → pixel_at last f (halve px) (halve py) ≡ Some (record { face = g; x = a / 2; y = b / 2 })
unfolding halve
pixel_half last f g a b (Within x) (Within y) e =
    let its : FaceXy = record { face = f; x = x; y = y } in
    let given : FaceXy = record { face = g; x = a; y = b } in
    let same : its ≡ given = cc in
    ap (λ (z : FaceXy). Some (record { face = z.face; x = z.x / 2; y = z.y / 2 })) same
pixel_half last f g a b Below Below e = across_half last f 0 0 0 0 refl refl South g a b e
pixel_half last f g a b (Within x) Below e = across_half last f x 0 (x / 2) 0 refl refl SouthEast g a b e
pixel_half last f g a b Above Below e = across_half last f (2 * last + 1) 0 last 0 (omega arith) refl East g a b e
pixel_half last f g a b Below (Within y) e = across_half last f 0 y 0 (y / 2) refl refl SouthWest g a b e
pixel_half last f g a b Above (Within y) e = across_half last f (2 * last + 1) y last (y / 2) (omega arith) refl NorthEast g a b e
pixel_half last f g a b Below Above e = across_half last f 0 (2 * last + 1) 0 last refl (omega arith) West g a b e
pixel_half last f g a b (Within x) Above e = across_half last f x (2 * last + 1) (x / 2) last refl (omega arith) NorthWest g a b e
pixel_half last f g a b Above Above e = across_half last f (2 * last + 1) (2 * last + 1) last last (omega arith) (omega arith) North g a b e

-- what leads to a pixel leads its parent to that pixel's parent
module _ (k p q f x y g a b last : ℕ) (here : IsAt (suc k) p f x y) (there : IsAt (suc k) q g a b) (size : last + 1 ≡ 2 ^ k) where
  by_step : Steps (2 * last + 1) f x y g a b → (p / 4 ≡ q / 4) ⊎ Touch k (p / 4) (q / 4)
  by_step (px, py, nx, ny, e) =
      let mine = parent_at k p f x y here in
      let its = parent_at k q g a b there in
      let half = pixel_half last f g a b px py e in
      elim (cases_eq (p / 4) (q / 4)) [
        | inl same ↦ inl same
        | inr other ↦
            inr (step_touches k (p / 4) f (x / 2) (y / 2) last mine size (halve px) (halve py) (near_half last x px nx) (near_half last y py ny)
            (λ ex ey. other (same_pixel k (p / 4) (q / 4) f (x / 2) (y / 2) g (a / 2) (b / 2) last (halve px) (halve py) mine its half ex ey)) (q / 4) (subst (λ (z : Option FaceXy). HasPlace k z (q / 4)) (sym half) its))
      ]

double : (k last : ℕ) → last + 1 ≡ 2 ^ k → 2 * last + 1 + 1 ≡ 2 ^ suc k
double k last e = omega (arith, pow-suc 2 k)

pub parents : (k p q f x y : ℕ) → IsAt (suc k) p f x y → Touch (suc k) p q → (p / 4 ≡ q / 4) ⊎ Touch k (p / 4) (q / 4)
parents k p q f x y here touch =
    let t = touch_at (suc k) p q f x y here touch in
    let last = 2 ^ k - 1 in
    let size : 2 ^ k - 1 + 1 ≡ 2 ^ k = omega (arith, pow_pos k) in
    let sizes = double k (2 ^ k - 1) size in
    let at = t.at in
    by_step k p q f x y t.face t.a t.b last here at size
    (steps (2 * (2 ^ k - 1) + 1) f x y t.face t.a t.b here.face_range at.face_range (below_power (suc k) (2 * (2 ^ k - 1) + 1) x sizes here.x_range) (below_power (suc k) (2 * (2 ^ k - 1) + 1) y sizes here.y_range)
    (below_power (suc k) (2 * (2 ^ k - 1) + 1) t.a sizes at.x_range) (below_power (suc k) (2 * (2 ^ k - 1) + 1) t.b sizes at.y_range) (subst (λ (n : ℕ). SharesCorner n f x y t.face t.a t.b) (sym sizes) t.shares))

pub parents_touch : (k p q : ℕ) → Touch (k + 1) p q → (p / 4 ≡ q / 4) ⊎ Touch k (p / 4) (q / 4)
parents_touch k p q touch =
    let next : Touch (suc k) p q = subst (λ (j : ℕ). Touch j p q) (add-one k) touch in
    let corner = next.shared.1 in
    parents k p q corner.0 corner.1 corner.2 corner.5 next

-- an ancestor is a parent's ancestor
by_parent : (p steps : ℕ) → p / 4 ^ suc steps ≡ p / 4 / 4 ^ steps
by_parent p steps = ap (λ (d : ℕ). p / d) (pow-succ' 4 steps) ∙ sym (div-div-eq-div-mul p 4 (4 ^ steps))

-- and so any number of orders up
pub ancestors_touch : (steps k p q : ℕ) → Touch (k + steps) p q → (p / 4 ^ steps ≡ q / 4 ^ steps) ⊎ Touch k (p / 4 ^ steps) (q / 4 ^ steps)
ancestors_touch zero k p q touch =
    let none : k + 0 ≡ k = omega arith in
    inr (rw (div-one p, div-one q) (subst (λ (j : ℕ). Touch j p q) none touch))
ancestors_touch (suc steps) k p q touch =
    let next : k + suc steps ≡ k + steps + 1 = omega arith in
    let up = parents_touch (k + steps) p q (subst (λ (j : ℕ). Touch j p q) next touch) in
    rw (by_parent p steps, by_parent q steps) (
    elim up [
      | inl same ↦ inl (ap (λ (n : ℕ). n / 4 ^ steps) same)
      | inr parents ↦ ancestors_touch steps k (p / 4) (q / 4) parents
    ]
    )
