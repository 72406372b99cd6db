-- A pixel away from the edge of a larger pixel touches only pixels that lie there too.
use Rattle.std.proofs.Common.{◌≡◌, ◌∙◌, ◌+◌, ◌-◌, ◌*◌, ◌/◌, ◌%◌, ◌^◌, ◌<◌, ◌≤◌, ◌↔◌, ℕ, zero, suc, sym, ap, subst, arith, inl, inr}
use Rattle.std.proofs.lemmas.Nat.{pow-add, div-add-mod', div_below, pow_pos, same_from_place}
use Rattle.std.proofs.Math.Nat.{div-div-eq-div-mul, div-one, pow-suc, pow-succ', mod-lt}
use Rattle.hx_base.specs.Touching.{HasCorner, IsAt, Touch, corner_point, interleave}
use Rattle.hx_nest.specs.Sides.{AreOneCorner, LiesOn}
use Rattle.hx_nest.specs.declared.side.Side.{Side}
use Rattle.hx_nest.specs.declared.side.Side.TheVariants.{South, SouthEast, East, SouthWest, NorthEast, West, NorthWest, North}
use Rattle.hx_nest.proofs.Interleaved.{one_place}
use Rattle.hx_margin.specs.Inner.{IsInBlock, IsInner}

-- a coordinate that moves by one from within a block stays there
block_stays : (s x a i l : ℕ) → 0 < x % s → x % s + 1 < s → i ≤ 1 → l ≤ 1 → x + i ≡ a + l → a / s ≡ x / s
block_stays s x a i l first last hi hl e =
    let some : 0 < s = omega (arith, last) in
    let here = div-add-mod' x s in
    let there = div-add-mod' a s in
    let own = mod-lt a some in
    let rest : x % s + i - l < s = omega (arith, last, hi) in
    let sum : a / s * s + a % s ≡ x / s * s + (x % s + i - l) = omega (arith, here, there, e, first, hl) in
    (same_from_place (a / s) (a % s) (x / s) (x % s + i - l) s own rest sum).0

-- it and the next one are not at an end of a grid of whole blocks
inside_grid : (steps up x i : ℕ) → IsInBlock steps x → x < 2 ^ (up + steps) → i ≤ 1 → (0 < x + i) × (x + i < 2 ^ (up + steps))
inside_grid steps up x i in' below hi =
    let s = 2 ^ steps in
    let some = pow_pos steps in
    let first = in'.not_first in
    let last = in'.not_last in
    let here = div-add-mod' x (2 ^ steps) in
    let whole : 2 ^ (up + steps) ≡ 2 ^ up * 2 ^ steps = pow-add 2 up steps in
    let under : x / 2 ^ steps < 2 ^ up = div_below x (2 ^ steps) (2 ^ up) some (omega (arith, below, whole)) in
    let most : (x / 2 ^ steps + 1) * 2 ^ steps ≤ 2 ^ up * 2 ^ steps = grind arith in
    let spread : (x / 2 ^ steps + 1) * 2 ^ steps ≡ x / 2 ^ steps * 2 ^ steps + 2 ^ steps = grind arith in
    (pos x first, omega (arith, here, last, most, spread, whole, hi))
  where
    pos : (x : ℕ) → 0 < x % 2 ^ steps → 0 < x + i
    pos zero first = absurd (omega (arith, first))
    pos (suc n) first = omega arith

-- a corner within a grid is on no side of it
off_sides : (n x y : ℕ) → 0 < x → x < n → 0 < y → y < n → (side : Side) → ¬ (LiesOn n side x y)
off_sides n x y lx hx ly hy South = λ h. omega (arith, h.0)
off_sides n x y lx hx ly hy SouthEast = λ h. omega (arith, h)
off_sides n x y lx hx ly hy East = λ h. omega (arith, h.0)
off_sides n x y lx hx ly hy SouthWest = λ h. omega (arith, h)
off_sides n x y lx hx ly hy NorthEast = λ h. omega (arith, h)
off_sides n x y lx hx ly hy West = λ h. omega (arith, h.0)
off_sides n x y lx hx ly hy NorthWest = λ h. omega (arith, h)
off_sides n x y lx hx ly hy North = λ h. omega (arith, h.0)

-- a pixel's parent has half its coordinates, and so any number of orders up
parent_at : (k p f x y : ℕ) → IsAt (suc k) p f x y → IsAt k (p / 4) f (x / 2) (y / 2)
parent_at k p f x y here =
    let two = pow-suc 2 k in
    let four = pow-suc 4 k in
    let hx = here.x_range in
    let hy = here.y_range in
    let number : p ≡ f * (4 ^ k * 4) + interleave (suc k) x y = rw (← four) here.number in
    record { face_range = here.face_range; x_range = omega arith; y_range = omega arith; number = omega arith }

by_parent : (n p steps : ℕ) → p / n ^ suc steps ≡ p / n / n ^ steps
by_parent n p steps = ap (λ (d : ℕ). p / d) (pow-succ' n steps) ∙ sym (div-div-eq-div-mul p n (n ^ steps))

at_up : (steps up p f x y : ℕ) → IsAt (up + steps) p f x y → IsAt up (p / 4 ^ steps) f (x / 2 ^ steps) (y / 2 ^ steps)
at_up zero up p f x y here =
    let none : up + 0 ≡ up = omega arith in
    rw (div-one p, div-one x, div-one y) (subst (λ (k : ℕ). IsAt k p f x y) none here)
at_up (suc steps) up p f x y here =
    let next : up + suc steps ≡ suc (up + steps) = omega arith in
    rw (by_parent 4 p steps, by_parent 2 x steps, by_parent 2 y steps)
    (at_up steps up (p / 4) f (x / 2) (y / 2) (parent_at (up + steps) p f x y (subst (λ (k : ℕ). IsAt k p f x y) next here)))

-- what the law on corners of faces says
abbrev CornersTell : Type 0
CornersTell = (n face x y other a b : ℕ) → 0 < n → face < 12 → other < 12 → x ≤ n → y ≤ n → a ≤ n → b ≤ n
    → (corner_point n face x y ≡ corner_point n other a b) ↔ AreOneCorner n face x y other a b

same_number : (up p q f x y g a b : ℕ) → IsAt up p f x y → IsAt up q g a b → f ≡ g → a ≡ x → b ≡ y → q ≡ p
same_number up p q f x y g a b here there ef ea eb =
    there.number ∙ ap (λ (k : ℕ). k * 4 ^ up + interleave up a b) (sym ef) ∙ ap (λ (k : ℕ). f * 4 ^ up + interleave up k b) ea ∙ ap (λ (k : ℕ). f * 4 ^ up + interleave up x k) eb ∙ sym here.number

by_corners : CornersTell → (up steps p q : ℕ) (point : ℕ × ℕ) (c : HasCorner (up + steps) p point) (d : HasCorner (up + steps) q point) → IsInBlock steps c.1 → IsInBlock steps c.2 → q / 4 ^ steps ≡ p / 4 ^ steps
by_corners law up steps p q point c d in_x in_y =
    let n = 2 ^ (up + steps) in
    let gx = inside_grid steps up c.1 c.3 in_x c.5.x_range c.6 in
    let gy = inside_grid steps up c.2 c.4 in_y c.5.y_range c.7 in
    let far_x : d.1 + d.3 ≤ 2 ^ (up + steps) = omega (arith, d.5.x_range, d.6) in
    let far_y : d.2 + d.4 ≤ 2 ^ (up + steps) = omega (arith, d.5.y_range, d.7) in
    let one = (law (2 ^ (up + steps)) c.0 (c.1 + c.3) (c.2 + c.4) d.0 (d.1 + d.3) (d.2 + d.4) (pow_pos (up + steps)) c.5.face_range d.5.face_range (omega (arith, gx.1)) (omega (arith, gy.1)) far_x far_y).0 (c.8 ∙ sym d.8) in
    elim one [
      | inl same ↦
          let ex = block_stays (2 ^ steps) c.1 d.1 c.3 d.3 in_x.not_first in_x.not_last c.6 d.6 same.1 in
          let ey = block_stays (2 ^ steps) c.2 d.2 c.4 d.4 in_y.not_first in_y.not_last c.7 d.7 same.2 in
          same_number up (p / 4 ^ steps) (q / 4 ^ steps) c.0 (c.1 / 2 ^ steps) (c.2 / 2 ^ steps) d.0 (d.1 / 2 ^ steps) (d.2 / 2 ^ steps) (at_up steps up p c.0 c.1 c.2 c.5) (at_up steps up q d.0 d.1 d.2 d.5) same.0 ex ey
      | inr joined ↦ absurd (off_sides (2 ^ (up + steps)) (c.1 + c.3) (c.2 + c.4) gx.0 gx.1 gy.0 gy.1 joined.side joined.on_side)
    ]

at_order : CornersTell → (up steps p q : ℕ) → IsInner (up + steps) steps p → Touch (up + steps) p q → q / 4 ^ steps ≡ p / 4 ^ steps
at_order law up steps p q inner touch =
    let c = touch.shared.1 in
    let same = one_place (up + steps) p inner.face inner.x inner.y c.0 c.1 c.2 inner.at c.5 in
    by_corners law up steps p q touch.shared.0 c touch.shared.2 (subst (λ (x : ℕ). IsInBlock steps x) same.1 inner.along_x) (subst (λ (y : ℕ). IsInBlock steps y) same.2 inner.along_y)

pub inner_stays : CornersTell → (order steps p q : ℕ) → steps ≤ order → IsInner order steps p → Touch order p q → q / 4 ^ steps ≡ p / 4 ^ steps
inner_stays law order steps p q le inner touch =
    let whole : order ≡ order - steps + steps = omega arith in
    at_order law (order - steps) steps p q (subst (λ (k : ℕ). IsInner k steps p) whole inner) (subst (λ (k : ℕ). Touch k p q) whole touch)
