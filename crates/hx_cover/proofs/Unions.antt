-- A box round others is no further from another box than they are.
use Rattle.std.proofs.Common.{◌≡◌, ◌∙◌, ◌*◌, ◌-ℤ◌, ◌≤◌, ℤ, pos, negsuc, sym, ap, subst, arith, w32, to_z, of_z, SFits, to_z-of_z}
use Rattle.std.specs.Prelude.{◌≤ℤ◌}
use Rattle.std.specs.Int.{int_max, int_min}
use Rattle.std.specs.Int.RustNames.{unsigned_abs}
use Rattle.std.proofs.lemmas.Int.{clamps, ints}
use Rattle.std.proofs.lemmas.Nat.{mul-le}
use Rattle.hx_base.specs.Boxes.{BoundingBox, Extent, gap_of, gap2_of, positive_part}
use Rattle.hx_cover.specs.Bounds.{joined_box, joined_extent}
use Rattle.hx_cover.specs.CoverBoxes.{IsSound, IsSoundExtent, box_seen}
use Rattle.hx_cover.specs.Bounds.{IsInside, IsInsideExtent}
use Rattle.hx_cover.specs.declared.bounds.CoverBox.{CoverBox}

part_le : (z w : ℤ) → z ≤ℤ w → positive_part z ≤ positive_part w
part_le (pos n) (pos m) h = omega (arith, ints, h)
part_le (pos n) (negsuc m) h = absurd (omega (arith, ints, h))
part_le (negsuc n) w h = omega arith

gap_round : (a b c d : Extent) → IsInsideExtent a c → IsInsideExtent b d → gap_of c d ≤ gap_of a b
gap_round a b c d ha hb =
    let al = ha.low in let ah = ha.high in let bl = hb.low in let bh = hb.high in
    let first = part_le (c.low -ℤ d.high) (a.low -ℤ b.high) (omega (arith, ints)) in
    let second = part_le (d.low -ℤ c.high) (b.low -ℤ a.high) (omega (arith, ints)) in
    omega (arith, first, second)

axis : (a b c d : Extent) → IsInsideExtent a c → IsInsideExtent b d → gap_of c d * gap_of c d ≤ gap_of a b * gap_of a b
axis a b c d ha hb = let le = gap_round a b c d ha hb in mul-le (gap_of c d) (gap_of c d) (gap_of a b) (gap_of a b) le le

pub gap_of_round : (a b c d : BoundingBox) → IsInside a c → IsInside b d → gap2_of c d ≤ gap2_of a b
gap_of_round a b c d ha hb =
    let x = axis a.x b.x c.x d.x ha.x hb.x in
    let y = axis a.y b.y c.y d.y ha.y hb.y in
    let z = axis a.z b.z c.z d.z ha.z hb.z in
    omega (arith, x, y, z)

extent_in : (e : Extent) → IsInsideExtent e e
extent_in e = record { low = omega (arith, ints); high = omega (arith, ints) }

pub inside_itself : (a : BoundingBox) → IsInside a a
inside_itself a = record { x = extent_in a.x; y = extent_in a.y; z = extent_in a.z }

extent_over : (a b c : Extent) → IsInsideExtent a b → IsInsideExtent b c → IsInsideExtent a c
extent_over a b c h g = let p = h.low in let q = g.low in let r = h.high in let s = g.high in record { low = omega (arith, ints); high = omega (arith, ints) }

pub inside_over : (a b c : BoundingBox) → IsInside a b → IsInside b c → IsInside a c
inside_over a b c h g = record { x = extent_over a.x b.x c.x h.x g.x; y = extent_over a.y b.y c.y h.y g.y; z = extent_over a.z b.z c.z h.z g.z }

first_in : (a b : Extent) → IsInsideExtent a (joined_extent a b)
first_in a b = record { low = omega (arith, ints, clamps); high = omega (arith, ints, clamps) }

second_in : (a b : Extent) → IsInsideExtent b (joined_extent a b)
second_in a b = record { low = omega (arith, ints, clamps); high = omega (arith, ints, clamps) }

pub first_inside : (a b : BoundingBox) → IsInside a (joined_box a b)
first_inside a b = record { x = first_in a.x b.x; y = first_in a.y b.y; z = first_in a.z b.z }

pub second_inside : (a b : BoundingBox) → IsInside b (joined_box a b)
second_inside a b = record { x = second_in a.x b.x; y = second_in a.y b.y; z = second_in a.z b.z }

-- of the ends that the code keeps
min_bounded : (a b : ℤ) → unsigned_abs a ≤ 1000000001 → unsigned_abs b ≤ 1000000001 → unsigned_abs (int_min a b) ≤ 1000000001
min_bounded a b p q = grind (arith, ints, clamps)

max_bounded : (a b : ℤ) → unsigned_abs a ≤ 1000000001 → unsigned_abs b ≤ 1000000001 → unsigned_abs (int_max a b) ≤ 1000000001
max_bounded a b p q = grind (arith, ints, clamps)

pub sound_joined : (a b : Extent) → IsSoundExtent a → IsSoundExtent b → IsSoundExtent (joined_extent a b)
sound_joined a b ha hb = record {
  ascending = let p = ha.ascending in let q = hb.ascending in omega (arith, ints, clamps);
  bounded = record { low = min_bounded a.low b.low ha.bounded.low hb.bounded.low; high = max_bounded a.high b.high ha.bounded.high hb.bounded.high };
}

fits : (z : ℤ) → unsigned_abs z ≤ 1000000001 → SFits w32 z
fits (pos n) h = record { sfits = omega (arith, h) }
fits (negsuc n) h = record { sfits = omega (arith, h) }

pub kept : (z : ℤ) → unsigned_abs z ≤ 1000000001 → to_z w32 (of_z w32 z) ≡ z
kept z h = to_z-of_z (fits z h)

pub low_kept : (a b r : ℤ) → unsigned_abs a ≤ 1000000001 → unsigned_abs b ≤ 1000000001 → r ≡ int_min (to_z w32 (of_z w32 a)) (to_z w32 (of_z w32 b)) → to_z w32 (of_z w32 r) ≡ int_min a b
low_kept a b r p q e =
    let is : r ≡ int_min a b = e ∙ ap (λ (z : ℤ). int_min z (to_z w32 (of_z w32 b))) (kept a p) ∙ ap (λ (z : ℤ). int_min a z) (kept b q) in
    ap (λ (z : ℤ). to_z w32 (of_z w32 z)) is ∙ kept (int_min a b) (min_bounded a b p q)

pub high_kept : (a b r : ℤ) → unsigned_abs a ≤ 1000000001 → unsigned_abs b ≤ 1000000001 → r ≡ int_max (to_z w32 (of_z w32 a)) (to_z w32 (of_z w32 b)) → to_z w32 (of_z w32 r) ≡ int_max a b
high_kept a b r p q e =
    let is : r ≡ int_max a b = e ∙ ap (λ (z : ℤ). int_max z (to_z w32 (of_z w32 b))) (kept a p) ∙ ap (λ (z : ℤ). int_max a z) (kept b q) in
    ap (λ (z : ℤ). to_z w32 (of_z w32 z)) is ∙ kept (int_max a b) (max_bounded a b p q)

-- two ends, put together
pub ends : (l h : ℤ) (e : Extent) → l ≡ e.low → h ≡ e.high → record { low = l; high = h } ≡ e
ends l h e p q =
    let made : ℤ → ℤ → Extent = λ l h. record { low = l; high = h } in
    ap (λ (x : ℤ). made x h) p ∙ ap (λ (x : ℤ). made e.low x) q

pub three : (a b c : Extent) (box : BoundingBox) → a ≡ box.x → b ≡ box.y → c ≡ box.z → record { x = a; y = b; z = c } ≡ box
three a b c box p q r =
    let made : Extent → Extent → Extent → BoundingBox = λ p q r. record { x = p; y = q; z = r } in
    ap (λ (x : Extent). made x b c) p ∙ (ap (λ (y : Extent). made box.x y c) q ∙ ap (λ (z : Extent). made box.x box.y z) r)

pub sound_seen : (a b r : CoverBox) → IsSound a → IsSound b → box_seen r ≡ joined_box (box_seen a) (box_seen b) → IsSound r
sound_seen a b r ha hb e = record {
  x = subst IsSoundExtent (sym (ap (λ (box : BoundingBox). box.x) e)) (sound_joined (box_seen a).x (box_seen b).x ha.x hb.x);
  y = subst IsSoundExtent (sym (ap (λ (box : BoundingBox). box.y) e)) (sound_joined (box_seen a).y (box_seen b).y ha.y hb.y);
  z = subst IsSoundExtent (sym (ap (λ (box : BoundingBox). box.z) e)) (sound_joined (box_seen a).z (box_seen b).z ha.z hb.z);
}
