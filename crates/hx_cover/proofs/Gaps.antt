-- The gap of two boxes is no more than the chord of two rows in them; and both fit 64 bits.
use Rattle.std.proofs.Common.{◌≡◌, ◌*◌, ◌-ℤ◌, ◌≤◌, ℕ, ℤ, pos, negsuc, arith}
use Rattle.std.specs.Prelude.{◌≤ℤ◌}
use Rattle.std.specs.Int.RustNames.{unsigned_abs}
use Rattle.std.proofs.lemmas.Int.{ints}
use Rattle.std.proofs.lemmas.Nat.{mul-le}
use Rattle.hx_base.specs.declared.row.Row.{Row}
use Rattle.hx_base.specs.Boxes.{BoundingBox, Extent, gap_of, gap2_of, positive_part}
use Rattle.hx_base.specs.Chords.{chord2_of}
use Rattle.hx_base.specs.Rows.{square}
use Rattle.hx_cover.specs.Bounds.{IsBounded, IsWithin, LiesWithin}

-- the positive part of a lesser number is less
part_le : (z w : ℤ) → z ≤ℤ w → positive_part z ≤ unsigned_abs w
part_le (pos n) (pos m) h = omega (arith, ints, h)
part_le (pos n) (negsuc m) h = absurd (omega (arith, ints, h))
part_le (negsuc n) w h = omega arith

gap_within : (a b : Extent) (x y : ℤ) → LiesWithin a x → LiesWithin b y → gap_of a b ≤ unsigned_abs (x -ℤ y)
gap_within a b x y ha hb =
    let al = ha.low in let ah = ha.high in let bl = hb.low in let bh = hb.high in
    let first = part_le (a.low -ℤ b.high) (x -ℤ y) (omega (arith, ints)) in
    let second = part_le (b.low -ℤ a.high) (y -ℤ x) (omega (arith, ints)) in
    let turned : unsigned_abs (y -ℤ x) ≡ unsigned_abs (x -ℤ y) = grind (arith, ints) in
    omega (arith, first, second, turned)

axis : (a b : Extent) (x y : ℤ) → LiesWithin a x → LiesWithin b y → gap_of a b * gap_of a b ≤ square (x -ℤ y)
axis a b x y ha hb = let le = gap_within a b x y ha hb in mul-le (gap_of a b) (gap_of a b) (unsigned_abs (x -ℤ y)) (unsigned_abs (x -ℤ y)) le le

pub gap_le_chord : (a b : BoundingBox) (l r : Row) → IsWithin a l → IsWithin b r → gap2_of a b ≤ chord2_of l r
gap_le_chord a b l r ha hb =
    let x = axis a.x b.x l.x r.x ha.x hb.x in
    let y = axis a.y b.y l.y r.y ha.y hb.y in
    let z = axis a.z b.z l.z r.z ha.z hb.z in
    omega (arith, x, y, z)

square_le : (d : ℕ) → d ≤ 2000000002 → d * d ≤ 4000000008000000004
square_le d h = mul-le d d 2000000002 2000000002 h h

part_bound : (z : ℤ) (n : ℕ) → z ≤ℤ pos n → positive_part z ≤ n
part_bound (pos m) n h = omega (arith, ints, h)
part_bound (negsuc m) n h = omega arith

gap_bound : (a b : Extent) → IsBounded a → IsBounded b → gap_of a b ≤ 2000000002
gap_bound a b ha hb =
    let al = ha.low in let ah = ha.high in let bl = hb.low in let bh = hb.high in
    let first = part_bound (a.low -ℤ b.high) 2000000002 (omega (arith, ints)) in
    let second = part_bound (b.low -ℤ a.high) 2000000002 (omega (arith, ints)) in
    omega (arith, first, second)

pub gap_fits : (a b : BoundingBox) → IsBounded a.x → IsBounded a.y → IsBounded a.z → IsBounded b.x → IsBounded b.y → IsBounded b.z → gap2_of a b ≤ 12000000024000000012
gap_fits a b ax ay az bx by bz =
    let x = square_le (gap_of a.x b.x) (gap_bound a.x b.x ax bx) in
    let y = square_le (gap_of a.y b.y) (gap_bound a.y b.y ay by) in
    let z = square_le (gap_of a.z b.z) (gap_bound a.z b.z az bz) in
    omega (arith, x, y, z)
