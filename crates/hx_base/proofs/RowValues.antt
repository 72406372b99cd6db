-- The row of five values: which rows it may be, and that a good row is the row of its own values.
use Rattle.std.proofs.Common.{◌≡◌, ◌+◌, ◌*◌, ◌<◌, ◌≤◌, ◌≤ℤ◌, ◌&&◌, ◌^◌, ℕ, ℤ, pos, neg_ℤ, List, Option, None, Some, Result, Ok, Err, true, map, arith, refl, inl, inr, int_le, nat_le, unsigned_abs}
use Rattle.std.proofs.lemmas.Bool.{and_parts, cases_Bool, cases_lt, le-leb, leb-true}
use Rattle.std.proofs.lemmas.Int.{ints}
use Rattle.std.proofs.Math.Nat.{mul-le-mul}
use Rattle.hx_base.specs.Columns.{◌>>=◌, coordinate, position, required, row_of, value, values_of, with_unit_vector, within}
use Rattle.hx_base.specs.Rows.{IsGood, square, squared_length}
use Rattle.hx_base.specs.declared.columns.RowFault.{RowFault}
use Rattle.hx_base.specs.declared.columns.RowFault.TheVariants as fault
use Rattle.hx_base.specs.declared.row.Row.{Row}

int_le-true : (a b : ℤ) → a ≤ℤ b → int_le a b ≡ true
int_le-true a b h = grind (arith, ints)

true-int_le : (a b : ℤ) → int_le a b ≡ true → a ≤ℤ b
true-int_le a b h = grind (arith, ints)

within-inside : (low high : ℤ) (f : RowFault) (z : ℤ) → low ≤ℤ z → z ≤ℤ high → within low high f (Some z) ≡ Ok z
within-inside low high f z above below = rw (int_le-true low z above, int_le-true z high below) refl

within-is : (low high : ℤ) (f : RowFault) (v : Option ℤ) (z : ℤ) → within low high f v ≡ Ok z → (low ≤ℤ z) × (z ≤ℤ high)
within-is low high f None z is = cc is
within-is low high f (Some y) z is =
    elim (cases_Bool (int_le low y && int_le y high)) [
      | inl e ↦
          let same : y ≡ z = cc (rw e at is) in
          let both = and_parts _ _ e in
          (rw same at (true-int_le low y both.0), rw same at (true-int_le y high both.1))
      | inr e ↦ cc (rw e at is)
    ]

-- what was asked before a value was there
pub value-of : {A B E : Type 0} (m : Result A E) (f : A → Result B E) (y : B) → (m >>= f) ≡ Ok y → (x : A) × (m ≡ Ok x) × (f x ≡ Ok y)
value-of (Ok x) f y is = (x, refl, is)
value-of (Err e) f y is = cc is

-- a coordinate whose square is about one at most
square-small : (n : ℕ) → n * n ≤ 1000000004000000000 → n ≤ 2000000000
square-small n h =
    elim (cases_lt 2000000000 n) [
      | inl over ↦ absurd (omega (arith, mul-le-mul {n₁ = 2000000001} {m₁ = 2000000001} {n₂ = n} {m₂ = n} (omega arith) (omega arith)))
      | inr few ↦ omega arith
    ]

magnitude-within : (z : ℤ) → unsigned_abs z ≤ 2000000000 → (neg_ℤ (pos 2000000000) ≤ℤ z) × (z ≤ℤ pos 2000000000)
magnitude-within z h = (grind (arith, ints), grind (arith, ints))

coordinate-own : (f : RowFault) (z : ℤ) → square z ≤ 1000000004000000000 → coordinate f (Some z) ≡ Ok z
coordinate-own f z h =
    let range = magnitude-within z (square-small (unsigned_abs z) h) in
    within-inside (neg_ℤ (pos 2000000000)) (pos 2000000000) f z range.0 range.1

unit-own : (row : Row) → IsGood row → with_unit_vector row ≡ Ok row
unit-own row good =
    rw (le-leb (squared_length row) (10 ^ 18 + 4 * 10 ^ 9) good.no_longer, le-leb (10 ^ 18) (squared_length row + 4 * 10 ^ 9) good.no_shorter) refl

unit-is : (row found : Row) → row.hp < 12 * 4 ^ 29 → with_unit_vector row ≡ Ok found → IsGood found
unit-is row found low is =
    elim (cases_Bool (nat_le (squared_length row) (10 ^ 18 + 4 * 10 ^ 9) && nat_le (10 ^ 18) (squared_length row + 4 * 10 ^ 9))) [
      | inl e ↦
          let same : row ≡ found = cc (rw e at is) in
          let both = and_parts _ _ e in
          rw (← same) (record { pixel = low; no_longer = leb-true _ _ both.0; no_shorter = leb-true _ _ both.1 })
      | inr e ↦ cc (rw e at is)
    ]

pub own-row : (row : Row) → IsGood row → row_of (map Some (values_of row)) ≡ Ok row
unfolding row_of
own-row row good =
    let hp : position (Some (pos row.hp)) ≡ Ok (pos row.hp) = within-inside (pos 0) (pos 3458764513820540927) fault.Position (pos row.hp) (grind (arith, ints)) (grind (arith, ints, good.pixel)) in
    rw (
      hp,
      coordinate-own fault.X row.x (omega (arith, good.no_longer)),
      coordinate-own fault.Y row.y (omega (arith, good.no_longer)),
      coordinate-own fault.Z row.z (omega (arith, good.no_longer)),
    )
    (unit-own row good)

position-low : (z : ℤ) → pos 0 ≤ℤ z → z ≤ℤ pos 3458764513820540927 → unsigned_abs z < 12 * 4 ^ 29
position-low z above below = grind (arith, ints)

pub good-row : (values : List (Option ℤ)) (row : Row) → row_of values ≡ Ok row → IsGood row
unfolding row_of
good-row values row is =
    let hp = value-of (position (value values 0)) _ row is in
    let id = value-of (required fault.Id (value values 1)) _ row hp.2 in
    let x = value-of (coordinate fault.X (value values 2)) _ row id.2 in
    let y = value-of (coordinate fault.Y (value values 3)) _ row x.2 in
    let z = value-of (coordinate fault.Z (value values 4)) _ row y.2 in
    let range = within-is (pos 0) (pos 3458764513820540927) fault.Position (value values 0) hp.0 hp.1 in
    unit-is (record { hp = unsigned_abs hp.0; id = id.0; x = x.0; y = y.0; z = z.0 }) row (position-low hp.0 range.0 range.1) z.2
