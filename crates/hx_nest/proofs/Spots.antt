-- The point of a corner as a step of one of four sectors of its ring: a quarter of a cap's ring, or two sides on the belt.
use Rattle.std.proofs.Common.{◌≡◌, ◌∙◌, ◌+◌, ◌-◌, ◌*◌, ◌/◌, ◌%◌, ◌<◌, ◌≤◌, ◌⊎◌, ℕ, refl, arith, inl, inr}
use Rattle.std.proofs.lemmas.Bool.{cases_lt}
use Rattle.std.proofs.lemmas.Bool.Decides.{nat_tests}
use Rattle.std.proofs.Math.Nat.{add-mod_right}
use Rattle.hx_base.specs.Touching.{ring, middle, index_on}
use Rattle.hx_nest.proofs.Sectors.{four, round}
use Rattle.hx_nest.proofs.Table.{prev}

-- rings by the row of faces
pub ring_0 : (n c x y : ℕ) → c < 4 → ring n c x y ≡ 2 * n - x - y
ring_0 n c x y h = let e : c / 4 ≡ 0 = omega arith in rw e refl

pub ring_1 : (n c x y : ℕ) → c < 4 → ring n (4 + c) x y ≡ 3 * n - x - y
ring_1 n c x y h = let e : (4 + c) / 4 ≡ 1 = omega arith in rw e refl

pub ring_2 : (n c x y : ℕ) → c < 4 → ring n (8 + c) x y ≡ 4 * n - x - y
ring_2 n c x y h = let e : (8 + c) / 4 ≡ 2 = omega arith in rw e refl

-- the four cases of a spot
pub at_pole : (n f x y v : ℕ) → (v ≡ 0) ⊎ (v ≡ 4 * n) → index_on n f x y v ≡ 0
at_pole n f x y v h = grind (arith, nat_tests)

pub in_north : (n f x y v : ℕ) → 0 < v → v < n → index_on n f x y v ≡ (f * v + (n - y)) % (4 * v)
in_north n f x y v pos small = grind (arith, nat_tests)

pub in_south : (n f x y v : ℕ) → 3 * n < v → v < 4 * n → index_on n f x y v ≡ ((f - 8) * (4 * n - v) + x) % (4 * (4 * n - v))
in_south n f x y v low high = grind (arith, nat_tests)

pub on_belt : (n f x y v : ℕ) → 0 < n → n ≤ v → v ≤ 3 * n → index_on n f x y v ≡ (middle f * n + 8 * n + x - y) % (8 * n)
on_belt n f x y v pos low high = grind (arith, nat_tests)

-- a corner's spot is a step of a sector
pub record IsSpot (n face x y v size c t : ℕ) : Type 0 where
  pub spot : index_on n face x y v ≡ round size c t
  pub within : t ≤ size
  pub sector : c < 4

pub spot_north : (n c x y v : ℕ) → c < 4 → x ≤ n → y ≤ n → 0 < v → v < n → x + y + v ≡ 2 * n → IsSpot n c x y v v c (n - y)
spot_north n c x y v h hx hy pos small e = record {
  spot = in_north n c x y v pos small;
  within = omega arith;
  sector = h;
}

pub spot_south : (n c x y v w : ℕ) → c < 4 → 0 < w → w < n → x + y ≡ w → v + w ≡ 4 * n → IsSpot n (8 + c) x y v w c x
spot_south n c x y v w h pos small e f =
    let size : 4 * n - v ≡ w = omega arith in
    let column : 8 + c - 8 ≡ c = omega arith in
    record {
      spot = in_south n (8 + c) x y v (omega arith) (omega arith) ∙ rw (size, column) refl;
      within = omega arith;
      sector = h;
    }

middle_0 : (c : ℕ) → c < 4 → middle c ≡ 2 * c + 1
middle_0 c h = four (λ c. middle c ≡ 2 * c + 1) refl refl refl refl c h

middle_1 : (c : ℕ) → c < 4 → middle (4 + c) ≡ 2 * c
middle_1 c h = four (λ c. middle (4 + c) ≡ 2 * c) refl refl refl refl c h

middle_2 : (c : ℕ) → c < 4 → middle (8 + c) ≡ 2 * c + 1
middle_2 c h = four (λ c. middle (8 + c) ≡ 2 * c + 1) refl refl refl refl c h

-- the sides of the belt as sectors of two
odd_column : (n c x y : ℕ) → x ≤ n → y ≤ n → ((2 * c + 1) * n + 8 * n + x - y) % (8 * n) ≡ round (2 * n) c (n + x - y)
odd_column n c x y hx hy =
    let e : (2 * c + 1) * n + 8 * n + x - y ≡ c * (2 * n) + (n + x - y) + 8 * n = omega arith in
    let size : 4 * (2 * n) ≡ 8 * n = omega arith in
    rw (e, size) (add-mod_right (c * (2 * n) + (n + x - y)) (8 * n))

even_column : (n c x y : ℕ) → y ≤ x → (2 * c * n + 8 * n + x - y) % (8 * n) ≡ round (2 * n) c (x - y)
even_column n c x y hy =
    let e : 2 * c * n + 8 * n + x - y ≡ c * (2 * n) + (x - y) + 8 * n = omega arith in
    let size : 4 * (2 * n) ≡ 8 * n = omega arith in
    rw (e, size) (add-mod_right (c * (2 * n) + (x - y)) (8 * n))

-- west of a face's middle the sector is the one before
back_column : (n c x y : ℕ) → c < 4 → x < y → y ≤ n → (2 * c * n + 8 * n + x - y) % (8 * n) ≡ round (2 * n) (prev c) (2 * n + x - y)
back_column n c x y h lt hy =
    let size : 4 * (2 * n) ≡ 8 * n = omega arith in
    let one : 2 * 1 * n + 8 * n + x - y ≡ 0 * (2 * n) + (2 * n + x - y) + 8 * n = omega arith in
    let two : 2 * 2 * n + 8 * n + x - y ≡ 1 * (2 * n) + (2 * n + x - y) + 8 * n = omega arith in
    let three : 2 * 3 * n + 8 * n + x - y ≡ 2 * (2 * n) + (2 * n + x - y) + 8 * n = omega arith in
    let none : 2 * 0 * n + 8 * n + x - y ≡ 3 * (2 * n) + (2 * n + x - y) = omega arith in
    four (λ (c : ℕ). (2 * c * n + 8 * n + x - y) % (8 * n) ≡ (prev c * (2 * n) + (2 * n + x - y)) % (4 * (2 * n))) (rw (none, size) refl) (rw (one, size) (add-mod_right (0 * (2 * n) + (2 * n + x - y)) (8 * n)))
    (rw (two, size) (add-mod_right (1 * (2 * n) + (2 * n + x - y)) (8 * n))) (rw (three, size) (add-mod_right (2 * (2 * n) + (2 * n + x - y)) (8 * n))) c h

pub spot_belt_0 : (n c x y v : ℕ) → c < 4 → 0 < n → x ≤ n → y ≤ n → n ≤ v → v ≤ 3 * n → x ≤ n + y → IsSpot n c x y v (2 * n) c (n + x - y)
spot_belt_0 n c x y v h pos hx hy low high most = record {
  spot = on_belt n c x y v pos low high ∙ rw (middle_0 c h) (odd_column n c x y hx hy);
  within = omega arith;
  sector = h;
}

pub spot_belt_2 : (n c x y v : ℕ) → c < 4 → 0 < n → x ≤ n → y ≤ n → n ≤ v → v ≤ 3 * n → IsSpot n (8 + c) x y v (2 * n) c (n + x - y)
spot_belt_2 n c x y v h pos hx hy low high = record {
  spot = on_belt n (8 + c) x y v pos low high ∙ rw (middle_2 c h) (odd_column n c x y hx hy);
  within = omega arith;
  sector = h;
}

-- a face on the equator lies in two sectors, east and west of its middle
pub data IsEquatorSpot (n c x y v : ℕ) : Type 0 where
  east : y ≤ x → IsSpot n (4 + c) x y v (2 * n) c (x - y) → IsEquatorSpot n c x y v
  west : x < y → IsSpot n (4 + c) x y v (2 * n) (prev c) (2 * n + x - y) → IsEquatorSpot n c x y v

pub spot_belt_1 : (n c x y v : ℕ) → c < 4 → 0 < n → x ≤ n → y ≤ n → n ≤ v → v ≤ 3 * n → IsEquatorSpot n c x y v
spot_belt_1 n c x y v h pos hx hy low high =
    elim (cases_lt x y) [
      | inl lt ↦ west lt (record { spot = on_belt n (4 + c) x y v pos low high ∙ rw (middle_1 c h) (back_column n c x y h lt hy); within = omega arith; sector = omega arith })
      | inr le ↦ east le (record { spot = on_belt n (4 + c) x y v pos low high ∙ rw (middle_1 c h) (even_column n c x y le); within = omega arith; sector = h })
    ]
