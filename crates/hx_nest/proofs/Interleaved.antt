-- The number of a spot: its face, and the bits of its coordinates in turn.
use Rattle.std.proofs.Common.{◌≡◌, ◌∙◌, ◌+◌, ◌-◌, ◌*◌, ◌/◌, ◌%◌, ◌^◌, ◌<◌, ◌≤◌, ℕ, zero, suc, sym, ap, arith, refl}
use Rattle.std.proofs.lemmas.Nat.{same_from_place, div_below, div-add-mod', mod_below}
use Rattle.std.proofs.Math.Nat.{pow-suc, pow-le-pow_right, mod-eq_of_lt, div-mul-le_self}
use Rattle.hx_base.proofs.Powers.{four_is, four_pos}
use Rattle.hx_base.specs.Touching.{IsAt, interleave}

pub interleave_below : (k x y : ℕ) → interleave k x y < 4 ^ k
interleave_below zero x y = omega arith
interleave_below (suc k) x y = omega (arith, interleave_below k (x / 2) (y / 2), pow-suc 4 k)

-- two spots with one number are one spot
pub interleave_exact : (k x y a b : ℕ) → x < 2 ^ k → y < 2 ^ k → a < 2 ^ k → b < 2 ^ k → interleave k x y ≡ interleave k a b → (x ≡ a) × (y ≡ b)
interleave_exact zero x y a b hx hy ha hb e = (omega arith, omega arith)
interleave_exact (suc k) x y a b hx hy ha hb e =
    let two = pow-suc 2 k in
    let rest : interleave k (x / 2) (y / 2) ≡ interleave k (a / 2) (b / 2) = omega arith in
    let half = interleave_exact k (x / 2) (y / 2) (a / 2) (b / 2) (omega arith) (omega arith) (omega arith) (omega arith) rest in
    (omega (arith, half.0), omega (arith, half.1))

-- a pixel has one spot
pub one_place : (k p f x y g a b : ℕ) → IsAt k p f x y → IsAt k p g a b → (f ≡ g) × (x ≡ a) × (y ≡ b)
one_place k p f x y g a b here there =
    let parts = same_from_place f (interleave k x y) g (interleave k a b) (4 ^ k) (interleave_below k x y) (interleave_below k a b) (sym here.number ∙ there.number) in
    let spot = interleave_exact k x y a b here.x_range here.y_range there.x_range there.y_range parts.1 in
    (parts.0, spot.0, spot.1)

pub number_below : (k p f x y : ℕ) → IsAt k p f x y → p < 12 * 4 ^ k
number_below k p f x y here =
    let low = interleave_below k x y in
    let n = here.number in
    let small = here.face_range in
    grind arith

-- the face of a number, and the rest
pub face_below : (k p : ℕ) → p < 12 * 4 ^ k → p / 2 ^ (2 * k) < 12
face_below k p small = rw (← four_is k) (div_below p (4 ^ k) 12 (four_pos k) small)

pub shifted_back : (k p : ℕ) → p < 2 ^ 64 → p / 2 ^ (2 * k) * 2 ^ (2 * k) % 2 ^ 64 ≡ p / 4 ^ k * 4 ^ k
shifted_back k p small = rw (← four_is k) (mod-eq_of_lt (omega (arith, div-mul-le_self p (4 ^ k))))

pub rest_below : (k p : ℕ) → p - p / 4 ^ k * 4 ^ k < 4 ^ k
rest_below k p = omega (arith, div-add-mod' p (4 ^ k), mod_below p (4 ^ k) (four_pos k))

pub whole : (k p face rest : ℕ) → p < 2 ^ 64 → face ≡ p / 2 ^ (2 * k) → rest ≡ p - face * 2 ^ (2 * k) % 2 ^ 64 → p ≡ p / 2 ^ (2 * k) * 4 ^ k + rest
whole k p face rest small f e =
    let back = shifted_back k p small in
    let r : rest ≡ p - p / 4 ^ k * 4 ^ k = e ∙ ap (λ (m : ℕ). p - m * 2 ^ (2 * k) % 2 ^ 64) f ∙ ap (λ (m : ℕ). p - m) back in
    let q : p / 2 ^ (2 * k) ≡ p / 4 ^ k = ap (λ (m : ℕ). p / m) (sym (four_is k)) in
    rw (q, r) (omega (arith, div-mul-le_self p (4 ^ k)))

-- the number of a spot
pub joined_at : (k face x y : ℕ) → face < 12 → x < 2 ^ k → y < 2 ^ k → IsAt k (face * 4 ^ k + interleave k x y) face x y
joined_at k face x y f hx hy = record { face_range = f; x_range = hx; y_range = hy; number = refl }

most_faces : (k : ℕ) → k ≤ 29 → 4 ^ k ≤ 2 ^ 58
most_faces k order = pow-le-pow_right {n = 4} (omega arith) {i = k} {j = 29} order

pub face_shifted : (k face : ℕ) → k ≤ 29 → face < 12 → face * 2 ^ (2 * k) % 2 ^ 64 ≡ face * 4 ^ k
face_shifted k face order small =
    let most = most_faces k order in
    let le : face * 4 ^ k ≤ 11 * 2 ^ 58 = grind arith in
    rw (← four_is k) (mod-eq_of_lt (omega arith))

pub joined_below : (k face x y : ℕ) → k ≤ 29 → face < 12 → face * 4 ^ k + interleave k x y < 2 ^ 64
joined_below k face x y order small =
    let most = most_faces k order in
    let low = interleave_below k x y in
    let le : face * 4 ^ k ≤ 11 * 2 ^ 58 = grind arith in
    omega arith
