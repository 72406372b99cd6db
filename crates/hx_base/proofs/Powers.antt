-- Powers of four, and the range of a pixel.
use Rattle.std.proofs.Common.{◌≡◌, ◌∙◌, ◌+◌, ◌-◌, ◌*◌, ◌/◌, ◌%◌, ◌^◌, ◌<◌, ◌≤◌, ℕ, sym, ap, arith}
use Rattle.std.proofs.lemmas.Nat.{pow-add, mul-pow, pow_pos, div_below}
use Rattle.std.proofs.Math.Nat.{mod-eq_of_lt, mul-le-mul_left, mul-le-mul_right, pow-le-pow_right}
use Rattle.hx_base.specs.Pixels.{pixel_of}

pub four_is : (k : ℕ) → 4 ^ k ≡ 2 ^ (2 * k)
four_is k = mul-pow 2 2 k ∙ sym (pow-add 2 k k) ∙ ap (λ (e : ℕ). 2 ^ e) (omega arith)

pub four_pos : (k : ℕ) → 0 < 4 ^ k
four_pos k = rw (four_is k) (pow_pos (2 * k))

four_split : (n k : ℕ) → k ≤ n → 4 ^ n ≡ 4 ^ k * 4 ^ (n - k)
four_split n k h = let e : n ≡ k + (n - k) = omega arith in ap (λ (e : ℕ). 4 ^ e) e ∙ pow-add 4 k (n - k)

-- the pixel of order k that holds a pixel of order n is one of that order
pub parent_below : (p n k : ℕ) → k ≤ n → p < 12 * 4 ^ n → p / 4 ^ (n - k) < 12 * 4 ^ k
parent_below p n k h below =
    let e = four_split n k h in
    let b : p < 12 * (4 ^ k * 4 ^ (n - k)) = rw e at below in
    div_below p (4 ^ (n - k)) (12 * 4 ^ k) (four_pos (n - k)) (grind arith)

-- where the children of a pixel of order k end, n - k orders down
pub children_end : (number k n : ℕ) → k ≤ n → n ≤ 29 → number < 12 * 4 ^ k → (number + 1) * 4 ^ (n - k) ≤ 12 * 4 ^ 29
children_end number k n h within below =
    let e = four_split n k h in
    let more = mul-le-mul_right (4 ^ (n - k)) (let le : number + 1 ≤ 12 * 4 ^ k = omega arith in le) in
    let most = pow-le-pow_right {n = 4} (omega arith) {i = n} {j = 29} within in
    omega (arith, e, more, most)

-- what the end of a pixel's children bounds
pub end_bounds : (number steps : ℕ) → (number + 1) * 4 ^ steps ≤ 12 * 4 ^ 29 → (number + 1 ≤ 12 * 4 ^ 29) × (number * 4 ^ steps ≤ (number + 1) * 4 ^ steps)
end_bounds number steps h =
    let least : 1 ≤ 4 ^ steps = four_pos steps in
    let one = mul-le-mul_left (number + 1) least in
    let two = mul-le-mul_right (4 ^ steps) (let le : number ≤ number + 1 = omega arith in le) in
    (omega (arith, one), two)

pub shift_fits : (number steps : ℕ) → number * 4 ^ steps < 2 ^ 64 → number * 2 ^ (2 * steps) % 2 ^ 64 ≡ number * 4 ^ steps
shift_fits number steps below = rw (← four_is steps) (mod-eq_of_lt below)

pub shift_is : (order position : ℕ) → position / 2 ^ (2 * (29 - order)) ≡ pixel_of order position
unfolding pixel_of
shift_is order position = ap (λ (d : ℕ). position / d) (sym (four_is (29 - order)))

pub pixel_below : (order position : ℕ) → order ≤ 29 → position < 12 * 4 ^ 29 → pixel_of order position < 12 * 4 ^ order
unfolding pixel_of
pixel_below order position h below = parent_below position 29 order h below
