-- Digits of a number set apart, and moved together again, by shifts and masks.
use Rattle.std.proofs.Common.{◌≡◌, ◌∙◌, ◌+◌, ◌-◌, ◌*◌, ◌/◌, ◌%◌, ◌^◌, ◌<◌, ◌≤◌, ℕ, zero, suc, refl, sym, ap, arith, bit_and, bit_or}
use Rattle.std.proofs.lemmas.Nat.{pow-add, pow_pos, shr-shr, shr_split, shr_high, shl_below, field_of, mod-pow-add, mod_low, mod_below, and_le_l, and_le_r, or_comm, or_disjoint, or_shifted, or_block, and_block, and_mask, or_mod, or_lt, div_below, mul-add-lt, shl_whole}
use Rattle.std.proofs.Math.Nat.{mod-eq_of_lt, mul-le-mul_left, mul-mod_left, pow-le-pow_right, pow-suc, div-div-eq-div-mul}
use Rattle.hx_base.specs.Touching.{interleave}
use Rattle.hx_nest.specs.Bits.{even_bits}
use Rattle.hx_nest.proofs.Interleaved.{interleave_below}

-- the first m digits of t bits of a number, each in 2t bits
pub digits_apart : ℕ → ℕ → ℕ → ℕ
digits_apart t zero x = 0
digits_apart t (suc m) x = digits_apart t m (x / 2 ^ t) * 2 ^ (t + t) + x % 2 ^ t

-- the spots of such digits
pub places_of_digits : ℕ → ℕ → ℕ
places_of_digits t zero = 0
places_of_digits t (suc m) = places_of_digits t m * 2 ^ (t + t) + (2 ^ t - 1)

abbrev pub double : ℕ → ℕ
double zero = zero
double (suc m) = suc (suc (double m))

or_zero : (b : ℕ) → bit_or 0 b ≡ b
or_zero b = let none : bit_and 0 b ≡ 0 = omega (arith, and_le_l 0 b) in or_disjoint 0 b none ∙ omega arith

or_zero_right : (a : ℕ) → bit_or a 0 ≡ a
or_zero_right a = or_comm a 0 ∙ or_zero a

squared : (s q : ℕ) → q * 2 ^ (s + s) ≡ q * (2 ^ s * 2 ^ s)
squared s q = ap (λ (k : ℕ). q * k) (pow-add 2 s s)

half_below : (s d : ℕ) → d < 2 ^ (s + s) → d / 2 ^ s < 2 ^ s
half_below s d small = let wide = rw (pow-add 2 s s) at small in div_below d (2 ^ s) (2 ^ s) (pow_pos s) wide

mask_below : (s : ℕ) → 2 ^ s - 1 < 2 ^ (s + s)
mask_below s = let t = pow_pos s in let le = mul-le-mul_left (2 ^ s) t in omega (arith, pow-add 2 s s)

-- one digit of 2s bits, set apart
apart_once : (s d : ℕ) → d < 2 ^ (s + s) → bit_and (bit_or d (d * 2 ^ s)) ((2 ^ s - 1) * 2 ^ (s + s) + (2 ^ s - 1)) ≡ d / 2 ^ s * 2 ^ (s + s) + d % 2 ^ s
apart_once s d small =
    let q = d / 2 ^ s in
    let r = d % 2 ^ s in
    let split = shr_split d s in
    let r_small : d % 2 ^ s < 2 ^ s = mod_below d (2 ^ s) (pow_pos s) in
    let r_shifted : d % 2 ^ s * 2 ^ s < 2 ^ (s + s) = shl_below (d % 2 ^ s) s s r_small in
    let shifted : d * 2 ^ s ≡ d / 2 ^ s * 2 ^ (s + s) + d % 2 ^ s * 2 ^ s = ap (λ (k : ℕ). k * 2 ^ s) (sym split) ∙ omega (arith, squared s (d / 2 ^ s)) in
    let whole : d ≡ 0 * 2 ^ (s + s) + d = omega arith in
    let ored : bit_or d (d * 2 ^ s) ≡ d / 2 ^ s * 2 ^ (s + s) + bit_or d (d % 2 ^ s * 2 ^ s) =
    ap (λ (k : ℕ). bit_or d k) shifted ∙ ap (λ (k : ℕ). bit_or k (d / 2 ^ s * 2 ^ (s + s) + d % 2 ^ s * 2 ^ s)) whole ∙ or_block (s + s) 0 (d / 2 ^ s) d (d % 2 ^ s * 2 ^ s) small r_shifted
    ∙ ap (λ (k : ℕ). k * 2 ^ (s + s) + bit_or d (d % 2 ^ s * 2 ^ s)) (or_zero (d / 2 ^ s)) in
    let high : bit_and (d / 2 ^ s) (2 ^ s - 1) ≡ d / 2 ^ s = and_mask (d / 2 ^ s) s ∙ mod-eq_of_lt (half_below s d small) in
    let low : bit_and (bit_or d (d % 2 ^ s * 2 ^ s)) (2 ^ s - 1) ≡ d % 2 ^ s =
    and_mask (bit_or d (d % 2 ^ s * 2 ^ s)) s ∙ or_mod d (d % 2 ^ s * 2 ^ s) s ∙ ap (λ (k : ℕ). bit_or (d % 2 ^ s) k) (mul-mod_left (d % 2 ^ s) (2 ^ s)) ∙ or_zero_right (d % 2 ^ s) in
    ap (λ (k : ℕ). bit_and k ((2 ^ s - 1) * 2 ^ (s + s) + (2 ^ s - 1))) ored
    ∙ and_block (s + s) (d / 2 ^ s) (2 ^ s - 1) (bit_or d (d % 2 ^ s * 2 ^ s)) (2 ^ s - 1) (or_lt (s + s) d (d % 2 ^ s * 2 ^ s) small r_shifted) (mask_below s)
    ∙ rw (high, low) refl

-- a number of two digits, and the rest above them
module _ (s x : ℕ) where
  above_two : x / 2 ^ s / 2 ^ s ≡ x / 2 ^ (s + s)
  above_two = shr-shr x s s

  high_of_two : x % 2 ^ (s + s) / 2 ^ s ≡ x / 2 ^ s % 2 ^ s
  high_of_two = field_of x s s

  low_of_two : x % 2 ^ (s + s) % 2 ^ s ≡ x % 2 ^ s
  low_of_two = ap (λ (k : ℕ). k % 2 ^ s) (mod-pow-add x s s) ∙ mod_low (x / 2 ^ s % 2 ^ s) s (x % 2 ^ s) (mod_below x (2 ^ s) (pow_pos s))

  two_below : x % 2 ^ (s + s) < 2 ^ (s + s)
  two_below = mod_below x (2 ^ (s + s)) (pow_pos (s + s))

module _ (s d : ℕ) (small : d < 2 ^ (s + s)) where
  four_below : d < 2 ^ (s + s + (s + s))
  four_below = omega (arith, small, pow-le-pow_right {n = 2} (omega arith) {i = s + s} {j = s + s + (s + s)} (omega arith))

  shifted_below : d * 2 ^ s < 2 ^ (s + s + (s + s))
  shifted_below = omega (arith, shl_below d (s + s) s small, pow-le-pow_right {n = 2} (omega arith) {i = s + s + s} {j = s + s + (s + s)} (omega arith))

masks_below : (s : ℕ) → (2 ^ s - 1) * 2 ^ (s + s) + (2 ^ s - 1) < 2 ^ (s + s + (s + s))
masks_below s =
    let small = mask_below s in
    let le : 2 ^ s - 1 + 1 ≤ 2 ^ (s + s) = omega arith in
    let product = mul-le-mul_left (2 ^ (s + s)) le in
    omega (arith, pow-add 2 (s + s) (s + s))

-- digits of 2s bits, all set apart at once
pub apart : (s m x : ℕ) → bit_and (bit_or (digits_apart (s + s) m x) (digits_apart (s + s) m x * 2 ^ s)) (places_of_digits s (double m)) ≡ digits_apart s (double m) x
unfolding digits_apart places_of_digits
apart s zero x = omega (arith, and_le_r (bit_or 0 (0 * 2 ^ s)) 0)
apart s (suc m) x =
    let rest = digits_apart (s + s) m (x / 2 ^ (s + s)) in
    let d = x % 2 ^ (s + s) in
    let small = two_below s x in
    let spots = places_of_digits s (double m) in
    let ones = 2 ^ s - 1 in
    let shifted : (digits_apart (s + s) m (x / 2 ^ (s + s)) * 2 ^ (s + s + (s + s)) + x % 2 ^ (s + s)) * 2 ^ s ≡ digits_apart (s + s) m (x / 2 ^ (s + s)) * 2 ^ s * 2 ^ (s + s + (s + s)) + x % 2 ^ (s + s) * 2 ^ s = omega arith in
    let mask : (places_of_digits s (double m) * 2 ^ (s + s) + (2 ^ s - 1)) * 2 ^ (s + s) + (2 ^ s - 1) ≡ places_of_digits s (double m) * 2 ^ (s + s + (s + s)) + ((2 ^ s - 1) * 2 ^ (s + s) + (2 ^ s - 1)) = omega (arith, squared (s + s) (places_of_digits s (double m))) in
    let wide = squared (s + s) (digits_apart s (double m) (x / 2 ^ (s + s))) in
    let right : (digits_apart s (double m) (x / 2 ^ s / 2 ^ s) * 2 ^ (s + s) + x / 2 ^ s % 2 ^ s) * 2 ^ (s + s) + x % 2 ^ s ≡ digits_apart s (double m) (x / 2 ^ (s + s)) * 2 ^ (s + s + (s + s)) + (x % 2 ^ (s + s) / 2 ^ s * 2 ^ (s + s) + x % 2 ^ (s + s) % 2 ^ s) =
    rw (above_two s x, high_of_two s x, low_of_two s x) (omega (arith, wide)) in
    ap (λ (k : ℕ). bit_and (bit_or (rest * 2 ^ (s + s + (s + s)) + d) k) ((spots * 2 ^ (s + s) + ones) * 2 ^ (s + s) + ones)) shifted
    ∙ ap (λ (k : ℕ). bit_and k ((spots * 2 ^ (s + s) + ones) * 2 ^ (s + s) + ones)) (or_block (s + s + (s + s)) rest (rest * 2 ^ s) d (d * 2 ^ s) (four_below s d small) (shifted_below s d small))
    ∙ ap (λ (k : ℕ). bit_and (bit_or rest (rest * 2 ^ s) * 2 ^ (s + s + (s + s)) + bit_or d (d * 2 ^ s)) k) mask
    ∙ and_block (s + s + (s + s)) (bit_or rest (rest * 2 ^ s)) spots (bit_or d (d * 2 ^ s)) (ones * 2 ^ (s + s) + ones) (or_lt (s + s + (s + s)) d (d * 2 ^ s) (four_below s d small) (shifted_below s d small)) (masks_below s)
    ∙ ap (λ (k : ℕ). k * 2 ^ (s + s + (s + s)) + bit_and (bit_or d (d * 2 ^ s)) (ones * 2 ^ (s + s) + ones)) (apart s m (x / 2 ^ (s + s)))
    ∙ ap (λ (k : ℕ). digits_apart s (double m) (x / 2 ^ (s + s)) * 2 ^ (s + s + (s + s)) + k) (apart_once s d small)
    ∙ sym right

-- a shift down by a digit, of D digits above the two lowest
module _ (s D hi lo : ℕ) (h : hi < 2 ^ s) (l : lo < 2 ^ s) where
  T : ℕ
  T = 2 ^ s

  high_two_below : hi * 2 ^ s < 2 ^ (s + s)
  high_two_below = shl_below hi s s h

  low_below : lo < 2 ^ (s + s)
  low_below = omega (arith, pow-le-pow_right {n = 2} (omega arith) {i = s} {j = s + s} (omega arith))

  both_below : hi * 2 ^ (s + s) + lo < 2 ^ (s + s + (s + s))
  both_below =
      let wide : 2 ^ (s + s) ≤ 2 ^ (s + s + s) = pow-le-pow_right {n = 2} (omega arith) {i = s + s} {j = s + s + s} (omega arith) in
      let most = mul-add-lt hi (2 ^ (s + s)) lo (2 ^ s) h low_below in
      omega (arith, most, pow-add 2 (s + s) s, pow-le-pow_right {n = 2} (omega arith) {i = s + s + s} {j = s + s + (s + s)} (omega arith))

  spilled : ℕ
  spilled = D % 2 ^ s * 2 ^ (s + s + s) + hi * 2 ^ s

  spilled_below : D % 2 ^ s * 2 ^ (s + s + s) + hi * 2 ^ s < 2 ^ (s + s + (s + s))
  spilled_below =
      let col : hi * 2 ^ s < 2 ^ (s + s + s) = omega (arith, high_two_below, pow-le-pow_right {n = 2} (omega arith) {i = s + s} {j = s + s + s} (omega arith)) in
      let most = mul-add-lt (D % 2 ^ s) (2 ^ (s + s + s)) (hi * 2 ^ s) (2 ^ s) (mod_below D (2 ^ s) (pow_pos s)) col in
      let e : s + s + s + s ≡ s + s + (s + s) = omega arith in
      let size : 2 ^ (s + s + s) * 2 ^ s ≡ 2 ^ (s + s + (s + s)) = sym (pow-add 2 (s + s + s) s) ∙ ap (λ (k : ℕ). 2 ^ k) e in
      omega (arith, most, size)

  shifted_down : (D * 2 ^ (s + s + (s + s)) + (hi * 2 ^ (s + s) + lo)) / 2 ^ s ≡ D / 2 ^ s * 2 ^ (s + s + (s + s)) + (D % 2 ^ s * 2 ^ (s + s + s) + hi * 2 ^ s)
  shifted_down =
      let e : s + s + s + s ≡ s + s + (s + s) = omega arith in
      let size : 2 ^ (s + s + s) * 2 ^ s ≡ 2 ^ (s + s + (s + s)) = sym (pow-add 2 (s + s + s) s) ∙ ap (λ (k : ℕ). 2 ^ k) e in
      let split : D * 2 ^ (s + s + (s + s)) ≡ (D / 2 ^ s * 2 ^ s + D % 2 ^ s) * 2 ^ (s + s + (s + s)) = ap (λ (k : ℕ). k * 2 ^ (s + s + (s + s))) (sym (shr_split D s)) in
      let spill : D % 2 ^ s * 2 ^ (s + s + (s + s)) ≡ D % 2 ^ s * (2 ^ (s + s + s) * 2 ^ s) = ap (λ (k : ℕ). D % 2 ^ s * k) (sym size) in
      let whole : D * 2 ^ (s + s + (s + s)) + (hi * 2 ^ (s + s) + lo) ≡ (D / 2 ^ s * 2 ^ (s + s + (s + s)) + (D % 2 ^ s * 2 ^ (s + s + s) + hi * 2 ^ s)) * 2 ^ s + lo = omega (arith, split, spill, squared s hi) in
      ap (λ (k : ℕ). k / 2 ^ s) whole ∙ shr_high (D / 2 ^ s * 2 ^ (s + s + (s + s)) + (D % 2 ^ s * 2 ^ (s + s + s) + hi * 2 ^ s)) s lo l

  joined : bit_and (bit_or (hi * 2 ^ (s + s) + lo) (D % 2 ^ s * 2 ^ (s + s + s) + hi * 2 ^ s)) (2 ^ (s + s) - 1) ≡ hi * 2 ^ s + lo
  joined =
      let first : (hi * 2 ^ (s + s) + lo) % 2 ^ (s + s) ≡ lo = mod_low hi (s + s) lo low_below in
      let e : s + s + s ≡ s + (s + s) = omega arith in
      let size : D % 2 ^ s * 2 ^ (s + s + s) ≡ D % 2 ^ s * 2 ^ s * 2 ^ (s + s) = ap (λ (k : ℕ). D % 2 ^ s * k) (ap (λ (k : ℕ). 2 ^ k) e ∙ pow-add 2 s (s + s)) ∙ omega arith in
      let second : (D % 2 ^ s * 2 ^ (s + s + s) + hi * 2 ^ s) % 2 ^ (s + s) ≡ hi * 2 ^ s = ap (λ (k : ℕ). (k + hi * 2 ^ s) % 2 ^ (s + s)) size ∙ mod_low (D % 2 ^ s * 2 ^ s) (s + s) (hi * 2 ^ s) high_two_below in
      and_mask (bit_or (hi * 2 ^ (s + s) + lo) (D % 2 ^ s * 2 ^ (s + s + s) + hi * 2 ^ s)) (s + s)
      ∙ or_mod (hi * 2 ^ (s + s) + lo) (D % 2 ^ s * 2 ^ (s + s + s) + hi * 2 ^ s) (s + s)
      ∙ rw (first, second) (or_comm lo (hi * 2 ^ s) ∙ or_shifted hi s lo l)

-- digits of s bits, moved together by twos
pub together : (s m x : ℕ) → bit_and (bit_or (digits_apart s (double m) x) (digits_apart s (double m) x / 2 ^ s)) (places_of_digits (s + s) m) ≡ digits_apart (s + s) m x
unfolding digits_apart places_of_digits
together s zero x = omega (arith, and_le_r (bit_or 0 (0 / 2 ^ s)) 0)
together s (suc m) x =
    let D = digits_apart s (double m) (x / 2 ^ s / 2 ^ s) in
    let hi = x / 2 ^ s % 2 ^ s in
    let lo = x % 2 ^ s in
    let h = mod_below (x / 2 ^ s) (2 ^ s) (pow_pos s) in
    let l = mod_below x (2 ^ s) (pow_pos s) in
    let whole : (digits_apart s (double m) (x / 2 ^ s / 2 ^ s) * 2 ^ (s + s) + x / 2 ^ s % 2 ^ s) * 2 ^ (s + s) + x % 2 ^ s ≡ digits_apart s (double m) (x / 2 ^ s / 2 ^ s) * 2 ^ (s + s + (s + s)) + (x / 2 ^ s % 2 ^ s * 2 ^ (s + s) + x % 2 ^ s) =
    omega (arith, squared (s + s) (digits_apart s (double m) (x / 2 ^ s / 2 ^ s))) in
    let spots = places_of_digits (s + s) m in
    let ones = 2 ^ (s + s) - 1 in
    let spill = D % 2 ^ s * 2 ^ (s + s + s) + hi * 2 ^ s in
    ap (λ (k : ℕ). bit_and (bit_or k (k / 2 ^ s)) (spots * 2 ^ (s + s + (s + s)) + ones)) whole
    ∙ ap (λ (k : ℕ). bit_and (bit_or (D * 2 ^ (s + s + (s + s)) + (hi * 2 ^ (s + s) + lo)) k) (spots * 2 ^ (s + s + (s + s)) + ones)) (shifted_down s D hi lo h l)
    ∙ ap (λ (k : ℕ). bit_and k (spots * 2 ^ (s + s + (s + s)) + ones)) (or_block (s + s + (s + s)) D (D / 2 ^ s) (hi * 2 ^ (s + s) + lo) spill (both_below s D hi lo h l) (spilled_below s D hi lo h l))
    ∙ and_block (s + s + (s + s)) (bit_or D (D / 2 ^ s)) spots (bit_or (hi * 2 ^ (s + s) + lo) spill) ones (or_lt (s + s + (s + s)) (hi * 2 ^ (s + s) + lo) spill (both_below s D hi lo h l) (spilled_below s D hi lo h l)) (mask_below (s + s))
    ∙ ap (λ (k : ℕ). k * 2 ^ (s + s + (s + s)) + bit_and (bit_or (hi * 2 ^ (s + s) + lo) spill) ones) (together s m (x / 2 ^ s / 2 ^ s))
    ∙ ap (λ (k : ℕ). digits_apart (s + s) m (x / 2 ^ s / 2 ^ s) * 2 ^ (s + s + (s + s)) + k) (joined s D hi lo h l ∙ sym (mod-pow-add x s s))
    ∙ ap (λ (k : ℕ). digits_apart (s + s) m k * 2 ^ (s + s + (s + s)) + x % 2 ^ (s + s)) (above_two s x)

-- m digits of t bits end with the last one
apart_below : (t m x : ℕ) → digits_apart t (suc m) x < 2 ^ (t + m * (t + t))
unfolding digits_apart
apart_below t zero x = let e : t + 0 * (t + t) ≡ t = omega arith in rw e (omega (arith, mod_below x (2 ^ t) (pow_pos t)))
apart_below t (suc m) x =
    let rest = apart_below t m (x / 2 ^ t) in
    let digit = mod_below x (2 ^ t) (pow_pos t) in
    let small : x % 2 ^ t < 2 ^ (t + t) = omega (arith, digit, pow-le-pow_right {n = 2} (omega arith) {i = t} {j = t + t} (omega arith)) in
    let all = mul-add-lt (digits_apart t (suc m) (x / 2 ^ t)) (2 ^ (t + t)) (x % 2 ^ t) (2 ^ (t + m * (t + t))) rest small in
    let e : t + t + (t + m * (t + t)) ≡ t + suc m * (t + t) = omega arith in
    let size : 2 ^ (t + t) * 2 ^ (t + m * (t + t)) ≡ 2 ^ (t + suc m * (t + t)) = sym (pow-add 2 (t + t) (t + m * (t + t))) ∙ ap (λ (k : ℕ). 2 ^ k) e in
    omega (arith, all, size)

-- one step of each kind, as the code makes it
pub step_apart : (s m b x mask : ℕ) → b ≡ digits_apart (s + s) (suc m) x → s + s + m * (s + s + (s + s)) + s ≤ 64 → mask ≡ places_of_digits s (double (suc m)) → bit_and (bit_or b (b * 2 ^ s % 2 ^ 64)) mask ≡ digits_apart s (double (suc m)) x
step_apart s m b x mask is fits spots =
    let small : b < 2 ^ (s + s + m * (s + s + (s + s))) = rw is (apart_below (s + s) m x) in
    let kept : b * 2 ^ s % 2 ^ 64 ≡ b * 2 ^ s = shl_whole b (s + s + m * (s + s + (s + s))) s 64 small fits in
    rw (kept, spots, is) (apart s (suc m) x)

pub step_together : (s m b x mask : ℕ) → b ≡ digits_apart s (double m) x → mask ≡ places_of_digits (s + s) m → bit_and (bit_or b (b / 2 ^ s)) mask ≡ digits_apart (s + s) m x
step_together s m b x mask is spots = rw (is, spots) (together s m x)

-- the masks of the code
pub masks : (places_of_digits 16 2 ≡ 0x0000_FFFF_0000_FFFF) × (places_of_digits 8 4 ≡ 0x00FF_00FF_00FF_00FF) × (places_of_digits 4 8 ≡ 0x0F0F_0F0F_0F0F_0F0F) × (places_of_digits 2 16 ≡ 0x3333_3333_3333_3333) × (places_of_digits 1 32 ≡ 0x5555_5555_5555_5555) × (places_of_digits 32 1 ≡ 0xFFFF_FFFF)
unfolding places_of_digits
masks = (refl, refl, refl, refl, refl, refl)

-- one digit is the number
pub one_digit : (t x : ℕ) → x < 2 ^ t → digits_apart t 1 x ≡ x
unfolding digits_apart
one_digit t x small = omega (arith, mod-eq_of_lt small)

-- digits of one bit
pub bits_apart : (m x : ℕ) → digits_apart 1 m x ≡ interleave m x 0
unfolding digits_apart
bits_apart zero x = refl
bits_apart (suc m) x = omega (arith, bits_apart m (x / 2))

even_digits : (m p : ℕ) → bit_and p (places_of_digits 1 m) ≡ digits_apart 1 m (even_bits m p)
unfolding digits_apart places_of_digits even_bits
even_digits zero p = omega (arith, and_le_r p 0)
even_digits (suc m) p =
    let whole : p ≡ p / 4 * 2 ^ 2 + p % 4 = omega arith in
    let one : bit_and (p % 4) 1 ≡ p % 2 = and_mask (p % 4) 1 ∙ omega arith in
    let half : (p % 2 + 2 * even_bits m (p / 4)) / 2 ≡ even_bits m (p / 4) = omega arith in
    let last : (p % 2 + 2 * even_bits m (p / 4)) % 2 ≡ p % 2 = omega arith in
    ap (λ (k : ℕ). bit_and k (places_of_digits 1 m * 4 + 1)) whole ∙ and_block 2 (p / 4) (places_of_digits 1 m) (p % 4) 1 (omega arith) (omega arith) ∙ rw (one, even_digits m (p / 4), half, last) refl

pub step_even : (m p mask : ℕ) → mask ≡ places_of_digits 1 m → bit_and p mask ≡ digits_apart 1 m (even_bits m p)
step_even m p mask spots = rw spots (even_digits m p)

-- the higher bits of small numbers are 0
no_bits : (m : ℕ) → interleave m 0 0 ≡ 0
no_bits zero = refl
no_bits (suc m) = omega (arith, no_bits m)

wider : (j k x y : ℕ) → x < 2 ^ k → y < 2 ^ k → interleave (k + j) x y ≡ interleave k x y
wider j zero x y hx hy =
    let ex : x ≡ 0 = omega arith in
    let ey : y ≡ 0 = omega arith in
    let e : 0 + j ≡ j = omega arith in
    rw (ex, ey, e) (no_bits j)
wider j (suc k) x y hx hy =
    let two = pow-suc 2 k in
    let e : suc k + j ≡ suc (k + j) = omega arith in
    let rest = wider j k (x / 2) (y / 2) (omega arith) (omega arith) in
    rw e (omega (arith, rest))

pub same_below : (m k x y : ℕ) → k ≤ m → x < 2 ^ k → y < 2 ^ k → interleave m x y ≡ interleave k x y
same_below m k x y le hx hy = let e : m ≡ k + (m - k) = omega arith in ap (λ (j : ℕ). interleave j x y) e ∙ wider (m - k) k x y hx hy

-- what a spread number is
pub spread_at : (m k x : ℕ) → k ≤ m → x < 2 ^ k → digits_apart 1 m x ≡ interleave k x 0
spread_at m k x le small = bits_apart m x ∙ same_below m k x 0 le small (pow_pos k)

-- bits at even digits and bits at odd digits
apart_bits : (m x y : ℕ) → bit_and (interleave m x 0) (interleave m y 0 * 2) ≡ 0
apart_bits zero x y = omega (arith, and_le_r 0 (0 * 2))
apart_bits (suc m) x y =
    let rest = apart_bits m (x / 2) (y / 2) in
    let first : interleave (suc m) x 0 ≡ interleave m (x / 2) 0 * 2 ^ 2 + x % 2 = omega arith in
    let second : interleave (suc m) y 0 * 2 ≡ interleave m (y / 2) 0 * 2 * 2 ^ 2 + (y % 2 * 2 ^ 1 + 0) = omega arith in
    let low : x % 2 ≡ 0 * 2 ^ 1 + x % 2 = omega arith in
    let digit : bit_and (x % 2) (y % 2 * 2 ^ 1 + 0) ≡ 0 =
    ap (λ (k : ℕ). bit_and k (y % 2 * 2 ^ 1 + 0)) low ∙ and_block 1 0 (y % 2) (x % 2) 0 (omega arith) (omega arith) ∙ omega (arith, and_le_l 0 (y % 2), and_le_r (x % 2) 0) in
    ap (λ (k : ℕ). bit_and k (interleave (suc m) y 0 * 2)) first ∙ ap (λ (k : ℕ). bit_and (interleave m (x / 2) 0 * 2 ^ 2 + x % 2) k) second
    ∙ and_block 2 (interleave m (x / 2) 0) (interleave m (y / 2) 0 * 2) (x % 2) (y % 2 * 2 ^ 1 + 0) (omega arith) (omega arith) ∙ omega (arith, rest, digit)

sum : (m x y : ℕ) → interleave m x 0 + interleave m y 0 * 2 ≡ interleave m x y
sum zero x y = omega arith
sum (suc m) x y = omega (arith, sum m (x / 2) (y / 2))

half_room : (k y : ℕ) → k ≤ 32 → interleave k y 0 * 2 ≤ interleave k 0 y
half_room k y order = omega (arith, sum k 0 y)

pub both : (k x y : ℕ) → k ≤ 32 → bit_or (interleave k x 0) (interleave k y 0 * 2 ^ 1 % 2 ^ 64) ≡ interleave k x y
both k x y order =
    let room : interleave k y 0 * 2 < 2 ^ 64 = omega (arith, half_room k y order, interleave_below k 0 y, pow-le-pow_right {n = 4} (omega arith) {i = k} {j = 32} order) in
    rw (mod-eq_of_lt room) (or_disjoint (interleave k x 0) (interleave k y 0 * 2) (apart_bits k x y) ∙ sum k x y)

-- the even bits of a number
pub even_below : (m p : ℕ) → even_bits m p < 2 ^ m
unfolding even_bits
even_below zero p = omega arith
even_below (suc m) p = omega (arith, even_below m (p / 4), pow-suc 2 m)

no_even : (m : ℕ) → even_bits m 0 ≡ 0
unfolding even_bits
no_even zero = refl
no_even (suc m) = omega (arith, no_even m)

even_wider : (j k p : ℕ) → p < 4 ^ k → even_bits (k + j) p ≡ even_bits k p
unfolding even_bits
even_wider j zero p h =
    let ep : p ≡ 0 = omega arith in
    let e : 0 + j ≡ j = omega arith in
    rw (ep, e) (no_even j)
even_wider j (suc k) p h =
    let four = pow-suc 4 k in
    let e : suc k + j ≡ suc (k + j) = omega arith in
    let rest = even_wider j k (p / 4) (omega arith) in
    rw e (omega (arith, rest))

pub even_at : (m k p : ℕ) → k ≤ m → p < 4 ^ k → digits_apart m 1 (even_bits m p) ≡ even_bits k p
even_at m k p le small = let e : m ≡ k + (m - k) = omega arith in one_digit m (even_bits m p) (even_below m p) ∙ ap (λ (j : ℕ). even_bits j p) e ∙ even_wider (m - k) k p small

pub back : (k p : ℕ) → p < 4 ^ k → interleave k (even_bits k p) (even_bits k (p / 2)) ≡ p
unfolding even_bits
back zero p h = omega arith
back (suc k) p h =
    let small : p / 4 < 4 ^ k = omega (arith, pow-suc 4 k) in
    let rest = back k (p / 4) small in
    let halves : p / 2 / 4 ≡ p / 4 / 2 = div-div-eq-div-mul p 2 4 ∙ sym (div-div-eq-div-mul p 4 2) in
    let a : (p % 2 + 2 * even_bits k (p / 4)) / 2 ≡ even_bits k (p / 4) = omega arith in
    let b : (p / 2 % 2 + 2 * even_bits k (p / 2 / 4)) / 2 ≡ even_bits k (p / 4 / 2) = rw halves (omega arith) in
    rw (a, b, rest) (omega arith)
