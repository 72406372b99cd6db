-- Whether two pixels touch is decided, by the places of their corners.
use Rattle.std.proofs.Common.{◌≡◌, ◌+◌, ◌*◌, ◌/◌, ◌%◌, ◌^◌, ◌<◌, ◌≤◌, ◌⊎◌, ℕ, zero, suc, refl, sym, ap, subst, arith, inl, inr}
use Rattle.std.proofs.lemmas.Bool.{cases_eq, cases_lt}
use Rattle.std.proofs.Math.Nat.{div-lt_iff_lt-mul, mod-lt, pow-suc}
use Rattle.std.proofs.lemmas.Nat.{div-add-mod'}
use Rattle.hx_base.proofs.Powers.{four_pos}
use Rattle.hx_base.specs.Touching.{IsAt, Touch, corner_point, interleave}
use Rattle.hx_nest.proofs.Interleaved.{number_below, one_place}
use Rattle.hx_nest.proofs.Touches.{touch_at, touch_from}

pub touch_back : (k p q : ℕ) → Touch k p q → Touch k q p
touch_back k p q t = record { different = λ e. t.different (sym e); shared = (t.shared.0, t.shared.2, t.shared.1) }

-- a claim holds or doesn't
abbrev pub Decided : Type 0 → Type 0
Decided P = P ⊎ (¬ P)

-- each number below 4 ^ k has its coordinates
pub record HasCoordinates (k number : ℕ) : Type 0 where
  pub x : ℕ
  pub y : ℕ
  pub x_range : x < 2 ^ k
  pub y_range : y < 2 ^ k
  pub is : interleave k x y ≡ number

pub coordinates : (k number : ℕ) → number < 4 ^ k → HasCoordinates k number
coordinates zero number below = record { x = 0; y = 0; x_range = omega arith; y_range = omega arith; is = omega (arith, below) }
coordinates (suc k) number below =
    let two = pow-suc 2 k in
    let four = pow-suc 4 k in
    let h = coordinates k (number / 4) (omega (arith, four, below)) in
    let hx = h.x_range in
    let hy = h.y_range in
    let x = number % 2 + 2 * h.x in
    let y = number / 2 % 2 + 2 * h.y in
    let half_x : (number % 2 + 2 * h.x) / 2 ≡ h.x = omega arith in
    let half_y : (number / 2 % 2 + 2 * h.y) / 2 ≡ h.y = omega arith in
    let rest : interleave k ((number % 2 + 2 * h.x) / 2) ((number / 2 % 2 + 2 * h.y) / 2) ≡ number / 4 = rw (half_x, half_y) h.is in
    record { x = number % 2 + 2 * h.x; y = number / 2 % 2 + 2 * h.y; x_range = omega (arith, two, hx); y_range = omega (arith, two, hy); is = omega (arith, rest) }

-- a pixel that there is has a place
pub record HasAPlace (k p : ℕ) : Type 0 where
  pub face : ℕ
  pub x : ℕ
  pub y : ℕ
  pub at : IsAt k p face x y

pub placed : (k p : ℕ) → p < 12 * 4 ^ k → HasAPlace k p
placed k p below =
    let some = four_pos k in
    let face = p / 4 ^ k in
    let rest = coordinates k (p % 4 ^ k) (mod-lt p some) in
    record {
      face = p / 4 ^ k;
      x = rest.x;
      y = rest.y;
      at = record {
        face_range = (div-lt_iff_lt-mul some).1 below;
        x_range = rest.x_range;
        y_range = rest.y_range;
        number = rw rest.is (sym (div-add-mod' p (4 ^ k)));
      };
    }

pub both_decided : (P Q : Type 0) → Decided P → Decided Q → Decided (P × Q)
both_decided P Q (inl p) (inl q) = inl (p, q)
both_decided P Q (inr p) q = inr (λ h. p h.0)
both_decided P Q (inl p) (inr q) = inr (λ h. q h.1)

-- two corners, one of each pixel, are one point
abbrev SharesCorner : ℕ → ℕ → ℕ → ℕ → ℕ → ℕ → ℕ → Type 0
SharesCorner n f x y g a b = (i j l m : ℕ) × (i ≤ 1) × (j ≤ 1) × (l ≤ 1) × (m ≤ 1) × (corner_point n f (x + i) (y + j) ≡ corner_point n g (a + l) (b + m))

-- a claim on 0 or 1
abbrev OnABit : (ℕ → Type 0) → Type 0
OnABit P = (i : ℕ) × (i ≤ 1) × P i

neither : (P : ℕ → Type 0) → ¬ (P 0) → ¬ (P 1) → (i : ℕ) → i ≤ 1 → ¬ (P i)
neither P no0 no1 zero le h = no0 h
neither P no0 no1 (suc zero) le h = no1 h
neither P no0 no1 (suc (suc i)) le h = omega (arith, le)

bit_decided : (P : ℕ → Type 0) → ((i : ℕ) → Decided (P i)) → Decided (OnABit P)
bit_decided P d =
    elim (d 0) [
      | inl it ↦ inl (0, omega arith, it)
      | inr no0 ↦ elim (d 1) [
        | inl it ↦ inl (1, omega arith, it)
        | inr no1 ↦ inr (λ h. neither P no0 no1 h.0 h.1 h.2)
      ]
    ]

pair_decided : (a b : ℕ × ℕ) → Decided (a ≡ b)
pair_decided (a, b) (c, d) =
    elim (cases_eq a c) [
      | inl first ↦ elim (cases_eq b d) [
        | inl second ↦ inl (rw (first, second) refl)
        | inr off ↦ inr (λ e. off (ap (λ (p : ℕ × ℕ). p.1) e))
      ]
      | inr off ↦ inr (λ e. off (ap (λ (p : ℕ × ℕ). p.0) e))
    ]

abbrev SomeCorner : ℕ → ℕ → ℕ → ℕ → ℕ → ℕ → ℕ → Type 0
SomeCorner n f x y g a b = OnABit (λ i. OnABit (λ j. OnABit (λ l. OnABit (λ m. corner_point n f (x + i) (y + j) ≡ corner_point n g (a + l) (b + m)))))

corner_decided : (n f x y g a b : ℕ) → Decided (SomeCorner n f x y g a b)
corner_decided n f x y g a b =
    bit_decided _ (λ i. bit_decided _ (λ j. bit_decided _ (λ l. bit_decided _ (λ m. pair_decided (corner_point n f (x + i) (y + j)) (corner_point n g (a + l) (b + m))))))

meet : (n f x y g a b h c d : ℕ) → g ≡ h → a ≡ c → b ≡ d → SharesCorner n f x y g a b → SomeCorner n f x y h c d
meet n f x y g a b h c d eg ea eb (i, j, l, m, hi, hj, hl, hm, e) =
    let one = subst (λ (z : ℕ). corner_point n f (x + i) (y + j) ≡ corner_point n z (a + l) (b + m)) eg e in
    let two = subst (λ (z : ℕ). corner_point n f (x + i) (y + j) ≡ corner_point n h (z + l) (b + m)) ea one in
    let three = subst (λ (z : ℕ). corner_point n f (x + i) (y + j) ≡ corner_point n h (c + l) (z + m)) eb two in
    (i, hi, (j, hj, (l, hl, (m, hm, three))))

part_from : (n f x y g a b : ℕ) → SomeCorner n f x y g a b → SharesCorner n f x y g a b
part_from n f x y g a b (i, hi, (j, hj, (l, hl, (m, hm, e)))) = (i, j, l, m, hi, hj, hl, hm, e)

at_places : (k p q : ℕ) (here : HasAPlace k p) (there : HasAPlace k q) → Decided (Touch k p q)
at_places k p q here there =
    elim (cases_eq p q) [
      | inl same ↦ inr (λ t. t.different same)
      | inr other ↦ elim (corner_decided (2 ^ k) here.face here.x here.y there.face there.x there.y) [
        | inl it ↦ inl (touch_from k p q here.face here.x here.y there.face there.x there.y here.at there.at other (part_from _ _ _ _ _ _ _ it))
        | inr off ↦ inr (λ t.
            let at = touch_at k p q here.face here.x here.y here.at t in
            let same = one_place k q at.face at.a at.b there.face there.x there.y at.at there.at in
            off (meet (2 ^ k) here.face here.x here.y at.face at.a at.b there.face there.x there.y same.0 same.1 same.2 at.shares))
      ]
    ]

-- a number that is none of a pixel touches none
pub touch_decided : (k p q : ℕ) → Decided (Touch k p q)
touch_decided k p q =
    elim (cases_lt p (12 * 4 ^ k)) [
      | inr past ↦ inr (λ t. let at = t.shared.1 in let below = number_below k p at.0 at.1 at.2 at.5 in omega (arith, below, past))
      | inl hp ↦ elim (cases_lt q (12 * 4 ^ k)) [
        | inr past ↦ inr (λ t. let at = t.shared.2 in let below = number_below k q at.0 at.1 at.2 at.5 in omega (arith, below, past))
        | inl hq ↦ at_places k p q (placed k p hp) (placed k q hq)
      ]
    ]
