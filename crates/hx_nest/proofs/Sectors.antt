-- A ring of four sectors of a size, where the end of a sector is the start of the next one.
use Rattle.std.proofs.Common.{◌≡◌, ◌∙◌, ◌+◌, ◌*◌, ◌%◌, ◌<◌, ◌≤◌, ◌⊎◌, ℕ, zero, suc, refl, sym, ap, subst, arith, inl, inr}
use Rattle.std.proofs.lemmas.Bool.{cases_lt, cases_order}
use Rattle.std.proofs.Math.Nat.{mod-eq_of_lt, mul-le-mul_right, mod_self, zero-mod}

-- a fact for each of the numbers below four
pub four : (P : ℕ → Type 0) → P 0 → P 1 → P 2 → P 3 → (c : ℕ) → c < 4 → P c
four P a b c d zero h = a
four P a b c d (suc zero) h = b
four P a b c d (suc (suc zero)) h = c
four P a b c d (suc (suc (suc zero))) h = d
four P a b c d (suc (suc (suc (suc m)))) h = absurd (omega arith)

abbrev pub next : ℕ → ℕ
next c = (c + 1) % 4

-- step t of sector c is step u of sector d
abbrev pub OnePlace : ℕ → ℕ → ℕ → ℕ → ℕ → Type 0
OnePlace size c t d u = ((c ≡ d) × (t ≡ u)) ⊎ (((d ≡ next c) × (t ≡ size) × (u ≡ 0)) ⊎ ((c ≡ next d) × (u ≡ size) × (t ≡ 0)))

abbrev pub round : ℕ → ℕ → ℕ → ℕ
round size c t = (c * size + t) % (4 * size)

-- once round, at most
once : (m a b : ℕ) → 0 < m → a ≤ m → b ≤ m → a % m ≡ b % m → (a ≡ b) ⊎ (((a ≡ m) × (b ≡ 0)) ⊎ ((a ≡ 0) × (b ≡ m)))
once m a b pos ha hb e =
    elim (cases_lt a m) [
      | inl la ↦
          elim (cases_lt b m) [
            | inl lb ↦ inl (sym (mod-eq_of_lt la) ∙ e ∙ mod-eq_of_lt lb)
            | inr gb ↦
                let at : b ≡ m = omega arith in
                inr (inr (sym (mod-eq_of_lt la) ∙ e ∙ ap (λ (k : ℕ). k % m) at ∙ mod_self m, at))
          ]
      | inr ga ↦
          let at : a ≡ m = omega arith in
          elim (cases_lt b m) [
            | inl lb ↦ inr (inl (at, sym (mod-eq_of_lt lb) ∙ sym e ∙ ap (λ (k : ℕ). k % m) at ∙ mod_self m))
            | inr gb ↦ inl (omega arith)
          ]
    ]

-- a later sector is reached at the end of the one before it alone
later : (size c t d u : ℕ) → 0 < size → c < d → t ≤ size → c * size + t ≡ d * size + u → (d ≡ c + 1) × (t ≡ size) × (u ≡ 0)
later size c t d u pos lt ht e =
    let one = mul-le-mul_right size (let le : c + 1 ≤ d = omega arith in le) in
    elim (cases_lt (c + 1) d) [
      | inl far ↦
          let two = mul-le-mul_right size (let le : c + 2 ≤ d = omega arith in le) in
          absurd (omega arith)
      | inr near ↦ (omega arith, omega arith, omega arith)
    ]

same_sum : (size c t d u : ℕ) → 0 < size → c < 4 → d < 4 → t ≤ size → u ≤ size → c * size + t ≡ d * size + u → OnePlace size c t d u
same_sum size c t d u pos hc hd ht hu e =
    elim (cases_order c d) [
      | inl same ↦ inl (same, (let f : d * size + t ≡ d * size + u = subst (λ (k : ℕ). k * size + t ≡ d * size + u) same e in omega arith))
      | inr (inl up) ↦ let l = later size c t d u pos up ht e in inr (inl (omega (arith, l.0), l.1, l.2))
      | inr (inr down) ↦ let l = later size d u c t pos down hu (sym e) in inr (inr (omega (arith, l.0), l.1, l.2))
    ]

whole_turn : (size c t d u : ℕ) → 0 < size → c < 4 → t ≤ size → c * size + t ≡ 4 * size → d * size + u ≡ 0 → (d ≡ next c) × (t ≡ size) × (u ≡ 0)
whole_turn size c t d u pos hc ht e f =
    let l = later size c t 4 0 pos hc ht (e ∙ omega arith) in
    elim (cases_lt 0 d) [
      | inl some ↦ let one = mul-le-mul_right size (let le : 1 ≤ d = omega arith in le) in absurd (omega arith)
      | inr none ↦ (omega (arith, l.0), l.1, omega arith)
    ]

below_turn : (size c t : ℕ) → c < 4 → t ≤ size → c * size + t ≤ 4 * size
below_turn size c t hc ht = omega (arith, mul-le-mul_right size (let le : c + 1 ≤ 4 = omega arith in le))

pub one_place : (size c t d u : ℕ) → 0 < size → c < 4 → d < 4 → t ≤ size → u ≤ size → round size c t ≡ round size d u → OnePlace size c t d u
one_place size c t d u pos hc hd ht hu e =
    elim (once (4 * size) (c * size + t) (d * size + u) (omega arith) (below_turn size c t hc ht) (below_turn size d u hd hu) e) [
      | inl same ↦ same_sum size c t d u pos hc hd ht hu same
      | inr (inl (a, b)) ↦ inr (inl (whole_turn size c t d u pos hc ht a b))
      | inr (inr (a, b)) ↦ inr (inr (whole_turn size d u c t pos hd hu b a))
    ]

-- the end of a sector is the start of the next
turn : (size c : ℕ) → c < 4 → round size c size ≡ round size (next c) 0
turn size c h = four (λ c. round size c size ≡ round size (next c) 0) (ap (λ (k : ℕ). k % (4 * size)) (omega arith)) (ap (λ (k : ℕ). k % (4 * size)) (omega arith)) (ap (λ (k : ℕ). k % (4 * size)) (omega arith))
    (let a : 3 * size + size ≡ 4 * size = omega arith in let b : 0 * size + 0 ≡ 0 = omega arith in rw (a, b) (mod_self (4 * size) ∙ sym (zero-mod (4 * size)))) c h

pub from_one_place : (size c t d u : ℕ) → c < 4 → d < 4 → OnePlace size c t d u → round size c t ≡ round size d u
from_one_place size c t d u hc hd (inl (e, f)) = rw (e, f) refl
from_one_place size c t d u hc hd (inr (inl (e, f, g))) = rw (e, f, g) (turn size c hc)
from_one_place size c t d u hc hd (inr (inr (e, f, g))) = rw (e, f, g) (sym (turn size d hd))
