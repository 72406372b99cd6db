-- When a text is a number, and whether an i64 holds it.
use Rattle.std.proofs.Common.{List, None, Some, [], arith, false, get_or, int_le, length, neg_ℤ, pos, refl, true, ℕ, ◌^◌, ◌≡◌, ◌<◌, ◌≤◌, ◌≢◌, ◌∷◌, ◌-◌}
use Rattle.std.proofs.lemmas.Bool.{cond-false, ne_eqb}
use Rattle.std.proofs.lemmas.Int.{ints}
use Rattle.hx_rows.specs.Csv.{fitting, natural_of, number_of}
use Rattle.hx_rows.specs.Numbers.{signed}
use Rattle.hx_rows.proofs.Spelling.{natural-empty}

pub number-minus : (text digits : List ℕ) → text ≡ 45 ∷ digits → number_of text ≡ signed true (natural_of digits)
unfolding number_of
number-minus text digits h = rw h refl

pub number-plain : (text : List ℕ) → get_or text 0 0 ≢ 45 → number_of text ≡ signed false (natural_of text)
unfolding number_of
number-plain [] h = rw (natural-empty [] refl) refl
number-plain (c ∷ cs) h = cond-false _ _ _ (ne_eqb c 45 h)

pub empty-no_minus : (text : List ℕ) → length text ≡ 0 → get_or text 0 0 ≢ 45
empty-no_minus [] h = λ e. absurd (omega arith)
empty-no_minus (c ∷ cs) h = λ e. absurd (omega arith)

pub minus-held : (n : ℕ) → n ≤ 9223372036854775808 → Some (neg_ℤ (pos n)) ≡ fitting (neg_ℤ (pos n))
minus-held n few =
    let low : int_le (neg_ℤ (pos (2 ^ 63))) (neg_ℤ (pos n)) ≡ true = grind (arith, ints) in
    let high : int_le (neg_ℤ (pos n)) (pos (2 ^ 63 - 1)) ≡ true = grind (arith, ints) in
    rw (low, high) refl

pub minus-too_low : (n : ℕ) → 9223372036854775808 < n → None ≡ fitting (neg_ℤ (pos n))
minus-too_low n many =
    let low : int_le (neg_ℤ (pos (2 ^ 63))) (neg_ℤ (pos n)) ≡ false = grind (arith, ints) in
    rw low refl

pub plus-held : (n : ℕ) → n < 9223372036854775808 → Some (pos n) ≡ fitting (pos n)
plus-held n few = let high : int_le (pos n) (pos (2 ^ 63 - 1)) ≡ true = grind (arith, ints) in rw high refl

pub plus-too_high : (n : ℕ) → 9223372036854775808 ≤ n → None ≡ fitting (pos n)
plus-too_high n many = let high : int_le (pos n) (pos (2 ^ 63 - 1)) ≡ false = grind (arith, ints) in rw high refl
