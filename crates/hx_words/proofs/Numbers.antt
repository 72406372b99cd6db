-- Decimal numbers without a sign or a leading zero.
use Rattle.std.proofs.Common.{◌≡◌, ◌≢◌, ◌<◌, ◌^◌, ◌∙◌, ℕ, List, Result, Ok, Err, MatchOption, MatchResult, length, sym, ap, arith, inl, inr}
use Rattle.std.proofs.lemmas.Bool.{cases_lt}
use Rattle.std.proofs.lemmas.Fmt.{decimal-digits_value, decimal_digit, decimal_is_IsNumeral, decimal_nonempty, first_decimal}
use Rattle.std.proofs.lemmas.Str.Parse.{IsNumeralModel, digit_at, numerals_by_value, parse_plain, tells_digits}
use Rattle.std.specs.Result.{result_ok}
use Rattle.std.specs.Fmt.{decimal}
use Rattle.std.specs.Result.{OkIff}
use Rattle.std.specs.Str.Parse.{AllDigits, ParsesUnsigned, digits_value}
use Rattle.hx_words.specs.Words.{BeginsNumber}

own : IsNumeralModel (AllDigits 10) (digits_value 10)
own = numerals_by_value (AllDigits 10) tells_digits

-- what a decimal begins with
pub decimal_begins : (n : ℕ) → n < 2 ^ 64 → BeginsNumber (decimal n)
decimal_begins n small =
    let some = decimal_nonempty n small in
    let digit = digit_at (decimal n) 0 (decimal_is_IsNumeral n small).0.1 some in
    record {
      some = some;
      no_sign = λ plus. omega (arith, digit, plus);
      no_leading_zero = λ zero.
          elim (cases_lt 0 n) [
            | inl positive ↦ absurd (omega (arith, first_decimal n positive small, zero))
            | inr none ↦ let e : n ≡ 0 = omega arith in rw e (ap length (decimal_digit 0 (omega arith)))
          ];
    }

-- a parse of a text that begins so
answered : {E : Type 0} (r : Result ℕ E) (text : List ℕ) → BeginsNumber text
    → OkIff r (AllDigits 10 text × (0 < length text) × (digits_value 10 text < 2 ^ 64)) (digits_value 10 text)
    → MatchResult r (λ n. (n < 2 ^ 64) × (text ≡ decimal n)) (λ _. (n : ℕ) → n < 2 ^ 64 → text ≡ decimal n → ⊥)
answered (Ok n) text begins h =
    (rw h.1 h.0.2, sym (decimal-digits_value own text h.0.0 begins.some begins.no_leading_zero h.0.2) ∙ ap decimal (sym h.1))
answered (Err e) text begins h = λ n small is.
    let numeral = decimal_is_IsNumeral n small in
    h (rw is numeral.0.1, begins.some, rw (is, numeral.1) small)

pub parsed : {E : Type 0} (r : Result ℕ E) (text : List ℕ) → BeginsNumber text → ParsesUnsigned 64 10 text r
    → MatchResult r (λ n. (n < 2 ^ 64) × (text ≡ decimal n)) (λ _. (n : ℕ) → n < 2 ^ 64 → text ≡ decimal n → ⊥)
parsed r text begins h = answered r text begins (parse_plain own 64 text r h begins.no_sign)

pub found : {E : Type 0} (r : Result ℕ E) (text : List ℕ) → BeginsNumber text → ParsesUnsigned 64 10 text r
    → MatchOption (result_ok r) ((n : ℕ) → n < 2 ^ 64 → text ≢ decimal n) (λ n. (n < 2 ^ 64) × (text ≡ decimal n))
found r text begins h = opened r text (parsed r text begins h)
  where
    opened : {E : Type 0} (r : Result ℕ E) (text : List ℕ) → MatchResult r (λ n. (n < 2 ^ 64) × (text ≡ decimal n)) (λ _. (n : ℕ) → n < 2 ^ 64 → text ≡ decimal n → ⊥)
        → MatchOption (result_ok r) ((n : ℕ) → n < 2 ^ 64 → text ≢ decimal n) (λ n. (n < 2 ^ 64) × (text ≡ decimal n))
    opened (Ok n) text h = h
    opened (Err e) text h = h
