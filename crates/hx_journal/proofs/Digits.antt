-- A number's decimal text at the front of a text, up to a byte that is no digit.
use Rattle.std.proofs.Common.{◌≡◌, ◌<◌, ◌≤◌, ◌⊎◌, ◌+◌, ◌*◌, ◌^◌, ◌++◌, ◌∷◌, ◌∙◌, [], ℕ, List, length, get_or, take, drop, sym, ap, arith, inl, inr, add-one, drop-cons, take-append-drop, append-nil, append_assoc, refl}
use Rattle.std.proofs.lemmas.Fmt.{decimal_is_IsNumeral, decimal_nonempty, decimal-digits_value, decimal_digit, first_decimal, decimal_injective}
use Rattle.std.proofs.lemmas.Bool.{cases_lt}
use Rattle.std.proofs.lemmas.Int.Digits.{digits_value_push}
use Rattle.std.proofs.lemmas.List.{take_all, take-append-le}
use Rattle.std.proofs.lemmas.Str.Parse.{IsNumeralModel, digit_from_value, digits_value-take-le, numerals_by_value, tells_digits}
use Rattle.std.specs.Char.{digit_value}
use Rattle.std.specs.Fmt.{decimal}
use Rattle.std.specs.Str.Parse.{AllDigits, digits_value}
use Rattle.hx_journal.specs.Fronts.{Begins, BeginsByNone, FitsWord, HasNoLeadingZero}

own : IsNumeralModel (AllDigits 10) (digits_value 10)
own = numerals_by_value (AllDigits 10) tells_digits

-- no digit
pub below_no_digit : (byte : ℕ) → byte < 48 → digit_value byte < 10 → ⊥
below_no_digit byte low digit = let range = digit_from_value byte digit in omega (arith, range)

-- digits before a byte that is none are digits of the number that stands there
pub begins-digits : (run rest ds more : List ℕ) (end : ℕ) → AllDigits 10 run → (digit_value end < 10 → ⊥) → run ++ rest ≡ ds ++ end ∷ more
    → (tail : List ℕ) × (ds ≡ run ++ tail) × (rest ≡ tail ++ end ∷ more)
begins-digits [] rest ds more end all none h = (ds, refl, h)
begins-digits (c ∷ run) rest [] more end all none h = let e : c ≡ end = cc h in absurd (none (rw e at all.0))
begins-digits (c ∷ run) rest (d ∷ ds) more end all none h =
    let e : c ≡ d = cc h in
    let t = begins-digits run rest ds more end all.1 none (cc h) in
    (t.0, cc (e, t.1), t.2)

digits-behind : (xs ys : List ℕ) → AllDigits 10 (xs ++ ys) → AllDigits 10 ys
digits-behind [] ys all = all
digits-behind (x ∷ xs) ys all = digits-behind xs ys all.1

pub all-digits : (n : ℕ) → n < 2 ^ 64 → AllDigits 10 (decimal n)
all-digits n fits = (decimal_is_IsNumeral n fits).0.1

pub has-no-leading-zero : (n : ℕ) → n < 2 ^ 64 → HasNoLeadingZero (decimal n)
has-no-leading-zero n fits = record {
  some = decimal_nonempty n fits;
  alone = λ zero.
      elim (cases_lt 0 n) [
        | inl positive ↦ absurd (omega (arith, first_decimal n positive fits, zero))
        | inr none ↦ let e : n ≡ 0 = omega arith in rw e (ap length (decimal_digit 0 (omega arith)))
      ];
}

-- the first digits of a number spell no larger one
front-value : (run : List ℕ) (t : ℕ) (ts : List ℕ) (n : ℕ) → n < 2 ^ 64 → decimal n ≡ run ++ t ∷ ts → digits_value 10 run * 10 + digit_value t ≤ n
front-value run t ts n fits is =
    let front : List ℕ = run ++ t ∷ [] in
    let whole : decimal n ≡ front ++ ts = is ∙ sym (append_assoc run (t ∷ []) ts) in
    let taken : take (length front) (decimal n) ≡ front = ap (take (length front)) whole ∙ take-append-le (length front) front ts (omega arith) ∙ take_all (length front) front (omega arith) in
    let most = digits_value-take-le 10 (decimal n) (length front) (omega arith) in
    let value = (decimal_is_IsNumeral n fits).1 in
    omega (arith, rw taken at most, value, digits_value_push 10 run t)

-- two numbers before such a byte are one
pub one-number : (a b end : ℕ) (x y : List ℕ) → a < 2 ^ 64 → b < 2 ^ 64 → end < 48 → decimal a ++ end ∷ x ≡ decimal b ++ end ∷ y → (a ≡ b) × (x ≡ y)
one-number a b end x y fits_a fits_b low h =
    let none = below_no_digit end low in
    let t = begins-digits (decimal a) (end ∷ x) (decimal b) y end (all-digits a fits_a) none h in
    tail t.0 t.1 t.2
  where
    tail : (ts : List ℕ) → decimal b ≡ decimal a ++ ts → end ∷ x ≡ ts ++ end ∷ y → (a ≡ b) × (x ≡ y)
    tail [] is rest = (decimal_injective a b fits_a fits_b (sym (is ∙ append-nil (decimal a))), cc rest)
    tail (t ∷ ts) is rest =
        let e : end ≡ t = cc rest in
        let all : AllDigits 10 (t ∷ ts) = digits-behind (decimal a) (t ∷ ts) (rw is at (all-digits b fits_b)) in
        absurd (below_no_digit end low (rw (← e) at all.0))

pub parts : (text : List ℕ) (i : ℕ) → i < length text → text ≡ take i text ++ get_or text i 0 ∷ drop (i + 1) text
parts text i within = sym (take-append-drop i text) ∙ ap (λ (rest : List ℕ). take i text ++ rest) (drop-cons text i 0 within ∙ ap (λ n. get_or text i 0 ∷ drop n text) (sym (add-one i)))

module _ (text : List ℕ) (i end : ℕ) (within : i < length text) (all : AllDigits 10 (take i text)) (low : end < 48) where
  -- what a number that stands there has behind the digits so far
  abbrev Left : ℕ → List ℕ → Type 0
  Left n more = (tail : List ℕ) × (decimal n ≡ take i text ++ tail) × (get_or text i 0 ∷ drop (i + 1) text ≡ tail ++ end ∷ more)

  left : (n : ℕ) (more : List ℕ) → text ≡ decimal n ++ end ∷ more → Left n more
  left n more is = begins-digits (take i text) (get_or text i 0 ∷ drop (i + 1) text) (decimal n) more end all (below_no_digit end low) (sym (parts text i within) ∙ is)

  -- a byte that doesn't end the number is its next digit
  next : (n : ℕ) (more : List ℕ) → n < 2 ^ 64 → text ≡ decimal n ++ end ∷ more → (get_or text i 0 ≡ end → ⊥)
      → (digit_value (get_or text i 0) < 10) × (digits_value 10 (take i text) * 10 + digit_value (get_or text i 0) ≤ n)
  next n more fits is other = let l = left n more is in tail l.0 l.1 l.2
    where
      byte : ℕ
      byte = get_or text i 0

      tail : (ts : List ℕ) → decimal n ≡ take i text ++ ts → get_or text i 0 ∷ drop (i + 1) text ≡ ts ++ end ∷ more
          → (digit_value (get_or text i 0) < 10) × (digits_value 10 (take i text) * 10 + digit_value (get_or text i 0) ≤ n)
      tail [] is rest = absurd (other (cc rest))
      tail (t ∷ ts) is rest =
          let e : byte ≡ t = cc rest in
          let ds : AllDigits 10 (t ∷ ts) = digits-behind (take i text) (t ∷ ts) (rw is at (all-digits n fits)) in
          let value = front-value (take i text) t ts n fits is in
          (rw e ds.0, rw e value)

  pub none_other : (get_or text i 0 ≡ end → ⊥) → (10 ≤ digit_value (get_or text i 0)) ⊎ (2 ^ 64 ≤ digits_value 10 (take i text) * 10 + digit_value (get_or text i 0))
      → BeginsByNone FitsWord decimal end text
  none_other other h n more fits is =
      let step = next n more fits is other in
      elim h [ inl no_digit ↦ omega (arith, step.0) | inr large ↦ omega (arith, step.1, fits) ]

  -- the number ends here
  ends : (n : ℕ) (more : List ℕ) → n < 2 ^ 64 → text ≡ decimal n ++ end ∷ more → get_or text i 0 ≡ end → decimal n ≡ take i text
  ends n more fits is at = let l = left n more is in tail l.0 l.1 l.2
    where
      tail : (ts : List ℕ) → decimal n ≡ take i text ++ ts → get_or text i 0 ∷ drop (i + 1) text ≡ ts ++ end ∷ more → decimal n ≡ take i text
      tail [] is rest = is ∙ append-nil (take i text)
      tail (t ∷ ts) is rest =
          let e : end ≡ t = cc (at, rest) in
          let ds : AllDigits 10 (t ∷ ts) = digits-behind (take i text) (t ∷ ts) (rw is at (all-digits n fits)) in
          absurd (below_no_digit end low (rw (← e) at ds.0))

  pub none_zero : get_or text i 0 ≡ end → (HasNoLeadingZero (take i text) → ⊥) → BeginsByNone FitsWord decimal end text
  none_zero at zero n more fits is =
      let e = ends n more fits is at in
      zero (rw (← e) (has-no-leading-zero n fits))

  pub some_number : get_or text i 0 ≡ end → HasNoLeadingZero (take i text) → digits_value 10 (take i text) < 2 ^ 64
      → Begins FitsWord decimal end text (digits_value 10 (take i text)) (drop (i + 1) text)
  some_number at form fits =
      (fits, parts text i within ∙ rw (at, decimal-digits_value own (take i text) all form.some form.alone fits) refl)

pub none_left : (text : List ℕ) (n end : ℕ) → length text ≤ n → AllDigits 10 (take n text) → end < 48 → BeginsByNone FitsWord decimal end text
none_left text n end all_of all low m more fits is =
    let digits : AllDigits 10 (decimal m ++ end ∷ more) = rw (← is) (rw (take_all n text all_of) at all) in
    below_no_digit end low (digits-behind (decimal m) (end ∷ more) digits).0
