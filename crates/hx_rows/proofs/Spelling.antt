-- Digits, one behind the other, and the number that they spell.
use Rattle.std.proofs.Common.{List, None, Some, [], ap, arith, drop, inl, inr, false, get_or, length, length-drop, length-take, refl, rules, sym, take, take-append-drop, true, ℕ, ◌*◌, ◌++◌, ◌+◌, ◌-◌, ◌<◌, ◌^◌, ◌≡◌, ◌≤◌, ◌∙◌, ◌∷◌, ◌%◌, if◌then◌else◌}
use Rattle.std.proofs.lemmas.Bool.{and_from, and_left, and_right, cases_Bool, cond-false, cond-true, le-leb, le-ltb, lt-leb, lt-ltb}
use Rattle.std.proofs.lemmas.Bool.Decides.{nat_tests}
use Rattle.std.proofs.lemmas.List.{take_all, take_more}
use Rattle.std.proofs.lemmas.List.Folds.{list_all-append, list_all_at, list_all_more}
use Rattle.std.proofs.lemmas.Nat.{pow-add}
use Rattle.std.proofs.lemmas.Str.Parse.{IsDigitsTest, digits_value_short, numerals_by_value}
use Rattle.std.proofs.Math.Nat.{mul-le-mul_right, pow-le-pow_right, pow-suc}
use Rattle.std.specs.Char.{digit_value, is_ascii_digit}
use Rattle.std.specs.List.{list_all}
use Rattle.std.specs.Str.Parse.{digits_value, digits_value_after}
use Rattle.hx_rows.specs.Csv.{natural_of}
use Rattle.hx_rows.specs.Numbers.{number_after}

pub digit-range : (c : ℕ) → is_ascii_digit c ≡ true → (48 ≤ c) × (c ≤ 57)
digit-range c h = grind (arith, nat_tests)

pub digit-value : (c : ℕ) → is_ascii_digit c ≡ true → digit_value c ≡ c - 48
digit-value c h = let r = digit-range c h in cond-false _ _ _ (le-ltb c 48 (omega arith)) ∙ cond-true _ _ _ (lt-ltb c 58 (omega arith))

pub natural-empty : (text : List ℕ) → length text ≡ 0 → natural_of text ≡ None
unfolding natural_of
natural-empty text h = cond-false _ _ _ (and_left _ _ (and_right _ _ (le-ltb 0 (length text) (omega arith))))

pub natural-long : (text : List ℕ) → 19 < length text → natural_of text ≡ None
unfolding natural_of
natural-long text h = cond-false _ _ _ (and_right _ _ (lt-leb (length text) 19 h))

pub natural-short : (text : List ℕ) → 0 < length text → length text ≤ 19 → number_after 0 text ≡ natural_of text
unfolding natural_of
natural-short text some few =
    let long = lt-ltb 0 (length text) some in
    let short = le-leb (length text) 19 few in
    elim (cases_Bool (list_all is_ascii_digit text)) [
      | inl e ↦ rw (e, long, short) refl
      | inr e ↦ rw e refl
    ]

are_digits : IsDigitsTest (λ text. list_all is_ascii_digit text ≡ true)
are_digits = search rules

-- so many digits are a number below a power of ten
digits-short : (text : List ℕ) (most : ℕ) → list_all is_ascii_digit text ≡ true → length text ≤ most → digits_value 10 text < 10 ^ most
digits-short text most all few = digits_value_short (numerals_by_value _ are_digits) text most all few

after-append : (n : ℕ) (xs ys : List ℕ) → digits_value_after 10 n (xs ++ ys) ≡ digits_value_after 10 (digits_value_after 10 n xs) ys
after-append n [] ys = refl
after-append n (x ∷ xs) ys = after-append (n * 10 + digit_value x) xs ys

after-value : (n : ℕ) (ds : List ℕ) → digits_value_after 10 n ds ≡ n * 10 ^ length ds + digits_value 10 ds
after-value n [] = omega arith
after-value n (c ∷ cs) =
    let a = after-value (n * 10 + digit_value c) cs in
    let b = after-value (0 * 10 + digit_value c) cs in
    omega (arith, ap (λ x. n * x) (pow-suc 10 (length cs)))

-- a text that begins with digits goes on behind their number
after-front : (value number : ℕ) (front rest : List ℕ) → list_all is_ascii_digit front ≡ true → number ≡ digits_value 10 front
    → number_after (value * 10 ^ length front + number) rest ≡ number_after value (front ++ rest)
after-front value number front rest all is =
    let same : value * 10 ^ length front + number ≡ digits_value_after 10 value front = omega (arith, after-value value front) in
    rw (list_all-append is_ascii_digit front rest, all, after-append value front rest, same) refl

after-taken : (value number k : ℕ) (text : List ℕ) → k ≤ length text → list_all is_ascii_digit (take k text) ≡ true → number ≡ digits_value 10 (take k text)
    → number_after (value * 10 ^ k + number) (drop k text) ≡ number_after value text
after-taken value number k text within all is =
    let size : length (take k text) ≡ k = omega (arith, length-take k text) in
    let step = after-front value number (take k text) (drop k text) all is in
    rw (size, take-append-drop k text) at step

-- and stays below what its length allows
room-taken : (value number k : ℕ) (text : List ℕ) → k ≤ length text → length text ≤ 19 → list_all is_ascii_digit (take k text) ≡ true → number ≡ digits_value 10 (take k text)
    → value < 10 ^ (19 - length text) → value * 10 ^ k + number < 10 ^ (19 - length (drop k text))
room-taken value number k text within few all is room =
    let small = digits-short (take k text) k all (omega (arith, length-take k text)) in
    let size : 19 - length (drop k text) ≡ (19 - length text) + k = omega (arith, length-drop k text) in
    rw (size, pow-add 10 (19 - length text) k) (omega (arith, small, mul-le-mul_right (10 ^ k) room))

-- one more digit behind others
after-more : (value : ℕ) (text : List ℕ) (i : ℕ) → i < length text
    → digits_value_after 10 value (take (i + 1) text) ≡ digits_value_after 10 value (take i text) * 10 + digit_value (get_or text i 0)
after-more value text i within = rw (take_more text i 0 within) (after-append value (take i text) (get_or text i 0 ∷ []))

-- what 19 digits at most spell fits a word
pub room-fits : (n m : ℕ) → n < 10 ^ (19 - m) → n < 2 ^ 64
room-fits n m h = omega (arith, h, pow-le-pow_right {n = 10} (omega arith) {i = 19 - m} {j = 19} (omega arith))

-- what taking so many digits off the front of a text keeps
pub record Takes (value number power : ℕ) (text rest : List ℕ) : Type 0 where
  pub same : number_after (value * power + number) rest ≡ number_after value text
  pub room : value * power + number < 10 ^ (19 - length rest)
  pub fits : value * power + number < 2 ^ 64

pub takes : (value number k : ℕ) (text front rest : List ℕ) → front ≡ take k text → rest ≡ drop k text → length rest + k ≡ length text → length text ≤ 19
    → value < 10 ^ (19 - length text) → (list_all is_ascii_digit front ≡ true) × (number ≡ digits_value 10 front) → Takes value number (10 ^ k) text rest
takes value number k text front rest is_front is_rest size few room digits =
    let all = rw is_front at digits.0 in
    let is = rw is_front at digits.1 in
    let more = room-taken value number k text (omega arith) few all is room in
    record {
      same = rw is_rest (after-taken value number k text (omega arith) all is);
      room = rw is_rest more;
      fits = room-fits (value * 10 ^ k + number) (length (drop k text)) more;
    }

-- a byte less the code of 0, in a word
pub digit-at_most_nine : (byte : ℕ) → byte < 256 → (byte + 18446744073709551568) % 18446744073709551616 ≤ 9
    → Some ((byte + 18446744073709551568) % 18446744073709551616) ≡ (if is_ascii_digit byte then Some (digit_value byte) else None)
digit-at_most_nine byte small h =
    let range : (48 ≤ byte) × (byte ≤ 57) = (omega arith, omega arith) in
    let digit : is_ascii_digit byte ≡ true = grind (arith, nat_tests) in
    let same : (byte + 18446744073709551568) % 18446744073709551616 ≡ digit_value byte = omega (arith, digit-value byte digit) in
    ap Some same ∙ sym (cond-true _ _ _ digit)

pub digit-above_nine : (byte : ℕ) → byte < 256 → 9 < (byte + 18446744073709551568) % 18446744073709551616
    → None ≡ (if is_ascii_digit byte then Some (digit_value byte) else None)
digit-above_nine byte small h =
    let outside : (48 ≤ byte) → (byte ≤ 57) → ⊥ = λ a b. omega arith in
    let other : is_ascii_digit byte ≡ false = grind (arith, nat_tests) in
    sym (cond-false _ _ _ other)

-- what `digit` tells of a byte
digit-found : (byte d : ℕ) → Some d ≡ (if is_ascii_digit byte then Some (digit_value byte) else None) → (is_ascii_digit byte ≡ true) × (d ≡ digit_value byte)
digit-found byte d h = elim (cases_Bool (is_ascii_digit byte)) [ inl e ↦ (e, cc (rw e at h)) | inr e ↦ absurd (cc (rw e at h)) ]

pub digit-missing : (byte : ℕ) → None ≡ (if is_ascii_digit byte then Some (digit_value byte) else None) → is_ascii_digit byte ≡ false
digit-missing byte h = elim (cases_Bool (is_ascii_digit byte)) [ inl e ↦ absurd (cc (rw e at h)) | inr e ↦ e ]

all-more : (text : List ℕ) (i : ℕ) → i < length text → list_all is_ascii_digit (take i text) ≡ true → is_ascii_digit (get_or text i 0) ≡ true → list_all is_ascii_digit (take (i + 1) text) ≡ true
all-more text i within all digit = list_all_more is_ascii_digit text i 0 within ∙ and_from _ _ all digit

pub after-other : (value : ℕ) (text : List ℕ) (i : ℕ) → i < length text → is_ascii_digit (get_or text i 0) ≡ false → None ≡ number_after value text
after-other value text i within other = let no_digits = list_all_at is_ascii_digit text i 0 within other in rw no_digits refl

-- what one more digit keeps
pub record TakesDigit (start value digit : ℕ) (text : List ℕ) (i : ℕ) : Type 0 where
  pub digits : list_all is_ascii_digit (take (i + 1) text) ≡ true
  pub is : value * 10 + digit ≡ digits_value_after 10 start (take (i + 1) text)
  pub room : value * 10 + digit < 10 ^ (19 - length text + (i + 1))
  pub fits : value * 10 + digit < 2 ^ 64

pub takes-digit : (start value digit : ℕ) (text : List ℕ) (i : ℕ) → i < length text → length text ≤ 19 → list_all is_ascii_digit (take i text) ≡ true
    → value ≡ digits_value_after 10 start (take i text) → value < 10 ^ (19 - length text + i)
    → Some digit ≡ (if is_ascii_digit (get_or text i 0) then Some (digit_value (get_or text i 0)) else None) → TakesDigit start value digit text i
takes-digit start value digit text i within few all is room told =
    let found = digit-found (get_or text i 0) digit told in
    let small : digit ≤ 9 = omega (arith, digit-range (get_or text i 0) found.0, digit-value (get_or text i 0) found.0, found.1) in
    let power : 10 ^ (19 - length text + (i + 1)) ≡ 10 ^ (19 - length text + i) * 10 = ap (λ n. 10 ^ n) (omega arith) ∙ pow-suc 10 (19 - length text + i) in
    let below : value * 10 + digit < 10 ^ (19 - length text + (i + 1)) = omega (arith, power) in
    record {
      digits = all-more text i within all found.0;
      is = ap (λ n. n * 10 + digit) is ∙ ap (λ n. digits_value_after 10 start (take i text) * 10 + n) found.1 ∙ sym (after-more start text i within);
      room = below;
      fits = omega (arith, below, pow-le-pow_right {n = 10} (omega arith) {i = 19 - length text + (i + 1)} {j = 19} (omega arith));
    }

-- all digits
pub after-all : (start value n : ℕ) (text : List ℕ) → length text ≤ n → list_all is_ascii_digit (take n text) ≡ true → value ≡ digits_value_after 10 start (take n text)
    → Some value ≡ number_after start text
after-all start value n text end all is =
    let whole = take_all n text end in
    let digits = rw whole at all in
    let same = rw whole at is in
    rw (digits, same) refl
