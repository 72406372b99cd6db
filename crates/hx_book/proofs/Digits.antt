-- A number's decimal text, up to a byte that is no digit.
use Rattle.std.proofs.Common.{◌≡◌, ◌<◌, ◌^◌, ◌++◌, ◌∷◌, ◌∙◌, [], ℕ, List, refl, sym, append-nil, arith}
use Rattle.std.proofs.lemmas.Fmt.{decimal_is_IsNumeral, decimal_injective}
use Rattle.std.proofs.lemmas.Str.Parse.{digit_from_value}
use Rattle.std.specs.Char.{digit_value}
use Rattle.std.specs.Fmt.{decimal}
use Rattle.std.specs.Str.Parse.{AllDigits}

below_no_digit : (byte : ℕ) → byte < 48 → digit_value byte < 10 → ⊥
below_no_digit byte low digit = let range = digit_from_value byte digit in omega (arith, range)

-- digits before a byte that is none are digits of the number that stands there
begins-digits : (run rest ds more : List ℕ) (end : ℕ) → AllDigits 10 run → (digit_value end < 10 → ⊥) → run ++ rest ≡ ds ++ end ∷ more
    → (tail : List ℕ) × (ds ≡ run ++ tail) × (rest ≡ tail ++ end ∷ more)
begins-digits [] rest ds more end all none h = (ds, refl, h)
begins-digits (c ∷ run) rest [] more end all none h = let e : c ≡ end = cc h in absurd (none (rw e at all.0))
begins-digits (c ∷ run) rest (d ∷ ds) more end all none h =
    let e : c ≡ d = cc h in
    let t = begins-digits run rest ds more end all.1 none (cc h) in
    (t.0, cc (e, t.1), t.2)

digits-behind : (xs ys : List ℕ) → AllDigits 10 (xs ++ ys) → AllDigits 10 ys
digits-behind [] ys all = all
digits-behind (x ∷ xs) ys all = digits-behind xs ys all.1

all-digits : (n : ℕ) → n < 2 ^ 64 → AllDigits 10 (decimal n)
all-digits n fits = (decimal_is_IsNumeral n fits).0.1

-- two numbers before such a byte are one
pub one-number : (a b end : ℕ) (x y : List ℕ) → a < 2 ^ 64 → b < 2 ^ 64 → end < 48 → decimal a ++ end ∷ x ≡ decimal b ++ end ∷ y → (a ≡ b) × (x ≡ y)
one-number a b end x y fits_a fits_b low h =
    let none = below_no_digit end low in
    let t = begins-digits (decimal a) (end ∷ x) (decimal b) y end (all-digits a fits_a) none h in
    tail t.0 t.1 t.2
  where
    tail : (ts : List ℕ) → decimal b ≡ decimal a ++ ts → end ∷ x ≡ ts ++ end ∷ y → (a ≡ b) × (x ≡ y)
    tail [] is rest = (decimal_injective a b fits_a fits_b (sym (is ∙ append-nil (decimal a))), cc rest)
    tail (t ∷ ts) is rest =
        let e : end ≡ t = cc rest in
        let all : AllDigits 10 (t ∷ ts) = digits-behind (decimal a) (t ∷ ts) (rw is at (all-digits b fits_b)) in
        absurd (below_no_digit end low (rw (← e) at all.0))
