-- The numbers of a body stand in it.
use Rattle.std.proofs.Common.{◌≡◌, ℕ, zero, suc, ◌+◌, ◌*◌, ◌^◌, ◌<◌, ℤ, List, [], ◌∷◌, ◌++◌, length, take, drop, eqb, true, false, Option, Some, refl, ap, ◌∙◌, arith, length-append}
use Rattle.std.specs.Prelude.{FitsSigned}
use Rattle.std.specs.List.{AllByRecursion}
use Rattle.std.specs.Int.{w64, from_le_bytes, cast_signed, cast_unsigned}
use Rattle.std.proofs.lemmas.Bool.Decides.{nat_tests}
use Rattle.std.proofs.lemmas.List.{take_at}
use Rattle.std.proofs.lemmas.Nat.{from_le_bytes-to_le_bytes_8}
use Rattle.std.proofs.lemmas.Int.{to_z-of_z}
use Rattle.std.proofs.Math.Facts.{Fits-of_z, Fits-lt-pow}
use Rattle.std.proofs.Math.Seq.{drop-append-add}
use Rattle.hx_pqread.specs.declared.layout.Layout.{Layout}
use Rattle.hx_pqread.specs.Bodies.{IsBody}
use Rattle.hx_pqread.specs.Numbers.{AreNumbers, number}
use Rattle.hx_pqread.specs.Values.{all_there}
use Rattle.hx_pqwrite.specs.Files.{number_bytes, body}

-- how the columns stand that are written: as INT64, none absent
abbrev pub plain_layout : Layout
plain_layout = record { is_wide = true; is_optional = false }

number_again : (n : ℤ) → FitsSigned w64 n → cast_signed w64 (from_le_bytes w64 (number_bytes n)) ≡ n
number_again n fits =
    let bits : cast_unsigned w64 n < 2 ^ 64 = Fits-lt-pow (Fits-of_z fits) in
    ap (λ (k : ℕ). cast_signed w64 k) (from_le_bytes-to_le_bytes_8 (cast_unsigned w64 n) bits) ∙ to_z-of_z w64 n fits

numbers_stand : (numbers : List ℤ) → AllByRecursion (FitsSigned w64) numbers → AreNumbers true (body numbers) numbers
unfolding number
numbers_stand [] fit = refl
numbers_stand (n ∷ numbers) fit = (number_bytes n, body numbers, refl, (refl, number_again n fit.0), numbers_stand numbers fit.1)

pub body_length : (numbers : List ℤ) → length (body numbers) ≡ length numbers * 8
body_length [] = refl
body_length (n ∷ numbers) =
    let whole : length (body (n ∷ numbers)) ≡ 8 + length (body numbers) = length-append (number_bytes n) (body numbers) in
    omega (arith, whole, body_length numbers)

pub length_there : (numbers : List ℤ) → length (all_there numbers) ≡ length numbers
length_there [] = refl
length_there (n ∷ numbers) = ap suc (length_there numbers)

pub body_stands : (numbers : List ℤ) → AllByRecursion (FitsSigned w64) numbers → IsBody plain_layout (body numbers) (all_there numbers)
body_stands numbers fit = (numbers, refl, numbers_stand numbers fit)
