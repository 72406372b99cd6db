-- What is kept of values, one part of them after another.
use Rattle.std.proofs.Common.{◌≡◌, ℕ, ℤ, suc, ◌+◌, List, [], ◌∷◌, ◌++◌, length, Option, Some, None, refl, sym, ap, ◌∙◌, append_assoc, arith, length-append}
use Rattle.std.proofs.lemmas.List.{append-nil}
use Rattle.std.specs.Option.{option_or}
use Rattle.hx_pqread.specs.declared.kept.Kept.{Kept}
use Rattle.hx_pqread.specs.Values.{present, first_absent}
use Rattle.hx_pqread.specs.Keeping.{Keeps, KeepsMore}

pub present_append : (front back : List (Option ℤ)) → present (front ++ back) ≡ present front ++ present back
present_append [] back = refl
present_append (None ∷ front) back = present_append front back
present_append (Some n ∷ front) back = ap (λ (numbers : List ℤ). n ∷ numbers) (present_append front back)

absent_append : (at : ℕ) (front back : List (Option ℤ)) → first_absent at (front ++ back) ≡ option_or (first_absent at front) (first_absent (at + length front) back)
absent_append at [] back = here (at + 0) (omega arith) where
  here : (row : ℕ) → at ≡ row → first_absent at back ≡ first_absent row back
  here row e = ap (λ (n : ℕ). first_absent n back) e
absent_append at (None ∷ front) back = refl
absent_append at (Some n ∷ front) back = absent_append (at + 1) front back ∙ next (at + 1 + length front) (omega arith) where
  next : (row : ℕ) → row ≡ at + suc (length front) → option_or (first_absent (at + 1) front) (first_absent row back) ≡ option_or (first_absent (at + 1) front) (first_absent (at + suc (length front)) back)
  next row e = ap (λ (n : ℕ). option_or (first_absent (at + 1) front) (first_absent n back)) e

or_assoc : (a b c : Option ℕ) → option_or (option_or a b) c ≡ option_or a (option_or b c)
or_assoc None b c = refl
or_assoc (Some n) b c = refl

or_none : (a : Option ℕ) → option_or a None ≡ a
or_none None = refl
or_none (Some n) = refl

pub kept_nothing : (kept : Kept) → KeepsMore [] kept kept
kept_nothing kept = record { numbers = sym (append-nil kept.numbers.items); count = omega arith; absent = sym (or_none kept.absent) }

pub kept_more : (front back : List (Option ℤ)) (old mid new : Kept) → KeepsMore front old mid → KeepsMore back mid new → KeepsMore (front ++ back) old new
kept_more front back old mid new first second =
    let row : mid.count + 1 ≡ old.count + 1 + length front = omega (arith, first.count) in
    record {
      numbers = second.numbers ∙ rw (first.numbers, present_append front back) (append_assoc old.numbers.items (present front) (present back));
      count = second.count ∙ rw (first.count, length-append front back) (omega arith);
      absent = second.absent ∙ rw (first.absent, row, absent_append (old.count + 1) front back) (or_assoc old.absent (first_absent (old.count + 1) front) (first_absent (old.count + 1 + length front) back));
    }

pub keeps_more : (front back : List (Option ℤ)) (old new : Kept) → Keeps front old → KeepsMore back old new → Keeps (front ++ back) new
keeps_more front back old new first second =
    let row : old.count + 1 ≡ 1 + length front = omega (arith, first.count) in
    record {
      numbers = second.numbers ∙ rw (first.numbers, present_append front back) refl;
      count = second.count ∙ rw (first.count, length-append front back) refl;
      absent = second.absent ∙ rw (first.absent, row, absent_append 1 front back) refl;
    }
