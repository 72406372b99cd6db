-- The values with some levels: how many there are, which are there, and the first that is absent.
use Rattle.std.proofs.Common.{◌≡◌, ℕ, ℤ, zero, suc, ◌+◌, ◌*◌, List, [], ◌∷◌, ◌++◌, length, drop, Bool, true, false, cond, eqb, Option, Some, None, refl, sym, ap, ◌∙◌, arith}
use Rattle.std.specs.Option.{option_map, option_or}
use Rattle.std.proofs.lemmas.Option.{some_pair_parts}
use Rattle.hx_pqread.specs.declared.layout.Layout.{Layout}
use Rattle.hx_pqread.specs.declared.levels.Told.{Told}
use Rattle.hx_pqread.specs.declared.kept.Kept.{Kept}
use Rattle.hx_pqread.specs.Levels.{given, missing, told_of}
use Rattle.hx_pqread.specs.Numbers.{size, numbers_at}
use Rattle.hx_pqread.specs.Values.{present, first_absent, all_there, spread}
use Rattle.hx_pqread.specs.Bodies.{body_parts, told_parts, spread_at, body_values}
use Rattle.hx_pqread.specs.Keeping.{KeepsMore}
use Rattle.hx_pqread.proofs.Saying.{later}

pub length_numbers : (is_wide : Bool) (count : ℕ) (bytes : List ℕ) → length (numbers_at is_wide count bytes) ≡ count
unfolding numbers_at
length_numbers is_wide zero bytes = refl
length_numbers is_wide (suc count) bytes = ap suc (length_numbers is_wide count (drop (size is_wide) bytes))

pub length_there : (numbers : List ℤ) → length (all_there numbers) ≡ length numbers
length_there [] = refl
length_there (n ∷ numbers) = ap suc (length_there numbers)

pub length_spread : (levels : List ℕ) (numbers : List ℤ) → length (spread levels numbers) ≡ length levels
length_spread [] numbers = refl
length_spread (level ∷ levels) [] = ap suc (length_spread levels [])
length_spread (level ∷ levels) (n ∷ numbers) = by_level (eqb level 1) (length_spread levels numbers) (length_spread levels (n ∷ numbers)) where
  by_level : (b : Bool) → length (spread levels numbers) ≡ length levels → length (spread levels (n ∷ numbers)) ≡ length levels
      → length (cond b (Some n ∷ spread levels numbers) (None ∷ spread levels (n ∷ numbers))) ≡ suc (length levels)
  by_level true e h = ap suc e
  by_level false e h = ap suc h

pub present_spread : (levels : List ℕ) (numbers : List ℤ) → given levels ≡ length numbers → present (spread levels numbers) ≡ numbers
present_spread [] [] e = refl
present_spread [] (n ∷ numbers) e = absurd (omega arith)
present_spread (level ∷ levels) [] e = by_level (eqb level 1) (present_spread levels []) e where
  by_level : (b : Bool) → (given levels ≡ 0 → present (spread levels []) ≡ []) → cond b (suc (given levels)) (given levels) ≡ 0 → present (spread levels []) ≡ []
  by_level true h e = absurd (omega arith)
  by_level false h e = h e
present_spread (level ∷ levels) (n ∷ numbers) e = by_level (eqb level 1) (present_spread levels numbers) (present_spread levels (n ∷ numbers)) e where
  by_level : (b : Bool) → (given levels ≡ length numbers → present (spread levels numbers) ≡ numbers) → (given levels ≡ suc (length numbers) → present (spread levels (n ∷ numbers)) ≡ n ∷ numbers)
      → cond b (suc (given levels)) (given levels) ≡ suc (length numbers) → present (cond b (Some n ∷ spread levels numbers) (None ∷ spread levels (n ∷ numbers))) ≡ n ∷ numbers
  by_level true g h e = ap (λ (ns : List ℤ). n ∷ ns) (g (omega arith))
  by_level false g h e = h e

later_zero : (n : ℕ) → Some n ≡ later n (Some 0)
later_zero n = ap (λ (k : ℕ). Some k) (omega arith)

later_suc : (n : ℕ) (index : Option ℕ) → later (n + 1) index ≡ later n (option_map suc index)
later_suc n None = refl
later_suc n (Some i) = ap (λ (k : ℕ). Some k) (omega arith)

pub absent_spread : (at : ℕ) (levels : List ℕ) (numbers : List ℤ) → given levels ≡ length numbers → first_absent at (spread levels numbers) ≡ later at (missing levels)
absent_spread at [] numbers e = refl
absent_spread at (level ∷ levels) [] e = by_level (eqb level 1) e where
  by_level : (b : Bool) → cond b (suc (given levels)) (given levels) ≡ 0 → Some at ≡ later at (cond b (option_map suc (missing levels)) (Some 0))
  by_level true e = absurd (omega arith)
  by_level false e = later_zero at
absent_spread at (level ∷ levels) (n ∷ numbers) e = by_level (eqb level 1) (absent_spread (at + 1) levels numbers) e where
  by_level : (b : Bool) → (given levels ≡ length numbers → first_absent (at + 1) (spread levels numbers) ≡ later (at + 1) (missing levels))
      → cond b (suc (given levels)) (given levels) ≡ suc (length numbers) → first_absent at (cond b (Some n ∷ spread levels numbers) (None ∷ spread levels (n ∷ numbers))) ≡ later at (cond b (option_map suc (missing levels)) (Some 0))
  by_level true h e = h (omega arith) ∙ later_suc at (missing levels)
  by_level false h e = later_zero at

row_is : (count : ℕ) (index : Option ℕ) → option_map (λ i. count + i + 1) index ≡ later (count + 1) index
row_is count None = refl
row_is count (Some i) = ap (λ (k : ℕ). Some k) (omega arith)

-- the values of a body are kept
pub kept_body : (is_wide : Bool) (levels bytes : List ℕ) (told : Told) (old new : Kept) → told ≡ told_of levels
    → new.numbers.items ≡ old.numbers.items ++ numbers_at is_wide told.given bytes → new.count ≡ old.count + told.count → new.absent ≡ option_or old.absent (option_map (λ i. old.count + i + 1) told.absent)
    → KeepsMore (spread levels (numbers_at is_wide (given levels) bytes)) old new
kept_body is_wide levels bytes told old new is numbers count absent =
    let list = numbers_at is_wide (given levels) bytes in
    let enough : given levels ≡ length list = sym (length_numbers is_wide (given levels) bytes) in
    let given_is = ap (λ (t : Told). t.given) is in
    let count_is = ap (λ (t : Told). t.count) is in
    let absent_is = ap (λ (t : Told). t.absent) is in
    record {
      numbers = numbers ∙ rw (given_is, present_spread levels list enough) refl;
      count = count ∙ rw (count_is, length_spread levels list) refl;
      absent = absent ∙ rw (absent_is, absent_spread (old.count + 1) levels list enough) (ap (option_or old.absent) (row_is old.count (missing levels)));
    }

-- ---- a body

pub some_parts : (parts : Option (List ℕ × List ℕ)) (told : Told) (numbers : List ℕ) → Some (told, numbers) ≡ told_parts parts → (levels : List ℕ) × (parts ≡ Some (levels, numbers)) × (told ≡ told_of levels)
some_parts None told numbers e = absurd cc
some_parts (Some parts) told numbers e =
    let both = some_pair_parts told (told_of parts.0) numbers parts.1 e in
    (parts.0, rw both.1 refl, both.0)

pub values_are : (layout : Layout) (count : ℕ) (body levels numbers : List ℕ) → body_parts layout.is_optional count body ≡ Some (levels, numbers) → eqb (length numbers) (given levels * size layout.is_wide) ≡ true
    → body_values layout count body ≡ Some (spread levels (numbers_at layout.is_wide (given levels) numbers))
unfolding body_values spread_at
values_are layout count body levels numbers parts fits = rw (parts, fits) refl
