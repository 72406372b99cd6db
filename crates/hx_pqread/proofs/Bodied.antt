-- Reading a body, and a body that stands there, are one.
use Rattle.std.proofs.Common.{◌≡◌, ℕ, ℤ, zero, suc, ◌+◌, ◌*◌, ◌<◌, ◌≤◌, List, [], ◌∷◌, ◌++◌, length, take, drop, replicate, ◌&&◌, Bool, true, false, cond, eqb, leb, Option, Some, None, refl, sym, ap, subst, ◌∙◌, inl, inr, arith, length-append, length-drop}
use Rattle.std.proofs.lemmas.Bool.{eqb-true}
use Rattle.std.proofs.lemmas.Bool.Decides.{nat_tests}
use Rattle.std.proofs.lemmas.List.{take-append-drop, length-take-le, take_at, drop_at, drop-drop}
use Rattle.std.specs.Int.{w32, from_le_bytes}
use Rattle.std.specs.List.{flat_map}
use Rattle.std.specs.Option.{option_map}
use Rattle.hx_thrift.specs.Spelling.{AreAll, ReadsVarints}
use Rattle.hx_pqread.specs.Runs.{group_levels, IsRun, all_levels, HasLevels}
use Rattle.hx_pqread.specs.Levels.{◌>>=◌, levels_in, given}
use Rattle.hx_pqread.specs.Numbers.{size, AreNumbers, numbers_at}
use Rattle.hx_pqread.specs.Values.{present, all_there, levels_of, spread}
use Rattle.hx_pqread.specs.Bodies.{IsRequiredBody, IsOptionalBody, IsBodyOf, levels_len, optional_parts, body_parts, spread_at, body_values}
use Rattle.hx_pqread.specs.Laws.{ReadsABody}
use Rattle.hx_pqread.proofs.Counts.{bind_some, kept, taken, mapped}
use Rattle.hx_pqread.proofs.Spreading.{length_numbers, length_there, present_spread}
use Rattle.hx_pqread.proofs.Standing.{reads_levels, has_levels}

-- ---- numbers

numbers_sound : (is_wide : Bool) (count : ℕ) (bytes : List ℕ) → length bytes ≡ count * size is_wide → AreNumbers is_wide bytes (numbers_at is_wide count bytes)
unfolding numbers_at
numbers_sound is_wide zero bytes e = nothing bytes (omega arith) where
  nothing : (bytes : List ℕ) → length bytes ≡ 0 → bytes ≡ []
  nothing [] e = refl
  nothing (byte ∷ bytes) e = absurd (omega arith)
numbers_sound is_wide (suc count) bytes e = part (size is_wide) refl e (numbers_sound is_wide count (drop (size is_wide) bytes)) where
  part : (k : ℕ) → size is_wide ≡ k → length bytes ≡ suc count * k → (length (drop (size is_wide) bytes) ≡ count * size is_wide → AreNumbers is_wide (drop (size is_wide) bytes) (numbers_at is_wide count (drop (size is_wide) bytes)))
      → AreNumbers is_wide bytes (numbers_at is_wide (suc count) bytes)
  part k is len others =
      let more : suc count * k ≡ k + count * k = grind arith in
      let long : k ≤ length bytes = omega arith in
      let rest : length (drop k bytes) ≡ count * k = omega (arith, length-drop k bytes) in
      (take (size is_wide) bytes, drop (size is_wide) bytes, sym (take-append-drop (size is_wide) bytes), (rw is (length-take-le k bytes long), refl), others (rw is rest))

numbers_complete : (is_wide : Bool) (bytes : List ℕ) (numbers : List ℤ) → AreNumbers is_wide bytes numbers → (length bytes ≡ length numbers * size is_wide) × (numbers_at is_wide (length numbers) bytes ≡ numbers)
unfolding numbers_at
numbers_complete is_wide bytes [] h = (ap length h ∙ omega arith, refl)
numbers_complete is_wide bytes (n ∷ numbers) h =
    let others = numbers_complete is_wide h.1 numbers h.4 in
    let front = take_at h.0 h.1 (size is_wide) h.3.0 in
    let back = drop_at h.0 h.1 (size is_wide) h.3.0 in
    let sum = ap length h.2 ∙ length-append h.0 h.1 in
    (sum ∙ product (length numbers) (size is_wide) (length h.0) (length h.1) h.3.0 others.0, rw (h.2, front, back, h.3.1, others.1) refl) where
      product : (count k a b : ℕ) → a ≡ k → b ≡ count * k → a + b ≡ suc count * k
      product count k a b p q = (let more : suc count * k ≡ k + count * k = grind arith in omega arith)

-- ---- values and their levels

given_ones : (n : ℕ) → given (replicate n 1) ≡ n
given_ones zero = refl
given_ones (suc n) = ap suc (given_ones n)

spread_ones : (numbers : List ℤ) → spread (replicate (length numbers) 1) numbers ≡ all_there numbers
spread_ones [] = refl
spread_ones (n ∷ numbers) = ap (λ (values : List (Option ℤ)). Some n ∷ values) (spread_ones numbers)

given_levels : (values : List (Option ℤ)) → given (levels_of values) ≡ length (present values)
given_levels [] = refl
given_levels (None ∷ values) = given_levels values
given_levels (Some n ∷ values) = ap suc (given_levels values)

spread_back : (values : List (Option ℤ)) → spread (levels_of values) (present values) ≡ values
spread_back [] = refl
spread_back (None ∷ values) = by_numbers (present values) (spread_back values) where
  by_numbers : (numbers : List ℤ) → spread (levels_of values) numbers ≡ values → spread (0 ∷ levels_of values) numbers ≡ None ∷ values
  by_numbers [] e = ap (λ (values : List (Option ℤ)). None ∷ values) e
  by_numbers (n ∷ numbers) e = ap (λ (values : List (Option ℤ)). None ∷ values) e
spread_back (Some n ∷ values) = ap (λ (values : List (Option ℤ)). Some n ∷ values) (spread_back values)

-- levels that are 0 or 1
abbrev AreSmall : List ℕ → Type 0
AreSmall [] = Unit {0}
AreSmall (level ∷ levels) = (level < 2) × AreSmall levels

levels_back : (levels : List ℕ) (numbers : List ℤ) → AreSmall levels → given levels ≡ length numbers → levels_of (spread levels numbers) ≡ levels
levels_back [] numbers small e = refl
levels_back (zero ∷ levels) [] small e = ap (λ (levels : List ℕ). 0 ∷ levels) (levels_back levels [] small.1 e)
levels_back (zero ∷ levels) (n ∷ numbers) small e = ap (λ (levels : List ℕ). 0 ∷ levels) (levels_back levels (n ∷ numbers) small.1 e)
levels_back (suc zero ∷ levels) [] small e = absurd (omega arith)
levels_back (suc zero ∷ levels) (n ∷ numbers) small e = ap (λ (levels : List ℕ). 1 ∷ levels) (levels_back levels numbers small.1 (omega arith))
levels_back (suc (suc level) ∷ levels) numbers small e = absurd (omega (arith, small.0))

small_append : (front back : List ℕ) → AreSmall front → AreSmall back → AreSmall (front ++ back)
small_append [] back a b = b
small_append (level ∷ front) back a b = (a.0, small_append front back a.1 b)

small_take : (n : ℕ) (levels : List ℕ) → AreSmall levels → AreSmall (take n levels)
small_take zero levels small = tt
small_take (suc n) [] small = tt
small_take (suc n) (level ∷ levels) small = (small.0, small_take n levels small.1)

small_equal : (n level : ℕ) → level < 2 → AreSmall (replicate n level)
small_equal zero level small = tt
small_equal (suc n) level small = (small, small_equal n level small)

small_group : (group : ℕ) → AreSmall (group_levels group)
unfolding group_levels
small_group group = (omega arith, (omega arith, (omega arith, (omega arith, (omega arith, (omega arith, (omega arith, (omega arith, tt))))))))

small_groups : (groups : List ℕ) → AreSmall (flat_map group_levels groups)
small_groups [] = tt
small_groups (group ∷ groups) = small_append (group_levels group) (flat_map group_levels groups) (small_group group) (small_groups groups)

small_run : (front levels : List ℕ) → IsRun front levels → AreSmall levels
small_run front levels run = elim run.kind [
  | inl h ↦ subst (λ (levels : List ℕ). AreSmall levels) (sym h.1.3) (small_equal run.count h.1.0 h.1.1)
  | inr h ↦ subst (λ (levels : List ℕ). AreSmall levels) (sym h.1.1) (small_groups run.body)
]

small_runs : (front : List ℕ) (runs : List (List ℕ)) → AreAll IsRun front runs → AreSmall (all_levels runs)
small_runs front [] spelled = tt
small_runs front (levels ∷ runs) spelled = small_append levels (all_levels runs) (small_run spelled.0 levels spelled.3) (small_runs spelled.1 runs spelled.4)

small_levels : (count : ℕ) (bytes levels : List ℕ) → HasLevels count bytes levels → AreSmall levels
small_levels count bytes levels h = subst (λ (levels : List ℕ). AreSmall levels) (sym h.first) (small_take count (all_levels h.runs) (small_runs h.front h.runs h.spelled))

-- ---- a body

same_test : (a b : ℕ) → a ≡ b → eqb a b ≡ true
same_test a b e = grind (arith, nat_tests)

-- numbers that are as many as the levels say
values_complete : (is_wide : Bool) (levels bytes : List ℕ) (values : List (Option ℤ)) (numbers : List ℤ) → AreNumbers is_wide bytes numbers → given levels ≡ length numbers → spread levels numbers ≡ values
    → spread_at is_wide levels bytes ≡ Some values
unfolding spread_at
values_complete is_wide levels bytes values numbers are many is = with_count (given levels) many (numbers_complete is_wide bytes numbers are) where
  with_count : (n : ℕ) → n ≡ length numbers → (length bytes ≡ length numbers * size is_wide) × (numbers_at is_wide (length numbers) bytes ≡ numbers)
      → cond (eqb (length bytes) (n * size is_wide)) (Some (spread levels (numbers_at is_wide n bytes))) None ≡ Some values
  with_count n e read =
      let test = same_test (length bytes) (length numbers * size is_wide) read.0 in
      rw (e, test, read.1, is) refl

required_complete : (is_wide : Bool) (body : List ℕ) (values : List (Option ℤ)) → IsRequiredBody is_wide body values → spread_at is_wide (replicate (length values) 1) body ≡ Some values
required_complete is_wide body values h =
    let count : length values ≡ length h.0 = ap length h.1 ∙ length_there h.0 in
    values_complete is_wide (replicate (length values) 1) body values h.0 h.2 (given_ones (length values) ∙ count)
    (ap (λ (n : ℕ). spread (replicate n 1) h.0) count ∙ (spread_ones h.0 ∙ sym h.1))

required_sound : (is_wide : Bool) (count : ℕ) (body : List ℕ) (values : List (Option ℤ)) → spread_at is_wide (replicate count 1) body ≡ Some values → IsRequiredBody is_wide body values
unfolding spread_at
required_sound is_wide count body values e = with_count (given (replicate count 1)) (given_ones count) e where
  with_count : (n : ℕ) → n ≡ count → cond (eqb (length body) (n * size is_wide)) (Some (spread (replicate count 1) (numbers_at is_wide n body))) None ≡ Some values → IsRequiredBody is_wide body values
  with_count n is e =
      let read = kept (eqb (length body) (n * size is_wide)) (spread (replicate count 1) (numbers_at is_wide n body)) values e in
      let numbers = numbers_at is_wide n body in
      let many : count ≡ length numbers = sym (length_numbers is_wide n body ∙ is) in
      (numbers, sym read.1 ∙ (ap (λ (n : ℕ). spread (replicate n 1) numbers) many ∙ spread_ones numbers), numbers_sound is_wide n body (eqb-true (length body) (n * size is_wide) read.0))

parts_complete : (count : ℕ) (body front runs numbers levels : List ℕ) → body ≡ front ++ (runs ++ numbers) → length front ≡ 4 → from_le_bytes w32 front ≡ length runs → levels_in count runs ≡ Some levels
    → optional_parts count body ≡ Some (levels, numbers)
unfolding optional_parts
parts_complete count body front runs numbers levels parts four size_is read =
    let sum = ap length parts ∙ (length-append front (runs ++ numbers)) in
    let more = length-append runs numbers in
    let first : take 4 body ≡ front = ap (take 4) parts ∙ take_at front (runs ++ numbers) 4 four in
    let behind : drop 4 body ≡ runs ++ numbers = ap (drop 4) parts ∙ drop_at front (runs ++ numbers) 4 four in
    with_len (levels_len body) (ap (from_le_bytes w32) first ∙ size_is) sum more behind where
      with_len : (n : ℕ) → n ≡ length runs → length body ≡ length front + length (runs ++ numbers) → length (runs ++ numbers) ≡ length runs + length numbers → drop 4 body ≡ runs ++ numbers
          → cond (leb 4 (length body) && leb (4 + n) (length body)) (option_map {U = List ℕ × List ℕ} (λ levels. (levels, drop (4 + n) body)) (levels_in count (take n (drop 4 body)))) None ≡ Some (levels, numbers)
      with_len n is sum more behind =
          let inside : leb 4 (length body) && leb (4 + n) (length body) ≡ true = grind (arith, nat_tests) in
          let middle : take n (drop 4 body) ≡ runs = ap (take n) behind ∙ take_at runs numbers n (sym is) in
          let back : drop (4 + n) body ≡ numbers = sym (drop-drop n 4 body) ∙ (ap (drop n) behind ∙ drop_at runs numbers n (sym is)) in
          rw (inside, middle, back, read) refl

parts_sound : ReadsVarints → (is_wide : Bool) (body : List ℕ) (values : List (Option ℤ)) (levels numbers : List ℕ) → optional_parts (length values) body ≡ Some (levels, numbers) → spread_at is_wide levels numbers ≡ Some values → IsOptionalBody is_wide body values
unfolding optional_parts spread_at
parts_sound law is_wide body values levels numbers read spread_is =
    with_len (levels_len body) refl
    (taken (leb 4 (length body) && leb (4 + levels_len body) (length body)) (option_map {U = List ℕ × List ℕ} (λ levels. (levels, drop (4 + levels_len body) body)) (levels_in (length values) (take (levels_len body) (drop 4 body)))) (levels, numbers) read)
    (kept (eqb (length numbers) (given levels * size is_wide)) (spread levels (numbers_at is_wide (given levels) numbers)) values spread_is) where
      with_len : (n : ℕ) → levels_len body ≡ n
          → (leb 4 (length body) && leb (4 + n) (length body) ≡ true) × (option_map {U = List ℕ × List ℕ} (λ levels. (levels, drop (4 + n) body)) (levels_in (length values) (take n (drop 4 body))) ≡ Some (levels, numbers))
          → (eqb (length numbers) (given levels * size is_wide) ≡ true) × (spread levels (numbers_at is_wide (given levels) numbers) ≡ values) → IsOptionalBody is_wide body values
      with_len n is inside many =
          let test = inside.0 in
          let long : 4 + n ≤ length body = grind (arith, nat_tests) in
          let read = mapped (λ levels. (levels, drop (4 + n) body)) (levels_in (length values) (take n (drop 4 body))) (levels, numbers) inside.1 in
          let levels_are : read.0 ≡ levels = ap (λ (x : List ℕ × List ℕ). x.0) read.2 in
          let numbers_are : drop (4 + n) body ≡ numbers = ap (λ (x : List ℕ × List ℕ). x.1) read.2 in
          let stand = has_levels law (length values) (take n (drop 4 body)) levels (read.1 ∙ ap (λ (levels : List ℕ). Some levels) levels_are) in
          let list = numbers_at is_wide (given levels) numbers in
          let enough : given levels ≡ length list = sym (length_numbers is_wide (given levels) numbers) in
          let own : levels_of values ≡ levels = ap levels_of (sym many.1) ∙ levels_back levels list (small_levels (length values) (take n (drop 4 body)) levels stand) enough in
          let there : present values ≡ list = ap present (sym many.1) ∙ present_spread levels list enough in
          record {
            size = take 4 body;
            runs = take n (drop 4 body);
            numbers = numbers;
            parts = sym (take-append-drop 4 body) ∙ ap (λ (back : List ℕ). take 4 body ++ back) (sym (take-append-drop n (drop 4 body)) ∙ ap (λ (back : List ℕ). take n (drop 4 body) ++ back) (drop-drop n 4 body ∙ numbers_are));
            four = length-take-le 4 body (omega arith);
            size_is = is ∙ sym (length-take-le n (drop 4 body) (omega (arith, length-drop 4 body)));
            levels = subst (λ (levels : List ℕ). HasLevels (length values) (take n (drop 4 body)) levels) (sym own) stand;
            there = subst (λ (ns : List ℤ). AreNumbers is_wide numbers ns) (sym there) (numbers_sound is_wide (given levels) numbers (eqb-true (length numbers) (given levels * size is_wide) many.0));
          }

complete_of : ReadsVarints → (is_optional is_wide : Bool) (body : List ℕ) (values : List (Option ℤ)) → IsBodyOf is_optional is_wide body values
    → (body_parts is_optional (length values) body >>= λ parts. spread_at is_wide parts.0 parts.1) ≡ Some values
complete_of law true is_wide body values h =
    let read = reads_levels law (length values) h.runs (levels_of values) h.levels in
    let parts = parts_complete (length values) body h.size h.runs h.numbers (levels_of values) h.parts h.four h.size_is read in
    rw parts (values_complete is_wide (levels_of values) h.numbers values (present values) h.there (given_levels values) (spread_back values))
complete_of law false is_wide body values h = required_complete is_wide body values h

sound_of : ReadsVarints → (is_optional is_wide : Bool) (body : List ℕ) (values : List (Option ℤ)) → (body_parts is_optional (length values) body >>= λ parts. spread_at is_wide parts.0 parts.1) ≡ Some values
    → IsBodyOf is_optional is_wide body values
sound_of law true is_wide body values e =
    let parts = bind_some (optional_parts (length values) body) (λ parts. spread_at is_wide parts.0 parts.1) values e in
    parts_sound law is_wide body values parts.0.0 parts.0.1 parts.1 parts.2
sound_of law false is_wide body values e = required_sound is_wide (length values) body values e

pub reads_body : ReadsVarints → ReadsABody
unfolding body_values
reads_body law layout body values = (complete_of law layout.is_optional layout.is_wide body values, sound_of law layout.is_optional layout.is_wide body values)
