-- What levels say of values, one part of them after another.
use Rattle.std.proofs.Common.{◌≡◌, ℕ, zero, suc, ◌+◌, ◌-◌, ◌/◌, ◌%◌, ◌^◌, ◌<◌, ◌≤◌, min, List, [], ◌∷◌, ◌++◌, length, take, get_or, replicate, Bool, true, false, cond, eqb, Option, Some, None, refl, sym, ap, ◌∙◌, arith, length-append}
use Rattle.std.proofs.lemmas.List.{length-take, length-replicate, take_more, take_min}
use Rattle.std.proofs.lemmas.Option.{some_pair_parts}
use Rattle.std.proofs.Math.Nat.{add-zero, zero-add}
use Rattle.std.specs.List.{flat_map}
use Rattle.std.specs.Option.{option_map, option_or}
use Rattle.hx_pqread.specs.declared.levels.Told.{Told}
use Rattle.hx_pqread.specs.Runs.{group_levels}
use Rattle.hx_pqread.specs.Levels.{◌>>=◌, run_at, levels_at, given, missing, told_of, told_run, joined}

-- ---- one part after another

-- an index, behind n others
abbrev pub later : ℕ → Option ℕ → Option ℕ
later n index = option_map (λ i. n + i) index

given_append : (front back : List ℕ) → given (front ++ back) ≡ given front + given back
given_append [] back = omega arith
given_append (level ∷ front) back = by_level (eqb level 1) (given_append front back) where
  by_level : (b : Bool) → given (front ++ back) ≡ given front + given back
      → cond b (suc (given (front ++ back))) (given (front ++ back)) ≡ cond b (suc (given front)) (given front) + given back
  by_level true e = omega arith
  by_level false e = e

later_none : (index : Option ℕ) → later 0 index ≡ index
later_none None = refl
later_none (Some i) = ap (λ (k : ℕ). Some k) (omega arith)

later_next : (n : ℕ) (first second : Option ℕ) → option_map suc (option_or first (later n second)) ≡ option_or (option_map suc first) (later (suc n) second)
later_next n None None = refl
later_next n None (Some i) = ap (λ (k : ℕ). Some k) (omega arith)
later_next n (Some i) second = refl

missing_append : (front back : List ℕ) → missing (front ++ back) ≡ option_or (missing front) (later (length front) (missing back))
missing_append [] back = sym (later_none (missing back))
missing_append (level ∷ front) back = by_level (eqb level 1) (missing_append front back) where
  by_level : (b : Bool) → missing (front ++ back) ≡ option_or (missing front) (later (length front) (missing back))
      → cond b (option_map suc (missing (front ++ back))) (Some 0) ≡ option_or (cond b (option_map suc (missing front)) (Some 0)) (later (suc (length front)) (missing back))
  by_level true e = ap (option_map suc) e ∙ later_next (length front) (missing front) (missing back)
  by_level false e = refl

pub told_append : (front back : List ℕ) → told_of (front ++ back) ≡ joined (told_of front) (told_of back)
told_append front back = rw (length-append front back, given_append front back, missing_append front back) refl

pub joined_assoc : (a b c : Told) → joined a (joined b c) ≡ joined (joined a b) c
joined_assoc a b c =
    let count : a.count + (b.count + c.count) ≡ a.count + b.count + c.count = omega arith in
    let given : a.given + (b.given + c.given) ≡ a.given + b.given + c.given = omega arith in
    rw (count, given, absent a.absent b.absent c.absent) refl where
      absent : (x y z : Option ℕ) → option_or x (later a.count (option_or y (later b.count z))) ≡ option_or (option_or x (later a.count y)) (later (a.count + b.count) z)
      absent (Some i) y z = refl
      absent None (Some i) z = refl
      absent None None None = refl
      absent None None (Some i) = ap (λ (n : ℕ). Some n) (omega arith)

-- ---- equal levels

abbrev told : (count given : ℕ) → Option ℕ → Told
told count given absent = record { count = count; given = given; absent = absent }

ones : (n : ℕ) → told_of (replicate n 1) ≡ told n n None
ones zero = refl
ones (suc n) = ap (λ (t : Told). told (suc t.count) (suc t.given) (option_map suc t.absent)) (ones n)

pub told_ones : (level n : ℕ) → level ≡ 1 → told_of (replicate n level) ≡ told n n None
told_ones level n is = rw is (ones n)

pub told_none : (level n : ℕ) → n ≡ 0 → told_of (replicate n level) ≡ told n 0 None
told_none level n is = rw is refl

zeros : (n : ℕ) → given (replicate n 0) ≡ 0
zeros zero = refl
zeros (suc n) = zeros n

pub told_zeros : (level n : ℕ) → level ≡ 0 → 0 < n → told_of (replicate n level) ≡ told n 0 (Some 0)
told_zeros level zero is some = absurd (omega arith)
told_zeros level (suc n) is some = rw (is, length-replicate {A = ℕ} n 0, zeros n) refl

-- of equal levels, the first few
pub take_equal : (m n k level : ℕ) → k ≡ min n m → take m (replicate n level) ≡ replicate k level
take_equal zero n zero level e = refl
take_equal zero n (suc k) level e = absurd (omega arith)
take_equal (suc m) zero zero level e = refl
take_equal (suc m) zero (suc k) level e = absurd (omega arith)
take_equal (suc m) (suc n) zero level e = absurd (omega arith)
take_equal (suc m) (suc n) (suc k) level e = ap (λ (levels : List ℕ). level ∷ levels) (take_equal m n k level (omega arith))

-- ---- a group

pub level_is : (group i : ℕ) → i < 8 → get_or (group_levels group) i 0 ≡ group / 2 ^ i % 2
unfolding group_levels
level_is group zero h = omega arith
level_is group (suc zero) h = refl
level_is group (suc (suc zero)) h = refl
level_is group (suc (suc (suc zero))) h = refl
level_is group (suc (suc (suc (suc zero)))) h = refl
level_is group (suc (suc (suc (suc (suc zero))))) h = refl
level_is group (suc (suc (suc (suc (suc (suc zero)))))) h = refl
level_is group (suc (suc (suc (suc (suc (suc (suc zero))))))) h = refl
level_is group (suc (suc (suc (suc (suc (suc (suc (suc i)))))))) h = absurd (omega arith)

pub eight : (group : ℕ) → length (group_levels group) ≡ 8
unfolding group_levels
eight group = refl

-- a group whose levels are all 1
pub full_group : (group count : ℕ) → group ≡ 255 → count ≤ 8 → told_of (replicate count 1) ≡ told_of (take count (group_levels group))
unfolding group_levels
full_group group count is few =
    let eight : take count (group_levels 255) ≡ replicate count 1 = take_equal count 8 count 1 (omega arith) in
    ap told_of (sym (ap (λ (n : ℕ). take count (group_levels n)) is ∙ eight))

-- one more level of a group
pub next_level : (group i level : ℕ) (before : Told) → i < 8 → level ≡ group / 2 ^ i % 2 → before ≡ told_of (take i (group_levels group)) → joined before (told_of (level ∷ [])) ≡ told_of (take (i + 1) (group_levels group))
next_level group i level before few is so_far =
    let one = take_more (group_levels group) i 0 (omega (arith, eight group)) in
    rw (one, level_is group i few, ← is, so_far) (sym (told_append (take i (group_levels group)) (level ∷ [])))

pub take_parts : (n : ℕ) (xs ys : List ℕ) → take n (xs ++ ys) ≡ take n xs ++ take (n - length xs) ys
take_parts zero xs ys = sym (nothing (zero - length xs) ys (omega arith)) where
  nothing : (k : ℕ) (ys : List ℕ) → k ≡ 0 → take 0 xs ++ take k ys ≡ []
  nothing k ys e = rw e refl
take_parts (suc n) [] ys = same (suc n) (suc n - 0) (omega arith) where
  same : (k m : ℕ) → k ≡ m → take k ys ≡ take m ys
  same k m e = ap (λ (k : ℕ). take k ys) e
take_parts (suc n) (x ∷ xs) ys = ap (λ (zs : List ℕ). x ∷ zs) (take_parts n xs ys ∙ rest (omega arith)) where
  rest : n - length xs ≡ suc n - suc (length xs) → take n xs ++ take (n - length xs) ys ≡ take n xs ++ take (suc n - suc (length xs)) ys
  rest e = ap (λ (k : ℕ). take n xs ++ take k ys) e

take_fewer : (n m : ℕ) (xs : List ℕ) → min m (length xs) ≡ min n (length xs) → take n xs ≡ take m xs
take_fewer n m xs e = sym (take_min n xs) ∙ (ap (λ (k : ℕ). take k xs) (sym e) ∙ take_min m xs)

parted : (before : Told) (wanted n group : ℕ) (groups : List ℕ) → n ≡ min 8 wanted
    → joined before (told_of (take wanted (flat_map group_levels (group ∷ groups)))) ≡ joined (joined before (told_of (take n (group_levels group)))) (told_of (take (wanted - n) (flat_map group_levels groups)))
parted before wanted n group groups is =
    let parts = take_parts wanted (group_levels group) (flat_map group_levels groups) in
    let front : take wanted (group_levels group) ≡ take n (group_levels group) = take_fewer wanted n (group_levels group) (omega (arith, eight group)) in
    let back : take (wanted - length (group_levels group)) (flat_map group_levels groups) ≡ take (wanted - n) (flat_map group_levels groups) = past (flat_map group_levels groups) in
    let whole : take wanted (flat_map group_levels (group ∷ groups)) ≡ take n (group_levels group) ++ take (wanted - n) (flat_map group_levels groups) = rw (parts, front, back) refl in
    ap (λ (levels : List ℕ). joined before (told_of levels)) whole
    ∙ (ap (joined before) (told_append (take n (group_levels group)) (take (wanted - n) (flat_map group_levels groups)))
    ∙ joined_assoc before (told_of (take n (group_levels group))) (told_of (take (wanted - n) (flat_map group_levels groups)))) where
      past : (xs : List ℕ) → take (wanted - length (group_levels group)) xs ≡ take (wanted - n) xs
      past xs = ap (λ (k : ℕ). take k xs) (omega (arith, eight group))

-- one more group, of whose levels at most wanted count
pub next_group : (before now : Told) (wanted n left group : ℕ) (groups : List ℕ) → n ≡ min 8 wanted → left ≡ wanted - n → now ≡ joined before (told_of (take n (group_levels group)))
    → joined before (told_of (take wanted (flat_map group_levels (group ∷ groups)))) ≡ joined now (told_of (take left (flat_map group_levels groups)))
next_group before now wanted n left group groups is less one = parted before wanted n group groups is ∙ rw (one, less) refl

alone : (count given : ℕ) (absent : Option ℕ) → told (count + 0) (given + 0) (option_or absent None) ≡ told count given absent
alone count given None = rw (add-zero count, add-zero given) refl
alone count given (Some i) = rw (add-zero count, add-zero given) refl

take_none : (n : ℕ) → take {A = ℕ} n [] ≡ []
take_none zero = refl
take_none (suc n) = refl

pub no_groups : (before : Told) (wanted : ℕ) → joined before (told_of (take wanted [])) ≡ before
no_groups before wanted = rw (take_none wanted) (alone before.count before.given before.absent)

-- ---- runs

-- what was said before, and what the levels still to come say
abbrev pub over : Told → Option (List ℕ) → Option Told
over before None = None
over before (Some levels) = Some (joined before (told_of levels))

pub over_nothing : (read : Option (List ℕ)) → over (told 0 0 None) read ≡ option_map told_of read
over_nothing None = refl
over_nothing (Some levels) = rw (zero-add (length levels), zero-add (given levels), later_none (missing levels)) refl

over_again : (before : Told) (front : List ℕ) (read : Option (List ℕ)) → over before (read >>= λ more. Some (front ++ more)) ≡ over (joined before (told_of front)) read
over_again before front None = refl
over_again before front (Some more) = ap (λ (t : Told). Some t) (ap (joined before) (told_append front more) ∙ joined_assoc before (told_of front) (told_of more))

pub next_run : (runs less wanted : ℕ) (bytes rest levels : List ℕ) (before : Told) → run_at bytes ≡ Some (levels, rest) → runs ≡ less + 1 → 0 < wanted
    → over before (levels_at runs wanted bytes) ≡ over (joined before (told_of (take wanted levels))) (levels_at less (wanted - length levels) rest)
unfolding levels_at
next_run runs less zero bytes rest levels before e k some = absurd (omega arith)
next_run zero less (suc wanted) bytes rest levels before e k some = absurd (omega arith)
next_run (suc runs) less (suc wanted) bytes rest levels before e k some =
    let same : runs ≡ less = omega arith in
    rw (← same, e) (over_again before (take (suc wanted) levels) (levels_at runs (suc wanted - length levels) rest))

pub no_run : (runs wanted : ℕ) (bytes : List ℕ) (before : Told) → run_at bytes ≡ None → 0 < runs → 0 < wanted → over before (levels_at runs wanted bytes) ≡ None
unfolding levels_at
no_run runs zero bytes before e k some = absurd (omega arith)
no_run zero (suc wanted) bytes before e k some = absurd (omega arith)
no_run (suc runs) (suc wanted) bytes before e k some = rw e refl

pub all_read : (runs wanted : ℕ) (bytes : List ℕ) (before : Told) → wanted ≡ 0 → over before (levels_at runs wanted bytes) ≡ Some before
unfolding levels_at
all_read zero zero bytes before k = ap (λ (t : Told). Some t) (alone before.count before.given before.absent)
all_read (suc runs) zero bytes before k = ap (λ (t : Told). Some t) (alone before.count before.given before.absent)
all_read runs (suc wanted) bytes before k = absurd (omega arith)

pub too_few : (runs wanted : ℕ) (bytes : List ℕ) (before : Told) → runs ≡ 0 → 0 < wanted → over before (levels_at runs wanted bytes) ≡ None
unfolding levels_at
too_few runs zero bytes before k some = absurd (omega arith)
too_few zero (suc wanted) bytes before k some = refl
too_few (suc runs) (suc wanted) bytes before k some = absurd (omega arith)

-- ---- a run that is read, and one that isn't there

pub some_run : (wanted : ℕ) (read : Option (List ℕ × List ℕ)) (run : Told) (after : List ℕ) → Some (run, after) ≡ told_run wanted read → (levels : List ℕ) × (read ≡ Some (levels, after)) × (run ≡ told_of (take wanted levels))
some_run wanted None run after e = absurd cc
some_run wanted (Some read) run after e =
    let both = some_pair_parts run (told_of (take wanted read.0)) after read.1 e in
    (read.0, rw (both.1) refl, both.0)

pub none_run : (wanted : ℕ) (read : Option (List ℕ × List ℕ)) → None ≡ told_run wanted read → read ≡ None
none_run wanted None e = refl
none_run wanted (Some read) e = absurd cc

pub one_more : (runs less wanted left : ℕ) (bytes rest : List ℕ) (before run now : Told) (all : Option Told) → Some (run, rest) ≡ told_run wanted (run_at bytes) → runs ≡ less + 1 → 0 < wanted → now ≡ joined before run → left ≡ wanted - run.count
    → over before (levels_at runs wanted bytes) ≡ all → over now (levels_at less left rest) ≡ all
one_more runs less wanted left bytes rest before run now all read k some one fewer so_far =
    let levels = some_run wanted (run_at bytes) run rest read in
    let next = next_run runs less wanted bytes rest levels.0 before levels.1 k some in
    let len : run.count ≡ min wanted (length levels.0) = ap (λ (t : Told). t.count) levels.2 ∙ length-take wanted levels.0 in
    let same : left ≡ wanted - length levels.0 = omega arith in
    ap (λ (t : Told). over t (levels_at less left rest)) (one ∙ ap (joined before) levels.2)
    ∙ (ap (λ (n : ℕ). over (joined before (told_of (take wanted levels.0))) (levels_at less n rest)) same ∙ (sym next ∙ so_far))
