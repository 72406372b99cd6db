-- Rows on the other side of a split are at least as far as the split, and halves joined are halved.
use Rattle.std.proofs.Common.{◌≡◌, ◌+◌, ◌/◌, ◌∷◌, ◌++◌, [], ◌<◌, ◌≤◌, ◌-ℤ◌, ℕ, ℤ, zero, suc, List, false, refl, subst, sym, arith, get_or, take, drop, length, length-take, length-drop}
use Rattle.std.specs.Prelude.{◌≤ℤ◌, ◌<ℤ◌}
use Rattle.std.specs.Int.RustNames.{unsigned_abs}
use Rattle.std.specs.List.{All}
use Rattle.std.specs.List.Sorted.{IsPermutation, IsSortedByKey}
use Rattle.std.specs.Ordering.{int_cmp, is_lt}
use Rattle.std.specs.declared.cmp.Ordering.{Ordering}
use Rattle.std.specs.declared.cmp.Ordering.TheVariants.{Less, Equal, Greater}
use Rattle.std.proofs.lemmas.Cmp.{int_cmp_total, int_ranked}
use Rattle.std.proofs.lemmas.Int.{ints}
use Rattle.std.proofs.lemmas.Nat.{mul-le}
use Rattle.std.proofs.lemmas.List.Elements.{All-drop, All-nil, All-take}
use Rattle.std.proofs.lemmas.List.Sorted.{All-permutation, ranks_by, sorted_far}
use Rattle.std.proofs.lemmas.List.{get_or-take, get_or-drop, get_or_default}
use Rattle.std.proofs.Math.Seq.{take-append_seam, drop-append_seam}
use Rattle.hx_base.specs.declared.row.Row.{Row}
use Rattle.hx_base.specs.Chords.{chord2_of}
use Rattle.hx_base.specs.Rows.{IsGood, square}
use Rattle.hx_kd.specs.declared.axis.Axis.{Axis}
use Rattle.hx_kd.specs.declared.axis.Axis.TheVariants.{X, Y, Z}
use Rattle.hx_kd.specs.declared.halves.Node.{Node}
use Rattle.hx_kd.specs.Halves.{IsHalved, IsHalvedTo, IsParted, IsRising, IsTree}
use Rattle.hx_kd.specs.Axes.{coordinate}

square_le : (a b : ℤ) → unsigned_abs a ≤ unsigned_abs b → square a ≤ square b
square_le a b h = mul-le (unsigned_abs a) (unsigned_abs a) (unsigned_abs b) (unsigned_abs b) h h

above : (at split other : ℤ) → at ≤ℤ split → split ≤ℤ other → square (at -ℤ split) ≤ square (at -ℤ other)
above at split other h k = square_le (at -ℤ split) (at -ℤ other) (grind (arith, ints))

below : (at split other : ℤ) → split ≤ℤ at → other ≤ℤ split → square (at -ℤ split) ≤ square (at -ℤ other)
below at split other h k = square_le (at -ℤ split) (at -ℤ other) (grind (arith, ints))

one_axis : (axis : Axis) (from row : Row) → square (coordinate axis from -ℤ coordinate axis row) ≤ chord2_of from row
one_axis X from row = omega arith
one_axis Y from row = omega arith
one_axis Z from row = omega arith

-- rows past the split are too far, where the split is
too_far_above : (axis : Axis) (from : Row) (split : ℤ) (limit : ℕ) (rows : List Row) → coordinate axis from ≤ℤ split → limit < square (coordinate axis from -ℤ split)
    → All (λ row. split ≤ℤ coordinate axis row) rows → All (λ row. limit < chord2_of from row) rows
too_far_above axis from split limit rows h far all = λ k d lt.
    let row = get_or rows k d in
    let a = above (coordinate axis from) split (coordinate axis row) h (all k d lt) in
    let b = one_axis axis from row in
    omega (arith, a, b, far)

too_far_below : (axis : Axis) (from : Row) (split : ℤ) (limit : ℕ) (rows : List Row) → split ≤ℤ coordinate axis from → limit < square (coordinate axis from -ℤ split)
    → All (λ row. coordinate axis row ≤ℤ split) rows → All (λ row. limit < chord2_of from row) rows
too_far_below axis from split limit rows h far all = λ k d lt.
    let row = get_or rows k d in
    let a = below (coordinate axis from) split (coordinate axis row) h (all k d lt) in
    let b = one_axis axis from row in
    omega (arith, a, b, far)

not_below : (a b : ℤ) (o : Ordering) → o ≡ int_cmp a b → is_lt o ≡ false → b ≤ℤ a
not_below a b Less e h = cc h
not_below a b Equal e h = let r = int_ranked a b Equal e in omega (arith, ints, r)
not_below a b Greater e h = let r = int_ranked a b Greater e in omega (arith, ints, r)

-- rows that rise are parted by the one in the middle, and their halves rise
pub parted : (number : Row → ℤ) (rows : List Row) (d : Row) → 0 < length rows → IsRising number rows → IsParted number (number (get_or rows (length rows / 2) d)) rows
parted number rows d some rising =
    record {
      up_to = λ k e lt.
          let short = length-take (length rows / 2) rows in
          let at = get_or-take (length rows / 2) rows k e (omega (arith, short, lt)) in
          let there = get_or_default rows (length rows / 2) e d (omega arith) in
          rw (at, ← there) (rising k (length rows / 2) e (omega (arith, short, lt)) (omega arith));
      from = λ k e lt.
          let short = length-drop (length rows / 2) rows in
          let at = get_or-drop (length rows / 2) rows k e in
          let there = get_or_default rows (length rows / 2) e d (omega arith) in
          rw (at, ← there) (rising (length rows / 2) (length rows / 2 + k) e (omega arith) (omega (arith, short, lt)));
    }

pub rising_take : (number : Row → ℤ) (n : ℕ) (rows : List Row) → IsRising number rows → IsRising number (take n rows)
rising_take number n rows h = λ i j d le lt.
    let short = length-take n rows in
    rw (get_or-take n rows i d (omega (arith, short, le, lt)), get_or-take n rows j d (omega (arith, short, lt))) (h i j d le (omega (arith, short, lt)))

pub rising_drop : (number : Row → ℤ) (n : ℕ) (rows : List Row) → IsRising number rows → IsRising number (drop n rows)
rising_drop number n rows h = λ i j d le lt.
    let short = length-drop n rows in
    rw (get_or-drop n rows i d, get_or-drop n rows j d) (h (n + i) (n + j) d (omega (arith, le)) (omega (arith, short, lt)))

-- what a sort leaves
pub rising_from_sort : (number : Row → ℤ) (rows : List Row) → IsSortedByKey number int_cmp rows → IsRising number rows
rising_from_sort number rows s = λ i j d le lt.
    not_below (number (get_or rows j d)) (number (get_or rows i d)) (int_cmp (number (get_or rows j d)) (number (get_or rows i d))) refl
    (sorted_far (λ x y. is_lt (int_cmp (number x) (number y))) (ranks_by int_cmp_total number) rows s i j d le lt)

none_halved_to : (levels : ℕ) (nodes : List Node) → IsHalvedTo levels nodes []
none_halved_to zero nodes = tt
none_halved_to (suc levels) [] = tt
none_halved_to (suc levels) (node ∷ nodes) = (
  record { up_to = All-nil (λ row. coordinate node.axis row ≤ℤ node.split); from = All-nil (λ row. node.split ≤ℤ coordinate node.axis row) },
  none_halved_to levels (take (length nodes / 2) nodes),
  none_halved_to levels (drop (length nodes / 2) nodes),
)

-- no rows, and no nodes
pub none_halved : (nodes : List Node) (rows : List Row) → length rows ≡ 0 → IsHalved nodes rows
none_halved nodes [] e = λ levels. none_halved_to levels nodes
none_halved nodes (row ∷ rows) e = absurd (omega (arith, e))

unparted_to : (levels : ℕ) (rows : List Row) → IsHalvedTo levels [] rows
unparted_to zero rows = tt
unparted_to (suc levels) rows = tt

pub unparted : (nodes : List Node) (rows : List Row) → nodes ≡ [] → IsHalved nodes rows
unparted nodes rows e = subst (λ (xs : List Node). IsHalved xs rows) (sym e) (λ levels. unparted_to levels rows)

-- a node over the nodes of both halves
over_halves : (node : Node) (below : List Node) (rows : List Row) → IsParted (coordinate node.axis) node.split rows
    → IsHalved (take (length below / 2) below) (take (length rows / 2) rows) → IsHalved (drop (length below / 2) below) (drop (length rows / 2) rows)
    → (levels : ℕ) → IsHalvedTo levels (node ∷ below) rows
over_halves node below rows p h k zero = tt
over_halves node below rows p h k (suc levels) = (p, h levels, k levels)

-- halves that were parted, and halved each
pub halved : (node : Node) (rows first second : List Row) (first_nodes second_nodes : List Node) → IsParted (coordinate node.axis) node.split rows
    → IsPermutation (take (length rows / 2) rows) first → IsPermutation (drop (length rows / 2) rows) second
    → length first ≡ length (first ++ second) / 2 → length first_nodes ≡ length (first_nodes ++ second_nodes) / 2
    → IsHalved first_nodes first → IsHalved second_nodes second → IsHalved (node ∷ (first_nodes ++ second_nodes)) (first ++ second)
halved node rows first second first_nodes second_nodes p moved_first moved_second long long_nodes h k =
    over_halves node (first_nodes ++ second_nodes) (first ++ second)
    (record {
      up_to = rw front (All-permutation (λ row. coordinate node.axis row ≤ℤ node.split) (take (length rows / 2) rows) first moved_first p.up_to);
      from = rw back (All-permutation (λ row. node.split ≤ℤ coordinate node.axis row) (drop (length rows / 2) rows) second moved_second p.from);
    })
    (rw (front, front_nodes) h) (rw (back, back_nodes) k)
  where
    front : take (length (first ++ second) / 2) (first ++ second) ≡ first
    front = rw (← long) (take-append_seam first second)

    back : drop (length (first ++ second) / 2) (first ++ second) ≡ second
    back = rw (← long) (drop-append_seam first second)

    front_nodes : take (length (first_nodes ++ second_nodes) / 2) (first_nodes ++ second_nodes) ≡ first_nodes
    front_nodes = rw (← long_nodes) (take-append_seam first_nodes second_nodes)

    back_nodes : drop (length (first_nodes ++ second_nodes) / 2) (first_nodes ++ second_nodes) ≡ second_nodes
    back_nodes = rw (← long_nodes) (drop-append_seam first_nodes second_nodes)

-- what the first node says, and the halves
module _ (nodes below : List Node) (node : Node) (rows : List Row) (is : nodes ≡ node ∷ below) (tree : IsTree nodes rows) where
  opened : IsHalved (node ∷ below) rows
  opened = subst (λ (xs : List Node). IsHalved xs rows) is tree.halved

  pub first_half : IsTree (take (length below / 2) below) (take (length rows / 2) rows)
  first_half = record { good = All-take IsGood (length rows / 2) rows tree.good; halved = λ levels. (opened (suc levels)).1 }

  pub second_half : IsTree (drop (length below / 2) below) (drop (length rows / 2) rows)
  second_half = record { good = All-drop IsGood (length rows / 2) rows tree.good; halved = λ levels. (opened (suc levels)).2 }

  -- the half on the other side of the split is too far
  pub second_far : (from : Row) (limit : ℕ) → coordinate node.axis from <ℤ node.split → limit < square (coordinate node.axis from -ℤ node.split) → All (λ row. limit < chord2_of from row) (drop (length rows / 2) rows)
  second_far from limit side far = too_far_above node.axis from node.split limit (drop (length rows / 2) rows) (omega (arith, ints, side)) far ((opened 1).0.from)

  pub first_far : (from : Row) (limit : ℕ) → ¬ (coordinate node.axis from <ℤ node.split) → limit < square (coordinate node.axis from -ℤ node.split) → All (λ row. limit < chord2_of from row) (take (length rows / 2) rows)
  first_far from limit side far = too_far_below node.axis from node.split limit (take (length rows / 2) rows) (grind (arith, ints, side)) far ((opened 1).0.up_to)

-- a vector's items after its slice was written
pub whole : {X : Type 0} (n : ℕ) (xs ys : List X) → length xs ≡ n → take n (xs ++ ys) ≡ xs
whole n xs ys e = rw (← e) (take-append_seam xs ys)
