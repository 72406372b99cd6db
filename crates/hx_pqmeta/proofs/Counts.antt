-- Counts of rows that are taken off one after another.
use Rattle.std.proofs.Common.{rules, ◌≡◌, ℕ, ℤ, pos, negsuc, ◌+◌, ◌<◌, ◌^◌, ◌+ℤ◌, ◌-ℤ◌, ◌≤ℤ◌, List, [], ◌∷◌, map, Bool, true, false, refl, sym, ◌∙◌, arith}
use Rattle.std.specs.Prelude.{int_le}
use Rattle.std.specs.Int.{w64}
use Rattle.std.specs.Int.RustNames.{FitsSigned}
use Rattle.std.proofs.lemmas.Int.{ints}
use Rattle.std.specs.List.{list_all}
use Rattle.std.specs.Ordering.{int_eq}
use Rattle.std.proofs.lemmas.Bool.Decides.{nat_tests}
use Rattle.hx_pqmeta.specs.Records.{GroupRecord}
use Rattle.hx_pqmeta.specs.Naturals.{natural}
use Rattle.hx_pqmeta.specs.Footers.{sum_of, are_counts, rows_of}

sums_above : (counts : List ℤ) → list_all (λ count. int_le (pos 0) count) counts ≡ true → pos 0 ≤ℤ sum_of counts
sums_above [] all = omega arith
sums_above (n ∷ ns) all =
    let first : int_le (pos 0) n ≡ true = grind arith in
    let others : list_all (λ count. int_le (pos 0) count) ns ≡ true = grind arith in
    let rest = sums_above ns others in
    grind (arith, nat_tests)

same_sum : (left n sum : ℤ) → int_eq (n +ℤ sum) left ≡ int_eq sum (left -ℤ n)
same_sum left n sum = grind (arith, nat_tests)

pub counts_next : (left n : ℤ) (ns : List ℤ) → pos 0 ≤ℤ left → pos 0 ≤ℤ n → n ≤ℤ left → are_counts left (n ∷ ns) ≡ are_counts (left -ℤ n) ns
counts_next left n ns some count fits =
    let a : int_le (pos 0) left ≡ true = grind (arith, nat_tests) in
    let b : int_le (pos 0) n ≡ true = grind (arith, nat_tests) in
    let d : int_le (pos 0) (left -ℤ n) ≡ true = grind (arith, nat_tests) in
    rw (a, b, d, same_sum left n (sum_of ns)) refl

pub counts_stop : (left n : ℤ) (ns : List ℤ) → ((pos 0 ≤ℤ n) × (n ≤ℤ left) → ⊥) → are_counts left (n ∷ ns) ≡ false
counts_stop left n ns other = with_others (list_all (λ count. int_le (pos 0) count) ns) refl where
  with_others : (others : Bool) → list_all (λ count. int_le (pos 0) count) ns ≡ others → are_counts left (n ∷ ns) ≡ false
  with_others false is = grind (arith, nat_tests)
  with_others true is =
      let rest = sums_above ns is in
      grind (arith, nat_tests)

-- what is left fits
pub differs : (left count : ℤ) → FitsSigned w64 left → pos 0 ≤ℤ count → count ≤ℤ left → FitsSigned w64 (left -ℤ count)
differs left count fits some less = search (rules, ints)

one_sum : (rows : ℤ) (counts : List ℤ) (sum : ℕ) → int_le (pos 0) rows ≡ true → sum_of counts ≡ pos sum → rows +ℤ sum_of counts ≡ pos (natural rows + sum)
one_sum (pos n) counts sum some is = rw is refl
one_sum (negsuc n) counts sum some is = absurd cc

-- counts that aren't negative have their sum as a natural number
sum_is : (groups : List GroupRecord) → list_all (λ count. int_le (pos 0) count) (map (λ group. group.rows) groups) ≡ true → sum_of (map (λ group. group.rows) groups) ≡ pos (rows_of groups)
sum_is [] all = refl
sum_is (group ∷ groups) all =
    let first : int_le (pos 0) group.rows ≡ true = grind arith in
    let others : list_all (λ count. int_le (pos 0) count) (map (λ group. group.rows) groups) ≡ true = grind arith in
    one_sum group.rows (map (λ group. group.rows) groups) (rows_of groups) first (sum_is groups others)

-- the rows of groups that are counted right
pub counts_few : (rows : ℤ) (groups : List GroupRecord) → FitsSigned w64 rows → are_counts rows (map (λ group. group.rows) groups) ≡ true → rows_of groups < 2 ^ 63
counts_few rows groups fits right =
    let all : list_all (λ count. int_le (pos 0) count) (map (λ group. group.rows) groups) ≡ true = grind arith in
    let sum : int_eq (sum_of (map (λ group. group.rows) groups)) rows ≡ true = grind arith in
    let is : sum_of (map (λ group. group.rows) groups) ≡ rows = grind (arith, nat_tests) in
    let whole : pos (rows_of groups) ≡ rows = sym (sum_is groups all) ∙ is in
    below (rows_of groups) (rw (← whole) at fits) where
      below : (n : ℕ) → FitsSigned w64 (pos n) → n < 2 ^ 63
      below n fits = omega (arith, ints)
