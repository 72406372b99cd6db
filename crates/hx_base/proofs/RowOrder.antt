-- The order of rows: it is total, and rows that compare equal are one row.
use Rattle.std.proofs.Common.{◌≡◌, ℕ, ℤ, List, ap}
use Rattle.std.specs.Cmp.{IsTotalOrder}
use Rattle.std.specs.List.Sorted.{IsPermutation, IsSorted}
use Rattle.std.specs.Ordering.{int_cmp, nat_cmp}
use Rattle.std.proofs.lemmas.Cmp.{int_cmp_total, nat_cmp_total, on_total, then_total}
use Rattle.std.proofs.lemmas.Map.Lookups.{CmpEqualImpliesEq, exact_pairs, exact_signed, exact_unsigned}
use Rattle.hx_base.specs.Rows.{row_cmp, sorted_rows}
use Rattle.hx_base.specs.declared.row.Row.{Row}
use Rattle.hx_base.proofs.Sorting.{is_sorted_by}

pub rows_total : IsTotalOrder row_cmp
rows_total =
    then_total (on_total (λ (r : Row). r.hp) nat_cmp_total)
    (then_total (on_total (λ (r : Row). r.id) int_cmp_total)
    (then_total (on_total (λ (r : Row). r.x) int_cmp_total)
    (then_total (on_total (λ (r : Row). r.y) int_cmp_total) (on_total (λ (r : Row). r.z) int_cmp_total))))

-- the row of five numbers
from_parts : ℕ × (ℤ × (ℤ × (ℤ × ℤ))) → Row
from_parts p = record { hp = p.0; id = p.1.0; x = p.1.1.0; y = p.1.1.1.0; z = p.1.1.1.1 }

parts_of : Row → ℕ × (ℤ × (ℤ × (ℤ × ℤ)))
parts_of r = (r.hp, (r.id, (r.x, (r.y, r.z))))

pub rows_exact : CmpEqualImpliesEq row_cmp
unfolding from_parts parts_of
rows_exact a b h =
    ap from_parts
    (exact_pairs nat_cmp _ exact_unsigned (exact_pairs int_cmp _ exact_signed (exact_pairs int_cmp _ exact_signed (exact_pairs int_cmp int_cmp exact_signed exact_signed)))
    (parts_of a) (parts_of b) h)

pub only_sorted : (xs ys : List Row) → IsSorted row_cmp ys → IsPermutation xs ys → ys ≡ sorted_rows xs
only_sorted xs ys = is_sorted_by row_cmp rows_total rows_exact xs ys
