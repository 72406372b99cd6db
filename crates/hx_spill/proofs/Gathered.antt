-- Slices of a partition that are gathered are its rows.
use Rattle.std.proofs.Common.{◌≡◌, ◌∙◌, ◌++◌, ◌∷◌, [], ℕ, List, Some, refl, sym, subst}
use Rattle.std.specs.List.{AllZip, flat_map, slice_get}
use Rattle.std.specs.List.Sorted.{IsPermutation}
use Rattle.std.proofs.lemmas.List.Sorted.{IsPermutation-append, IsPermutation-refl, IsPermutation-sym, IsPermutation-trans}
use Rattle.hx_base.specs.Contents.{partition_rows}
use Rattle.hx_base.specs.Pixels.{rows_in}
use Rattle.hx_base.specs.Rows.{row_cmp, sorted_rows}
use Rattle.hx_base.specs.declared.pixel.Pixel.{Pixel}
use Rattle.hx_base.specs.declared.row.Row.{Row}
use Rattle.hx_base.proofs.RowOrder.{rows_exact, rows_total}
use Rattle.hx_base.proofs.Sorting.{permutes, same_sorted}
use Rattle.hx_spill.specs.Splits.{slice}
use Rattle.hx_spill.specs.Values.{AreSplit}
use Rattle.hx_spill.specs.declared.split.Placed.{Placed}
use Rattle.hx_spill.proofs.Counted.{rows_in-append}

-- rows that are sorted alike are the same rows
alike : (xs ys : List Row) → sorted_rows xs ≡ sorted_rows ys → IsPermutation xs ys
alike xs ys is =
    IsPermutation-trans xs (sorted_rows xs) ys (permutes row_cmp rows_total rows_exact xs)
    (subst (λ (zs : List Row). IsPermutation zs ys) (sym is) (IsPermutation-sym ys (sorted_rows ys) (permutes row_cmp rows_total rows_exact ys)))

-- a slice is the rows of the partition, in another order
of_partition : (pixel : Pixel) (there more : List Row) → there ≡ partition_rows pixel more → IsPermutation there (rows_in pixel more)
of_partition pixel there more is = subst (λ (zs : List Row). IsPermutation zs (rows_in pixel more)) (sym is) (IsPermutation-sym (rows_in pixel more) (partition_rows pixel more) (permutes row_cmp rows_total rows_exact (rows_in pixel more)))

both : (pixel : Pixel) (rows more gathered there : List Row) → IsPermutation gathered (rows_in pixel rows) → IsPermutation there (rows_in pixel more) → IsPermutation (gathered ++ there) (rows_in pixel (rows ++ more))
both pixel rows more gathered there first second =
    subst (λ (zs : List Row). IsPermutation (gathered ++ there) zs) (sym (rows_in-append pixel rows more)) (IsPermutation-append gathered (rows_in pixel rows) there (rows_in pixel more) first second)

pub gathered_more : (pixel : Pixel) (rows more gathered there : List Row) → sorted_rows gathered ≡ partition_rows pixel rows → there ≡ partition_rows pixel more → sorted_rows (gathered ++ there) ≡ partition_rows pixel (rows ++ more)
gathered_more pixel rows more gathered there so_far is =
    same_sorted row_cmp rows_total rows_exact (gathered ++ there) (rows_in pixel (rows ++ more))
    (both pixel rows more gathered there (alike gathered (rows_in pixel rows) so_far) (of_partition pixel there more is))

gathered : (parts : List Pixel) (part : ℕ) (pixel : Pixel) (inputs : List (List Row)) (splits : List (List Placed)) → slice_get parts part ≡ Some pixel → AllZip (AreSplit parts) inputs splits
    → IsPermutation (flat_map (slice part) splits) (rows_in pixel (flat_map (λ rows. rows) inputs))
gathered parts part pixel [] [] is all = IsPermutation-refl []
gathered parts part pixel [] (placed ∷ splits) is all = absurd all
gathered parts part pixel (rows ∷ inputs) [] is all = absurd all
gathered parts part pixel (rows ∷ inputs) (placed ∷ splits) is all =
    both pixel rows (flat_map (λ rows. rows) inputs) (slice part placed) (flat_map (slice part) splits)
    (of_partition pixel (slice part placed) rows (all.0.each part pixel is)) (gathered parts part pixel inputs splits is all.1)

pub gathered_all : (parts : List Pixel) (part : ℕ) (pixel : Pixel) (inputs : List (List Row)) (splits : List (List Placed)) → slice_get parts part ≡ Some pixel → AllZip (AreSplit parts) inputs splits
    → sorted_rows (flat_map (slice part) splits) ≡ partition_rows pixel (flat_map (λ rows. rows) inputs)
gathered_all parts part pixel inputs splits is all =
    same_sorted row_cmp rows_total rows_exact (flat_map (slice part) splits) (rows_in pixel (flat_map (λ rows. rows) inputs)) (gathered parts part pixel inputs splits is all)
