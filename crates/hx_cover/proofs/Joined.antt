-- The box of a pixel over two lists of rows, from its boxes over each.
use Rattle.std.proofs.Common.{◌≡◌, ◌∙◌, ◌++◌, [], ℤ, List, sym, ap, subst, arith, append-nil}
use Rattle.std.specs.Prelude.{◌≤ℤ◌}
use Rattle.std.specs.Int.{int_max, int_min}
use Rattle.std.specs.List.{Any}
use Rattle.std.proofs.lemmas.Int.{by_lt_z, clamps, ints}
use Rattle.std.proofs.lemmas.List.Elements.{All-append, Contains-append_left, Contains-append_right, filter-append}
use Rattle.hx_base.specs.declared.pixel.Pixel.{Pixel}
use Rattle.hx_base.specs.declared.row.Row.{Row}
use Rattle.hx_base.specs.Boxes.{BoundingBox, Extent, IsBoxOf, IsExtentOf}
use Rattle.hx_base.specs.Pixels.{rows_in}
use Rattle.hx_cover.specs.Bounds.{joined_box, joined_extent}

any_left : (P : Row → Type 0) (rows others : List Row) → Any P rows → Any P (rows ++ others)
any_left P rows others h = let there = Contains-append_left rows others h.1 (h.0, h.2, h.3) in (there.0, h.1, there.1, there.2, h.4)

any_right : (P : Row → Type 0) (rows others : List Row) → Any P others → Any P (rows ++ others)
any_right P rows others h = let there = Contains-append_right rows others h.1 (h.0, h.2, h.3) in (there.0, h.1, there.1, there.2, h.4)

any_same : (f : Row → ℤ) (a b : ℤ) (rows : List Row) → a ≡ b → Any (λ row. f row ≡ a) rows → Any (λ row. f row ≡ b) rows
any_same f a b rows same h = (h.0, h.1, h.2, h.3, h.4 ∙ same)

pub extent_joined : (f : Row → ℤ) (rows others : List Row) (a b : Extent) → IsExtentOf f rows a → IsExtentOf f others b → IsExtentOf f (rows ++ others) (joined_extent a b)
extent_joined f rows others a b ha hb = record {
  lowest = by_lt_z b.low a.low
      (λ less. let is : b.low ≡ int_min a.low b.low = omega (arith, ints, clamps) in any_right (λ row. f row ≡ int_min a.low b.low) rows others (any_same f b.low (int_min a.low b.low) others is hb.lowest))
      (λ more. let is : a.low ≡ int_min a.low b.low = omega (arith, ints, clamps) in any_left (λ row. f row ≡ int_min a.low b.low) rows others (any_same f a.low (int_min a.low b.low) rows is ha.lowest));
  highest = by_lt_z a.high b.high
      (λ less. let is : b.high ≡ int_max a.high b.high = omega (arith, ints, clamps) in any_right (λ row. f row ≡ int_max a.high b.high) rows others (any_same f b.high (int_max a.high b.high) others is hb.highest))
      (λ more. let is : a.high ≡ int_max a.high b.high = omega (arith, ints, clamps) in any_left (λ row. f row ≡ int_max a.high b.high) rows others (any_same f a.high (int_max a.high b.high) rows is ha.highest));
  within =
      let wide = λ (row : Row). (int_min a.low b.low ≤ℤ f row) × (f row ≤ℤ int_max a.high b.high) in
      All-append (λ row. (int_min a.low b.low ≤ℤ f row) × (f row ≤ℤ int_max a.high b.high)) rows others
      (λ k d lt. let h = ha.within k d lt in let low = h.0 in let high = h.1 in (omega (arith, ints, clamps), omega (arith, ints, clamps)))
      (λ k d lt. let h = hb.within k d lt in let low = h.0 in let high = h.1 in (omega (arith, ints, clamps), omega (arith, ints, clamps)));
}

split : (pixel : Pixel) (rows others : List Row) → rows_in pixel (rows ++ others) ≡ rows_in pixel rows ++ rows_in pixel others
split pixel rows others = filter-append _ rows others

pub box_joined : (pixel : Pixel) (rows others : List Row) (a b : BoundingBox) → IsBoxOf pixel rows a → IsBoxOf pixel others b → IsBoxOf pixel (rows ++ others) (joined_box a b)
box_joined pixel rows others a b ha hb =
    let parts = sym (split pixel rows others) in
    record {
      x = subst (λ (xs : List Row). IsExtentOf (λ row. row.x) xs (joined_extent a.x b.x)) parts (extent_joined (λ row. row.x) (rows_in pixel rows) (rows_in pixel others) a.x b.x ha.x hb.x);
      y = subst (λ (xs : List Row). IsExtentOf (λ row. row.y) xs (joined_extent a.y b.y)) parts (extent_joined (λ row. row.y) (rows_in pixel rows) (rows_in pixel others) a.y b.y ha.y hb.y);
      z = subst (λ (xs : List Row). IsExtentOf (λ row. row.z) xs (joined_extent a.z b.z)) parts (extent_joined (λ row. row.z) (rows_in pixel rows) (rows_in pixel others) a.z b.z ha.z hb.z);
    }

-- rows in other pixels change nothing
same_box : (pixel : Pixel) (rows others : List Row) (box : BoundingBox) → rows_in pixel rows ≡ rows_in pixel others → IsBoxOf pixel rows box → IsBoxOf pixel others box
same_box pixel rows others box same h = record {
  x = subst (λ (xs : List Row). IsExtentOf (λ row. row.x) xs box.x) same h.x;
  y = subst (λ (xs : List Row). IsExtentOf (λ row. row.y) xs box.y) same h.y;
  z = subst (λ (xs : List Row). IsExtentOf (λ row. row.z) xs box.z) same h.z;
}

pub box_before : (pixel : Pixel) (rows others : List Row) (box : BoundingBox) → rows_in pixel others ≡ [] → IsBoxOf pixel rows box → IsBoxOf pixel (rows ++ others) box
box_before pixel rows others box none h =
    same_box pixel rows (rows ++ others) box (sym (split pixel rows others ∙ ap (λ (xs : List Row). rows_in pixel rows ++ xs) none ∙ append-nil (rows_in pixel rows))) h

pub box_behind : (pixel : Pixel) (rows others : List Row) (box : BoundingBox) → rows_in pixel rows ≡ [] → IsBoxOf pixel others box → IsBoxOf pixel (rows ++ others) box
box_behind pixel rows others box none h =
    same_box pixel others (rows ++ others) box (sym (split pixel rows others ∙ ap (λ (xs : List Row). xs ++ rows_in pixel others) none)) h
