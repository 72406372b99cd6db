-- A pixel that contains rows has exactly one box.
use Rattle.std.proofs.Common.{◌≡◌, ◌∙◌, ◌∷◌, ◌<◌, [], ℤ, List, suc, length, refl, ap, arith}
use Rattle.std.specs.Prelude.{◌≤ℤ◌}
use Rattle.std.specs.List.{All, Any, Contains}
use Rattle.std.proofs.lemmas.Int.{by_lt_z, ints}
use Rattle.std.proofs.lemmas.List.Elements.{All-cons, All-contains, All-nil, All-weaker}
use Rattle.hx_base.specs.declared.pixel.Pixel.{Pixel}
use Rattle.hx_base.specs.declared.row.Row.{Row}
use Rattle.hx_base.specs.Boxes.{BoundingBox, Extent, IsBoxOf, IsExtentOf}
use Rattle.hx_base.specs.Pixels.{PixelContains, rows_in}
use Rattle.hx_cover.specs.Bounds.{IsWithin}
use Rattle.hx_cover.proofs.Members.{row_is_in}

any_later : (P : Row → Type 0) (y : Row) (rows : List Row) → Any P rows → Any P (y ∷ rows)
any_later P y rows h = (suc h.0, h.1, omega (arith, h.2), h.3, h.4)

any_first : (P : Row → Type 0) (y : Row) (rows : List Row) → P y → Any P (y ∷ rows)
any_first P y rows h = (0, y, omega arith, refl, h)

any_member : (P : Row → Type 0) (rows : List Row) (Q : Row → Type 0) → All Q rows → Any P rows → (row : Row) × P row × Q row
any_member P rows Q all h = (h.1, h.4, All-contains Q rows h.1 all (h.0, h.2, h.3))

module _ (f : Row → ℤ) where
  abbrev Bounds : ℤ → ℤ → Row → Type 0
  Bounds low high row = (low ≤ℤ f row) × (f row ≤ℤ high)

  pub one_row : (row : Row) → IsExtentOf f (row ∷ []) (record { low = f row; high = f row })
  one_row row = record {
    lowest = any_first (λ r. f r ≡ f row) row [] refl;
    highest = any_first (λ r. f r ≡ f row) row [] refl;
    within = All-cons (Bounds (f row) (f row)) row [] (omega (arith, ints), omega (arith, ints)) (All-nil (Bounds (f row) (f row)));
  }

  -- the lesser of two, and the greater
  abbrev Lower : Row → List Row → Type 0
  Lower row rows = (low : ℤ) × Any (λ r. f r ≡ low) (row ∷ rows) × (low ≤ℤ f row) × All (λ r. low ≤ℤ f r) rows

  abbrev Upper : Row → List Row → Type 0
  Upper row rows = (high : ℤ) × Any (λ r. f r ≡ high) (row ∷ rows) × (f row ≤ℤ high) × All (λ r. f r ≤ℤ high) rows

  lower : (row : Row) (rows : List Row) (e : Extent) → IsExtentOf f rows e → Lower row rows
  lower row rows e h =
      by_lt_z (f row) e.low
      (λ below. (f row, any_first (λ r. f r ≡ f row) row rows refl, omega (arith, ints), All-weaker (Bounds e.low e.high) (λ r. f row ≤ℤ f r) (λ r b. let lo = b.0 in omega (arith, ints)) rows h.within))
      (λ above. (e.low, any_later (λ r. f r ≡ e.low) row rows h.lowest, above, All-weaker (Bounds e.low e.high) (λ r. e.low ≤ℤ f r) (λ r b. b.0) rows h.within))

  upper : (row : Row) (rows : List Row) (e : Extent) → IsExtentOf f rows e → Upper row rows
  upper row rows e h =
      by_lt_z e.high (f row)
      (λ above. (f row, any_first (λ r. f r ≡ f row) row rows refl, omega (arith, ints), All-weaker (Bounds e.low e.high) (λ r. f r ≤ℤ f row) (λ r b. let hi = b.1 in omega (arith, ints)) rows h.within))
      (λ below. (e.high, any_later (λ r. f r ≡ e.high) row rows h.highest, below, All-weaker (Bounds e.low e.high) (λ r. f r ≤ℤ e.high) (λ r b. b.1) rows h.within))

  more_rows : (row : Row) (rows : List Row) (e : Extent) → IsExtentOf f rows e → (d : Extent) × IsExtentOf f (row ∷ rows) d
  more_rows row rows e h =
      let lo = lower row rows e h in
      let hi = upper row rows e h in (
        record { low = lo.0; high = hi.0 },
        record {
          lowest = lo.1;
          highest = hi.1;
          within = All-cons (Bounds lo.0 hi.0) row rows (lo.2, hi.2) (λ k d lt. (lo.3 k d lt, hi.3 k d lt));
        },
      )

  pub extent_of : (rows : List Row) → 0 < length rows → (e : Extent) × IsExtentOf f rows e
  extent_of [] some = absurd (omega (arith, some))
  extent_of (row ∷ []) some = (record { low = f row; high = f row }, one_row row)
  extent_of (row ∷ next ∷ rows) some = let rest = extent_of (next ∷ rows) (omega arith) in more_rows row (next ∷ rows) rest.0 rest.1

  pub extent_one : (rows : List Row) (d e : Extent) → IsExtentOf f rows d → IsExtentOf f rows e → d ≡ e
  extent_one rows d e hd he =
      let l1 = any_member (λ r. f r ≡ d.low) rows (Bounds e.low e.high) he.within hd.lowest in
      let l2 = any_member (λ r. f r ≡ e.low) rows (Bounds d.low d.high) hd.within he.lowest in
      let h1 = any_member (λ r. f r ≡ d.high) rows (Bounds e.low e.high) he.within hd.highest in
      let h2 = any_member (λ r. f r ≡ e.high) rows (Bounds d.low d.high) hd.within he.highest in
      let low : d.low ≡ e.low = omega (arith, ints, l1.1, l1.2.0, l2.1, l2.2.0) in
      let high : d.high ≡ e.high = omega (arith, ints, h1.1, h1.2.1, h2.1, h2.2.1) in
      let made : ℤ → ℤ → Extent = λ l h. record { low = l; high = h } in
      ap (λ (l : ℤ). made l d.high) low ∙ ap (λ (h : ℤ). made e.low h) high

pub box_of : (pixel : Pixel) (rows : List Row) → 0 < length (rows_in pixel rows) → (box : BoundingBox) × IsBoxOf pixel rows box
box_of pixel rows some =
    let x = extent_of (λ row. row.x) (rows_in pixel rows) some in
    let y = extent_of (λ row. row.y) (rows_in pixel rows) some in
    let z = extent_of (λ row. row.z) (rows_in pixel rows) some in
    (record { x = x.0; y = y.0; z = z.0 }, record { x = x.1; y = y.1; z = z.1 })

pub one_box : (pixel : Pixel) (rows : List Row) (a b : BoundingBox) → IsBoxOf pixel rows a → IsBoxOf pixel rows b → a ≡ b
one_box pixel rows a b ha hb =
    let x = extent_one (λ row. row.x) (rows_in pixel rows) a.x b.x ha.x hb.x in
    let y = extent_one (λ row. row.y) (rows_in pixel rows) a.y b.y ha.y hb.y in
    let z = extent_one (λ row. row.z) (rows_in pixel rows) a.z b.z ha.z hb.z in
    let made : Extent → Extent → Extent → BoundingBox = λ p q r. record { x = p; y = q; z = r } in
    ap (λ (p : Extent). made p a.y a.z) x ∙ (ap (λ (q : Extent). made b.x q a.z) y ∙ ap (λ (r : Extent). made b.x b.y r) z)

-- a row that the pixel contains lies in its box
pub in_its_box : (pixel : Pixel) (rows : List Row) (box : BoundingBox) (row : Row) → IsBoxOf pixel rows box → Contains rows row → PixelContains pixel row → IsWithin box row
in_its_box pixel rows box row h member holds =
    let there = row_is_in pixel rows row member holds in
    let x = All-contains (Bounds (λ r. r.x) box.x.low box.x.high) (rows_in pixel rows) row h.x.within there in
    let y = All-contains (Bounds (λ r. r.y) box.y.low box.y.high) (rows_in pixel rows) row h.y.within there in
    let z = All-contains (Bounds (λ r. r.z) box.z.low box.z.high) (rows_in pixel rows) row h.z.within there in
    record { x = record { low = x.0; high = x.1 }; y = record { low = y.0; high = y.1 }; z = record { low = z.0; high = z.1 } }
