-- Boxes of rows, and one row more: it has a box of its own, or the last box grows.
use Rattle.std.proofs.Common.{◌≡◌, ◌≢◌, ◌∙◌, ◌++◌, ◌∷◌, [], ◌+◌, ◌-◌, ◌*◌, ◌^◌, ◌<◌, ◌≤◌, ◌==◌, ℕ, List, Bool, false, zero, suc, length, get_or, refl, sym, ap, subst, arith, inl, inr}
use Rattle.std.specs.List.{All, AllPairs, Any, filter, slice_get}
use Rattle.std.proofs.Math.ListN.{set}
use Rattle.std.proofs.lemmas.Bool.{cases_eq, cases_lt, eq-eqb, ne_eqb}
use Rattle.std.proofs.lemmas.List.{get_or_default, get_or-set_other, get_or-set_same, length-set}
use Rattle.std.proofs.lemmas.List.Elements.{All-contains, All-push, All-set, Contains-append_left}
use Rattle.std.proofs.lemmas.List.Quantifiers.{Any-push, all_pairs_push}
use Rattle.std.proofs.lemmas.Option.{slice_get-get_or}
use Rattle.hx_base.specs.Boxes.{BoundingBox, IsBoxOf, IsExtentOf}
use Rattle.hx_base.specs.Pixels.{pixel_of, rows_in}
use Rattle.hx_base.specs.declared.pixel.Pixel.{Pixel}
use Rattle.hx_base.specs.declared.row.Row.{Row}
use Rattle.hx_cover.specs.Bounds.{joined_box}
use Rattle.hx_cover.specs.Collected.{AddsTo, AreUpTo, EndsWith}
use Rattle.hx_cover.specs.CoverBoxes.{IsSound, box_seen, row_box}
use Rattle.hx_cover.specs.Tested.{AreCoverBoxes, IsCoverBox}
use Rattle.hx_cover.specs.TooNear.{AreBoxes}
use Rattle.hx_cover.specs.declared.bounds.CoverBox.{CoverBox}
use Rattle.hx_cover.proofs.Extents.{one_row}
use Rattle.hx_cover.proofs.Joined.{box_before, box_behind, box_joined}

none_pass : (test : Row → Bool) (rows : List Row) → All (λ r. test r ≡ false) rows → filter test rows ≡ []
none_pass test [] h = refl
none_pass test (row ∷ rows) h = rw (h 0 row (omega arith)) (none_pass test rows (λ k d lt. h (suc k) d (omega (arith, lt))))

abbrev pixel_at : ℕ → ℕ → Pixel
pixel_at order number = record { order = order; number = number }

-- a row alone, in its own pixel and in another
own_rows : (order number : ℕ) (row : Row) → number ≡ pixel_of order row.hp → rows_in (pixel_at order number) (row ∷ []) ≡ row ∷ []
own_rows order number row is = rw (eq-eqb (pixel_of order row.hp) number (sym is)) refl

own_box : (order number : ℕ) (row : Row) → number ≡ pixel_of order row.hp → IsBoxOf (pixel_at order number) (row ∷ []) (row_box row)
own_box order number row is =
    let rows = sym (own_rows order number row is) in
    record {
      x = subst (λ (xs : List Row). IsExtentOf (λ r. r.x) xs (row_box row).x) rows (one_row (λ r. r.x) row);
      y = subst (λ (xs : List Row). IsExtentOf (λ r. r.y) xs (row_box row).y) rows (one_row (λ r. r.y) row);
      z = subst (λ (xs : List Row). IsExtentOf (λ r. r.z) xs (row_box row).z) rows (one_row (λ r. r.z) row);
    }

other_box : (order number : ℕ) (before : List Row) (row : Row) (box : BoundingBox) → number ≢ pixel_of order row.hp → IsBoxOf (pixel_at order number) before box → IsBoxOf (pixel_at order number) (before ++ row ∷ []) box
other_box order number before row box off h =
    box_before (pixel_at order number) before (row ∷ []) box (none_pass (λ r. pixel_of order r.hp == number) (row ∷ []) (one_fails (λ r. pixel_of order r.hp == number) row (ne_eqb _ _ (λ e. off (sym e))))) h
  where
    one_fails : (test : Row → Bool) (row : Row) → test row ≡ false → All (λ r. test r ≡ false) (row ∷ [])
    one_fails test row e zero d lt = e
    one_fails test row e (suc k) d lt = absurd (omega (arith, lt))

module _ (order : ℕ) (old : List CoverBox) (row : Row) (one : CoverBox) (is : one.pixel ≡ pixel_of order row.hp) (seen : box_seen one ≡ row_box row) (up_to : AreUpTo (pixel_of order row.hp) old) (cover : AreCoverBoxes order old) where
  abbrev BoxesOf : List Row → CoverBox → Type 0
  BoxesOf rows = λ b. IsBoxOf (pixel_at order b.pixel) rows (box_seen b)

  abbrev HasBox : List CoverBox → Row → Type 0
  HasBox boxes = λ r. Any (λ b. b.pixel ≡ pixel_of order r.hp) boxes

  -- the row's pixel has no box
  all_before : (EndsWith old one.pixel → ⊥) → All (λ b. b.pixel < one.pixel) old
  all_before off = λ k d lt.
      let most = up_to k d lt in
      elim (cases_lt k (length old - 1)) [
        | inl early ↦
            let less = cover.ordered k (length old - 1) d early (omega (arith, lt)) in
            let last = up_to (length old - 1) d (omega (arith, lt)) in
            omega (arith, less, last, is)
        | inr late ↦ elim (cases_eq (get_or old k d).pixel one.pixel) [
          | inl same ↦
              let end : k ≡ length old - 1 = omega (arith, lt, late) in
              absurd (off (record { last = get_or old k d; there = ap (λ (n : ℕ). slice_get old n) (sym end) ∙ slice_get-get_or old k d lt; same = same }))
          | inr other ↦ omega (arith, most, other, is)
        ]
      ]

  module _ (off : EndsWith old one.pixel → ⊥) where
    pub pushed_cover : IsSound one → one.pixel < 12 * 4 ^ order → AreCoverBoxes order (old ++ one ∷ [])
    pushed_cover sound exists = record {
      each = All-push (IsCoverBox order) old one cover.each (record { sound = sound; pixel = exists });
      ordered = all_pairs_push (λ a b. a.pixel < b.pixel) old one cover.ordered (all_before off);
    }

    pub pushed_up_to : AreUpTo (pixel_of order row.hp) (old ++ one ∷ [])
    pushed_up_to = All-push (λ b. b.pixel ≤ pixel_of order row.hp) old one up_to (omega (arith, is))

    no_rows : (before : List Row) → AreBoxes order before old → rows_in (pixel_at order one.pixel) before ≡ []
    no_rows before h = none_pass _ before (λ k d lt.
        let any = h.all k d lt in
        let less = All-contains (λ b. b.pixel < one.pixel) old any.1 (all_before off) (any.0, any.2, any.3) in
        ne_eqb _ _ (λ e. let same = any.4 in absurd (omega (arith, less, same, e))))

    pub pushed_boxes : AddsTo order old (row ∷ []) (old ++ one ∷ [])
    pushed_boxes = λ before h.
        let own : IsBoxOf (pixel_at order one.pixel) (before ++ row ∷ []) (box_seen one) =
        subst (λ (box : BoundingBox). IsBoxOf (pixel_at order one.pixel) (before ++ row ∷ []) box) (sym seen)
        (box_behind (pixel_at order one.pixel) before (row ∷ []) (row_box row) (no_rows before h) (own_box order one.pixel row is)) in
        record {
          each = All-push (BoxesOf (before ++ row ∷ [])) old one
              (λ k d lt. let less = all_before off k d lt in other_box order (get_or old k d).pixel before row (box_seen (get_or old k d)) (λ e. absurd (omega (arith, less, e, is))) (h.each k d lt))
              own;
          all = All-push (HasBox (old ++ one ∷ [])) before row
              (λ k d lt. any_behind (λ b. b.pixel ≡ pixel_of order (get_or before k d).hp) (h.all k d lt))
              (Any-push (λ b. b.pixel ≡ pixel_of order row.hp) old one is);
          ordered = all_pairs_push (λ a b. a.pixel < b.pixel) old one cover.ordered (all_before off);
        }
      where
        any_behind : (P : CoverBox → Type 0) → Any P old → Any P (old ++ one ∷ [])
        any_behind P h = let there = Contains-append_left old (one ∷ []) h.1 (h.0, h.2, h.3) in (there.0, h.1, there.1, there.2, h.4)

  -- the last box is that of the row's pixel
  module _ (last wide : CoverBox) (n : ℕ) (end : n + 1 ≡ length old) (there : get_or old n last ≡ last) (same : last.pixel ≡ one.pixel) (kept : wide.pixel ≡ last.pixel) (joined : box_seen wide ≡ joined_box (box_seen last) (box_seen one)) where
    within : n < length old
    within = omega (arith, end)

    set_at : (k : ℕ) (d : CoverBox) → k ≡ n → get_or (set old n wide) k d ≡ wide
    set_at k d e = ap (λ (i : ℕ). get_or (set old n wide) i d) e ∙ get_or-set_same old n wide d within

    last_at : (k : ℕ) (d : CoverBox) → k ≡ n → get_or old k d ≡ last
    last_at k d e = ap (λ (i : ℕ). get_or old i d) e ∙ get_or_default old n d last within ∙ there

    pixel_kept : (k : ℕ) (d : CoverBox) → (get_or (set old n wide) k d).pixel ≡ (get_or old k d).pixel
    pixel_kept k d =
        elim (cases_eq k n) [
          | inl e ↦ ap (λ (b : CoverBox). b.pixel) (set_at k d e) ∙ kept ∙ ap (λ (b : CoverBox). b.pixel) (sym (last_at k d e))
          | inr off ↦ ap (λ (b : CoverBox). b.pixel) (get_or-set_other old n k wide d off)
        ]

    set_ordered : AllPairs (λ a b. a.pixel < b.pixel) (set old n wide)
    set_ordered = λ i j d less lt.
        let size = length-set old n wide in
        let up = cover.ordered i j d less (omega (arith, lt, size)) in
        omega (arith, up, pixel_kept i d, pixel_kept j d)

    pub set_cover : IsSound wide → AreCoverBoxes order (set old n wide)
    set_cover sound =
        let was = All-contains (IsCoverBox order) old last cover.each (n, within, there) in
        let exists = was.pixel in
        record { each = All-set (IsCoverBox order) old n wide (record { sound = sound; pixel = omega (arith, exists, kept) }) cover.each; ordered = set_ordered }

    pub set_up_to : AreUpTo (pixel_of order row.hp) (set old n wide)
    set_up_to = λ k d lt.
        let size = length-set old n wide in
        let most = up_to k d (omega (arith, lt, size)) in
        omega (arith, most, pixel_kept k d)

    wide_box : (before : List Row) → AreBoxes order before old → IsBoxOf (pixel_at order wide.pixel) (before ++ row ∷ []) (box_seen wide)
    wide_box before h =
        let was = All-contains (BoxesOf before) old last h.each (n, within, there) in
        let grown = box_joined (pixel_at order last.pixel) before (row ∷ []) (box_seen last) (row_box row) was (own_box order last.pixel row (same ∙ is)) in
        let box : box_seen wide ≡ joined_box (box_seen last) (row_box row) = joined ∙ ap (λ (b : BoundingBox). joined_box (box_seen last) b) seen in
        subst (λ (b : BoundingBox). IsBoxOf (pixel_at order wide.pixel) (before ++ row ∷ []) b) (sym box)
        (subst (λ (number : ℕ). IsBoxOf (pixel_at order number) (before ++ row ∷ []) (joined_box (box_seen last) (row_box row))) (sym kept) grown)

    any_set : (number : ℕ) → Any (λ b. b.pixel ≡ number) old → Any (λ b. b.pixel ≡ number) (set old n wide)
    any_set number h =
        let size = length-set old n wide in
        let lt = h.2 in
        let inside : h.0 < length (set old n wide) = omega (arith, lt, size) in
        let b = get_or (set old n wide) h.0 h.1 in
        (h.0, b, inside, sym (get_or_default (set old n wide) h.0 h.1 b inside), pixel_kept h.0 h.1 ∙ ap (λ (b : CoverBox). b.pixel) h.3 ∙ h.4)

    pub set_boxes : AddsTo order old (row ∷ []) (set old n wide)
    set_boxes = λ before h. record {
      each = λ k d lt.
          let size = length-set old n wide in
          let inside : k < length old = omega (arith, lt, size) in
          elim (cases_eq k n) [
            | inl e ↦ subst (BoxesOf (before ++ row ∷ [])) (sym (set_at k d e)) (wide_box before h)
            | inr off ↦
                let less = cover.ordered k n d (omega (arith, off, inside, end)) within in
                let behind = ap (λ (b : CoverBox). b.pixel) (last_at n d refl) in
                subst (BoxesOf (before ++ row ∷ [])) (sym (get_or-set_other old n k wide d off))
                (other_box order (get_or old k d).pixel before row (box_seen (get_or old k d)) (λ e. absurd (omega (arith, less, behind, same, is, e))) (h.each k d inside))
          ];
      all = All-push (HasBox (set old n wide)) before row
          (λ k d lt. any_set (pixel_of order (get_or before k d).hp) (h.all k d lt))
          (any_set (pixel_of order row.hp) (n, last, within, there, same ∙ is));
      ordered = set_ordered;
    }
