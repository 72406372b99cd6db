-- Sorted rows, added one after another to the boxes of those before them.
use Rattle.std.proofs.Common.{◌≡◌, ◌∙◌, ◌++◌, ◌∷◌, [], ◌+◌, ◌-◌, ◌^◌, ◌<◌, ◌≤◌, ℕ, List, false, length, get_or, take, take-suc, take_all, add-one, append-nil, refl, sym, ap, subst, arith}
use Rattle.std.specs.Ordering.{is_lt, ordering_then}
use Rattle.std.specs.declared.cmp.Ordering.{Ordering}
use Rattle.std.specs.declared.cmp.Ordering.TheVariants.{Less, Equal, Greater}
use Rattle.std.specs.List.{All}
use Rattle.std.specs.List.Sorted.{IsSorted}
use Rattle.std.proofs.lemmas.List.{append_assoc, get_or_default}
use Rattle.std.proofs.lemmas.List.Elements.{All-nil}
use Rattle.std.proofs.lemmas.Map.Keys.{ge_from_not_lt}
use Rattle.hx_base.specs.Pixels.{pixel_of}
use Rattle.hx_base.specs.Rows.{row_cmp}
use Rattle.hx_base.specs.declared.row.Row.{Row}
use Rattle.hx_base.proofs.Powers.{four_pos}
use Rattle.hx_cover.specs.Collected.{AddsTo, AreUpTo}
use Rattle.hx_cover.specs.Tested.{AreCoverBoxes}
use Rattle.hx_cover.specs.TooNear.{AreBoxes}
use Rattle.hx_cover.specs.declared.bounds.CoverBox.{CoverBox}
use Rattle.hx_cover.proofs.Walks.{div_up}

first_not_less : (o p : Ordering) → is_lt (ordering_then o p) ≡ false → is_lt o ≡ false
first_not_less Less p h = h
first_not_less Equal p h = refl
first_not_less Greater p h = refl

-- pixels of sorted rows don't descend
pixels_ascend : (order : ℕ) (a b : Row) → is_lt (row_cmp b a) ≡ false → pixel_of order a.hp ≤ pixel_of order b.hp
unfolding pixel_of
pixels_ascend order a b h = div_up (4 ^ (29 - order)) a.hp b.hp (four_pos (29 - order)) (ge_from_not_lt b.hp a.hp (first_not_less _ _ h))

-- boxes with the first i rows added: the next row isn't in a pixel before the last box's
pub record AreAdded (order : ℕ) (old : List CoverBox) (rows : List Row) (i : ℕ) (boxes : List CoverBox) : Type 0 where
  pub cover : AreCoverBoxes order boxes
  pub behind : (d : Row) → i < length rows → AreUpTo (pixel_of order (get_or rows i d).hp) boxes
  pub added : AddsTo order old (take i rows) boxes

pub none_added : (order : ℕ) (old : List CoverBox) (rows : List Row) → AreCoverBoxes order old → All (λ row. AreUpTo (pixel_of order row.hp) old) rows → AreAdded order old rows 0 old
none_added order old rows cover behind = record {
  cover = cover;
  behind = λ d lt. behind 0 d lt;
  added = λ before h. subst (λ (xs : List Row). AreBoxes order xs old) (sym (append-nil before)) h;
}

pub one_added : (order : ℕ) (old boxes after : List CoverBox) (rows : List Row) (i : ℕ) (row : Row) → IsSorted row_cmp rows → AreAdded order old rows i boxes → i < length rows → get_or rows i row ≡ row
    → AreCoverBoxes order after → AreUpTo (pixel_of order row.hp) after → AddsTo order boxes (row ∷ []) after → AreAdded order old rows (i + 1) after
one_added order old boxes after rows i row up so_far within is cover up_to adds = record {
  cover = cover;
  behind = λ d lt k e less.
      let low = up_to k e less in
      let here : is_lt (row_cmp (get_or rows (i + 1) row) row) ≡ false = subst (λ (r : Row). is_lt (row_cmp (get_or rows (i + 1) row) r) ≡ false) is (up i row (omega arith) lt) in
      let high = pixels_ascend order row (get_or rows (i + 1) row) here in
      subst (λ (r : Row). (get_or after k e).pixel ≤ pixel_of order r.hp) (get_or_default rows (i + 1) row d lt) (omega (arith, low, high));
  added = λ before h.
      let one = adds (before ++ take i rows) (so_far.added before h) in
      let more : take (i + 1) rows ≡ take i rows ++ row ∷ [] = ap (λ (n : ℕ). take n rows) (add-one i) ∙ take-suc rows i row within ∙ ap (λ (r : Row). take i rows ++ r ∷ []) is in
      let whole : (before ++ take i rows) ++ row ∷ [] ≡ before ++ take (i + 1) rows = append_assoc before (take i rows) (row ∷ []) ∙ ap (λ (xs : List Row). before ++ xs) (sym more) in
      subst (λ (xs : List Row). AreBoxes order xs after) whole one;
}

pub all_added : (order : ℕ) (old boxes : List CoverBox) (rows : List Row) (i : ℕ) → AreAdded order old rows i boxes → length rows ≤ i → AddsTo order old rows boxes
all_added order old boxes rows i h past = λ before boxed.
    subst (λ (xs : List Row). AreBoxes order (before ++ xs) boxes) (take_all i rows past) (h.added before boxed)

-- no rows have no boxes
pub nothing : (order : ℕ) → AreBoxes order [] []
nothing order = record { each = All-nil _; all = All-nil _; ordered = λ i j d less lt. absurd (omega (arith, lt)) }
