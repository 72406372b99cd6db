-- The boxes of the rows of files, one file after another.
use Rattle.std.proofs.Common.{◌≡◌, ◌≤◌, ◌<◌, ◌-◌, ◌/◌, ◌^◌, [], ℕ, List, true, get_or, Contains, Some, filter, ◌==◌, sym, subst, arith}
use Rattle.std.specs.Prelude.{slice_get}
use Rattle.std.specs.List.{All, Any}
use Rattle.std.proofs.lemmas.List.Elements.{All-contains, All-nil, All-weaker, filter_passes}
use Rattle.std.proofs.lemmas.Option.{get_or_from_slice_get, slice_get_within}
use Rattle.std.proofs.lemmas.Bool.Decides.{Decides-eqb}
use Rattle.std.proofs.lemmas.Nat.{le-div}
use Rattle.std.proofs.Math.Nat.{div-mul-le_self}
use Rattle.hx_base.specs.Boxes.{IsBoxOf}
use Rattle.hx_base.specs.Pixels.{AreDisjointInOrder, PixelContains, end_position, first_position, pixel_of}
use Rattle.hx_base.specs.declared.pixel.Pixel.{Pixel}
use Rattle.hx_base.specs.declared.row.Row.{Row}
use Rattle.hx_base.proofs.Powers.{four_pos}
use Rattle.hx_base.proofs.Ranges.{ascend, holds_range}
use Rattle.hx_cover.specs.Collected.{AreUpTo}
use Rattle.hx_cover.specs.CoverBoxes.{box_seen}
use Rattle.hx_cover.specs.Tested.{AreCoverBoxes, IsCoverBox}
use Rattle.hx_cover.specs.TooNear.{AreBoxes}
use Rattle.hx_cover.specs.declared.bounds.CoverBox.{CoverBox}
use Rattle.hx_xmatch.proofs.Reading.{kept}

-- no row is behind a position
abbrev pub AreBefore : ℕ → List Row → Type 0
AreBefore position rows = All (λ row. row.hp < position) rows

-- a position's pixel isn't before that of an earlier position
pub pixels_ascend : (order a b : ℕ) → a ≤ b → pixel_of order a ≤ pixel_of order b
unfolding pixel_of
pixels_ascend order a b le =
    le-div (a / 4 ^ (29 - order)) b (4 ^ (29 - order)) (four_pos (29 - order)) (omega (arith, div-mul-le_self a (4 ^ (29 - order)), le))

-- a pixel that has a box has a row
in_its_pixel : (order : ℕ) (rows : List Row) (seen : CoverBox) → IsBoxOf (record { order = order; number = seen.pixel }) rows (box_seen seen)
    → (row : Row) × Contains rows row × (pixel_of order row.hp ≡ seen.pixel)
in_its_pixel order rows seen box =
    let (k, row, within, is, low) = box.x.lowest in
    let test = λ (r : Row). pixel_of order r.hp == seen.pixel in
    let member : Contains (filter test rows) row = (k, within, is) in
    (row, kept test rows row member, (Decides-eqb (pixel_of order row.hp) seen.pixel).0 (All-contains (λ (r : Row). test r ≡ true) (filter test rows) row (filter_passes test rows) member))

-- boxes of rows that are all before a position are of no pixel behind its
pub boxes_up_to : (order : ℕ) (rows : List Row) (boxes : List CoverBox) (position : ℕ) → AreBoxes order rows boxes → AreBefore position rows → AreUpTo (pixel_of order position) boxes
boxes_up_to order rows boxes position are before =
    All-weaker (λ (seen : CoverBox). IsBoxOf (record { order = order; number = seen.pixel }) rows (box_seen seen)) (λ (seen : CoverBox). seen.pixel ≤ pixel_of order position)
    (λ seen box.
    let (row, member, is) = in_its_pixel order rows seen box in
    let early : row.hp < position = All-contains (λ (r : Row). r.hp < position) rows row before member in
    omega (arith, is, pixels_ascend order row.hp position (omega (arith, early))))
    boxes are.each

-- rows of a partition are not before it, and before each later partition
pub rows_behind : (pixel : Pixel) (rows : List Row) → All (PixelContains pixel) rows → All (λ row. first_position pixel ≤ row.hp) rows
rows_behind pixel rows inside = All-weaker (PixelContains pixel) (λ (row : Row). first_position pixel ≤ row.hp) (λ row holds. ((holds_range pixel row.hp).0 holds).0) rows inside

pub rows_before : (parts : List Pixel) (i j : ℕ) (pixel later : Pixel) (rows : List Row) → AreDisjointInOrder parts → i < j → slice_get parts i ≡ Some pixel → slice_get parts j ≡ Some later
    → All (PixelContains pixel) rows → AreBefore (first_position later) rows
rows_before parts i j pixel later rows apart less at_i at_j inside =
    let ends : end_position (get_or parts i pixel) ≤ first_position (get_or parts j pixel) = ascend parts apart i j pixel less (slice_get_within parts j later at_j) in
    let is_pixel = get_or_from_slice_get parts i pixel pixel at_i in
    let is_later = get_or_from_slice_get parts j later pixel at_j in
    let le : end_position pixel ≤ first_position later = subst (λ (p : Pixel). end_position pixel ≤ first_position p) is_later (subst (λ (p : Pixel). end_position p ≤ first_position (get_or parts j pixel)) is_pixel ends) in
    All-weaker (PixelContains pixel) (λ (row : Row). row.hp < first_position later) (λ row holds. let lt = ((holds_range pixel row.hp).0 holds).1 in omega (arith, lt, le)) rows inside

-- no box is behind any of the rows of the next partition
pub next_behind : (order : ℕ) (pixel : Pixel) (rows file : List Row) (boxes : List CoverBox) → AreBoxes order rows boxes → AreBefore (first_position pixel) rows → All (PixelContains pixel) file
    → All (λ row. AreUpTo (pixel_of order row.hp) boxes) file
next_behind order pixel rows file boxes are before inside =
    let up = boxes_up_to order rows boxes (first_position pixel) are before in
    All-weaker (λ (row : Row). first_position pixel ≤ row.hp) (λ (row : Row). AreUpTo (pixel_of order row.hp) boxes)
    (λ row from. All-weaker (λ (seen : CoverBox). seen.pixel ≤ pixel_of order (first_position pixel)) (λ (seen : CoverBox). seen.pixel ≤ pixel_of order row.hp) (λ seen le. omega (arith, le, pixels_ascend order (first_position pixel) row.hp from)) boxes up)
    file (rows_behind pixel file inside)

-- before the first row
pub no_cover : (order : ℕ) (boxes : List CoverBox) → boxes ≡ [] → AreCoverBoxes order boxes
no_cover order boxes none = subst (AreCoverBoxes order) (sym none) (record { each = All-nil (IsCoverBox order); ordered = λ i j d less within. absurd (omega (arith, within)) })

pub no_boxes : (order : ℕ) (boxes : List CoverBox) → boxes ≡ [] → AreBoxes order [] boxes
no_boxes order boxes none =
    subst (AreBoxes order []) (sym none) (record {
      each = All-nil (λ (seen : CoverBox). IsBoxOf (record { order = order; number = seen.pixel }) [] (box_seen seen));
      all = All-nil (λ (row : Row). Any (λ (seen : CoverBox). seen.pixel ≡ pixel_of order row.hp) []);
      ordered = λ i j d less within. absurd (omega (arith, within));
    })

pub no_pixel : Pixel
no_pixel = record { order = 0; number = 0 }
