-- The range of a pixel's positions, and what it tells of two pixels.
use Rattle.std.proofs.Common.{◌≡◌, ◌*◌, ◌^◌, ◌-◌, ◌+◌, ◌<◌, ◌≤◌, ◌↔◌, inl, inr, ℕ, List, zero, suc, get_or, leb, length, ltb, sym, ◌∙◌, arith}
use Rattle.std.specs.List.{All, AllPairs}
use Rattle.std.proofs.lemmas.Bool.{cases_lt, le-leb, lt-leb}
use Rattle.std.proofs.Math.Nat.{le-div_iff_mul-le}
use Rattle.hx_base.specs.declared.pixel.Pixel.{Pixel}
use Rattle.hx_base.specs.Pixels.{AreDisjoint, AreDisjointInOrder, HoldsPosition, IsPixel, end_position, first_position, pixel_of}
use Rattle.hx_base.proofs.Powers.{children_end, four_pos}

pub ends_by : (pixel : Pixel) (position : ℕ) → (pixel.number < pixel_of pixel.order position) ↔ (end_position pixel ≤ position)
unfolding pixel_of
ends_by pixel position =
    let h = le-div_iff_mul-le {k = 4 ^ (29 - pixel.order)} {x = pixel.number + 1} {y = position} (four_pos (29 - pixel.order)) in
    (λ lt. h.0 (omega arith), λ le. let at = h.1 le in omega (arith, at))

pub begins_by : (pixel : Pixel) (position : ℕ) → (pixel.number ≤ pixel_of pixel.order position) ↔ (first_position pixel ≤ position)
unfolding pixel_of
begins_by pixel position = le-div_iff_mul-le {k = 4 ^ (29 - pixel.order)} {x = pixel.number} {y = position} (four_pos (29 - pixel.order))

-- the same as the code tells them
alike : (a b c d : ℕ) → (a ≤ b) ↔ (c ≤ d) → leb a b ≡ leb c d
alike a b c d same =
    elim (cases_lt b a) [
      | inl above ↦ lt-leb a b above ∙ sym (lt-leb c d (elim (cases_lt d c) [ inl past ↦ past | inr le ↦ absurd (let back = same.1 le in omega arith) ]))
      | inr le ↦ le-leb a b le ∙ sym (le-leb c d (same.0 le))
    ]

pub ends_by_told : (pixel : Pixel) (position : ℕ) → ltb pixel.number (pixel_of pixel.order position) ≡ leb (end_position pixel) position
ends_by_told pixel position = alike (suc pixel.number) (pixel_of pixel.order position) (end_position pixel) position (ends_by pixel position)

pub begins_by_told : (pixel : Pixel) (position : ℕ) → leb pixel.number (pixel_of pixel.order position) ≡ leb (first_position pixel) position
begins_by_told pixel position = alike pixel.number (pixel_of pixel.order position) (first_position pixel) position (begins_by pixel position)

pub ends_after : (pixel : Pixel) (position : ℕ) → pixel_of pixel.order position ≤ pixel.number → position < end_position pixel
ends_after pixel position le =
    elim (cases_lt position (end_position pixel)) [
      | inl after ↦ after
      | inr by ↦ absurd (let lt = (ends_by pixel position).1 by in omega (arith, le, lt))
    ]

pub begins_after : (pixel : Pixel) (position : ℕ) → pixel_of pixel.order position < pixel.number → position < first_position pixel
begins_after pixel position lt =
    elim (cases_lt position (first_position pixel)) [
      | inl after ↦ after
      | inr by ↦ absurd (let le = (begins_by pixel position).1 by in omega (arith, le, lt))
    ]

pub holds_range : (pixel : Pixel) (position : ℕ) → HoldsPosition pixel position ↔ ((first_position pixel ≤ position) × (position < end_position pixel))
holds_range pixel position =
    let ends = ends_by pixel position in
    let begins = begins_by pixel position in (
      λ h. (begins.0 (omega (arith, h)), ends_after pixel position (omega (arith, h))),
      λ h.
          let low = begins.1 h.0 in
          elim (cases_lt pixel.number (pixel_of pixel.order position)) [
            | inl past ↦ absurd (let le = ends.0 past in omega (arith, h.1, le))
            | inr at ↦ omega arith
          ],
    )

pub some_range : (pixel : Pixel) → first_position pixel < end_position pixel
some_range pixel =
    let some = four_pos (29 - pixel.order) in
    grind arith

pub range_within : (pixel : Pixel) → IsPixel pixel → end_position pixel ≤ 12 * 4 ^ 29
range_within pixel exists = children_end pixel.number pixel.order 29 exists.order (omega arith) exists.number

pub first_held : (pixel : Pixel) → HoldsPosition pixel (first_position pixel)
first_held pixel = (holds_range pixel (first_position pixel)).1 (omega arith, some_range pixel)

-- of disjoint pixels the one that begins first ends before the other begins
pub ends_first : (a b : Pixel) → first_position a < first_position b → AreDisjoint a b → end_position a ≤ first_position b
ends_first a b lt apart =
    elim (cases_lt (first_position b) (end_position a)) [
      | inl inside ↦ absurd (apart (first_position b) ((holds_range a (first_position b)).1 (omega arith, inside)) (first_held b))
      | inr past ↦ past
    ]

-- existing pixels whose ranges ascend are disjoint
pub disjoint_where_ascending : (pixels : List Pixel) → All IsPixel pixels → AllPairs (λ a b. end_position a ≤ first_position b) pixels → AreDisjointInOrder pixels
disjoint_where_ascending pixels each up = record {
  each = each;
  disjoint = λ i j d lt within position holds_first holds_second.
      let first = (holds_range (get_or pixels i d) position).0 holds_first in
      let second = (holds_range (get_or pixels j d) position).0 holds_second in
      omega (arith, up i j d lt within, first.1, second.0);
  ordered = λ i j d lt within. omega (arith, up i j d lt within, some_range (get_or pixels i d));
}

pub ascend : (pixels : List Pixel) → AreDisjointInOrder pixels → AllPairs (λ a b. end_position a ≤ first_position b) pixels
ascend pixels h = λ i j d lt within. ends_first (get_or pixels i d) (get_or pixels j d) (h.ordered i j d lt within) (h.disjoint i j d lt within)

-- where each of the first pixels ends before the next one, it ends before all later ones
abbrev pub EachEndsFirst : List Pixel → ℕ → Type 0
EachEndsFirst pixels count = (k : ℕ) (d : Pixel) → k + 1 < count → end_position (get_or pixels k d) ≤ first_position (get_or pixels (k + 1) d)

later_pixel : (pixels : List Pixel) (count i n : ℕ) (d : Pixel) → EachEndsFirst pixels count → i + 1 + n < count → end_position (get_or pixels i d) ≤ first_position (get_or pixels (i + 1 + n) d)
later_pixel pixels count i zero d h within =
    let e : i + 1 + 0 ≡ i + 1 = omega arith in
    rw e (h i d (omega (arith, within)))
later_pixel pixels count i (suc n) d h within =
    let before = later_pixel pixels count i n d h (omega (arith, within)) in
    let e : i + 1 + suc n ≡ i + 1 + n + 1 = omega arith in
    let next = h (i + 1 + n) d (omega (arith, within)) in
    rw e (omega (arith, before, next, some_range (get_or pixels (i + 1 + n) d)))

pub all_end_first : (pixels : List Pixel) → EachEndsFirst pixels (length pixels) → AllPairs (λ a b. end_position a ≤ first_position b) pixels
all_end_first pixels h = λ i j d lt within.
    let e : j ≡ i + 1 + (j - i - 1) = omega arith in
    rw e (later_pixel pixels (length pixels) i (j - i - 1) d h (omega (arith, within)))
