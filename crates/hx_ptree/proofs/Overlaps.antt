-- Pixels overlap exactly where their ranges of positions do.
use Rattle.std.proofs.Common.{◌^◌, ◌-◌, ◌∙◌, ◌/◌, ◌<◌, ◌≤◌, inl, inr, ℕ, sym, ap, arith}
use Rattle.std.proofs.lemmas.Bool.{cases_lt}
use Rattle.hx_base.specs.declared.pixel.Pixel.{Pixel}
use Rattle.hx_base.specs.Pixels.{HoldsPosition, IsPixel, LiesIn, end_position, first_position, pixel_of}
use Rattle.hx_base.proofs.Partitions.{holds_outer, up_again}
use Rattle.hx_base.proofs.Ranges.{first_held, holds_range, some_range}
use Rattle.hx_ptree.specs.Searches.{Overlaps}

-- two pixels that hold a position overlap
lies_in_holder : (inner outer : Pixel) (position : ℕ) → inner.order ≤ 29 → outer.order ≤ inner.order → HoldsPosition inner position → HoldsPosition outer position → LiesIn inner outer
unfolding pixel_of
lies_in_holder inner outer position within order inner_holds outer_holds = record {
  order = order;
  number = ap (λ (n : ℕ). n / 4 ^ (inner.order - outer.order)) (sym inner_holds) ∙ up_again 29 inner.order outer.order position order within ∙ outer_holds;
}

both_hold : (a b : Pixel) (position : ℕ) → IsPixel a → IsPixel b → HoldsPosition a position → HoldsPosition b position → Overlaps a b
both_hold a b position is_a is_b holds_a holds_b =
    elim (cases_lt a.order b.order) [
      | inl coarser ↦ inr (lies_in_holder b a position is_b.order (omega arith) holds_b holds_a)
      | inr finer ↦ inl (lies_in_holder a b position is_a.order finer holds_a holds_b)
    ]

-- pixels overlap exactly where their ranges do
pub ranges_meet : (a b : Pixel) → IsPixel a → IsPixel b → Overlaps a b → (first_position a < end_position b) × (first_position b < end_position a)
ranges_meet a b is_a is_b (inl inside) =
    let at = (holds_range b (first_position a)).0 (holds_outer a b (first_position a) is_a.order inside (first_held a)) in
    (at.1, omega (arith, at.0, some_range a))
ranges_meet a b is_a is_b (inr inside) =
    let at = (holds_range a (first_position b)).0 (holds_outer b a (first_position b) is_b.order inside (first_held b)) in
    (omega (arith, at.0, some_range b), at.1)

pub overlap_where_met : (a b : Pixel) → IsPixel a → IsPixel b → first_position a < end_position b → first_position b < end_position a → Overlaps a b
overlap_where_met a b is_a is_b first second =
    elim (cases_lt (first_position a) (first_position b)) [
      | inl below ↦ both_hold a b (first_position b) is_a is_b ((holds_range a (first_position b)).1 (omega arith, second)) (first_held b)
      | inr above ↦ both_hold a b (first_position a) is_a is_b (first_held a) ((holds_range b (first_position a)).1 (above, first))
    ]
