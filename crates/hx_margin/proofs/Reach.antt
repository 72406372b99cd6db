-- A margin reaches no further than the neighbours of its partition.
use Rattle.std.proofs.Common.{◌≡◌, ◌∙◌, ◌+◌, ◌-◌, ◌*◌, ◌/◌, ◌^◌, ◌≤◌, ◌⊎◌, ◌↔◌, ℕ, refl, sym, ap, subst, arith, inl, inr}
use Rattle.std.proofs.lemmas.Bool.{cases_lt}
use Rattle.std.proofs.Math.Nat.{mul-div_cancel}
use Rattle.hx_base.specs.declared.pixel.Pixel.{Pixel}
use Rattle.hx_base.specs.declared.row.Row.{Row}
use Rattle.hx_base.specs.Contents.{IsInMargin}
use Rattle.hx_base.specs.Pixels.{HoldsPosition, LiesIn, PixelContains, first_position, pixel_of}
use Rattle.hx_base.specs.Touching.{Touch}
use Rattle.hx_base.proofs.Partitions.{up_again}
use Rattle.hx_base.proofs.Powers.{four_pos}
use Rattle.hx_nest.proofs.Decided.{touch_back}
use Rattle.hx_nest.proofs.Parents.{ancestors_touch}
use Rattle.hx_ptree.specs.Searches.{Overlaps}
use Rattle.hx_margin.specs.Around.{IsAround}
use Rattle.hx_margin.specs.Beside.{IsBeside, margin_pixel}

-- two pixels that hold a position overlap
pub overlap_holding : (a b : Pixel) (position : ℕ) → a.order ≤ 29 → b.order ≤ 29 → HoldsPosition a position → HoldsPosition b position → Overlaps a b
unfolding pixel_of
overlap_holding a b position wa wb ha hb =
    elim (cases_lt a.order b.order) [
      | inl coarser ↦ inr (lies b a position wb (omega arith) hb ha)
      | inr finer ↦ inl (lies a b position wa finer ha hb)
    ]
  where
    lies : (inner outer : Pixel) (position : ℕ) → inner.order ≤ 29 → outer.order ≤ inner.order → HoldsPosition inner position → HoldsPosition outer position → LiesIn inner outer
    lies inner outer position within order inner_holds outer_holds = record {
      order = order;
      number = ap (λ (n : ℕ). n / 4 ^ (inner.order - outer.order)) (sym inner_holds) ∙ up_again 29 inner.order outer.order position order within ∙ outer_holds;
    }

-- the ancestors of touching pixels at an order above theirs are one or touch
meet_at : (m k p q : ℕ) → k ≤ m → Touch m p q → (p / 4 ^ (m - k) ≡ q / 4 ^ (m - k)) ⊎ Touch k (p / 4 ^ (m - k)) (q / 4 ^ (m - k))
meet_at m k p q le touch =
    let steps : m ≡ k + (m - k) = omega arith in
    ancestors_touch (m - k) k p q (subst (λ (j : ℕ). Touch j p q) steps touch)

-- the pixel at the partition's order that holds a row of the margin touches the partition
margin_touches : (part : Pixel) (m : ℕ) (row : Row) → m ≤ 29 → IsInMargin part m row → Touch part.order part.number (pixel_of part.order row.hp)
unfolding pixel_of
margin_touches part m row within h =
    let k = part.order in
    let up = up_again 29 m k row.hp h.inside.order within in
    elim (meet_at m k (pixel_of m row.hp) h.edge h.inside.order h.touches) [
      | inl same ↦ absurd (h.outside (sym up ∙ same ∙ h.inside.number))
      | inr touch ↦ touch_back k (pixel_of k row.hp) part.number (subst (λ (n : ℕ). Touch k (pixel_of k row.hp) n) h.inside.number (subst (λ (n : ℕ). Touch k n (h.edge / 4 ^ (m - k))) up touch))
    ]

pub reach : (part holder : Pixel) (m : ℕ) (row : Row) → m ≤ 29 → holder.order ≤ 29 → IsInMargin part m row → PixelContains holder row → IsAround part holder
reach part holder m row within fits h holds =
    let k = part.order in
    let low : k ≤ 29 = omega (arith, h.inside.order) in
    record {
      neighbour = pixel_of k row.hp;
      touches = margin_touches part m row within h;
      overlaps = overlap_holding holder (record { order = k; number = pixel_of k row.hp }) row.hp fits low holds refl;
    }

-- a pixel lies in one that holds its first position
pub first_up : (part : Pixel) (m n : ℕ) → part.order ≤ m → m ≤ 29 → n / 4 ^ (m - part.order) ≡ pixel_of part.order (n * 4 ^ (29 - m))
unfolding pixel_of
first_up part m n le within =
    let back : n * 4 ^ (29 - m) / 4 ^ (29 - m) ≡ n = mul-div_cancel n (four_pos (29 - m)) in
    ap (λ (i : ℕ). i / 4 ^ (m - part.order)) (sym back) ∙ up_again 29 m part.order (n * 4 ^ (29 - m)) le within

pub by_holder : (part : Pixel) (m : ℕ) (row : Row) → part.order ≤ m → m ≤ 29
    → IsInMargin part m row ↔ ((¬ (PixelContains part row)) × (n : ℕ) × Touch m (pixel_of m row.hp) n × HoldsPosition part (first_position (margin_pixel m n)))
by_holder part m row le within = (
  λ h. (h.outside, h.edge, h.touches, sym (first_up part m h.edge le within) ∙ h.inside.number),
  λ h. record { outside = h.0; edge = h.1; touches = h.2; inside = record { order = le; number = first_up part m h.1 le within ∙ h.3 } },
)

-- a partition contains a row exactly where the row's pixel of the margin order lies in it
pub row_lies : (part : Pixel) (m : ℕ) (row : Row) → part.order ≤ m → m ≤ 29 → LiesIn (margin_pixel m (pixel_of m row.hp)) part ↔ PixelContains part row
unfolding pixel_of
row_lies part m row le within =
    let up = up_again 29 m part.order row.hp le within in
    (λ h. sym up ∙ h.number, λ h. record { order = le; number = up ∙ h })

-- a row is in a margin exactly where its pixel is beside the partition
pub margin_by_pixel : (part : Pixel) (m : ℕ) (row : Row) → part.order ≤ m → m ≤ 29 → IsInMargin part m row ↔ IsBeside part m (pixel_of m row.hp)
margin_by_pixel part m row le within =
    let same = row_lies part m row le within in (
      λ h. record { outside = λ lies. h.outside (same.0 lies); edge = h.edge; inside = h.inside; touches = h.touches },
      λ h. record { outside = λ holds. h.outside (same.1 holds); edge = h.edge; inside = h.inside; touches = h.touches },
    )
