-- Where no pair of boxes is too near, the search for a left row reads each right row within the radius.
use Rattle.std.proofs.Common.{◌≡◌, ◌∙◌, ◌+◌, ◌-◌, ◌/◌, ◌^◌, ◌≤◌, ◌⊎◌, ℕ, List, refl, sym, ap, subst, arith, inl, inr}
use Rattle.std.specs.List.{All, Any, Contains}
use Rattle.std.proofs.lemmas.Bool.Decides.{eqb_tells}
use Rattle.std.proofs.lemmas.List.Elements.{All-contains}
use Rattle.hx_base.specs.declared.pixel.Pixel.{Pixel}
use Rattle.hx_base.specs.declared.row.Row.{Row}
use Rattle.hx_base.specs.Boxes.{gap2_of}
use Rattle.hx_base.specs.Chords.{chord2_of}
use Rattle.hx_base.specs.Coverage.{AreNear, IsCutInto, IsRead, IsTooNear, NoneTooNear, cover_pixel}
use Rattle.hx_base.specs.Pixels.{HoldsPosition, LiesIn, PixelContains, pixel_of}
use Rattle.hx_base.specs.Touching.{Touch}
use Rattle.hx_base.proofs.Partitions.{holds_outer, up_again}
use Rattle.hx_nest.proofs.Decided.{touch_back, touch_decided}
use Rattle.hx_cover.proofs.Extents.{box_of, in_its_box}
use Rattle.hx_cover.proofs.Gaps.{gap_le_chord}
use Rattle.hx_cover.proofs.Members.{IsHeldBy, held_by_any, held_or_not, row_is_in, same_holder}

-- two orders above
sixteen : (m place : ℕ) → m + 2 ≤ 29 → pixel_of (m + 2) place / 16 ≡ pixel_of m place
unfolding pixel_of
sixteen m place within =
    let two : m + 2 - m ≡ 2 = omega arith in
    subst (λ (d : ℕ). place / 4 ^ (29 - (m + 2)) / 4 ^ d ≡ place / 4 ^ (29 - m)) two (up_again 29 (m + 2) m place (omega arith) within)

-- a pixel of a lower order holds all positions of a pixel or none
same_above : (part : Pixel) (m place other : ℕ) → part.order ≤ m → m ≤ 29 → pixel_of m place ≡ pixel_of m other → HoldsPosition part place → HoldsPosition part other
unfolding pixel_of
same_above part m place other le within same holds =
    sym (up_again 29 m part.order other le within) ∙ ap (λ (n : ℕ). n / 4 ^ (m - part.order)) (sym same) ∙ up_again 29 m part.order place le within ∙ holds

lies_at : (part : Pixel) (m place : ℕ) → part.order ≤ m → m ≤ 29 → HoldsPosition part place → LiesIn (record { order = m; number = pixel_of m place }) part
unfolding pixel_of
lies_at part m place le within holds = record { order = le; number = up_again 29 m part.order place le within ∙ holds }

holds_by_cover : (part : Pixel) (m place : ℕ) → m + 2 ≤ 29 → LiesIn (cover_pixel m (pixel_of (m + 2) place)) part → HoldsPosition part place
holds_by_cover part m place within lies = holds_outer (cover_pixel m (pixel_of (m + 2) place)) part place within lies refl

module _ (parts : List Pixel) (m : ℕ) (right : List Row) (cut : IsCutInto right parts m) (l r : Row) (member_r : Contains right r) where
  abbrev p : ℕ
  p = pixel_of (m + 2) l.hp

  abbrev q : ℕ
  q = pixel_of (m + 2) r.hp

  below : m ≤ 29
  below = let h = cut.cover_order in omega arith

  order_of : (part : Pixel) → Contains parts part → part.order ≤ m
  order_of part h = All-contains (λ (part : Pixel). part.order ≤ m) parts part cut.orders h

  -- near pixels, by the rows in them
  abbrev Near : Type 0
  Near = (pixel_of m l.hp ≡ pixel_of m r.hp) ⊎ Touch m (pixel_of m l.hp) (pixel_of m r.hp) ⊎ (part : Pixel) × Contains parts part × PixelContains part l × PixelContains part r

  near_rows : AreNear parts m p q → Near
  near_rows (inl same) = inl (sym (sixteen m l.hp cut.cover_order) ∙ same ∙ sixteen m r.hp cut.cover_order)
  near_rows (inr (inl touch)) = inr (inl (subst (λ (n : ℕ). Touch m n (pixel_of m r.hp)) (sixteen m l.hp cut.cover_order) (subst (λ (n : ℕ). Touch m (q_up l) n) (sixteen m r.hp cut.cover_order) touch)))
    where
      q_up : Row → ℕ
      q_up row = pixel_of (m + 2) row.hp / 16
  near_rows (inr (inr h)) = inr (inr (h.part, h.member, holds_by_cover h.part m l.hp cut.cover_order h.first, holds_by_cover h.part m r.hp cut.cover_order h.second))

  -- the partition that holds the left row
  in_partition : (h : IsHeldBy parts l.hp) → Touch m (pixel_of m l.hp) (pixel_of m r.hp) ⊎ (¬ (Touch m (pixel_of m l.hp) (pixel_of m r.hp))) → IsRead parts m l r ⊎ (¬ (AreNear parts m p q))
  in_partition h touch =
      elim (eqb_tells (pixel_of h.part.order r.hp) h.part.number) [
        | inl here ↦ inl (inl (record { part = h.part; member = h.member; holds = h.holds; has = inl here.1 }))
        | inr away ↦ elim touch [
          | inl t ↦
              inl (inl (record {
                part = h.part;
                member = h.member;
                holds = h.holds;
                has = inr (record {
                  outside = away.1;
                  edge = pixel_of m l.hp;
                  inside = lies_at h.part m l.hp (order_of h.part h.member) below h.holds;
                  touches = touch_back m (pixel_of m l.hp) (pixel_of m r.hp) t;
                });
              }))
          | inr off ↦
              inr (λ near. elim (near_rows near) [
                | inl same ↦ away.1 (same_above h.part m l.hp r.hp (order_of h.part h.member) below same h.holds)
                | inr (inl t) ↦ off t
                | inr (inr (part, member, holds_l, holds_r)) ↦ away.1 (subst (λ (a : Pixel). PixelContains a r) (same_holder parts part h.part l.hp cut.disjoint member h.member holds_l h.holds) holds_r)
              ])
        ]
      ]

  -- no partition holds the left row, and one holds the right row
  around : All (λ part. ¬ (PixelContains part l)) parts → (h : IsHeldBy parts r.hp) → Touch m (pixel_of m l.hp) (pixel_of m r.hp) ⊎ (¬ (Touch m (pixel_of m l.hp) (pixel_of m r.hp))) → IsRead parts m l r ⊎ (¬ (AreNear parts m p q))
  around none h (inl t) =
      inl (inr (record {
        uncovered = none;
        part = h.part;
        member = h.member;
        neighbour = pixel_of m r.hp;
        touches = t;
        inside = lies_at h.part m r.hp (order_of h.part h.member) below h.holds;
        has = h.holds;
      }))
  around none h (inr off) =
      inr (λ near. elim (near_rows near) [
        | inl same ↦ All-contains (λ part. ¬ (PixelContains part l)) parts h.part none h.member (same_above h.part m r.hp l.hp (order_of h.part h.member) below (sym same) h.holds)
        | inr (inl t) ↦ off t
        | inr (inr (part, member, holds_l, holds_r)) ↦ All-contains (λ part. ¬ (PixelContains part l)) parts part none member holds_l
      ])

  read_or_apart : IsRead parts m l r ⊎ (¬ (AreNear parts m p q))
  read_or_apart =
      let touch = touch_decided m (pixel_of m l.hp) (pixel_of m r.hp) in
      elim (held_or_not parts l.hp) [
        | inl h ↦ in_partition h touch
        | inr none ↦ around none (held_by_any parts r (All-contains (λ row. Any (λ part. PixelContains part row) parts) right r cut.covered member_r)) touch
      ]

  pub read_where_near : AreNear parts m p q → IsRead parts m l r
  read_where_near near = elim read_or_apart [ inl there ↦ there | inr apart ↦ absurd (apart near) ]

  too_near : (left : List Row) (r2 : ℕ) → Contains left l → chord2_of l r ≤ r2 → ¬ (AreNear parts m p q) → (gap2 : ℕ) × IsTooNear parts m r2 left right p q gap2
  too_near left r2 member_l chord apart =
      let in_left = row_is_in (cover_pixel m p) left l member_l refl in
      let in_right = row_is_in (cover_pixel m q) right r member_r refl in
      let a = box_of (cover_pixel m p) left (omega (arith, in_left.1)) in
      let b = box_of (cover_pixel m q) right (omega (arith, in_right.1)) in
      let le = gap_le_chord a.0 b.0 l r (in_its_box (cover_pixel m p) left a.0 l a.1 member_l refl) (in_its_box (cover_pixel m q) right b.0 r b.1 member_r refl) in
      (gap2_of a.0 b.0, record { left_box = a.0; right_box = b.0; is_left = a.1; is_right = b.1; gap = refl; within = omega (arith, le, chord); apart = apart })

  pub read_where_none : (left : List Row) (r2 : ℕ) → NoneTooNear parts m r2 left right → Contains left l → chord2_of l r ≤ r2 → IsRead parts m l r
  read_where_none left r2 none member_l chord =
      elim read_or_apart [
        | inl there ↦ there
        | inr apart ↦ let h = too_near left r2 member_l chord apart in absurd (none p q h.0 h.1)
      ]
