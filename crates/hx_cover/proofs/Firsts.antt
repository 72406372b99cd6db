-- The first pair of boxes that is too near is the least of the rows' pixels; and of parts of the left list the first answer counts.
use Rattle.std.proofs.Common.{◌≡◌, ◌∙◌, ◌+◌, ◌++◌, ◌<◌, ℕ, List, Option, Some, None, length, get_or, sym, ap, subst, arith, inl, inr}
use Rattle.std.specs.List.{All, AllPairs, Any, Contains}
use Rattle.std.proofs.Common.{length-append}
use Rattle.std.proofs.lemmas.List.{get_or-append-add, get_or_append_left, get_or_default}
use Rattle.std.proofs.lemmas.List.Elements.{All-append, All-contains, Contains-append_cases, Contains-append_left, Contains-append_right}
use Rattle.hx_base.specs.declared.pixel.Pixel.{Pixel}
use Rattle.hx_base.specs.declared.row.Row.{Row}
use Rattle.hx_base.specs.Boxes.{BoundingBox, IsBoxOf, gap2_of}
use Rattle.hx_base.specs.Coverage.{AreNear, IsLeastTooNear, IsTooNear, NoneTooNear, cover_pixel}
use Rattle.hx_base.specs.Pixels.{pixel_of}
use Rattle.hx_cover.specs.CoverBoxes.{box_seen}
use Rattle.hx_cover.specs.TooNear.{AreBoxes, AreTooNear, IsFirstTooNear}
use Rattle.hx_cover.specs.declared.bounds.CoverBox.{CoverBox}
use Rattle.hx_cover.specs.declared.bounds.TooNear.{TooNear}
use Rattle.hx_cover.proofs.Extents.{one_box}
use Rattle.hx_cover.proofs.Members.{row_was_in}

-- the box of a pixel stands in the list of all
pub record Listed (order : ℕ) (boxes : List CoverBox) (number : ℕ) (box : BoundingBox) : Type 0 where
  pub seen : CoverBox
  pub member : Contains boxes seen
  pub pixel : seen.pixel ≡ number
  pub is : box_seen seen ≡ box

listed : (order : ℕ) (rows : List Row) (boxes : List CoverBox) (number : ℕ) (box : BoundingBox) → AreBoxes order rows boxes → IsBoxOf (record { order = order; number = number }) rows box → Listed order boxes number box
listed order rows boxes number box are is_box =
    let pixel : Pixel = record { order = order; number = number } in
    let low = is_box.x.lowest in
    let row = low.1 in
    let there = row_was_in pixel rows row (low.0, low.2, low.3) in
    let any = All-contains (λ row. Any (λ seen. seen.pixel ≡ pixel_of order row.hp) boxes) rows row are.all there.0 in
    let seen = any.1 in
    let member : Contains boxes seen = (any.0, any.2, any.3) in
    let same : seen.pixel ≡ number = any.4 ∙ there.1 in
    let its = All-contains (λ seen. IsBoxOf (record { order = order; number = seen.pixel }) rows (box_seen seen)) boxes seen are.each member in
    let mine = subst (λ (n : ℕ). IsBoxOf (record { order = order; number = n }) rows (box_seen seen)) same its in
    record { seen = seen; member = member; pixel = same; is = one_box pixel rows (box_seen seen) box mine is_box }

module _ (parts : List Pixel) (m r2 : ℕ) (left right : List Row) (lefts rights : List CoverBox) (is_left : AreBoxes (m + 2) left lefts) (is_right : AreBoxes (m + 2) right rights) where
  -- a pair of pixels that is too near has its boxes in the lists
  pub record Pair (p q : ℕ) : Type 0 where
    pub a : CoverBox
    pub b : CoverBox
    pub in_left : Contains lefts a
    pub in_right : Contains rights b
    pub is_p : a.pixel ≡ p
    pub is_q : b.pixel ≡ q
    pub too_near : AreTooNear parts m r2 a b

  pair : (p q gap2 : ℕ) → IsTooNear parts m r2 left right p q gap2 → Pair p q
  pair p q gap2 h =
      let a = listed (m + 2) left lefts p h.left_box is_left h.is_left in
      let b = listed (m + 2) right rights q h.right_box is_right h.is_right in
      let same : gap2_of (box_seen a.seen) (box_seen b.seen) ≡ gap2_of h.left_box h.right_box = ap (λ (x : BoundingBox). gap2_of x (box_seen b.seen)) a.is ∙ ap (λ (x : BoundingBox). gap2_of h.left_box x) b.is in
      let le = h.within in
      let gap = h.gap in
      record {
        a = a.seen;
        b = b.seen;
        in_left = a.member;
        in_right = b.member;
        is_p = a.pixel;
        is_q = b.pixel;
        too_near = record {
          within = omega (arith, same, gap, le);
          apart = λ near. h.apart (subst (λ (n : ℕ). AreNear parts m n q) a.pixel (subst (λ (n : ℕ). AreNear parts m a.seen.pixel n) b.pixel near));
        };
      }

  pub none_of_rows : IsFirstTooNear parts m r2 lefts rights None → NoneTooNear parts m r2 left right
  none_of_rows none = λ p q gap2 h.
      let found = pair p q gap2 h in
      All-contains (λ b. ¬ (AreTooNear parts m r2 found.a b)) rights found.b (All-contains (λ a. All (λ b. ¬ (AreTooNear parts m r2 a b)) rights) lefts found.a none found.in_left) found.in_right found.too_near

  pub least_of_rows : (found : TooNear) → IsFirstTooNear parts m r2 lefts rights (Some found) → IsLeastTooNear parts m r2 left right found.left found.right found.gap2
  least_of_rows found h =
      let box_a = All-contains (λ seen. IsBoxOf (record { order = m + 2; number = seen.pixel }) left (box_seen seen)) lefts h.a is_left.each h.is_left in
      let box_b = All-contains (λ seen. IsBoxOf (record { order = m + 2; number = seen.pixel }) right (box_seen seen)) rights h.b is_right.each h.is_right in
      let gap = h.gap_is in
      let within = h.too_near.within in
      let is_p = h.left_is in
      let is_q = h.right_is in
      record {
        too_near = record {
          left_box = box_seen h.a;
          right_box = box_seen h.b;
          is_left = subst (λ (n : ℕ). IsBoxOf (cover_pixel m n) left (box_seen h.a)) (sym is_p) box_a;
          is_right = subst (λ (n : ℕ). IsBoxOf (cover_pixel m n) right (box_seen h.b)) (sym is_q) box_b;
          gap = gap;
          within = omega (arith, gap, within);
          apart = λ near. h.too_near.apart (subst (λ (n : ℕ). AreNear parts m n h.b.pixel) is_p (subst (λ (n : ℕ). AreNear parts m found.left n) is_q near));
        };
        least = λ p q gap2 other.
            let its = pair p q gap2 other in
            let eq_p = its.is_p in
            let eq_q = its.is_q in
            elim (h.least its.a its.b its.in_left its.in_right its.too_near) [
              | inl less ↦ inl (omega (arith, less, is_p, eq_p))
              | inr same ↦ inr (omega (arith, same.0, is_p, eq_p), omega (arith, same.1, is_q, eq_q))
            ];
      }

-- there is one least pair at most
pub one_least : (parts : List Pixel) (m r2 : ℕ) (left right : List Row) (p q gap2 a b other : ℕ) → IsLeastTooNear parts m r2 left right p q gap2 → IsLeastTooNear parts m r2 left right a b other → (p ≡ a) × (q ≡ b) × (gap2 ≡ other)
one_least parts m r2 left right p q gap2 a b other g h =
    let to = g.least a b other h.too_near in
    let back = h.least p q gap2 g.too_near in
    let same_p : p ≡ a = omega (arith, to, back) in
    let same_q : q ≡ b = omega (arith, to, back) in
    let x = g.too_near in
    let y = h.too_near in
    let lefts : x.left_box ≡ y.left_box = one_box (cover_pixel m a) left x.left_box y.left_box (subst (λ (n : ℕ). IsBoxOf (cover_pixel m n) left x.left_box) same_p x.is_left) y.is_left in
    let rights : x.right_box ≡ y.right_box = one_box (cover_pixel m b) right x.right_box y.right_box (subst (λ (n : ℕ). IsBoxOf (cover_pixel m n) right x.right_box) same_q x.is_right) y.is_right in
    (same_p, same_q, x.gap ∙ ap (λ (box : BoundingBox). gap2_of box x.right_box) lefts ∙ ap (λ (box : BoundingBox). gap2_of y.left_box box) rights ∙ sym y.gap)

-- parts of the left list, one after another
module _ (parts : List Pixel) (m r2 : ℕ) (first rest right : List CoverBox) where
  pub none_first : (o : Option TooNear) → IsFirstTooNear parts m r2 first right None → IsFirstTooNear parts m r2 rest right o → IsFirstTooNear parts m r2 (first ++ rest) right o
  none_first None none h = All-append (λ a. All (λ b. ¬ (AreTooNear parts m r2 a b)) right) first rest none h
  none_first (Some found) none h = record {
    a = h.a;
    b = h.b;
    is_left = Contains-append_right first rest h.a h.is_left;
    is_right = h.is_right;
    too_near = h.too_near;
    left_is = h.left_is;
    right_is = h.right_is;
    gap_is = h.gap_is;
    least = λ c d in_left in_right near. elim (Contains-append_cases first rest c in_left) [
      | inl before ↦ absurd (All-contains (λ b. ¬ (AreTooNear parts m r2 c b)) right d (All-contains (λ a. All (λ b. ¬ (AreTooNear parts m r2 a b)) right) first c none before) in_right near)
      | inr after ↦ h.least c d after in_right near
    ];
  }

  pub found_first : (found : TooNear) → AllPairs (λ a b. a.pixel < b.pixel) (first ++ rest) → IsFirstTooNear parts m r2 first right (Some found) → IsFirstTooNear parts m r2 (first ++ rest) right (Some found)
  found_first found up h = record {
    a = h.a;
    b = h.b;
    is_left = Contains-append_left first rest h.a h.is_left;
    is_right = h.is_right;
    too_near = h.too_near;
    left_is = h.left_is;
    right_is = h.right_is;
    gap_is = h.gap_is;
    least = λ c d in_left in_right near. elim (Contains-append_cases first rest c in_left) [
      | inl before ↦ h.least c d before in_right near
      | inr after ↦ inl (below h.a c h.is_left after)
    ];
  }
    where
      below : (a c : CoverBox) → Contains first a → Contains rest c → a.pixel < c.pixel
      below a c is_a is_c =
          let at_a : get_or (first ++ rest) is_a.0 a ≡ a = get_or_append_left first rest a is_a.0 is_a.1 ∙ is_a.2 in
          let at_c : get_or (first ++ rest) (length first + is_c.0) a ≡ c = get_or-append-add first rest is_c.0 a ∙ get_or_default rest is_c.0 a c is_c.1 ∙ is_c.2 in
          let lt = up is_a.0 (length first + is_c.0) a (omega (arith, is_a.1)) (omega (arith, is_c.1, length-append first rest)) in
          subst (λ (x : CoverBox). a.pixel < x.pixel) at_c (subst (λ (x : CoverBox). x.pixel < (get_or (first ++ rest) (length first + is_c.0) a).pixel) at_a lt)
