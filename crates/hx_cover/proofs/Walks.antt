-- What a walk over boxes of runs has passed.
use Rattle.std.proofs.Common.{◌≡◌, ◌∙◌, ◌+◌, ◌-◌, ltb, leb, ◌*◌, ◌/◌, ◌^◌, ◌<◌, ◌≤◌, ℕ, List, Some, max, length, get_or, sym, ap, subst, refl, arith, inl, inr}
use Rattle.std.specs.List.{AllPairs, AllWithin, Contains, slice_get}
use Rattle.std.proofs.lemmas.Bool.{cases_eq, cases_lt, le-leb, leb-true, lt-ltb, ltb-true}
use Rattle.std.proofs.lemmas.Nat.{div_below, le-div}
use Rattle.std.proofs.Math.Nat.{div-mul-le_self}
use Rattle.std.proofs.lemmas.Option.{get_or_from_slice_get, slice_get_read, slice_get_within}
use Rattle.std.specs.List.Sorted.{IsPartitionedBy}
use Rattle.hx_base.specs.declared.pixel.Pixel.{Pixel}
use Rattle.hx_base.specs.Boxes.{BoundingBox, gap2_of}
use Rattle.hx_cover.specs.Bounds.{joined_box}
use Rattle.std.proofs.lemmas.List.{get_or_default}
use Rattle.hx_cover.specs.CoverBoxes.{box_seen}
use Rattle.hx_cover.specs.Trees.{AreAllNear, AreFar, AreFarOrIn, AreOver}
use Rattle.hx_cover.specs.Bounds.{IsInside}
use Rattle.hx_cover.specs.declared.bounds.CoverBox.{CoverBox}
use Rattle.hx_cover.proofs.Unions.{first_inside, gap_of_round, inside_itself, inside_over, second_inside}

pub one_got : (xs : List CoverBox) (k : ℕ) (a b : CoverBox) → slice_get xs k ≡ Some a → slice_get xs k ≡ Some b → a ≡ b
one_got xs k a b p q = sym (get_or_from_slice_get xs k a a p) ∙ get_or_from_slice_get xs k b a q

pub run_far : (seen node : CoverBox) (r2 width at k to : ℕ) (boxes right : List CoverBox) → 0 < width → k ≡ at / width → slice_get boxes k ≡ Some node → r2 < gap2_of (box_seen seen) (box_seen node)
    → to ≤ max ((k + 1) * width) at → AreOver right width boxes → AreFar seen r2 right at to
run_far seen node r2 width at k to boxes right some is there past bound over = λ i b from below has.
    let start : at / width * width ≤ at = div-mul-le_self at width in
    let low : at / width ≤ i / width = le-div (at / width) i width some (omega (arith, start, from)) in
    let high : i / width < k + 1 = div_below i width (k + 1) some (omega (arith, below, bound, from)) in
    let same : i / width ≡ k = omega (arith, low, high, is) in
    let h = over i b has in
    let it : h.node ≡ node = one_got boxes (i / width) h.node node h.there (ap (λ (n : ℕ). slice_get boxes n) same ∙ there) in
    let round : IsInside (box_seen b) (box_seen node) = subst (λ (x : CoverBox). IsInside (box_seen b) (box_seen x)) it h.round in
    let le = gap_of_round (box_seen seen) (box_seen b) (box_seen seen) (box_seen node) (inside_itself (box_seen seen)) round in
    omega (arith, past, le)

pub there_by : (items seen : List CoverBox) (k : ℕ) (x : CoverBox) → seen ≡ items → k < length seen → x ≡ get_or seen k x → slice_get items k ≡ Some x
there_by items seen k x e lt g = subst (λ (xs : List CoverBox). slice_get xs k ≡ Some x) e (slice_get_read seen (length seen) k x refl lt g)

-- a walk goes on
module _ (seen : CoverBox) (r2 : ℕ) (right : List CoverBox) (first end from at : ℕ) (so_far : AreFarOrIn seen r2 right first end from at) where
  pub far_on : (next : ℕ) → AreFar seen r2 right at next → AreFarOrIn seen r2 right first end from next
  far_on next far = λ i b low below there. elim (cases_lt i at) [
    | inl before ↦ so_far i b low before there
    | inr here ↦ inr (far i b here below there)
  ]

  pub run_on : first ≤ at → AreFarOrIn seen r2 right first end from end
  run_on begun = λ i b low below there. elim (cases_lt i at) [
    | inl before ↦ so_far i b low before there
    | inr here ↦ inl (omega (arith, begun, here), below)
  ]

-- one box that is too far
pub one_far : (seen b : CoverBox) (r2 at : ℕ) (right : List CoverBox) → slice_get right at ≡ Some b → r2 < gap2_of (box_seen seen) (box_seen b) → AreFar seen r2 right at (at + 1)
one_far seen b r2 at right there past = λ i d low below has.
    let same : i ≡ at = omega (arith, low, below) in
    let it : b ≡ d = one_got right i b d (ap (λ (n : ℕ). slice_get right n) same ∙ there) has in
    subst (λ (x : CoverBox). r2 < gap2_of (box_seen seen) (box_seen x)) it past

-- pixels of lower orders ascend
pub div_up : (w p q : ℕ) → 0 < w → p ≤ q → p / w ≤ q / w
div_up w p q some le = let start : p / w * w ≤ p = div-mul-le_self p w in le-div (p / w) q w some (omega (arith, start, le))

pub rising : (right : List CoverBox) (i j : ℕ) (d : CoverBox) → AllPairs (λ a b. a.pixel < b.pixel) right → i ≤ j → j < length right → (get_or right i d).pixel ≤ (get_or right j d).pixel
rising right i j d up le within =
    elim (cases_eq i j) [
      | inl same ↦ rw same (omega arith)
      | inr off ↦ let lt = up i j d (omega (arith, le, off)) within in omega (arith, lt)
    ]

pub parted_below : (right : List CoverBox) (w number : ℕ) → 0 < w → AllPairs (λ a b. a.pixel < b.pixel) right → IsPartitionedBy (λ b. ltb (b.pixel / w) number) right
parted_below right w number some up = λ i j d le within e.
    let later = ltb-true _ _ e in
    let before = div_up w (get_or right i d).pixel (get_or right j d).pixel some (rising right i j d up le within) in
    lt-ltb _ _ (omega (arith, later, before))

pub parted_to : (right : List CoverBox) (w number : ℕ) → 0 < w → AllPairs (λ a b. a.pixel < b.pixel) right → IsPartitionedBy (λ b. leb (b.pixel / w) number) right
parted_to right w number some up = λ i j d le within e.
    let later = leb-true _ _ e in
    let before = div_up w (get_or right i d).pixel (get_or right j d).pixel some (rising right i j d up le within) in
    le-leb _ _ (omega (arith, later, before))

-- the boxes in a partition are near to all pixels in it
pub all_near : (parts : List Pixel) (m first last w lo hi : ℕ) (right : List CoverBox) (part : Pixel) → Contains parts part → part.order ≤ m + 2 → 0 < w → w ≡ 4 ^ (m + 2 - part.order) → first / w ≡ part.number → last / w ≡ part.number
    → AllWithin (λ b. part.number ≤ b.pixel / w) right lo (length right) → AllWithin (λ b. b.pixel / w ≤ part.number) right 0 hi → AreAllNear parts m right lo hi first last
all_near parts m first last w lo hi right part member order some is holds_first holds_last above below = λ i b from to there n low high.
    let within = slice_get_within right i b there in
    let at = get_or_from_slice_get right i b b there in
    let up = subst (λ (x : CoverBox). part.number ≤ x.pixel / w) at (above i b from within) in
    let down = subst (λ (x : CoverBox). x.pixel / w ≤ part.number) at (below i b (omega arith) to) in
    let q : b.pixel / w ≡ part.number = omega (arith, up, down) in
    let after = div_up w first n some low in
    let before = div_up w n last some high in
    let p : n / w ≡ part.number = omega (arith, after, before, holds_first, holds_last) in
    inr (inr (record {
      part = part;
      member = member;
      first = record { order = order; number = ap (λ (k : ℕ). n / k) (sym is) ∙ p };
      second = record { order = order; number = ap (λ (k : ℕ). b.pixel / k) (sym is) ∙ q };
    }))

-- a box round some and one more
pub more_round : (run : List CoverBox) (n : ℕ) (seen all wider : CoverBox) → AllWithin (λ x. IsInside (box_seen x) (box_seen all)) run 0 n → n < length run → seen ≡ get_or run n seen → box_seen wider ≡ joined_box (box_seen all) (box_seen seen)
    → AllWithin (λ x. IsInside (box_seen x) (box_seen wider)) run 0 (n + 1)
more_round run n seen all wider so_far within is joined = λ k d low lt.
    elim (cases_lt k n) [
      | inl before ↦
          inside_over (box_seen (get_or run k d)) (box_seen all) (box_seen wider) (so_far k d low before)
          (subst (λ (b : BoundingBox). IsInside (box_seen all) b) (sym joined) (first_inside (box_seen all) (box_seen seen)))
      | inr here ↦
          let same : k ≡ n = omega (arith, here, lt) in
          let it : get_or run k d ≡ seen = ap (λ (i : ℕ). get_or run i d) same ∙ get_or_default run n d seen within ∙ sym is in
          subst (λ (x : CoverBox). IsInside (box_seen x) (box_seen wider)) (sym it) (subst (λ (b : BoundingBox). IsInside (box_seen seen) b) (sym joined) (second_inside (box_seen all) (box_seen seen)))
    ]
