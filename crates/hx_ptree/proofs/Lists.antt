-- Disjoint pixels in order: their ranges ascend, and what searches by halves find among them.
use Rattle.std.specs.Bool.{then_some}
use Rattle.std.proofs.Common.{◌≡◌, ◌+◌, ◌-◌, ◌<◌, ◌≤◌, ◌↔◌, inl, inr, ℕ, List, Bool, true, false, IsTrue, Some, None, refl, leb, length, get_or, subst, arith}
use Rattle.std.specs.List.{All, AllWithin, slice_get}
use Rattle.std.specs.List.Sorted.{IsPartitionedBy}
use Rattle.std.proofs.lemmas.Bool.{cases_eq, cases_lt, false≢true, leb-true, le-leb}
use Rattle.std.proofs.lemmas.Option.{get_or_from_slice_get, slice_get-get_or, slice_get_within}
use Rattle.hx_base.specs.declared.pixel.Pixel.{Pixel}
use Rattle.hx_base.specs.Pixels.{AreDisjointInOrder, HoldsPosition, IsPixel, end_position, first_position}
use Rattle.hx_ptree.specs.Pieces.{HasWalkedTo}
use Rattle.hx_ptree.specs.Searches.{AreConsecutive, IsHolder, IsHolding, IsSpan, Overlaps}
use Rattle.hx_ptree.specs.declared.walk.Walked.{Walked}
use Rattle.hx_base.proofs.Ranges.{ascend, holds_range, some_range}
use Rattle.hx_ptree.proofs.Overlaps.{overlap_where_met, ranges_meet}

module _ (pixels : List Pixel) (h : AreDisjointInOrder pixels) where
  -- first and end positions don't descend
  abbrev Before : Pixel → Pixel → Type 0
  Before a b = (first_position a ≤ first_position b) × (end_position a ≤ end_position b)

  in_order : (i j : ℕ) (d : Pixel) → i ≤ j → j < length pixels → Before (get_or pixels i d) (get_or pixels j d)
  in_order i j d le within =
      elim (cases_eq i j) [
        | inl same ↦ rw same (omega arith, omega arith)
        | inr off ↦
            let next = ascend pixels h i j d (omega arith) within in
            let one = some_range (get_or pixels i d) in
            let other = some_range (get_or pixels j d) in
            (omega arith, omega arith)
      ]

  pub ends_parted : (position : ℕ) → IsPartitionedBy (λ part. leb (end_position part) position) pixels
  ends_parted position = λ i j d le within e.
      let later = leb-true _ _ e in
      let both = in_order i j d le within in
      le-leb _ _ (omega (arith, later, both.1))

  pub begins_parted : (position : ℕ) → IsPartitionedBy (λ part. leb (first_position part) position) pixels
  begins_parted position = λ i j d le within e.
      let later = leb-true _ _ e in
      let both = in_order i j d le within in
      le-leb _ _ (omega (arith, later, both.0))

  -- where one has not ended by a position, or not begun, no later one has
  pub ends_later : (position index : ℕ) (part : Pixel) → index < length pixels → position < end_position (get_or pixels index part) → AllWithin (λ part. position < end_position part) pixels index (length pixels)
  ends_later position index part there first = λ k d from within.
      let same = get_or_from_slice_get pixels index (get_or pixels index part) d (slice_get-get_or pixels index part there) in
      let both : end_position (get_or pixels index part) ≤ end_position (get_or pixels k d) = rw same at (in_order index k d from within).1 in
      omega (arith, first, both)

  pub begins_later : (position index : ℕ) (part : Pixel) → index < length pixels → position < first_position (get_or pixels index part) → AllWithin (λ part. position < first_position part) pixels index (length pixels)
  begins_later position index part there first = λ k d from within.
      let same = get_or_from_slice_get pixels index (get_or pixels index part) d (slice_get-get_or pixels index part there) in
      let both : first_position (get_or pixels index part) ≤ first_position (get_or pixels k d) = rw same at (in_order index k d from within).0 in
      omega (arith, first, both)

  -- what has ended or begun by a pixel has by every later one
  pub walked_on : (parts : List Pixel) (walked : Walked) (i j : ℕ) (here there : Pixel) → i ≤ j → slice_get pixels i ≡ Some here → slice_get pixels j ≡ Some there → HasWalkedTo parts here walked → HasWalkedTo parts there walked
  walked_on parts walked i j here there le at_i at_j stands =
      let within = slice_get_within pixels j there at_j in
      let is_i = get_or_from_slice_get pixels i here here at_i in
      let is_j = get_or_from_slice_get pixels j there here at_j in
      let both : Before here there = rw is_j at (rw is_i at (in_order i j here le within)) in
      record {
        ended_within = stands.ended_within;
        begun_within = stands.begun_within;
        ended = λ k d from to. omega (arith, stands.ended k d from to, both.0);
        begun = λ k d from to. omega (arith, stands.begun k d from to, both.1);
      }

  -- the pixel behind those that have ended by a position is the only one that may hold it
  pub none_holds : (position index : ℕ) → AllWithin (λ part. end_position part ≤ position) pixels 0 index → AllWithin (λ part. position < end_position part) pixels index (length pixels)
      → ((d : Pixel) → index < length pixels → ¬ (HoldsPosition (get_or pixels index d) position)) → All (λ part. ¬ (HoldsPosition part position)) pixels
  none_holds position index before after other = λ k d within holds.
      let range = (holds_range (get_or pixels k d) position).0 holds in
      elim (cases_lt k index) [
        | inl low ↦ let ended = before k d (omega arith) low in omega (arith, ended, range.1)
        | inr from ↦ elim (cases_eq k index) [
          | inl here ↦ other d (omega arith) (subst (λ (i : ℕ). HoldsPosition (get_or pixels i d) position) here holds)
          | inr later ↦
              let next = ascend pixels h index k d (omega arith) within in
              let open_yet = after index d (omega arith) (omega arith) in
              omega (arith, next, open_yet, range.0)
        ]
      ]

  abbrev Held : ℕ → ℕ → Type 0
  Held position index = AllWithin (λ part. end_position part ≤ position) pixels 0 index × AllWithin (λ part. position < end_position part) pixels index (length pixels)

  pub no_holder : (position index : ℕ) → Held position index → length pixels ≤ index → IsHolder pixels position None
  no_holder position index held past = none_holds position index held.0 held.1 (λ d lt. absurd (omega (arith, lt, past)))

  pub holder_is : (position index : ℕ) (part : Pixel) (holds : Bool) → Held position index → slice_get pixels index ≡ Some part → IsTrue holds ↔ HoldsPosition part position → IsHolder pixels position (then_some holds index)
  holder_is position index part true held at tells = (part, at, tells.0 refl)
  holder_is position index part false held at tells =
      none_holds position index held.0 held.1 (λ d lt here. false≢true (tells.1 (subst (λ (p : Pixel). HoldsPosition p position) (get_or_from_slice_get pixels index part d at) here)))

  pub holding_is : (position index : ℕ) (part : Pixel) (holds : Bool) → Held position index → slice_get pixels index ≡ Some part → IsTrue holds ↔ HoldsPosition part position → IsHolding pixels position (then_some holds part)
  holding_is position index part true held at tells = ((index, slice_get_within pixels index part at, get_or_from_slice_get pixels index part part at), tells.0 refl)
  holding_is position index part false held at tells = holder_is position index part false held at tells

  pub consecutive : (pixel : Pixel) → IsPixel pixel → AreConsecutive (λ part. Overlaps part pixel) pixels
  consecutive pixel exists = λ i j k a b c ij jk at_i at_j at_k over_a over_c.
      let in_k = slice_get_within pixels k c at_k in
      let is_a = get_or_from_slice_get pixels i a b at_i in
      let is_b = get_or_from_slice_get pixels j b b at_j in
      let is_c = get_or_from_slice_get pixels k c b at_k in
      let there_a : IsPixel a = subst IsPixel is_a (h.each i b (omega arith)) in
      let there_b : IsPixel b = subst IsPixel is_b (h.each j b (omega arith)) in
      let there_c : IsPixel c = subst IsPixel is_c (h.each k b in_k) in
      let ab : Before a b = rw (← is_a) (let low = in_order i j b ij (omega arith) in rw is_b at low) in
      let bc : Before b c = rw (← is_c) (let high = in_order j k b jk in_k in rw is_b at high) in
      let low = ranges_meet a pixel there_a exists over_a in
      let high = ranges_meet c pixel there_c exists over_c in
      overlap_where_met b pixel there_b exists (omega (arith, bc.0, high.0)) (omega (arith, ab.1, low.1))

  -- a pixel from its first to its last position, among those that have ended before it and those that have begun by its end
  module _ (pixel : Pixel) (begin last first count_begun : ℕ) (exists : IsPixel pixel) (begin_is : begin ≡ first_position pixel) (last_is : last + 1 ≡ end_position pixel)
      (inside : first ≤ length pixels) (within : count_begun ≤ length pixels)
      (before : AllWithin (λ part. end_position part ≤ begin) pixels 0 first) (after : AllWithin (λ part. begin < end_position part) pixels first (length pixels))
      (begun : AllWithin (λ part. first_position part ≤ last) pixels 0 count_begun) (later : AllWithin (λ part. last < first_position part) pixels count_begun (length pixels)) where
    pub ends_in_order : first ≤ count_begun
    ends_in_order =
        elim (cases_lt count_begun first) [
          | inl less ↦
              let ended = before count_begun pixel (omega arith) less in
              let not_begun = later count_begun pixel (omega arith) (omega arith) in
              absurd (omega (arith, ended, not_begun, some_range pixel, some_range (get_or pixels count_begun pixel)))
          | inr fine ↦ fine
        ]

    pub is_span : IsSpan pixels pixel first (count_begun - first)
    is_span =
        let le = ends_in_order in
        record {
          within = omega arith;
          before = λ index part at.
              let lt = slice_get_within pixels index part at in
              let is = get_or_from_slice_get pixels index part part at in (
                λ low. let by = subst (λ (p : Pixel). end_position p ≤ begin) is (before index part (omega arith) low) in omega (arith, by, begin_is),
                λ ended. elim (cases_lt index first) [
                  | inl low ↦ low
                  | inr high ↦ absurd (let more = subst (λ (p : Pixel). begin < end_position p) is (after index part high lt) in omega (arith, ended, more))
                ],
              );
          overlapping = λ index part at.
              let lt = slice_get_within pixels index part at in
              let is = get_or_from_slice_get pixels index part part at in
              let there : IsPixel part = subst IsPixel is (h.each index part lt) in (
                λ between.
                    let ends = subst (λ (p : Pixel). begin < end_position p) is (after index part between.0 lt) in
                    let begins = subst (λ (p : Pixel). first_position p ≤ last) is (begun index part (omega arith) (omega (arith, between.1))) in
                    overlap_where_met part pixel there exists (omega (arith, begins, last_is)) (omega (arith, ends, begin_is)),
                λ over.
                    let meet = ranges_meet part pixel there exists over in (
                      elim (cases_lt index first) [
                        | inl low ↦ absurd (let ended = subst (λ (p : Pixel). end_position p ≤ begin) is (before index part (omega arith) low) in omega (arith, ended, meet.1))
                        | inr high ↦ high
                      ],
                      elim (cases_lt index count_begun) [
                        | inl low ↦ omega arith
                        | inr high ↦ absurd (let more = subst (λ (p : Pixel). last < first_position p) is (later index part high lt) in omega (arith, more, meet.0, last_is))
                      ],
                    ),
              );
        }
