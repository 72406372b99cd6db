-- Lists of boxes that grow at their end, each round the boxes of a run.
use Rattle.std.proofs.Common.{◌≡◌, ◌∙◌, ◌+◌, ◌*◌, ◌/◌, ◌<◌, ◌≤◌, ◌++◌, ◌∷◌, ◌≢◌, ◌%◌, ◌^◌, [], ℕ, List, Some, length, length-append, get_or, sym, ap, subst, arith, inl, inr}
use Rattle.std.proofs.lemmas.Bool.{cases_lt, cases_order}
use Rattle.std.proofs.lemmas.List.Elements.{All-push, All-set}
use Rattle.std.proofs.Math.Nat.{div-div-eq-div-mul}
use Rattle.hx_cover.specs.Bounds.{joined_box}
use Rattle.std.proofs.lemmas.List.{get_or_default, length-set, get_or_push, get_or_append_left, get_or-set_other, get_or-set_same}
use Rattle.std.proofs.lemmas.Option.{get_or_from_slice_get, slice_get-get_or, slice_get_within}
use Rattle.std.specs.List.{All, slice_get}
use Rattle.std.proofs.Math.ListN.{set}
use Rattle.hx_base.specs.Boxes.{BoundingBox}
use Rattle.hx_cover.specs.CoverBoxes.{IsSound, box_seen}
use Rattle.hx_cover.specs.Trees.{AreOver, HasRound}
use Rattle.hx_cover.specs.Bounds.{IsInside}
use Rattle.hx_cover.specs.declared.bounds.CoverBox.{CoverBox}
use Rattle.hx_cover.proofs.Unions.{first_inside, inside_itself, inside_over, second_inside}

pub got : {X : Type 0} (xs : List X) (k : ℕ) (d x : X) → k < length xs → get_or xs k d ≡ x → slice_get xs k ≡ Some x
got xs k d x lt is = slice_get-get_or xs k d lt ∙ ap Some is

pub round_behind : (xs : List CoverBox) (y under : CoverBox) (k : ℕ) → HasRound xs k under → HasRound (xs ++ y ∷ []) k under
round_behind xs y under k h =
    let lt = slice_get_within xs k h.node h.there in
    record {
      node = h.node;
      there = got (xs ++ y ∷ []) k h.node h.node (omega (arith, lt, length-append xs (y ∷ []))) (get_or_append_left xs (y ∷ []) h.node k lt ∙ get_or_from_slice_get xs k h.node h.node h.there);
      round = h.round;
    }

pub round_last : (xs : List CoverBox) (y under : CoverBox) (k : ℕ) → length xs ≡ k → IsInside (box_seen under) (box_seen y) → HasRound (xs ++ y ∷ []) k under
round_last xs y under k at h = record { node = y; there = got (xs ++ y ∷ []) k y y (omega (arith, at, length-append xs (y ∷ []))) (get_or_push xs y y k at); round = h }

pub round_set : (xs : List CoverBox) (j k : ℕ) (old new under : CoverBox) → j < length xs → get_or xs j old ≡ old → IsInside (box_seen old) (box_seen new) → HasRound xs k under → HasRound (set xs j new) k under
round_set xs j k old new under lt is wider h =
    let within = slice_get_within xs k h.node h.there in
    let other : k ≢ j → HasRound (set xs j new) k under = λ off. record {
      node = h.node;
      there = got (set xs j new) k h.node h.node (omega (arith, within, length-set xs j new)) (get_or-set_other xs j k new h.node off ∙ get_or_from_slice_get xs k h.node h.node h.there);
      round = h.round;
    } in
    elim (cases_order k j) [
      | inl same ↦
          let one : h.node ≡ old = sym (get_or_from_slice_get xs k h.node old h.there) ∙ ap (λ (n : ℕ). get_or xs n old) same ∙ is in
          record {
            node = new;
            there = got (set xs j new) k new new (omega (arith, within, length-set xs j new)) (ap (λ (n : ℕ). get_or (set xs j new) n new) same ∙ get_or-set_same xs j new new lt);
            round = inside_over (box_seen under) (box_seen old) (box_seen new) (subst (λ (x : CoverBox). IsInside (box_seen under) (box_seen x)) one h.round) wider;
          }
      | inr (inl less) ↦ other (λ e. absurd (omega (arith, less, e)))
      | inr (inr more) ↦ other (λ e. absurd (omega (arith, more, e)))
    ]

pub round_set_last : (xs : List CoverBox) (j k : ℕ) (new under : CoverBox) → j < length xs → k ≡ j → IsInside (box_seen under) (box_seen new) → HasRound (set xs j new) k under
round_set_last xs j k new under lt same h = record {
  node = new;
  there = got (set xs j new) k new new (omega (arith, lt, same, length-set xs j new)) (ap (λ (n : ℕ). get_or (set xs j new) n new) same ∙ get_or-set_same xs j new new lt);
  round = h;
}

-- boxes over runs of four of the first boxes of a list
pub record AreOverSome (boxes above : List CoverBox) (i : ℕ) : Type 0 where
  pub count : length above ≡ (i + 3) / 4
  pub sound : All IsSound above
  pub over : (k : ℕ) (under : CoverBox) → k < i → slice_get boxes k ≡ Some under → HasRound above (k / 4) under

module _ (boxes above after : List CoverBox) (i : ℕ) (under : CoverBox) (so_far : AreOverSome boxes above i) (is : get_or boxes i under ≡ under) (sound : IsSound under) where
  this_one : (k : ℕ) (d : CoverBox) → k ≡ i → slice_get boxes k ≡ Some d → d ≡ under
  this_one k d same there = sym (get_or_from_slice_get boxes k d under there) ∙ ap (λ (n : ℕ). get_or boxes n under) same ∙ is

  pub pushed : i % 4 ≡ 0 → after ≡ above ++ under ∷ [] → AreOverSome boxes after (i + 1)
  pushed first e =
      let count = so_far.count in
      let at : length above ≡ i / 4 = omega (arith, count, first) in
      record {
        count = ap length e ∙ length-append above (under ∷ []) ∙ (omega (arith, at, first));
        sound = subst (All IsSound) (sym e) (All-push IsSound above under so_far.sound sound);
        over = λ k d lt there. subst (λ (xs : List CoverBox). HasRound xs (k / 4) d) (sym e) (elim (cases_lt k i) [
          | inl before ↦ round_behind above under d (k / 4) (so_far.over k d before there)
          | inr here ↦
              let same : k ≡ i = omega (arith, here, lt) in
              let it = this_one k d same there in
              round_last above under d (k / 4) (at ∙ ap (λ (n : ℕ). n / 4) (sym same)) (subst (λ (x : CoverBox). IsInside (box_seen d) (box_seen x)) it (inside_itself (box_seen d)))
        ]);
      }

  pub widened : (old new other : CoverBox) → i % 4 ≢ 0 → old ≡ get_or above (i / 4) other → IsSound new → box_seen new ≡ joined_box (box_seen old) (box_seen under) → after ≡ set above (i / 4) new → AreOverSome boxes after (i + 1)
  widened old new other later value new_sound joined e =
      let count = so_far.count in
      let lt : i / 4 < length above = omega (arith, count, later) in
      let was : get_or above (i / 4) old ≡ old = get_or_default above (i / 4) old other lt ∙ sym value in
      record {
        count = ap length e ∙ length-set above (i / 4) new ∙ (omega (arith, count, later));
        sound = subst (All IsSound) (sym e) (All-set IsSound above (i / 4) new new_sound so_far.sound);
        over = λ k d below there. subst (λ (xs : List CoverBox). HasRound xs (k / 4) d) (sym e) (elim (cases_lt k i) [
          | inl before ↦ round_set above (i / 4) (k / 4) old new d lt was (subst (λ (b : BoundingBox). IsInside (box_seen old) b) (sym joined) (first_inside (box_seen old) (box_seen under))) (so_far.over k d before there)
          | inr here ↦
              let same : k ≡ i = omega (arith, here, below) in
              let it = this_one k d same there in
              round_set_last above (i / 4) (k / 4) new d lt (ap (λ (n : ℕ). n / 4) same)
              (subst (λ (x : CoverBox). IsInside (box_seen x) (box_seen new)) (sym it) (subst (λ (b : BoundingBox). IsInside (box_seen under) b) (sym joined) (second_inside (box_seen old) (box_seen under))))
        ]);
      }

pub all_over : (boxes above : List CoverBox) (i : ℕ) → length boxes ≤ i → AreOverSome boxes above i → AreOver boxes 4 above
all_over boxes above i past h = λ k under there. h.over k under (let lt = slice_get_within boxes k under there in omega (arith, lt, past)) there

-- a box over each run of a level of runs is one over longer runs
pub over_both : (right unders above : List CoverBox) (width : ℕ) → AreOver right width unders → AreOver unders 4 above → AreOver right (width * 4) above
over_both right unders above width h g = λ i b there.
    let low = h i b there in
    let high = g (i / width) low.node low.there in
    record {
      node = high.node;
      there = ap (λ (n : ℕ). slice_get above n) (sym (div-div-eq-div-mul i width 4)) ∙ high.there;
      round = inside_over (box_seen b) (box_seen low.node) (box_seen high.node) low.round high.round;
    }

pub over_itself : (right : List CoverBox) → AreOver right (2 ^ 0) right
over_itself right = λ i b there.
    let same : i / 2 ^ 0 ≡ i = omega arith in
    record { node = b; there = ap (λ (n : ℕ). slice_get right n) same ∙ there; round = inside_itself (box_seen b) }
