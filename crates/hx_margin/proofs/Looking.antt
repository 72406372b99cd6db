-- The partitions beside a pixel are those, but its own, that hold the first positions of the pixels that touch it.
use Rattle.std.proofs.Common.{◌≡◌, ◌≢◌, ◌∙◌, ◌+◌, ◌-◌, ◌/◌, ◌^◌, [], ◌<◌, ◌≤◌, ◌↔◌, ℕ, List, Some, length, sym, ap, subst, arith, inl, inr}
use Rattle.std.specs.List.{All, AllPairs, Contains, slice_get, slice_index}
use Rattle.std.proofs.lemmas.Bool.{cases_eq}
use Rattle.std.proofs.lemmas.List.{get_or_default}
use Rattle.std.proofs.lemmas.List.Elements.{Contains-get_or}
use Rattle.std.proofs.lemmas.Option.{get_or_from_slice_get, slice_get_within}
use Rattle.hx_base.specs.declared.pixel.Pixel.{Pixel}
use Rattle.hx_base.specs.Pixels.{AreDisjointInOrder, HoldsPosition, LiesIn, first_position}
use Rattle.hx_base.specs.Touching.{Touch}
use Rattle.hx_ptree.specs.Searches.{IsHolder}
use Rattle.hx_margin.specs.Beside.{AreBeside, IsBesideAt, margin_pixel}
use Rattle.hx_margin.specs.Steps.{AddsOther, IsIn, IsOther}
use Rattle.hx_margin.proofs.Holders.{one_index}
use Rattle.hx_margin.proofs.Reach.{first_up}

-- what was found at the first so many of the pixels that touch one
pub record AreFoundAt (parts : List Pixel) (own margin_order : ℕ) (around : List ℕ) (count : ℕ) (numbers : List ℕ) : Type 0 where
  pub members : (number : ℕ) → Contains numbers number ↔ ((j : ℕ) × (j < count) × IsOther parts own (first_position (margin_pixel margin_order (slice_index around j))) number)
  pub once : AllPairs (λ a b. a ≢ b) numbers

-- an element at its place
pub at_edge : (around : List ℕ) (edge : ℕ) (among : Contains around edge) → slice_index around among.0 ≡ edge
at_edge around edge among = get_or_default around among.0 0 edge among.1 ∙ among.2

pub none_found : (parts : List Pixel) (own m : ℕ) (around numbers : List ℕ) → numbers ≡ [] → AreFoundAt parts own m around 0 numbers
none_found parts own m around numbers none = record {
  members = λ number. (λ h. absurd (let lt = h.1 in let size = ap length none in omega (arith, lt, size)), λ h. absurd (omega (arith, h.1)));
  once = λ i j d lt within. absurd (let size = ap length none in omega (arith, within, size));
}

pub one_found : (parts : List Pixel) (own m : ℕ) (around : List ℕ) (i position : ℕ) (old new : List ℕ) → AreFoundAt parts own m around i old → position ≡ first_position (margin_pixel m (slice_index around i))
    → AddsOther parts own position old new → AreFoundAt parts own m around (i + 1) new
one_found parts own m around i position old new before at adds = record {
  members = λ number. (
    λ h. elim ((adds.members number).0 h) [
      | inl had ↦ let found = (before.members number).0 had in (found.0, omega (arith, found.1), found.2)
      | inr other ↦ (i, omega arith, subst (λ (p : ℕ). IsOther parts own p number) at other)
    ],
    λ h. (adds.members number).1 (elim (cases_eq h.0 i) [
      | inl last ↦ inr (subst (λ (p : ℕ). IsOther parts own p number) (sym at) (subst (λ (j : ℕ). IsOther parts own (first_position (margin_pixel m (slice_index around j))) number) last h.2))
      | inr other ↦ inl ((before.members number).1 (h.0, omega (arith, h.1, other), h.2))
    ]),
  );
  once = adds.once before.once;
}

module _ (parts : List Pixel) (m : ℕ) (low : m ≤ 29) (disjoint : AreDisjointInOrder parts) (orders : All (λ part. part.order ≤ m) parts) where
  fits : (number : ℕ) (part : Pixel) → slice_get parts number ≡ Some part → part.order ≤ m
  fits number part there = subst (λ (p : Pixel). p.order ≤ m) (get_or_from_slice_get parts number part part there) (orders number part (slice_get_within parts number part there))

  -- a pixel lies in a partition exactly where the partition holds its first position
  holds_first : (part : Pixel) (n : ℕ) → part.order ≤ m → LiesIn (margin_pixel m n) part ↔ HoldsPosition part (first_position (margin_pixel m n))
  holds_first part n le = (λ h. sym (first_up part m n le low) ∙ h.number, λ h. record { order = le; number = first_up part m n le low ∙ h })

  -- a pixel lies in one partition
  one_part : (a b : ℕ) (p q : Pixel) (n : ℕ) → slice_get parts a ≡ Some p → slice_get parts b ≡ Some q → LiesIn (margin_pixel m n) p → LiesIn (margin_pixel m n) q → a ≡ b
  one_part a b p q n at_a at_b in_p in_q = one_index parts disjoint a b p q (first_position (margin_pixel m n)) at_a at_b ((holds_first p n in_p.order).0 in_p) ((holds_first q n in_q.order).0 in_q)

  same_part : (a b : ℕ) (p q : Pixel) → a ≡ b → slice_get parts a ≡ Some p → slice_get parts b ≡ Some q → p ≡ q
  same_part a b p q e at_a at_b = let both : Some p ≡ Some q = sym at_a ∙ ap (λ (i : ℕ). slice_get parts i) e ∙ at_b in cc

  module _ (own order pixel : ℕ) (home : IsIn parts own order m pixel) where
    -- a partition beside it is another than its own
    not_own : (number : ℕ) → IsBesideAt parts m pixel number → number ≢ own
    not_own number h e = h.beside.outside (subst (λ (p : Pixel). LiesIn (margin_pixel m pixel) p) (same_part own number home.part h.part (sym e) home.there h.there) home.lies)

    -- a partition that isn't its own doesn't hold it
    outside : (number : ℕ) (part : Pixel) → slice_get parts number ≡ Some part → number ≢ own → ¬ (LiesIn (margin_pixel m pixel) part)
    outside number part there other lies = other (one_part number own part home.part pixel there home.there lies home.lies)

    pub beside_found : (around numbers : List ℕ) (count : ℕ) → length around ≤ count → ((q : ℕ) → Contains around q ↔ Touch m pixel q) → AreFoundAt parts own m around count numbers → count ≤ length around → AreBeside parts m pixel numbers
    beside_found around numbers count all touching found within = record {
      members = λ number. (
        λ h.
            let at = (found.members number).0 h in
            let part = at.2.0.0 in
            let there = at.2.0.1 in
            let edge = slice_index around at.0 in
            let touch = (touching (slice_index around at.0)).0 (Contains-get_or around at.0 0 (omega (arith, at.1, within))) in
            record {
              part = part;
              there = there;
              beside = record {
                outside = outside number part there at.2.1;
                edge = edge;
                inside = (holds_first part (slice_index around at.0) (fits number part there)).1 at.2.0.2;
                touches = touch;
              };
            },
        λ h.
            let among = (touching h.beside.edge).1 h.beside.touches in
            let first = (holds_first h.part h.beside.edge h.beside.inside.order).0 h.beside.inside in
            let same = at_edge around h.beside.edge among in
            let holder : IsHolder parts (first_position (margin_pixel m (slice_index around among.0))) (Some number) = (h.part, h.there, subst (λ (n : ℕ). HoldsPosition h.part (first_position (margin_pixel m n))) (sym same) first) in
            (found.members number).1 (among.0, omega (arith, among.1, all), (holder, not_own number h)),
      );
      once = found.once;
    }

    -- no partition is beside an inner pixel
    pub none_beside : (numbers : List ℕ) → numbers ≡ [] → ((q : ℕ) → Touch m pixel q → q / 4 ^ (m - order) ≡ pixel / 4 ^ (m - order)) → AreBeside parts m pixel numbers
    none_beside numbers none stays = record {
      members = λ number. (
        λ h. absurd (let lt = h.1 in let size = ap length none in omega (arith, lt, size)),
        λ h.
            let q = h.beside.edge in
            let same = stays q h.beside.touches in
            let up : q / 4 ^ (m - home.part.order) ≡ pixel / 4 ^ (m - home.part.order) = subst (λ (k : ℕ). q / 4 ^ (m - k) ≡ pixel / 4 ^ (m - k)) (sym home.same_order) same in
            let inside : LiesIn (margin_pixel m q) home.part = record { order = home.lies.order; number = up ∙ home.lies.number } in
            absurd (not_own number h (one_part number own h.part home.part q h.there home.there h.beside.inside inside)),
      );
      once = λ i j d lt within. absurd (let size = ap length none in omega (arith, within, size));
    }
