-- The partitions that hold positions: no position has two.
use Rattle.std.proofs.Common.{◌≡◌, ◌≢◌, ◌∙◌, ◌∷◌, ◌++◌, [], ◌<◌, ◌⊎◌, ℕ, List, Some, None, get_or, sym, ap, subst, inl, inr}
use Rattle.std.specs.List.{Contains, slice_get}
use Rattle.std.proofs.lemmas.Bool.{cases_order}
use Rattle.std.proofs.lemmas.List.{get_or_default}
use Rattle.std.proofs.lemmas.List.Elements.{Contains-append_left, Contains-push, Contains-push_cases}
use Rattle.std.proofs.lemmas.List.Quantifiers.{all_pairs_push}
use Rattle.std.proofs.lemmas.Option.{get_or_from_slice_get, slice_get-get_or, slice_get_within}
use Rattle.hx_base.specs.declared.pixel.Pixel.{Pixel}
use Rattle.hx_base.specs.Pixels.{AreDisjointInOrder, HoldsPosition}
use Rattle.hx_ptree.specs.Searches.{IsHolder}
use Rattle.hx_margin.specs.Steps.{AddsOther, IsOther}

module _ (parts : List Pixel) (disjoint : AreDisjointInOrder parts) where
  never : (i j : ℕ) (p q : Pixel) (position : ℕ) → i < j → slice_get parts i ≡ Some p → slice_get parts j ≡ Some q → HoldsPosition p position → HoldsPosition q position → ⊥
  never i j p q position lt at_i at_j holds_p holds_q =
      let first : HoldsPosition (get_or parts i p) position = subst (λ (x : Pixel). HoldsPosition x position) (sym (get_or_from_slice_get parts i p p at_i)) holds_p in
      let second : HoldsPosition (get_or parts j p) position = subst (λ (x : Pixel). HoldsPosition x position) (sym (get_or_from_slice_get parts j q p at_j)) holds_q in
      disjoint.disjoint i j p lt (slice_get_within parts j q at_j) position first second

  -- one partition holds a position
  pub one_index : (i j : ℕ) (p q : Pixel) (position : ℕ) → slice_get parts i ≡ Some p → slice_get parts j ≡ Some q → HoldsPosition p position → HoldsPosition q position → i ≡ j
  one_index i j p q position at_i at_j holds_p holds_q =
      elim (cases_order i j) [
        | inl same ↦ same
        | inr (inl up) ↦ absurd (never i j p q position up at_i at_j holds_p holds_q)
        | inr (inr down) ↦ absurd (never j i q p position down at_j at_i holds_q holds_p)
      ]

  at_contained : (p : Pixel) (here : Contains parts p) → slice_get parts here.0 ≡ Some p
  at_contained p here = slice_get-get_or parts here.0 p here.1 ∙ ap (λ (x : Pixel). Some x) here.2

  pub one_holding : (p q : Pixel) (position : ℕ) → Contains parts p → Contains parts q → HoldsPosition p position → HoldsPosition q position → p ≡ q
  one_holding p q position in_p in_q holds_p holds_q =
      let at_p = at_contained p in_p in
      let at_q = at_contained q in_q in
      let same = one_index in_p.0 in_q.0 p q position at_p at_q holds_p holds_q in
      let both : Some p ≡ Some q = sym at_p ∙ ap (λ (i : ℕ). slice_get parts i) same ∙ at_q in
      cc

  -- the number of the holder is pushed
  pub other_pushed : (own position holder : ℕ) (old : List ℕ) → IsHolder parts position (Some holder) → ¬ ((holder ≡ own) ⊎ Contains old holder) → AddsOther parts own position old (old ++ holder ∷ [])
  other_pushed own position holder old is off = record {
    members = λ number. (
      λ h. elim (Contains-push_cases old holder number h) [
        | inl had ↦ inl had
        | inr same ↦ inr (subst (λ (n : ℕ). IsOther parts own position n) same (is, λ e. off (inl e)))
      ],
      λ h. elim h [
        | inl had ↦ Contains-append_left old (holder ∷ []) number had
        | inr other ↦
            let same = one_index holder number is.0 other.0.0 position is.1 other.0.1 is.2 other.0.2 in
            subst (λ (n : ℕ). Contains (old ++ holder ∷ []) n) same (Contains-push old holder)
      ],
    );
    once = λ apart. all_pairs_push (λ (a : ℕ) (b : ℕ). a ≢ b) old holder apart (λ k d lt e. off (inr (k, lt, get_or_default old k holder d lt ∙ e)));
  }

  -- the number of the holder is known already
  pub other_known : (own position holder : ℕ) (old : List ℕ) → IsHolder parts position (Some holder) → (holder ≡ own) ⊎ Contains old holder → AddsOther parts own position old old
  other_known own position holder old is known = record {
    members = λ number. (
      λ h. inl h,
      λ h. elim h [
        | inl had ↦ had
        | inr other ↦
            let same = one_index holder number is.0 other.0.0 position is.1 other.0.1 is.2 other.0.2 in
            elim known [
              | inl e ↦ absurd (other.1 (sym same ∙ e))
              | inr had ↦ subst (λ (n : ℕ). Contains old n) same had
            ]
      ],
    );
    once = λ apart. apart;
  }

  -- no partition holds the position
  pub other_none : (own position : ℕ) (old : List ℕ) → IsHolder parts position None → AddsOther parts own position old old
  other_none own position old none = record {
    members = λ number. (
      λ h. inl h,
      λ h. elim h [
        | inl had ↦ had
        | inr other ↦
            let there = other.0.1 in
            let within = slice_get_within parts number other.0.0 there in
            absurd (none number other.0.0 within (subst (λ (x : Pixel). HoldsPosition x position) (sym (get_or_from_slice_get parts number other.0.0 other.0.0 there)) other.0.2))
      ],
    );
    once = λ apart. apart;
  }
