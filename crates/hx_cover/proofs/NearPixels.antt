-- Two pixels of the cover order are near exactly where the test says so; and the search over all pairs.
use Rattle.std.proofs.Common.{◌≡◌, ◌∙◌, ◌+◌, ◌-◌, ◌*◌, ◌/◌, ◌^◌, ◌<◌, ◌≤◌, ◌⊎◌, ◌↔◌, ◌∷◌, [], ℕ, List, Bool, IsTrue, Option, Some, None, false, zero, suc, length, get_or, take, drop, ◌++◌, take-suc, take_all, take-append-drop, add-one, refl, sym, ap, subst, arith, inl, inr}
use Rattle.std.specs.List.{All, AllPairs, AllWithin, Contains}
use Rattle.std.proofs.lemmas.Bool.{cases_lt, false≢true}
use Rattle.std.proofs.lemmas.List.Elements.{All-cons, All-contains, All-nil}
use Rattle.std.proofs.lemmas.List.{get_or_default}
use Rattle.std.proofs.lemmas.Nat.{pow-add}
use Rattle.std.proofs.lemmas.Option.{get_or_from_slice_get, slice_get_within}
use Rattle.hx_base.specs.declared.pixel.Pixel.{Pixel}
use Rattle.hx_base.specs.Coverage.{AreNear, ShareAPartition, cover_pixel}
use Rattle.hx_base.specs.Pixels.{AreDisjointInOrder, HoldsPosition, IsPixel, LiesIn, first_position, pixel_of}
use Rattle.hx_base.specs.Touching.{Touch}
use Rattle.hx_base.proofs.Partitions.{holds_outer, up_again}
use Rattle.hx_ptree.specs.Searches.{IsHolder}
use Rattle.hx_base.proofs.Ranges.{first_held}
use Rattle.hx_base.specs.Boxes.{gap2_of}
use Rattle.hx_cover.specs.CoverBoxes.{box_seen}
use Rattle.hx_cover.proofs.Firsts.{found_first, none_first}
use Rattle.hx_cover.specs.Tested.{HaveOneHolder}
use Rattle.hx_cover.specs.TooNear.{AreTooNear, IsFirstTooNear}
use Rattle.hx_cover.specs.declared.bounds.CoverBox.{CoverBox}
use Rattle.hx_cover.specs.declared.bounds.TooNear.{TooNear}

-- the index of the partition that holds a position
pub held_at : (parts : List Pixel) (place : ℕ) (o : Option ℕ) (part : Pixel) → AreDisjointInOrder parts → IsHolder parts place o → (k : ℕ) → k < length parts → get_or parts k part ≡ part → HoldsPosition part place → o ≡ Some k
held_at parts place None part apart h k lt is holds = absurd (All-contains (λ p. ¬ (HoldsPosition p place)) parts part h (k, lt, is) holds)
held_at parts place (Some i) part apart (other, at, held) k lt is holds =
    let within = slice_get_within parts i other at in
    let is_other : get_or parts i part ≡ other = get_or_from_slice_get parts i other part at in
    let first : HoldsPosition (get_or parts i part) place = subst (λ (p : Pixel). HoldsPosition p place) (sym is_other) held in
    let second : HoldsPosition (get_or parts k part) place = subst (λ (p : Pixel). HoldsPosition p place) (sym is) holds in
    elim (cases_lt i k) [
      | inl less ↦ absurd (apart.disjoint i k part less lt place first second)
      | inr le ↦ elim (cases_lt k i) [
        | inl more ↦ absurd (apart.disjoint k i part more within place second first)
        | inr ge ↦ let same : i ≡ k = omega arith in ap Some same
      ]
    ]

pub one_holder : (parts : List Pixel) (a b i j : ℕ) → IsHolder parts a (Some i) → IsHolder parts b (Some j) → i ≡ j → HaveOneHolder parts a b
one_holder parts a b i j (first, at_first, holds_first) (second, at_second, holds_second) same =
    let within = slice_get_within parts i first at_first in
    let is_first = get_or_from_slice_get parts i first first at_first in
    let is_second : get_or parts j first ≡ second = get_or_from_slice_get parts j second first at_second in
    let one : second ≡ first = sym is_second ∙ ap (λ (n : ℕ). get_or parts n first) (sym same) ∙ is_first in
    record { part = first; member = (i, within, is_first); first = holds_first; second = subst (λ (p : Pixel). HoldsPosition p b) one holds_second }

pub indices_agree : (parts : List Pixel) (a b : ℕ) (i j : Option ℕ) → AreDisjointInOrder parts → IsHolder parts a i → IsHolder parts b j → HaveOneHolder parts a b → i ≡ j
indices_agree parts a b i j apart hi hj h =
    held_at parts a i h.part apart hi h.member.0 h.member.1 h.member.2 h.first ∙ sym (held_at parts b j h.part apart hj h.member.0 h.member.1 h.member.2 h.second)

-- a pixel's first position is in it
first_number : (m number : ℕ) → pixel_of (m + 2) (first_position (cover_pixel m number)) ≡ number
first_number m number = first_held (cover_pixel m number)

-- one holder of both first positions contains both pixels; or it is finer, and they are one
lies_in : (m number : ℕ) (part : Pixel) → m + 2 ≤ 29 → part.order ≤ m + 2 → HoldsPosition part (first_position (cover_pixel m number)) → LiesIn (cover_pixel m number) part
unfolding pixel_of
lies_in m number part within le holds = record {
  order = le;
  number = ap (λ (n : ℕ). n / 4 ^ (m + 2 - part.order)) (sym (first_number m number)) ∙ up_again 29 (m + 2) part.order (first_position (cover_pixel m number)) le within ∙ holds;
}

finer_holds : (m : ℕ) (part : Pixel) (a b : ℕ) → m + 2 ≤ part.order → part.order ≤ 29 → HoldsPosition part a → HoldsPosition part b → pixel_of (m + 2) a ≡ pixel_of (m + 2) b
unfolding pixel_of
finer_holds m part a b le within ha hb =
    sym (up_again 29 part.order (m + 2) a le within) ∙ ap (λ (n : ℕ). n / 4 ^ (part.order - (m + 2))) (ha ∙ sym hb) ∙ up_again 29 part.order (m + 2) b le within

pub near_by_holder : (parts : List Pixel) (m p q : ℕ) → m ≤ 27 → AreDisjointInOrder parts → HaveOneHolder parts (first_position (cover_pixel m p)) (first_position (cover_pixel m q)) → AreNear parts m p q
near_by_holder parts m p q within apart h =
    let exists = All-contains IsPixel parts h.part apart.each h.member in
    elim (cases_lt (m + 2) h.part.order) [
      | inl finer ↦
          let same = finer_holds m h.part (first_position (cover_pixel m p)) (first_position (cover_pixel m q)) (omega arith) exists.order h.first h.second in
          inl (ap (λ (n : ℕ). n / 16) (sym (first_number m p) ∙ same ∙ first_number m q))
      | inr coarser ↦ inr (inr (record { part = h.part; member = h.member; first = lies_in m p h.part (omega arith) coarser h.first; second = lies_in m q h.part (omega arith) coarser h.second }))
    ]

pub holder_of_both : (parts : List Pixel) (m p q : ℕ) → m ≤ 27 → ShareAPartition parts (cover_pixel m p) (cover_pixel m q) → HaveOneHolder parts (first_position (cover_pixel m p)) (first_position (cover_pixel m q))
holder_of_both parts m p q within h = record {
  part = h.part;
  member = h.member;
  first = holds_outer (cover_pixel m p) h.part (first_position (cover_pixel m p)) (omega (arith, within)) h.first (first_held (cover_pixel m p));
  second = holds_outer (cover_pixel m q) h.part (first_position (cover_pixel m q)) (omega (arith, within)) h.second (first_held (cover_pixel m q));
}

pub ancestor_below : (m p : ℕ) → p < 12 * 4 ^ (m + 2) → p / 16 < 12 * 4 ^ m
ancestor_below m p below =
    let e : 4 ^ (m + 2) ≡ 4 ^ m * 16 = pow-add 4 m 2 in
    omega (arith, e, below)

-- where the ancestors don't meet, the holders tell
pub near_else : (parts : List Pixel) (m p q a b : ℕ) (meets one : Bool) → m ≤ 27 → AreDisjointInOrder parts → a ≡ first_position (cover_pixel m p) → b ≡ first_position (cover_pixel m q) → meets ≡ false
    → IsTrue meets ↔ ((p / 16 ≡ q / 16) ⊎ Touch m (p / 16) (q / 16)) → IsTrue one ↔ HaveOneHolder parts a b → IsTrue one ↔ AreNear parts m p q
near_else parts m p q a b meets one within apart is_a is_b off tells says =
    let no_meeting : (p / 16 ≡ q / 16) ⊎ Touch m (p / 16) (q / 16) → ⊥ = λ h. let t = tells.1 h in false≢true (sym off ∙ t) in (
      λ t. near_by_holder parts m p q within apart (subst (λ (n : ℕ). HaveOneHolder parts n (first_position (cover_pixel m q))) is_a (subst (λ (n : ℕ). HaveOneHolder parts a n) is_b (says.0 t))),
      λ near. elim near [
        | inl same ↦ absurd (no_meeting (inl same))
        | inr (inl touch) ↦ absurd (no_meeting (inr touch))
        | inr (inr h) ↦ says.1 (subst (λ (n : ℕ). HaveOneHolder parts n b) (sym is_a) (subst (λ (n : ℕ). HaveOneHolder parts (first_position (cover_pixel m p)) n) (sym is_b) (holder_of_both parts m p q within h)))
      ],
    )

-- the right boxes up to one, none of them too near
pub none_to : (parts : List Pixel) (m r2 : ℕ) (a : CoverBox) (right : List CoverBox) → AllWithin (λ b. ¬ (AreTooNear parts m r2 a b)) right 0 (length right) → IsFirstTooNear parts m r2 (a ∷ []) right None
none_to parts m r2 a right none =
    All-cons (λ a. All (λ b. ¬ (AreTooNear parts m r2 a b)) right) a [] (λ k d lt. none k d (omega arith) lt) (All-nil (λ a. All (λ b. ¬ (AreTooNear parts m r2 a b)) right))

pub more_to : (parts : List Pixel) (m r2 n : ℕ) (a b : CoverBox) (right : List CoverBox) → AllWithin (λ b. ¬ (AreTooNear parts m r2 a b)) right 0 n → n < length right → b ≡ get_or right n b → ¬ (AreTooNear parts m r2 a b)
    → AllWithin (λ b. ¬ (AreTooNear parts m r2 a b)) right 0 (n + 1)
more_to parts m r2 n a b right none within is off = λ k d low lt.
    elim (cases_lt k n) [
      | inl before ↦ none k d low before
      | inr at ↦
          let here : k ≡ n = omega arith in
          let same : get_or right k d ≡ b = ap (λ (i : ℕ). get_or right i d) here ∙ get_or_default right n d b within ∙ sym is in
          subst (λ (x : CoverBox). ¬ (AreTooNear parts m r2 a x)) (sym same) off
    ]

pub found_to : (parts : List Pixel) (m r2 n gap2 : ℕ) (a b : CoverBox) (right : List CoverBox) → AllWithin (λ b. ¬ (AreTooNear parts m r2 a b)) right 0 n → n < length right → b ≡ get_or right n b → AllPairs (λ a b. a.pixel < b.pixel) right
    → gap2 ≡ gap2_of (box_seen a) (box_seen b) → gap2 ≤ r2 → ¬ (AreNear parts m a.pixel b.pixel) → IsFirstTooNear parts m r2 (a ∷ []) right (Some (record { left = a.pixel; right = b.pixel; gap2 = gap2 }))
found_to parts m r2 n gap2 a b right none within is up gap le apart =
    record {
      a = a;
      b = b;
      is_left = (0, omega arith, refl);
      is_right = (n, within, sym is);
      too_near = record { within = omega (arith, gap, le); apart = apart };
      left_is = refl;
      right_is = refl;
      gap_is = gap;
      least = λ c d in_left in_right near. later c d in_left in_right near;
    }
  where
    only : (c : CoverBox) → Contains (a ∷ []) c → a ≡ c
    only c (zero, lt, same) = same
    only c (suc k, lt, same) = absurd (omega (arith, lt))

    later : (c d : CoverBox) → Contains (a ∷ []) c → Contains right d → AreTooNear parts m r2 c d → (a.pixel < c.pixel) ⊎ ((a.pixel ≡ c.pixel) × (b.pixel ≤ d.pixel))
    later c d in_left in_right near =
        let one = only c in_left in
        let at_d : get_or right in_right.0 b ≡ d = get_or_default right in_right.0 b d in_right.1 ∙ in_right.2 in
        elim (cases_lt in_right.0 n) [
          | inl before ↦
              absurd (none in_right.0 b (omega arith) before (subst (λ (x : CoverBox). AreTooNear parts m r2 a x) (sym at_d) (subst (λ (x : CoverBox). AreTooNear parts m r2 x d) (sym one) near)))
          | inr from ↦ elim (cases_lt n in_right.0) [
            | inl after ↦
                let lt = up n in_right.0 b after in_right.1 in
                inr (ap (λ (x : CoverBox). x.pixel) one, let less = subst (λ (x : CoverBox). (get_or right n b).pixel < x.pixel) at_d lt in let mine = ap (λ (x : CoverBox). x.pixel) is in omega (arith, less, mine))
            | inr at ↦
                let here : n ≡ in_right.0 = omega arith in
                let same : b ≡ d = is ∙ ap (λ (i : ℕ). get_or right i b) here ∙ at_d in
                inr (ap (λ (x : CoverBox). x.pixel) one, let e = ap (λ (x : CoverBox). x.pixel) same in omega (arith, e))
          ]
        ]

-- the left boxes up to one have no pair
module _ (parts : List Pixel) (m r2 n : ℕ) (a : CoverBox) (left right : List CoverBox) (none : IsFirstTooNear parts m r2 (take n left) right None) (within : n < length left) (is : a ≡ get_or left n a) where
  next : take (n + 1) left ≡ take n left ++ a ∷ []
  next = ap (λ (i : ℕ). take i left) (add-one n) ∙ take-suc left n a within ∙ ap (λ (x : CoverBox). take n left ++ x ∷ []) (sym is)

  pub more_none : IsFirstTooNear parts m r2 (a ∷ []) right None → IsFirstTooNear parts m r2 (take (n + 1) left) right None
  more_none h = subst (λ (xs : List CoverBox). IsFirstTooNear parts m r2 xs right None) (sym next) (none_first parts m r2 (take n left) (a ∷ []) right None none h)

  pub found_in : (found : TooNear) → AllPairs (λ a b. a.pixel < b.pixel) left → IsFirstTooNear parts m r2 (a ∷ []) right (Some found) → IsFirstTooNear parts m r2 left right (Some found)
  found_in found up h =
      let so_far : IsFirstTooNear parts m r2 (take (n + 1) left) right (Some found) = subst (λ (xs : List CoverBox). IsFirstTooNear parts m r2 xs right (Some found)) (sym next) (none_first parts m r2 (take n left) (a ∷ []) right (Some found) none h) in
      let whole : take (n + 1) left ++ drop (n + 1) left ≡ left = take-append-drop (n + 1) left in
      let rising = subst (λ (xs : List CoverBox). AllPairs (λ a b. a.pixel < b.pixel) xs) (sym whole) up in
      subst (λ (xs : List CoverBox). IsFirstTooNear parts m r2 xs right (Some found)) whole (found_first parts m r2 (take (n + 1) left) (drop (n + 1) left) right found rising so_far)

pub first_none : (parts : List Pixel) (m r2 : ℕ) (left right : List CoverBox) (o : Option TooNear) → IsFirstTooNear parts m r2 left right o → ((found : TooNear) → o ≡ Some found → ⊥) → IsFirstTooNear parts m r2 left right None
first_none parts m r2 left right None h off = h
first_none parts m r2 left right (Some found) h off = absurd (off found refl)

pub whole_none : (parts : List Pixel) (m r2 n : ℕ) (left right : List CoverBox) → IsFirstTooNear parts m r2 (take n left) right None → length left ≤ n → IsFirstTooNear parts m r2 left right None
whole_none parts m r2 n left right h past = subst (λ (xs : List CoverBox). IsFirstTooNear parts m r2 xs right None) (take_all n left past) h
