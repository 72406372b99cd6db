-- The first pair that is too near, by a walk over boxes of runs.
use Rattle.std.proofs.Common.{◌≡◌, ◌∙◌, ◌+◌, ◌-◌, ◌++◌, ◌<◌, ◌≤◌, ◌∷◌, [], ℕ, List, Some, None, length, get_or, take, drop, take-append-drop, sym, ap, subst, arith, inl, inr}
use Rattle.std.specs.List.{All, AllPairs, slice_get}
use Rattle.std.proofs.lemmas.Bool.{cases_lt}
use Rattle.std.proofs.lemmas.List.{get_or_default}
use Rattle.std.proofs.lemmas.Option.{get_or_from_slice_get, slice_get-get_or, slice_get_within}
use Rattle.std.proofs.Math.Seq.{take-add}
use Rattle.hx_base.specs.declared.pixel.Pixel.{Pixel}
use Rattle.hx_base.specs.Boxes.{gap2_of}
use Rattle.hx_base.specs.Coverage.{AreNear}
use Rattle.hx_cover.specs.CoverBoxes.{box_seen}
use Rattle.hx_cover.specs.TooNear.{AreTooNear, IsFirstTooNear}
use Rattle.hx_cover.specs.Trees.{AreAllNear, AreFarOrIn}
use Rattle.hx_cover.specs.Bounds.{IsInside}
use Rattle.hx_cover.specs.declared.bounds.CoverBox.{CoverBox}
use Rattle.hx_cover.specs.declared.bounds.TooNear.{TooNear}
use Rattle.hx_cover.proofs.Firsts.{found_first, none_first}
use Rattle.hx_cover.proofs.NearPixels.{found_to, none_to}
use Rattle.hx_cover.proofs.Unions.{gap_of_round, inside_itself}
use Rattle.hx_cover.proofs.Walks.{one_got, rising}

-- no right box before an index is too near
abbrev pub NonePassed : List Pixel → ℕ → ℕ → CoverBox → List CoverBox → ℕ → Type 0
NonePassed parts m r2 a right at = (i : ℕ) (b : CoverBox) → i < at → slice_get right i ≡ Some b → ¬ (AreTooNear parts m r2 a b)

module _ (parts : List Pixel) (m r2 : ℕ) (a : CoverBox) (right : List CoverBox) where
  pub none_on : (first end at next : ℕ) → NonePassed parts m r2 a right at → AreAllNear parts m right first end a.pixel a.pixel → AreFarOrIn a r2 right first end at next → NonePassed parts m r2 a right next
  none_on first end at next none near passed = λ i b lt there both.
      elim (cases_lt i at) [
        | inl before ↦ none i b before there both
        | inr here ↦ elim (passed i b here lt there) [
          | inl within ↦ both.apart (near i b within.0 within.1 there a.pixel (omega arith) (omega arith))
          | inr far ↦ let le = both.within in absurd (omega (arith, far, le))
        ]
      ]

  pub none_next : (next : ℕ) (b : CoverBox) → NonePassed parts m r2 a right next → slice_get right next ≡ Some b → ¬ (AreTooNear parts m r2 a b) → NonePassed parts m r2 a right (next + 1)
  none_next next b none is off = λ i d lt there both.
      elim (cases_lt i next) [
        | inl before ↦ none i d before there both
        | inr here ↦
            let same : i ≡ next = omega (arith, here, lt) in
            let it : d ≡ b = one_got right i d b there (ap (λ (n : ℕ). slice_get right n) same ∙ is) in
            off (subst (λ (x : CoverBox). AreTooNear parts m r2 a x) it both)
      ]

  pub none_at_end : (at : ℕ) → NonePassed parts m r2 a right at → length right ≤ at → IsFirstTooNear parts m r2 (a ∷ []) right None
  none_at_end at none past = none_to parts m r2 a right (λ k d low lt. none k (get_or right k d) (omega (arith, lt, past)) (slice_get-get_or right k d lt))

  pub found_at : (next gap2 : ℕ) (b : CoverBox) → NonePassed parts m r2 a right next → slice_get right next ≡ Some b → AllPairs (λ a b. a.pixel < b.pixel) right → gap2 ≡ gap2_of (box_seen a) (box_seen b) → gap2 ≤ r2
      → ¬ (AreNear parts m a.pixel b.pixel) → IsFirstTooNear parts m r2 (a ∷ []) right (Some (record { left = a.pixel; right = b.pixel; gap2 = gap2 }))
  found_at next gap2 b none is up gap le apart =
      let within = slice_get_within right next b is in
      found_to parts m r2 next gap2 a b right (λ k d low lt. none k (get_or right k d) lt (slice_get-get_or right k d (omega (arith, lt, within)))) within (sym (get_or_from_slice_get right next b b is)) up gap le apart

-- some left boxes, by a box round them
pub none_of_run : (parts : List Pixel) (m r2 p q first end n : ℕ) (all : CoverBox) (run right : List CoverBox) → All (λ a. IsInside (box_seen a) (box_seen all)) run → All (λ a. (p ≤ a.pixel) × (a.pixel ≤ q)) run
    → AreAllNear parts m right first end p q → AreFarOrIn all r2 right first end 0 n → length right ≤ n → IsFirstTooNear parts m r2 run right None
none_of_run parts m r2 p q first end n all run right round between near passed past = λ k d lt. λ j e below both.
    let a = get_or run k d in
    let b = get_or right j e in
    let there = slice_get-get_or right j e below in
    let bounds = between k d lt in
    elim (passed j b (omega arith) (omega (arith, below, past)) there) [
      | inl within ↦ both.apart (near j b within.0 within.1 there a.pixel bounds.0 bounds.1)
      | inr far ↦
          let le = gap_of_round (box_seen a) (box_seen b) (box_seen all) (box_seen b) (round k d lt) (inside_itself (box_seen b)) in
          let within = both.within in
          absurd (omega (arith, far, le, within))
    ]

pub between_ends : (run : List CoverBox) (first last : CoverBox) → 0 < length run → first ≡ get_or run 0 first → last ≡ get_or run (length run - 1) last → AllPairs (λ a b. a.pixel < b.pixel) run
    → All (λ a. (first.pixel ≤ a.pixel) × (a.pixel ≤ last.pixel)) run
between_ends run first last some is_first is_last up = λ k d lt.
    let low = rising run 0 k d up (omega arith) lt in
    let high = rising run k (length run - 1) d up (omega (arith, lt)) (omega (arith, some)) in
    let f : first ≡ get_or run 0 d = is_first ∙ get_or_default run 0 first d some in
    let l : last ≡ get_or run (length run - 1) d = is_last ∙ get_or_default run (length run - 1) last d (omega (arith, some)) in (
      subst (λ (x : CoverBox). x.pixel ≤ (get_or run k d).pixel) (sym f) low,
      subst (λ (x : CoverBox). (get_or run k d).pixel ≤ x.pixel) (sym l) high,
    )

-- a run after those before it
module _ (parts : List Pixel) (m r2 at end : ℕ) (left right run : List CoverBox) (none : IsFirstTooNear parts m r2 (take at left) right None) (is : run ≡ take (end - at) (drop at left)) (le : at ≤ end) where
  up_to : take end left ≡ take at left ++ run
  up_to =
      let sum : end ≡ at + (end - at) = omega (arith, le) in
      ap (λ (n : ℕ). take n left) sum ∙ take-add at (end - at) left ∙ ap (λ (xs : List CoverBox). take at left ++ xs) (sym is)

  pub run_none : IsFirstTooNear parts m r2 run right None → IsFirstTooNear parts m r2 (take end left) right None
  run_none h = subst (λ (xs : List CoverBox). IsFirstTooNear parts m r2 xs right None) (sym up_to) (none_first parts m r2 (take at left) run right None none h)

  pub run_found : (found : TooNear) → AllPairs (λ a b. a.pixel < b.pixel) left → IsFirstTooNear parts m r2 run right (Some found) → IsFirstTooNear parts m r2 left right (Some found)
  run_found found up h =
      let so_far : IsFirstTooNear parts m r2 (take end left) right (Some found) = subst (λ (xs : List CoverBox). IsFirstTooNear parts m r2 xs right (Some found)) (sym up_to) (none_first parts m r2 (take at left) run right (Some found) none h) in
      let whole : take end left ++ drop end left ≡ left = take-append-drop end left in
      let rising = subst (λ (xs : List CoverBox). AllPairs (λ a b. a.pixel < b.pixel) xs) (sym whole) up in
      subst (λ (xs : List CoverBox). IsFirstTooNear parts m r2 xs right (Some found)) whole (found_first parts m r2 (take end left) (drop end left) right found rising so_far)
