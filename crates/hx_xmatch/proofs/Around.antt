-- The partitions round a pixel, by their indices.
use Rattle.std.proofs.Common.{◌≡◌, ◌≤◌, ◌<◌, ◌*◌, ◌^◌, ◌++◌, ◌∷◌, ◌⊎◌, ℕ, List, Option, Some, None, length, take, drop, Contains, get_or, zero, suc, refl, sym, ap, subst, arith, inl, inr}
use Rattle.std.specs.Prelude.{slice_get, All}
use Rattle.std.specs.List.{AllWithin, insert}
use Rattle.std.proofs.lemmas.Bool.{cases_order}
use Rattle.std.proofs.lemmas.List.{get_or-take, length-take, take-append-drop}
use Rattle.std.proofs.lemmas.Option.{get_or_from_slice_get, slice_get-get_or, slice_get_within}
use Rattle.std.proofs.lemmas.List.Elements.{All-contains, Contains-append_cases, Contains-append_left, Contains-append_right, Contains-get_or}
use Rattle.hx_base.specs.Pixels.{AreDisjointInOrder, HoldsPosition, IsPixel, LiesIn, first_position}
use Rattle.hx_base.specs.Touching.{Touch}
use Rattle.hx_base.specs.declared.pixel.Pixel.{Pixel}
use Rattle.hx_base.specs.declared.row.Row.{Row}
use Rattle.hx_base.proofs.Partitions.{holds_outer}
use Rattle.hx_base.proofs.Ranges.{first_held}
use Rattle.hx_cover.proofs.Members.{member_first, member_later}
use Rattle.hx_nest.proofs.Interleaved.{number_below}
use Rattle.hx_ptree.specs.Searches.{IsHolder}
use Rattle.hx_xmatch.specs.Runs.{AreIndices, HasAround}

-- touching pixels are pixels
pub touching_below : (k p q : ℕ) → Touch k p q → q < 12 * 4 ^ k
touching_below k p q t = let (point, first, (face, x, y, i, j, at, a, b, same)) = t.shared in number_below k q face x y at

-- what is put into a list is there, and what was there stays
pub put_there : (xs : List ℕ) (i x : ℕ) → Contains (insert xs i x) x
put_there xs i x = Contains-append_right (take i xs) (x ∷ drop i xs) x (member_first x (drop i xs))

pub put_keeps : (xs : List ℕ) (i x other : ℕ) → Contains xs other → Contains (insert xs i x) other
put_keeps xs i x other h =
    elim (Contains-append_cases (take i xs) (drop i xs) other (subst (λ (l : List ℕ). Contains l other) (sym (take-append-drop i xs)) h)) [
      | inl front ↦ Contains-append_left (take i xs) (x ∷ drop i xs) other front
      | inr back ↦ Contains-append_right (take i xs) (x ∷ drop i xs) other (member_later x other (drop i xs) back)
    ]

one_of : (x : ℕ) (xs : List ℕ) (other : ℕ) → Contains (x ∷ xs) other → Contains xs other ⊎ (other ≡ x)
one_of x xs other (zero, lt, is) = inr (sym is)
one_of x xs other (suc k, lt, is) = inl (k, omega (arith, lt), is)

pub put_only : (xs : List ℕ) (i x other : ℕ) → Contains (insert xs i x) other → Contains xs other ⊎ (other ≡ x)
put_only xs i x other h =
    let was = λ (l : Contains (take i xs ++ drop i xs) other). subst (λ (ys : List ℕ). Contains ys other) (take-append-drop i xs) l in
    elim (Contains-append_cases (take i xs) (x ∷ drop i xs) other h) [
      | inl front ↦ inl (was (Contains-append_left (take i xs) (drop i xs) other front))
      | inr back ↦ elim (one_of x (drop i xs) other back) [
        | inl later ↦ inl (was (Contains-append_right (take i xs) (drop i xs) other later))
        | inr is ↦ inr is
      ]
    ]

-- indices of partitions stay so where that of a partition is put to them
pub indices_more : (parts : List Pixel) (old new : List ℕ) (index : ℕ) → AreIndices parts old → index < length parts → ((other : ℕ) → Contains new other → Contains old other ⊎ (other ≡ index)) → AreIndices parts new
indices_more parts old new index are within only k d lt = elim (only (get_or new k d) (Contains-get_or new k d lt)) [
  | inl was ↦ All-contains (λ (i : ℕ). i < length parts) old (get_or new k d) are was
  | inr is ↦ subst (λ (i : ℕ). i < length parts) (sym is) within
]

-- of disjoint pixels one index is that of a pixel that holds a position
pub same_index : (parts : List Pixel) (i j place : ℕ) (a b : Pixel) → AreDisjointInOrder parts → slice_get parts i ≡ Some a → slice_get parts j ≡ Some b
    → HoldsPosition a place → HoldsPosition b place → i ≡ j
same_index parts i j place a b apart at_i at_j holds_a holds_b =
    let in_i = slice_get_within parts i a at_i in
    let in_j = slice_get_within parts j b at_j in
    let first : HoldsPosition (get_or parts i a) place = subst (λ (p : Pixel). HoldsPosition p place) (sym (get_or_from_slice_get parts i a a at_i)) holds_a in
    let second : HoldsPosition (get_or parts j a) place = subst (λ (p : Pixel). HoldsPosition p place) (sym (get_or_from_slice_get parts j b a at_j)) holds_b in
    elim (cases_order i j) [
      | inl same ↦ same
      | inr (inl less) ↦ absurd (apart.disjoint i j a less in_j place first second)
      | inr (inr more) ↦ absurd (apart.disjoint j i a more in_i place second first)
    ]

-- the partition that contains a pixel is the one that holds its first position
pub holder_contains : (parts : List Pixel) (pixel : Pixel) (index : ℕ) (part : Pixel) (holder : Option ℕ) → AreDisjointInOrder parts → IsPixel pixel
    → IsHolder parts (first_position pixel) holder → slice_get parts index ≡ Some part → LiesIn pixel part → holder ≡ Some index
holder_contains parts pixel index part None apart exists none at lies =
    absurd (All-contains (λ (part : Pixel). ¬ (HoldsPosition part (first_position pixel))) parts part none
    (index, slice_get_within parts index part at, get_or_from_slice_get parts index part part at)
    (holds_outer pixel part (first_position pixel) exists.order lies (first_held pixel)))
holder_contains parts pixel index part (Some found) apart exists (other, at_found, holds) at lies =
    ap (λ (i : ℕ). Some i) (same_index parts found index (first_position pixel) other part apart at_found at holds (holds_outer pixel part (first_position pixel) exists.order lies (first_held pixel)))

some_index : (a b : ℕ) → Some a ≡ Some b → a ≡ b
some_index a b e = cc e

no_index : (b : ℕ) (o : Option ℕ) → o ≡ None → o ≡ Some b → ⊥
no_index b o is e = cc (is, e)

pub holder_found : (parts : List Pixel) (pixel : Pixel) (index found : ℕ) (part : Pixel) (position : ℕ) → position ≡ first_position pixel → AreDisjointInOrder parts → IsPixel pixel
    → IsHolder parts position (Some found) → slice_get parts index ≡ Some part → LiesIn pixel part → found ≡ index
holder_found parts pixel index found part position first apart exists holder at lies =
    some_index found index (holder_contains parts pixel index part (Some found) apart exists (subst (λ (n : ℕ). IsHolder parts n (Some found)) first holder) at lies)

pub none_found : (parts : List Pixel) (pixel : Pixel) (index : ℕ) (part : Pixel) (position : ℕ) → position ≡ first_position pixel → AreDisjointInOrder parts → IsPixel pixel
    → IsHolder parts position None → slice_get parts index ≡ Some part → LiesIn pixel part → ⊥
none_found parts pixel index part position first apart exists holder at lies =
    no_index index None refl (holder_contains parts pixel index part None apart exists (subst (λ (n : ℕ). IsHolder parts n None) first holder) at lies)

-- more indices have the partitions round a pixel too
pub around_more : (parts : List Pixel) (m pixel : ℕ) (old new : List ℕ) → ((other : ℕ) → Contains old other → Contains new other) → HasAround parts m pixel old → HasAround parts m pixel new
around_more parts m pixel old new more has index part neighbour at touches lies = more index (has index part neighbour at touches lies)

-- where the first row is of a kind, and the one behind so many isn't, there are some
pub some_of : (P : Row → Type 0) (rows : List Row) (count : ℕ) (d : Row) → 0 < length rows → P (get_or rows 0 d) → ((row : Row) → slice_get rows count ≡ Some row → ¬ (P row)) → 0 < count
some_of P rows zero d some first behind = absurd (behind (get_or rows 0 d) (slice_get-get_or rows 0 d some) first)
some_of P rows (suc count) d some first behind = omega arith

-- what holds of each of the first ones
pub first_ones : (P : Row → Type 0) (rows : List Row) (count : ℕ) → count ≤ length rows → All P (take count rows) → AllWithin P rows 0 count
first_ones P rows count within all = λ k d low lt.
    subst P (get_or-take count rows k d lt) (all k d (omega (arith, lt, within, length-take count rows)))
