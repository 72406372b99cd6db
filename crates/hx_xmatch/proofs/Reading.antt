-- The rows of a field are all that the search for a row reads.
use Rattle.std.proofs.Common.{◌≡◌, ◌∙◌, ◌==◌, ◌∷◌, ◌<◌, [], ℕ, List, Some, Bool, true, false, zero, suc, filter, length, get_or, refl, sym, ap, subst, arith, inl, inr, Contains}
use Rattle.std.specs.Prelude.{slice_get}
use Rattle.std.proofs.lemmas.Bool.{cases_Bool}
use Rattle.std.proofs.lemmas.Option.{get_or_from_slice_get, slice_get_within, slice_get-get_or}
use Rattle.std.proofs.lemmas.List.Elements.{All-contains}
use Rattle.std.proofs.lemmas.List.Sorted.{Contains-permutation, IsPermutation-sym}
use Rattle.hx_base.specs.Contents.{AreMarginRows, IsInMargin, partition_rows}
use Rattle.hx_base.specs.Coverage.{IsCutInto, IsRead}
use Rattle.hx_base.specs.Pixels.{PixelContains, pixel_of, rows_in}
use Rattle.hx_base.specs.Rows.{row_cmp, sorted_rows}
use Rattle.hx_base.specs.declared.pixel.Pixel.{Pixel}
use Rattle.hx_base.specs.declared.row.Row.{Row}
use Rattle.hx_base.proofs.RowOrder.{rows_exact, rows_total}
use Rattle.hx_base.proofs.Sorting.{permutes}
use Rattle.hx_cover.proofs.Members.{member_first, member_later, row_is_in, same_holder}
use Rattle.hx_xmatch.specs.Fields.{AreFilesOf, IsFieldOf}
use Rattle.hx_xmatch.specs.Reads.{ReadsAll}
use Rattle.hx_xmatch.specs.Runs.{HasAround, IsCoveredBy, IsServedBy, IsUncovered}

-- members of a list by their indices
pub member_at : {X : Type 0} (xs : List X) (i : ℕ) (x : X) → slice_get xs i ≡ Some x → Contains xs x
member_at xs i x at = (i, slice_get_within xs i x at, get_or_from_slice_get xs i x x at)

pub at_member : {X : Type 0} (xs : List X) (x : X) → Contains xs x → (i : ℕ) × (slice_get xs i ≡ Some x)
at_member xs x h = (h.0, slice_get-get_or xs h.0 x h.1 ∙ ap (λ y. Some y) h.2)

in_rest : {X : Type 0} (y x : X) (zs xs : List X) (k : ℕ) → (Contains zs x → Contains xs x) → k < length (y ∷ zs) → get_or (y ∷ zs) k x ≡ x → Contains (y ∷ xs) x
in_rest y x zs xs zero f below is = (0, omega arith, is)
in_rest y x zs xs (suc k) f below is = member_later y x xs (f (k, omega (arith, below), is))

-- what a filter keeps was there, and what was there and passes is kept
pub kept : {X : Type 0} (p : X → Bool) (xs : List X) (x : X) → Contains (filter p xs) x → Contains xs x
kept p [] x h = h
kept p (y ∷ ys) x h =
    let rest = kept p ys x in
    elim (cases_Bool (p y)) [
      | inl e ↦ let g = rw e at h in in_rest y x (filter p ys) ys g.0 rest g.1 g.2
      | inr e ↦ member_later y x ys (rest (rw e at h))
    ]

passed_at : {X : Type 0} (p : X → Bool) (xs : List X) (k : ℕ) (x : X) → p x ≡ true → k < length xs → get_or xs k x ≡ x → Contains (filter p xs) x
passed_at p [] k x ok within is = absurd (omega (arith, within))
passed_at p (y ∷ ys) zero x ok within is = rw (is, ok) (member_first x (filter p ys))
passed_at p (y ∷ ys) (suc k) x ok within is =
    let rest = passed_at p ys k x ok (omega (arith, within)) is in
    elim (cases_Bool (p y)) [
      | inl e ↦ rw e (member_later y x (filter p ys) rest)
      | inr e ↦ rw e rest
    ]

pub passed : {X : Type 0} (p : X → Bool) (xs : List X) (x : X) → p x ≡ true → Contains xs x → Contains (filter p xs) x
passed p xs x ok h = passed_at p xs h.0 x ok h.1 h.2

-- sorting keeps members
from_sorted : (rows : List Row) (row : Row) → Contains (sorted_rows rows) row → Contains rows row
from_sorted rows row h = Contains-permutation (sorted_rows rows) rows row (IsPermutation-sym rows (sorted_rows rows) (permutes row_cmp rows_total rows_exact rows)) h

to_sorted : (rows : List Row) (row : Row) → Contains rows row → Contains (sorted_rows rows) row
to_sorted rows row h = Contains-permutation rows (sorted_rows rows) row (permutes row_cmp rows_total rows_exact rows) h

-- rows of a partition and of its margin are rows of the catalogue
of_partition : (part : Pixel) (rows : List Row) (row : Row) → Contains (partition_rows part rows) row → Contains rows row
of_partition part rows row h = kept (λ (r : Row). pixel_of part.order r.hp == part.number) rows row (from_sorted (rows_in part rows) row h)

of_margin : (part : Pixel) (m : ℕ) (rows margin : List Row) (row : Row) → AreMarginRows part m rows margin → Contains margin row → Contains rows row
of_margin part m rows margin row is h = kept is.test rows row (from_sorted (filter is.test rows) row (subst (λ (l : List Row). Contains l row) is.listed h))

in_partition : (part : Pixel) (rows : List Row) (row : Row) → Contains rows row → PixelContains part row → Contains (partition_rows part rows) row
in_partition part rows row h holds = to_sorted (rows_in part rows) row (row_is_in part rows row h holds)

module _ (told : ℕ → Bool → List Row → Type 0) (parts : List Pixel) (m : ℕ) (right : List Row) (cut : IsCutInto right parts m) (files : AreFilesOf told parts m right) where
  of_file : (index : ℕ) (margin : Bool) (file : List Row) (row : Row) → told index margin file → Contains file row → Contains right row
  of_file index false file row is h =
      let n = files.named index false file is in
      of_partition n.0 right row (subst (λ (l : List Row). Contains l row) (files.own index n.0 file n.1 is) h)
  of_file index true file row is h =
      let n = files.named index true file is in
      of_margin n.0 m right file row (files.margins index n.0 file n.1 is) h

  module _ (indices : List ℕ) (rows : List Row) (l : Row) where
    -- a row of a partition that is among those of the indices
    own_row : (margin : Bool) → IsFieldOf told indices margin rows → (index : ℕ) (part : Pixel) (row : Row) → Contains indices index → slice_get parts index ≡ Some part
        → Contains right row → PixelContains part row → Contains rows row
    own_row margin field index part row listed at h holds =
        let own = field.own index listed in
        own.all row (subst (λ (l : List Row). Contains l row) (sym (files.own index part own.file at own.is)) (in_partition part right row h holds))

    margin_row : IsFieldOf told indices true rows → (index : ℕ) (part : Pixel) (row : Row) → Contains indices index → slice_get parts index ≡ Some part
        → Contains right row → IsInMargin part m row → Contains rows row
    margin_row field index part row listed at h inside =
        let own = field.margins refl index listed in
        let is = files.margins index part own.file at own.is in
        own.all row (subst (λ (l : List Row). Contains l row) (sym is.listed) (to_sorted (filter is.test right) row (passed is.test right row ((is.tells row).1 inside) h)))

    covered : IsFieldOf told indices true rows → IsCoveredBy parts indices l → (row : Row) → Contains right row → IsRead parts m l row → Contains rows row
    covered field by row h (inl its) =
        let same = same_holder parts its.part by.part l.hp cut.disjoint its.member (member_at parts by.index by.part by.there) its.holds by.holds in
        elim its.has [
          | inl holds ↦ own_row true field by.index by.part row by.listed by.there h (subst (λ (p : Pixel). PixelContains p row) same holds)
          | inr inside ↦ margin_row field by.index by.part row by.listed by.there h (subst (λ (p : Pixel). IsInMargin p m row) same inside)
        ]
    covered field by row h (inr near) = absurd (All-contains (λ part. ¬ (PixelContains part l)) parts by.part near.uncovered (member_at parts by.index by.part by.there) by.holds)

    uncovered : IsFieldOf told indices false rows → IsUncovered parts l → HasAround parts m (pixel_of m l.hp) indices → (row : Row) → Contains right row → IsRead parts m l row → Contains rows row
    uncovered field none around row h (inl its) = absurd (All-contains (λ part. ¬ (PixelContains part l)) parts its.part none its.member its.holds)
    uncovered field none around row h (inr near) =
        let at = at_member parts near.part near.member in
        own_row false field at.0 near.part row (around at.0 near.part near.neighbour at.1 near.touches near.inside) at.1 h near.has

    all_read : (margin : Bool) → IsFieldOf told indices margin rows → IsServedBy parts m indices margin l → (row : Row) → Contains right row → IsRead parts m l row → Contains rows row
    all_read true field served = covered field served
    all_read false field served = uncovered field served.0 served.1

    pub reads_all : (margin : Bool) → IsFieldOf told indices margin rows → IsServedBy parts m indices margin l → ReadsAll parts m right l rows
    reads_all margin field served = record {
      only = λ row h. let at = field.only row h in of_file at.index at.margin at.file row at.is at.stands;
      all = all_read margin field served;
    }
