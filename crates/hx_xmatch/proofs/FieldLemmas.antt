-- The rows of a field, as partitions are added, as they are put in another order, and in another folder.
use Rattle.std.proofs.Common.{◌≡◌, ◌++◌, ◌∷◌, [], ◌⊎◌, ℕ, List, Bool, true, false, Ok, Err, Contains, sym, subst, arith, ⊎_elim}
use Rattle.std.specs.Prelude.{OnOk, Result}
use Rattle.std.specs.List.Sorted.{IsPermutation}
use Rattle.std.proofs.lemmas.List.Elements.{Contains-append_cases, Contains-append_left, Contains-append_right, Contains-push_cases}
use Rattle.std.proofs.lemmas.List.Sorted.{Contains-permutation, IsPermutation-sym}
use Rattle.hx_base.specs.declared.pixel.Pixel.{Pixel}
use Rattle.hx_base.specs.declared.refusal.Refusal.{Refusal}
use Rattle.hx_base.specs.declared.row.Row.{Row}
use Rattle.hx_xmatch.specs.Fields.{AreFilesOf, HasFile, IsFieldOf, IsInAFile}
use Rattle.hx_xmatch.specs.Pieces.{AddsFile, AddsPart}

-- nothing is a member of no list
none_there : {X : Type 0} (x : X) → Contains [] x → ⊥
none_there x h = omega (arith, h.1)

file_kept : (told : List Row → Type 0) (old new : List Row) → ((row : Row) → Contains old row → Contains new row) → HasFile told old → HasFile told new
file_kept told old new kept has = record { file = has.file; is = has.is; all = λ row h. kept row (has.all row h) }

-- rows to which those of a file were added
module _ (told : List Row → Type 0) (old new : List Row) (adds : AddsFile told old new) where
  grown_kept : (row : Row) → Contains old row → Contains new row
  grown_kept row h = subst (λ (l : List Row). Contains l row) (sym adds.added) (Contains-append_left old adds.file row h)

  grown_file : HasFile told new
  grown_file = record { file = adds.file; is = adds.is; all = λ row h. subst (λ (l : List Row). Contains l row) (sym adds.added) (Contains-append_right old adds.file row h) }

  grown_from : (row : Row) → Contains new row → Contains old row ⊎ Contains adds.file row
  grown_from row h = Contains-append_cases old adds.file row (subst (λ (l : List Row). Contains l row) adds.added h)

module _ (told : ℕ → Bool → List Row → Type 0) where
  from_file : (index : ℕ) (margin : Bool) (old new : List Row) → AddsFile (told index margin) old new → ((row : Row) → Contains old row → IsInAFile told row) → (row : Row) → Contains new row → IsInAFile told row
  from_file index margin old new adds was row h =
      ⊎_elim (λ before. was row before) (λ there. record { index = index; margin = margin; file = adds.file; is = adds.is; stands = there }) (grown_from (told index margin) old new adds row h)

  pub field_none : (margin : Bool) → IsFieldOf told [] margin []
  field_none margin = record {
    only = λ row h. absurd (none_there row h);
    own = λ index h. absurd (none_there index h);
    margins = λ e index h. absurd (none_there index h);
  }

  -- the index behind the first ones is that of the partition that was added
  pub field_more : (indices : List ℕ) (index : ℕ) (margin : Bool) (old new : List Row) → IsFieldOf told indices margin old → AddsPart told index margin old new
      → IsFieldOf told (indices ++ index ∷ []) margin new
  field_more indices index margin old new field more = record {
    only = λ row h. more.only field.only row h;
    own = λ other h. ⊎_elim (λ was. file_kept (told other false) old new more.kept (field.own other was)) (λ is. subst (λ (i : ℕ). HasFile (told i false) new) is more.own) (last_or other h);
    margins = λ e other h. ⊎_elim (λ was. file_kept (told other true) old new more.kept (field.margins e other was)) (λ is. subst (λ (i : ℕ). HasFile (told i true) new) is (more.margins e)) (last_or other h);
  }
    where
      last_or : (other : ℕ) → Contains (indices ++ index ∷ []) other → Contains indices other ⊎ (index ≡ other)
      last_or other h = Contains-push_cases indices index other h

  pub field_permuted : (indices : List ℕ) (margin : Bool) (rows others : List Row) → IsPermutation rows others → IsFieldOf told indices margin rows → IsFieldOf told indices margin others
  field_permuted indices margin rows others p field = record {
    only = λ row h. field.only row (Contains-permutation others rows row (IsPermutation-sym rows others p) h);
    own = λ index h. file_kept (told index false) rows others (λ row there. Contains-permutation rows others row p there) (field.own index h);
    margins = λ e index h. file_kept (told index true) rows others (λ row there. Contains-permutation rows others row p there) (field.margins e index h);
  }

  -- rows of a file added to others
  pub part_alone : (index : ℕ) (old new : List Row) → AddsFile (told index false) old new → AddsPart told index false old new
  part_alone index old new own = record {
    own = grown_file (told index false) old new own;
    margins = λ e. absurd (cc e);
    kept = grown_kept (told index false) old new own;
    only = from_file index false old new own;
  }

  pub part_both : (index : ℕ) (old mid new : List Row) → AddsFile (told index false) old mid → AddsFile (told index true) mid new → AddsPart told index true old new
  part_both index old mid new own margin = record {
    own = file_kept (told index false) mid new (grown_kept (told index true) mid new margin) (grown_file (told index false) old mid own);
    margins = λ e. grown_file (told index true) mid new margin;
    kept = λ row h. grown_kept (told index true) mid new margin row (grown_kept (told index false) old mid own row h);
    only = λ was. from_file index true mid new margin (from_file index false old mid own was);
  }

-- files that are read alike
pub field_moves : (told other : ℕ → Bool → List Row → Type 0) → ((index : ℕ) (margin : Bool) (file : List Row) → told index margin file → other index margin file)
    → (indices : List ℕ) (margin : Bool) (rows : List Row) → IsFieldOf told indices margin rows → IsFieldOf other indices margin rows
field_moves told other moves indices margin rows field = record {
  only = λ row h. let at = field.only row h in record { index = at.index; margin = at.margin; file = at.file; is = moves at.index at.margin at.file at.is; stands = at.stands };
  own = λ index h. let has = field.own index h in record { file = has.file; is = moves index false has.file has.is; all = has.all };
  margins = λ e index h. let has = field.margins e index h in record { file = has.file; is = moves index true has.file has.is; all = has.all };
}

pub files_move : (told other : ℕ → Bool → List Row → Type 0) → ((index : ℕ) (margin : Bool) (file : List Row) → other index margin file → told index margin file)
    → (parts : List Pixel) (m : ℕ) (rows : List Row) → AreFilesOf told parts m rows → AreFilesOf other parts m rows
files_move told other moves parts m rows files = record {
  named = λ index margin file is. files.named index margin file (moves index margin file is);
  own = λ index part file at is. files.own index part file at (moves index false file is);
  margins = λ index part file at is. files.margins index part file at (moves index true file is);
}

-- rows of a partition, and then of its margin where those are read
pub both_on_ok : (told : ℕ → Bool → List Row → Type 0) (index : ℕ) (old mid new : List Row) (answer : Result (Unit {0}) Refusal) → AddsFile (told index false) old mid
    → OnOk answer (AddsFile (told index true) mid new) → OnOk answer (AddsPart told index true old new)
both_on_ok told index old mid new (Ok done) own margin = part_both told index old mid new own margin
both_on_ok told index old mid new (Err given) own margin = tt
