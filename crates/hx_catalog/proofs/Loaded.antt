-- What is read of a file of rows, and why it isn't.
use Rattle.std.proofs.Common.{◌≡◌, ◌≢◌, ◌⊎◌, ◌∙◌, ℕ, ℤ, Bool, true, false, List, Option, None, Some, Result, Ok, Err, All, ap, inl, inr, refl, slice_get, subst, sym}
use Rattle.std.specs.List.Sorted.{IsSorted}
use Rattle.hx_base.specs.Columns.{column_names, columns_of_rows}
use Rattle.hx_base.specs.Paths.{path_of}
use Rattle.hx_base.specs.Rows.{IsGood, row_cmp}
use Rattle.hx_base.specs.declared.pixel.Pixel.{Pixel}
use Rattle.hx_base.specs.declared.refusal.SpillRefusal.{SpillRefusal}
use Rattle.hx_base.specs.declared.refusal.SpillRefusal.TheVariants as unread
use Rattle.hx_base.specs.declared.row.Row.{Row}
use Rattle.hx_base.specs.declared.refusal.JobFile.{JobFile}
use Rattle.hx_base.specs.declared.refusal.Refusal.{Refusal}
use Rattle.hx_base.specs.declared.refusal.Refusal.TheVariants as refusal
use Rattle.hx_outside.specs.Folders.{Folder}
use Rattle.hx_pqmeta.specs.declared.refusal.PqRefusal.{PqRefusal}
use Rattle.hx_pqmeta.specs.declared.refusal.PqRefusal.TheVariants as parquet
use Rattle.hx_pqread.specs.Columns.{columns_in}
use Rattle.hx_pqread.specs.Laws.{HasColumns, ReadsWhatIsThere, parquet_fault, refusal_of}
use Rattle.hx_catalog.specs.Answers.{IsFileDamage, IsOutside, IsRowsDamage, IsUnread, Loads, LoadsFile, MayRefuseLoading, Opened, damaged_file, parquet_damage}
use Rattle.hx_catalog.specs.Files.{Belong, FileHolds, HoldsRows, rows_file, rows_of_part}
use Rattle.hx_catalog.proofs.Columned.{one-rows}

module _ (margin : Bool) (pixel : Pixel) (bytes : List ℕ) where
  -- columns that aren't read
  fault-unread : (given : SpillRefusal) (refusal : PqRefusal) → given ≡ parquet_damage refusal → columns_in bytes column_names ≡ Err refusal → IsUnread (IsRowsDamage margin pixel bytes) given
  fault-unread unread.Memory refusal same is = tt
  fault-unread (unread.Damaged place) refusal same is = inl (refusal, ap (λ (read : _). refusal_of read) is, sym same)

  pub columns-unread : (given : SpillRefusal) (refusal : PqRefusal) → given ≡ parquet_damage refusal → (refusal ≡ parquet.Memory) ⊎ (columns_in bytes column_names ≡ Err refusal) → IsUnread (IsRowsDamage margin pixel bytes) given
  columns-unread given refusal same (inr is) = fault-unread given refusal same is
  columns-unread given refusal same (inl memory) = subst (IsUnread (IsRowsDamage margin pixel bytes)) (sym (same ∙ ap parquet_damage memory)) tt

  module _ (read : ReadsWhatIsThere) (lists : List (List ℤ)) (is : columns_in bytes column_names ≡ Ok lists) where
    has-columns : HasColumns bytes column_names lists
    has-columns = (read bytes column_names lists).1 is

    -- rows that the file holds have the columns that are read
    same-columns : (rows : List Row) → HoldsRows bytes rows → columns_of_rows rows ≡ lists
    same-columns rows holds =
        let other = (read bytes column_names (columns_of_rows rows)).0 holds.columns in
        cc (other, is)

    -- the columns are no good rows'
    pub none-damaged : ((rows : List Row) → All IsGood rows → columns_of_rows rows ≢ lists) → IsRowsDamage margin pixel bytes 0
    none-damaged none = inr (refl, (lists, has-columns), λ rows holds belong. none rows holds.good (same-columns rows holds))

    module _ (rows : List Row) (good : All IsGood rows) (own : columns_of_rows rows ≡ lists) where
      pub holds-rows : IsSorted row_cmp rows → HoldsRows bytes rows
      holds-rows ascending = record { columns = subst (HasColumns bytes column_names) (sym own) has-columns; good = good; ascending = ascending }

      -- the rows don't ascend, or don't belong there
      pub rows-damaged : (IsSorted row_cmp rows → Belong margin pixel rows → ⊥) → IsRowsDamage margin pixel bytes 0
      rows-damaged none =
          inr (
            refl,
            (lists, has-columns),
            λ others holds belong.
                let same : others ≡ rows = one-rows others rows (same-columns others holds ∙ sym own) in
                none (subst (IsSorted row_cmp) same holds.ascending) (subst (Belong margin pixel) same belong),
          )

module _ (read : ReadsWhatIsThere) where
  -- a file is read, and holds the rows of one list alone
  is-read : (bytes : List ℕ) (lists : List (List ℤ)) → HasColumns bytes column_names lists → columns_in bytes column_names ≡ Ok lists
  is-read bytes lists has = (read bytes column_names lists).0 has

  pub one-file : (found : Option (List ℕ)) (a b : List Row) → FileHolds found a → FileHolds found b → a ≡ b
  one-file None a b x y = absurd x
  one-file (Some bytes) a b x y = one-rows a b (cc (is-read bytes (columns_of_rows a) x.columns, is-read bytes (columns_of_rows b) y.columns))

  no-fault : (bytes : List ℕ) (lists : List (List ℤ)) (fault : PqRefusal) → HasColumns bytes column_names lists → parquet_fault bytes column_names ≢ Some fault
  no-fault bytes lists fault has is = cc (ap (λ (found : Result (List (List ℤ)) PqRefusal). refusal_of found) (is-read bytes lists has), is)

  module _ (margin : Bool) (pixel : Pixel) where
    -- a file that has rows isn't damaged
    held-sound : (found : Option (List ℕ)) (rows : List Row) (place : ℕ) → FileHolds found rows → Belong margin pixel rows → ¬ (IsFileDamage margin pixel found place)
    held-sound None rows place holds belong damage = absurd holds
    held-sound (Some bytes) rows place holds belong (inl fault) = no-fault bytes (columns_of_rows rows) fault.0 holds.columns fault.1
    held-sound (Some bytes) rows place holds belong (inr damage) = damage.2 rows holds belong

    one-damage : (found : Option (List ℕ)) (a b : ℕ) → IsFileDamage margin pixel found a → IsFileDamage margin pixel found b → a ≡ b
    one-damage None a b x y = x ∙ sym y
    one-damage (Some bytes) a b (inl x) (inl y) =
        let fault : x.0 ≡ y.0 = cc (x.1, y.1) in
        cc (ap parquet_damage fault, x.2, y.2)
    one-damage (Some bytes) a b (inl x) (inr y) = absurd (no-fault bytes y.1.0 x.0 y.1.1 x.1)
    one-damage (Some bytes) a b (inr x) (inl y) = absurd (no-fault bytes x.1.0 y.0 x.1.1 y.1)
    one-damage (Some bytes) a b (inr x) (inr y) = x.0 ∙ sym y.0

    module _ (folder : Folder) (opened : Opened) (part : ℕ) where
      same-loaded : (a b : Result (List Row) Refusal) → LoadsFile folder opened part margin pixel a → LoadsFile folder opened part margin pixel b → a ≡ b
      same-loaded (Ok a) (Ok b) x y = ap Ok (one-file (folder (rows_file opened.properties.settings.name margin pixel)) a b x.holds y.holds)
      same-loaded (Ok a) (Err b) x y = absurd (held-sound (folder (rows_file opened.properties.settings.name margin pixel)) a y.0 x.holds x.belong y.2)
      same-loaded (Err a) (Ok b) x y = absurd (held-sound (folder (rows_file opened.properties.settings.name margin pixel)) b x.0 y.holds y.belong x.2)
      same-loaded (Err a) (Err b) x y =
          let place : x.0 ≡ y.0 = one-damage (folder (rows_file opened.properties.settings.name margin pixel)) x.0 y.0 x.2 y.2 in
          ap Err (x.1 ∙ ap (refusal.Damaged opened.side (rows_of_part margin part)) place ∙ sym y.1)

  pub one-loading : (folder : Folder) (opened : Opened) (part : ℕ) (margin : Bool) (a b : Result (List Row) Refusal) → Loads folder opened part margin a → Loads folder opened part margin b → a ≡ b
  one-loading folder opened part margin a b x y =
      let same : x.0 ≡ y.0 = cc (x.1, y.1) in
      same-loaded margin y.0 folder opened part a b (subst (λ (p : Pixel). LoadsFile folder opened part margin p a) same x.2) y.2

-- what is answered of a file, by what is found there
module _ (folder : Folder) (opened : Opened) (name : List ℕ) (side part : ℕ) (job_file : JobFile) (margin : Bool) (pixel : Pixel)
    (named : opened.properties.settings.name ≡ name) (sided : opened.side ≡ side) (at : slice_get opened.parts part ≡ Some pixel) (is_file : job_file ≡ rows_of_part margin part) where
  abbrev Path : List ℕ
  Path = path_of name job_file pixel

  one-path : (m : Bool) (n : List ℕ) → path_of n (rows_of_part m part) pixel ≡ rows_file n m pixel
  one-path false n = refl
  one-path true n = refl

  there-is : folder Path ≡ folder (rows_file opened.properties.settings.name margin pixel)
  there-is = ap folder ((λ k. path_of (sym named k) (is_file k) pixel) ∙ one-path margin opened.properties.settings.name)

  damage-is : (place : ℕ) → refusal.Damaged side job_file place ≡ refusal.Damaged opened.side (rows_of_part margin part) place
  damage-is place = λ k. refusal.Damaged (sym sided k) (is_file k) place

  pub loaded-absent : None ≡ folder Path → Loads folder opened part margin (Err (refusal.Damaged side job_file 0))
  loaded-absent none = (pixel, at, (0, damage-is 0, subst (λ (found : Option (List ℕ)). IsFileDamage margin pixel found 0) (none ∙ there-is) refl))

  pub loaded-rows : (bytes : List ℕ) (rows : List Row) → Some bytes ≡ folder Path → HoldsRows bytes rows → Belong margin pixel rows → Loads folder opened part margin (Ok rows)
  loaded-rows bytes rows there holds belong =
      (pixel, at, record { holds = subst (λ (found : Option (List ℕ)). FileHolds found rows) (there ∙ there-is) holds; belong = belong })

  pub loaded-damage : (bytes : List ℕ) (given : SpillRefusal) → Some bytes ≡ folder Path → IsUnread (IsRowsDamage margin pixel bytes) given
      → Loads folder opened part margin (Err (damaged_file side job_file given)) ⊎ IsOutside (damaged_file side job_file given)
  loaded-damage bytes (unread.Damaged place) there damage =
      inl (pixel, at, (place, damage-is place, subst (λ (found : Option (List ℕ)). IsFileDamage margin pixel found place) (there ∙ there-is) damage))
  loaded-damage bytes unread.Memory there damage = inr (inr refl)

-- the kinds of refusal
pub loading-kinds : (side : ℕ) (job_file : JobFile) (given : SpillRefusal) → MayRefuseLoading side job_file (damaged_file side job_file given)
loading-kinds side job_file (unread.Damaged place) = inr (place, refl)
loading-kinds side job_file unread.Memory = inl (inr refl)
