-- A command has one first refusal under its premises.
use Rattle.std.proofs.Common.{◌≡◌, ◌∙◌, ◌++◌, ◌∷◌, ℕ, List, [], Option, Some, None, Result, Ok, Err, append_assoc, length, refl, subst, sym, ap, inl, inr, false, zero, suc}
use Rattle.std.specs.Option.{option_or}
use Rattle.std.specs.Prelude.{slice_get}
use Rattle.std.proofs.lemmas.Bool.{cases_order}
use Rattle.hx_align.specs.Refusals.{IsCutRefusal}
use Rattle.hx_base.proofs.Partitions.{partitions_unique}
use Rattle.hx_base.specs.FirstRefusals.{OrElse, Shows}
use Rattle.hx_base.specs.Partitions.{IsFirstOverfull}
use Rattle.hx_base.specs.Pixels.{count_in}
use Rattle.hx_base.specs.declared.pixel.Pixel.{Pixel}
use Rattle.hx_base.specs.declared.refusal.Refusal.{Refusal}
use Rattle.hx_base.specs.declared.refusal.Refusal.TheVariants as refusal
use Rattle.hx_base.specs.declared.row.Row.{Row}
use Rattle.hx_base.specs.declared.settings.Settings.{Settings}
use Rattle.hx_book.specs.Resumable.{IsResumable, header_bytes}
use Rattle.hx_book.specs.Tasks.{JobData, contents_of, names_of}
use Rattle.hx_catalog.specs.Catalogues.{HasList, IsFinished}
use Rattle.hx_catalog.specs.Files.{AreListed, FileHolds, properties_file}
use Rattle.hx_catalog.specs.Lists.{IsList, list_text}
use Rattle.hx_catalog.specs.Properties.{AreProperties, properties_text}
use Rattle.hx_catalog.specs.declared.properties.Properties.{Properties}
use Rattle.hx_cover.proofs.Firsts.{one_least}
use Rattle.hx_import.specs.Imports.{IsFolderRefusal, IsImportRefusal, IsRowsRefusal, job_of}
use Rattle.hx_inputs.proofs.InTurn.{one_rows}
use Rattle.hx_inputs.specs.Inputs.{bad_input, too_long, too_many_inputs}
use Rattle.hx_journal.specs.Journal.{blocks, front}
use Rattle.hx_outside.specs.Disk.{DiskMembers}
use Rattle.hx_outside.specs.Folders.{Folder}
use Rattle.hx_words.specs.Words.{Around, Clean, Command, Histogram, Import, Match, Plan}
use Rattle.hx_xmatch.specs.Outcomes.{radius2}
use Rattle.hx_xmatch.specs.declared.query.Query.{Query}
use Rattle.hx_cli.specs.Asked.{HasBoth, Premises, query_of, settings_of}
use Rattle.hx_cli.specs.FirstRefusal.{IsAbsentRefusal, IsCleanRefusal, IsFirstOfMatch, IsFirstRefusal, IsGapRefusal, IsLaterRefusal, IsNarrowRefusal, IsPlanRefusal}

one-of : (early : Option Refusal) (IsLater : Option Refusal → Type 0) → ((a b : Option Refusal) → IsLater a → IsLater b → a ≡ b) → (a b : Option Refusal) → OrElse early IsLater a → OrElse early IsLater b → a ≡ b
one-of None IsLater one a b ha hb = one a b ha hb
one-of (Some r) IsLater one a b ha hb = ha ∙ sym hb

one_first_overfull : (count : Pixel → ℕ) (highest threshold p q : ℕ) → IsFirstOverfull count highest threshold p → IsFirstOverfull count highest threshold q → p ≡ q
one_first_overfull count highest threshold p q a b =
    elim (cases_order p q) [
      | inl same ↦ same
      | inr (inl less) ↦ absurd (b.first p less a.overfull)
      | inr (inr more) ↦ absurd (a.first q more b.overfull)
    ]

one-cut : (count : Pixel → ℕ) (lowest highest threshold : ℕ) (a b : Option Refusal) → IsCutRefusal count lowest highest threshold a → IsCutRefusal count lowest highest threshold b → a ≡ b
one-cut count lowest highest threshold a b (inl (p, over, is)) (inl (q, over', is')) =
    let same : p ≡ q = one_first_overfull count highest threshold p q over over' in
    is ∙ rw same (sym is')
one-cut count lowest highest threshold a b (inl (p, over, is)) (inr (nothing, pixels, are, is')) = absurd (nothing p over.overfull)
one-cut count lowest highest threshold a b (inr (nothing, pixels, are, is')) (inl (p, over, is)) = absurd (nothing p over.overfull)
one-cut count lowest highest threshold a b (inr (none, pixels, are, is)) (inr (none', others, are', is')) =
    let same : pixels ≡ others = partitions_unique count lowest highest threshold pixels others are are' in
    is ∙ rw same (sym is')

one-plan : (lowest highest threshold : ℕ) (names bytes : List (List ℕ)) (a b : Option Refusal) → IsPlanRefusal lowest highest threshold names bytes a → IsPlanRefusal lowest highest threshold names bytes b → a ≡ b
one-plan lowest highest threshold names bytes a b (rows, are, cut) (others, are', cut') =
    let same : others ≡ rows = one_rows names bytes others rows are' are in
    one-cut (λ pixel. count_in pixel rows) lowest highest threshold a b cut (subst (λ (xs : List Row). IsCutRefusal (λ pixel. count_in pixel xs) lowest highest threshold b) same cut')

-- ---- an import that can go on

-- bytes of two beginnings of one text are the same
one-byte : (a b : List ℕ) (place x y : ℕ) (more rest : List ℕ) → a ++ more ≡ b ++ rest → slice_get a place ≡ Some x → slice_get b place ≡ Some y → x ≡ y
one-byte [] b place x y more rest same is_x is_y = cc is_x
one-byte (v ∷ a) [] place x y more rest same is_x is_y = cc is_y
one-byte (v ∷ a) (w ∷ b) zero x y more rest same is_x is_y = let first : v ≡ w = cc same in cc (is_x, is_y, first)
one-byte (v ∷ a) (w ∷ b) (suc place) x y more rest same is_x is_y = one-byte a b place x y more rest (cc same) is_x is_y

none-some : {X : Type 0} (file : Option X) (x : X) → file ≡ None → file ≡ Some x → ⊥
none-some file x none some = cc (none, some)

-- its folder refuses nothing
open_folder : (job : JobData) (folder : Folder) → IsResumable job folder → (early : Option Refusal) → IsFolderRefusal job folder early → early ≡ None
open_folder job folder goes None is = refl
open_folder job folder (inl fresh) (Some refusal.NameTaken) taken = absurd (taken.properties fresh.no_properties)
open_folder job folder (inr (records, under)) (Some refusal.NameTaken) taken = absurd (none-some _ _ taken.no_journal under.journal_is.is)
open_folder job folder (inl fresh) (Some (refusal.OtherJob place kept asked)) other = absurd (none-some _ _ fresh.no_journal other.begins)
open_folder job folder (inr (records, under)) (Some (refusal.OtherJob place kept asked)) other =
    let own = under.journal_is in
    let same : other.header ++ other.rest ≡ front (header_bytes job) records ++ (own.gate ∷ own.rest) = cc (other.begins, own.is) in
    let apart : other.header ++ other.rest ≡ header_bytes job ++ (blocks records ++ (own.gate ∷ own.rest)) = same ∙ append_assoc (header_bytes job) (blocks records) (own.gate ∷ own.rest) in
    absurd (other.differs.apart (one-byte other.header (header_bytes job) place kept asked other.rest _ apart other.differs.first other.differs.second))
open_folder job folder goes (Some _) is = absurd is

one-rows : (job : JobData) (a b : Option Refusal) → IsRowsRefusal job a → IsRowsRefusal job b → a ≡ b
one-rows job a b = one-plan job.settings.lowest job.settings.highest job.settings.threshold (names_of job) (contents_of job) a b

one-import : (job : JobData) (folder : Folder) → IsResumable job folder → (a b : Option Refusal) → IsImportRefusal job folder a → IsImportRefusal job folder b → a ≡ b
one-import job folder goes a b (early, of, ha) (early', of', hb) =
    let none = open_folder job folder goes early of in
    let none' = open_folder job folder goes early' of' in
    one-of (bad_input 0 (names_of job) (contents_of job)) (IsRowsRefusal job) (one-rows job) a b (rw none at ha) (rw none' at hb)

one-clean : (name : List ℕ) (folder : Folder) (a b : Option Refusal) → IsCleanRefusal name folder a → IsCleanRefusal name folder b → a ≡ b
one-clean name folder None None ha hb = refl
one-clean name folder None (Some (refusal.NoCatalogue side)) ha hb = absurd (ha hb.1)
one-clean name folder None (Some _) ha hb = absurd hb
one-clean name folder (Some (refusal.NoCatalogue side)) None ha hb = absurd (hb ha.1)
one-clean name folder (Some (refusal.NoCatalogue side)) (Some (refusal.NoCatalogue other)) ha hb = let same : side ≡ other = ha.0 ∙ sym hb.0 in rw same refl
one-clean name folder (Some (refusal.NoCatalogue side)) (Some _) ha hb = absurd hb
one-clean name folder (Some _) b ha hb = absurd ha

-- ---- a match of finished catalogues

-- readings of a file, a list and properties are one
abbrev pub OneFile : Type 0
OneFile = (file : Option (List ℕ)) (a b : List Row) → FileHolds file a → FileHolds file b → a ≡ b

abbrev pub OneList : Type 0
OneList = (a b : List Pixel) → IsList a → IsList b → list_text a ≡ list_text b → a ≡ b

abbrev pub OneProperties : Type 0
OneProperties = (a b : Properties) → AreProperties a → AreProperties b → properties_text a ≡ properties_text b → a ≡ b

same-some : (file : Option (List ℕ)) (a b : List ℕ) → file ≡ Some a → file ≡ Some b → a ≡ b
same-some file a b ha hb = cc (ha, hb)

one-listed : OneFile → (folder : Folder) (name : List ℕ) (parts : List Pixel) (a b : List Row) → AreListed folder name false parts a → AreListed folder name false parts b → a ≡ b
one-listed one folder name [] a b ha hb = ha ∙ sym hb
one-listed one folder name (part ∷ parts) a b (x, xs, is_x, are_x, a_is) (y, ys, is_y, are_y, b_is) =
    let first : x ≡ y = one _ x y is_x.holds is_y.holds in
    let rest : xs ≡ ys = one-listed one folder name parts xs ys are_x are_y in
    a_is ∙ rw (first, rest) (sym b_is)

one-parts : OneList → (folder : Folder) (name : List ℕ) (a b : List Pixel) → HasList folder name a → HasList folder name b → a ≡ b
one-parts one folder name a b ha hb = one a b ha.valid hb.valid (same-some _ _ _ ha.text hb.text)

one-finished : OneFile → OneList → (folder : Folder) (name : List ℕ) (s t : Settings) (a b : List Row) → IsFinished folder name s a → IsFinished folder name t b → a ≡ b
one-finished file list folder name s t a b ha hb =
    let parts = one-parts list folder name _ _ ha.catalogue.texts.list hb.catalogue.texts.list in
    one-listed file folder name hb.catalogue.parts a b (rw parts at ha.listed) hb.listed

settings-in : (a b : Properties) → a ≡ b → a.settings ≡ b.settings
settings-in a b same = ap (λ (p : Properties). p.settings) same

one-settings : OneProperties → (folder : Folder) (name : List ℕ) (s t : Settings) (a b : List Row) → IsFinished folder name s a → IsFinished folder name t b → s ≡ t
one-settings one folder name s t a b ha hb =
    let own = ha.catalogue.texts.own in
    let other = hb.catalogue.texts.own in
    settings-in _ _ (one _ _ own.valid other.valid (same-some _ _ _ own.text other.text))

one-gap : (parts : List Pixel) (m r2 : ℕ) (left right : List Row) (a b : Option Refusal) → IsGapRefusal parts m r2 left right a → IsGapRefusal parts m r2 left right b → a ≡ b
one-gap parts m r2 left right None None ha hb = refl
one-gap parts m r2 left right None (Some r) ha (p, q, gap2, is, least) = absurd (ha p q gap2 least.too_near)
one-gap parts m r2 left right (Some r) None (p, q, gap2, is, least) hb = absurd (hb p q gap2 least.too_near)
one-gap parts m r2 left right (Some r) (Some s) (p, q, gap2, is, least) (p', q', gap2', is', least') =
    let one = one_least parts m r2 left right p q gap2 p' q' gap2' least least' in
    let same : refusal.TooNarrow p q gap2 ≡ refusal.TooNarrow p' q' gap2' = rw (one.0, one.1, one.2) refl in
    ap (λ (x : Refusal). Some x) (is ∙ same ∙ sym is')

module _ (file : OneFile) (list : OneList) (properties : OneProperties) where
  one-narrow : (query : Query) (folder : Folder) (a b : Option Refusal) → IsNarrowRefusal query folder a → IsNarrowRefusal query folder b → a ≡ b
  one-narrow query folder a b ha hb =
      let lefts = one-finished file list folder query.left _ _ _ _ hb.is_left ha.is_left in
      let rights = one-finished file list folder query.right _ _ _ _ hb.is_right ha.is_right in
      let parts = one-parts list folder query.right _ _ hb.listed ha.listed in
      let settings = one-settings properties folder query.right _ _ _ _ hb.is_right ha.is_right in
      one-gap ha.parts ha.right_settings.margin_order (radius2 query) ha.left_rows ha.right_rows a b ha.first_is (rw (lefts, rights, parts, settings) at hb.first_is)

  there : (folder : Folder) (name : List ℕ) (s : Settings) (rows : List Row) → IsFinished folder name s rows → folder (properties_file name) ≡ None → ⊥
  there folder name s rows is none = none-some _ _ none is.catalogue.texts.own.text

  -- neither catalogue is absent
  both_there : {S : Type 0} (d : DiskMembers S) (store : S) (query : Query) → HasBoth d store query → (early : Option Refusal) → IsAbsentRefusal query (d.reads store) early → early ≡ None
  both_there d store query both None is = refl
  both_there d store query both (Some r) (inl (is, none)) = absurd (there _ _ _ _ (both.finished.each_left (d.reads store) (d.reads_now store both.told)) none)
  both_there d store query both (Some r) (inr (is, some, none)) = absurd (there _ _ _ _ (both.finished.each_right (d.reads store) (d.reads_now store both.told)) none)

  one-match : {S : Type 0} (d : DiskMembers S) (store : S) (query : Query) → HasBoth d store query → (a b : Option Refusal) → IsFirstOfMatch query (d.reads store) a → IsFirstOfMatch query (d.reads store) b → a ≡ b
  one-match d store query both a b (early, of, ha) (early', of', hb) =
      let none = both_there d store query both early of in
      let none' = both_there d store query both early' of' in
      one-narrow query (d.reads store) a b (rw none at ha) (rw none' at hb)

  one-later : {S : Type 0} (d : DiskMembers S) (store : S) (command : Command) (names bytes : List (List ℕ)) → Premises d store command names bytes
      → (a b : Option Refusal) → IsLaterRefusal command names bytes (d.reads store) a → IsLaterRefusal command names bytes (d.reads store) b → a ≡ b
  one-later d store (Histogram order files) names bytes holds a b ha hb = ha ∙ sym hb
  one-later d store (Plan lowest highest threshold files) names bytes holds a b ha hb = one-of (bad_input 0 names bytes) (IsPlanRefusal lowest highest threshold names bytes) (one-plan lowest highest threshold names bytes) a b ha hb
  one-later d store (Around order pixel) names bytes holds a b ha hb = ha ∙ sym hb
  one-later d store (Import l h t m name files) names bytes goes a b ha hb =
      one-import (job_of (settings_of l h t m name) names bytes) (d.reads store) (goes.resumable (d.reads store) (d.reads_now store goes.told)) a b ha hb
  one-later d store (Clean name) names bytes holds a b ha hb = one-clean name (d.reads store) a b ha hb
  one-later d store (Match left right radius output) names bytes both a b ha hb = one-match d store (query_of left right radius output) both a b ha hb

  -- a command has one first refusal
  pub one_first : {S : Type 0} (d : DiskMembers S) (store : S) (command : Command) (names bytes : List (List ℕ)) → Premises d store command names bytes
      → (a b : Option Refusal) → IsFirstRefusal command names bytes (d.reads store) a → IsFirstRefusal command names bytes (d.reads store) b → a ≡ b
  one_first d store command names bytes holds a b =
      one-of (option_or (too_many_inputs (length names)) (too_long bytes)) (IsLaterRefusal command names bytes (d.reads store)) (one-later d store command names bytes holds) a b

-- where no refusal comes early, the first is one of the later ones
pub later_first : {T : Type 0} (early : Option Refusal) (IsLater : Option Refusal → Type 0) (result : Result T Refusal) → None ≡ early → Shows IsLater result → Shows (OrElse early IsLater) result
later_first None IsLater (Ok x) none shows = shows
later_first None IsLater (Err r) none shows = shows
later_first (Some r) IsLater result none shows = cc none
