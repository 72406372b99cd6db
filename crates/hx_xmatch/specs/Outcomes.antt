-- What a cross-match leaves, and why one is refused. r2 is the square of the radius.
use Rattle.std.specs.Prelude.{◌≡◌, ◌⊎◌, ◌*◌, ℕ, List, Option, Some, None, IsSome, Ok}
use Rattle.hx_base.specs.Coverage.{IsLeastTooNear, NoneTooNear}
use Rattle.hx_base.specs.declared.pixel.Pixel.{Pixel}
use Rattle.hx_base.specs.declared.refusal.Refusal.{Refusal}
use Rattle.hx_base.specs.declared.refusal.Refusal.TheVariants as refusal
use Rattle.hx_base.specs.declared.row.Row.{Row}
use Rattle.hx_base.specs.declared.settings.Settings.{Settings}
use Rattle.hx_catalog.specs.Answers.{IsNotOpened, IsOutside, MayRefuseOpening, Opened, Opens}
use Rattle.hx_catalog.specs.Catalogues.{HasList, IsFinished}
use Rattle.hx_catalog.specs.Files.{properties_file}
use Rattle.hx_outside.specs.Disk.{DiskMembers, Passes}
use Rattle.hx_outside.specs.Folders.{Folder, SameBut}
use Rattle.hx_publish.specs.Publishing.{Publishes}
use Rattle.hx_xmatch.specs.Files.{NamesFileOf}
use Rattle.hx_xmatch.specs.Output.{IsTextOf, output_file, temporary_file}
use Rattle.hx_xmatch.specs.Tested.{IsCovered, IsTestRefusal, MayRefuseTest}
use Rattle.hx_xmatch.specs.declared.query.Query.{Query}

-- ---- over two catalogues that were opened

-- a text is that of their match: no pair of pixels is too near, and the lines are those of all left rows
pub record IsMatch (folder : Folder) (left right : Opened) (r2 : ℕ) (text : List ℕ) (rows matched : ℕ) : Type 0 where
  pub covered : IsCovered folder left right r2
  pub lines : IsTextOf folder left right r2 text rows matched

-- the like, whatever the numbers
abbrev pub IsMatchOf : Folder → Opened → Opened → ℕ → List ℕ → Type 0
IsMatchOf folder left right r2 text = (rows : ℕ) × (matched : ℕ) × IsMatch folder left right r2 text rows matched

-- At any moment the output's file is as it was, or it has such a text. No other file but the temporary one is changed.
abbrev pub LeavesText : {S : Type 0} → DiskMembers S → S → S → (output : List ℕ) → (List ℕ → Type 0) → Type 0
LeavesText d old new output IsText =
    Passes d old new (SameBut (temporary_file output))
    ⊎ ((text : List ℕ) × IsText text × Passes d old new (Publishes (temporary_file output) (output_file output) text))

-- ---- from the names on

-- the two catalogues as a folder has them
pub record AreOpened (folder : Folder) (query : Query) (left right : Opened) : Type 0 where
  pub left_opens : Opens folder query.left 1 (Ok left)
  pub right_opens : Opens folder query.right 2 (Ok right)

abbrev pub radius2 : Query → ℕ
radius2 query = query.radius * query.radius

-- a text is that of the match that is asked for
pub record IsAsked (folder : Folder) (query : Query) (text : List ℕ) (rows matched : ℕ) : Type 0 where
  pub left : Opened
  pub right : Opened
  pub opened : AreOpened folder query left right
  pub is : IsMatch folder left right (radius2 query) text rows matched

abbrev pub IsAskedText : Folder → Query → List ℕ → Type 0
IsAskedText folder query text = (rows : ℕ) × (matched : ℕ) × IsAsked folder query text rows matched

-- why a catalogue isn't opened: the left one, or else the right one
abbrev pub IsOpenRefusal : Folder → Query → Refusal → Type 0
IsOpenRefusal folder query given =
    IsOutside given
    ⊎ IsNotOpened folder query.left 1 given
    ⊎ (((left : Opened) × Opens folder query.left 1 (Ok left)) × IsNotOpened folder query.right 2 given)

-- why a match isn't done: a catalogue isn't opened; or they are, and a pair of pixels is too near or a file isn't loaded
abbrev pub IsMatchRefusal : Folder → Query → Refusal → Type 0
IsMatchRefusal folder query given =
    IsOpenRefusal folder query given
    ⊎ ((left : Opened) × (right : Opened) × AreOpened folder query left right × IsTestRefusal folder left right (radius2 query) given)

-- the refusals of a match, whatever the store
abbrev pub MayRefuseMatch : Refusal → Type 0
MayRefuseMatch given = MayRefuseOpening 1 given ⊎ MayRefuseOpening 2 given ⊎ MayRefuseTest given

-- what may come in place of a refusal that isn't decided yet: damage, a fault of the store or want of memory
abbrev pub MayComeFirst : Refusal → Type 0
MayComeFirst given = IsOutside given ⊎ NamesFileOf 1 given ⊎ NamesFileOf 2 given

-- the first refusal that no content decides: the left catalogue is absent, or it is there and the right one is absent
abbrev pub IsAbsent : Folder → Query → Refusal → Type 0
IsAbsent folder query given =
    ((given ≡ refusal.NoCatalogue 1) × (folder (properties_file query.left) ≡ None))
    ⊎ ((given ≡ refusal.NoCatalogue 2) × IsSome (folder (properties_file query.left)) × (folder (properties_file query.right) ≡ None))

-- ---- over finished catalogues

-- Each folder that a crash now may leave has finished catalogues of both names, with the same rows and settings: `left` and `right` are
-- their rows, file after file.
pub record AreFinished {S : Type 0} (d : DiskMembers S) (store : S) (query : Query) (left right : List Row) : Type 0 where
  pub left_settings : Settings
  pub right_settings : Settings
  pub parts : List Pixel
  pub each_left : (f : Folder) → d.may_leave store f → IsFinished f query.left left_settings left
  pub each_right : (f : Folder) → d.may_leave store f → IsFinished f query.right right_settings right
  pub listed : HasList (d.reads store) query.right parts

-- what is answered then: the match is done and no pair of pixels is too near; or the least pair that is; or a fault of the store or want
-- of memory came before
abbrev pub AnswersExactly : List Pixel → ℕ → ℕ → List Row → List Row → Option Refusal → Type 0
AnswersExactly parts margin_order r2 left right None = NoneTooNear parts margin_order r2 left right
AnswersExactly parts margin_order r2 left right (Some given) =
    IsOutside given ⊎ ((p q gap2 : ℕ) × (given ≡ refusal.TooNarrow p q gap2) × IsLeastTooNear parts margin_order r2 left right p q gap2)
