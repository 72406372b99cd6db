-- How an import ends, in the words of its book.
use Rattle.std.specs.Prelude.{◌≡◌, ◌⊎◌, ◌≤◌, ◌<◌, ◌^◌, ℕ, List, IfSome, IsSome, None, Option, map}
use Rattle.hx_base.specs.declared.refusal.Refusal.{Refusal}
use Rattle.hx_base.specs.declared.settings.Settings.{Settings}
use Rattle.hx_inputs.specs.Sources.{Tell}
use Rattle.hx_outside.specs.Disk.{DiskMembers}
use Rattle.hx_outside.specs.Folders.{Folder}
use Rattle.hx_outside.specs.Sources.{SourceMembers}
use Rattle.hx_book.specs.Books.{AreBack, AreNumbers, IsBackCause, IsClosedCause, IsGoodFor, IsOnlyTrimmed, IsUntouched, JobMembers, job_of, origin_of}
use Rattle.hx_book.specs.Resumable.{IsFiledWhole}
use Rattle.hx_import.specs.Imports.{CanGoOn, IsEarly, job_of as asked_job}

-- the inputs tell their bytes, and the job can go on in each folder that a crash now may leave
abbrev pub GoesOn : {Src S : Type 0} → SourceMembers Src → DiskMembers S → Settings → List Src → S → Type 0
GoesOn source d settings inputs store = (bytes : List (List ℕ)) × Tell source inputs bytes × CanGoOn d store (asked_job settings (map source.label inputs) bytes)

-- what the contracts of a book say of the job and of the outside, at the start of an import
abbrev pub members_of : {Src S : Type 0} → SourceMembers Src → DiskMembers S → Settings → List Src → S → JobMembers
members_of source d settings inputs store = record {
  settings = settings;
  origins = map (origin_of source) inputs;
  tells = d.tells store;
  premises = GoesOn source d settings inputs store;
  opening = d.may_leave store;
  moment = d.moment store;
  before = d.faults store;
}

-- why an import is refused: its book wasn't opened, or was closed with a refusal
abbrev pub IsRunCause : {Src : Type 0} → JobMembers → SourceMembers Src → List Src → ℕ → Refusal → Type 0
IsRunCause j source inputs faults r = IsBackCause j source inputs faults r ⊎ IsClosedCause j source inputs faults r

-- how an import ended
pub record IsRun {Src S : Type 0} (j : JobMembers) (source : SourceMembers Src) (d : DiskMembers S) (refusal : Option Refusal) (rows partitions margin : ℕ) (inputs : List Src) (store : S) : Type 0 where
  -- the inputs come back in their order
  pub back : AreBack j source inputs
  pub cause : IfSome refusal (IsRunCause j source inputs (d.faults store))
  pub told : j.tells → d.tells store
  -- each folder that a crash since the start may have left can be taken up, and has the tasks that were recorded
  pub good : j.premises → (f : Folder) → d.left_since store j.moment f → IsGoodFor j f
  -- and other files as they were
  pub untouched : j.tells → (f : Folder) → d.left_since store j.moment f → IsUntouched j f
  -- before some refusals no file was changed, but behind the journal's first closed gate
  pub early : j.tells → IfSome refusal (λ r. IsEarly r → IsOnlyTrimmed j d store)
  -- at the end each task's file reads as its value
  pub filed : j.premises → refusal ≡ None → (f : Folder) → d.may_leave store f → IsFiledWhole (job_of j) f
  pub numbers : j.premises → refusal ≡ None → AreNumbers (job_of j) rows partitions margin
  pub small : refusal ≡ None → (rows < 2 ^ 64) × (margin < 2 ^ 64)
  pub nothing : IsSome refusal → (rows ≡ 0) × (partitions ≡ 0) × (margin ≡ 0)
  pub later : j.before ≤ d.faults store
