-- What a command leaves in the folder.
use Rattle.std.specs.Prelude.{◌≡◌, ◌⊎◌, ℕ, List, Option, Some, None, IsSome}
use Rattle.hx_base.specs.declared.refusal.Refusal.{Refusal}
use Rattle.hx_base.specs.declared.refusal.Refusal.TheVariants as refusal
use Rattle.hx_base.specs.declared.row.Row.{Row}
use Rattle.hx_base.specs.declared.settings.Settings.{Settings}
use Rattle.hx_import.specs.Cleaning.{IsCleaned, KeepsOutside}
use Rattle.hx_import.specs.Imports.{CanGoOn, LeavesOthers, LeavesWhole, job_of}
use Rattle.hx_journal.specs.Journal.{journal_file}
use Rattle.hx_outside.specs.Disk.{DiskMembers, Passes}
use Rattle.hx_outside.specs.Faults.{HasFailed}
use Rattle.hx_outside.specs.Folders.{Folder, SameBut, SameButBoth}
use Rattle.hx_publish.specs.Publishing.{HasInEach, Publishes}
use Rattle.hx_xmatch.specs.MatchText.{match_text}
use Rattle.hx_xmatch.specs.Outcomes.{AreFinished, radius2}
use Rattle.hx_xmatch.specs.Output.{output_file, temporary_file}
use Rattle.hx_xmatch.specs.declared.query.Query.{Query}
use Rattle.hx_cli.specs.Asked.{query_of, settings_of}
use Rattle.hx_words.specs.Words.{Around, Clean, Command, Histogram, Import, Match, Plan}

-- why the work itself was refused: a fault of the sink comes once it is done
abbrev pub work_refusal : Option Refusal → Option Refusal
work_refusal None = None
work_refusal (Some refusal.SinkFault) = None
work_refusal (Some r) = Some r

-- an import: files outside its three folders stay as they were; and where it can go on, it can at each moment, and at the end each folder
-- that a crash may leave has the whole catalogue. `told` says which bytes the inputs tell.
pub record LeavesImport {S : Type 0} (d : DiskMembers S) (before now : S) (settings : Settings) (names : List (List ℕ)) (told : List (List ℕ) → Type 0) (refused : Option Refusal) : Type 0 where
  pub others : LeavesOthers d before now settings.name refused
  pub whole : (bytes : List (List ℕ)) → told bytes → CanGoOn d before (job_of settings names bytes) → LeavesWhole d before now (job_of settings names bytes) refused

-- a cleaning: files outside the folder for work stay as they were; without a journal all do; and at the end the journal and the files of
-- the tasks that it recorded are gone
pub record LeavesCleaned {S : Type 0} (d : DiskMembers S) (before now : S) (name : List ℕ) (refused : Option Refusal) : Type 0 where
  pub passes : Passes d before now (KeepsOutside name)
  pub idle : d.reads before (journal_file name) ≡ None → d.reads now ≡ d.reads before
  pub cleaned : refused ≡ None → (f : Folder) → d.may_leave now f → IsCleaned name (d.reads before) f

-- a match: only the output's file and the temporary one beside it change; where it is refused only the latter, unless the store failed;
-- and over finished catalogues the output's file is at each moment as it was or the whole match text, and at the end the latter
pub record LeavesMatched {S : Type 0} (d : DiskMembers S) (before now : S) (query : Query) (refused : Option Refusal) : Type 0 where
  pub changes : Passes d before now (SameButBoth (temporary_file query.output) (output_file query.output))
  pub as_it_was : IsSome refused → Passes d before now (SameBut (temporary_file query.output)) ⊎ HasFailed d.faults before now
  pub whole : (left right : List Row) → AreFinished d before query left right →
      Passes d before now (Publishes (temporary_file query.output) (output_file query.output) (match_text (radius2 query) right left))
  pub written : (left right : List Row) → AreFinished d before query left right → refused ≡ None →
      HasInEach d now (output_file query.output) (match_text (radius2 query) right left)

-- what a command leaves: one that doesn't use the folder leaves the store as it was
abbrev pub Leaves : {S : Type 0} → DiskMembers S → S → S → Command → List (List ℕ) → (List (List ℕ) → Type 0) → Option Refusal → Type 0
Leaves d before now (Histogram order files) names told refused = now ≡ before
Leaves d before now (Plan lowest highest threshold files) names told refused = now ≡ before
Leaves d before now (Around order pixel) names told refused = now ≡ before
Leaves d before now (Import lowest highest threshold margin_order name files) names told refused =
    d.tells before → LeavesImport d before now (settings_of lowest highest threshold margin_order name) names told refused
Leaves d before now (Clean name) names told refused = d.tells before → LeavesCleaned d before now name refused
Leaves d before now (Match left right radius output) names told refused = d.tells before → LeavesMatched d before now (query_of left right radius output) refused
