-- What the commands that use a folder are asked for, and the premises under which their answers are exact.
use Rattle.std.specs.Prelude.{◌≡◌, ⊤, ℕ, List, Some}
use Rattle.hx_base.specs.declared.row.Row.{Row}
use Rattle.hx_base.specs.declared.settings.Settings.{Settings}
use Rattle.hx_import.specs.Imports.{CanGoOn, job_of}
use Rattle.hx_journal.specs.Journal.{IsJournal, journal_file}
use Rattle.hx_outside.specs.Disk.{DiskMembers}
use Rattle.hx_words.specs.Words.{Around, Clean, Command, Histogram, Import, Match, Plan}
use Rattle.hx_xmatch.specs.Outcomes.{AreFinished}
use Rattle.hx_xmatch.specs.declared.query.Query.{Query}

abbrev pub settings_of : ℕ → ℕ → ℕ → ℕ → List ℕ → Settings
settings_of lowest highest threshold margin_order name =
    record { name = name; lowest = lowest; highest = highest; threshold = threshold; margin_order = margin_order }

abbrev pub query_of : List ℕ → List ℕ → ℕ → List ℕ → Query
query_of left right radius output = record { left = left; right = right; radius = radius; output = output }

-- the store tells its folder, in which a name's journal is absent or can be read
pub record CanBeCleaned {S : Type 0} (d : DiskMembers S) (store : S) (name : List ℕ) : Type 0 where
  pub told : d.tells store
  pub journal : (bytes : List ℕ) → d.reads store (journal_file name) ≡ Some bytes → IsJournal bytes

-- it has finished catalogues of both names in each folder that a crash now may leave: their rows, file after file
pub record HasBoth {S : Type 0} (d : DiskMembers S) (store : S) (query : Query) : Type 0 where
  pub told : d.tells store
  pub left_rows : List Row
  pub right_rows : List Row
  pub finished : AreFinished d store query left_rows right_rows

-- the premises of a command beside its inputs' bytes: an import that is begun or can be taken up again; a journal that can be read; two
-- finished catalogues
abbrev pub Premises : {S : Type 0} → DiskMembers S → S → Command → List (List ℕ) → List (List ℕ) → Type 0
Premises d store (Histogram order files) names bytes = ⊤
Premises d store (Plan lowest highest threshold files) names bytes = ⊤
Premises d store (Around order pixel) names bytes = ⊤
Premises d store (Import lowest highest threshold margin_order name files) names bytes = CanGoOn d store (job_of (settings_of lowest highest threshold margin_order name) names bytes)
Premises d store (Clean name) names bytes = CanBeCleaned d store name
Premises d store (Match left right radius output) names bytes = HasBoth d store (query_of left right radius output)
