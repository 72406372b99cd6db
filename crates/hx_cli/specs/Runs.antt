-- What a run answers, and why it was refused.
use Rattle.std.specs.Prelude.{◌≡◌, ◌≤◌, ◌++◌, ◌⊎◌, ⊤, ℕ, List, length, map, take, Option, Some, None, IfErr, IfOk, Result, Ok, Err, Vec}
use Rattle.std.specs.declared.alloc.Global.{Global}
use Rattle.hx_align.specs.Refusals.{IsCutCause}
use Rattle.hx_base.specs.Limits.{most_inputs}
use Rattle.hx_base.specs.declared.refusal.Refusal.{Refusal}
use Rattle.hx_base.specs.declared.refusal.Refusal.TheVariants as refusal
use Rattle.hx_base.specs.declared.row.Row.{Row}
use Rattle.hx_base.specs.declared.settings.Settings.{Settings}
use Rattle.hx_import.specs.Cleaning.{IsNotCleaned, MayRefuseCleaning}
use Rattle.hx_import.specs.Imports.{AreCounts, CanGoOn, HasOtherHeader, IsImportCause, job_of}
use Rattle.hx_inputs.specs.Causes.{IsInputsCause}
use Rattle.hx_inputs.specs.Inputs.{AreRows}
use Rattle.hx_inputs.specs.Sources.{SameSources, Tell}
use Rattle.hx_outside.specs.Disk.{DiskMembers}
use Rattle.hx_outside.specs.Faults.{HasFailed}
use Rattle.hx_outside.specs.Folders.{Folder}
use Rattle.hx_outside.specs.Sources.{SourceMembers}
use Rattle.hx_cli.specs.Asked.{HasBoth, Premises, query_of, settings_of}
use Rattle.hx_cli.specs.FirstRefusal.{IsDecidedFor, ShowsFor}
use Rattle.hx_cli.specs.FolderTexts.{clean_line, import_line, matched_line}
use Rattle.hx_cli.specs.Histograms.{histogram_text}
use Rattle.hx_cli.specs.Leaves.{Leaves}
use Rattle.hx_cli.specs.Neighbours.{IsAroundText}
use Rattle.hx_cli.specs.Plans.{IsPlanText}
use Rattle.hx_words.specs.Words.{Around, Clean, Command, Histogram, Import, Match, Means, HasNoMeaning, Plan}
use Rattle.hx_xmatch.specs.MatchText.{matched_rows}
use Rattle.hx_xmatch.specs.Outcomes.{AnswersExactly, AreFinished, IsMatchRefusal, MayRefuseMatch, radius2}
use Rattle.hx_xmatch.specs.declared.query.Query.{Query}

-- ---- causes

-- why a catalogue isn't cleaned
pub record IsCleanCause {S : Type 0} (d : DiskMembers S) (before now : S) (name : List ℕ) (r : Refusal) : Type 0 where
  pub kind : MayRefuseCleaning r
  pub failed : r ≡ refusal.StoreFault → HasFailed d.faults before now
  pub of_folder : d.tells before → IsNotCleaned (d.reads before) name r

-- why catalogues aren't matched; over finished ones a pair of pixels is too near, the store failed or memory was wanting
pub record IsMatchCause {S : Type 0} (d : DiskMembers S) (before now : S) (query : Query) (r : Refusal) : Type 0 where
  pub kind : MayRefuseMatch r
  pub failed : r ≡ refusal.StoreFault → HasFailed d.faults before now
  pub of_folder : d.tells before → IsMatchRefusal (d.reads before) query r
  pub of_finished : (both : HasBoth d before query) →
      AnswersExactly both.finished.parts both.finished.right_settings.margin_order (radius2 query) both.left_rows both.right_rows (Some r)

-- where an import's journal has another header
abbrev pub Differs : {S : Type 0} → DiskMembers S → S → Settings → List (List ℕ) → (List (List ℕ) → Type 0) → ℕ → ℕ → ℕ → Type 0
Differs d before settings names told place kept asked =
    (bytes : List (List ℕ)) → told bytes → d.tells before → HasOtherHeader (job_of settings names bytes) (d.reads before) place kept asked

-- the premises of an import
abbrev pub GoesOn : {S : Type 0} → DiskMembers S → S → Settings → List (List ℕ) → (List (List ℕ) → Type 0) → Type 0
GoesOn d before settings names told = (bytes : List (List ℕ)) × told bytes × CanGoOn d before (job_of settings names bytes)

-- the cause of a refusal that is a command's own. `told` says which bytes the inputs tell.
abbrev pub IsOwnCause : {S : Type 0} → DiskMembers S → S → S → List (List ℕ) → (List (List ℕ) → Type 0) → Command → Refusal → Type 0
IsOwnCause d before now names told (Histogram order files) r = ⊥
IsOwnCause d before now names told (Plan lowest highest threshold files) r = IsCutCause threshold r
IsOwnCause d before now names told (Around order pixel) r = ⊥
IsOwnCause d before now names told (Import lowest highest threshold margin_order name files) r =
    IsImportCause d before now name (Differs d before (settings_of lowest highest threshold margin_order name) names told)
    (GoesOn d before (settings_of lowest highest threshold margin_order name) names told) r
IsOwnCause d before now names told (Clean name) r = IsCleanCause d before now name r
IsOwnCause d before now names told (Match left right radius output) r = IsMatchCause d before now (query_of left right radius output) r

-- the cause of a refusal of a line that has a meaning, by the sources and the store before and after
abbrev pub IsCommandCause : {Src S : Type 0} → SourceMembers Src → DiskMembers S → List (List ℕ) → List Src → List Src → S → S → Refusal → Type 0
IsCommandCause source d words inputs inputs_now store store_now r =
    (command : Command) × Means words command
    × (IsInputsCause source inputs inputs_now r ⊎ IsOwnCause d store store_now (map source.label inputs) (Tell source inputs) command r)

-- the cause of each refusal: the words have no meaning; the sink has failed; or that of the command
abbrev pub IsCaused : {Src S : Type 0} → SourceMembers Src → DiskMembers S → List (List ℕ) → List Src → List Src → S → S → Type 0 → Refusal → Type 0
IsCaused source d words inputs inputs_now store store_now sink_failed r =
    ((r ≡ refusal.Usage) × HasNoMeaning words) ⊎ (((r ≡ refusal.SinkFault) × sink_failed) ⊎ IsCommandCause source d words inputs inputs_now store store_now r)

-- a command that uses the folder has met no fault of the store
abbrev pub StoreIsStill : Command → Type 0 → Type 0
StoreIsStill (Histogram order files) failed = ⊤
StoreIsStill (Plan lowest highest threshold files) failed = ⊤
StoreIsStill (Around order pixel) failed = ⊤
StoreIsStill (Import lowest highest threshold margin_order name files) failed = failed → ⊥
StoreIsStill (Clean name) failed = failed → ⊥
StoreIsStill (Match left right radius output) failed = failed → ⊥

-- ---- texts

-- the line of an import; its numbers are the catalogue's where the import could go on
abbrev pub IsImportText : {S : Type 0} → DiskMembers S → S → Settings → List (List ℕ) → List (List ℕ) → List ℕ → Type 0
IsImportText d store settings names bytes text =
    (rows : ℕ) × (partitions : ℕ) × (margin : ℕ) × (text ≡ import_line settings.name rows partitions margin)
    × (CanGoOn d store (job_of settings names bytes) → AreCounts (job_of settings names bytes) rows partitions margin)

-- the line of a match; over finished catalogues its numbers are those of the match text's lines, and of its lines with a match
abbrev pub IsMatchedText : {S : Type 0} → DiskMembers S → S → Query → List ℕ → Type 0
IsMatchedText d store query text =
    (rows : ℕ) × (matched : ℕ) × (text ≡ matched_line query.left query.right rows matched)
    × (d.tells store → (left right : List Row) → AreFinished d store query left right → (rows ≡ length left) × (matched ≡ matched_rows (radius2 query) right left))

-- the text of a command over inputs with these names and bytes, and a folder
abbrev pub IsTextOf : {S : Type 0} → DiskMembers S → S → Command → List (List ℕ) → List (List ℕ) → List ℕ → Type 0
IsTextOf d store (Histogram order files) names bytes text = (rows : List Row) × AreRows names bytes rows × (text ≡ histogram_text order rows)
IsTextOf d store (Plan lowest highest threshold files) names bytes text = (rows : List Row) × AreRows names bytes rows × IsPlanText lowest highest threshold rows text
IsTextOf d store (Around order pixel) names bytes text = IsAroundText order pixel text
IsTextOf d store (Import lowest highest threshold margin_order name files) names bytes text =
    IsImportText d store (settings_of lowest highest threshold margin_order name) names bytes text
IsTextOf d store (Clean name) names bytes text = text ≡ clean_line name
IsTextOf d store (Match left right radius output) names bytes text = IsMatchedText d store (query_of left right radius output) text

-- the same of the words of a command line
abbrev pub IsOutput : {S : Type 0} → DiskMembers S → S → List (List ℕ) → List (List ℕ) → List (List ℕ) → List ℕ → Type 0
IsOutput d store words names bytes text = (command : Command) × Means words command × IsTextOf d store command names bytes text

-- ---- answers

abbrev pub refusal_in : {T : Type 0} → Result T Refusal → Option Refusal
refusal_in (Ok done) = None
refusal_in (Err r) = Some r

-- what the folder refuses is decided, where a command uses it
abbrev pub Decides : Command → Option Refusal → (Option Refusal → Type 0) → Type 0
Decides (Histogram order files) answer IsRight = ⊤
Decides (Plan lowest highest threshold files) answer IsRight = ⊤
Decides (Around order pixel) answer IsRight = ⊤
Decides command answer IsRight = IsDecidedFor command answer IsRight

-- an answer is a text, or else a refusal
abbrev pub IsTextOr : Option Refusal → List ℕ → Result (Vec ℕ Global) Refusal → Type 0
IsTextOr None text (Ok t) = t.items ≡ text
IsTextOr None text (Err r) = ⊥
IsTextOr (Some r) text (Ok t) = ⊥
IsTextOr (Some r) text (Err given) = given ≡ r

-- What a command answers over sources and a store, and what it leaves of them: its text, its first refusal, the cause of each.
pub record Answers {Src S : Type 0} (source : SourceMembers Src) (d : DiskMembers S) (command : Command)
    (IsFirst IsRight : List (List ℕ) → List (List ℕ) → Folder → Option Refusal → Type 0)
    (inputs inputs_now : List Src) (store store_now : S) (answer : Result (Vec ℕ Global) Refusal) : Type 0 where
  pub same : SameSources source inputs inputs_now
  pub later : d.faults store ≤ d.faults store_now
  pub text : (bytes : List (List ℕ)) → Tell source inputs bytes → IfOk answer (λ text. IsTextOf d store command (map source.label inputs) bytes text.items)
  pub first : (bytes : List (List ℕ)) → Tell source inputs bytes → Premises d store command (map source.label inputs) bytes →
      ShowsFor command (IsFirst (map source.label inputs) bytes (d.reads store)) answer
  pub decided : (bytes : List (List ℕ)) → Tell source inputs bytes → d.tells store →
      Decides command (refusal_in answer) (IsRight (map source.label inputs) bytes (d.reads store))
  pub cause : IfErr answer (λ r. IsInputsCause source inputs inputs_now r ⊎ IsOwnCause d store store_now (map source.label inputs) (Tell source inputs) command r)
  pub leaves : Leaves d store store_now command (map source.label inputs) (Tell source inputs) (refusal_in answer)

-- too many inputs: that is refused, and the store is as it was
pub record IsTooMany {Src S : Type 0} (inputs : List Src) (store store_now : S) (answer : Result (Vec ℕ Global) Refusal) : Type 0 where
  pub refused : answer ≡ Err (refusal.TooMany 1 (length inputs) most_inputs)
  pub untouched : store_now ≡ store

-- a line without a meaning: that is refused, and nothing else is done
pub record IsUsage {Src S : Type 0} (inputs inputs_now : List Src) (store store_now : S) (answer : Result (Vec ℕ Global) Refusal) : Type 0 where
  pub refused : answer ≡ Err refusal.Usage
  pub inputs_are : inputs_now ≡ inputs
  pub untouched : store_now ≡ store

-- ---- printing

-- the sink has gained the text; where the sink failed, some of its front; after every other refusal nothing
abbrev pub Gains : (List ℕ → Type 0) → List ℕ → Option (List ℕ) → Option Refusal → Type 0
Gains IsText before now None = (text : List ℕ) × IsText text × (now ≡ Some (before ++ text))
Gains IsText before now (Some refusal.SinkFault) = (text : List ℕ) × (count : ℕ) × IsText text × (now ≡ Some (before ++ take count text))
Gains IsText before now (Some _) = now ≡ Some before

-- the outcome of printing an answer: a text is printed or the sink fails, and a refusal stays
abbrev pub Prints : Result (Vec ℕ Global) Refusal → Option Refusal → Type 0
Prints (Ok text) None = Unit {0}
Prints (Ok text) (Some refusal.SinkFault) = Unit {0}
Prints (Ok text) (Some _) = ⊥
Prints (Err r) outcome = outcome ≡ Some r
