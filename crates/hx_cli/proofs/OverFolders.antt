-- What the commands that use a folder answer, by what their crates say.
use Rattle.std.proofs.Common.{◌≡◌, ◌∙◌, ◌≤◌, ◌⊎◌, ℕ, List, Option, Some, None, Result, Ok, Err, IfErr, IfOk, IfSome, Vec, Global, arith, inl, inr, length, map, refl, sym}
use Rattle.std.specs.Prelude.{IsSome, IsSomeAnd}
use Rattle.hx_base.specs.declared.refusal.JobFile.{JobFile}
use Rattle.hx_base.specs.declared.refusal.Refusal.{Refusal}
use Rattle.hx_base.specs.declared.refusal.Refusal.TheVariants as refusal
use Rattle.hx_base.specs.declared.row.Row.{Row}
use Rattle.hx_base.specs.declared.settings.Settings.{Settings}
use Rattle.hx_book.specs.Tasks.{JobData}
use Rattle.hx_catalog.specs.Answers.{IsDamagedAt, IsOutside}
use Rattle.hx_import.specs.Cleaning.{KeepsOutside}
use Rattle.hx_import.specs.Imports.{AreCounts, CanGoOn, IsDecidedBy, IsFolderRefusal, IsImportCause, IsImportRefusal, IsOfFolder, LeavesOthers, LeavesWhole, MayStandOverFolder, ShownBy, job_of}
use Rattle.hx_inputs.specs.Causes.{IsInputsCause}
use Rattle.hx_inputs.specs.Inputs.{too_long}
use Rattle.hx_inputs.specs.Sources.{SameSources, Tell}
use Rattle.hx_outside.specs.Disk.{DiskMembers, Passes}
use Rattle.hx_outside.specs.Faults.{HasFailed}
use Rattle.hx_outside.specs.Folders.{Folder, SameBut, SameButBoth, Step}
use Rattle.hx_outside.specs.Sources.{SourceMembers}
use Rattle.hx_publish.specs.Publishing.{HasInEach, Publishes}
use Rattle.hx_words.specs.Requests.{word_from_end}
use Rattle.hx_words.specs.Words.{Around, Clean, Command, Histogram, Import, IsCleanLine, Match, Plan}
use Rattle.hx_xmatch.specs.Files.{NamesFileOf}
use Rattle.hx_xmatch.specs.MatchText.{match_text, matched_rows}
use Rattle.hx_xmatch.specs.Outcomes.{AnswersExactly, AreFinished, IsAbsent, IsMatchRefusal, MayComeFirst, MayRefuseMatch, radius2}
use Rattle.hx_xmatch.specs.Output.{output_file, temporary_file}
use Rattle.hx_xmatch.specs.declared.query.Query.{Query}
use Rattle.hx_cli.specs.Asked.{HasBoth, query_of, settings_of}
use Rattle.hx_cli.specs.FirstRefusal.{IsAbsentRefusal, IsCleanRefusal, IsDecidedFor, IsFirstOfMatch, IsLaterRefusal, IsRefusalOfFolder, MayStandFor, ShowsFor}
use Rattle.hx_cli.specs.FolderTexts.{clean_line, import_line, matched_line}
use Rattle.hx_cli.specs.Leaves.{Leaves, LeavesCleaned, LeavesImport, LeavesMatched}
use Rattle.hx_cli.specs.Runs.{Answers, Decides, Differs, GoesOn, IsCleanCause, IsTextOr, refusal_in}

-- sources that weren't used
pub same_self : {Src : Type 0} (source : SourceMembers Src) (inputs : List Src) → SameSources source inputs inputs
same_self source inputs = record { count = refl; each = λ i d below. record { bytes = refl; name = refl; later = omega arith } }

-- the name that a cleaning takes
pub last_word : (words : List (List ℕ)) (name : List ℕ) → IsCleanLine words name → word_from_end words 1 ≡ name
last_word words name line = rw line.form refl

module _ {S : Type 0} (d : DiskMembers S) (s : S) where
  -- a store that wasn't used
  pub unmoved : (step : Step) → ((f : Folder) → step f f) → d.tells s → Passes d s s step
  unmoved step still told = record {
    told = told;
    later = omega arith;
    keeps = λ t f le left. left;
    leaves = λ t f le left. inl left;
    each = λ f left. (f, d.only_now s f left, still f);
    seen = still (d.reads s);
  }

  -- what each command leaves that was refused before it used the store
  idle_import : (settings : Settings) (names : List (List ℕ)) (told : List (List ℕ) → Type 0) (r : Refusal) → d.tells s → LeavesImport d s s settings names told (Some r)
  idle_import settings names told r tells = record {
    others = record {
      told = tells;
      others = λ f left. (f, d.only_now s f left, λ n outside. refl);
      early = λ given is early f left. (f, d.only_now s f left, record { others = λ n other. refl; there = inl refl });
    };
    whole = λ bytes tell goes. record {
      goes_on = λ f left. record { resumable = goes.resumable f (d.only_now s f left); recorded = λ t each. each f (d.only_now s f left) };
      whole = λ none f now. cc none;
    };
  }

  idle_clean : (name : List ℕ) (r : Refusal) → d.tells s → LeavesCleaned d s s name (Some r)
  idle_clean name r tells = record { passes = unmoved (KeepsOutside name) (λ f n outside. refl) tells; idle = λ none. refl; cleaned = λ none f now. cc none }

  both-still : (tmp out : List ℕ) → d.tells s → Passes d s s (SameButBoth tmp out)
  both-still tmp out tells = unmoved (SameButBoth tmp out) (λ f n a b. refl) tells

  one-still : (tmp : List ℕ) → d.tells s → Passes d s s (SameBut tmp)
  one-still tmp tells = unmoved (SameBut tmp) (λ f n a. refl) tells

  published-still : (tmp out text : List ℕ) → d.tells s → Passes d s s (Publishes tmp out text)
  published-still tmp out text tells = unmoved (Publishes tmp out text) (λ f. record { others = λ n a b. refl; there = inl refl }) tells

  idle_match : (query : Query) (r : Refusal) → d.tells s → LeavesMatched d s s query (Some r)
  idle_match query r tells = record {
    changes = both-still _ _ tells;
    as_it_was = λ some. inl (one-still _ tells);
    whole = λ left right fin. published-still _ _ _ tells;
    written = λ left right fin none. cc none;
  }

  pub idle_leaves : (command : Command) (names : List (List ℕ)) (told : List (List ℕ) → Type 0) (r : Refusal) → Leaves d s s command names told (Some r)
  idle_leaves (Histogram order files) names told r = refl
  idle_leaves (Plan lowest highest threshold files) names told r = refl
  idle_leaves (Around order pixel) names told r = refl
  idle_leaves (Import lowest highest threshold margin_order name files) names told r = idle_import (settings_of lowest highest threshold margin_order name) names told r
  idle_leaves (Clean name) names told r = idle_clean name r
  idle_leaves (Match left right radius output) names told r = idle_match (query_of left right radius output) r

memory_stands : (command : Command) → MayStandFor command refusal.Memory
memory_stands (Histogram order files) = tt
memory_stands (Plan lowest highest threshold files) = tt
memory_stands (Around order pixel) = tt
memory_stands (Import lowest highest threshold margin_order name files) = tt
memory_stands (Clean name) = tt
memory_stands (Match left right radius output) = tt

of_memory : (r : Refusal) → Some refusal.Memory ≡ Some r → IsOfFolder r → ⊥
of_memory r is of = let e : refusal.Memory ≡ r = cc is in rw (← e) at of

of_outside : (r : Refusal) → IsOfFolder r → IsOutside r → ⊥
of_outside r of (inl is) = rw is at of
of_outside r of (inr is) = rw is at of

of_damage : (side : ℕ) (file : JobFile) (IsDamage : ℕ → Type 0) (r : Refusal) → IsOfFolder r → IsDamagedAt side file IsDamage r → ⊥
of_damage side file IsDamage r of (place, is, damage) = rw is at of

-- want of memory leaves what the folder refuses open
memory_decides : (command : Command) (IsRight : Option Refusal → Type 0) → Decides command (Some refusal.Memory) IsRight
memory_decides (Histogram order files) IsRight = tt
memory_decides (Plan lowest highest threshold files) IsRight = tt
memory_decides (Around order pixel) IsRight = tt
memory_decides (Import lowest highest threshold margin_order name files) IsRight = record { only = λ r is of. absurd (of_memory r is of); always = λ r right. inr tt }
memory_decides (Clean name) IsRight = record { only = λ r is of. absurd (of_memory r is of); always = λ r right. inr tt }
memory_decides (Match left right radius output) IsRight = record { only = λ r is of. absurd (of_memory r is of); always = λ r right. inr tt }

module _ {Src S : Type 0} (source : SourceMembers Src) (d : DiskMembers S) (inputs : List Src) where
  -- want of memory before anything was done
  pub idle_answers : (command : Command) (store : S) → Answers source d command (IsLaterRefusal command) (IsRefusalOfFolder command) inputs inputs store store (Err refusal.Memory)
  idle_answers command store = record {
    same = same_self source inputs;
    later = omega arith;
    text = λ bytes tell. tt;
    first = λ bytes tell premises. inl (memory_stands command);
    decided = λ bytes tell told. memory_decides command (IsRefusalOfFolder command (map source.label inputs) bytes (d.reads store));
    cause = inl tt;
    leaves = idle_leaves d store command (map source.label inputs) (Tell source inputs) refusal.Memory;
  }

  module _ (inputs_now : List Src) (store now : S) where
    abbrev names : List (List ℕ)
    names = map source.label inputs

    -- an import
    module _ (l h t m : ℕ) (name : List ℕ) where
      abbrev job : List (List ℕ) → JobData
      job bytes = job_of (settings_of l h t m name) names bytes

      abbrev asked : Command
      asked = Import l h t m name names

      pub import_answers : ((bytes : List (List ℕ)) → Tell source inputs bytes → too_long bytes ≡ None) → (refused : Option Refusal) (rows partitions margin : ℕ) (answer : Result (Vec ℕ Global) Refusal)
          → SameSources source inputs inputs_now → d.faults store ≤ d.faults now
          → (d.tells store → LeavesOthers d store now name refused)
          → ((bytes : List (List ℕ)) → Tell source inputs bytes → CanGoOn d store (job bytes) → LeavesWhole d store now (job bytes) refused)
          → ((bytes : List (List ℕ)) → Tell source inputs bytes → CanGoOn d store (job bytes) → refused ≡ None → AreCounts (job bytes) rows partitions margin)
          → ((bytes : List (List ℕ)) → Tell source inputs bytes → too_long bytes ≡ None → d.tells store → IsDecidedBy (IsFolderRefusal (job bytes) (d.reads store)) refused)
          → ((bytes : List (List ℕ)) → Tell source inputs bytes → too_long bytes ≡ None → CanGoOn d store (job bytes) → ShownBy (IsImportRefusal (job bytes) (d.reads store)) refused)
          → IfSome refused (λ r. IsInputsCause source inputs inputs_now r ⊎ IsImportCause d store now name (Differs d store (settings_of l h t m name) names (Tell source inputs)) (GoesOn d store (settings_of l h t m name) names (Tell source inputs)) r)
          → IsTextOr refused (import_line name rows partitions margin) answer
          → Answers source d asked (IsLaterRefusal asked) (IsRefusalOfFolder asked) inputs inputs_now store now answer
      import_answers short None rows partitions margin (Ok text) same later others whole counts folder first cause is = record {
        same = same;
        later = later;
        text = λ bytes tell. (rows, partitions, margin, is, λ goes. counts bytes tell goes refl);
        first = λ bytes tell premises. first bytes tell (short bytes tell) premises;
        decided = λ bytes tell told. let by = folder bytes tell (short bytes tell) told in record { only = λ r e of. by.only r e of; always = λ r right. by.always r right };
        cause = tt;
        leaves = λ told. record { others = others told; whole = whole };
      }
      import_answers short None rows partitions margin (Err r) same later others whole counts folder first cause is = absurd is
      import_answers short (Some r) rows partitions margin (Ok text) same later others whole counts folder first cause is = absurd is
      import_answers short (Some r) rows partitions margin (Err given) same later others whole counts folder first cause is = rw is (record {
        same = same;
        later = later;
        text = λ bytes tell. tt;
        first = λ bytes tell premises. first bytes tell (short bytes tell) premises;
        decided = λ bytes tell told. let by = folder bytes tell (short bytes tell) told in record { only = λ r e of. by.only r e of; always = λ r right. by.always r right };
        cause = cause;
        leaves = λ told. record { others = others told; whole = whole };
      })

  -- a cleaning: no inputs are used
  pub clean_answers : (name : List ℕ) (store now : S) (answer : Result (Vec ℕ Global) Refusal)
      → d.faults store ≤ d.faults now
      → IfOk answer (λ text. text.items ≡ clean_line name)
      → (d.tells store → ShowsFor (Clean name) (IsCleanRefusal name (d.reads store)) answer)
      → (d.tells store → LeavesCleaned d store now name (refusal_in answer))
      → IfErr answer (IsCleanCause d store now name)
      → Answers source d (Clean name) (IsLaterRefusal (Clean name)) (IsRefusalOfFolder (Clean name)) inputs inputs store now answer
  clean_answers name store now (Ok text) later is first leaves cause = record {
    same = same_self source inputs;
    later = later;
    text = λ bytes tell. is;
    first = λ bytes tell premises. first premises.told;
    decided = λ bytes tell told. record { only = λ r e of. cc e; always = λ r right. absurd (not-both r (first told) right) };
    cause = tt;
    leaves = leaves;
  }
    where
      not-both : (r : Refusal) → IsCleanRefusal name (d.reads store) None → IsCleanRefusal name (d.reads store) (Some r) → ⊥
      not-both (refusal.NoCatalogue side) there right = there right.1
      not-both _ there right = right
  clean_answers name store now (Err r) later is first leaves cause = record {
    same = same_self source inputs;
    later = later;
    text = λ bytes tell. tt;
    first = λ bytes tell premises. first premises.told;
    decided = λ bytes tell told. record { only = λ given e of. let same : r ≡ given = cc e in rw (← same) (right-one r (rw (← same) at of) (first told)); always = λ given right. one r given (first told) right };
    cause = inr cause;
    leaves = leaves;
  }
    where
      right-one : (r : Refusal) → IsOfFolder r → MayStandOverFolder r ⊎ IsCleanRefusal name (d.reads store) (Some r) → IsCleanRefusal name (d.reads store) (Some r)
      right-one r of (inr right) = right
      right-one (refusal.NoCatalogue side) of (inl stands) = absurd stands
      right-one refusal.NameTaken of (inl stands) = absurd stands
      right-one (refusal.OtherJob place kept asked) of (inl stands) = absurd stands
      right-one _ of (inl stands) = absurd of

      one : (r given : Refusal) → MayStandOverFolder r ⊎ IsCleanRefusal name (d.reads store) (Some r) → IsCleanRefusal name (d.reads store) (Some given) → (Some r ≡ Some given) ⊎ MayStandOverFolder r
      one r given (inl stands) right = inr stands
      one (refusal.NoCatalogue side) (refusal.NoCatalogue other) (inr here) right = let same : side ≡ other = here.0 ∙ sym right.0 in inl (rw same refl)
      one (refusal.NoCatalogue side) _ (inr here) right = absurd right
      one _ given (inr here) right = absurd here

  -- a match
  module _ (left right : List ℕ) (radius : ℕ) (output : List ℕ) (store now : S) where
    abbrev query : Query
    query = query_of left right radius output

    outside_stands : (r : Refusal) → IsOutside r → MayStandOverFolder r
    outside_stands r (inl is) = rw is tt
    outside_stands r (inr is) = rw is tt

    file_stands : (side : ℕ) (r : Refusal) → NamesFileOf side r → MayStandOverFolder r
    file_stands side r (file, place, is) = rw is tt

    first_stands : (r : Refusal) → MayComeFirst r → MayStandOverFolder r
    first_stands r (inl out) = outside_stands r out
    first_stands r (inr (inl file)) = file_stands 1 r file
    first_stands r (inr (inr file)) = file_stands 2 r file

    is_some : (file : Option (List ℕ)) (bytes : List ℕ) → file ≡ Some bytes → IsSome file
    is_some file bytes is = rw is refl

    -- over finished catalogues
    finished_shows : (both : HasBoth d store query) (refused : Option Refusal) → AnswersExactly both.finished.parts both.finished.right_settings.margin_order (radius2 query) both.left_rows both.right_rows refused
        → ShownBy (IsFirstOfMatch query (d.reads store)) refused
    finished_shows both None exact = (
      None,
      (is_some _ _ (both.finished.each_left (d.reads store) (d.reads_now store both.told)).catalogue.texts.own.text, is_some _ _ (both.finished.each_right (d.reads store) (d.reads_now store both.told)).catalogue.texts.own.text),
      record {
        left_settings = both.finished.left_settings;
        left_rows = both.left_rows;
        is_left = both.finished.each_left (d.reads store) (d.reads_now store both.told);
        right_settings = both.finished.right_settings;
        right_rows = both.right_rows;
        is_right = both.finished.each_right (d.reads store) (d.reads_now store both.told);
        parts = both.finished.parts;
        listed = both.finished.listed;
        first_is = exact;
      },
    )
    finished_shows both (Some r) (inl out) = inl (outside_stands r out)
    finished_shows both (Some r) (inr narrow) = inr (
      None,
      (is_some _ _ (both.finished.each_left (d.reads store) (d.reads_now store both.told)).catalogue.texts.own.text, is_some _ _ (both.finished.each_right (d.reads store) (d.reads_now store both.told)).catalogue.texts.own.text),
      record {
        left_settings = both.finished.left_settings;
        left_rows = both.left_rows;
        is_left = both.finished.each_left (d.reads store) (d.reads_now store both.told);
        right_settings = both.finished.right_settings;
        right_rows = both.right_rows;
        is_right = both.finished.each_right (d.reads store) (d.reads_now store both.told);
        parts = both.finished.parts;
        listed = both.finished.listed;
        first_is = narrow;
      },
    )

    there : (file : Option (List ℕ)) (bytes : List ℕ) → file ≡ Some bytes → IsSome file
    there file bytes is = rw is refl

    -- a refusal of a match that only the folder decides is that of an absent catalogue
    absent_is : (folder : Folder) (r : Refusal) → IsOfFolder r → IsMatchRefusal folder query r → IsAbsent folder query r
    absent_is folder r of (inl (inl (inl is))) = absurd (rw is at of)
    absent_is folder r of (inl (inl (inr is))) = absurd (rw is at of)
    absent_is folder r of (inl (inr (inl (inl here)))) = inl here
    absent_is folder r of (inl (inr (inl (inr (inl damaged))))) = absurd (of_damage _ _ _ r of damaged)
    absent_is folder r of (inl (inr (inl (inr (inr (properties, damaged)))))) = absurd (of_damage _ _ _ r of damaged)
    absent_is folder r of (inl (inr (inr ((opened, opens), inl (is, none))))) = inr (is, there _ _ opens.1.own.text, none)
    absent_is folder r of (inl (inr (inr ((opened, opens), inr (inl damaged))))) = absurd (of_damage _ _ _ r of damaged)
    absent_is folder r of (inl (inr (inr ((opened, opens), inr (inr (properties, damaged)))))) = absurd (of_damage _ _ _ r of damaged)
    absent_is folder r of (inr (a, b, opened, inl (inl (inl out)))) = absurd (of_outside r of out)
    absent_is folder r of (inr (a, b, opened, inl (inl (inr (index, margin, loads))))) = absurd (of_damage _ _ _ r of loads.2)
    absent_is folder r of (inr (a, b, opened, inl (inr (inl out)))) = absurd (of_outside r of out)
    absent_is folder r of (inr (a, b, opened, inl (inr (inr (index, margin, loads))))) = absurd (of_damage _ _ _ r of loads.2)
    absent_is folder r of (inr (a, b, opened, inr (p, q, gap2, is, narrow))) = absurd (rw is at of)

    decided_by : (refused : Option Refusal) → d.tells store → IfSome refused (IsMatchRefusal (d.reads store) query)
        → ((first : Refusal) → IsAbsent (d.reads store) query first → (refused ≡ Some first) ⊎ IsSomeAnd refused MayComeFirst)
        → IsDecidedFor (Match left right radius output) refused (IsAbsentRefusal query (d.reads store))
    decided_by None told refused absent = record { only = λ r e of. cc e; always = λ r right. absent r right }
    decided_by (Some given) told refused absent = record {
      only = λ r e of. let same : given ≡ r = cc e in rw (← same) (absent_is (d.reads store) given (rw (← same) at of) refused);
      always = λ r right. elim (absent r right) [ inl is ↦ inl is | inr may ↦ inr (first_stands given may) ];
    }

    pub match_answers : (refused : Option Refusal) (rows matched : ℕ) (answer : Result (Vec ℕ Global) Refusal)
        → d.faults store ≤ d.faults now
        → (d.tells store → Passes d store now (SameButBoth (temporary_file output) (output_file output)))
        → (d.tells store → (l r : List Row) → AreFinished d store query l r → Passes d store now (Publishes (temporary_file output) (output_file output) (match_text (radius2 query) r l)))
        → (d.tells store → IsSome refused → Passes d store now (SameBut (temporary_file output)) ⊎ HasFailed d.faults store now)
        → (d.tells store → (l r : List Row) → AreFinished d store query l r → refused ≡ None → HasInEach d now (output_file output) (match_text (radius2 query) r l))
        → (d.tells store → (l r : List Row) → AreFinished d store query l r → refused ≡ None → rows ≡ length l)
        → (d.tells store → (l r : List Row) → AreFinished d store query l r → refused ≡ None → matched ≡ matched_rows (radius2 query) r l)
        → (d.tells store → IfSome refused (IsMatchRefusal (d.reads store) query))
        → IfSome refused MayRefuseMatch
        → (refused ≡ Some refusal.StoreFault → HasFailed d.faults store now)
        → (d.tells store → (first : Refusal) → IsAbsent (d.reads store) query first → (refused ≡ Some first) ⊎ IsSomeAnd refused MayComeFirst)
        → (d.tells store → (l r : List Row) → (finished : AreFinished d store query l r) → AnswersExactly finished.parts finished.right_settings.margin_order (radius2 query) l r refused)
        → IsTextOr refused (matched_line left right rows matched) answer
        → Answers source d (Match left right radius output) (IsLaterRefusal (Match left right radius output)) (IsRefusalOfFolder (Match left right radius output)) inputs inputs store now answer
    match_answers None rows matched (Ok text) later changes whole before written counts found refused kinds failed absent exact is = record {
      same = same_self source inputs;
      later = later;
      text = λ bytes tell. (rows, matched, is, λ told l r fin. (counts told l r fin refl, found told l r fin refl));
      first = λ bytes tell both. finished_shows both None (exact both.told both.left_rows both.right_rows both.finished);
      decided = λ bytes tell told. decided_by None told (refused told) (absent told);
      cause = tt;
      leaves = λ told. record { changes = changes told; as_it_was = before told; whole = whole told; written = written told };
    }
    match_answers None rows matched (Err r) later changes whole before written counts found refused kinds failed absent exact is = absurd is
    match_answers (Some r) rows matched (Ok text) later changes whole before written counts found refused kinds failed absent exact is = absurd is
    match_answers (Some r) rows matched (Err given) later changes whole before written counts found refused kinds failed absent exact is = rw is (record {
      same = same_self source inputs;
      later = later;
      text = λ bytes tell. tt;
      first = λ bytes tell both. finished_shows both (Some r) (exact both.told both.left_rows both.right_rows both.finished);
      decided = λ bytes tell told. decided_by (Some r) told (refused told) (absent told);
      cause = inr (record {
        kind = kinds;
        failed = λ e. failed (rw e refl);
        of_folder = refused;
        of_finished = λ both. exact both.told both.left_rows both.right_rows both.finished;
      });
      leaves = λ told. record { changes = changes told; as_it_was = before told; whole = whole told; written = written told };
    })
