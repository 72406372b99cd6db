-- What finishing a task leaves of a book, at each of its exits.
use Rattle.std.proofs.Common.{◌≡◌, ◌≢◌, ◌<◌, ◌≤◌, ◌∙◌, ◌⊎◌, ◌++◌, ◌∷◌, ℕ, List, [], Some, None, Ok, Option, Bool, false, IfSome, IsSome, is_some, length, refl, sym, ap, subst, ⊎_elim, arith}
use Rattle.std.proofs.lemmas.Bool.Decides.{nat_tests}
use Rattle.std.proofs.lemmas.Bool.{cases_lt}
use Rattle.hx_align.specs.Plans.{pixels_of}
use Rattle.hx_align.specs.declared.plan.PlanRow.{PlanRow}
use Rattle.hx_base.specs.Limits.{most_partitions}
use Rattle.hx_base.specs.Paths.{path_of}
use Rattle.hx_base.specs.Tasks.{file_of}
use Rattle.hx_base.specs.declared.pixel.Pixel.{Pixel}
use Rattle.hx_base.specs.declared.refusal.Refusal.{Refusal}
use Rattle.hx_base.specs.declared.settings.Settings.{Settings}
use Rattle.hx_base.specs.declared.task.Task.{Task}
use Rattle.hx_journal.specs.Journal.{IsAtRest, IsEntry, IsReady, Opened, temporary_file}
use Rattle.hx_journal.specs.Recording.{AreApart, Records}
use Rattle.hx_journal.specs.declared.record.Record.{Record}
use Rattle.hx_outside.specs.Disk.{DiskMembers, Passes}
use Rattle.hx_outside.specs.Faults.{Rose}
use Rattle.hx_outside.specs.Folders.{Folder}
use Rattle.hx_outside.specs.Sources.{SourceMembers}
use Rattle.hx_outside.specs.declared.store.StoreError.{StoreError}
use Rattle.hx_outside.specs.declared.store.StoreError.TheVariants as store_error
use Rattle.hx_spill.specs.Plans.{plan_in}
use Rattle.hx_book.specs.Tasks.{AreParts, GoesByParts, count_of, task_path}
use Rattle.hx_book.specs.Values.{IsValue, rows_in_file}
use Rattle.hx_book.specs.Recordings.{HasNoRows, IsReadable, of_store, pixel_for}
use Rattle.hx_book.specs.Resumable.{HasNumber}
use Rattle.hx_book.specs.Books.{Inside, IsGoodFor, IsKept, IsOutsideCause, IsOwn, IsPut, JobMembers, OnDisk, job_of}
use Rattle.hx_book.specs.declared.answers.Kept.{Kept}
use Rattle.hx_book.proofs.Finishing.{entry_is, held_numbered, names_apart, number_of, path_named, planned_parts}
use Rattle.hx_book.proofs.Holding.{failed_kept, noted_kept, opened_kept}
use Rattle.hx_book.proofs.Keeping.{recorded_disk, recorded_good}
use Rattle.hx_book.proofs.Paths.{IsNumbered}

-- a store's error is a cause of the outside
pub store_cause : {Src : Type 0} (j : JobMembers) (source : SourceMembers Src) (At : ℕ → Src → Type 0) (before now : ℕ) (why : StoreError) → j.before ≤ before → (why ≡ store_error.Failed → Rose before now) → IsOutsideCause j source At now (of_store why)
store_cause j source At before now store_error.Failed later rose = let r = rose refl in omega (arith, later, r)
store_cause j source At before now store_error.Memory later rose = tt

pub none_kept : (o : Option Kept) → is_some o ≡ false → o ≡ None
none_kept None e = refl
none_kept (Some k) e = absurd (cc e)

module _ {Src S : Type 0} (j : JobMembers) (source : SourceMembers Src) (d : DiskMembers S) (b : Inside Src S) (h : IsKept j source d b)
    (t : Task) (own : Option Src) (more : List (Option Src)) (held : b.held ≡ Some t.number) (kind : t.kind ≡ b.stage) (is : IsOwn j source t own) (put : IsPut t.number own b.homes more) (clear : b.first ≡ None) where
  of_count : t.number < count_of (length b.homes) b.partitions b.stage
  of_count = ((h.sound clear).scheduled.held_is t.number held).1

  -- the stage isn't the last
  pub stage_small : b.stage < 9
  stage_small = let s = (h.sound clear).scheduled.within in let n = of_count in ⊎_elim (λ less. less) (λ more. absurd (let e : b.stage ≡ 9 = omega (arith, more, s) in let z : t.number < count_of (length b.homes) b.partitions 9 = subst (λ (k : ℕ). t.number < count_of (length b.homes) b.partitions k) e n in omega (arith, z))) (cases_lt b.stage 9)

  -- of a plan no refusal is kept
  pub plan_unkept : t.kind ≡ 2 → b.kept ≡ None
  plan_unkept two = by b.kept refl
    where
      one : t.number < 1
      one = subst (λ (k : ℕ). t.number < count_of (length b.homes) b.partitions k) (sym kind ∙ two) of_count

      by : (o : Option Kept) → b.kept ≡ o → o ≡ None
      by None e = refl
      by (Some k) e = absurd (let l = (h.sound clear).scheduled.kept_below t.number k held e in let o = one in omega (arith, l, o))

  module _ (bytes : List ℕ) (rows : ℕ) (path tmp : List ℕ) (value : j.premises → IsValue (job_of j) t bytes)
      (some : IsSome (file_of t)) (path_is : IfSome (file_of t) (λ f. path ≡ path_of b.settings.name f (pixel_for b.parts f)))
      (tmp_is : tmp ≡ temporary_file b.settings.name)
      (rows_is : IfSome (file_of t) (λ f. IsReadable bytes f → rows ≡ rows_in_file bytes f)) (no_rows : IfSome (file_of t) (λ f. HasNoRows f → rows ≡ 0)) where
    abbrev pub entry : Record
    entry = record { task = t; len = length bytes; rows = rows }

    numbered : IsNumbered t
    numbered = held_numbered j source d b h clear t held kind

    path_j : path ≡ task_path j.settings.name b.parts t
    path_j = path_named j.settings.name b.parts t path numbered some (subst (λ (n : List ℕ). IfSome (file_of t) (λ f. path ≡ path_of n f (pixel_for b.parts f))) (ap (λ (s : Settings). s.name) h.fitting.settings_are) path_is)

    tmp_j : tmp ≡ temporary_file j.settings.name
    tmp_j = tmp_is ∙ ap (λ (s : Settings). temporary_file s.name) h.fitting.settings_are

    pub apart : AreApart tmp path b.journal.file
    apart = names_apart j.settings.name b.parts t tmp path b.journal.file numbered tmp_j path_j (h.sound clear).file_is

    pub is_entry : IsEntry entry
    is_entry = entry_is t (length bytes) rows numbered no_rows

    are : j.premises → GoesByParts t.kind → AreParts (job_of j) b.parts
    are p by = (h.sound clear).parts_are p (let l = by.0 in omega (arith, l, kind)) (let l = by.1 in omega (arith, l, kind))

    number : j.premises → HasNumber (job_of j) entry
    number p = record { bytes = bytes; value = value p; number = number_of (job_of j) t bytes rows (value p) rows_is }

    module _ (after : S) (call : IsReady d b.store b.journal → Passes d b.store after (Records tmp path bytes b.journal entry)) (later : d.faults b.store ≤ d.faults after) where
      call_j : IsReady d b.store b.journal → Passes d b.store after (Records (temporary_file j.settings.name) (task_path j.settings.name b.parts t) bytes b.journal entry)
      call_j = subst (λ (x : List ℕ). IsReady d b.store b.journal → Passes d b.store after (Records x (task_path j.settings.name b.parts t) bytes b.journal entry)) tmp_j
          (subst (λ (y : List ℕ). IsReady d b.store b.journal → Passes d b.store after (Records tmp y bytes b.journal entry)) path_j call)

      disk : j.tells → OnDisk j d after
      disk = recorded_disk j source d b h after entry b.parts bytes (h.sound clear) held kind are value refl number call_j

      good : j.premises → (f : Folder) → d.left_since after j.moment f → IsGoodFor j f
      good = recorded_good j source d b h after entry b.parts bytes (h.sound clear) held kind are value refl number call_j

      -- the recording failed
      pub failed : (journal : Opened) (r : Refusal) → IsOutsideCause j source (λ n s. (n ≡ t.number) × (own ≡ Some s)) (d.faults after) r
          → IsKept j source d (record b { homes = more; store = after; journal = journal; held = None; first = Some r })
      failed journal r cause = failed_kept j source d b h t own more held kind is put after journal r disk good later cause

      module _ (journal : Opened) (journal_is : journal ≡ record b.journal { records = b.journal.records ++ entry ∷ [] })
          (done : IsReady d b.store b.journal → IsReady d after (record b.journal { records = b.journal.records ++ entry ∷ [] })) where
        rest : j.tells → IsAtRest d after b.journal.file b.journal.header (b.journal.records ++ entry ∷ [])
        rest tells = (done (record { told = (h.disk tells).told; rest = (h.sound clear).rest tells })).rest

        -- the stage goes on
        pub noted : (b.from < count_of (length b.homes) b.partitions b.stage) ⊎ IsSome b.kept → IsKept j source d (record b { homes = more; store = after; journal = journal; held = None })
        noted on = subst (λ (x : Opened). IsKept j source d (record b { homes = more; store = after; journal = x; held = None })) (sym journal_is)
            (noted_kept j source d b h t own more held kind is put clear after entry refl disk good later rest on)

        opened : (parts : List Pixel) (partitions next : ℕ) → b.kept ≡ None → count_of (length b.homes) b.partitions b.stage ≤ b.from
            → b.stage < next → next ≤ 9 → ((k : ℕ) → k ≤ b.stage → count_of (length b.homes) partitions k ≡ count_of (length b.homes) b.partitions k)
            → ((k : ℕ) → b.stage < k → k < next → count_of (length b.homes) partitions k ≡ 0) → (next < 9 → 0 < count_of (length b.homes) partitions next)
            → partitions ≤ 100000 → (j.premises → 3 ≤ next → (ps : List Pixel) × AreParts (job_of j) ps × (length ps ≡ partitions)) → (j.premises → 3 ≤ next → next ≤ 7 → AreParts (job_of j) parts)
            → IsKept j source d (record b { homes = more; store = after; journal = journal; parts = parts; partitions = partitions; stage = next; from = 0; flags = []; held = None })
        opened parts partitions next unkept whole beyond most same empty first few planned known =
            subst (λ (x : Opened). IsKept j source d (record b { homes = more; store = after; journal = x; parts = parts; partitions = partitions; stage = next; from = 0; flags = []; held = None })) (sym journal_is)
            (opened_kept j source d b h t own more held kind is put clear after entry refl disk good later rest parts partitions next unkept whole beyond most same empty first few
            (λ p late. let (ps, of, count) = planned p late in record { parts = ps; are = of; count = count }) known)

        -- the plan is recorded, and the next stage opens with its partitions
        pub planned : (parts : List Pixel) (partitions next : ℕ) (flags : List Bool) → flags ≡ [] → t.kind ≡ 2 → length parts ≡ partitions → partitions ≤ most_partitions → ((plan : List PlanRow) → plan_in bytes ≡ Ok plan → parts ≡ pixels_of plan)
            → 2 < next → next ≤ 9 → ((k : ℕ) → 2 < k → k < next → count_of (length b.homes) partitions k ≡ 0) → (next < 9 → 0 < count_of (length b.homes) partitions next)
            → IsKept j source d (record b { homes = more; store = after; journal = journal; parts = parts; partitions = partitions; stage = next; from = 0; flags = flags; held = None })
        planned parts partitions next flags fresh two long few parts_are beyond most empty first =
            subst (λ (l : List Bool). IsKept j source d (record b { homes = more; store = after; journal = journal; parts = parts; partitions = partitions; stage = next; from = 0; flags = l; held = None })) (sym fresh)
            (opened parts partitions next (plan_unkept two) (let w = ((h.sound clear).scheduled.held_is t.number held).0 in rw stage_two (omega (arith, w))) (rw stage_two beyond) most
            (λ k low. let l : k ≤ 2 = rw stage_two at low in grind (arith, nat_tests))
            (λ k above below. empty k (rw stage_two at above) below) first few
            (λ p late. (parts, of_plan p, long)) (λ p late early. of_plan p))
          where
            stage_two : b.stage ≡ 2
            stage_two = sym kind ∙ two

            of_plan : j.premises → AreParts (job_of j) parts
            of_plan p = planned_parts (job_of j) t bytes parts numbered two (value p) parts_are

        -- the stage is done, and the next opens
        pub passed : (next : ℕ) (flags : List Bool) → flags ≡ [] → t.kind ≢ 2 → b.kept ≡ None → count_of (length b.homes) b.partitions b.stage ≤ b.from
            → b.stage < next → next ≤ 9 → ((k : ℕ) → b.stage < k → k < next → count_of (length b.homes) b.partitions k ≡ 0) → (next < 9 → 0 < count_of (length b.homes) b.partitions next)
            → IsKept j source d (record b { homes = more; store = after; journal = journal; stage = next; from = 0; flags = flags; held = None })
        passed next flags fresh other unkept whole beyond most empty first =
            subst (λ (l : List Bool). IsKept j source d (record b { homes = more; store = after; journal = journal; stage = next; from = 0; flags = l; held = None })) (sym fresh)
            (opened b.parts b.partitions next unkept whole beyond most (λ k low. refl) empty first h.fitting.not_many
            (λ p late. let is = (h.sound clear).planned p (past late) in (is.parts, is.are, is.count)) (λ p late early. (h.sound clear).parts_are p (past late) (omega (arith, beyond, early))))
          where
            -- behind the maps the plan is next
            past : 3 ≤ next → 3 ≤ b.stage
            past late = ⊎_elim
                (λ low. absurd (⊎_elim
                (λ one. let z : 1 ≡ 0 = empty 2 one (omega (arith, late)) in cc z)
                (λ high. other (let e : t.kind ≡ 2 = omega (arith, kind, low, high) in e))
                (cases_lt b.stage 2)))
                (λ high. high) (cases_lt b.stage 3)
