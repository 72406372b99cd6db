-- A book's type is kept over each of its calls.
use Rattle.std.proofs.Common.{◌≡◌, ◌<◌, ◌≤◌, ◌+◌, ◌∙◌, ◌++◌, ◌∷◌, ◌⊎◌, ℕ, List, [], Some, None, Option, Contains, true, false, IfSome, IsSome, length, slice_get, slice_index_or, refl, sym, ap, subst, inl, inr, ⊎_elim, arith}
use Rattle.std.proofs.lemmas.Bool.{cases_eq}
use Rattle.hx_base.specs.declared.pixel.Pixel.{Pixel}
use Rattle.hx_base.specs.declared.refusal.Refusal.{Refusal}
use Rattle.hx_base.specs.declared.task.Task.{Task}
use Rattle.hx_journal.specs.Journal.{IsAtRest, Opened}
use Rattle.hx_journal.specs.declared.record.Record.{Record}
use Rattle.hx_outside.specs.Disk.{DiskMembers}
use Rattle.hx_outside.specs.Folders.{Folder}
use Rattle.hx_outside.specs.Sources.{SourceMembers}
use Rattle.hx_book.specs.Tasks.{AreParts, IsNext, count_of, task}
use Rattle.hx_book.specs.Resumable.{done_of}
use Rattle.hx_book.specs.Books.{Inside, IsGoodFor, IsKept, IsOutsideCause, IsOwn, IsPlanned, IsPut, IsRefusedBy, IsScheduled, IsSound, IsTaskCause, JobMembers, OnDisk, TakesInput, job_of}
use Rattle.hx_book.specs.declared.answers.Kept.{Kept}
use Rattle.hx_book.proofs.Causes.{outside_wider}
use Rattle.hx_book.proofs.Homes.{claimed_own, put_all, put_none, put_own, put_stays}
use Rattle.hx_book.proofs.Keeping.{is_next, takes_or_not}
use Rattle.hx_book.proofs.Turns.{claimed_schedule, noted_schedule, opened_schedule, refused_schedule, some_is}
use Rattle.hx_book.proofs.Steps.{done_push}

none_has : {X : Type 0} (o : Option X) (P : X → Type 0) → o ≡ None → IfSome o P
none_has o P e = subst (λ x. IfSome x P) (sym e) tt

some_wider : {X : Type 0} (o : Option X) (P Q : X → Type 0) → ((x : X) → P x → Q x) → IfSome o P → IfSome o Q
some_wider None P Q wider h = tt
some_wider (Some x) P Q wider h = wider x h

module _ {Src S : Type 0} (j : JobMembers) (source : SourceMembers Src) (d : DiskMembers S) (b : Inside Src S) (h : IsKept j source d b) where
  -- the front of the ready tasks was claimed
  pub claimed_kept : (more : List (Option Src)) (next : ℕ) → b.first ≡ None → b.held ≡ None → b.from < count_of (length b.homes) b.partitions b.stage
      → b.from + 1 ≤ next → ((n : ℕ) → b.from + 1 ≤ n → n < next → slice_index_or b.flags n false ≡ true) → (next < count_of (length b.homes) b.partitions b.stage → slice_index_or b.flags next false ≡ false)
      → length more ≡ length b.homes → ((n : ℕ) → (n ≡ b.from → ⊥) → slice_get more n ≡ slice_get b.homes n)
      → (TakesInput b.stage → slice_get more b.from ≡ Some None) → ((TakesInput b.stage → ⊥) → more ≡ b.homes)
      → IsKept j source d (record b { homes = more; from = next; held = Some b.from })
  claimed_kept more next clear free ready later skipped found long others taken same = record {
    fitting = record { settings_are = h.fitting.settings_are; name = h.fitting.name; limits = h.fitting.limits; count = long ∙ h.fitting.count; some = h.fitting.some; few = h.fitting.few; not_many = h.fitting.not_many; heading = h.fitting.heading };
    homes = λ n s at. ⊎_elim
        (λ (e : n ≡ b.from). ⊎_elim (λ takes. absurd (let c : Some None ≡ Some (Some s) = sym (taken takes) ∙ subst (λ (k : ℕ). slice_get more k ≡ Some (Some s)) e at in cc c))
        (λ no. h.homes n s (subst (λ (l : List (Option Src)). slice_get l n ≡ Some (Some s)) (same no) at)) (takes_or_not b.stage))
        (λ other. h.homes n s (sym (others n other) ∙ at)) (cases_eq n b.from);
    away = λ n at. ⊎_elim
        (λ (e : n ≡ b.from). ⊎_elim (λ takes. (ap Some (sym e), takes))
        (λ no. absurd (nobody n (subst (λ (l : List (Option Src)). slice_get l n ≡ Some None) (same no) at))) (takes_or_not b.stage))
        (λ other. absurd (nobody n (sym (others n other) ∙ at))) (cases_eq n b.from);
    gone = λ n e takes. subst (λ (k : ℕ). slice_get more k ≡ Some None) (some_is b.from n e) (taken takes);
    with_tells = h.with_tells;
    disk = h.disk;
    good = h.good;
    count = h.count;
    sound = λ e. let s = h.sound e in record {
      scheduled = subst (λ (i : ℕ). IsScheduled i b.partitions (done_of b.journal.records) b.stage next b.flags (Some b.from) b.kept) (sym long)
          (claimed_schedule (length b.homes) b.partitions (done_of b.journal.records) b.stage b.from b.flags b.kept next
          (subst (λ (o : Option ℕ). IsScheduled (length b.homes) b.partitions (done_of b.journal.records) b.stage b.from b.flags o b.kept) free s.scheduled) ready later skipped found);
      planned = s.planned;
      parts_are = s.parts_are;
      file_is = s.file_is;
      header_is = s.header_is;
      rest = s.rest;
    };
    first_is = none_has b.first _ clear;
    kept_is = h.kept_is;
  }
    where
      nobody : (n : ℕ) → slice_get b.homes n ≡ Some None → ⊥
      nobody n at = let a = h.away n at in let c : None ≡ Some n = sym free ∙ a.0 in cc c

  module _ (t : Task) (own : Option Src) (more : List (Option Src)) (held : b.held ≡ Some t.number) (kind : t.kind ≡ b.stage) (is : IsOwn j source t own) (put : IsPut t.number own b.homes more) where
    -- the task's source came home where a refusal of the outside is kept already
    pub put_kept : (r : Refusal) → b.first ≡ Some r → IsKept j source d (record b { homes = more; held = None })
    put_kept r first = record {
      fitting = record { settings_are = h.fitting.settings_are; name = h.fitting.name; limits = h.fitting.limits; count = put.long ∙ h.fitting.count; some = h.fitting.some; few = h.fitting.few; not_many = h.fitting.not_many; heading = h.fitting.heading };
      homes = put_all j source d b h t own more held kind is put;
      away = λ n at. absurd (put_none j source d b h t own more held kind is put n at);
      gone = λ n (e : None ≡ Some n). absurd (cc e);
      with_tells = h.with_tells;
      disk = h.disk;
      good = h.good;
      count = h.count;
      sound = λ e. absurd (let c : None ≡ Some r = sym e ∙ first in cc c);
      first_is = some_wider b.first _ _ (λ x. outside_wider j source _ _ (d.faults b.store) (d.faults b.store) x (omega arith) (put_stays j source d b h t own more held kind is put)) h.first_is;
      kept_is = h.kept_is;
    }

    -- and where the task fails by the outside
    pub failed_kept : (after : S) (journal : Opened) (r : Refusal) → (j.tells → OnDisk j d after) → (j.premises → (f : Folder) → d.left_since after j.moment f → IsGoodFor j f)
        → d.faults b.store ≤ d.faults after → IsOutsideCause j source (λ n s. (n ≡ t.number) × (own ≡ Some s)) (d.faults after) r
        → IsKept j source d (record b { homes = more; store = after; journal = journal; held = None; first = Some r })
    failed_kept after journal r disk good later cause = record {
      fitting = record { settings_are = h.fitting.settings_are; name = h.fitting.name; limits = h.fitting.limits; count = put.long ∙ h.fitting.count; some = h.fitting.some; few = h.fitting.few; not_many = h.fitting.not_many; heading = h.fitting.heading };
      homes = put_all j source d b h t own more held kind is put;
      away = λ n at. absurd (put_none j source d b h t own more held kind is put n at);
      gone = λ n (e : None ≡ Some n). absurd (cc e);
      with_tells = h.with_tells;
      disk = disk;
      good = good;
      count = let c = h.count in omega (arith, c, later);
      sound = λ (e : Some r ≡ None). absurd (cc e);
      first_is = outside_wider j source _ _ (d.faults after) (d.faults after) r (omega arith) (λ n s at. put_own j source d b h t own more held kind is put n s at.0 at.1) cause;
      kept_is = h.kept_is;
    }

    -- and where it is refused by what it works on
    pub refused_kept : (k : Kept) → b.first ≡ None → IfSome (Some k) (λ (x : Kept). IsTaskCause j (task b.stage x.number) x.refusal)
        → ((m : ℕ) → IsRefusedBy b.kept m → IsRefusedBy (Some k) m) → (b.kept ≡ Some k) ⊎ (k.number ≡ t.number)
        → IsKept j source d (record b { homes = more; held = None; kept = Some k })
    refused_kept k clear cause wider least = record {
      fitting = record { settings_are = h.fitting.settings_are; name = h.fitting.name; limits = h.fitting.limits; count = put.long ∙ h.fitting.count; some = h.fitting.some; few = h.fitting.few; not_many = h.fitting.not_many; heading = h.fitting.heading };
      homes = put_all j source d b h t own more held kind is put;
      away = λ n at. absurd (put_none j source d b h t own more held kind is put n at);
      gone = λ n (e : None ≡ Some n). absurd (cc e);
      with_tells = h.with_tells;
      disk = h.disk;
      good = h.good;
      count = h.count;
      sound = λ e. let s = h.sound e in record {
        scheduled = subst (λ (i : ℕ). IsScheduled i b.partitions (done_of b.journal.records) b.stage b.from b.flags None (Some k)) (sym put.long)
            (refused_schedule (length b.homes) b.partitions (done_of b.journal.records) b.stage b.from b.flags t.number b.kept
            (subst (λ (o : Option ℕ). IsScheduled (length b.homes) b.partitions (done_of b.journal.records) b.stage b.from b.flags o b.kept) held s.scheduled)
            (Some k) wider (k, refl, (bounds s least).0) refl (λ x e. subst (λ (y : Kept). (y.number ≤ t.number) × (y.number < count_of (length b.homes) b.partitions b.stage) × (Contains (done_of b.journal.records) (task b.stage y.number) → ⊥)) (let same : k ≡ x = cc e in same) (bounds s least)));
        planned = s.planned;
        parts_are = s.parts_are;
        file_is = s.file_is;
        header_is = s.header_is;
        rest = s.rest;
      };
      first_is = none_has b.first _ clear;
      kept_is = cause;
    }
      where
        bounds : IsSound j d b → (b.kept ≡ Some k) ⊎ (k.number ≡ t.number) → (k.number ≤ t.number) × (k.number < count_of (length b.homes) b.partitions b.stage) × (Contains (done_of b.journal.records) (task b.stage k.number) → ⊥)
        bounds s (inl was) = let l = s.scheduled.kept_below t.number k held was in let left = s.scheduled.kept_left k was in (omega (arith, l), left.0, left.1)
        bounds s (inr own) = let left = s.scheduled.held_is t.number held in (omega (arith, own), subst (λ (n : ℕ). n < count_of (length b.homes) b.partitions b.stage) (sym own) left.1, subst (λ (n : ℕ). Contains (done_of b.journal.records) (task b.stage n) → ⊥) (sym own) left.2)

    -- the like where a refusal of an earlier task is kept already
    pub refused_again : (k : Kept) → b.first ≡ None → b.kept ≡ Some k → IsKept j source d (record b { homes = more; held = None })
    refused_again k clear is =
        subst (λ (o : Option Kept). IsKept j source d (record b { homes = more; held = None; kept = o })) (sym is)
        (refused_kept k clear (subst (λ (o : Option Kept). IfSome o (λ (x : Kept). IsTaskCause j (task b.stage x.number) x.refusal)) is h.kept_is) (λ m refused. subst (λ (o : Option Kept). IsRefusedBy o m) is refused) (inl is))

    -- and where none is
    pub refused_first : (r : Refusal) → b.first ≡ None → b.kept ≡ None → IsTaskCause j t r → IsKept j source d (record b { homes = more; held = None; kept = Some (record { number = t.number; refusal = r }) })
    refused_first r clear unkept cause =
        refused_kept (record { number = t.number; refusal = r }) clear
        (subst (λ (u : Task). IsTaskCause j u r) (λ i. record { kind = kind i; number = t.number }) cause)
        (λ m (k, e, le). absurd (let c : None ≡ Some k = sym unkept ∙ e in cc c)) (inr refl)

    module _ (clear : b.first ≡ None) (after : S) (r : Record) (task_is : r.task ≡ t) (disk : j.tells → OnDisk j d after) (good : j.premises → (f : Folder) → d.left_since after j.moment f → IsGoodFor j f)
        (later : d.faults b.store ≤ d.faults after) (rest : j.tells → IsAtRest d after b.journal.file b.journal.header (b.journal.records ++ r ∷ [])) where
      now_done : done_of (b.journal.records ++ r ∷ []) ≡ done_of b.journal.records ++ task b.stage t.number ∷ []
      now_done = done_push b.journal.records r ∙ ap (λ (x : Task). done_of b.journal.records ++ x ∷ []) (task_is ∙ (λ i. record { kind = kind i; number = t.number }))

      was : IsScheduled (length b.homes) b.partitions (done_of b.journal.records) b.stage b.from b.flags (Some t.number) b.kept
      was = subst (λ (o : Option ℕ). IsScheduled (length b.homes) b.partitions (done_of b.journal.records) b.stage b.from b.flags o b.kept) held (h.sound clear).scheduled

      -- it was recorded, and the stage goes on
      pub noted_kept : (b.from < count_of (length b.homes) b.partitions b.stage) ⊎ IsSome b.kept
          → IsKept j source d (record b { homes = more; store = after; journal = record b.journal { records = b.journal.records ++ r ∷ [] }; held = None })
      noted_kept on = record {
        fitting = record { settings_are = h.fitting.settings_are; name = h.fitting.name; limits = h.fitting.limits; count = put.long ∙ h.fitting.count; some = h.fitting.some; few = h.fitting.few; not_many = h.fitting.not_many; heading = h.fitting.heading };
        homes = put_all j source d b h t own more held kind is put;
        away = λ n at. absurd (put_none j source d b h t own more held kind is put n at);
        gone = λ n (e : None ≡ Some n). absurd (cc e);
        with_tells = h.with_tells;
        disk = disk;
        good = good;
        count = let c = h.count in omega (arith, c, later);
        sound = λ e. let s = h.sound e in record {
          scheduled = subst (λ (i : ℕ). IsScheduled i b.partitions (done_of (b.journal.records ++ r ∷ [])) b.stage b.from b.flags None b.kept) (sym put.long)
              (subst (λ (l : List Task). IsScheduled (length b.homes) b.partitions l b.stage b.from b.flags None b.kept) (sym now_done)
              (noted_schedule (length b.homes) b.partitions (done_of b.journal.records) b.stage b.from b.flags t.number b.kept was on));
          planned = s.planned;
          parts_are = s.parts_are;
          file_is = s.file_is;
          header_is = s.header_is;
          rest = rest;
        };
        first_is = none_has b.first _ clear;
        kept_is = h.kept_is;
      }

      -- it was recorded, and the next stage opens, with partitions that are known now
      pub opened_kept : (parts : List Pixel) (partitions next : ℕ) → b.kept ≡ None → count_of (length b.homes) b.partitions b.stage ≤ b.from
          → b.stage < next → next ≤ 9 → ((kind : ℕ) → kind ≤ b.stage → count_of (length b.homes) partitions kind ≡ count_of (length b.homes) b.partitions kind)
          → ((kind : ℕ) → b.stage < kind → kind < next → count_of (length b.homes) partitions kind ≡ 0) → (next < 9 → 0 < count_of (length b.homes) partitions next)
          → partitions ≤ 100000 → (j.premises → 3 ≤ next → IsPlanned j partitions) → (j.premises → 3 ≤ next → next ≤ 7 → AreParts (job_of j) parts)
          → IsKept j source d (record b { homes = more; store = after; journal = record b.journal { records = b.journal.records ++ r ∷ [] }; parts = parts; partitions = partitions; stage = next; from = 0; flags = []; held = None })
      opened_kept parts partitions next unkept whole beyond most same empty some few planned are = record {
        fitting = record { settings_are = h.fitting.settings_are; name = h.fitting.name; limits = h.fitting.limits; count = put.long ∙ h.fitting.count; some = h.fitting.some; few = h.fitting.few; not_many = few; heading = h.fitting.heading };
        homes = put_all j source d b h t own more held kind is put;
        away = λ n at. absurd (put_none j source d b h t own more held kind is put n at);
        gone = λ n (e : None ≡ Some n). absurd (cc e);
        with_tells = h.with_tells;
        disk = disk;
        good = good;
        count = let c = h.count in omega (arith, c, later);
        sound = λ e. let s = h.sound e in record {
          scheduled = subst (λ (i : ℕ). IsScheduled i partitions (done_of (b.journal.records ++ r ∷ [])) next 0 [] None b.kept) (sym put.long)
              (subst (λ (l : List Task). IsScheduled (length b.homes) partitions l next 0 [] None b.kept) (sym now_done)
              (subst (λ (o : Option Kept). IsScheduled (length b.homes) partitions (done_of b.journal.records ++ task b.stage t.number ∷ []) next 0 [] None o) (sym unkept)
              (opened_schedule (length b.homes) b.partitions (done_of b.journal.records) b.stage b.from b.flags t.number next partitions
              (subst (λ (o : Option Kept). IsScheduled (length b.homes) b.partitions (done_of b.journal.records) b.stage b.from b.flags (Some t.number) o) unkept was) whole beyond most same empty some)));
          planned = planned;
          parts_are = are;
          file_is = s.file_is;
          header_is = s.header_is;
          rest = rest;
        };
        first_is = none_has b.first _ clear;
        kept_is = none_has b.kept _ unkept;
      }

module _ {Src S : Type 0} (j : JobMembers) (source : SourceMembers Src) (d : DiskMembers S) (b : Inside Src S) (h : IsKept j source d b) where
  -- the task that is claimed is next
  pub claimed_next : b.first ≡ None → b.from < count_of (length b.homes) b.partitions b.stage → j.premises → IsNext (job_of j) (done_of b.journal.records) (task b.stage b.from)
  claimed_next clear ready p =
      let sound = h.sound clear in
      let s = subst (λ (i : ℕ). IsScheduled i b.partitions (done_of b.journal.records) b.stage b.from b.flags b.held b.kept) h.fitting.count sound.scheduled in
      let small = subst (λ (i : ℕ). b.from < count_of i b.partitions b.stage) h.fitting.count ready in
      is_next j b.partitions (done_of b.journal.records) b.stage b.from (sound.planned p) s.earlier small (s.unflagged b.from (omega arith) small (s.front small))

  -- a source goes out of its place
  pub claimed_there : (own : Option Src) → b.first ≡ None → b.held ≡ None → slice_get b.homes b.from ≡ Some own → TakesInput b.stage → IsOwn j source (task b.stage b.from) own
  claimed_there own clear free at takes = claimed_own j source d b h b.from own free at takes
