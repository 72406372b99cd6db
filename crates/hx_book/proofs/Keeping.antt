-- How a book's type is kept over its calls.
use Rattle.std.proofs.Common.{◌≡◌, ◌<◌, ◌≤◌, ◌∙◌, ◌⊎◌, ℕ, List, [], Some, None, Option, Contains, IfSome, length, slice_get, sym, ap, subst, inl, inr, ⊎_elim, arith}
use Rattle.std.proofs.lemmas.Bool.{cases_eq}
use Rattle.std.proofs.lemmas.List.{length-map}
use Rattle.hx_base.specs.Limits.{most_inputs}
use Rattle.hx_base.specs.declared.pixel.Pixel.{Pixel}
use Rattle.hx_base.specs.declared.refusal.Refusal.{Refusal}
use Rattle.hx_base.specs.declared.task.Task.{Task}
use Rattle.hx_journal.specs.Journal.{IsReady, Stands, journal_file, temporary_file}
use Rattle.hx_journal.proofs.AtRest.{stays_at_rest}
use Rattle.hx_journal.specs.Recording.{Records}
use Rattle.hx_journal.specs.declared.record.Record.{Record}
use Rattle.hx_outside.specs.Disk.{DiskMembers, Passes}
use Rattle.hx_outside.specs.Folders.{Folder, Same}
use Rattle.hx_outside.specs.Sources.{SourceMembers}
use Rattle.hx_outside.proofs.Runs.{stays}
use Rattle.hx_book.specs.Tasks.{AreParts, GoesByParts, HasKindsBefore, IsNext, IsTask, count_of, task, task_path}
use Rattle.hx_book.specs.Values.{IsValue}
use Rattle.hx_book.specs.Resumable.{HasNumber, IsUnderWay, done_of, header_bytes}
use Rattle.hx_book.specs.Books.{Inside, IsGoodFor, IsInside, IsKept, IsOutsideCause, IsPlanned, IsScheduled, IsSound, IsUntouched, JobMembers, OnDisk, TakesInput, input_of, job_of}
use Rattle.hx_book.proofs.Causes.{outside_wider}
use Rattle.hx_book.proofs.Ones.{parts_same}
use Rattle.hx_book.proofs.Paths.{IsNumbered}
use Rattle.hx_book.proofs.Parts.{by_parts, no_parts}
use Rattle.hx_book.proofs.Steps.{way_of}
use Rattle.hx_book.proofs.Recording.{recorded_step, stays_recorded}
use Rattle.hx_book.proofs.Inside.{journal_inside, path_inside, temporary_inside}

pub takes_or_not : (kind : ℕ) → TakesInput kind ⊎ (TakesInput kind → ⊥)
takes_or_not kind = ⊎_elim (λ e. inl (inl e)) (λ a. ⊎_elim (λ e. inl (inr e)) (λ b. inr (λ t. ⊎_elim a b t)) (cases_eq kind 3)) (cases_eq kind 1)

pub inputs_are : (j : JobMembers) → length (job_of j).inputs ≡ length j.origins
inputs_are j = length-map j.origins input_of

-- a task that the schedule holds is next
module _ (j : JobMembers) (partitions : ℕ) (done : List Task) (stage n : ℕ)
    (planned : 3 ≤ stage → IsPlanned j partitions)
    (earlier : (kind number : ℕ) → 1 ≤ kind → kind < stage → number < count_of (length j.origins) partitions kind → Contains done (task kind number)) where
  pub numbers : (kind number : ℕ) → kind ≤ stage → IsTask (job_of j) (task kind number) → number < count_of (length j.origins) partitions kind
  numbers kind number within is = ⊎_elim
      (λ by.
      let plan = planned (omega (arith, by.0, within)) in
      let same : length is.parts ≡ partitions = ap (length {A = Pixel}) (parts_same (job_of j) is.parts plan.parts (is.are_parts by) plan.are) ∙ plan.count in
      subst (λ (i : ℕ). number < count_of i partitions kind) (inputs_are j) (subst (λ (p : ℕ). number < count_of (length (job_of j).inputs) p kind) same is.numbered))
      (λ (a, b, c).
      let l : number < count_of (length (job_of j).inputs) 0 kind = subst (λ (m : ℕ). number < m) (no_parts (length (job_of j).inputs) (length is.parts) kind a b c) is.numbered in
      subst (λ (i : ℕ). number < count_of i partitions kind) (inputs_are j) (subst (λ (m : ℕ). number < m) (sym (no_parts (length (job_of j).inputs) partitions kind a b c)) l))
      (by_parts kind)

  pub kinds_before : HasKindsBefore (job_of j) done stage
  kinds_before kind one less number is = earlier kind number one less (numbers kind number (omega (arith, less)) is)

  pub is_task : n < count_of (length j.origins) partitions stage → IsTask (job_of j) (task stage n)
  is_task small = ⊎_elim
      (λ by. let plan = planned (omega (arith, by.0)) in record {
        parts = plan.parts;
        are_parts = λ again. plan.are;
        numbered = subst (λ (i : ℕ). n < count_of i (length plan.parts) stage) (sym (inputs_are j)) (subst (λ (p : ℕ). n < count_of (length j.origins) p stage) (sym plan.count) small);
      })
      (λ (a, b, c). record {
        parts = [];
        are_parts = λ by. absurd (⊎_elim (λ again. neither by a b c) (λ none. neither by a b c) (by_parts stage));
        numbered = subst (λ (i : ℕ). n < count_of i 0 stage) (sym (inputs_are j)) (subst (λ (m : ℕ). n < m) (no_parts (length j.origins) partitions stage a b c) small);
      })
      (by_parts stage)
    where
      neither : GoesByParts stage → (stage ≡ 4 → ⊥) → (stage ≡ 5 → ⊥) → (stage ≡ 6 → ⊥) → ⊥
      neither by a b c = omega (arith, by.0, by.1, a, b, c)

  pub is_next : n < count_of (length j.origins) partitions stage → (Contains done (task stage n) → ⊥) → IsNext (job_of j) done (task stage n)
  is_next small left = record { is_task = is_task small; is_left = left; in_turn = kinds_before }

module _ {Src S : Type 0} (j : JobMembers) (source : SourceMembers Src) (d : DiskMembers S) (b : Inside Src S) (h : IsKept j source d b) where
  count_is : length b.homes ≡ length j.origins
  count_is = h.fitting.count

  -- what is held is next, under the job's premises
  pub held_next : (n : ℕ) → j.premises → IsSound j d b → b.held ≡ Some n → IsNext (job_of j) (done_of b.journal.records) (task b.stage n)
  held_next n p sound held =
      let s = subst (λ (i : ℕ). IsScheduled i b.partitions (done_of b.journal.records) b.stage b.from b.flags b.held b.kept) count_is sound.scheduled in
      let was = s.held_is n held in
      is_next j b.partitions (done_of b.journal.records) b.stage n (sound.planned p) s.earlier was.1 was.2

  pub few_inputs : length (job_of j).inputs ≤ most_inputs
  few_inputs = let f = h.fitting.few in let e = inputs_are j in omega (arith, f, e)

  -- each image is under way with the records
  pub ways : IsSound j d b → j.premises → (f : Folder) → d.may_leave b.store f → IsUnderWay (job_of j) f b.journal.records
  ways sound p f now =
      let t = h.with_tells p in
      let disk = h.disk t in
      let rest = sound.rest t in
      let stands : Stands (header_bytes (job_of j)) b.journal.records (f (journal_file j.settings.name)) =
      subst (λ (n : List ℕ). Stands (header_bytes (job_of j)) b.journal.records (f n)) sound.file_is
      (subst (λ (x : List ℕ). Stands x b.journal.records (f b.journal.file)) (sound.header_is p) (record { gate = rest.gate; rest = []; closed = rest.closed; sound = rest.sound; is = rest.each f now })) in
      way_of (job_of j) f b.journal.records (h.good p f (d.counts_now b.store j.moment f disk.later now)).resumable stands

  -- a call after which nothing is changed
  pub same_disk : (after : S) → (d.tells b.store → Passes d b.store after Same) → j.tells → OnDisk j d after
  same_disk after call t =
      let disk = h.disk t in
      let c = call disk.told in
      record {
        told = c.told;
        later = omega (arith, disk.later, c.later);
        untouched = stays d b.store after j.moment (IsUntouched j) Same disk.later disk.untouched c (λ f g was u same. subst (IsUntouched j) (sym same) u);
      }

  pub same_good : (after : S) → (d.tells b.store → Passes d b.store after Same) → j.premises → (f : Folder) → d.left_since after j.moment f → IsGoodFor j f
  same_good after call p =
      let disk = h.disk (h.with_tells p) in
      stays d b.store after j.moment (IsGoodFor j) Same disk.later (h.good p) (call disk.told) (λ f g was u same. subst (IsGoodFor j) (sym same) u)

  module _ (after : S) (r : Record) (parts : List Pixel) (bytes : List ℕ) (sound : IsSound j d b) (held : b.held ≡ Some r.task.number) (kind : r.task.kind ≡ b.stage)
      (are : j.premises → GoesByParts r.task.kind → AreParts (job_of j) parts) (value : j.premises → IsValue (job_of j) r.task bytes) (long : length bytes ≡ r.len) (number : j.premises → HasNumber (job_of j) r)
      (call : IsReady d b.store b.journal → Passes d b.store after (Records (temporary_file j.settings.name) (task_path j.settings.name parts r.task) bytes b.journal r)) where
    same_task : task b.stage r.task.number ≡ r.task
    same_task = ap (λ (k : ℕ). task k r.task.number) (sym kind)

    passes : j.tells → Passes d b.store after (Records (temporary_file j.settings.name) (task_path j.settings.name parts r.task) bytes b.journal r)
    passes t = call (record { told = (h.disk t).told; rest = sound.rest t })

    numbered : IsNumbered r.task
    numbered =
        let s = sound.scheduled in
        let was = s.held_is r.task.number held in
        let few = h.fitting.few in
        let not_many = h.fitting.not_many in
        record {
          inputs = length b.homes;
          partitions = b.partitions;
          few = omega (arith, few, count_is);
          not_many = omega (arith, not_many);
          numbered = subst (λ (k : ℕ). r.task.number < count_of (length b.homes) b.partitions k) (sym kind) was.1;
        }

    untouched_step : (f g : Folder) → Records (temporary_file j.settings.name) (task_path j.settings.name parts r.task) bytes b.journal r f g → IsUntouched j f → IsUntouched j g
    untouched_step f g step u = record {
      from = u.from;
      was = u.was;
      others = λ n outside. step.others n
          (λ e. outside (subst (IsInside j.settings.name) (sym e) (temporary_inside j.settings.name)))
          (λ e. outside (subst (IsInside j.settings.name) (sym e) (path_inside j.settings.name parts r.task numbered)))
          (λ e. outside (subst (IsInside j.settings.name) (sym (e ∙ sound.file_is)) (journal_inside j.settings.name)))
          ∙ u.others n outside;
    }

    pub recorded_disk : j.tells → OnDisk j d after
    recorded_disk t =
        let disk = h.disk t in
        let c = passes t in
        record {
          told = c.told;
          later = omega (arith, disk.later, c.later);
          untouched = stays d b.store after j.moment (IsUntouched j) _ disk.later disk.untouched c (λ f g was u step. untouched_step f g step u);
        }

    pub recorded_good : j.premises → (f : Folder) → d.left_since after j.moment f → IsGoodFor j f
    recorded_good p =
        let disk = h.disk (h.with_tells p) in
        stays d b.store after j.moment (IsGoodFor j) _ disk.later (h.good p) (passes (h.with_tells p))
        (λ f g was u step.
        let way = ways sound p f was in
        let next = subst (IsNext (job_of j) (done_of b.journal.records)) same_task (held_next r.task.number p sound held) in
        record {
          resumable = recorded_step (job_of j) few_inputs b.journal sound.file_is (sound.header_is p) f g r parts bytes way next (are p) (value p) long (number p) step;
          recorded = λ v all. stays_recorded (job_of j) few_inputs b.journal sound.file_is (sound.header_is p) f g r parts bytes way next (are p) (value p) long (number p) step v (u.recorded v all);
        })

  -- a call after which nothing is changed keeps the type
  pub same_kept : (after : S) → (d.tells b.store → Passes d b.store after Same) → d.faults b.store ≤ d.faults after → IsKept j source d (record b { store = after })
  same_kept after call later = record {
    fitting = record { settings_are = h.fitting.settings_are; name = h.fitting.name; limits = h.fitting.limits; count = h.fitting.count; some = h.fitting.some; few = h.fitting.few; not_many = h.fitting.not_many; heading = h.fitting.heading };
    homes = h.homes;
    away = h.away;
    gone = h.gone;
    with_tells = h.with_tells;
    disk = same_disk after call;
    good = same_good after call;
    count = let c = h.count in omega (arith, c, later);
    sound = λ e. let s = h.sound e in record {
      scheduled = s.scheduled;
      planned = s.planned;
      parts_are = s.parts_are;
      file_is = s.file_is;
      header_is = s.header_is;
      rest = λ t. stays_at_rest d b.store after b.journal.file b.journal.header b.journal.records Same (λ f g same. (λ k. same k b.journal.file)) (call (h.disk t).told) (s.rest t);
    };
    first_is = wider b.first h.first_is;
    kept_is = h.kept_is;
  }
    where
      wider : (o : Option Refusal) → IfSome o (IsOutsideCause j source (λ n s. slice_get b.homes n ≡ Some (Some s)) (d.faults b.store)) → IfSome o (IsOutsideCause j source (λ n s. slice_get b.homes n ≡ Some (Some s)) (d.faults after))
      wider None c = tt
      wider (Some r) c = outside_wider j source _ _ (d.faults b.store) (d.faults after) r later (λ n s at. at) c
