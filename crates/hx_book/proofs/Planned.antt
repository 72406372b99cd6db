-- The plan's file of a job that is under way.
use Rattle.std.proofs.Common.{◌≡◌, ◌<◌, ◌≤◌, ◌∙◌, ℕ, List, Bool, Some, None, IsSome, length, refl, sym, ap, subst, ⊎_elim, arith}
use Rattle.std.proofs.lemmas.List.{length-map}
use Rattle.hx_align.specs.Plans.{pixels_of}
use Rattle.hx_align.specs.declared.plan.PlanRow.{PlanRow}
use Rattle.hx_base.specs.declared.pixel.Pixel.{Pixel}
use Rattle.hx_base.specs.declared.refusal.JobFile.TheVariants as file
use Rattle.hx_base.specs.declared.task.Task.{Task}
use Rattle.hx_journal.proofs.AtRest.{stays_at_rest}
use Rattle.hx_journal.specs.Journal.{IsAtRest, IsReady, Opened, journal_file}
use Rattle.hx_journal.specs.declared.record.Record.{Record}
use Rattle.hx_outside.specs.Disk.{DiskMembers, Passes}
use Rattle.hx_outside.specs.Folders.{Folder, Same}
use Rattle.hx_book.specs.Tasks.{AreParts, HasKindsBefore, count_of, task, task_path}
use Rattle.hx_book.specs.Values.{IsFileOf, IsValue}
use Rattle.hx_book.specs.Resumable.{IsFiled, IsUnderWay, done_of, header_bytes}
use Rattle.hx_book.specs.Books.{AreInTurn, HasPlan, IsOpening, IsPlanned, IsScheduled, JobMembers, job_of}
use Rattle.hx_book.specs.declared.answers.Kept.{Kept}
use Rattle.hx_book.proofs.Keeping.{is_task}
use Rattle.hx_book.proofs.Ones.{parts_same}
use Rattle.hx_book.proofs.Starting.{opened_ways}
use Rattle.hx_book.proofs.Steps.{done_from}

module _ (j : JobMembers) (records : List Record) (f : Folder) (way : IsUnderWay (job_of j) f records) where
  pub in_turn : AreInTurn (job_of j) records
  in_turn = record { follow = way.follow; numbers = way.numbers }

  module _ (partitions stage from : ℕ) (flags : List Bool) (h : IsScheduled (length j.origins) partitions (done_of records) stage from flags None None)
      (planned : IsPlanned j partitions) (three : 3 ≤ stage) (open_stage : stage ≤ 7) where
    ready : from < count_of (length j.origins) partitions stage
    ready = ⊎_elim (λ (nine : stage ≡ 9). absurd (omega (arith, nine, open_stage)))
        (λ a. ⊎_elim (λ is. is) (λ b. absurd (⊎_elim (λ (e : IsSome {T = ℕ} None). none_held e) (λ (e : IsSome {T = Kept} None). none_kept e) b)) a) h.unfinished
      where
        none_held : IsSome {T = ℕ} None → ⊥
        none_held e = cc e

        none_kept : IsSome {T = Kept} None → ⊥
        none_kept e = cc e

    not_whole : HasKindsBefore (job_of j) (done_of records) 8 → ⊥
    not_whole whole = h.unflagged from (omega arith) ready (h.front ready)
        (whole stage h.some (omega (arith, open_stage)) from (is_task j partitions (done_of records) stage from (λ again. planned) h.earlier ready))

    filed_plan : (r : Record) → r.task ≡ task 2 0 → IsFiled (job_of j) f r → HasPlan (job_of j) j.settings.name partitions f
    unfolding IsFileOf
    filed_plan r same filed =
        let there = subst (λ (t : Task). f (task_path j.settings.name filed.parts t) ≡ Some filed.bytes) same filed.there in
        by there (subst (λ (t : Task). IsValue (job_of j) t filed.bytes) same filed.value)
      where
        by : f (task_path j.settings.name filed.parts (task 2 0)) ≡ Some filed.bytes → IsFileOf (job_of j) filed.bytes file.Plan → HasPlan (job_of j) j.settings.name partitions f
        by there v =
            let are : AreParts (job_of j) (pixels_of v.plan) = record { rows = v.all; plan = v.plan; cut = v.cut; pixels = refl } in
            record {
              bytes = filed.bytes;
              there = there;
              plan = v.plan;
              reads = v.holds;
              are = are;
              count = sym (length-map v.plan (λ (row : PlanRow). row.pixel)) ∙ ap (length {A = Pixel}) (parts_same (job_of j) (pixels_of v.plan) planned.parts are planned.are) ∙ planned.count;
            }

    pub has_plan : HasPlan (job_of j) j.settings.name partitions f
    has_plan =
        let (r, among, same) = done_from records (task 2 0) (h.earlier 2 0 (omega arith) (omega (arith, three)) (omega arith)) in
        ⊎_elim (λ free. absurd (not_whole free.whole)) (λ filed. filed_plan r same filed) (way.files r among)

-- a journal that was opened of a job that is under way
module _ {S : Type 0} (j : JobMembers) (d : DiskMembers S) (store : S) (h : IsOpening j d store) (p : j.premises) (journal : Opened)
    (file_is : journal.file ≡ journal_file j.settings.name) (header_is : journal.header ≡ header_bytes (job_of j)) (ready : IsReady d store journal) where
  read_way : IsUnderWay (job_of j) (d.reads store) journal.records
  read_way = opened_ways j d store h p journal.file journal.header journal.records file_is header_is ready.rest (d.reads store) (d.reads_now store ready.told)

  pub read_turn : (records : List Record) → records ≡ journal.records → AreInTurn (job_of j) records
  read_turn records same = subst (AreInTurn (job_of j)) (sym same) (in_turn j journal.records (d.reads store) read_way)

  pub read_plan : (records : List Record) → records ≡ journal.records → (inputs partitions stage from : ℕ) (flags : List Bool) → inputs ≡ length j.origins
      → IsScheduled inputs partitions (done_of records) stage from flags None None → (AreInTurn (job_of j) records → 3 ≤ stage → IsPlanned j partitions)
      → (name : List ℕ) → name ≡ j.settings.name → 3 ≤ stage → stage ≤ 7 → HasPlan (job_of j) name partitions (d.reads store)
  read_plan records same inputs partitions stage from flags named scheduled planned name is three open_stage =
      let turn = read_turn records same in
      let here : IsScheduled (length j.origins) partitions (done_of journal.records) stage from flags None None =
      subst (λ (n : ℕ). IsScheduled n partitions (done_of journal.records) stage from flags None None) named
      (subst (λ (rs : List Record). IsScheduled inputs partitions (done_of rs) stage from flags None None) same scheduled) in
      subst (λ (n : List ℕ). HasPlan (job_of j) n partitions (d.reads store)) (sym is)
      (has_plan j journal.records (d.reads store) read_way partitions stage from flags here (planned turn three) three open_stage)

-- what was found
module _ {S : Type 0} (j : JobMembers) (d : DiskMembers S) (store after : S) (journal : Opened) (ready : j.tells → IsReady d store journal)
    (call : d.tells store → Passes d store after Same) where
  pub found_rest : j.tells → IsAtRest d after journal.file journal.header journal.records
  found_rest t = let r = ready t in stays_at_rest d store after journal.file journal.header journal.records Same (λ f g same. (λ k. same k journal.file)) (call r.told) r.rest
