-- A worker at a task: what it knows of earlier tasks, and why the task fails.
use Rattle.std.proofs.Common.{◌≡◌, ◌<◌, ◌≤◌, ◌∙◌, ℕ, List, [], Some, None, Option, Contains, Result, Ok, Err, IfErr, IfOk, Vec, Global, length, refl, sym, ap, subst, arith}
use Rattle.std.proofs.lemmas.Option.{slice_get_within}
use Rattle.hx_align.specs.declared.plan.PlanRow.{PlanRow}
use Rattle.hx_base.specs.declared.pixel.Pixel.{Pixel}
use Rattle.hx_base.specs.Tasks.{file_of}
use Rattle.hx_base.specs.declared.refusal.JobFile.{JobFile}
use Rattle.hx_base.specs.declared.refusal.JobFile.TheVariants as file
use Rattle.hx_base.specs.declared.refusal.Refusal.{Refusal}
use Rattle.hx_base.specs.declared.refusal.Refusal.TheVariants as refusal
use Rattle.hx_base.specs.declared.task.Task.{Task}
use Rattle.hx_journal.specs.declared.record.Record.{Record}
use Rattle.hx_margin.specs.Around.{AreAround}
use Rattle.hx_outside.specs.Sources.{SourceMembers}
use Rattle.hx_book.specs.Books.{JobMembers, Shown, count_of_kind, job_of, rows_of_kind}
use Rattle.hx_book.specs.Recordings.{IsReadCause}
use Rattle.hx_book.specs.Resumable.{HasNumber, done_of}
use Rattle.hx_book.specs.Slices.{IsSliceCause}
use Rattle.hx_book.specs.Tasks.{AreParts, Follow, GoesByParts, IsNext, JobData, count_of, task}
use Rattle.hx_book.specs.Values.{IsValue}
use Rattle.hx_book.proofs.Parts.{count_by_parts}
use Rattle.hx_import.specs.Given.{HasMargins, HasRows, IsCutFor}
use Rattle.hx_import.specs.Made.{IsRefused, IsUnread}
use Rattle.hx_import.specs.Working.{IsAsked, IsAtWork, IsFailed, IsStill}
use Rattle.hx_import.proofs.Margined.{EachOnce}
use Rattle.hx_import.proofs.Numbers.{has_margins, rows_when_last}

module _ {Src : Type 0} (j : JobMembers) (source : SourceMembers Src) (t : Task) (own : Option Src) (faults : ℕ) where
  pub read_failed : (asked : JobFile) (r : Refusal) → IsReadCause j asked faults r → IsFailed j source t own faults r
  read_failed asked (refusal.Damaged side at place) h = h.3
  read_failed asked refusal.StoreFault h = h
  read_failed asked refusal.Memory h = tt
  read_failed asked _ h = absurd h

  pub slice_failed : (asked : JobFile) (r : Refusal) → IsSliceCause j asked faults r → IsFailed j source t own faults r
  slice_failed asked (refusal.Damaged side at place) h = h.2
  slice_failed asked refusal.StoreFault h = h
  slice_failed asked refusal.Memory h = tt
  slice_failed asked _ h = absurd h

  pub refused_failed : (r : Refusal) → IsRefused j t r → IsFailed j source t own faults r
  refused_failed refusal.StoreFault h = absurd h
  refused_failed (refusal.InputFault input) h = absurd h
  refused_failed _ h = h

  pub memory_failed : (r : Refusal) → r ≡ refusal.Memory → IsFailed j source t own faults r
  memory_failed r is = rw is tt

-- a book after two calls
pub still : (a b c : Shown) → IsStill a b → IsStill b c → IsStill a c
still a b c x y = record {
  settings = y.settings ∙ x.settings;
  records = y.records ∙ x.records;
  held = y.held ∙ x.held;
  stage = y.stage ∙ x.stage;
  first = y.first ∙ x.first;
  later = omega (arith, x.later, y.later);
}

pub still_same : (a : Shown) → IsStill a a
still_same a = record { settings = refl; records = refl; held = refl; stage = refl; first = refl; later = omega arith }

-- a task of an earlier kind is recorded
pub input_recorded : (j : JobMembers) (done : List Task) (t : Task) (kind number : ℕ) → IsNext (job_of j) done t → 1 ≤ kind → kind < t.kind → (GoesByParts kind → ⊥)
    → number < count_of (length (job_of j).inputs) 0 kind → Contains done (task kind number)
input_recorded j done t kind number next some less none small = next.in_turn kind some less number (record { parts = []; are_parts = λ by. absurd (none by); numbered = small })

pub part_recorded : (j : JobMembers) (done : List Task) (t : Task) (kind number : ℕ) (plan : List PlanRow) (parts : List Pixel) → IsCutFor j plan parts → j.premises → IsNext (job_of j) done t
    → 4 ≤ kind → kind ≤ 6 → kind < t.kind → number < length parts → Contains done (task kind number)
part_recorded j done t kind number plan parts cut p next low high less small =
    let (all, is_cut) = cut.cut p in
    let are : AreParts (job_of j) parts = record { rows = all; plan = plan; cut = is_cut; pixels = cut.pixels } in
    next.in_turn kind (omega (arith, low)) less number (record {
      parts = parts;
      are_parts = λ by. are;
      numbered = subst (λ (m : ℕ). number < m) (sym (count_by_parts (length (job_of j).inputs) (length parts) kind low high)) small;
    })

-- the partitions around one are there
pub around_there : (parts : List Pixel) (part : Pixel) (numbers : List ℕ) (n : ℕ) → AreAround parts part numbers → Contains numbers n → n < length parts
around_there parts part numbers n around among =
    let at = (around.members n).0 among in
    slice_get_within parts n at.other at.there

-- a file that the task reads is that of a recorded task
module _ (j : JobMembers) (a b : Shown) (t : Task) (work : IsAtWork j a t) (same : IsStill a b) where
  pub at_stage : t.kind ≤ 7 → b.stage ≤ 7
  at_stage low = omega (arith, same.stage, work.kind, low)

  pub still_clear : b.first ≡ None
  still_clear = same.first ∙ work.clear

  still_recorded : (u : Task) → Contains (done_of a.records) u → Contains (done_of b.records) u
  still_recorded u among = subst (λ (rs : List Record). Contains (done_of rs) u) (sym same.records) among

  pub map_recorded : (number : ℕ) → 1 < t.kind → number < length (job_of j).inputs → j.premises → (u : Task) × (file_of u ≡ Some (file.Map number)) × Contains (done_of b.records) u
  map_recorded number later small p =
      (task 1 number, refl, still_recorded (task 1 number) (input_recorded j (done_of a.records) t 1 number (work.next p) (omega arith) later (λ by. omega (arith, by.0)) small))

  pub plan_recorded : 2 < t.kind → j.premises → (u : Task) × (file_of u ≡ Some file.Plan) × Contains (done_of b.records) u
  plan_recorded later p =
      (task 2 0, refl, still_recorded (task 2 0) (input_recorded j (done_of a.records) t 2 0 (work.next p) (omega arith) later (λ by. omega (arith, by.0)) (omega arith)))

  pub split_recorded : (number : ℕ) → 3 < t.kind → number < length (job_of j).inputs → j.premises → (u : Task) × (file_of u ≡ Some (file.Split number)) × Contains (done_of b.records) u
  split_recorded number later small p =
      (task 3 number, refl, still_recorded (task 3 number) (input_recorded j (done_of a.records) t 3 number (work.next p) (omega arith) later (λ by. omega (arith, by.0)) small))

  module _ (plan : List PlanRow) (parts : List Pixel) (cut : IsCutFor j plan parts) (number : ℕ) (small : number < length parts) where
    pub rows_recorded : 4 < t.kind → j.premises → (u : Task) × (file_of u ≡ Some (file.Part number)) × Contains (done_of b.records) u
    rows_recorded later p =
        (task 4 number, refl, still_recorded (task 4 number) (part_recorded j (done_of a.records) t 4 number plan parts cut p (work.next p) (omega arith) (omega arith) later small))

    pub margins_recorded : 5 < t.kind → j.premises → (u : Task) × (file_of u ≡ Some (file.MarginSplit number)) × Contains (done_of b.records) u
    margins_recorded later p =
        (task 5 number, refl, still_recorded (task 5 number) (part_recorded j (done_of a.records) t 5 number plan parts cut p (work.next p) (omega arith) (omega arith) later small))

-- a book after a file was read
pub after_read : (a b : Shown) → (b.records ≡ a.records) × (b.held ≡ a.held) × (b.kept ≡ a.kept) × (b.first ≡ a.first) × (b.stage ≡ a.stage)
    → (b.inputs ≡ a.inputs) × (b.partitions ≡ a.partitions) × (b.settings ≡ a.settings) × (b.from ≡ a.from) → a.faults ≤ b.faults → IsStill a b
after_read a b (records, held, kept, first, stage) (inputs, partitions, settings, from) later =
    record { settings = settings; records = records; held = held; stage = stage; first = first; later = later }

-- what an unread file, and a refusal, make of a task
pub unread_failed : {Src : Type 0} (j : JobMembers) (source : SourceMembers Src) (t : Task) (own : Option Src) (faults : ℕ) (r : Refusal) → IsUnread j r → IsFailed j source t own faults r
unread_failed j source t own faults r h = refused_failed j source t own faults r (h t)

module _ {Src T : Type 0} (j : JobMembers) (source : SourceMembers Src) (t : Task) (own : Option Src) (faults : ℕ) where
  pub refused_result : (result : Result T Refusal) → IfErr result (IsRefused j t) → IfErr result (IsFailed j source t own faults)
  refused_result (Ok x) h = tt
  refused_result (Err r) h = refused_failed j source t own faults r h

  pub unread_result : (result : Result T Refusal) → IfErr result (IsUnread j) → IfErr result (IsFailed j source t own faults)
  unread_result (Ok x) h = tt
  unread_result (Err r) h = unread_failed j source t own faults r h

  pub memory_result : (result : Result T Refusal) → IfErr result (λ r. r ≡ refusal.Memory) → IfErr result (IsFailed j source t own faults)
  memory_result (Ok x) h = tt
  memory_result (Err r) h = memory_failed j source t own faults r h

-- a task by its kind and number
pub as_task : (t : Task) (kind number : ℕ) → t.kind ≡ kind → t.number ≡ number → t ≡ task kind number
as_task t kind number k n = ap (λ (x : ℕ). task x t.number) k ∙ ap (task kind) n

pub work_at : (j : JobMembers) (b : Shown) (t u : Task) → t ≡ u → IsAtWork j b t → IsAtWork j b u
work_at j b t u same work = subst (IsAtWork j b) same work

pub work_still : (j : JobMembers) (a b : Shown) (t : Task) → IsAtWork j a t → IsStill a b → IsAtWork j b t
work_still j a b t work same = record {
  settings = same.settings ∙ work.settings;
  held = same.held ∙ work.held;
  kind = work.kind ∙ sym same.stage;
  clear = same.first ∙ work.clear;
  next = λ p. subst (λ (rs : List Record). IsNext (job_of j) (done_of rs) t) (sym same.records) (work.next p);
}

pub value_as : {E : Type 0} (job : JobData) (P : Type 0) (t u : Task) → t ≡ u → (result : Result (Vec ℕ Global) E) → IfOk result (λ made. P → IsValue job u made.items) → IfOk result (λ made. P → IsValue job t made.items)
value_as job P t u same (Ok made) value = λ p. subst (λ (x : Task). IsValue job x made.items) (sym same) (value p)
value_as job P t u same (Err e) value = tt

module _ {Src : Type 0} (j : JobMembers) (source : SourceMembers Src) (own : Option Src) (faults : ℕ) where
  pub failed_as : {T : Type 0} (t u : Task) → t ≡ u → (result : Result T Refusal) → IfErr result (IsFailed j source u own faults) → IfErr result (IsFailed j source t own faults)
  failed_as t u same (Ok x) h = tt
  failed_as t u same (Err r) h = subst (λ (x : Task). IsFailed j source x own faults r) (sym same) h

  pub wider_own : (t : Task) (r : Refusal) → IsFailed j source t None faults r → IsFailed j source t own faults r
  wider_own t refusal.StoreFault h = h
  wider_own t (refusal.InputFault input) (same, s, origin, none, there, rose) = absurd (cc none)
  wider_own t _ h = h

-- the numbers that the texts tell, once all tasks of earlier kinds are recorded
module _ (j : JobMembers) (b : Shown) where
  pub margins_when_due : IsAtWork j b (task 7 2) → (plan : List PlanRow) (parts : List Pixel) → IsCutFor j plan parts → (p : j.premises) → (records : List Record) → records ≡ b.records
      → Follow (job_of j) [] (done_of records) → ((r : Record) → Contains records r → HasNumber (job_of j) r) → HasMargins (job_of j) (rows_of_kind 6 records) (length plan)
  margins_when_due work plan parts cut p records same follow numbers =
      let (all, is_cut) = cut.cut p in
      let next = subst (λ (rs : List Record). IsNext (job_of j) (done_of rs) (task 7 2)) (sym same) (work.next p) in
      has_margins (job_of j) all plan is_cut records follow numbers (next.in_turn 6 (omega arith) (omega arith))

pub rows_when_due : (j : JobMembers) → EachOnce → IsAsked j → (b : Shown) → IsAtWork j b (task 8 0) → (p : j.premises) → (records : List Record) → records ≡ b.records
    → Follow (job_of j) [] (done_of records) → ((r : Record) → Contains records r → HasNumber (job_of j) r) → HasRows (job_of j) (rows_of_kind 4 records) (count_of_kind 4 records)
rows_when_due j once asked b work p records same follow numbers =
    rows_when_last once (job_of j) records asked.fits follow numbers (subst (λ (rs : List Record). IsNext (job_of j) (done_of rs) (task 8 0)) (sym same) (work.next p))
