-- What a task's record and its file need, and what a plan's file tells.
use Rattle.std.proofs.Common.{◌≡◌, ◌<◌, ◌≤◌, ◌∙◌, ℕ, List, Some, None, Ok, Option, IfSome, IsSomeAnd, IsSome, length, refl, sym, subst, arith}
use Rattle.hx_align.specs.Plans.{pixels_of}
use Rattle.hx_align.specs.declared.plan.PlanRow.{PlanRow}
use Rattle.hx_base.specs.Paths.{path_of}
use Rattle.hx_base.specs.Tasks.{file_of}
use Rattle.hx_base.specs.declared.pixel.Pixel.{Pixel}
use Rattle.hx_base.specs.declared.refusal.JobFile.{JobFile}
use Rattle.hx_base.specs.declared.refusal.JobFile.TheVariants as file
use Rattle.hx_base.specs.declared.task.Task.{Task}
use Rattle.hx_journal.specs.Journal.{IsEntry, journal_file, temporary_file}
use Rattle.hx_journal.specs.Recording.{AreApart}
use Rattle.hx_outside.specs.Disk.{DiskMembers}
use Rattle.hx_outside.specs.Sources.{SourceMembers}
use Rattle.hx_spill.specs.Plans.{plan_in}
use Rattle.hx_book.specs.Tasks.{AreParts, JobData, count_of, task_path}
use Rattle.hx_book.specs.Values.{IsFileOf, IsValue, rows_if, rows_in_file, rows_told}
use Rattle.hx_book.specs.Recordings.{HasNoRows, IsReadable, pixel_for}
use Rattle.hx_book.specs.Books.{Inside, IsKept, JobMembers}
use Rattle.hx_book.proofs.Paths.{IsNumbered, by_kind, journal_apart, small_kind, temporary_apart, temporary_is_not_journal}
use Rattle.hx_book.proofs.Reading.{file_path_is}

pub readable_of : (job : JobData) (bytes : List ℕ) (f : JobFile) → IsFileOf job bytes f → IsReadable bytes f
unfolding IsFileOf
readable_of job bytes file.Journal v = tt
readable_of job bytes (file.Map input) v = (v.file.hist, v.file.reads)
readable_of job bytes file.Plan v = (v.plan, v.holds)
readable_of job bytes (file.Split input) v = let s = v.holds.file in (s.placed, s.reads)
readable_of job bytes (file.Part number) v = (_, v.holds.holds.read)
readable_of job bytes (file.MarginSplit number) v = let s = v.holds.holds in (s.placed, s.reads)
readable_of job bytes (file.Margin number) v = (_, v.holds.holds.file.read)
readable_of job bytes file.List v = tt
readable_of job bytes file.MarginList v = tt
readable_of job bytes file.MarginProperties v = tt
readable_of job bytes file.Properties v = tt

pub number_of : (job : JobData) (t : Task) (bytes : List ℕ) (rows : ℕ) → IsValue job t bytes → IfSome (file_of t) (λ f. IsReadable bytes f → rows ≡ rows_in_file bytes f) → rows ≡ rows_told t bytes
number_of job t bytes rows value told = by (file_of t) value told
  where
    by : (o : Option JobFile) → IsSomeAnd o (IsFileOf job bytes) → IfSome o (λ f. IsReadable bytes f → rows ≡ rows_in_file bytes f) → rows ≡ rows_if bytes o
    by None v h = absurd v
    by (Some f) v h = h (readable_of job bytes f v)

-- lists and properties have no rows
none_late : (t : Task) → IsNumbered t → 7 ≤ t.kind → (rows : ℕ) → IfSome (file_of t) (λ f. HasNoRows f → rows ≡ 0) → rows ≡ 0
none_late t is = by_kind (λ u. 7 ≤ u.kind → (rows : ℕ) → IfSome (file_of u) (λ f. HasNoRows f → rows ≡ 0) → rows ≡ 0)
    (λ n less (late : 7 ≤ 1) rows h. absurd (omega (arith, late))) (λ (late : 7 ≤ 2) rows h. absurd (omega (arith, late))) (λ n less (late : 7 ≤ 3) rows h. absurd (omega (arith, late))) (λ n less (late : 7 ≤ 4) rows h. absurd (omega (arith, late)))
    (λ n less (late : 7 ≤ 5) rows h. absurd (omega (arith, late))) (λ n less (late : 7 ≤ 6) rows h. absurd (omega (arith, late)))
    (λ late rows h. h tt) (λ late rows h. h tt) (λ late rows h. h tt) (λ late rows h. h tt) t is

pub entry_is : (t : Task) (len rows : ℕ) → IsNumbered t → IfSome (file_of t) (λ f. HasNoRows f → rows ≡ 0) → IsEntry (record { task = t; len = len; rows = rows })
entry_is t len rows is none = record {
  least = by_kind (λ u. 1 ≤ u.kind) (λ n less. omega arith) (omega arith) (λ n less. omega arith) (λ n less. omega arith) (λ n less. omega arith) (λ n less. omega arith) (omega arith) (omega arith) (omega arith) (omega arith) t is;
  most = small_kind t is;
  no_rows = λ late. none_late t is late rows none;
}

-- a file's name, as it is told of the file of a task
pub path_named : (name : List ℕ) (parts : List Pixel) (t : Task) (path : List ℕ) → IsNumbered t → IsSome (file_of t) → IfSome (file_of t) (λ f. path ≡ path_of name f (pixel_for parts f)) → path ≡ task_path name parts t
path_named name parts t path is some told = by (file_of t) refl some told
  where
    by : (o : Option JobFile) → file_of t ≡ o → IsSome o → IfSome o (λ f. path ≡ path_of name f (pixel_for parts f)) → path ≡ task_path name parts t
    by None e s h = absurd (cc s)
    by (Some f) e s h = h ∙ file_path_is name parts t is f e

pub names_apart : (name : List ℕ) (parts : List Pixel) (t : Task) (tmp path journal : List ℕ) → IsNumbered t → tmp ≡ temporary_file name → path ≡ task_path name parts t → journal ≡ journal_file name → AreApart tmp path journal
names_apart name parts t tmp path journal is a b c = record {
  tmp_file = λ e. temporary_apart name parts t is (sym a ∙ e ∙ b);
  tmp_journal = λ e. temporary_is_not_journal name (sym a ∙ e ∙ c);
  file_journal = λ e. journal_apart name parts t is (sym b ∙ e ∙ c);
}

-- the partitions that a plan's file tells are the job's
pub planned_parts : (job : JobData) (t : Task) (bytes : List ℕ) (parts : List Pixel) → IsNumbered t → t.kind ≡ 2 → IsValue job t bytes → ((plan : List PlanRow) → plan_in bytes ≡ Ok plan → parts ≡ pixels_of plan) → AreParts job parts
unfolding IsFileOf
planned_parts job t bytes parts is = by_kind (λ u. u.kind ≡ 2 → IsValue job u bytes → ((plan : List PlanRow) → plan_in bytes ≡ Ok plan → parts ≡ pixels_of plan) → AreParts job parts)
    (λ n less (e : 1 ≡ 2) v h. absurd (omega (arith, e))) (λ e v h. plan_of v h) (λ n less (e : 3 ≡ 2) v h. absurd (omega (arith, e))) (λ n less (e : 4 ≡ 2) v h. absurd (omega (arith, e)))
    (λ n less (e : 5 ≡ 2) v h. absurd (omega (arith, e))) (λ n less (e : 6 ≡ 2) v h. absurd (omega (arith, e)))
    (λ (e : 7 ≡ 2) v h. absurd (omega (arith, e))) (λ (e : 7 ≡ 2) v h. absurd (omega (arith, e))) (λ (e : 7 ≡ 2) v h. absurd (omega (arith, e))) (λ (e : 8 ≡ 2) v h. absurd (omega (arith, e))) t is
  where
    plan_of : IsFileOf job bytes file.Plan → ((plan : List PlanRow) → plan_in bytes ≡ Ok plan → parts ≡ pixels_of plan) → AreParts job parts
    plan_of v h = record { rows = v.all; plan = v.plan; cut = v.cut; pixels = h v.plan v.holds }

-- a task that is held is one of the job's
pub held_numbered : {Src S : Type 0} (j : JobMembers) (source : SourceMembers Src) (d : DiskMembers S) (b : Inside Src S) (h : IsKept j source d b) → b.first ≡ None → (t : Task) → b.held ≡ Some t.number → t.kind ≡ b.stage → IsNumbered t
held_numbered j source d b h clear t held kind =
    let s = (h.sound clear).scheduled in
    let was = s.held_is t.number held in
    let few = h.fitting.few in
    let count = h.fitting.count in
    let not_many = h.fitting.not_many in
    record {
      inputs = length b.homes;
      partitions = b.partitions;
      few = omega (arith, few, count);
      not_many = omega (arith, not_many);
      numbered = subst (λ (k : ℕ). t.number < count_of (length b.homes) b.partitions k) (sym kind) was.1;
    }
