-- What is read of the file of a recorded task.
use Rattle.std.proofs.Common.{◌≡◌, ◌<◌, ◌≤◌, ◌∙◌, ◌⊎◌, ℕ, List, [], Some, None, Option, Contains, IsSome, IsSomeAnd, length, refl, sym, ap, subst, inl, inr, ⊎_elim, arith}
use Rattle.hx_base.specs.Paths.{path_of}
use Rattle.hx_base.specs.Tasks.{file_of}
use Rattle.hx_base.specs.declared.pixel.Pixel.{Pixel}
use Rattle.hx_base.specs.declared.refusal.JobFile.{JobFile}
use Rattle.hx_base.specs.declared.settings.Settings.{Settings}
use Rattle.hx_base.specs.declared.task.Task.{Task}
use Rattle.hx_outside.specs.Disk.{DiskMembers}
use Rattle.hx_outside.specs.Sources.{SourceMembers}
use Rattle.hx_book.specs.Tasks.{AreParts, GoesByParts, HasKindsBefore, count_of, task, task_path}
use Rattle.hx_book.specs.Values.{IsFileOf, IsValue}
use Rattle.hx_book.specs.Resumable.{IsUnderWay, done_of}
use Rattle.hx_book.specs.Recordings.{pixel_for}
use Rattle.hx_book.specs.Books.{Inside, IsKept, IsScheduled, IsSound, JobMembers, job_of}
use Rattle.hx_book.specs.declared.answers.Kept.{Kept}
use Rattle.hx_book.proofs.Keeping.{few_inputs, is_task, ways}
use Rattle.hx_book.proofs.Ones.{parts_same}
use Rattle.hx_book.proofs.Parts.{by_parts, task_numbered}
use Rattle.hx_book.proofs.Paths.{IsNumbered, by_kind}
use Rattle.hx_book.proofs.Steps.{done_from, in_turn_from}

-- a file's name is that of its task
pub file_path_is : (name : List ℕ) (parts : List Pixel) (t : Task) → IsNumbered t → (file : JobFile) → file_of t ≡ Some file → path_of name file (pixel_for parts file) ≡ task_path name parts t
file_path_is name parts t is = by_kind (λ u. (file : JobFile) → file_of u ≡ Some file → path_of name file (pixel_for parts file) ≡ task_path name parts u)
    (λ n less file e. ap at (same _ file e)) (λ file e. ap at (same _ file e)) (λ n less file e. ap at (same _ file e)) (λ n less file e. ap at (same _ file e)) (λ n less file e. ap at (same _ file e)) (λ n less file e. ap at (same _ file e))
    (λ file e. ap at (same _ file e)) (λ file e. ap at (same _ file e)) (λ file e. ap at (same _ file e)) (λ file e. ap at (same _ file e)) t is
  where
    at : JobFile → List ℕ
    at file = path_of name file (pixel_for parts file)

    same : (a b : JobFile) → Some a ≡ Some b → b ≡ a
    same a b e = sym (cc e)

-- the name of a file that is of no partition
pub path_beside : (name : List ℕ) (p q : List Pixel) (t : Task) → IsNumbered t → (t.kind ≡ 4 → ⊥) → (t.kind ≡ 6 → ⊥) → task_path name p t ≡ task_path name q t
path_beside name p q t is = by_kind (λ u. (u.kind ≡ 4 → ⊥) → (u.kind ≡ 6 → ⊥) → task_path name p u ≡ task_path name q u)
    (λ n less a b. refl) (λ a b. refl) (λ n less a b. refl) (λ n less a b. absurd (a refl)) (λ n less a b. refl) (λ n less a b. absurd (b refl)) (λ a b. refl) (λ a b. refl) (λ a b. refl) (λ a b. refl) t is

module _ {Src S : Type 0} (j : JobMembers) (source : SourceMembers Src) (d : DiskMembers S) (b : Inside Src S) (h : IsKept j source d b) (clear : b.first ≡ None) (open_stage : b.stage ≤ 7) (p : j.premises) where
  sound : IsSound j d b
  sound = h.sound clear

  here : IsScheduled (length j.origins) b.partitions (done_of b.journal.records) b.stage b.from b.flags b.held b.kept
  here = subst (λ (i : ℕ). IsScheduled i b.partitions (done_of b.journal.records) b.stage b.from b.flags b.held b.kept) h.fitting.count (h.sound clear).scheduled

  left : (n : ℕ) → n < count_of (length j.origins) b.partitions b.stage → (Contains (done_of b.journal.records) (task b.stage n) → ⊥) → HasKindsBefore (job_of j) (done_of b.journal.records) 8 → ⊥
  left n small none whole =
      let s = here in
      none (whole b.stage s.some (omega (arith, open_stage)) n (is_task j b.partitions (done_of b.journal.records) b.stage n ((h.sound clear).planned p) s.earlier small))

  -- a task of a kind below the last is left
  pub not_whole : HasKindsBefore (job_of j) (done_of b.journal.records) 8 → ⊥
  not_whole whole = by here.unfinished
    where
      of_held : (o : Option ℕ) → b.held ≡ o → IsSome o → ⊥
      of_held None is some = cc some
      of_held (Some n) is some = let w = here.held_is n is in left n w.1 w.2 whole

      of_kept : (o : Option Kept) → b.kept ≡ o → IsSome o → ⊥
      of_kept None is some = cc some
      of_kept (Some k) is some = let w = here.kept_left k is in left k.number w.0 w.1 whole

      by : (b.stage ≡ 9) ⊎ (b.from < count_of (length j.origins) b.partitions b.stage) ⊎ IsSome b.held ⊎ IsSome b.kept → ⊥
      by (inl nine) = omega (arith, nine, open_stage)
      by (inr (inl ready)) = left b.from ready (here.unflagged b.from (omega arith) ready (here.front ready)) whole
      by (inr (inr (inl some))) = of_held b.held refl some
      by (inr (inr (inr some))) = of_kept b.kept refl some

  module _ (t : Task) (file : JobFile) (is : file_of t ≡ Some file) (recorded : Contains (done_of b.journal.records) t) (path : List ℕ) (named : path ≡ path_of j.settings.name file (pixel_for b.parts file)) where
    -- the file stands and reads as its value
    pub read_there : (bytes : List ℕ) × (d.reads b.store path ≡ Some bytes) × IsFileOf (job_of j) bytes file
    read_there =
        let f = d.reads b.store in
        let way = ways j source d b h sound p f (d.reads_now b.store (h.disk (h.with_tells p)).told) in
        let (r, among, same) = done_from b.journal.records t recorded in
        let is_t = (in_turn_from (job_of j) [] (done_of b.journal.records) t way.follow recorded).0 in
        let numbered = task_numbered (job_of j) (few_inputs j source d b h) t is_t in
        ⊎_elim (λ free. absurd (not_whole free.whole))
        (λ filed.
        let own = subst (λ (u : Task). (GoesByParts u.kind → AreParts (job_of j) filed.parts) × (f (task_path j.settings.name filed.parts u) ≡ Some filed.bytes) × IsValue (job_of j) u filed.bytes) same (filed.are_parts, filed.there, filed.value) in
        let value = subst (λ (o : Option JobFile). IsSomeAnd o (IsFileOf (job_of j) filed.bytes)) is own.2 in
        let lists : task_path j.settings.name b.parts t ≡ task_path j.settings.name filed.parts t = ⊎_elim
        (λ by.
        let late : t.kind ≤ b.stage = here.no_later t recorded in
        ap (λ (l : List Pixel). task_path j.settings.name l t) (parts_same (job_of j) b.parts filed.parts (sound.parts_are p (omega (arith, late, by.0)) open_stage) (own.0 by)))
        (λ (a, c, e). path_beside j.settings.name b.parts filed.parts t numbered a e)
        (by_parts t.kind) in
        (filed.bytes, ap (d.reads b.store) (named ∙ file_path_is j.settings.name b.parts t numbered file is ∙ lists) ∙ own.1, value))
        (way.files r among)

-- the same by what a caller shows, and by the name that the book gives the file
pub recorded_there : {Src S : Type 0} (j : JobMembers) (source : SourceMembers Src) (d : DiskMembers S) (b : Inside Src S) (h : IsKept j source d b) → b.first ≡ None → b.stage ≤ 7 → j.premises → (file : JobFile)
    → (t : Task) × (file_of t ≡ Some file) × Contains (done_of b.journal.records) t → (path : List ℕ) → path ≡ path_of b.settings.name file (pixel_for b.parts file)
    → (bytes : List ℕ) × (d.reads b.store path ≡ Some bytes) × IsFileOf (job_of j) bytes file
recorded_there j source d b h clear open_stage p file (t, is, recorded) path named =
    read_there j source d b h clear open_stage p t file is recorded path (named ∙ ap (λ (s : Settings). path_of s.name file (pixel_for b.parts file)) h.fitting.settings_are)

-- what the store reads as is under way with the records
pub under_way : {Src S : Type 0} (j : JobMembers) (source : SourceMembers Src) (d : DiskMembers S) (b : Inside Src S) (h : IsKept j source d b) → b.first ≡ None → j.premises → IsUnderWay (job_of j) (d.reads b.store) b.journal.records
under_way j source d b h clear p = ways j source d b h (h.sound clear) p (d.reads b.store) (d.reads_now b.store (h.disk (h.with_tells p)).told)
