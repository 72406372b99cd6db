-- What the recording of a task leaves on the disk.
use Rattle.std.proofs.Common.{◌≡◌, ◌≢◌, ◌≤◌, ◌∙◌, ◌++◌, ◌∷◌, ◌⊎◌, ℕ, List, [], Some, Bool, true, false, length, refl, sym, subst, inl, inr, ⊎_elim}
use Rattle.std.proofs.lemmas.Slice.Eq.{bytes_eq-Decides}
use Rattle.std.specs.Str.{bytes_eq}
use Rattle.hx_base.specs.Limits.{most_inputs}
use Rattle.hx_base.specs.declared.pixel.Pixel.{Pixel}
use Rattle.hx_base.specs.declared.task.Task.{Task}
use Rattle.hx_journal.specs.Journal.{Opened, Stands, journal_file, temporary_file}
use Rattle.hx_journal.specs.Recording.{Records}
use Rattle.hx_journal.specs.declared.record.Record.{Record}
use Rattle.hx_outside.specs.Folders.{Folder, SameBut, written}
use Rattle.hx_outside.proofs.Names.{written_there, written_others}
use Rattle.hx_publish.specs.Publishing.{Publishes}
use Rattle.hx_book.specs.Tasks.{AreParts, GoesByParts, IsNext, JobData, task_path}
use Rattle.hx_book.specs.Values.{IsValue}
use Rattle.hx_book.specs.Resumable.{HasNumber, IsRecordedIn, IsResumable, IsUnderWay, done_of, header_bytes}
use Rattle.hx_book.proofs.Parts.{task_numbered}
use Rattle.hx_book.proofs.Paths.{journal_apart}
use Rattle.hx_book.proofs.Steps.{beside_step, noted_step, published_step, recorded_noted, recorded_published}

same_or_not : (n m : List ℕ) → (n ≡ m) ⊎ (n ≢ m)
same_or_not n m = by (bytes_eq n m) refl
  where
    by : (b : Bool) → bytes_eq n m ≡ b → (n ≡ m) ⊎ (n ≢ m)
    by true e = inl ((bytes_eq-Decides n m).0 e)
    by false e = inr (λ same. let t = (bytes_eq-Decides n m).1 same in absurd (let c : false ≡ true = sym e ∙ t in cc c))

module _ (job : JobData) (few : length job.inputs ≤ most_inputs) (journal : Opened) (file_is : journal.file ≡ journal_file job.settings.name) (header_is : journal.header ≡ header_bytes job)
    (f g : Folder) (r : Record) (p : List Pixel) (bytes : List ℕ)
    (way : IsUnderWay job f journal.records) (next : IsNext job (done_of journal.records) r.task) (are : GoesByParts r.task.kind → AreParts job p) (value : IsValue job r.task bytes)
    (long : length bytes ≡ r.len) (number : HasNumber job r)
    (step : Records (temporary_file job.settings.name) (task_path job.settings.name p r.task) bytes journal r f g) where
  name : List ℕ
  name = job.settings.name

  -- the folder with the journal as it was
  mid : Folder
  mid = written (journal_file job.settings.name) (f (journal_file job.settings.name)) g

  mid_others : SameBut (journal_file job.settings.name) mid g
  unfolding mid
  mid_others n apart = sym (written_others (journal_file job.settings.name) (f (journal_file job.settings.name)) g n apart)

  mid_journal : mid (journal_file job.settings.name) ≡ f (journal_file job.settings.name)
  unfolding mid
  mid_journal = written_there (journal_file job.settings.name) (f (journal_file job.settings.name)) g

  path_apart : task_path job.settings.name p r.task ≢ journal_file job.settings.name
  path_apart = journal_apart job.settings.name p r.task (task_numbered job few r.task next.is_task)

  published : Publishes (temporary_file job.settings.name) (task_path job.settings.name p r.task) bytes f mid
  published = record {
    others = λ n tmp path. ⊎_elim (λ (e : n ≡ journal_file job.settings.name). subst (λ (m : List ℕ). mid m ≡ f m) (sym e) mid_journal)
        (λ apart. sym (mid_others n apart) ∙ step.others n tmp path (λ e. apart (e ∙ file_is))) (same_or_not n (journal_file job.settings.name));
    there = ⊎_elim (λ same. inl (sym (mid_others _ path_apart) ∙ same)) (λ new. inr (sym (mid_others _ path_apart) ∙ new)) step.there;
  }

  notes : Stands (header_bytes job) journal.records (g (journal_file job.settings.name)) ⊎ (Stands (header_bytes job) (journal.records ++ r ∷ []) (g (journal_file job.settings.name)) × (g (task_path job.settings.name p r.task) ≡ Some bytes))
  notes = ⊎_elim
      (λ before. inl (subst (λ (h : List ℕ). Stands h journal.records (g (journal_file job.settings.name))) header_is (subst (λ (n : List ℕ). Stands journal.header journal.records (g n)) file_is before)))
      (λ after. inr (subst (λ (h : List ℕ). Stands h (journal.records ++ r ∷ []) (g (journal_file job.settings.name))) header_is (subst (λ (n : List ℕ). Stands journal.header (journal.records ++ r ∷ []) (g n)) file_is after.0), after.1))
      step.noted

  mid_way : IsUnderWay job mid journal.records
  mid_way = published_step job few f mid journal.records r.task p bytes way next are value published

  -- however far it went
  pub recorded_step : IsResumable job g
  recorded_step = ⊎_elim
      (λ before. inr (journal.records, beside_step job few mid g journal.records mid_way mid_others before))
      (λ after. inr (
        journal.records ++ r ∷ [],
        noted_step job few mid g journal.records r mid_way next
            (record { parts = p; are_parts = are; bytes = bytes; there = sym (mid_others _ path_apart) ∙ after.1; long = long; value = value }) number mid_others after.0,
      ))
      notes

  pub stays_recorded : (u : Task) → IsRecordedIn job u f → IsRecordedIn job u g
  stays_recorded u was =
      let there = recorded_published job few f mid r.task u p bytes next.is_task published was in
      recorded_noted job few mid g journal.records r u mid_way.journal_is (record { others = mid_others; there = ⊎_elim (λ before. inl before) (λ after. inr after.0) notes }) there
