-- Each step of an import leads from resumable folders to resumable folders.
use Rattle.std.proofs.Common.{◌≡◌, ◌<◌, ◌≤◌, ◌∙◌, ◌++◌, ◌∷◌, ◌⊎◌, ℕ, zero, suc, List, [], Some, None, Contains, length, refl, sym, ap, subst, inl, inr, ⊎_elim, arith}
use Rattle.std.proofs.lemmas.Bool.{cases_eq}
use Rattle.std.proofs.lemmas.List.{append-nil, append_assoc, map-append}
use Rattle.std.proofs.lemmas.List.Elements.{Contains-push_cases, Contains-append_left}
use Rattle.hx_base.specs.Limits.{most_inputs}
use Rattle.hx_base.specs.declared.pixel.Pixel.{Pixel}
use Rattle.hx_base.specs.declared.task.Task.{Task}
use Rattle.hx_journal.proofs.Unique.{one_journal, one_list}
use Rattle.hx_journal.specs.Headers.{IsHeader}
use Rattle.hx_journal.specs.Journal.{Notes, Stands, Trims, journal_file, temporary_file}
use Rattle.hx_journal.specs.declared.record.Record.{Record}
use Rattle.hx_outside.specs.Folders.{Folder, SameBut}
use Rattle.hx_publish.specs.Publishing.{Publishes}
use Rattle.hx_book.specs.Tasks.{AreParts, Follow, GoesByParts, HasKind, HasKindsBefore, IsNext, IsTask, JobData, count_of, properties_path, properties_task, task, task_path}
use Rattle.hx_book.specs.Values.{IsValue}
use Rattle.hx_book.specs.Resumable.{HasNumber, IsFiled, IsFree, IsFresh, IsRecordedIn, IsResumable, IsUnderWay, JournalIs, done_of, header_bytes}
use Rattle.hx_book.proofs.Paths.{journal_apart, temporary_apart, temporary_is_not_journal}
use Rattle.hx_book.proofs.Parts.{one_file, task_numbered}

pub follow_push : (job : JobData) (done more : List Task) (t : Task) → Follow job done more → IsNext job (done ++ more) t → Follow job done (more ++ t ∷ [])
follow_push job done [] t h next = (subst (λ (l : List Task). IsNext job l t) (append-nil done) next, tt)
follow_push job done (u ∷ us) t h next = (h.0, follow_push job (done ++ u ∷ []) us t h.1 (subst (λ (l : List Task). IsNext job l t) (sym (append_assoc done (u ∷ []) us)) next))

pub done_push : (records : List Record) (r : Record) → done_of (records ++ r ∷ []) ≡ done_of records ++ r.task ∷ []
done_push records r = map-append (λ (x : Record). x.task) records (r ∷ [])

pub done_has : (records : List Record) (r : Record) → Contains records r → Contains (done_of records) r.task
done_has [] r (k, less, is) = absurd (omega (arith, less))
done_has (x ∷ xs) r (zero, less, is) = (zero, omega arith, ap (λ (y : Record). y.task) is)
done_has (x ∷ xs) r (suc k, less, is) = let (j, below, same) = done_has xs r (k, omega (arith, less), is) in (suc j, omega (arith, below), same)

pub done_from : (records : List Record) (t : Task) → Contains (done_of records) t → (r : Record) × Contains records r × (r.task ≡ t)
done_from [] t (k, less, is) = absurd (omega (arith, less))
done_from (x ∷ xs) t (zero, less, is) = (x, (zero, omega arith, refl), is)
done_from (x ∷ xs) t (suc k, less, is) =
    let (r, (j, below, there), same) = done_from xs t (k, omega (arith, less), is) in
    (r, (suc j, omega (arith, below), there), same)

pub cons_cases : (t u : Task) (ts : List Task) → Contains (t ∷ ts) u → (t ≡ u) ⊎ Contains ts u
cons_cases t u ts (zero, less, is) = inl is
cons_cases t u ts (suc k, less, is) = inr (k, omega (arith, less), is)

pub same_records : (job : JobData) (f : Folder) (rs ss : List Record) → JournalIs job f rs → JournalIs job f ss → rs ≡ ss
same_records job f rs ss a b = one_list (header_bytes job) rs ss (f (journal_file job.settings.name)) a b

pub way_of : (job : JobData) (f : Folder) (records : List Record) → IsResumable job f → JournalIs job f records → IsUnderWay job f records
way_of job f records (inl fresh) stands = absurd (let e = sym fresh.no_journal ∙ stands.is in cc)
way_of job f records (inr (others, h)) stands = subst (IsUnderWay job f) (same_records job f others records h.journal_is stands) h

-- a record is of a task of the job, and all of earlier kinds are among the records
pub in_turn_from : (job : JobData) (done more : List Task) (u : Task) → Follow job done more → Contains more u → IsTask job u × HasKindsBefore job (done ++ more) u.kind
in_turn_from job done [] u h (k, less, is) = absurd (omega (arith, less))
in_turn_from job done (t ∷ ts) u h c = ⊎_elim
    (λ (e : t ≡ u). subst (λ (x : Task). IsTask job x × HasKindsBefore job (done ++ t ∷ ts) x.kind) e
    (h.0.is_task, λ j one less n is. Contains-append_left done (t ∷ ts) (task j n) (h.0.in_turn j one less n is)))
    (λ later. let r = in_turn_from job (done ++ t ∷ []) ts u h.1 later in
    (r.0, λ j one less. subst (λ (l : List Task). HasKind job l j) (append_assoc done (t ∷ []) ts) (r.1 j one less)))
    (cons_cases t u ts c)

-- properties are a task of each job
pub properties_is : (job : JobData) → IsTask job properties_task
properties_is job = record { parts = []; are_parts = λ by. absurd (omega (arith, by.1)); numbered = omega arith }

no_parts_for_properties : (job : JobData) → GoesByParts properties_task.kind → AreParts job []
no_parts_for_properties job by = absurd (omega (arith, by.1))

module _ (job : JobData) (few : length job.inputs ≤ most_inputs) where
  abbrev name : List ℕ
  name = job.settings.name

  -- a task's file where another's was published
  pub file_over : (f g : Folder) (t u : Task) (p q : List Pixel) (bytes : List ℕ) → IsTask job t → IsTask job u → (GoesByParts t.kind → AreParts job p) → (GoesByParts u.kind → AreParts job q)
      → (t ≡ u → ⊥) → Publishes (temporary_file name) (task_path name p t) bytes f g → g (task_path name q u) ≡ f (task_path name q u)
  file_over f g t u p q bytes is also a b apart published =
      published.others (task_path name q u) (λ e. temporary_apart name q u (task_numbered job few u also) (sym e)) (λ e. apart (sym (one_file job few u t q p also is b a e)))

  -- the catalogue's properties where a file was published
  properties_over : (f g : Folder) (t : Task) (p : List Pixel) (bytes : List ℕ) → IsTask job t → (GoesByParts t.kind → AreParts job p) → Publishes (temporary_file name) (task_path name p t) bytes f g
      → (g (properties_path name) ≡ f (properties_path name)) ⊎ ((t ≡ properties_task) × (g (properties_path name) ≡ Some bytes))
  properties_over f g t p bytes is a published = ⊎_elim last other (cases_eq t.kind 8)
    where
      other : (t.kind ≡ 8 → ⊥) → (g (properties_path name) ≡ f (properties_path name)) ⊎ ((t ≡ properties_task) × (g (properties_path name) ≡ Some bytes))
      other none = inl (file_over f g t properties_task p [] bytes is (properties_is job) a (no_parts_for_properties job) (λ e. none (ap (λ (x : Task). x.kind) e)) published)

      last : t.kind ≡ 8 → (g (properties_path name) ≡ f (properties_path name)) ⊎ ((t ≡ properties_task) × (g (properties_path name) ≡ Some bytes))
      last eight =
          let l : t.number < 1 = subst (λ (k : ℕ). t.number < count_of (length job.inputs) (length is.parts) k) eight is.numbered in
          let zero : t.number ≡ 0 = omega (arith, l) in
          let e : t ≡ properties_task = λ i. record { kind = eight i; number = zero i } in
          let there = subst (λ (x : Task). (g (task_path name p x) ≡ f (task_path name p x)) ⊎ (g (task_path name p x) ≡ Some bytes)) e published.there in
          ⊎_elim (λ same. inl same) (λ new. inr (e, new)) there

  -- a file of a task that is next was given its value
  pub published_step : (f g : Folder) (records : List Record) (t : Task) (p : List Pixel) (bytes : List ℕ) → IsUnderWay job f records → IsNext job (done_of records) t → (GoesByParts t.kind → AreParts job p)
      → IsValue job t bytes → Publishes (temporary_file name) (task_path name p t) bytes f g → IsUnderWay job g records
  published_step f g records t p bytes h next a value published = record {
    journal_is = subst (Stands (header_bytes job) records) (sym journal_same) h.journal_is;
    follow = h.follow;
    files = λ r c. ⊎_elim (λ free. inl (freed r free)) (λ filed. inr (kept r c filed)) (h.files r c);
    numbers = h.numbers;
    last = λ there. ⊎_elim (λ same. h.last (λ none. there (same ∙ none))) (λ own. subst (λ (k : ℕ). HasKindsBefore job (done_of records) k) (ap (λ (x : Task). x.kind) own.0) next.in_turn) over;
  }
    where
      journal_same : g (journal_file name) ≡ f (journal_file name)
      journal_same = published.others (journal_file name) (λ e. temporary_is_not_journal name (sym e)) (λ e. journal_apart name p t (task_numbered job few t next.is_task) (sym e))

      over : (g (properties_path name) ≡ f (properties_path name)) ⊎ ((t ≡ properties_task) × (g (properties_path name) ≡ Some bytes))
      over = properties_over f g t p bytes next.is_task a published

      freed : (r : Record) → IsFree job f (done_of records) r.task → IsFree job g (done_of records) r.task
      freed r free = ⊎_elim
          (λ same. record { work = free.work; whole = free.whole; bytes = free.bytes; there = same ∙ free.there; value = free.value })
          (λ own. record { work = free.work; whole = free.whole; bytes = bytes; there = own.1; value = subst (λ (x : Task). IsValue job x bytes) own.0 value })
          over

      kept : (r : Record) → Contains records r → IsFiled job f r → IsFiled job g r
      kept r c filed =
          let is = (in_turn_from job [] (done_of records) r.task h.follow (done_has records r c)).0 in
          let same = file_over f g t r.task p filed.parts bytes next.is_task is a filed.are_parts (λ e. next.is_left (subst (λ (x : Task). Contains (done_of records) x) (sym e) (done_has records r c))) published in
          record { parts = filed.parts; are_parts = filed.are_parts; bytes = filed.bytes; there = same ∙ filed.there; long = filed.long; value = filed.value }

  -- what is asked of files but the journal is asked of none that a change of the journal reaches
  filed_beside : (f g : Folder) (r : Record) → IsTask job r.task → SameBut (journal_file name) f g → IsFiled job f r → IsFiled job g r
  filed_beside f g r is others filed = record {
    parts = filed.parts;
    are_parts = filed.are_parts;
    bytes = filed.bytes;
    there = others (task_path name filed.parts r.task) (journal_apart name filed.parts r.task (task_numbered job few r.task is)) ∙ filed.there;
    long = filed.long;
    value = filed.value;
  }

  properties_beside : (f g : Folder) → SameBut (journal_file name) f g → g (properties_path name) ≡ f (properties_path name)
  properties_beside f g others = others (properties_path name) (journal_apart name [] properties_task (task_numbered job few properties_task (properties_is job)))

  -- the journal changed, and has these records as before
  pub beside_step : (f g : Folder) (records : List Record) → IsUnderWay job f records → SameBut (journal_file name) f g → JournalIs job g records → IsUnderWay job g records
  beside_step f g records h others stands = record {
    journal_is = stands;
    follow = h.follow;
    files = λ r c. ⊎_elim
        (λ free. inl (record { work = free.work; whole = free.whole; bytes = free.bytes; there = properties_beside f g others ∙ free.there; value = free.value }))
        (λ filed. inr (filed_beside f g r (in_turn_from job [] (done_of records) r.task h.follow (done_has records r c)).0 others filed))
        (h.files r c);
    numbers = h.numbers;
    last = λ there. h.last (λ none. there (properties_beside f g others ∙ none));
  }

  more_before : (done : List Task) (t : Task) (kind : ℕ) → HasKindsBefore job done kind → HasKindsBefore job (done ++ t ∷ []) kind
  more_before done t kind h j one less n is = Contains-append_left done (t ∷ []) (task j n) (h j one less n is)

  -- the journal has one record more, of a task that was next and whose file stands
  pub noted_step : (f g : Folder) (records : List Record) (r : Record) → IsUnderWay job f records → IsNext job (done_of records) r.task → IsFiled job f r → HasNumber job r
      → SameBut (journal_file name) f g → JournalIs job g (records ++ r ∷ []) → IsUnderWay job g (records ++ r ∷ [])
  noted_step f g records r h next filed number others stands =
      record {
        journal_is = stands;
        follow = subst (Follow job []) (sym (done_push records r)) (follow_push job [] (done_of records) r.task h.follow next);
        files = λ u c. ⊎_elim (λ old. ⊎_elim (λ free. inl (freed u free)) (λ own. inr (filed_beside f g u (in_turn_from job [] (done_of records) u.task h.follow (done_has records u old)).0 others own)) (h.files u old))
            (λ (new : r ≡ u). inr (subst (IsFiled job g) new (filed_beside f g r next.is_task others filed)))
            (Contains-push_cases records r u c);
        numbers = λ u c. ⊎_elim (λ old. h.numbers u old) (λ (new : r ≡ u). subst (HasNumber job) new number) (Contains-push_cases records r u c);
        last = λ there. more (h.last (λ none. there (properties_beside f g others ∙ none)));
      }
    where
      more : HasKindsBefore job (done_of records) 8 → HasKindsBefore job (done_of (records ++ r ∷ [])) 8
      more all = subst (λ (l : List Task). HasKindsBefore job l 8) (sym (done_push records r)) (more_before (done_of records) r.task 8 all)

      freed : (u : Record) → IsFree job f (done_of records) u.task → IsFree job g (done_of (records ++ r ∷ [])) u.task
      freed u free = record { work = free.work; whole = more free.whole; bytes = free.bytes; there = properties_beside f g others ∙ free.there; value = free.value }

  -- however far the noting went
  pub notes_step : (f g : Folder) (records : List Record) (r : Record) → IsUnderWay job f records → IsNext job (done_of records) r.task → IsFiled job f r → HasNumber job r
      → Notes (journal_file name) (header_bytes job) records r f g → IsResumable job g
  notes_step f g records r h next filed number notes = ⊎_elim
      (λ before. inr (records, beside_step f g records h notes.others before))
      (λ after. inr (records ++ r ∷ [], noted_step f g records r h next filed number notes.others after))
      notes.there

  -- a new journal was published
  pub created_step : (f g : Folder) → IsFresh job f → Publishes (temporary_file name) (journal_file name) (header_bytes job ++ 0 ∷ []) f g → IsResumable job g
  created_step f g fresh published = ⊎_elim
      (λ same. inl (record { no_journal = same ∙ fresh.no_journal; no_properties = properties_none }))
      (λ new. inr (
        [],
        record {
          journal_is = record { gate = 0; rest = []; closed = λ e. absurd (cc e); sound = tt; is = new ∙ ap (λ (l : List ℕ). Some (l ++ 0 ∷ [])) (sym (append-nil (header_bytes job))) };
          follow = tt;
          files = λ r c. absurd (let (k, less, is) = c in omega (arith, less));
          numbers = λ r c. absurd (let (k, less, is) = c in omega (arith, less));
          last = λ there. absurd (there properties_none);
        },
      ))
      published.there
    where
      properties_none : g (properties_path name) ≡ None
      properties_none = published.others (properties_path name) (λ e. temporary_apart name [] properties_task (task_numbered job few properties_task (properties_is job)) (sym e))
          (λ e. journal_apart name [] properties_task (task_numbered job few properties_task (properties_is job)) e) ∙ fresh.no_properties

  -- the journal was cut behind its first closed gate
  trimmed_stands : (f g : Folder) (records : List Record) → IsHeader (header_bytes job) → JournalIs job f records → Trims (journal_file name) f g → JournalIs job g records
  trimmed_stands f g records heading stands trims = ⊎_elim
      (λ same. subst (Stands (header_bytes job) records) (sym same) stands)
      (λ trimmed.
      let was : Stands trimmed.header trimmed.records (f (journal_file name)) = record { gate = trimmed.gate; rest = trimmed.was_behind; closed = trimmed.closed; sound = trimmed.sound; is = trimmed.was } in
      let is : Stands trimmed.header trimmed.records (g (journal_file name)) = record { gate = trimmed.gate; rest = trimmed.is_behind; closed = trimmed.closed; sound = trimmed.sound; is = trimmed.is } in
      let one = one_journal trimmed.header (header_bytes job) trimmed.records records (f (journal_file name)) trimmed.heading heading was stands in
      subst (λ (rs : List Record). Stands (header_bytes job) rs (g (journal_file name))) one.1 (subst (λ (h : List ℕ). Stands h trimmed.records (g (journal_file name))) one.0 is))
      trims.there

  pub trimmed_step : (f g : Folder) → IsHeader (header_bytes job) → IsResumable job f → Trims (journal_file name) f g → IsResumable job g
  trimmed_step f g heading (inl fresh) trims = ⊎_elim
      (λ same. inl (record { no_journal = same ∙ fresh.no_journal; no_properties = properties_beside f g trims.others ∙ fresh.no_properties }))
      (λ trimmed. absurd (let e = sym fresh.no_journal ∙ trimmed.was in cc e))
      trims.there
  trimmed_step f g heading (inr (records, h)) trims = inr (records, beside_step f g records h trims.others (trimmed_stands f g records heading h.journal_is trims))

  -- what is recorded stays recorded
  pub recorded_published : (f g : Folder) (t u : Task) (p : List Pixel) (bytes : List ℕ) → IsTask job t → Publishes (temporary_file name) (task_path name p t) bytes f g → IsRecordedIn job u f → IsRecordedIn job u g
  recorded_published f g t u p bytes is published (records, stands, has) =
      (records, subst (Stands (header_bytes job) records) (sym (published.others (journal_file name) (λ e. temporary_is_not_journal name (sym e)) (λ e. journal_apart name p t (task_numbered job few t is) (sym e)))) stands, has)

  pub recorded_noted : (f g : Folder) (records : List Record) (r : Record) (u : Task) → JournalIs job f records → Notes (journal_file name) (header_bytes job) records r f g → IsRecordedIn job u f → IsRecordedIn job u g
  recorded_noted f g records r u stands notes (others, also, has) =
      let here : Contains (done_of records) u = subst (λ (rs : List Record). Contains (done_of rs) u) (same_records job f others records also stands) has in
      ⊎_elim (λ before. (records, before, here))
      (λ after. (records ++ r ∷ [], after, subst (λ (l : List Task). Contains l u) (sym (done_push records r)) (Contains-append_left (done_of records) (r.task ∷ []) u here)))
      notes.there

  pub recorded_trimmed : (f g : Folder) (u : Task) → IsHeader (header_bytes job) → Trims (journal_file name) f g → IsRecordedIn job u f → IsRecordedIn job u g
  recorded_trimmed f g u heading trims (records, stands, has) = (records, trimmed_stands f g records heading stands trims, has)
