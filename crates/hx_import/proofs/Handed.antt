-- What an import hands back, by its settings and its inputs' names and bytes.
use Rattle.std.proofs.Common.{◌≡◌, ◌<◌, ◌∙◌, ◌∷◌, ◌⊎◌, ℕ, List, [], Some, None, Option, Err, IfSome, get_or, length, map, slice_get, refl, sym, ap, subst, arith, inl, inr, append_assoc}
use Rattle.std.proofs.Math.Nat.{min-eq_left}
use Rattle.std.specs.Option.{option_map}
use Rattle.std.proofs.lemmas.List.{length-map}
use Rattle.std.proofs.lemmas.Option.{get_or_from_slice_get, slice_get-get_or, slice_get-map, slice_get_within}
use Rattle.hx_align.specs.declared.plan.PlanRow.{PlanRow}
use Rattle.hx_base.specs.declared.refusal.Refusal.{Refusal}
use Rattle.hx_base.specs.declared.refusal.Refusal.TheVariants as refusal
use Rattle.hx_base.specs.declared.row.Row.{Row}
use Rattle.hx_base.specs.declared.settings.Settings.{Settings}
use Rattle.hx_base.specs.declared.task.Task.{Task}
use Rattle.hx_inputs.specs.Causes.{IsInputsCause}
use Rattle.hx_inputs.specs.Sources.{SameSources, Tell}
use Rattle.hx_journal.specs.Differences.{DifferAt}
use Rattle.hx_margin.proofs.Margins.{some_margin}
use Rattle.hx_outside.specs.Disk.{DiskMembers}
use Rattle.hx_outside.specs.Faults.{Rose}
use Rattle.hx_outside.specs.Folders.{Folder}
use Rattle.hx_outside.specs.Sources.{SourceMembers}
use Rattle.hx_rows.specs.Reading.{rows_of}
use Rattle.hx_book.specs.Books.{AreBack, IsBackCause, IsBadInput, IsOutsideCause, IsTaskCause, JobMembers, Origin, ShowsWhy, job_of, origin_of}
use Rattle.hx_book.specs.Resumable.{IsFiledWhole, header_bytes}
use Rattle.hx_book.specs.Tasks.{JobData}
use Rattle.hx_book.specs.Values.{AreMargins}
use Rattle.hx_import.specs.Importing.{GoesOn, IsRun, IsRunCause, members_of}
use Rattle.hx_import.specs.Imports.{AreCounts, CanGoOn, HasOtherHeader, HasWhole, IsImportCause, LeavesOthers, LeavesWhole, StillGoesOn, job_of as asked_job}
use Rattle.hx_import.proofs.Ran.{job_same}

-- each partition has a margin
some_margins : (order : ℕ) (all : List Row) (plan : List PlanRow) → (margins : List (List Row)) × AreMargins order all plan margins
some_margins order all [] = ([], tt)
some_margins order all (row ∷ plan) =
    let own = some_margin row.pixel order all in
    let rest = some_margins order all plan in
    (own.0 ∷ rest.0, (own.1, rest.1))

module _ {Src S : Type 0} (source : SourceMembers Src) (d : DiskMembers S) (settings : Settings) (inputs : List Src) (store : S) where
  abbrev j : JobMembers
  j = members_of source d settings inputs store

  -- an input's origin is what it was
  origin_at : (i : ℕ) (origin : Origin) (x : Src) → i < length inputs → slice_get j.origins i ≡ Some origin → origin ≡ origin_of source (get_or inputs i x)
  origin_at i origin x less there =
      let here : slice_get (map (origin_of source) inputs) i ≡ Some (origin_of source (get_or inputs i x)) = slice_get-map (origin_of source) inputs i ∙ ap (option_map (origin_of source)) (slice_get-get_or inputs i x less) in
      let both : Some origin ≡ Some (origin_of source (get_or inputs i x)) = sym there ∙ here in
      cc both

  there_within : (i : ℕ) (origin : Origin) → slice_get j.origins i ≡ Some origin → i < length inputs
  there_within i origin there = let w = slice_get_within j.origins i origin there in omega (arith, w, length-map inputs (origin_of source))

  -- the inputs come back
  pub handed_back : (now : List Src) → AreBack j source now → SameSources source inputs now
  handed_back now back = record {
    count = back.count ∙ length-map inputs (origin_of source);
    each = λ i x less.
        let within : i < length now = omega (arith, less, back.count, length-map inputs (origin_of source)) in
        let home = back.each i (get_or now i x) (slice_get-get_or now i x within) in
        let is = origin_at i home.origin x less home.there in
        record {
          bytes = home.bytes ∙ ap (λ (o : Origin). o.told) is;
          name = home.name ∙ ap (λ (o : Origin). o.label) is;
          later = let same : home.origin.faults ≡ source.faults (get_or inputs i x) = ap (λ (o : Origin). o.faults) is in omega (arith, same, home.later);
        };
  }

  module _ (answer : Option Refusal) (rows partitions margin : ℕ) (now : List Src) (after : S) (run : IsRun j source d answer rows partitions margin now after) where
    early_of : (o : Option Refusal) (P : Refusal → Type 0) → IfSome o P → (r : Refusal) → o ≡ Some r → P r
    early_of None P h r is = absurd (cc is)
    early_of (Some x) P h r is = let same : x ≡ r = cc is in subst P same h

    pub others_left : d.tells store → LeavesOthers d store after settings.name answer
    others_left tells = record {
      told = run.told tells;
      others = λ f since. let u = run.untouched tells f since in (u.from, u.was, u.others);
      early = λ r is early f since. early_of answer _ (run.early tells) r is early f since;
    }

    module _ (bytes : List (List ℕ)) (tell : Tell source inputs bytes) (can : CanGoOn d store (asked_job settings (map source.label inputs) bytes)) where
      abbrev job : JobData
      job = asked_job settings (map source.label inputs) bytes

      goes : GoesOn source d settings inputs store
      goes = (bytes, tell, can)

      same : job_of j ≡ job
      same = job_same source d settings inputs store bytes tell

      pub whole_left : ((f : Folder) → IsFiledWhole (job_of j) f → HasWhole (job_of j) f) → LeavesWhole d store after job answer
      whole_left finished = record {
        goes_on = λ f since.
            let good = run.good goes f since in
            subst (λ (x : JobData). StillGoesOn d store x f) same (record { resumable = good.resumable; recorded = good.recorded });
        whole = λ none f may. subst (λ (x : JobData). HasWhole x f) same (finished f (run.filed goes none f may));
      }

      pub counts_left : answer ≡ None → AreCounts job rows partitions margin
      counts_left none =
          let (few, small) = run.small none in
          let numbers = run.numbers goes none in
          let (margins, are) = some_margins (job_of j).settings.margin_order numbers.all numbers.plan in
          let sum = numbers.margin_is margins are in
          subst (λ (x : JobData). AreCounts x rows partitions margin) same (record {
            all = numbers.all;
            plan = numbers.plan;
            cut = numbers.cut;
            margins = margins;
            are = are;
            rows_are = numbers.rows_are ∙ sym (min-eq_left (omega (arith, few, numbers.rows_are)));
            partitions_are = numbers.partitions_are;
            margin_is = sum ∙ sym (min-eq_left (omega (arith, small, sum)));
          })

    -- why it was refused
    module _ (differs : ℕ → ℕ → ℕ → Type 0) where
      abbrev Why : Refusal → Type 0
      Why r = IsInputsCause source inputs now r ⊎ IsImportCause d store after settings.name differs (GoesOn source d settings inputs store) r

      outside_why : (r : Refusal) → IsOutsideCause j source (λ n s. slice_get now n ≡ Some s) (d.faults after) r → Why r
      outside_why refusal.StoreFault h = inr h
      outside_why (refusal.InputFault input) (s, origin, at, there, rose) = inl (there_within input origin there, failed)
        where
          failed : (x : Src) → (input ≡ input) × Rose (source.faults (get_or inputs input x)) (source.faults (get_or now input x))
          failed x =
              let is = origin_at input origin x (there_within input origin there) there in
              let same : get_or now input x ≡ s = get_or_from_slice_get now input s x at in
              (refl, subst (λ (y : Src). Rose (source.faults (get_or inputs input x)) (source.faults y)) (sym same) (subst (λ (o : Origin). Rose o.faults (source.faults s)) is rose))
      outside_why refusal.Memory h = inl tt
      outside_why _ h = absurd h

      long_at : (number found : ℕ) (origin : Origin) → slice_get j.origins number ≡ Some origin → IfSome origin.told (λ b. length b ≡ found) → (x : Src) → IfSome (source.told (get_or inputs number x)) (λ b. length b ≡ found)
      long_at number found origin there long x = subst (λ (o : Origin). IfSome o.told (λ b. length b ≡ found)) (origin_at number origin x (there_within number origin there) there) long

      back_why : (r : Refusal) → ((place kept asked : ℕ) → r ≡ refusal.OtherJob place kept asked → differs place kept asked) → IsBackCause j source now (d.faults after) r → Why r
      back_why (refusal.TooMany what found limit) other (two, most, more, (number, origin, there, long)) =
          inl (more, inr (two, most, (number, there_within number origin there, long_at number found origin there long)))
      back_why refusal.NameTaken other h = inr h
      back_why (refusal.OtherJob place kept asked) other h = inr (other place kept asked refl, h)
      back_why (refusal.Damaged side file place) other h = inr h.1
      back_why r other h = outside_why r h

      bad_at : (input row why : ℕ) (bad : IsBadInput j input row why) (x : Src) → IfSome (source.told (get_or inputs input x)) (λ b. rows_of (source.label (get_or inputs input x)) b ≡ Err (row, why))
      bad_at input row why bad x =
          subst (λ (o : Origin). IfSome o.told (λ b. rows_of o.label b ≡ Err (row, why))) (origin_at input bad.origin x (there_within input bad.origin bad.there) bad.there) bad.fault

      task_why : (t : Task) (r : Refusal) → IsTaskCause j t r → Why r
      task_why t (refusal.BadInput input row why) (number, takes, bad) = inl (there_within input bad.origin bad.there, λ x. (refl, bad_at input row why bad x))
      task_why t (refusal.Overfull pixel count) h = inr tt
      task_why t (refusal.TooMany what found limit) h = inr h.1
      task_why t (refusal.InputChanged input pixel kept found) h = inr h.2
      task_why t (refusal.Damaged side file place) h = inr h
      task_why t _ h = absurd h

      run_why : (r : Refusal) → ((place kept asked : ℕ) → r ≡ refusal.OtherJob place kept asked → differs place kept asked) → IsRunCause j source now (d.faults after) r → Why r
      run_why r other (inl h) = back_why r other h
      run_why r other (inr (inl h)) = outside_why r h
      run_why r other (inr (inr h)) = task_why h.refused r h.cause

      pub cause_left : ((place kept asked : ℕ) → answer ≡ Some (refusal.OtherJob place kept asked) → differs place kept asked) → IfSome answer Why
      cause_left other = by answer refl run.cause
        where
          by : (o : Option Refusal) → answer ≡ o → IfSome o (IsRunCause j source now (d.faults after)) → IfSome o Why
          by None is h = tt
          by (Some r) is h = run_why r (λ place kept asked same. other place kept asked (is ∙ ap (λ (x : Refusal). Some x) same)) h

  pub other_header : (bytes : List (List ℕ)) → Tell source inputs bytes → (f : Folder) (place kept asked : ℕ) → ShowsWhy settings.name (header_bytes (job_of j)) f (refusal.OtherJob place kept asked)
      → HasOtherHeader (asked_job settings (map source.label inputs) bytes) f place kept asked
  other_header bytes tell f place kept asked (other, differ) = record {
    header = other.kept;
    rest = _;
    heading = other.heading;
    begins = other.stands.is ∙ ap (λ (x : List ℕ). Some x) (append_assoc other.kept _ _);
    differs = subst (λ (x : JobData). DifferAt other.kept (header_bytes x) place kept asked) (job_same source d settings inputs store bytes tell) differ;
  }
