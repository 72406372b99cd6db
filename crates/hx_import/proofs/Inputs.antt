-- An input's bytes as rows of the job, and the file of its map.
use Rattle.std.proofs.Common.{◌≡◌, ◌<◌, ◌+◌, ◌++◌, ◌∷◌, ◌∙◌, ℕ, List, [], Option, Some, None, Ok, Err, IfOk, IfSome, IsSome, get_or, length, slice_get, refl, sym, ap, subst, arith, inl}
use Rattle.std.proofs.Math.ListN.{get_or-map}
use Rattle.std.proofs.lemmas.List.{append-nil, get_or_default, length-map}
use Rattle.std.proofs.lemmas.Option.{get_or_from_slice_get, slice_get-map, slice_get_within}
use Rattle.std.specs.Option.{option_map}
use Rattle.hx_base.specs.declared.refusal.JobFile.TheVariants as file
use Rattle.hx_base.specs.declared.row.Row.{Row}
use Rattle.hx_rows.specs.Reading.{rows_of}
use Rattle.hx_work.specs.Work.{IsMapped, Work}
use Rattle.hx_work.specs.declared.refusal.WorkRefusal.{WorkRefusal}
use Rattle.hx_work.specs.declared.refusal.WorkRefusal.TheVariants as work
use Rattle.hx_book.specs.Books.{IsBadInput, JobMembers, input_of, job_of, told_bytes}
use Rattle.hx_book.specs.Tasks.{InputData, JobData, contents_of, names_of, task}
use Rattle.hx_book.specs.Values.{AreRowsOf, IsFileOf}
use Rattle.hx_import.specs.Given.{AreFirstRows, AreOfInput, AreRowsBetween}
use Rattle.hx_import.specs.Made.{IsRefused, refusal_of}
use Rattle.hx_import.proofs.Ranged.{are_first, both_rows, by_ranges, from_first, range_one}

module _ (j : JobMembers) (number : ℕ) (name bytes : List ℕ) (is : AreOfInput j number name bytes) where
  told_is : j.premises → told_bytes is.origin.told ≡ bytes
  told_is p = by is.origin.told (is.told p) is.bytes_are
    where
      by : (told : Option (List ℕ)) → IsSome told → IfSome told (λ t. bytes ≡ t) → told_bytes told ≡ bytes
      by None some same = absurd (cc some)
      by (Some t) some same = sym same

  there : slice_get (job_of j).inputs number ≡ Some (input_of is.origin)
  there = slice_get-map input_of j.origins number ∙ ap (option_map input_of) is.there

  -- what its bytes read as are its rows
  pub rows_are : (rows : List Row) → j.premises → rows_of name bytes ≡ Ok rows → AreRowsOf (job_of j) number rows
  rows_are rows p read = record {
    input = input_of is.origin;
    there = there;
    read = ap (rows_of is.origin.label) (told_is p) ∙ ap (λ (n : List ℕ). rows_of n bytes) (sym is.name_is) ∙ read;
  }

  -- or have its first fault
  pub is_bad : (row why : ℕ) → rows_of name bytes ≡ Err (row, why) → IsBadInput j number row why
  is_bad row why fault = record { origin = is.origin; there = is.there; fault = by is.origin.told is.bytes_are }
    where
      by : (told : Option (List ℕ)) → IfSome told (λ t. bytes ≡ t) → IfSome told (λ t. rows_of is.origin.label t ≡ Err (row, why))
      by None same = tt
      by (Some t) same = ap (rows_of is.origin.label) (sym same) ∙ ap (λ (n : List ℕ). rows_of n bytes) (sym is.name_is) ∙ fault

  -- its map file
  pub mapped : (order : ℕ) (result : Work) → order ≡ j.settings.highest → IsMapped order (rows_of name bytes) result → IfOk result (λ made. j.premises → IsFileOf (job_of j) made.items (file.Map number))
  unfolding IsFileOf
  mapped order (Ok made) same (rows, read, value) = λ p. record { rows = rows; are = rows_are rows p read; file = rw (← same) value }
  mapped order (Err r) same h = tt

  pub map_refused : (order : ℕ) (r : WorkRefusal) → IsMapped order (rows_of name bytes) (Err r) → IsRefused j (task 1 number) (refusal_of number r)
  map_refused order work.Memory h = tt
  map_refused order (work.Bad row why) h = (refl, inl refl, is_bad row why h)
  map_refused order (work.Changed pixel kept found) h = absurd h
  map_refused order (work.Overfull pixel count) h = absurd h
  map_refused order (work.TooMany found) h = absurd h

-- an input has one list of rows
pub one_input : (job : JobData) (number : ℕ) (a b : List Row) → AreRowsOf job number a → AreRowsOf job number b → a ≡ b
one_input job number a b first second =
    let one : Some first.input ≡ Some second.input = sym first.there ∙ second.there in
    let same : first.input ≡ second.input = cc one in
    let read : rows_of second.input.name second.input.bytes ≡ Ok a = subst (λ (i : InputData). rows_of i.name i.bytes ≡ Ok a) same first.read in
    let both : Ok a ≡ Ok b = sym read ∙ second.read in
    cc both

-- the rows of an input
pub own_rows : (job : JobData) (n : ℕ) (own : List Row) → AreRowsOf job n own → AreRowsBetween job n (n + 1) own
own_rows job n own is =
    let input = is.input in
    let within : n < length job.inputs = slice_get_within job.inputs n input is.there in
    let at : get_or job.inputs n input ≡ input = get_or_from_slice_get job.inputs n input input is.there in
    let named : n < length (names_of job) = omega (arith, within, length-map job.inputs (λ (i : InputData). i.name)) in
    let told : n < length (contents_of job) = omega (arith, within, length-map job.inputs (λ (i : InputData). i.bytes)) in
    let name : get_or (names_of job) n input.name ≡ input.name = get_or-map (λ (i : InputData). i.name) job.inputs n input ∙ ap (λ (i : InputData). i.name) at in
    let bytes : get_or (contents_of job) n [] ≡ input.bytes = get_or_default (contents_of job) n [] input.bytes told ∙ get_or-map (λ (i : InputData). i.bytes) job.inputs n input ∙ ap (λ (i : InputData). i.bytes) at in
    by_ranges job n (n + 1) (input.name ∷ []) (input.bytes ∷ []) own
    (range_one (names_of job) n input.name named ∙ ap (λ (x : List ℕ). x ∷ []) name)
    (range_one (contents_of job) n [] told ∙ ap (λ (x : List ℕ). x ∷ []) bytes)
    (own, [], is.read, refl, sym (append-nil own))

-- the rows of one input more
pub first_next : (job : JobData) (n : ℕ) (rows own : List Row) → AreFirstRows job n rows → AreRowsOf job n own → AreFirstRows job (n + 1) (rows ++ own)
first_next job n rows own first is =
    are_first job (n + 1) (rows ++ own) (both_rows job 0 n (n + 1) rows own (omega arith) (omega arith) (from_first job n rows first) (own_rows job n own is))
