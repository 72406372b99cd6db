-- The rows that a footer tells are those of every column that is read, and a refusal of the footer is theirs.
use Rattle.std.proofs.Common.{◌≡◌, ◌⊎◌, ℕ, ℤ, List, length, Result, Ok, Err, IfErr, inl, inr, refl}
use Rattle.hx_pqmeta.specs.declared.refusal.PqRefusal.{PqRefusal}
use Rattle.hx_pqmeta.specs.declared.refusal.PqRefusal.TheVariants.{Memory}
use Rattle.hx_pqmeta.specs.Records.{FooterRecord}
use Rattle.hx_pqmeta.specs.Refusals.{AnswersOrWants}
use Rattle.hx_pqmeta.specs.Footers.{rows_of, footer_in}
use Rattle.hx_pqread.specs.Columns.{columns_in, HaveRows}
use Rattle.hx_pqread.specs.Rows.{rows_in_footer}
use Rattle.hx_pqread.proofs.Chains.{same}
use Rattle.hx_pqread.proofs.Lengths.{footer_lengths}

rows_read : (file : List ℕ) (footer : FooterRecord) → footer_in file ≡ Ok footer → rows_in_footer file ≡ Ok (rows_of footer.groups)
unfolding rows_in_footer
rows_read file footer is = rw is refl

pub rows_of_columns : (file : List ℕ) (rows : ℕ) (names : List (List ℕ)) (lists : List (List ℤ)) → rows_in_footer file ≡ Ok rows → columns_in file names ≡ Ok lists
    → (length lists ≡ length names) × HaveRows rows lists
rows_of_columns file rows names lists told read =
    let h = footer_lengths file names lists read in
    let number : rows ≡ rows_of h.0.groups = same rows (rows_of h.0.groups) (rows_in_footer file) (Ok (rows_of h.0.groups)) told refl (rows_read file h.0 h.1) in
    (h.2, rw number h.3)

one_refusal : (first second : PqRefusal) (read : Result ℕ PqRefusal) → read ≡ Err first → read ≡ Err second → first ≡ second
one_refusal first second read a b = cc

refused_at : (read : Result FooterRecord PqRefusal) (file : List ℕ) (names : List (List ℕ)) (refusal : PqRefusal) → footer_in file ≡ read → rows_in_footer file ≡ Err refusal → columns_in file names ≡ Err refusal
unfolding rows_in_footer columns_in
refused_at (Ok footer) file names refusal is told = absurd (cc (rw is at told))
refused_at (Err other) file names refusal is told =
    let one : other ≡ refusal = one_refusal other refusal (Err other) refl (rw is at told) in
    rw (is, one) refl

pub refused_columns : (file : List ℕ) (names : List (List ℕ)) (refusal : PqRefusal) → (refusal ≡ Memory) ⊎ (rows_in_footer file ≡ Err refusal) → (refusal ≡ Memory) ⊎ (columns_in file names ≡ Err refusal)
refused_columns file names refusal (inl wants) = inl wants
refused_columns file names refusal (inr told) = inr (refused_at (footer_in file) file names refusal refl told)

-- what holds of each refusal that may be answered
pub if_refused : (result : Result ℕ PqRefusal) (file : List ℕ) → AnswersOrWants (λ rows. rows) result (rows_in_footer file) → IfErr result (λ refusal. (names : List (List ℕ)) → (refusal ≡ Memory) ⊎ (columns_in file names ≡ Err refusal))
if_refused (Ok rows) file told = tt
if_refused (Err refusal) file told = λ names. refused_columns file names refusal told
