-- Rows that are collected one after another.
use Rattle.std.proofs.Common.{All, Vec, Global, ◌≡◌, ◌++◌, ◌+◌, ◌≤◌, ◌∷◌, [], List, ℕ, Result, Ok, Err, refl, suc, append_assoc, ap, arith, length, nat_lt, true, false, inl, inr, rules}
use Rattle.std.specs.Result.{IsErrAnd}
use Rattle.std.proofs.lemmas.Bool.{cases_order, lt-ltb, le-ltb}
use Rattle.std.proofs.lemmas.List.Elements.{All-cons}
use Rattle.hx_base.specs.Columns.{◌>>=◌}
use Rattle.hx_base.specs.Rows.{IsGood}
use Rattle.hx_base.specs.declared.row.Row.{Row}
use Rattle.hx_base.proofs.RowValues.{value-of}
use Rattle.hx_rows.specs.Reading.{Reads, Tells}
use Rattle.hx_rows.specs.Rows.{at_row, numbered, rows_from}
use Rattle.hx_rows.specs.declared.fault.Fault.{Fault}
use Rattle.hx_rows.specs.declared.read.RowRefusal.{RowRefusal}
use Rattle.hx_rows.specs.declared.read.RowRefusal.TheVariants as answer

-- a row of a number that is low enough
pub numbered-low : (number : ℕ) (row : Result Row Fault) → number ≤ 1099511627776 → numbered number row ≡ at_row number row
numbered-low number row low = let few : nat_lt 1099511627776 number ≡ false = le-ltb 1099511627776 number low in rw few refl

-- rows behind others, or the first fault
abbrev pub joined : {E : Type 0} → List Row → Result (List Row) E → Result (List Row) E
joined front (Ok rows) = Ok (front ++ rows)
joined front (Err e) = Err e

joined-push : {E : Type 0} (front : List Row) (row : Row) (rest : Result (List Row) E)
    → joined (front ++ row ∷ []) rest ≡ joined front (rest >>= λ rows. Ok (row ∷ rows))
joined-push front row (Ok rows) = ap Ok (append_assoc front (row ∷ []) rows)
joined-push front row (Err e) = refl

-- one more row that is read
pub joined-row : {A : Type 0} (row_of : A → Result Row Fault) (number : ℕ) (x : A) (xs : List A) (front : List Row) (row : Row)
    → numbered number (row_of x) ≡ Ok row
    → joined (front ++ row ∷ []) (rows_from row_of (suc number) xs) ≡ joined front (rows_from row_of number (x ∷ xs))
joined-row row_of number x xs front row is = rw is (joined-push front row (rows_from row_of (suc number) xs))

-- and one that is refused
pub joined-fault : {A : Type 0} (row_of : A → Result Row Fault) (number : ℕ) (x : A) (xs : List A) (front : List Row) (refusal : RowRefusal)
    → Tells refusal (numbered number (row_of x)) → Tells refusal (joined front (rows_from row_of number (x ∷ xs)))
joined-fault row_of number x xs front answer.Memory tells = tt
joined-fault row_of number x xs front (answer.Bad row why) tells = rw tells refl

-- a refusal that is handed on
pub reads-refused : (result : Result (Vec Row Global) RowRefusal) (refusal : RowRefusal) (read : Result (List Row) (ℕ × ℕ)) → IsErrAnd result (λ e. e ≡ refusal)
    → Tells refusal read → Reads result read
reads-refused (Ok rows) refusal read is tells = absurd is
reads-refused (Err e) refusal read is tells = rw is tells

-- The rows that were read are good, and no more than may be numbered.

at_row-is : (number : ℕ) (read : Result Row Fault) (row : Row) → at_row number read ≡ Ok row → read ≡ Ok row
at_row-is number (Ok found) row is = let same : found ≡ row = cc is in ap Ok same
at_row-is number (Err f) row is = cc is

numbered-few : (number : ℕ) (read : Result Row Fault) (row : Row) → number ≤ 1099511627776 → numbered number read ≡ Ok row → (number ≤ 1099511627776) × (read ≡ Ok row)
numbered-few number read row low is = (low, at_row-is number read row (rw (numbered-low number read low) at is))

numbered-is : (number : ℕ) (read : Result Row Fault) (row : Row) → numbered number read ≡ Ok row → (number ≤ 1099511627776) × (read ≡ Ok row)
numbered-is number read row is =
    elim (cases_order number 1099511627776) [
      | inl same ↦ numbered-few number read row (omega (arith, same)) is
      | inr (inl less) ↦ numbered-few number read row (omega (arith, less)) is
      | inr (inr high) ↦ let over : nat_lt 1099511627776 number ≡ true = lt-ltb 1099511627776 number high in absurd (cc (rw over at is))
    ]

pub record AreRead (number : ℕ) (rows : List Row) : Type 0 where
  pub few : number + length rows ≤ 1099511627777
  pub good : All IsGood rows

pub rows-read : {A : Type 0} (row_of : A → Result Row Fault) → ((x : A) (row : Row) → row_of x ≡ Ok row → IsGood row)
    → (number : ℕ) (xs : List A) (rows : List Row) → number ≤ 1099511627777 → rows_from row_of number xs ≡ Ok rows → AreRead number rows
rows-read row_of good number [] rows low is = let none : rows ≡ [] = cc is in rw none (record { few = omega arith; good = search rules })
rows-read row_of good number (x ∷ xs) rows low is =
    let first = value-of (numbered number (row_of x)) _ rows is in
    let others = value-of (rows_from row_of (suc number) xs) _ rows first.2 in
    let row = numbered-is number (row_of x) first.0 first.1 in
    let more = rows-read row_of good (suc number) xs others.0 (omega (arith, row.0)) others.1 in
    let all : rows ≡ first.0 ∷ others.0 = cc others.2 in
    rw all (record { few = omega (arith, more.few); good = All-cons IsGood first.0 others.0 (good x first.0 row.1) more.good })
