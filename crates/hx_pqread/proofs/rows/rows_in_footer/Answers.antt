use Rattle.std.proofs.Common.{◌≡◌, ℕ, ℤ, List, length, Ok}
use Rattle.hx_pqread.specs.Columns.{columns_in, HaveRows}
use Rattle.hx_pqread.specs.Rows.{rows_in_footer}
use Rattle.hx_pqread.proofs.Lengths.{if_ok}
use Rattle.hx_pqread.proofs.Told.{rows_of_columns, if_refused}
use Rattle.hx_pqread.proofs.rows.rows_in_footer.Goals as goal

pub returns-clause-columns : goal.returns-clause-columns
returns-clause-columns c =
    let file = c.args.bytes.now in
    if_ok c.rows_told.result (λ rows. rows) (rows_in_footer file)
    (λ rows. (names : List (List ℕ)) (lists : List (List ℤ)) → columns_in file names ≡ Ok lists → (length lists ≡ length names) × HaveRows rows lists) c.rows_told.ensures
    (λ rows told names lists read. rows_of_columns file rows names lists told read)

pub returns-clause-refused : goal.returns-clause-refused
returns-clause-refused c = if_refused c.rows_told.result c.args.bytes.now c.rows_told.ensures
