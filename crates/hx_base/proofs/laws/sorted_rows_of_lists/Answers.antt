use Rattle.hx_base.specs.Rows.{row_cmp}
use Rattle.hx_base.proofs.RowOrder.{only_sorted, rows_exact, rows_total}
use Rattle.hx_base.proofs.Sorting.{is_sorted, permutes, same_sorted}
use Rattle.hx_base.proofs.laws.sorted_rows_of_lists.Goals as goal

pub returns-clause-ascending : goal.returns-clause-ascending
returns-clause-ascending c = is_sorted row_cmp rows_total rows_exact

pub returns-clause-as_often : goal.returns-clause-as_often
returns-clause-as_often c = permutes row_cmp rows_total rows_exact

pub returns-clause-only : goal.returns-clause-only
returns-clause-only c = only_sorted

pub returns-clause-permutation : goal.returns-clause-permutation
returns-clause-permutation c = same_sorted row_cmp rows_total rows_exact
