use Rattle.std.proofs.Common.{All, subst, sym}
use Rattle.std.specs.List.Sorted.{IsSorted}
use Rattle.std.proofs.lemmas.Result.{IfOk-weaker}
use Rattle.hx_base.specs.Rows.{IsGood, row_cmp}
use Rattle.hx_work.proofs.Sorted.{good_sorted, rows_sorted}
use Rattle.hx_work.proofs.sorting.sorted.Goals as goal

pub returns-clause-sorted : goal.returns-clause-sorted
returns-clause-sorted c =
    IfOk-weaker c.all_in_order.result _ (λ sorted. IsSorted row_cmp sorted.items)
    (λ sorted is. subst (IsSorted row_cmp) (sym is) (rows_sorted c.args.rows.items)) c.all_in_order.ensures

pub returns-clause-good : goal.returns-clause-good
returns-clause-good c =
    IfOk-weaker c.all_in_order.result _ (λ sorted. All IsGood sorted.items)
    (λ sorted is. subst (All IsGood) (sym is) (good_sorted c.args.rows.items c.requires)) c.all_in_order.ensures
