use Rattle.std.proofs.Common.{◌<◌, ◌^◌, All, subst, sym}
use Rattle.std.proofs.lemmas.Result.{IfOk-weaker}
use Rattle.hx_base.specs.Rows.{IsGood, sorted_rows}
use Rattle.hx_base.specs.declared.row.Row.{Row}
use Rattle.hx_work.proofs.Sorted.{good_sorted, positions_fit}
use Rattle.hx_work.proofs.sorting.merged.Goals as goal

pub returns-clause-good : goal.returns-clause-good
returns-clause-good c =
    IfOk-weaker c.runs_in_order.result _ (λ merged. All IsGood merged.items) (λ merged is. subst (All IsGood) (sym is) (good_sorted c.args.rows.items c.requires)) c.runs_in_order.ensures

pub returns-clause-positions : goal.returns-clause-positions
returns-clause-positions c =
    IfOk-weaker c.runs_in_order.result _ (λ merged. All (λ (row : Row). row.hp < 2 ^ 63) merged.items)
    (λ merged is. subst (All (λ (row : Row). row.hp < 2 ^ 63)) (sym is) (positions_fit (sorted_rows c.args.rows.items) (good_sorted c.args.rows.items c.requires))) c.runs_in_order.ensures
