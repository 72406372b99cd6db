use Rattle.std.proofs.Common.{◌∙◌, List, Ok, subst}
use Rattle.hx_align.specs.Plans.{pixels_of}
use Rattle.hx_base.specs.declared.row.Row.{Row}
use Rattle.hx_rows.specs.Reading.{rows_of}
use Rattle.hx_work.specs.Work.{IsSplit}
use Rattle.hx_work.proofs.Answered.{split_rows}
use Rattle.hx_work.proofs.splitting.split_task.Goals as goal

pub returns : goal.returns
returns c =
    let parts = pixels_of c.args.plan.now in
    let same = c.deref.ensures.value ∙ c.in_ok-rows.ensures.rows in
    let split = subst (λ (rows : List Row). IsSplit (Ok rows) c.args.map.now (pixels_of c.args.plan.now) c.split_sorted.result) same c.split_sorted.ensures in
    split_rows (rows_of c.args.name.now c.args.bytes.now) c.in_ok-read_rows.field-0.items c.args.map.now parts c.split_sorted.result c.in_ok-read_rows.ensures.exact split
