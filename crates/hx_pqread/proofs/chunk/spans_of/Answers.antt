use Rattle.std.proofs.Common.{sym, ◌∙◌, arith}
use Rattle.hx_pqread.specs.Columns.{group_span}
use Rattle.hx_pqread.proofs.Joins.{each_done}
use Rattle.hx_pqread.proofs.Lengths.{groups_rows}
use Rattle.hx_pqread.proofs.chunk.spans_of.Goals as goal

pub returns-clause-rows : goal.returns-clause-rows
returns-clause-rows c =
    let spans = c.loop-group.spans.items in
    groups_rows c.args.column c.args.place c.args.groups.now spans
    (sym c.loop-group.invariant ∙ each_done (group_span c.args.column c.args.place) spans c.args.groups.now c.loop-group.group-index (omega arith))
