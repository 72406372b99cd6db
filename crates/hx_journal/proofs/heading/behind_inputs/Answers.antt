use Rattle.std.proofs.Common.{◌-◌, arith}
use Rattle.hx_journal.proofs.Headed.{next-input, no-inputs}
use Rattle.hx_journal.proofs.heading.behind_inputs.Goals as goal

pub returns-in_err-rest : goal.returns-in_err-rest
returns-in_err-rest c =
    let so_far = c.loop-left.invariant in
    rw c.from_residual.ensures (no-inputs c.args.text.now c.loop-left.rest.now c.loop-left.left c.args.count so_far.0 so_far.1 so_far.2 so_far.3 c.loop-left-test.true c.in_err-rest.ensures)

pub loop-left-preserved : goal.loop-left-preserved
loop-left-preserved c =
    let so_far = c.loop-left.invariant in
    let read = c.in_ok-rest in
    next-input c.args.text.now c.loop-left.rest.now c.loop-left.left c.args.count so_far.0 so_far.1 so_far.2 so_far.3 read.rest.now read.ensures.0 read.ensures.1 c.loop-left-test.true (c.loop-left.left - 1) (omega (arith, c.loop-left-test.true))
