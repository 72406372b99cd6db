use Rattle.std.proofs.Common.{◌∙◌, arith}
use Rattle.hx_import.proofs.Ran.{claimed_work}
use Rattle.hx_import.proofs.serial.work.Goals as goal

pub carry-requires-clause-work : goal.carry-requires-clause-work
carry-requires-clause-work g c =
    let e = c.in-Take.ensures in
    let (clear, ready, is) = e.take in
    let (inputs, partitions, settings) = c.claim.ensures.shape in
    claimed_work g.J.Job.of c.loop.book c.claim.new.self c.in-Take.claimed.task c.loop.invariant.own clear is e.held e.next c.claim.ensures.same settings

pub loop-preserved : goal.loop-preserved
loop-preserved g c =
    let i = c.loop.invariant in
    let (inputs, partitions, settings) = c.claim.ensures.shape in
    let (records, kept, first, stage, faults) = c.claim.ensures.same in
    let done = c.carry.ensures in
    record { free = done.free; own = done.settings ∙ settings ∙ i.own; later = omega (arith, i.later, faults, done.later); asked = i.asked; known = done.known }
