use Rattle.std.proofs.Common.{◌≤◌, length, min, rules}
use Rattle.hx_journal.proofs.Differing.{same-headers}
use Rattle.hx_journal.proofs.difference.header_difference.Goals as goal

pub returns : goal.returns
returns c =
    let all : min (length c.args.kept.now) (length c.args.asked.now) ≤ c.loop-i.i = search (rules, c.loop-i-test.false, c.min-i-end.ensures) in
    same-headers c.args.kept.now c.args.asked.now c.loop-i.i c.requires.kept c.requires.asked all c.loop-i.invariant
