use Rattle.std.proofs.Common.{◌-◌, arith}
use Rattle.std.proofs.lemmas.Grind.{common_steps}
use Rattle.hx_mem.proofs.sink.MemSinkSink.write.Goals as goal

-- what fits was written
pub returns-then-left-bytes-clause-appends : goal.returns-then-left-bytes-clause-appends
returns-then-left-bytes-clause-appends c = (c.self.inside.room - c.len.result, grind (arith, common_steps))
