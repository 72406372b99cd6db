use Rattle.std.proofs.Common.{rules, append_assoc}
use Rattle.hx_cli.proofs.texts.write_text.Goals as goal

pub returns-in-SinkFault : goal.returns-in-SinkFault
returns-in-SinkFault c = rw c.in-SinkFault.is c.write-in-SinkFault.ensures.bytes

pub returns-in-Overfull : goal.returns-in-Overfull
returns-in-Overfull c = rw c.in-Overfull.is (simp append_assoc (search rules))

pub returns-in-NoCatalogue : goal.returns-in-NoCatalogue
returns-in-NoCatalogue c = rw c.in-NoCatalogue.is c.write-in-NoCatalogue.ensures.bytes

pub returns-in-OtherJob : goal.returns-in-OtherJob
returns-in-OtherJob c = rw c.in-OtherJob.is (simp append_assoc (search rules))
