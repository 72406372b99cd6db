use Rattle.std.proofs.Common.{◌∙◌, arith}
use Rattle.hx_import.proofs.Working.{work_still}
use Rattle.hx_import.proofs.carrying.carry_files.Goals as goal

pub hand_in-requires-clause-work : goal.hand_in-requires-clause-work
hand_in-requires-clause-work g c = work_still g.J.Job.of c.args.book.now c.make-made.new.book c.args.of c.requires.work c.make-made.ensures.still

pub hand_in-requires-clause-value : goal.hand_in-requires-clause-value
hand_in-requires-clause-value g c = c.make-made.ensures.value

pub hand_in-requires-clause-cause : goal.hand_in-requires-clause-cause
hand_in-requires-clause-cause g c = c.make-made.ensures.cause

pub returns-clause-settings : goal.returns-clause-settings
returns-clause-settings g c = c.hand_in.ensures.settings ∙ c.make-made.ensures.still.settings

pub returns-clause-later : goal.returns-clause-later
returns-clause-later g c = omega (arith, c.hand_in.ensures.later, c.make-made.ensures.still.later)
