use Rattle.std.proofs.Common.{◌∙◌, arith}
use Rattle.hx_book.proofs.Keeping.{takes_or_not}
use Rattle.hx_import.proofs.Sourced.{own_home, own_still}
use Rattle.hx_import.proofs.Working.{work_still}
use Rattle.hx_import.proofs.carrying.carry_input.Goals as goal

pub make_of_input-made-requires-clause-home : goal.make_of_input-made-requires-clause-home
make_of_input-made-requires-clause-home g c = own_home g.J.Job.of g.Src.Source.source c.args.of c.args.source c.requires.source (takes_or_not c.args.of.kind)

pub hand_in-requires-clause-work : goal.hand_in-requires-clause-work
hand_in-requires-clause-work g c = work_still g.J.Job.of c.args.book.now c.make_of_input-made.new.book c.args.of c.requires.work c.make_of_input-made.ensures.still

pub hand_in-requires-clause-source : goal.hand_in-requires-clause-source
hand_in-requires-clause-source g c = own_still g.J.Job.of g.Src.Source.source c.args.of c.args.source c.make_of_input-made.new.source c.requires.source c.make_of_input-made.ensures.home

pub hand_in-requires-clause-value : goal.hand_in-requires-clause-value
hand_in-requires-clause-value g c = c.make_of_input-made.ensures.value

pub hand_in-requires-clause-cause : goal.hand_in-requires-clause-cause
hand_in-requires-clause-cause g c = c.make_of_input-made.ensures.cause

pub returns-clause-settings : goal.returns-clause-settings
returns-clause-settings g c = c.hand_in.ensures.settings ∙ c.make_of_input-made.ensures.still.settings

pub returns-clause-later : goal.returns-clause-later
returns-clause-later g c = omega (arith, c.hand_in.ensures.later, c.make_of_input-made.ensures.still.later)
