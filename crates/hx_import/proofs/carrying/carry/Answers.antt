use Rattle.hx_import.proofs.carrying.carry.Goals as goal

pub carry_input-requires-clause-source : goal.carry_input-requires-clause-source
carry_input-requires-clause-source g c = rw c.in-Some.is at c.requires.source

pub carry_files-requires-clause-source : goal.carry_files-requires-clause-source
carry_files-requires-clause-source g c = rw c.in-None.is at c.requires.source
