use Rattle.hx_import.specs.Importing.{members_of}
use Rattle.hx_import.proofs.serial.import_one.Given as goal

-- the job is the one that is asked for
abbrev pub ghosts-within : goal.ghosts-within
ghosts-within g a = record { of = members_of g.Src.Source.source g.S.Store.disk a.settings a.inputs.items a.store }
