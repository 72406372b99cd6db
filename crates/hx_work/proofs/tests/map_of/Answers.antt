use Rattle.std.proofs.Common.{[], inl, refl, ◌∷◌}
use Rattle.hx_work.proofs.tests.map_of.Goals as goal

-- the name is `a` and the ending
pub map_task-requires-clause-name : goal.map_task-requires-clause-name
map_task-requires-clause-name c = inl (97 ∷ [], refl)
