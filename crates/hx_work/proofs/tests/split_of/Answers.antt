use Rattle.std.proofs.Common.{[], inl, refl, ◌∷◌}
use Rattle.hx_work.proofs.tests.split_of.Goals as goal

-- the name is `a` and the ending
pub split_task-requires : goal.split_task-requires
split_task-requires c = inl (97 ∷ [], refl)
