use Rattle.std.proofs.Common.{[], inl, refl, ◌∷◌}
use Rattle.hx_rows.proofs.tests.read.Goals as goal

-- the name is `a` and the ending
pub read_rows-requires : goal.read_rows-requires
read_rows-requires c = inl (97 ∷ [], refl)
