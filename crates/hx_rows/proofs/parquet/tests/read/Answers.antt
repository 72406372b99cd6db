use Rattle.std.proofs.Common.{[], inr, refl, ◌∷◌}
use Rattle.hx_rows.proofs.parquet.tests.read.Goals as goal

-- the name is `a` and the ending
pub read_rows-requires : goal.read_rows-requires
read_rows-requires c = inr (97 ∷ [], refl)
