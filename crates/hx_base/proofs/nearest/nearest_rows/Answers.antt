use Rattle.hx_base.proofs.NearestRows.{nearest_of_both, nearest_of_pieces, one_nearest, permuted_nearest, repeated_nearest, same_nearest, some_nearest}
use Rattle.hx_base.proofs.nearest.nearest_rows.Goals as goal

pub returns-clause-one : goal.returns-clause-one
returns-clause-one c = one_nearest

pub returns-clause-some : goal.returns-clause-some
returns-clause-some c = some_nearest

pub returns-clause-same : goal.returns-clause-same
returns-clause-same c = same_nearest

pub returns-clause-permuted : goal.returns-clause-permuted
returns-clause-permuted c = permuted_nearest

pub returns-clause-repeated : goal.returns-clause-repeated
returns-clause-repeated c = repeated_nearest

pub returns-clause-both : goal.returns-clause-both
returns-clause-both c = nearest_of_both

pub returns-clause-pieces : goal.returns-clause-pieces
returns-clause-pieces c = nearest_of_pieces
