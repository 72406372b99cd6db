use Rattle.std.proofs.Common.{ap, arith}
use Rattle.hx_spill.specs.Alone.{begun_at}
use Rattle.hx_spill.proofs.Alone.{refused_alone, refused_below}
use Rattle.hx_spill.proofs.split.rows_of_slice.Goals as goal

pub refused_at-requires-clause-below : goal.refused_at-requires-clause-below
refused_at-requires-clause-below c = refused_below c.args.place.rows c.args.bytes.now c.in-Err.refused (rw c.in-Err.is at c.read_slice.ensures.value)

pub returns-in-Ok-clause-value : goal.returns-in-Ok-clause-value
returns-in-Ok-clause-value c = ap (begun_at c.args.place.at) (rw c.in-Ok.is at c.read_slice.ensures.value)

pub returns-in-Err-clause-value : goal.returns-in-Err-clause-value
returns-in-Err-clause-value c = rw c.refused_at.ensures (refused_alone c.args.place.at c.args.place.rows c.args.bytes.now c.in-Err.refused (rw c.in-Err.is at c.read_slice.ensures.value))
