use Rattle.std.proofs.Common.{◌-◌}
use Rattle.hx_import.proofs.making.+counts_between.Given as goal

abbrev pub decreases-counts_between : goal.decreases-counts_between
decreases-counts_between g l = l.to - l.from
