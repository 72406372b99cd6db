use Rattle.std.proofs.Common.{◌≡◌, ◌+◌, arith, false, length, nat_lt, refl}
use Rattle.std.proofs.lemmas.Bool.{le-ltb}
use Rattle.hx_spill.specs.Splits.{row_at}
use Rattle.hx_spill.proofs.split.rows.row_at.Goals as goal

pub returns-clause-value : goal.returns-clause-value
unfolding row_at
returns-clause-value c =
    let there : nat_lt (length c.args.bytes.now) (c.args.at + 28) ≡ false = le-ltb _ _ (omega arith) in
    rw (there, c.kept.ensures, c.may_come.ensures, c.row_from-row.ensures, c.from_place.ensures) refl
