use Rattle.std.proofs.Common.{refl, rules}
use Rattle.std.proofs.lemmas.Int.{to_z-of_z}
use Rattle.std.specs.Int.{w32, w64}
use Rattle.hx_spill.proofs.split.rows.row_from.Goals as goal

pub returns : goal.returns
returns c =
    rw (
      to_z-of_z w64 c.i64_at-id.result (search rules),
      to_z-of_z w32 c.i32_at-x.result (search rules),
      to_z-of_z w32 c.i32_at-y.result (search rules),
      to_z-of_z w32 c.i32_at-z.result (search rules),
      c.u64_from-hp.ensures,
      c.i64_at-id.ensures,
      c.i32_at-x.ensures,
      c.i32_at-y.ensures,
      c.i32_at-z.ensures,
    )
    refl
