use Rattle.std.proofs.Common.{rules, refl}
use Rattle.std.proofs.lemmas.Int.{to_z-of_z}
use Rattle.std.specs.Int.{w32, w64}
use Rattle.hx_spill.proofs.split.rows.bytes_of_row.Goals as goal

pub returns : goal.returns
returns c =
    let row = c.args.row in
    rw (c.to_le_bytes-hp.ensures, c.to_le_bytes-id.ensures, c.to_le_bytes-x.ensures, c.to_le_bytes-y.ensures, c.to_le_bytes-z.ensures)
    (rw (to_z-of_z w64 row.id (search rules), to_z-of_z w32 row.x (search rules), to_z-of_z w32 row.y (search rules), to_z-of_z w32 row.z (search rules)) refl)
