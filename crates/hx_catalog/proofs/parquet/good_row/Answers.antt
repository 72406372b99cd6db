use Rattle.std.proofs.Common.{sym}
use Rattle.hx_catalog.proofs.Columned.{no-row, row-values}
use Rattle.hx_catalog.proofs.parquet.good_row.Goals as goal

pub returns-in-Ok : goal.returns-in-Ok
returns-in-Ok c = (c.in-Ok.ensures.good, row-values c.args.hp c.args.id c.args.x c.args.y c.args.z c.in-Ok.row (sym c.in-Ok.ensures.exact))

pub returns-in-Err : goal.returns-in-Err
returns-in-Err c row good same = no-row c.args.hp c.args.id c.args.x c.args.y c.args.z c.in-Err.field-0 (sym c.in-Err.ensures.exact) row good same
