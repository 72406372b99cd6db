use Rattle.std.proofs.Common.{◌∙◌, arith}
use Rattle.hx_rows.proofs.Columns.{columns-known, name-at}
use Rattle.hx_rows.proofs.header.Header.of.Goals as goal

pub returns-clause-columns : goal.returns-clause-columns
returns-clause-columns g c =
    let names = c.column_names.result in
    let is = c.column_names.ensures in
    let hp = c.as_bytes.ensures.value ∙ name-at names _ 0 is (omega arith) in
    let id = c.as_bytes-2.ensures.value ∙ name-at names _ 1 is (omega arith) in
    let x = c.as_bytes-3.ensures.value ∙ name-at names _ 2 is (omega arith) in
    let y = c.as_bytes-4.ensures.value ∙ name-at names _ 3 is (omega arith) in
    let z = c.as_bytes-5.ensures.value ∙ name-at names _ 4 is (omega arith) in
    columns-known (g.F.Fields.fields c.args.header.now) c.in_ok-hp.hp c.in_ok-id.id c.in_ok-x.x c.in_ok-y.y c.in_ok-z.z
    (rw hp at c.in_ok-hp.ensures) (rw id at c.in_ok-id.ensures) (rw x at c.in_ok-x.ensures) (rw y at c.in_ok-y.ensures) (rw z at c.in_ok-z.ensures)
