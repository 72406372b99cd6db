use Rattle.hx_catalog.proofs.Loaded.{none-damaged, rows-damaged}
use Rattle.hx_catalog.proofs.parquet.rows_of_file.Goals as goal

pub returns-in_default-clause-refused : goal.returns-in_default-clause-refused
returns-in_default-clause-refused c =
    none-damaged c.args.margin c.args.pixel.now c.args.bytes.now c.reading_is_standing.ensures.read c.in-Ok.columns c.in-Ok.ensures.value (rw c.in_default.is at c.in_ok-rows.ensures)

pub returns-then-not-are_in_place-clause-refused : goal.returns-then-not-are_in_place-clause-refused
returns-then-not-are_in_place-clause-refused c =
    let found = rw c.in-Some.is at c.in_ok-rows.ensures in
    let stands = rw c.deref.ensures.value at c.are_in_place.ensures in
    rows-damaged c.args.margin c.args.pixel.now c.args.bytes.now c.reading_is_standing.ensures.read c.in-Ok.columns c.in-Ok.ensures.value c.in-Some.rows.items found.0 found.1
    (λ ascending belong. cc (stands.1 (ascending, belong), c.if-not-are_in_place.true))
