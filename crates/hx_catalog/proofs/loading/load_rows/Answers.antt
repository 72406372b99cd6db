use Rattle.std.proofs.Common.{inl}
use Rattle.hx_catalog.specs.Answers.{Loads}
use Rattle.hx_catalog.proofs.Loaded.{loaded-absent, loaded-damage, loaded-rows, loading-kinds, one-loading}
use Rattle.hx_catalog.proofs.Opened.{exact-where-one}
use Rattle.hx_catalog.proofs.loading.load_rows.Goals as goal

pub returns-in_default-clause-exact : goal.returns-in_default-clause-exact
returns-in_default-clause-exact g c tells opened named sided at =
    let folder = g.S.Store.disk.reads c.args.store.now in
    let asked = c.args.asked in
    exact-where-one (Loads folder opened asked.part asked.margin) (one-loading c.reading_is_standing.ensures.read folder opened asked.part asked.margin) _
    (inl (loaded-absent folder opened c.args.name.now asked.side asked.part c.rows_of_part-file.result asked.margin asked.pixel named sided at c.rows_of_part-file.ensures (rw c.in_default.is at (c.in_ok-bytes.ensures.gives tells))))

pub returns-in-Ok-clause-exact : goal.returns-in-Ok-clause-exact
returns-in-Ok-clause-exact g c tells opened named sided at =
    let folder = g.S.Store.disk.reads c.args.store.now in
    let asked = c.args.asked in
    let there = rw c.in-Some.is at (c.in_ok-bytes.ensures.gives tells) in
    let holds = rw c.deref.ensures.value at c.in-Ok.ensures.holds in
    exact-where-one (Loads folder opened asked.part asked.margin) (one-loading c.reading_is_standing.ensures.read folder opened asked.part asked.margin) _
    (inl (loaded-rows folder opened c.args.name.now asked.side asked.part c.rows_of_part-file.result asked.margin asked.pixel named sided at c.rows_of_part-file.ensures c.in-Some.bytes.items c.in-Ok.rows.items there holds c.in-Ok.ensures.belong))

pub returns-in-Ok-clause-inside : goal.returns-in-Ok-clause-inside
returns-in-Ok-clause-inside g c own = rw own at c.in-Ok.ensures.belong

pub returns-clause-exact : goal.returns-clause-exact
returns-clause-exact g c tells opened named sided at =
    let folder = g.S.Store.disk.reads c.args.store.now in
    let asked = c.args.asked in
    let there = rw c.in-Some.is at (c.in_ok-bytes.ensures.gives tells) in
    let unread = rw c.deref.ensures.value at c.in-Err.ensures.refused in
    exact-where-one (Loads folder opened asked.part asked.margin) (one-loading c.reading_is_standing.ensures.read folder opened asked.part asked.margin) _
    (rw c.damaged_file.ensures (loaded-damage folder opened c.args.name.now asked.side asked.part c.rows_of_part-file.result asked.margin asked.pixel named sided at c.rows_of_part-file.ensures c.in-Some.bytes.items c.in-Err.refusal there unread))

pub returns-clause-kinds : goal.returns-clause-kinds
returns-clause-kinds g c = rw (c.damaged_file.ensures, c.rows_of_part-file.ensures) (loading-kinds c.args.asked.side _ c.in-Err.refusal)
