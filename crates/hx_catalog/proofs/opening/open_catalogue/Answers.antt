use Rattle.std.proofs.Common.{Err, inl, refl}
use Rattle.hx_catalog.specs.Answers.{Opens}
use Rattle.hx_catalog.specs.Catalogues.{HasList}
use Rattle.hx_catalog.proofs.Opened.{exact-where-one, list-refused, one-opening}
use Rattle.hx_catalog.proofs.opening.open_catalogue.Goals as goal

pub returns-in-Err-clause-exact : goal.returns-in-Err-clause-exact
returns-in-Err-clause-exact g c tells =
    let folder = g.S.Store.disk.reads c.args.store.now in
    exact-where-one (Opens folder c.args.name.now c.args.side) (one-opening folder c.args.name.now c.args.side) (Err c.in-Err.refusal) (c.in-Err.ensures.refused tells)

pub returns-in-Err-open_list-clause-exact : goal.returns-in-Err-open_list-clause-exact
returns-in-Err-open_list-clause-exact g c tells =
    let folder = g.S.Store.disk.reads c.args.store.now in
    let first = c.open_properties.ensures.unchanged tells in
    exact-where-one (Opens folder c.args.name.now c.args.side) (one-opening folder c.args.name.now c.args.side) (Err c.in-Err-open_list.given)
    (list-refused folder c.args.name.now c.args.side c.in-Err-open_list.given c.in-Ok.properties (c.in-Ok.ensures.opened tells) (rw first.seen at (c.in-Err-open_list.ensures.refused first.told)))

pub returns-clause-exact : goal.returns-clause-exact
returns-clause-exact g c tells =
    let folder = g.S.Store.disk.reads c.args.store.now in
    let first = c.open_properties.ensures.unchanged tells in
    let list : HasList folder c.args.name.now c.in-Ok-open_list.parts.items = rw first.seen at (c.in-Ok-open_list.ensures.opened first.told) in
    exact-where-one (Opens folder c.args.name.now c.args.side) (one-opening folder c.args.name.now c.args.side) _
    (inl (refl, record { own = c.in-Ok.ensures.opened tells; list = rw (c.in_ok-tree.ensures, c.deref.ensures.value) list }))
