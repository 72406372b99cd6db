use Rattle.std.proofs.Common.{ℕ, List, subst}
use Rattle.hx_xmatch.specs.Fields.{IsFieldOf}
use Rattle.hx_xmatch.specs.Files.{HasRowsAt}
use Rattle.hx_xmatch.proofs.FieldLemmas.{field_permuted}
use Rattle.hx_xmatch.proofs.fields.Field.load.Goals as goal

pub returns-clause-loaded : goal.returns-clause-loaded
returns-clause-loaded g c tells =
    let told = HasRowsAt (g.S.Store.disk.reads c.args.store.now) c.args.right.now in
    let rows = c.in_ok-rows.rows.items in
    subst (λ (l : List ℕ). IsFieldOf told l c.args.margin c.in_ok-new.field-0) c.deref.ensures.value
    (field_permuted told c.deref.result.now c.args.margin rows c.in_ok-new.field-0 c.in_ok-new.ensures (c.in_ok-rows.ensures.loaded tells))
