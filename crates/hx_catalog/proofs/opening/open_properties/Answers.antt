use Rattle.std.proofs.Common.{◌≡◌, Some}
use Rattle.hx_catalog.specs.Answers.{IsPropertiesDamage, IsUnread}
use Rattle.hx_catalog.specs.Files.{properties_file}
use Rattle.hx_catalog.proofs.Opened.{not-opened}
use Rattle.hx_catalog.proofs.opening.open_properties.Goals as goal

pub returns-clause-refused : goal.returns-clause-refused
returns-clause-refused g c tells =
    let folder = g.S.Store.disk.reads c.args.store.now in
    let name = c.args.name.now in
    let there : Some c.in-Some.bytes.items ≡ folder (properties_file name) = rw c.in-Some.is at (c.in_ok-bytes.ensures.gives tells) in
    let unread : IsUnread (IsPropertiesDamage name (Some c.in-Some.bytes.items)) c.in-Err.refusal = rw c.deref.ensures.value at c.in-Err.ensures.refused in
    rw c.damaged_file.ensures (not-opened folder name c.args.side c.in-Err.refusal (rw there at unread))
