use Rattle.std.proofs.Common.{◌≡◌, ◌≢◌, ◌∙◌, Some, None, sym, refl, rules}
use Rattle.hx_outside.proofs.Names.{renamed_absent, renamed_is, written_same}
use Rattle.hx_outside.specs.Folders.{removed}
use Rattle.hx_mem.specs.declared.files.File.{File}
use Rattle.hx_mem.specs.Files.{folder_of, IsAt}
use Rattle.hx_mem.proofs.Entries.{at_within, becomes}
use Rattle.hx_mem.proofs.files.rename_in.Goals as goal

pub returns-in_default-clause-ok : goal.returns-in_default-clause-ok
returns-in_default-clause-ok c =
    let f = folder_of c.args.files.now.items in
    let from = c.args.from.now in
    let none : c.take_in.result ≡ None = search rules in
    let absent : f from ≡ None = (λ k. sym c.place.ensures.same k from) ∙ sym c.take_in.ensures.gives ∙ none in
    c.take_in.ensures.leaves ∙ (λ k. removed from (c.place.ensures.same k)) ∙ written_same from None f (sym absent) ∙ sym (renamed_absent from c.args.to.now f absent)

pub index_mut-file-requires : goal.index_mut-file-requires
index_mut-file-requires c =
    let within = at_within c.take_in.new.files.items c.in_ok-there.there c.args.to.now (c.take_in.ensures.places c.args.to.now c.in_ok-there.there c.in_ok-there.ensures.found) in
    search (rules, within)

pub returns-clause-ok : goal.returns-clause-ok
returns-clause-ok c =
    let f = folder_of c.args.files.now.items in
    let from = c.args.from.now in
    let to = c.args.to.now in
    let some : c.take_in.result ≡ Some c.in-Some.bytes = search rules in
    let apart : from ≢ to = search rules in
    let there : f from ≡ Some c.in-Some.bytes = (λ k. sym c.place.ensures.same k from) ∙ sym c.take_in.ensures.gives ∙ some in
    let left : folder_of c.take_in.new.files.items ≡ removed from f = c.take_in.ensures.leaves ∙ (λ k. removed from (c.place.ensures.same k)) in
    let next = c.index_mut-file.result.now in
    let last : File = record { name = next.name; bytes = Some c.in-Some.bytes } in
    let target : IsAt c.take_in.new.files.items c.in_ok-there.there to = c.take_in.ensures.places to c.in_ok-there.there c.in_ok-there.ensures.found in
    becomes c.take_in.new.files.items c.in_ok-there.there next last to (removed from f) target c.index_mut-file.ensures.value refl left (Some c.in-Some.bytes) refl
    ∙ sym (renamed_is from to c.in-Some.bytes f apart there)
