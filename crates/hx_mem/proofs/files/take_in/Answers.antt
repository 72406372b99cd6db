use Rattle.std.proofs.Common.{◌≡◌, ◌∙◌, None, refl, rules}
use Rattle.hx_mem.specs.declared.files.File.{File}
use Rattle.hx_mem.specs.Files.{folder_of, IsAt}
use Rattle.hx_mem.proofs.Entries.{had, becomes, is_named, at_set}
use Rattle.hx_mem.proofs.files.take_in.Goals as goal

pub returns-clause-gives : goal.returns-clause-gives
returns-clause-gives c =
    let es = c.args.files.now.items in
    let old = c.index_mut-file.result.now in
    let new : File = record { name = old.name; bytes = c.take.new.self } in
    let here : IsAt es c.in_ok-at.at c.args.name.now = search rules in
    let taken : c.take.result ≡ old.bytes = search rules in
    taken ∙ had es c.in_ok-at.at old new c.args.name.now (folder_of es) here c.index_mut-file.ensures.value refl refl

pub returns-clause-leaves : goal.returns-clause-leaves
returns-clause-leaves c =
    let es = c.args.files.now.items in
    let old = c.index_mut-file.result.now in
    let new : File = record { name = old.name; bytes = c.take.new.self } in
    let here : IsAt es c.in_ok-at.at c.args.name.now = search rules in
    let gone : c.take.new.self ≡ None = search rules in
    becomes es c.in_ok-at.at old new c.args.name.now (folder_of es) here c.index_mut-file.ensures.value refl refl None gone

pub returns-clause-places : goal.returns-clause-places
returns-clause-places c n i there =
    let es = c.args.files.now.items in
    let old = c.index_mut-file.result.now in
    let new : File = record { name = old.name; bytes = c.take.new.self } in
    let here : IsAt es c.in_ok-at.at c.args.name.now = search rules in
    at_set es i c.in_ok-at.at new n c.args.name.now there here (is_named es c.in_ok-at.at old new c.args.name.now (folder_of es) here c.index_mut-file.ensures.value refl refl)
