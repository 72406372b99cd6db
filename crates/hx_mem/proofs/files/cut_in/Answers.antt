use Rattle.std.proofs.Common.{◌∙◌, Option, List, ℕ, option_map, take, ap, refl, rules}
use Rattle.hx_mem.specs.Files.{folder_of, IsAt}
use Rattle.hx_mem.proofs.Entries.{had, becomes}
use Rattle.hx_mem.proofs.files.cut_in.Goals as goal

pub returns-in-Some : goal.returns-in-Some
returns-in-Some c =
    let es = c.args.files.now.items in
    let old = c.index_mut.result.now in
    let new = c.cut.new.self in
    let here : IsAt es c.in-Some.place c.args.name.now = search rules in
    let before = had es c.in-Some.place old new c.args.name.now (folder_of es) here c.index_mut.ensures.value c.cut.ensures.name refl in
    becomes es c.in-Some.place old new c.args.name.now (folder_of es) here c.index_mut.ensures.value c.cut.ensures.name refl _
    (c.cut.ensures.bytes ∙ ap (λ (o : Option (List ℕ)). option_map (take c.args.len) o) before)
