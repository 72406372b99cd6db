use Rattle.std.proofs.Common.{◌∙◌, List, ℕ, Some, sym, ap, rules}
use Rattle.hx_mem.specs.Files.{IsAt}
use Rattle.hx_mem.proofs.Entries.{at_there}
use Rattle.hx_mem.proofs.files.bytes_in.Goals as goal

pub returns-in-Some : goal.returns-in-Some
returns-in-Some c =
    let here : IsAt c.args.files.now c.in_ok-at.at c.args.name.now = search rules in
    ap (λ (l : List ℕ). Some l) c.as_slice.ensures ∙ sym c.in-Some.is ∙ sym (at_there c.args.files.now c.in_ok-at.at c.index-files-at.result c.args.name.now here)

pub returns-in-None : goal.returns-in-None
returns-in-None c =
    let here : IsAt c.args.files.now c.in_ok-at.at c.args.name.now = search rules in
    sym c.in-None.is ∙ sym (at_there c.args.files.now c.in_ok-at.at c.index-files-at.result c.args.name.now here)
