use Rattle.std.proofs.Common.{List, String, Global, arith, map, string_bytes, ap, sym, ◌∙◌, ℕ}
use Rattle.std.proofs.Math.ListN.{get_or-map}
use Rattle.std.proofs.lemmas.List.{length-map}
use Rattle.hx_words.proofs.OptionWords.{head_option}
use Rattle.hx_words.proofs.options.option_at.Goals as goal

pub returns : goal.returns
returns c =
    let words = c.args.words.now in
    let text : String Global → List ℕ = λ word. string_bytes word in
    let first = c.first-item.result in
    let here = ap text c.first-item.is ∙ sym (get_or-map text words 0 first) in
    head_option (map text words) (text first) c.name_of.result (omega (arith, c.in-len1-up.len_at_least, length-map words text)) here (rw c.as_str.ensures.value at c.name_of.ensures)
