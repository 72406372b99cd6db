use Rattle.std.proofs.Common.{◌≡◌, map, string_bytes}
use Rattle.hx_words.specs.Requests.{name_before, word_from_end}
use Rattle.hx_cli.proofs.OverFolders.{clean_answers, last_word}
use Rattle.hx_cli.proofs.commands.act.Goals as goal

pub returns-in-Clean : goal.returns-in-Clean
returns-in-Clean g c =
    let words = map string_bytes c.args.words.now in
    let names = map g.Src.Source.source.label c.args.inputs.items in
    let same : word_from_end words 1 ≡ name_before words names = last_word words (name_before words names) (rw c.in-Clean.is at c.requires.means) in
    let e = c.clean_folder-answer.ensures in
    rw c.in-Clean.is (clean_answers g.Src.Source.source g.S.Store.disk c.args.inputs.items (name_before words names) c.args.store c.clean_folder-answer.new.store c.clean_folder-answer.result
    e.later (rw same at e.text) (rw same at e.first) (rw same at e.leaves) (rw same at e.cause))
