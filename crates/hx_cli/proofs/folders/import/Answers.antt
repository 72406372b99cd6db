use Rattle.std.proofs.Common.{◌≡◌, ◌+◌, length, map, rules, string_bytes}
use Rattle.hx_words.specs.Requests.{word_from_end}
use Rattle.hx_cli.proofs.OverFolders.{import_answers}
use Rattle.hx_cli.proofs.folders.import.Goals as goal

pub returns : goal.returns
returns g c =
    let done = c.import_one-refusal.result in
    let e = c.import_one-refusal.ensures in
    let place : c.len-place.result ≡ length c.args.inputs.items = search rules in
    import_answers g.Src.Source.source g.S.Store.disk c.args.inputs.items done.inputs.items c.args.store done.store
    c.args.cut.lowest c.args.cut.highest c.args.cut.threshold c.args.cut.margin_order (word_from_end (map string_bytes c.args.words.now) (length c.args.inputs.items + 1)) c.requires.short
    done.refusal done.rows done.partitions done.margin c.text_or-answer.result e.inputs e.faults (rw (c.in-Ok.ensures.settings, place) at e.others) (rw (c.in-Ok.ensures.settings, place) at e.whole) (rw (c.in-Ok.ensures.settings, place) at e.counts) (rw (c.in-Ok.ensures.settings, place) at e.folder) (rw (c.in-Ok.ensures.settings, place) at e.first)
    (rw (c.in-Ok.ensures.settings, place) at e.cause) (rw (c.import_line-line.ensures, c.word_at.ensures, place) at c.text_or-answer.ensures)
