use Rattle.std.proofs.Common.{map, string_bytes}
use Rattle.hx_words.specs.Requests.{word_from_end}
use Rattle.hx_words.specs.Words.{Match}
use Rattle.hx_cli.proofs.OverFolders.{idle_answers, match_answers}
use Rattle.hx_cli.proofs.folders.match_catalogues.Goals as goal

pub returns-in-Err : goal.returns-in-Err
returns-in-Err g c =
    let words = map string_bytes c.args.words.now in
    idle_answers g.Src.Source.source g.S.Store.disk c.args.inputs.items (Match (word_from_end words 4) (word_from_end words 3) c.args.radius (word_from_end words 1)) c.args.store

pub returns : goal.returns
returns g c =
    let words = map string_bytes c.args.words.now in
    let done = c.match_one-refusal.result in
    let e = c.match_one-refusal.ensures in
    let asked = c.in-Ok.ensures.query in
    match_answers g.Src.Source.source g.S.Store.disk c.args.inputs.items (word_from_end words 4) (word_from_end words 3) c.args.radius (word_from_end words 1) c.args.store done.store
    done.refusal done.rows done.matched c.text_or-answer.result e.later (rw asked at e.changes) (rw asked at e.whole) (rw asked at e.before) (rw asked at e.written) (rw asked at e.rows) (rw asked at e.matched)
    (rw asked at e.refused) e.kinds e.failed (rw asked at e.absent) (rw asked at e.exact) (rw (c.matched_line-line.ensures, c.word_at.ensures, c.word_at-2.ensures) at c.text_or-answer.ensures)
