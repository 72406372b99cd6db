use Rattle.std.proofs.Common.{ℕ, List, subst}
use Rattle.hx_publish.specs.Publishing.{HasInEach}
use Rattle.hx_xmatch.specs.MatchText.{match_text}
use Rattle.hx_xmatch.specs.Outcomes.{IsAskedText, radius2}
use Rattle.hx_xmatch.specs.Output.{output_file}
use Rattle.hx_xmatch.proofs.AbsentLemmas.{absent_first, opened_there}
use Rattle.hx_xmatch.proofs.Composed.{leaves_both, leaves_that}
use Rattle.hx_xmatch.proofs.OutputNames.{names_apart}
use Rattle.hx_xmatch.proofs.matching.match_one.Goals as goal

pub returns-in-Ok-clause-changes : goal.returns-in-Ok-clause-changes
returns-in-Ok-clause-changes g c tells = leaves_both g.S.Store.disk _ tells _ c.args.query.output (IsAskedText (g.S.Store.disk.reads c.args.store) c.args.query) (c.match_query.ensures.whole tells)

pub returns-clause-changes : goal.returns-clause-changes
returns-clause-changes g c tells = leaves_both g.S.Store.disk _ tells _ c.args.query.output (IsAskedText (g.S.Store.disk.reads c.args.store) c.args.query) (c.match_query.ensures.whole tells)

pub returns-in-Ok-clause-whole : goal.returns-in-Ok-clause-whole
returns-in-Ok-clause-whole g c tells = λ left right finished.
    let d = g.S.Store.disk in
    let folder = d.reads c.args.store in
    let query = c.args.query in
    let now = d.reads_now c.args.store tells in
    leaves_that d _ tells _ query.output (match_text (radius2 query) right left) (IsAskedText folder query) (names_apart query.output)
    (λ text is. (c.finished_catalogues_are_matched.ensures.text folder query finished.left_settings finished.right_settings left right (finished.each_left folder now) (finished.each_right folder now) text is.0 is.1 is.2).0)
    (c.match_query.ensures.whole tells)

pub returns-clause-whole : goal.returns-clause-whole
returns-clause-whole g c tells = λ left right finished.
    let d = g.S.Store.disk in
    let folder = d.reads c.args.store in
    let query = c.args.query in
    let now = d.reads_now c.args.store tells in
    leaves_that d _ tells _ query.output (match_text (radius2 query) right left) (IsAskedText folder query) (names_apart query.output)
    (λ text is. (c.finished_catalogues_are_matched.ensures.text folder query finished.left_settings finished.right_settings left right (finished.each_left folder now) (finished.each_right folder now) text is.0 is.1 is.2).0)
    (c.match_query.ensures.whole tells)

pub returns-in-Ok-clause-written : goal.returns-in-Ok-clause-written
returns-in-Ok-clause-written g c tells = λ left right finished none.
    let d = g.S.Store.disk in
    let folder = d.reads c.args.store in
    let query = c.args.query in
    let now = d.reads_now c.args.store tells in
    let (text, has, asked) = c.in-Ok.ensures.written tells in
    subst (λ (t : List ℕ). HasInEach d c.match_query.new.store (output_file query.output) t)
    (c.finished_catalogues_are_matched.ensures.text folder query finished.left_settings finished.right_settings left right (finished.each_left folder now) (finished.each_right folder now) text _ _ asked).0 has

pub returns-in-Ok-clause-rows : goal.returns-in-Ok-clause-rows
returns-in-Ok-clause-rows g c tells = λ left right finished none.
    let folder = g.S.Store.disk.reads c.args.store in
    let now = g.S.Store.disk.reads_now c.args.store tells in
    let (text, has, asked) = c.in-Ok.ensures.written tells in
    (c.finished_catalogues_are_matched.ensures.text folder c.args.query finished.left_settings finished.right_settings left right (finished.each_left folder now) (finished.each_right folder now) text _ _ asked).1

pub returns-in-Ok-clause-matched : goal.returns-in-Ok-clause-matched
returns-in-Ok-clause-matched g c tells = λ left right finished none.
    let folder = g.S.Store.disk.reads c.args.store in
    let now = g.S.Store.disk.reads_now c.args.store tells in
    let (text, has, asked) = c.in-Ok.ensures.written tells in
    (c.finished_catalogues_are_matched.ensures.text folder c.args.query finished.left_settings finished.right_settings left right (finished.each_left folder now) (finished.each_right folder now) text _ _ asked).2

pub returns-in-Ok-clause-absent : goal.returns-in-Ok-clause-absent
returns-in-Ok-clause-absent g c tells = λ first absent.
    let (text, has, asked) = c.in-Ok.ensures.written tells in
    absurd (opened_there (g.S.Store.disk.reads c.args.store) c.args.query asked.left asked.right first asked.opened absent)

pub returns-clause-absent : goal.returns-clause-absent
returns-clause-absent g c tells = λ first absent. absent_first (g.S.Store.disk.reads c.args.store) c.args.query _ first absent (c.in-Err.ensures.refused tells)

pub returns-in-Ok-clause-exact : goal.returns-in-Ok-clause-exact
returns-in-Ok-clause-exact g c tells = λ left right finished.
    let folder = g.S.Store.disk.reads c.args.store in
    let now = g.S.Store.disk.reads_now c.args.store tells in
    let (text, has, asked) = c.in-Ok.ensures.written tells in
    c.finished_catalogues_are_matched.ensures.covered folder c.args.query finished.left_settings finished.right_settings left right (finished.each_left folder now) (finished.each_right folder now) finished.parts finished.listed text _ _ asked

pub returns-clause-exact : goal.returns-clause-exact
returns-clause-exact g c tells = λ left right finished.
    let folder = g.S.Store.disk.reads c.args.store in
    let now = g.S.Store.disk.reads_now c.args.store tells in
    c.finished_catalogues_are_matched.ensures.refused folder c.args.query finished.left_settings finished.right_settings left right (finished.each_left folder now) (finished.each_right folder now) finished.parts finished.listed _ (c.in-Err.ensures.refused tells)
