use Rattle.std.proofs.Common.{ℕ, List, inl, subst}
use Rattle.hx_outside.specs.Folders.{Folder}
use Rattle.hx_publish.specs.Publishing.{HasInEach}
use Rattle.hx_xmatch.specs.Files.{IsEitherLoadRefusal, MayRefuseFiles}
use Rattle.hx_xmatch.specs.Outcomes.{IsMatch, IsMatchOf}
use Rattle.hx_xmatch.specs.Output.{IsTextOf, output_file, temporary_file}
use Rattle.hx_xmatch.specs.Tested.{IsTestRefusal, MayRefuseTest}
use Rattle.hx_xmatch.specs.declared.writing.Counts.{Counts}
use Rattle.hx_xmatch.proofs.Composed.{before_after, if_err_more, if_ok_more, leaves_after, leaves_as, on_err, same_is_but}
use Rattle.hx_xmatch.proofs.matching.match_pair.Goals as goal

pub returns-in_err-check_coverage-clause-whole : goal.returns-in_err-check_coverage-clause-whole
returns-in_err-check_coverage-clause-whole g c tells = inl (same_is_but g.S.Store.disk _ tells _ _ (c.check_coverage.ensures.unchanged tells))

pub returns-clause-whole : goal.returns-clause-whole
returns-clause-whole g c tells =
    let d = g.S.Store.disk in
    let run = c.check_coverage.ensures.unchanged tells in
    let pair = c.args.pair.now in
    leaves_after d _ tells _ _ c.args.output.now (IsMatchOf (d.reads c.args.store.now) pair.left pair.right pair.r2) run
    (leaves_as d _ run.told _ c.args.output.now _ (IsMatchOf (d.reads c.args.store.now) pair.left pair.right pair.r2)
    (λ text is. (
      is.0,
      is.1,
      record {
        covered = c.in_ok-check_coverage.ensures.covered tells;
        lines = subst (λ (h : Folder). IsTextOf h pair.left pair.right pair.r2 text is.0 is.1) run.seen is.2;
      },
    ))
    (c.write_output.ensures.whole run.told))

pub returns-clause-before : goal.returns-clause-before
returns-clause-before g c tells =
    let d = g.S.Store.disk in
    let run = c.check_coverage.ensures.unchanged tells in
    before_after d _ tells _ _ (temporary_file c.args.output.now) c.write_output.result run c.check_coverage.ensures.cause.later (c.write_output.ensures.before run.told)

pub returns-in_err-check_coverage-clause-before : goal.returns-in_err-check_coverage-clause-before
returns-in_err-check_coverage-clause-before g c tells = on_err _ _ (inl (same_is_but g.S.Store.disk _ tells _ _ (c.check_coverage.ensures.unchanged tells)))

pub returns-clause-written : goal.returns-clause-written
returns-clause-written g c tells =
    let d = g.S.Store.disk in
    let run = c.check_coverage.ensures.unchanged tells in
    let pair = c.args.pair.now in
    let name = output_file c.args.output.now in
    if_ok_more c.write_output.result
    (λ (counts : Counts). (text : List ℕ) × HasInEach d c.write_output.new.store name text × IsTextOf (d.reads c.check_coverage.new.store) pair.left pair.right pair.r2 text counts.rows counts.matched)
    (λ (counts : Counts). (text : List ℕ) × HasInEach d c.write_output.new.store name text × IsMatch (d.reads c.args.store.now) pair.left pair.right pair.r2 text counts.rows counts.matched)
    (λ counts h. (
      h.0,
      h.1,
      record {
        covered = c.in_ok-check_coverage.ensures.covered tells;
        lines = subst (λ (f : Folder). IsTextOf f pair.left pair.right pair.r2 h.0 counts.rows counts.matched) run.seen h.2;
      },
    ))
    (c.write_output.ensures.written run.told)

pub returns-clause-refused : goal.returns-clause-refused
returns-clause-refused g c tells =
    let d = g.S.Store.disk in
    let run = c.check_coverage.ensures.unchanged tells in
    let pair = c.args.pair.now in
    if_err_more c.write_output.result (IsEitherLoadRefusal (d.reads c.check_coverage.new.store) pair.left pair.right) (IsTestRefusal (d.reads c.args.store.now) pair.left pair.right pair.r2)
    (λ given h. inl (subst (λ (f : Folder). IsEitherLoadRefusal f pair.left pair.right given) run.seen h))
    (c.write_output.ensures.refused run.told)

pub returns-clause-kinds : goal.returns-clause-kinds
returns-clause-kinds g c = if_err_more c.write_output.result MayRefuseFiles MayRefuseTest (λ given h. inl h) c.write_output.ensures.kinds
