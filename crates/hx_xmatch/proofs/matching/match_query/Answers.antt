use Rattle.std.proofs.Common.{◌≡◌, ℕ, List, Err, inl, inr, rules, subst}
use Rattle.hx_outside.specs.Folders.{Folder}
use Rattle.hx_publish.specs.Publishing.{HasInEach}
use Rattle.hx_xmatch.specs.Outcomes.{IsAsked, IsAskedText, IsMatch, IsMatchRefusal, MayRefuseMatch, radius2}
use Rattle.hx_xmatch.specs.Output.{output_file, temporary_file}
use Rattle.hx_xmatch.specs.Tested.{IsTestRefusal, MayRefuseTest}
use Rattle.hx_xmatch.specs.declared.writing.Counts.{Counts}
use Rattle.hx_xmatch.proofs.Composed.{before_after, if_err_more, if_ok_more, leaves_after, leaves_as, on_err, same_is_but}
use Rattle.hx_xmatch.proofs.matching.match_query.Goals as goal

pub returns-in_err-pair-clause-whole : goal.returns-in_err-pair-clause-whole
returns-in_err-pair-clause-whole g c tells = inl (same_is_but g.S.Store.disk _ tells _ _ (c.open_pair.ensures.unchanged tells))

pub returns-clause-whole : goal.returns-clause-whole
returns-clause-whole g c tells =
    let d = g.S.Store.disk in
    let run = c.open_pair.ensures.unchanged tells in
    let query = c.args.query.now in
    let pair = c.in_ok-pair.pair in
    let folder = d.reads c.args.store.now in
    let (opened, r2) = c.in_ok-pair.ensures.opened tells in
    leaves_after d _ tells _ _ query.output (IsAskedText folder query) run
    (leaves_as d _ run.told _ query.output _ (IsAskedText folder query)
    (λ text is. (
      is.0,
      is.1,
      record {
        left = pair.left;
        right = pair.right;
        opened = opened;
        is = subst (λ (h : Folder). IsMatch h pair.left pair.right (radius2 query) text is.0 is.1) run.seen
            (subst (λ (n : ℕ). IsMatch (d.reads c.open_pair.new.store) pair.left pair.right n text is.0 is.1) r2 is.2);
      },
    ))
    (c.match_pair.ensures.whole run.told))

pub returns-clause-before : goal.returns-clause-before
returns-clause-before g c tells =
    let d = g.S.Store.disk in
    let run = c.open_pair.ensures.unchanged tells in
    before_after d _ tells _ _ (temporary_file c.args.query.now.output) c.match_pair.result run c.open_pair.ensures.cause.later (c.match_pair.ensures.before run.told)

pub returns-in_err-pair-clause-before : goal.returns-in_err-pair-clause-before
returns-in_err-pair-clause-before g c tells = on_err _ _ (inl (same_is_but g.S.Store.disk _ tells _ _ (c.open_pair.ensures.unchanged tells)))

pub returns-clause-written : goal.returns-clause-written
returns-clause-written g c tells =
    let d = g.S.Store.disk in
    let run = c.open_pair.ensures.unchanged tells in
    let query = c.args.query.now in
    let pair = c.in_ok-pair.pair in
    let folder = d.reads c.args.store.now in
    let (opened, r2) = c.in_ok-pair.ensures.opened tells in
    if_ok_more c.match_pair.result
    (λ (counts : Counts). (text : List ℕ) × HasInEach d c.match_pair.new.store (output_file query.output) text × IsMatch (d.reads c.open_pair.new.store) pair.left pair.right pair.r2 text counts.rows counts.matched)
    (λ (counts : Counts). (text : List ℕ) × HasInEach d c.match_pair.new.store (output_file query.output) text × IsAsked folder query text counts.rows counts.matched)
    (λ counts h. (
      h.0,
      h.1,
      record {
        left = pair.left;
        right = pair.right;
        opened = opened;
        is = subst (λ (f : Folder). IsMatch f pair.left pair.right (radius2 query) h.0 counts.rows counts.matched) run.seen
            (subst (λ (n : ℕ). IsMatch (d.reads c.open_pair.new.store) pair.left pair.right n h.0 counts.rows counts.matched) r2 h.2);
      },
    ))
    (c.match_pair.ensures.written run.told)

pub returns-clause-refused : goal.returns-clause-refused
returns-clause-refused g c tells =
    let d = g.S.Store.disk in
    let run = c.open_pair.ensures.unchanged tells in
    let query = c.args.query.now in
    let pair = c.in_ok-pair.pair in
    let folder = d.reads c.args.store.now in
    let (opened, r2) = c.in_ok-pair.ensures.opened tells in
    if_err_more c.match_pair.result (IsTestRefusal (d.reads c.open_pair.new.store) pair.left pair.right pair.r2) (IsMatchRefusal folder query)
    (λ given h. inr (
      pair.left,
      pair.right,
      opened,
      subst (λ (f : Folder). IsTestRefusal f pair.left pair.right (radius2 query) given) run.seen
          (subst (λ (n : ℕ). IsTestRefusal (d.reads c.open_pair.new.store) pair.left pair.right n given) r2 h),
    ))
    (c.match_pair.ensures.refused run.told)

pub returns-clause-kinds : goal.returns-clause-kinds
returns-clause-kinds g c = if_err_more c.match_pair.result MayRefuseTest MayRefuseMatch (λ given h. inr (inr h)) c.match_pair.ensures.kinds

pub returns-in_err-pair-clause-refused : goal.returns-in_err-pair-clause-refused
returns-in_err-pair-clause-refused g c tells =
    let is : c.from_residual.result ≡ Err c.in_err-pair.field-0.0 = search rules in
    rw is (inl (c.in_err-pair.ensures.refused tells))
