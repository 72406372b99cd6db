use Rattle.std.proofs.Common.{◌≡◌, ◌∙◌, List, None, true, subst, take}
use Rattle.std.proofs.lemmas.List.{take_all}
use Rattle.hx_journal.specs.declared.record.Record.{Record}
use Rattle.hx_book.specs.Books.{IsScheduled}
use Rattle.hx_book.specs.Resumable.{done_of}
use Rattle.hx_book.proofs.Walking.{walk_done, walk_few, walk_kept, walk_planned}
use Rattle.hx_book.proofs.progress.walk.Goals as goal

pub returns-then-not-branch-clause-never : goal.returns-then-not-branch-clause-never
returns-then-not-branch-clause-never g c = λ turn.
    let l = c.loop-index in
    let p = l.progress in
    absurd (walk_kept g.J.Job.of c.args.records.now l.index _ c.args.inputs p.partitions p.stage p.from p.flags.items c.loop-index-test.true c.requires.inputs l.invariant.scheduled turn (l.invariant.planned turn)
    (rw l.invariant.inputs at (c.in_ok-add.ensures.refused (cc c.if-not-branch.true))))

pub loop-index-preserved : goal.loop-index-preserved
loop-index-preserved g c =
    let l = c.loop-index in
    let p = l.progress in
    let q = c.add.new.self in
    let yes : c.in_ok-add.field-0 ≡ true = cc c.if-not-branch.false in
    let inputs : q.inputs ≡ c.args.inputs = c.in_ok-add.ensures.inputs yes ∙ l.invariant.inputs in
    record {
      scheduled = walk_done g.J.Job.of c.args.records.now l.index _ c.args.inputs p.partitions p.stage p.from p.flags.items c.loop-index-test.true c.requires.inputs l.invariant.scheduled
          q.partitions q.stage q.from q.flags.items
          (rw inputs at (c.in_ok-add.ensures.scheduled (done_of (take l.index c.args.records.now)) (rw l.invariant.inputs l.invariant.scheduled) yes));
      inputs = inputs;
      few = walk_few g.J.Job.of c.args.records.now l.index _ c.args.inputs p.partitions p.stage p.from p.flags.items c.loop-index-test.true c.requires.inputs l.invariant.scheduled
          q.partitions l.invariant.few (c.in_ok-add.ensures.plan yes) (λ no. ((c.in_ok-add.ensures.other yes no).0, tt));
      planned = λ turn. walk_planned g.J.Job.of c.args.records.now l.index _ c.args.inputs p.partitions p.stage p.from p.flags.items c.loop-index-test.true c.requires.inputs l.invariant.scheduled turn (l.invariant.planned turn)
          q.partitions q.stage (c.in_ok-add.ensures.plan yes) (c.in_ok-add.ensures.other yes);
    }

pub returns-clause-scheduled : goal.returns-clause-scheduled
returns-clause-scheduled g c =
    let l = c.loop-index in
    let p = l.progress in
    subst (λ (rs : List Record). IsScheduled c.args.inputs p.partitions (done_of rs) p.stage p.from p.flags.items None None) (take_all l.index c.args.records.now c.loop-index-test.false) l.invariant.scheduled
