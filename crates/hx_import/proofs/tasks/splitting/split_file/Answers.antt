use Rattle.std.proofs.Common.{Err, Ok, rules, ◌≡◌}
use Rattle.hx_book.specs.Tasks.{task}
use Rattle.hx_import.proofs.Cuts.{split, split_refused}
use Rattle.hx_import.proofs.Placed.{as_counted, has_all, placed_there}
use Rattle.hx_import.proofs.tasks.splitting.split_file.Goals as goal

pub returns-in_err-counts-clause-cause : goal.returns-in_err-counts-clause-cause
returns-in_err-counts-clause-cause g c =
    let is : c.from_residual.result ≡ Err c.in_err-counts.field-0.0 = search rules in
    rw is (c.in_err-counts.ensures.cause (task 3 c.args.number))

pub returns-in-Err-clause-cause : goal.returns-in-Err-clause-cause
returns-in-Err-clause-cause g c = rw c.refusal_of.ensures
    (split_refused g.J.Job.of c.args.number c.args.name.now c.args.bytes.now c.args.map.now c.requires.input c.in_ok-counts.counts c.in_ok-counts.ensures.reads c.requires.map
    c.args.cut.now.plan c.args.cut.now.tree c.requires.cut c.in-Err.refusal c.in-Err.ensures)

pub returns-then-not-has_all-clause-cause : goal.returns-then-not-has_all-clause-cause
returns-then-not-has_all-clause-cause g c = rw c.damaged.ensures (λ p.
    let once = c.partitions_of_rows.ensures.each_once in
    let placed = placed_there once g.J.Job.of c.requires.fits c.args.number c.args.name.now c.args.bytes.now c.requires.input c.in_ok-counts.counts c.args.cut.now.plan c.args.cut.now.tree c.requires.cut c.in-Ok.file c.in-Ok.ensures in
    let same = as_counted once g.J.Job.of c.requires.fits c.args.number c.args.name.now c.args.bytes.now c.requires.input c.in_ok-counts.counts c.args.cut.now.plan c.args.cut.now.tree c.requires.cut c.in-Ok.file c.in-Ok.ensures p in
    let whole = c.has_all.ensures c.in_ok-counts.counts placed.0 c.in_ok-counts.ensures.reads (rw c.deref.ensures.value placed.1) in
    cc (whole.1 same, c.if-not-has_all.true))

pub returns-clause-value : goal.returns-clause-value
returns-clause-value g c =
    split g.J.Job.of c.args.number c.args.name.now c.args.bytes.now c.args.map.now c.requires.input c.in_ok-counts.counts c.in_ok-counts.ensures.reads c.requires.map
    c.args.cut.now.plan c.args.cut.now.tree c.requires.cut (Ok c.in-Ok.file) c.in-Ok.ensures

pub returns-clause-all : goal.returns-clause-all
returns-clause-all g c =
    let once = c.partitions_of_rows.ensures.each_once in
    let placed = placed_there once g.J.Job.of c.requires.fits c.args.number c.args.name.now c.args.bytes.now c.requires.input c.in_ok-counts.counts c.args.cut.now.plan c.args.cut.now.tree c.requires.cut c.in-Ok.file c.in-Ok.ensures in
    let whole = c.has_all.ensures c.in_ok-counts.counts placed.0 c.in_ok-counts.ensures.reads (rw c.deref.ensures.value placed.1) in
    has_all once g.J.Job.of c.requires.fits c.args.number c.args.name.now c.args.bytes.now c.requires.input c.in_ok-counts.counts c.args.cut.now.plan c.args.cut.now.tree c.requires.cut c.in-Ok.file c.in-Ok.ensures (whole.0 c.if-not-has_all.false)
