use Rattle.std.proofs.Common.{◌∙◌, ◌<◌, All, refl, subst}
use Rattle.hx_align.specs.Plans.{pixels_of}
use Rattle.hx_base.specs.declared.settings.Settings.{Settings}
use Rattle.hx_book.specs.Books.{job_of}
use Rattle.hx_import.proofs.Cuts.{asked_orders, below_margin, cut_for, plan_undamaged}
use Rattle.hx_import.proofs.tasks.cutting.read_cut.Goals as goal

pub returns-in-Err-Damaged-clause-cause : goal.returns-in-Err-Damaged-clause-cause
returns-in-Err-Damaged-clause-cause g c = λ t. rw c.damaged.ensures (λ p.
    plan_undamaged (job_of g.J.Job.of) c.args.bytes.now c.in-Err-Damaged.place c.in-Err-Damaged.field-0 c.in-Err-Damaged.field-0-is (c.requires.file p) c.in-Err-Damaged.ensures)

pub returns-then-not-are_asked-clause-cause : goal.returns-then-not-are_asked-clause-cause
returns-then-not-are_asked-clause-cause g c = λ t. rw c.damaged-then-not-are_asked.ensures (λ p.
    let asked = asked_orders g.J.Job.of c.args.settings.now c.requires.settings c.requires.fits c.args.bytes.now c.in-Ok.plan (c.requires.file p) c.in-Ok.ensures in
    let no = c.if-not-are_asked.ensures.1 (rw (← c.pixels.ensures) at asked) in
    cc no)

pub returns-clause-cut : goal.returns-clause-cut
returns-clause-cut g c =
    let asked = rw c.pixels.ensures at (c.if-not-are_asked.ensures.0 refl) in
    let below = below_margin c.args.settings.now (pixels_of c.in-Ok.plan) asked in
    cut_for g.J.Job.of c.args.bytes.now c.in-Ok.plan c.in_ok-tree.tree (c.in_ok-tree.ensures ∙ c.pixels-2.ensures)
    (subst (λ (s : Settings). All (λ part. part.order < s.margin_order) (pixels_of c.in-Ok.plan)) c.requires.settings below) c.in-Ok.ensures c.requires.file
