use Rattle.std.proofs.Common.{◌∙◌, List, ap, inr, subst, sym, ℕ}
use Rattle.hx_base.specs.declared.refusal.JobFile.TheVariants as job_file
use Rattle.hx_base.specs.declared.row.Row.{Row}
use Rattle.hx_base.specs.declared.settings.Settings.{Settings}
use Rattle.hx_spill.specs.Values.{IsMarginSplitFile}
use Rattle.hx_import.specs.Made.{damaged}
use Rattle.hx_import.proofs.Margined.{all_contained, ascending, margin_split, no_fault}
use Rattle.hx_import.proofs.tasks.margins.margin_split_file.Goals as goal

pub returns-then-not-contains_all-clause-cause : goal.returns-then-not-contains_all-clause-cause
returns-then-not-contains_all-clause-cause g c = λ t. rw c.damaged.ensures (λ p.
    let all = all_contained g.J.Job.of c.args.number c.args.part c.args.bytes.now c.in_ok-rows.rows.items c.in_ok-rows.ensures.rows c.requires.file c.args.cut.now.plan c.args.cut.now.tree c.requires.cut c.requires.part p in
    let no = c.if-not-contains_all.ensures.1 (rw (← c.deref.ensures.value) at all) in
    cc no)

pub returns-then-not-contains_all-clause-place : goal.returns-then-not-contains_all-clause-place
returns-then-not-contains_all-clause-place g c =
    inr (c.damaged.ensures ∙ ap (damaged (job_file.Part c.args.number)) (sym (no_fault c.args.bytes.now c.in_ok-rows.rows.items c.in_ok-rows.ensures.rows)))

pub returns-then-not-ascend-clause-place : goal.returns-then-not-ascend-clause-place
returns-then-not-ascend-clause-place g c =
    inr (c.damaged-then-not-ascend.ensures ∙ ap (damaged (job_file.Part c.args.number)) (sym (no_fault c.args.bytes.now c.in_ok-rows.rows.items c.in_ok-rows.ensures.rows)))

pub returns-then-not-ascend-clause-cause : goal.returns-then-not-ascend-clause-cause
returns-then-not-ascend-clause-cause g c = λ t. rw c.damaged-then-not-ascend.ensures (λ p.
    let sorted = ascending g.J.Job.of c.args.number c.args.part c.args.bytes.now c.in_ok-rows.rows.items c.in_ok-rows.ensures.rows c.requires.file c.args.cut.now.plan c.args.cut.now.tree c.requires.cut c.requires.part p in
    let no = c.if-not-ascend.ensures.1 (rw (← c.deref-2.ensures.value) at sorted) in
    cc no)

pub returns-clause-value : goal.returns-clause-value
returns-clause-value g c =
    let made = c.in_ok-file.ensures in
    let order = ap (λ (s : Settings). s.margin_order) c.requires.settings in
    margin_split g.J.Job.of c.args.number c.args.part c.args.bytes.now c.in_ok-rows.rows.items c.in_ok-rows.ensures.rows c.requires.file c.args.cut.now.plan c.args.cut.now.tree c.requires.cut c.requires.part c.in_ok-file.file.items
    (subst (λ (m : ℕ). IsMarginSplitFile c.args.cut.now.tree m c.in_ok-rows.rows.items c.in_ok-file.file.items) order (subst (λ (rs : List Row). IsMarginSplitFile c.args.cut.now.tree c.args.settings.now.margin_order rs c.in_ok-file.file.items) c.deref-3.ensures.value made))
