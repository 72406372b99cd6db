use Rattle.std.proofs.Common.{◌≤◌, ◌≡◌, List, arith, map, ℕ}
use Rattle.std.specs.List.{flat_map}
use Rattle.std.proofs.lemmas.Result.{IfErr-weaker, IfOk-weaker}
use Rattle.hx_align.specs.Plans.{IsPlanOf, totals_of}
use Rattle.hx_align.specs.declared.plan.PlanRow.{PlanRow}
use Rattle.hx_cli.proofs.Answered.{turn_of_cut}
use Rattle.hx_cli.proofs.FirstRefusals.{later_first}
use Rattle.hx_cli.proofs.Planned.{cut_of_rows, plan_of_rows, shows_weaker}
use Rattle.hx_align.specs.Refusals.{IsCutCause, IsCutRefusal}
use Rattle.hx_inputs.specs.Inputs.{AreRows, IsAfterRows, bad_input}
use Rattle.hx_cli.specs.FirstRefusal.{IsPlanRefusal}
use Rattle.hx_cli.specs.Plans.{IsPlanText, partition_line}
use Rattle.hx_base.specs.declared.row.Row.{Row}
use Rattle.hx_cli.proofs.commands.plan.Goals as goal

pub returns-clause-text : goal.returns-clause-text
returns-clause-text g c = λ (bytes : List (List ℕ)). λ tell.
    let names = map g.Src.Source.source.label c.args.inputs.now.items in
    let hist = c.in_ok-counts.counts in
    let lowest = c.args.lowest in
    let highest = c.args.highest in
    let threshold = c.args.threshold in
    let within : highest ≤ 29 = omega (arith, c.requires.request.in_range) in
    let read = c.in_ok-counts.ensures.counts bytes tell in
    IfOk-weaker c.plan_text.result
    (λ text. (plan : List PlanRow) × IsPlanOf (totals_of hist) lowest highest threshold plan × (text.items ≡ flat_map (λ row. partition_line row.pixel row.count) plan))
    (λ text. (rows : List Row) × AreRows names bytes rows × IsPlanText lowest highest threshold rows text.items)
    (λ text made. (read.0, read.1, plan_of_rows hist highest read.0 c.in_ok-counts.ensures.order within read.2 lowest threshold text.items made)) c.plan_text.ensures.text

pub returns-clause-first : goal.returns-clause-first
returns-clause-first g c = λ (bytes : List (List ℕ)). λ tell.
    let names = map g.Src.Source.source.label c.args.inputs.now.items in
    let hist = c.in_ok-counts.counts in
    let lowest = c.args.lowest in
    let highest = c.args.highest in
    let threshold = c.args.threshold in
    let within : highest ≤ 29 = omega (arith, c.requires.request.in_range) in
    let read = c.in_ok-counts.ensures.counts bytes tell in
    later_first (bad_input 0 names bytes) (IsPlanRefusal lowest highest threshold names bytes) c.plan_text.result (c.in_ok-counts.ensures.first bytes tell)
    (shows_weaker (IsCutRefusal (totals_of hist) lowest highest threshold) (IsPlanRefusal lowest highest threshold names bytes) c.plan_text.result
    (λ first cut. (read.0, read.1, cut_of_rows hist highest read.0 c.in_ok-counts.ensures.order within read.2 lowest threshold first cut)) c.plan_text.ensures.first)

pub returns-clause-in_turn : goal.returns-clause-in_turn
returns-clause-in_turn g c = λ (bytes : List (List ℕ)). λ tell.
    let names = map g.Src.Source.source.label c.args.inputs.now.items in
    IfErr-weaker c.plan_text.result (IsCutCause c.args.threshold) (IsAfterRows names bytes) (turn_of_cut c.args.threshold names bytes) c.plan_text.ensures.cause
