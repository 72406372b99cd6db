use Rattle.std.proofs.Common.{ℕ, get_or, take, sym, subst}
use Rattle.std.proofs.lemmas.List.{take_all}
use Rattle.std.proofs.lemmas.List.Elements.{All-more, All-same, All-weaker}
use Rattle.hx_base.specs.Pixels.{pixel_of}
use Rattle.hx_base.specs.declared.row.Row.{Row}
use Rattle.hx_xmatch.specs.Runs.{HasAround}
use Rattle.hx_xmatch.proofs.Around.{around_more}
use Rattle.hx_xmatch.proofs.Texts.{no_row}
use Rattle.hx_xmatch.proofs.runs.around_all.Goals as goal

pub loop-row-preserved : goal.loop-row-preserved
loop-row-preserved c =
    let tree = c.args.tree.now in
    let m = c.args.margin_order in
    let rows = c.args.rows.now in
    let i = c.loop-row.row-index in
    let old = c.loop-row.indices.items in
    let new = c.add_next.new.indices.items in
    let has : HasAround tree m (pixel_of m (get_or rows i no_row).hp) new = subst (λ (n : ℕ). HasAround tree m n new) c.at_order-pixel.ensures.value c.in_ok-add_next.ensures.around in
    record {
      indices = c.in_ok-add_next.ensures.indices;
      last = c.in_ok-add_next.ensures.around;
      around = All-more (λ (row : Row). HasAround tree m (pixel_of m row.hp) new) rows i no_row c.loop-row-test.true
          (All-weaker (λ (row : Row). HasAround tree m (pixel_of m row.hp) old) (λ (row : Row). HasAround tree m (pixel_of m row.hp) new)
          (λ row h. around_more tree m (pixel_of m row.hp) old new c.in_ok-add_next.ensures.kept h) (take i rows) c.loop-row.invariant.around)
          has;
    }

pub returns-clause-around : goal.returns-clause-around
returns-clause-around c =
    let P = λ (row : Row). HasAround c.args.tree.now c.args.margin_order (pixel_of c.args.margin_order row.hp) c.loop-row.indices.items in
    All-same P c.args.rows.now (take c.loop-row.row-index c.args.rows.now) (sym (take_all c.loop-row.row-index c.args.rows.now c.loop-row-test.false)) c.loop-row.invariant.around
