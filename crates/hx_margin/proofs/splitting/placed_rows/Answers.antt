use Rattle.std.proofs.Common.{◌∙◌, ◌++◌, ◌≤◌, ℕ, List, Some, ap, arith, get_or, map, pos, refl, subst, sym}
use Rattle.std.proofs.lemmas.List.{get_or_default}
use Rattle.hx_base.specs.declared.row.Row.{Row}
use Rattle.hx_spill.specs.Splits.{placed_at}
use Rattle.hx_margin.specs.Beside.{AreBeside}
use Rattle.hx_margin.specs.Steps.{IsIn}
use Rattle.hx_margin.proofs.Placing.{first_order, is_in, none_placed, one_placed}
use Rattle.hx_margin.proofs.splitting.placed_rows.Goals as goal

no_row : Row
no_row = record { hp = 0; id = pos 0; x = pos 0; y = pos 0; z = pos 0 }

pub loop-row-init : goal.loop-row-init
loop-row-init c = none_placed c.args.tree.now c.args.margin_order c.args.rows.now _ _ _ refl c.new-placed.ensures.items

pub look_at-requires-clause-own : goal.look_at-requires-clause-own
unfolding no_row
look_at-requires-clause-own c =
    let tree = c.args.tree.now in
    let rows = c.args.rows.now in
    let i = c.loop-row.row-index in
    let row = get_or rows i no_row in
    let lt = c.loop-row-test.true in
    let low : c.args.margin_order ≤ 29 = omega arith in
    let holder = c.requires.part i no_row lt in
    let is = is_in tree c.args.margin_order low c.requires.orders c.args.part c.order_holding-order.result row holder
    (λ part there. first_order tree c.args.part c.order_holding-order.result c.first_hp.result rows row i c.requires.part c.first_hp.ensures.first c.order_holding-order.ensures.order lt part there) in
    subst (λ (n : ℕ). IsIn tree c.args.part c.order_holding-order.result c.args.margin_order n) (sym c.at_order-pixel.ensures.value) is

pub loop-row-preserved : goal.loop-row-preserved
unfolding no_row
loop-row-preserved c =
    let tree = c.args.tree.now in
    let rows = c.args.rows.now in
    let m = c.args.margin_order in
    let i = c.loop-row.row-index in
    let row = get_or rows i no_row in
    let lt = c.loop-row-test.true in
    let low : c.args.margin_order ≤ 29 = omega arith in
    let at = c.at_order-pixel.ensures.value in
    let looked = c.in_ok-look_at.ensures in
    let beside = subst (λ (n : ℕ). AreBeside tree m n c.look_at.new.looked.numbers.items) at looked.beside in
    one_placed tree m low c.requires.orders rows i row c.loop-row.looked.pixel c.look_at.new.looked.pixel c.loop-row.looked.numbers.items c.look_at.new.looked.numbers.items c.loop-row.placed.items c.place_row.new.placed.items c.loop-row.invariant lt
    (get_or_default rows i no_row row lt) (c.requires.good i no_row lt) (looked.pixel ∙ ap (λ (n : ℕ). Some n) at) beside
    (c.in_ok-place_row.ensures ∙ ap (λ (xs : List ℕ). c.loop-row.placed.items ++ map (λ number. placed_at number row) xs) c.deref.ensures.value)
