use Rattle.std.proofs.Common.{◌≡◌, ◌+◌, ◌*◌, ◌^◌, ◌<◌, ℕ, List, arith, get_or, subst}
use Rattle.std.proofs.lemmas.List.{take_all}
use Rattle.hx_base.specs.Pixels.{count_in}
use Rattle.hx_base.specs.declared.row.Row.{Row}
use Rattle.hx_hist.proofs.Tables.{counted_past}
use Rattle.hx_hist.proofs.counting.count_into.Goals as goal

pub returns-clause-counts : goal.returns-clause-counts
returns-clause-counts c =
    let order = c.args.order in
    let old = c.args.table.now in
    let new = c.loop-row.table in
    let Counted : List Row → Type 0 = λ rows. (p : ℕ) → p < 12 * 4 ^ order → get_or new p 0 ≡ get_or old p 0 + count_in (record { order = order; number = p }) rows in
    let counts = subst Counted (take_all c.loop-row.row-index c.args.rows.now (omega arith)) c.loop-row.invariant.counts in
    counted_past order c.args.rows.now old new c.requires.order c.requires.good c.requires.length c.loop-row.invariant.length counts
