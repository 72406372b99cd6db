use Rattle.std.proofs.Common.{◌≡◌, ◌<◌, ℕ, ap, arith, length, sym, vec_len}
use Rattle.std.proofs.lemmas.Bool.{eqb-true, eqb-false}
use Rattle.hx_base.specs.Pixels.{count_in}
use Rattle.hx_hist.proofs.Tallies.{count_at-pairs_of, counts_are, more_counts, more_hists, order_is, total_is, total_of-pairs_of, written_back}
use Rattle.hx_hist.proofs.tally.Tally.add_rows.Goals as goal

pub push_merged-requires-clause-room : goal.push_merged-requires-clause-room
push_merged-requires-clause-room c = omega (arith, total_is c.args.self.now c.self.inside.order c.self.inside.table.items c.self.inside.hists.items c.self.view_is, c.in_ok-hist.ensures.total, c.requires.room)

pub invariant_of-self : goal.invariant_of-self
invariant_of-self c =
    let kept = c.self.inside in
    let none : length kept.table.items ≡ 0 = omega (arith, eqb-true (vec_len kept.table) 0 (sym c.if-is_empty.ensures), kept.table.ok.0) in
    more_hists c.args.self.now kept.order kept.table.items kept.hists.items c.self.view_is c.self.invariant none c.push_merged.new.hists.items (length c.args.rows.now) (rw c.in_ok-hist.ensures.order at c.push_merged.ensures.orders)
    (omega (arith, c.push_merged.ensures.most, c.in_ok-hist.ensures.total)) c.requires.room

pub invariant_of-self-in_err-push_merged : goal.invariant_of-self-in_err-push_merged
invariant_of-self-in_err-push_merged c =
    let kept = c.self.inside in
    let none : length kept.table.items ≡ 0 = omega (arith, eqb-true (vec_len kept.table) 0 (sym c.if-is_empty.ensures), kept.table.ok.0) in
    more_hists c.args.self.now kept.order kept.table.items kept.hists.items c.self.view_is c.self.invariant none c.push_merged.new.hists.items (length c.args.rows.now) (rw c.in_ok-hist.ensures.order at c.push_merged.ensures.orders)
    (omega (arith, c.push_merged.ensures.most, c.in_ok-hist.ensures.total)) c.requires.room

pub count_into-requires-clause-room : goal.count_into-requires-clause-room
count_into-requires-clause-room c =
    rw c.deref_mut.ensures.value (omega (arith, total_is c.args.self.now c.self.inside.order c.self.inside.table.items c.self.inside.hists.items c.self.view_is, c.requires.room))

pub invariant_of-self-else-is_empty : goal.invariant_of-self-else-is_empty
invariant_of-self-else-is_empty c =
    let kept = c.self.inside in
    let off = eqb-false (vec_len kept.table) 0 (sym c.if-is_empty.ensures) in
    let some : 0 < length kept.table.items = omega (arith, kept.table.ok.0) in
    let same = rw c.deref_mut.ensures.value at c.count_into.ensures.length in
    rw (written_back kept.table.len c.count_into.new.table kept.table.items kept.table.ok.0 same)
    (more_counts c.args.self.now kept.order kept.table.items kept.hists.items c.self.view_is c.self.invariant some c.count_into.new.table (length c.args.rows.now) same (rw c.deref_mut.ensures.value at c.count_into.ensures.sum) c.requires.room)

pub returns-in_ok-push_merged-clause-counts : goal.returns-in_ok-push_merged-clause-counts
returns-in_ok-push_merged-clause-counts c = λ p.
    let tally = c.args.self.now in
    let kept = c.self.inside in
    let new = count_at-pairs_of p kept.table.items c.push_merged.new.hists.items in
    let old = counts_are tally kept.order kept.table.items kept.hists.items c.self.view_is p in
    let order = ap (λ (k : ℕ). count_in (record { order = k; number = p }) c.args.rows.now) (order_is tally kept.order kept.table.items kept.hists.items c.self.view_is) in
    omega (arith, new, old, order, c.in_ok-push_merged.ensures.counts p, c.in_ok-hist.ensures.counts p)

pub returns-in_ok-push_merged-clause-total : goal.returns-in_ok-push_merged-clause-total
returns-in_ok-push_merged-clause-total c =
    let tally = c.args.self.now in
    let kept = c.self.inside in
    let new = total_of-pairs_of kept.table.items c.push_merged.new.hists.items in
    let old = total_is tally kept.order kept.table.items kept.hists.items c.self.view_is in
    omega (arith, new, old, c.in_ok-push_merged.ensures.total, c.in_ok-hist.ensures.total)

pub returns-else-is_empty-clause-counts : goal.returns-else-is_empty-clause-counts
returns-else-is_empty-clause-counts c = λ p.
    let tally = c.args.self.now in
    let kept = c.self.inside in
    let same = rw c.deref_mut.ensures.value at c.count_into.ensures.length in
    let new = count_at-pairs_of p c.count_into.new.table kept.hists.items in
    let old = counts_are tally kept.order kept.table.items kept.hists.items c.self.view_is p in
    let order = ap (λ (k : ℕ). count_in (record { order = k; number = p }) c.args.rows.now) (order_is tally kept.order kept.table.items kept.hists.items c.self.view_is) in
    let counts = rw c.deref_mut.ensures.value at c.count_into.ensures.counts p in
    rw (written_back kept.table.len c.count_into.new.table kept.table.items kept.table.ok.0 same) (omega (arith, new, old, order, counts))

pub returns-else-is_empty-clause-total : goal.returns-else-is_empty-clause-total
returns-else-is_empty-clause-total c =
    let tally = c.args.self.now in
    let kept = c.self.inside in
    let same = rw c.deref_mut.ensures.value at c.count_into.ensures.length in
    let new = total_of-pairs_of c.count_into.new.table kept.hists.items in
    let old = total_is tally kept.order kept.table.items kept.hists.items c.self.view_is in
    let sum = rw c.deref_mut.ensures.value at c.count_into.ensures.sum in
    rw (written_back kept.table.len c.count_into.new.table kept.table.items kept.table.ok.0 same) (omega (arith, new, old, sum))
