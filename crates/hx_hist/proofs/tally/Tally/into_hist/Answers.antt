use Rattle.std.proofs.Common.{◌≡◌, ◌∙◌, ◌<◌, ℕ, arith, get_or, length, sym, vec_len}
use Rattle.std.proofs.lemmas.Bool.{eqb-true, eqb-false}
use Rattle.std.proofs.lemmas.Result.{IfOk-weaker}
use Rattle.std.specs.List.{sum_by}
use Rattle.hx_hist.specs.Histograms.{count_at, total_of}
use Rattle.hx_hist.specs.Tallies.{count_among, total_among}
use Rattle.hx_hist.proofs.Tallies.{counts_of_hists, counts_of_table, total_of-pairs_of, total_of_hists, total_of_table}
use Rattle.hx_hist.proofs.tally.Tally.into_hist.Goals as goal

pub merge_all-requires-clause-total : goal.merge_all-requires-clause-total
merge_all-requires-clause-total c = omega (arith, total_of-pairs_of c.self.inside.table.items c.self.inside.hists.items, c.self.invariant.total)

pub hist_of_table-requires-clause-sum : goal.hist_of_table-requires-clause-sum
hist_of_table-requires-clause-sum c = rw c.deref.ensures.value (omega (arith, total_of-pairs_of c.self.inside.table.items c.self.inside.hists.items, c.self.invariant.total))

pub returns-then-is_empty-clause-counts : goal.returns-then-is_empty-clause-counts
returns-then-is_empty-clause-counts c =
    let tally = c.args.self in
    let kept = c.self.inside in
    let none : length kept.table.items ≡ 0 = omega (arith, eqb-true (vec_len kept.table) 0 (sym c.if-is_empty.ensures), kept.table.ok.0) in
    IfOk-weaker c.merge_all.result (λ hist. (p : ℕ) → count_at p hist.pairs ≡ count_among p kept.hists.items) (λ hist. (p : ℕ) → count_at p hist.pairs ≡ count_at p tally.pairs)
    (λ hist counts p. counts p ∙ counts_of_hists tally kept.order kept.table.items kept.hists.items c.self.view_is none p) c.merge_all.ensures.counts

pub returns-then-is_empty-clause-total : goal.returns-then-is_empty-clause-total
returns-then-is_empty-clause-total c =
    let tally = c.args.self in
    let kept = c.self.inside in
    let none : length kept.table.items ≡ 0 = omega (arith, eqb-true (vec_len kept.table) 0 (sym c.if-is_empty.ensures), kept.table.ok.0) in
    IfOk-weaker c.merge_all.result (λ hist. total_of hist.pairs ≡ total_among kept.hists.items) (λ hist. total_of hist.pairs ≡ total_of tally.pairs)
    (λ hist total. total ∙ total_of_hists tally kept.order kept.table.items kept.hists.items c.self.view_is none) c.merge_all.ensures.total

pub returns-else-is_empty-clause-counts : goal.returns-else-is_empty-clause-counts
returns-else-is_empty-clause-counts c =
    let tally = c.args.self in
    let kept = c.self.inside in
    let off = eqb-false (vec_len kept.table) 0 (sym c.if-is_empty.ensures) in
    let some : 0 < length kept.table.items = omega (arith, kept.table.ok.0) in
    IfOk-weaker c.hist_of_table.result (λ hist. (p : ℕ) → count_at p hist.pairs ≡ get_or kept.table.items p 0) (λ hist. (p : ℕ) → count_at p hist.pairs ≡ count_at p tally.pairs)
    (λ hist counts p. counts p ∙ counts_of_table tally kept.order kept.table.items kept.hists.items c.self.view_is (c.self.invariant.table_alone some) p) (rw c.deref.ensures.value at c.hist_of_table.ensures.counts)

pub returns-else-is_empty-clause-total : goal.returns-else-is_empty-clause-total
returns-else-is_empty-clause-total c =
    let tally = c.args.self in
    let kept = c.self.inside in
    let off = eqb-false (vec_len kept.table) 0 (sym c.if-is_empty.ensures) in
    let some : 0 < length kept.table.items = omega (arith, kept.table.ok.0) in
    IfOk-weaker c.hist_of_table.result (λ hist. total_of hist.pairs ≡ sum_by (λ n. n) kept.table.items) (λ hist. total_of hist.pairs ≡ total_of tally.pairs)
    (λ hist total. total ∙ total_of_table tally kept.order kept.table.items kept.hists.items c.self.view_is (c.self.invariant.table_alone some)) (rw c.deref.ensures.value at c.hist_of_table.ensures.total)
