use Rattle.std.proofs.Common.{◌≡◌, List, Ok, sym, subst}
use Rattle.std.proofs.lemmas.Result.{IfOk-weaker}
use Rattle.hx_spill.specs.Splits.{split_in}
use Rattle.hx_spill.specs.Values.{AreMarginSplit, IsMarginSplitFile}
use Rattle.hx_spill.specs.declared.split.Placed.{Placed}
use Rattle.hx_margin.proofs.Placing.{good_placed, split_of}
use Rattle.hx_margin.proofs.splitting.margin_split.Goals as goal

pub split_bytes-requires-clause-good : goal.split_bytes-requires-clause-good
split_bytes-requires-clause-good c =
    rw c.deref.ensures.value (good_placed c.in_ok-placed.placed.items c.sort_unstable.new.self.items c.sort_unstable.ensures.permutation c.in_ok-placed.ensures.good)

pub returns : goal.returns
returns c =
    let parts = c.args.tree.now in
    let m = c.args.margin_order in
    let rows = c.args.rows.now in
    let value = split_of parts m rows c.in_ok-placed.placed.items c.sort_unstable.new.self.items c.in_ok-placed.ensures.collected c.sort_unstable.ensures.sorted c.sort_unstable.ensures.permutation in
    let there = subst (λ (xs : List Placed). AreMarginSplit parts m rows xs) (sym c.deref.ensures.value) value in
    IfOk-weaker c.split_bytes.result (λ bytes. split_in bytes.items ≡ Ok c.deref.result.now) (λ bytes. IsMarginSplitFile parts m rows bytes.items) (λ bytes reads. record { placed = c.deref.result.now; reads = reads; value = there }) c.split_bytes.ensures.reads_back
