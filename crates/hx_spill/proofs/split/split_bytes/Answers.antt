use Rattle.std.proofs.Common.{◌≡◌, ◌<◌, ◌^◌, ℕ, List, length, rules, subst}
use Rattle.hx_spill.specs.Splits.{placed_cmp}
use Rattle.hx_spill.proofs.Order.{in_order, placed_total}
use Rattle.hx_spill.proofs.SplitRows.{bytes_of_split, split_there}
use Rattle.hx_spill.proofs.split.split_bytes.Goals as goal

pub returns : goal.returns
returns c =
    let entries = c.in_ok-entries.entries.items in
    let placed = c.args.rows.now in
    let fit = rw c.deref.ensures.value at c.in_ok-push_entries.ensures.fit in
    let is : c.push_rows.new.bytes.items ≡ bytes_of_split entries placed = search rules in
    let size : length c.push_rows.new.bytes.items < 2 ^ 64 = search rules in
    record {
      reads_back = rw is (split_there entries placed c.in_ok-entries.ensures fit (subst (λ (bytes : List ℕ). length bytes < 2 ^ 64) is size) (in_order placed_cmp placed_total placed c.requires.sorted) c.requires.good c.in_ok-push_rows.ensures.fit);
    }
