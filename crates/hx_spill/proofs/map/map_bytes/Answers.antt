use Rattle.std.proofs.Common.{◌≡◌, rules}
use Rattle.hx_spill.specs.Maps.{bytes_of_map}
use Rattle.hx_spill.proofs.Pairs.{map_there}
use Rattle.hx_spill.proofs.map.map_bytes.Goals as goal

pub returns-clause-reads_back : goal.returns-clause-reads_back
returns-clause-reads_back c =
    let is : c.push_pairs.new.bytes.items ≡ bytes_of_map c.args.hist.now = search rules in
    rw is (map_there c.args.hist.now (rw c.order.ensures.value at c.order.ensures.range) c.pairs-pairs.ensures.histogram c.requires (search rules))
