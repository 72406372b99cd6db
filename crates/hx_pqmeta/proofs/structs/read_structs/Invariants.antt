use Rattle.std.proofs.Common.{◌≡◌, ◌-◌, List, map, suc}
use Rattle.hx_thrift.specs.Values.{Value}
use Rattle.hx_thrift.specs.Reading.{value_at, elements_at}
use Rattle.hx_pqmeta.specs.Fields.{entries_in}
use Rattle.hx_pqmeta.proofs.Walked.{with_front}
use Rattle.hx_pqmeta.proofs.structs.read_structs.Given as goal

abbrev pub invariant-loop : goal.invariant-loop
invariant-loop g l = (xs : List (Value (suc g.T.Struct.levels))) × (l.found.items ≡ map g.T.Struct.said (map entries_in xs))
    × (with_front xs (elements_at (value_at (suc g.T.Struct.levels) 12) (l.size - l.counter) l.reader) ≡ elements_at (value_at (suc g.T.Struct.levels) 12) l.size l.fn.reader)
