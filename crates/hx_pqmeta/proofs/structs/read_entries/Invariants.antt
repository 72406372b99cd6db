use Rattle.std.proofs.Common.{◌≡◌, ◌-◌, List}
use Rattle.hx_thrift.specs.Values.{Entry, Value}
use Rattle.hx_thrift.specs.Reading.{value_at, entries_at, struct_at}
use Rattle.hx_pqmeta.proofs.Walked.{with_front}
use Rattle.hx_pqmeta.proofs.structs.read_entries.Given as goal

abbrev pub invariant-loop : goal.invariant-loop
invariant-loop g l = (es : List (Entry (Value g.T.Struct.levels))) × (l.fields ≡ g.T.Struct.said es)
    × (with_front es (entries_at (value_at g.T.Struct.levels) (l.end - l.counter) l.last l.reader) ≡ struct_at (value_at g.T.Struct.levels) l.fn.reader)
