use Rattle.std.proofs.Common.{◌≡◌, ◌+◌, ◌*◌, ◌-◌}
use Rattle.hx_thrift.specs.Texts.{rest_of}
use Rattle.hx_thrift.specs.Reading.{value_at, elements_at, entries_at, struct_at, pair_at}
use Rattle.hx_thrift.proofs.reader.Reader.+after_value.Given as goal

abbrev pub decreases-after_value : goal.decreases-after_value
decreases-after_value l = 5 * l.levels

abbrev pub decreases-after_elements : goal.decreases-after_elements
decreases-after_elements l = 5 * l.levels + 1

abbrev pub decreases-after_pair : goal.decreases-after_pair
decreases-after_pair l = 5 * l.levels + 1

abbrev pub decreases-after_struct : goal.decreases-after_struct
decreases-after_struct l = 5 * l.levels + 1

abbrev pub decreases-after_pairs : goal.decreases-after_pairs
decreases-after_pairs l = 5 * l.levels + 2

abbrev pub decreases-after_sequence : goal.decreases-after_sequence
decreases-after_sequence l = 5 * l.levels + 2

abbrev pub decreases-after_kinds : goal.decreases-after_kinds
decreases-after_kinds l = 5 * l.levels + 3

abbrev pub decreases-after_map : goal.decreases-after_map
decreases-after_map l = 5 * l.levels + 4

abbrev pub invariant-after_elements-loop : goal.invariant-after_elements-loop
invariant-after_elements-loop l = rest_of (elements_at (value_at l.levels l.kind) (l.size - l.counter) l.ahead) ≡ rest_of (elements_at (value_at l.levels l.kind) l.size l.fn.self)

abbrev pub invariant-after_pairs-loop : goal.invariant-after_pairs-loop
invariant-after_pairs-loop l = rest_of (elements_at (pair_at (value_at l.levels) l.key l.value) (l.size - l.counter) l.ahead) ≡ rest_of (elements_at (pair_at (value_at l.levels) l.key l.value) l.size l.fn.self)

abbrev pub invariant-after_struct-loop : goal.invariant-after_struct-loop
invariant-after_struct-loop l = rest_of (entries_at (value_at l.levels) (l.end - l.counter) l.last l.ahead) ≡ rest_of (struct_at (value_at l.levels) l.fn.self)
