-- A sink in memory.
use Rattle.std.specs.Prelude.{◌-◌, ◌+◌, ◌++◌, ◌||◌, ℕ, List, Bool, length, take, nat_lt, if◌then◌else◌, Some}
use Rattle.hx_outside.specs.Sinks.{SinkMembers}
use Rattle.hx_mem.specs.Calls.{one_more, one_more_if, is_named}

-- how many bytes fit, those that were written, the numbers of the calls that fail, the number of the next call,
-- and how many calls have failed
pub record Receiver : Type 0 where
  pub room : ℕ
  pub written : List ℕ
  pub named : List ℕ
  pub calls : ℕ
  pub faults : ℕ

-- it tells all that was written
abbrev pub mem_sink : SinkMembers Receiver
mem_sink = record { written = λ sink. Some sink.written; faults = λ sink. sink.faults }

-- what a write adds: what fits of the bytes, or nothing where the call's number was named
abbrev pub added : Receiver → List ℕ → List ℕ
added sink bytes =
    take (if is_named sink.named sink.calls then 0 else sink.room - length sink.written) bytes

-- whether a write fails: its number was named, or the bytes pass the room
abbrev pub fails : Receiver → List ℕ → Bool
fails sink bytes = is_named sink.named sink.calls || nat_lt sink.room (length sink.written + length bytes)

-- the sink after a write
abbrev pub after_write : Receiver → List ℕ → Receiver
after_write sink bytes = record sink {
  written = sink.written ++ added sink bytes;
  calls = one_more sink.calls;
  faults = one_more_if (fails sink bytes) sink.faults;
}
