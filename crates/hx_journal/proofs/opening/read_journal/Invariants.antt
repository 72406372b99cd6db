use Rattle.std.proofs.Common.{◌≡◌, ◌++◌, [], length}
use Rattle.hx_journal.specs.Headers.{IsHeader}
use Rattle.hx_journal.specs.Journal.{AreRecords, front}
use Rattle.hx_journal.proofs.opening.read_journal.Given as goal

-- the header, the records so far, and what is left behind them: a gate at least where there are records
abbrev pub invariant-loop-rest : goal.invariant-loop-rest
invariant-loop-rest l = record {
  heading : IsHeader l.header.items;
  sound : AreRecords l.records.items;
  form : l.bytes ≡ front l.header.items l.records.items ++ l.rest;
  gate : length l.rest ≡ 0 → l.records.items ≡ [];
}

abbrev pub decreases-loop-rest : goal.decreases-loop-rest
decreases-loop-rest l = length l.rest
