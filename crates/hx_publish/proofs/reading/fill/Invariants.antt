use Rattle.std.proofs.Common.{◌≡◌, ◌≤◌, ◌-◌, length, take, drop}
use Rattle.hx_outside.specs.Folders.{Same, contents}
use Rattle.hx_outside.specs.Disk.{Passes}
use Rattle.hx_publish.proofs.reading.fill.Given as goal

-- the front of the buffer is what was read so far
abbrev pub invariant-loop-at : goal.invariant-loop-at
invariant-loop-at g l = record {
  passes : g.S.Store.disk.tells l.fn.store → Passes g.S.Store.disk l.fn.store l.store Same;
  later : g.S.Store.disk.faults l.fn.store ≤ g.S.Store.disk.faults l.store;
  room : length l.buf ≡ length l.fn.buf;
  within : l.at ≤ length l.buf;
  front : g.S.Store.disk.tells l.fn.store → take l.at l.buf ≡ take l.at (drop l.from (contents (g.S.Store.disk.reads l.fn.store l.name)));
}

abbrev pub decreases-loop-at : goal.decreases-loop-at
decreases-loop-at g l = length l.buf - l.at
