use Rattle.std.proofs.Common.{◌≤◌, take}
use Rattle.std.specs.List.{All}
use Rattle.hx_base.specs.Rows.{IsGood}
use Rattle.hx_outside.specs.Disk.{Passes}
use Rattle.hx_outside.specs.Folders.{Same}
use Rattle.hx_xmatch.specs.Fields.{IsFieldOf}
use Rattle.hx_xmatch.specs.Files.{HasRowsAt}
use Rattle.hx_xmatch.proofs.fields.load_rows.Given as goal

-- the rows of the first partitions
abbrev pub invariant-loop-part : goal.invariant-loop-part
invariant-loop-part g l = record {
  passes : g.S.Store.disk.tells l.fn.store → Passes g.S.Store.disk l.fn.store l.store Same;
  later : g.S.Store.disk.faults l.fn.store ≤ g.S.Store.disk.faults l.store;
  field : g.S.Store.disk.tells l.fn.store → IsFieldOf (HasRowsAt (g.S.Store.disk.reads l.fn.store) l.right) (take l.part-index l.parts) l.margin l.rows.items;
  good : All IsGood l.rows.items;
}
