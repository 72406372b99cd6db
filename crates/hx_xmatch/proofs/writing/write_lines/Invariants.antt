use Rattle.std.proofs.Common.{◌≡◌, ◌≤◌, List, ℕ, Some, false, take}
use Rattle.hx_base.specs.declared.row.Row.{Row}
use Rattle.hx_catalog.specs.Files.{AreListed}
use Rattle.hx_outside.specs.Disk.{Passes}
use Rattle.hx_outside.specs.Folders.{SameBut}
use Rattle.hx_xmatch.specs.Fields.{IsFieldOf}
use Rattle.hx_xmatch.specs.Files.{HasRowsAt, name_of}
use Rattle.hx_xmatch.specs.Output.{IsWrittenFor}
use Rattle.hx_xmatch.proofs.writing.write_lines.Given as goal

-- the temporary file has the header and the lines of the rows of the first partitions
abbrev pub invariant-loop-part : goal.invariant-loop-part
invariant-loop-part g l = record {
  passes : g.S.Store.disk.tells l.fn.store → Passes g.S.Store.disk l.fn.store l.store (SameBut l.tmp);
  later : g.S.Store.disk.faults l.fn.store ≤ g.S.Store.disk.faults l.store;
  field : g.S.Store.disk.tells l.fn.store → IsFieldOf (HasRowsAt (g.S.Store.disk.reads l.fn.store) l.pair.right) l.work.field.parts.items l.work.field.margin l.work.field.tree;
  written : g.S.Store.disk.tells l.fn.store → (text : List ℕ) × (g.S.Store.disk.reads l.store l.tmp ≡ Some text)
      × (rows : List Row) × AreListed (g.S.Store.disk.reads l.fn.store) (name_of l.pair.left) false (take l.part l.pair.left.parts) rows
      × IsWrittenFor (g.S.Store.disk.reads l.fn.store) l.pair.right l.pair.r2 rows text l.counts.rows l.counts.matched;
}
