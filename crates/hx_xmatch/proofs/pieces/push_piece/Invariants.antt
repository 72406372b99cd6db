use Rattle.std.proofs.Common.{◌≤◌, ◌-◌, List, length, take}
use Rattle.hx_base.specs.declared.row.Row.{Row}
use Rattle.hx_outside.specs.Disk.{Passes}
use Rattle.hx_outside.specs.Folders.{Same}
use Rattle.hx_xmatch.specs.Fields.{IsFieldOf}
use Rattle.hx_xmatch.specs.Files.{HasRowsAt}
use Rattle.hx_xmatch.specs.Pieces.{AddsLines, FindsAll}
use Rattle.hx_xmatch.proofs.pieces.push_piece.Given as goal

-- the lines of the first rows
abbrev pub invariant-loop-at : goal.invariant-loop-at
invariant-loop-at g l = record {
  passes : g.S.Store.disk.tells l.fn.store → Passes g.S.Store.disk l.fn.store l.store Same;
  later : g.S.Store.disk.faults l.fn.store ≤ g.S.Store.disk.faults l.store;
  field : g.S.Store.disk.tells l.fn.store → IsFieldOf (HasRowsAt (g.S.Store.disk.reads l.fn.store) l.right) l.fn.field.parts.items l.fn.field.margin l.fn.field.tree
      → IsFieldOf (HasRowsAt (g.S.Store.disk.reads l.fn.store) l.right) l.field.parts.items l.field.margin l.field.tree;
  within : l.at ≤ length l.left;
  few : l.matched ≤ l.at;
  lines : g.S.Store.disk.tells l.fn.store → IsFieldOf (HasRowsAt (g.S.Store.disk.reads l.fn.store) l.right) l.fn.field.parts.items l.fn.field.margin l.fn.field.tree → (rows : List Row) → FindsAll (g.S.Store.disk.reads l.fn.store) l.right l.r2 rows l.left
      → AddsLines l.r2 rows (take l.at l.left) l.fn.text.items l.text.items l.matched;
}

abbrev pub decreases-loop-at : goal.decreases-loop-at
decreases-loop-at g l = length l.left - l.at
