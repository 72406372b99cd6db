use Rattle.std.proofs.Common.{◌≡◌, ◌≤◌, ℕ, List, Some, false, take}
use Rattle.std.specs.Prelude.{slice_get}
use Rattle.hx_base.specs.Pixels.{first_position}
use Rattle.hx_base.specs.declared.pixel.Pixel.{Pixel}
use Rattle.hx_base.specs.declared.row.Row.{Row}
use Rattle.hx_catalog.specs.Files.{AreListed}
use Rattle.hx_cover.specs.Tested.{AreCoverBoxes}
use Rattle.hx_cover.specs.TooNear.{AreBoxes}
use Rattle.hx_outside.specs.Disk.{Passes}
use Rattle.hx_outside.specs.Folders.{Same}
use Rattle.hx_xmatch.specs.Files.{name_of}
use Rattle.hx_xmatch.proofs.BoxLemmas.{AreBefore}
use Rattle.hx_xmatch.proofs.coverage.boxes_of.Given as goal

-- the boxes of the rows of the first partitions, of which none is behind a later partition's first position
abbrev pub invariant-loop-part : goal.invariant-loop-part
invariant-loop-part g l = record {
  passes : g.S.Store.disk.tells l.fn.store → Passes g.S.Store.disk l.fn.store l.store Same;
  later : g.S.Store.disk.faults l.fn.store ≤ g.S.Store.disk.faults l.store;
  cover : AreCoverBoxes l.order l.boxes.items;
  rows : (rows : List Row) × AreBoxes l.order rows l.boxes.items
      × ((index : ℕ) (pixel : Pixel) → l.part ≤ index → slice_get l.catalogue.parts index ≡ Some pixel → AreBefore (first_position pixel) rows)
      × (g.S.Store.disk.tells l.fn.store → AreListed (g.S.Store.disk.reads l.fn.store) (name_of l.catalogue) false (take l.part l.catalogue.parts) rows);
}
