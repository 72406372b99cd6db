use Rattle.std.proofs.Common.{take}
use Rattle.hx_mem.specs.Files.{folder_of}
use Rattle.hx_mem.specs.Logs.{AreImages}
use Rattle.hx_mem.proofs.crash.image_of.Given as goal

abbrev pub invariant-loop-at : goal.invariant-loop-at
invariant-loop-at l = AreImages (take l.at l.log) (folder_of l.start) (folder_of l.reads.items) (folder_of l.image.items) (folder_of l.other.items)
