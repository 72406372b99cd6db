use Rattle.std.proofs.Common.{◌≡◌, take}
use Rattle.hx_catalog.specs.Lists.{list_text}
use Rattle.hx_catalog.proofs.lists.list_text.Given as goal

abbrev pub invariant-loop-pixel : goal.invariant-loop-pixel
invariant-loop-pixel l = l.text.items ≡ list_text (take l.pixel-index l.parts)
