use Rattle.std.proofs.Common.{◌≡◌, take}
use Rattle.std.specs.List.{flat_map}
use Rattle.hx_cli.specs.Histograms.{line_of}
use Rattle.hx_cli.proofs.lines.lines_of.Given as goal

abbrev pub invariant-loop-pair : goal.invariant-loop-pair
invariant-loop-pair l = l.text.items ≡ flat_map (λ pair. line_of pair.pixel pair.count) (take l.pair-index l.pairs)
