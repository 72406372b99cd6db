use Rattle.std.proofs.Common.{◌≡◌, map, string_bytes, take}
use Rattle.hx_real.specs.Files.{file_source}
use Rattle.hats.proofs.asking.sources.Given as goal

-- the sources so far have the first names
abbrev pub invariant-loop-name : goal.invariant-loop-name
invariant-loop-name g l = map file_source.label l.sources.items ≡ map string_bytes (take l.name-index l.names)
