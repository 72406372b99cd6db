use Rattle.std.proofs.Common.{◌≡◌, map, string_bytes, take}
use Rattle.hx_mem.specs.Sources.{Memory}
use Rattle.hx_cli.specs.declared.tests.slow.Slow.{Slow}
use Rattle.hx_cli.proofs.tests.sources.Given as goal

-- the sources so far have the first names
abbrev pub invariant-loop-name : goal.invariant-loop-name
invariant-loop-name l = map (λ (source : Slow Memory). source.inner.name) l.sources.items ≡ map string_bytes (take l.name-index l.names)
