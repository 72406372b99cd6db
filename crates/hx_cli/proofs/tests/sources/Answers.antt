use Rattle.std.proofs.Common.{◌∙◌}
use Rattle.hx_mem.specs.Sources.{Memory}
use Rattle.hx_words.proofs.Named.{named_next}
use Rattle.hx_cli.specs.declared.tests.slow.Slow.{Slow}
use Rattle.hx_cli.proofs.tests.sources.Goals as goal

pub loop-name-preserved : goal.loop-name-preserved
loop-name-preserved c =
    named_next (λ (source : Slow Memory). source.inner.name) c.loop-name.sources.items c.push.new.self.items c.args.names.now c.loop-name.name-index c.in_ok-source.field-0 c.name-item.result
    c.loop-name-test.true c.name-item.is c.in_ok-push.ensures.items (c.in_ok-source.ensures ∙ c.as_str.ensures.value) c.loop-name.invariant
