use Rattle.std.proofs.Common.{◌∙◌, ap}
use Rattle.hx_words.proofs.Named.{named_next}
use Rattle.hx_real.specs.Files.{Opened, file_source}
use Rattle.hats.proofs.asking.sources.Goals as goal

pub loop-name-preserved : goal.loop-name-preserved
loop-name-preserved g c =
    named_next file_source.label c.loop-name.sources.items c.push.new.self.items c.args.names.now c.loop-name.name-index c.in_ok-new.field-0 c.name-item.result
    c.loop-name-test.true c.name-item.is c.in_ok-push.ensures.items (ap (λ (file : Opened). file.path) c.in_ok-new.ensures ∙ c.as_str.ensures.value) c.loop-name.invariant
