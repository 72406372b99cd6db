use Rattle.std.proofs.Common.{String, Global, rules, string_bytes, ◌∙◌}
use Rattle.hx_words.proofs.Named.{named_next}
use Rattle.hx_words.proofs.names.copied.Goals as goal

pub loop-word-preserved : goal.loop-word-preserved
loop-word-preserved c =
    named_next (λ (word : String Global). string_bytes word) c.loop-word.copies.items c.push.new.self.items c.args.words.now c.loop-word.word-index c.in_ok-from_str.field-0 c.word-item.result
    c.loop-word-test.true c.word-item.is (search rules) (c.in_ok-from_str.ensures.ok ∙ c.as_str.ensures.value) c.loop-word.invariant
