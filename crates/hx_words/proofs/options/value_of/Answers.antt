use Rattle.hx_words.proofs.OptionWords.{no_value}
use Rattle.hx_words.proofs.options.value_of.Goals as goal

pub returns-then-not-is_in_range : goal.returns-then-not-is_in_range
returns-then-not-is_in_range c = no_value c.args.name c.args.word.now c.in_ok-value.value c.in_ok-value.ensures.0 c.in_ok-value.ensures.1 (λ range. cc (c.if-not-is_in_range.ensures.1 range))
