use Rattle.std.proofs.Common.{List, ℕ, ◌∙◌}
use Rattle.hx_cli.proofs.HistText.{lines_are}
use Rattle.hx_cli.proofs.commands.histogram.Goals as goal

pub returns-clause-text : goal.returns-clause-text
returns-clause-text g c = λ (bytes : List (List ℕ)). λ tell.
    let counts = c.in_ok-counts.ensures in
    let read = counts.counts bytes tell in
    (read.0, read.1, c.in_ok-lines_of.ensures.lines ∙ lines_are c.args.order _ read.0 c.in_ok-counts.counts.pairs counts.order c.in_ok-lines_of.ensures.histogram read.2)
