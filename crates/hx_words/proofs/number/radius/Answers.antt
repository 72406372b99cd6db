use Rattle.std.proofs.Common.{ℕ, ◌≡◌, ◌≤◌, arith, sym, ◌∙◌}
use Rattle.std.proofs.lemmas.Fmt.{decimal_injective}
use Rattle.std.specs.Fmt.{decimal}
use Rattle.hx_words.specs.Words.{most_radius}
use Rattle.hx_words.proofs.number.radius.Goals as goal

pub returns-then-radius-gt-MOST_RADIUS : goal.returns-then-radius-gt-MOST_RADIUS
returns-then-radius-gt-MOST_RADIUS c = λ (n : ℕ). λ (low : n ≤ most_radius). λ (is : c.args.word.now ≡ decimal n).
    let read = c.in_ok-radius.ensures in
    let same = decimal_injective c.in_ok-radius.radius n read.0 (omega (arith, low)) (sym read.1 ∙ is) in
    omega (arith, low, same, c.if-radius-gt-MOST_RADIUS.true)
