use Rattle.std.proofs.Common.{ℕ, ◌≡◌, ◌≤◌, arith, sym, ◌∙◌}
use Rattle.std.proofs.lemmas.Fmt.{decimal_injective}
use Rattle.std.specs.Fmt.{decimal}
use Rattle.hx_words.proofs.number.order.Goals as goal

pub returns-then-order-gt-POSITIONS : goal.returns-then-order-gt-POSITIONS
returns-then-order-gt-POSITIONS c = λ (k : ℕ). λ (low : k ≤ 29). λ (is : c.args.word.now ≡ decimal k).
    let read = c.in_ok-order.ensures in
    let same = decimal_injective c.in_ok-order.order k read.0 (omega arith) (sym read.1 ∙ is) in
    omega arith
