use Rattle.std.proofs.Common.{None, arith, rules, ◌*◌, ◌≡◌, ◌<◌, ◌^◌, ℕ, sym, ◌∙◌}
use Rattle.std.proofs.lemmas.Fmt.{decimal_injective}
use Rattle.hx_words.proofs.Requests.{within_words}
use Rattle.hx_words.proofs.number.pixel.Goals as goal

pub returns-in_err-pixel : goal.returns-in_err-pixel
returns-in_err-pixel c =
    let is : c.from_residual.result ≡ None = search rules in
    rw is (λ (p : ℕ). λ (below : p < 12 * 4 ^ c.args.order). c.in_err-pixel.ensures p (omega (arith, below, within_words c.args.order c.requires)))

pub returns-then-pixel-pixels_of_order : goal.returns-then-pixel-pixels_of_order
returns-then-pixel-pixels_of_order c = λ (p : ℕ). λ (below : p < 12 * 4 ^ c.args.order). λ is.
    let bound = within_words c.args.order c.requires in
    let read = c.in_ok-pixel.ensures in
    let same = decimal_injective c.in_ok-pixel.pixel p read.0 (omega (arith, below, bound)) (sym read.1 ∙ is) in
    omega (arith, c.if-pixel-pixels_of_order.true, c.pixels_of_order.ensures, same, below)
