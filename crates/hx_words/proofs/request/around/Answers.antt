use Rattle.std.proofs.Common.{None, rules, sym, ◌∙◌, ◌≡◌, ◌∷◌, [], map, string_bytes}
use Rattle.std.specs.Fmt.{decimal}
use Rattle.hx_words.proofs.FileWords.{two_words}
use Rattle.hx_words.proofs.Requests.{same_order}
use Rattle.hx_words.proofs.request.around.Goals as goal

pub returns-in_err-pixel : goal.returns-in_err-pixel
returns-in_err-pixel c =
    let is : c.from_residual-in_err-pixel.result ≡ None = search rules in
    let read = c.in_ok-order.ensures in
    rw is (λ k p line.
    let words : map string_bytes c.args.line.now ≡ decimal k ∷ decimal p ∷ [] = cc line.form in
    let both = two_words c.args.line.now c.order_word-item.result c.pixel_word-item.result c.order_word-item.is c.pixel_word-item.is (decimal k) (decimal p) words in
    let same = same_order k c.in_ok-order.order line.in_range read.0 (sym both.0 ∙ sym c.as_str.ensures.value ∙ read.1) in
    c.in_err-pixel.ensures p (rw same at line.there) (c.as_str-2.ensures.value ∙ both.1))
