use Rattle.std.proofs.Common.{None, rules, sym, ◌∙◌, ◌≡◌}
use Rattle.hx_words.proofs.FileWords.{four_words}
use Rattle.hx_words.proofs.Requests.{match_requested, third_word}
use Rattle.hx_words.proofs.request.xmatch.Goals as goal

pub returns-in_err-radius : goal.returns-in_err-radius
returns-in_err-radius c =
    let is : c.from_residual.result ≡ None = search rules in
    let four = four_words c.args.line.now c.left-item.result c.right-item.result c.radius_word-item.result c.output-item.result c.in-len4.len_at_least c.in-len4.len_below c.left-item.is c.right-item.is c.radius_word-item.is c.output-item.is in
    rw is (λ left right radius output line.
    let third = third_word _ _ _ _ _ left right radius output four line in
    c.in_err-radius.ensures radius line.in_range (c.as_str-2.ensures.value ∙ third))

pub returns : goal.returns
returns c =
    let four = four_words c.args.line.now c.left-item.result c.right-item.result c.radius_word-item.result c.output-item.result c.in-len4.len_at_least c.in-len4.len_below c.left-item.is c.right-item.is c.radius_word-item.is c.output-item.is in
    let read = c.in_ok-radius.ensures in
    match_requested _ _ _ _ _ c.in_ok-radius.radius four
    (rw c.as_str.ensures.value at (c.is_name.ensures.0 (search rules)))
    (rw c.as_str-else-not-is_name.ensures.value at (c.is_name-else-not-is_name.ensures.0 (search rules)))
    (rw c.as_str-else-not-is_name-2.ensures.value at (c.is_name-else-not-is_name-2.ensures.0 (search rules)))
    read.0 (sym c.as_str-2.ensures.value ∙ read.1)
