use Rattle.std.proofs.Common.{List, None, String, Global, arith, drop, map, rules, string_bytes, ap, refl, sym, ◌≡◌, ◌∙◌, ℕ}
use Rattle.std.proofs.Math.ListN.{get_or-map}
use Rattle.std.proofs.lemmas.List.{drop-map, length-map, take_rest}
use Rattle.hx_words.proofs.OptionWords.{name_alone, other_refused, read_more, rest_refused, two_words, value_refused}
use Rattle.hx_words.proofs.options.+read_options.Goals as goal

abbrev text : String Global → List ℕ
text word = string_bytes word

pub returns-then-not-is_among : goal.returns-then-not-is_among
returns-then-not-is_among most c = other_refused c.args.names.now c.args.before (map text c.args.words.now) c.in-Some.name c.in-Some.ensures (λ among. cc (c.if-not-is_among.ensures.1 among))

pub returns-in_default-words : goal.returns-in_default-words
returns-in_default-words most c = name_alone c.args.names.now c.args.before (map text c.args.words.now) c.in-Some.name c.in-Some.ensures (omega (arith, c.in_default-words.len_below, length-map c.args.words.now text))

pub returns-in_err-options : goal.returns-in_err-options
returns-in_err-options most c =
    let words = map text c.args.words.now in
    let second = c.value-item.result in
    let here = ap text c.value-item.is ∙ sym (get_or-map text c.args.words.now 1 second) in
    let are = two_words words c.in-Some.name (text second) c.in-Some.ensures (omega (arith, c.in-len2-up.len_at_least, length-map c.args.words.now text)) here in
    let is : c.from_residual.result ≡ None = search rules in
    rw is (value_refused c.args.names.now c.args.before words c.in-Some.name (text second) (drop 2 words) are (rw c.as_str.ensures.value at c.in_err-options.ensures))

pub returns-in_err-options-2 : goal.returns-in_err-options-2
returns-in_err-options-2 most c =
    let words = map text c.args.words.now in
    let second = c.value-item.result in
    let here = ap text c.value-item.is ∙ sym (get_or-map text c.args.words.now 1 second) in
    let are = two_words words c.in-Some.name (text second) c.in-Some.ensures (omega (arith, c.in-len2-up.len_at_least, length-map c.args.words.now text)) here in
    let one = c.in_ok-options.ensures in
    let is : c.from_residual-in_err-options-2.result ≡ None = search rules in
    rw is (rest_refused c.args.names.now c.args.before words c.in-Some.name (text second) (drop 2 words) are c.in_ok-options.options one.0 one.3 one.4 one.5 (rw (drop-map text 2 c.args.words.now) (rw (take_rest c.args.words.now 2) at c.in_err-options-2.ensures)))

pub returns : goal.returns
returns most c =
    let words = map text c.args.words.now in
    let second = c.value-item.result in
    let here = ap text c.value-item.is ∙ sym (get_or-map text c.args.words.now 1 second) in
    let are = two_words words c.in-Some.name (text second) c.in-Some.ensures (omega (arith, c.in-len2-up.len_at_least, length-map c.args.words.now text)) here in
    let one = c.in_ok-options.ensures in
    read_more c.args.names.now c.args.before words c.in-Some.name (text second) (drop 2 words) are c.in_ok-options.options one.0 one.3 one.4 one.5 c.in_ok-options-2.options c.in_ok-options-2.count (c.if-not-is_among.ensures.0 refl) one.1 (rw c.as_str.ensures.value at one.2) (rw (drop-map text 2 c.args.words.now) (rw (take_rest c.args.words.now 2) at c.in_ok-options-2.ensures))
