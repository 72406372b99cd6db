use Rattle.std.proofs.Common.{ℕ, ◌^◌, ◌<◌, ◌≡◌, arith, rules}
use Rattle.std.specs.Fmt.{decimal}
use Rattle.hx_words.proofs.Numbers.{decimal_begins, found}
use Rattle.hx_words.specs.Words.{BeginsNumber}
use Rattle.hx_words.proofs.number.number.Goals as goal

pub returns-then-not-begins_a_number : goal.returns-then-not-begins_a_number
returns-then-not-begins_a_number c = λ (n : ℕ). λ (small : n < 2 ^ 64). λ (is : c.args.word.now ≡ decimal n).
    let begins : BeginsNumber c.as_bytes.result.now = rw (c.as_bytes.ensures.value, is) (decimal_begins n small) in
    grind (arith, c.if-not-begins_a_number.ensures.1 begins)

pub returns : goal.returns
returns c =
    let begins : BeginsNumber c.as_bytes.result.now = search (rules, c.begins_a_number.ensures.0) in
    rw c.ok.ensures.value (found c.parse.result c.args.word.now (rw c.as_bytes.ensures.value at begins) c.parse.ensures.value.0)
