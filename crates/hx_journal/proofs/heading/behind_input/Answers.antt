use Rattle.std.proofs.Common.{◌≡◌, ◌∙◌, arith, rules, subst, sym}
use Rattle.std.specs.Str.{IsUtf8}
use Rattle.hx_base.specs.FileWords.{IsFileWord}
use Rattle.hx_journal.proofs.Headed.{input-begins, input-parts, input-word, word-line}
use Rattle.hx_journal.proofs.Lines.{first-line}
use Rattle.hx_journal.proofs.heading.behind_input.Goals as goal

pub returns-in_err-rest : goal.returns-in_err-rest
returns-in_err-rest c = rw c.from_residual.ensures (λ x more fits is. c.in_err-rest.ensures _ (is ∙ input-parts x more))

pub returns-in_err-word : goal.returns-in_err-word
returns-in_err-word c = rw c.from_residual-in_err-word.ensures
    (λ x more fits is. c.in_err-word.ensures x.word more (word-line x.word fits.word) (input-word c.args.text.now c.in_ok-rest.rest.now c.in_ok-_len.value.now more c.in_ok-_len._len x c.in_ok-rest.ensures c.in_ok-_len.ensures fits is))

pub returns-then-not-is_word : goal.returns-then-not-is_word
returns-then-not-is_word c x more fits is =
    let word = c.in_ok-word in
    let value = input-word c.args.text.now c.in_ok-rest.rest.now c.in_ok-_len.value.now more c.in_ok-_len._len x c.in_ok-rest.ensures c.in_ok-_len.ensures fits is in
    let same : word.word.now ≡ x.word = (first-line word.word.now x.word word.after.now more word.ensures.0 (word-line x.word fits.word) (sym word.ensures.1 ∙ value)).0 in
    grind (arith, c.if-not-is_word.ensures.1 (subst IsUtf8 (sym same) fits.text, subst IsFileWord (sym same) fits.word))

pub returns : goal.returns
returns c =
    let word = c.in_ok-word in
    let good : IsUtf8 word.word.now × IsFileWord word.word.now = search (rules, c.if-not-is_word.ensures.0) in (
      record { len = c.in_ok-_len._len; word = word.word.now },
      (
        record { len = c.in_ok-_len.ensures.0; word = good.1; text = good.0 },
        input-begins c.args.text.now c.in_ok-rest.rest.now c.in_ok-_len.value.now word.word.now word.after.now c.in_ok-_len._len c.in_ok-rest.ensures c.in_ok-_len.ensures word.ensures.1,
      ),
    )
