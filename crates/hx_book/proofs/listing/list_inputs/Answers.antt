use Rattle.std.proofs.Common.{Err, ap, rules, ◌≡◌, ◌<◌, ◌∙◌, ◌∷◌, ◌+◌, [], List, ℕ, arith, length}
use Rattle.std.proofs.lemmas.List.{length-append}
use Rattle.hx_inputs.proofs.InTurn.{long_next, passed_here, refused_here}
use Rattle.hx_inputs.proofs.Sources.{same_next, tell_length, told_here}
use Rattle.hx_book.proofs.Listed.{lengths_cause, lens_next, words_next}
use Rattle.hx_book.proofs.listing.list_inputs.Goals as goal

pub returns-in_err-len-clause-first : goal.returns-in_err-len-clause-first
returns-in_err-len-clause-first g c = λ (bytes : List (List ℕ)). λ tell.
    let source = g.Src.Source.source in
    let before = c.args.inputs.now.items in
    let i = c.loop-number.number in
    let same = c.loop-number.invariant.same in
    let here = told_here source before c.loop-number.inputs.items same bytes i c.index_mut.result.now tell (omega arith) c.index_mut.ensures.value in
    let within : i < length bytes = omega (arith, same.count, tell_length source before bytes tell) in
    let is : c.from_residual-in_err-len.result ≡ Err c.in_err-len.field-0.0 = search rules in
    rw is (refused_here _ _ _ _ (c.loop-number.invariant.first bytes tell ∙ long_next bytes i within) (rw here at c.in_err-len.ensures.first))

pub returns-in_err-len-clause-cause : goal.returns-in_err-len-clause-cause
returns-in_err-len-clause-cause g c =
    let source = g.Src.Source.source in
    let is : c.from_residual-in_err-len.result ≡ Err c.in_err-len.field-0.0 = search rules in
    rw is (lengths_cause source c.args.inputs.now.items c.loop-number.inputs.items c.loop-number.invariant.same c.loop-number.number c.index_mut.result.now (omega arith) c.index_mut.ensures.value c.length_of.new.source _ c.in_err-len.ensures.cause)

pub loop-number-preserved : goal.loop-number-preserved
loop-number-preserved g c =
    let source = g.Src.Source.source in
    let before = c.args.inputs.now.items in
    let now = c.loop-number.inputs.items in
    let i = c.loop-number.number in
    let x = c.index_mut.result.now in
    let same = c.loop-number.invariant.same in record {
      same = same_next source before now same i x c.length_of.new.source (omega arith) c.index_mut.ensures.value c.in_ok-len.ensures.same;
      words = c.in_ok-push.ensures.words ∙ words_next source before now same i c.index.result.now (omega arith) c.index.ensures _ _ c.loop-number.invariant.words c.in_ok-word.ensures.word;
      lens = λ (bytes : List (List ℕ)). λ tell. c.in_ok-push.ensures.lens ∙ lens_next source before now same i x (omega arith) c.index_mut.ensures.value bytes _ _ tell (c.loop-number.invariant.lens bytes tell) c.in_ok-len.ensures.len;
      first = λ (bytes : List (List ℕ)). λ tell.
          let here = told_here source before now same bytes i x tell (omega arith) c.index_mut.ensures.value in
          let within : i < length bytes = omega (arith, same.count, tell_length source before bytes tell) in
          passed_here _ _ _ (c.loop-number.invariant.first bytes tell ∙ long_next bytes i within) (rw here at c.in_ok-len.ensures.first);
      long = ap (length {A = ℕ}) c.in_ok-push.ensures.lens ∙ length-append c.loop-number.listing.lens.items (c.in_ok-len.len ∷ []) ∙ ap (λ (n : ℕ). n + 1) c.loop-number.invariant.long;
    }
