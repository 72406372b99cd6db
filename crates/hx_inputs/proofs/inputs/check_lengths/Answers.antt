use Rattle.std.proofs.Common.{Err, ap, rules, ◌≡◌, ◌<◌, ◌∙◌, List, ℕ, arith, length}
use Rattle.hx_inputs.proofs.InTurn.{long_next, passed_here, refused_here, short_next, turn_of_length}
use Rattle.hx_inputs.proofs.Sources.{same_next, tell_length, told_here}
use Rattle.hx_inputs.proofs.inputs.check_lengths.Goals as goal

pub returns-in_err-check_length-clause-first : goal.returns-in_err-check_length-clause-first
returns-in_err-check_length-clause-first g c = λ (bytes : List (List ℕ)). λ tell.
    let source = g.Src.Source.source in
    let before = c.args.inputs.now.items in
    let i = c.loop-number.number in
    let same = c.loop-number.invariant.same in
    let here = told_here source before c.loop-number.inputs.items same bytes i c.index_mut.result.now tell (omega arith) c.index_mut.ensures.value in
    let within : i < length bytes = omega (arith, same.count, tell_length source before bytes tell) in
    let is : c.from_residual.result ≡ Err c.in_err-check_length.field-0.0 = search rules in
    rw is (refused_here _ _ _ _ (c.loop-number.invariant.first bytes tell ∙ long_next bytes i within) (rw here at c.in_err-check_length.ensures.first))

pub returns-in_err-check_length-clause-in_turn : goal.returns-in_err-check_length-clause-in_turn
returns-in_err-check_length-clause-in_turn g c = λ (bytes : List (List ℕ)). λ tell.
    let is : c.from_residual.result ≡ Err c.in_err-check_length.field-0.0 = search rules in
    rw is (turn_of_length g.Src.Source.source c.loop-number.number _ _ bytes _ c.in_err-check_length.ensures.cause (λ e. c.in_err-check_length.ensures.memory (ap Err e)) (c.loop-number.invariant.passed bytes tell))

pub loop-number-preserved : goal.loop-number-preserved
loop-number-preserved g c =
    let source = g.Src.Source.source in
    let before = c.args.inputs.now.items in
    let now = c.loop-number.inputs.items in
    let i = c.loop-number.number in
    let x = c.index_mut.result.now in
    let same = c.loop-number.invariant.same in record {
      same = same_next source before now same i x c.check_length.new.source (omega arith) c.index_mut.ensures.value c.in_ok-check_length.ensures.same;
      first = λ (bytes : List (List ℕ)). λ tell.
          let here = told_here source before now same bytes i x tell (omega arith) c.index_mut.ensures.value in
          let within : i < length bytes = omega (arith, same.count, tell_length source before bytes tell) in
          passed_here _ _ _ (c.loop-number.invariant.first bytes tell ∙ long_next bytes i within) (rw here at c.in_ok-check_length.ensures.first);
      passed = λ (bytes : List (List ℕ)). λ tell.
          let here = told_here source before now same bytes i x tell (omega arith) c.index_mut.ensures.value in
          let within : i < length bytes = omega (arith, same.count, tell_length source before bytes tell) in
          short_next bytes i within (c.loop-number.invariant.passed bytes tell) (rw here at c.in_ok-check_length.ensures.first);
    }
