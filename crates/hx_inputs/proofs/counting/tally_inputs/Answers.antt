use Rattle.std.proofs.Common.{All, Err, rules, ◌≡◌, ◌<◌, ◌++◌, ◌∙◌, List, ℕ, arith, length, map}
use Rattle.std.proofs.lemmas.List.{length-map}
use Rattle.hx_base.specs.FileWords.{IsFileWord}
use Rattle.hx_hist.specs.Histograms.{count_at}
use Rattle.hx_inputs.proofs.Counted.{count_more}
use Rattle.hx_inputs.proofs.InTurn.{bad_next, good_rows, passed_here, refused_here, rows_next, turn_of_rows}
use Rattle.hx_inputs.proofs.Sources.{label_here, of_name, same_names, same_next, tell_length, told_here}
use Rattle.hx_inputs.proofs.counting.tally_inputs.Goals as goal

pub count_input-requires-clause-name : goal.count_input-requires-clause-name
count_input-requires-clause-name g c =
    let source = g.Src.Source.source in
    let now = c.loop-number.inputs.items in
    let names : All IsFileWord (map source.label now) = rw (same_names source c.args.inputs.now.items now c.loop-number.invariant.same) c.requires.names in
    (of_name IsFileWord source.label now c.loop-number.number c.index_mut.result.now (omega arith) c.index_mut.ensures.value names).suffix

pub returns-in_err-count_input-clause-first : goal.returns-in_err-count_input-clause-first
returns-in_err-count_input-clause-first g c = λ (bytes : List (List ℕ)). λ tell.
    let source = g.Src.Source.source in
    let label = source.label in
    let before = c.args.inputs.now.items in
    let now = c.loop-number.inputs.items in
    let i = c.loop-number.number in
    let x = c.index_mut.result.now in
    let same = c.loop-number.invariant.same in
    let here = told_here source before now same bytes i x tell (omega arith) c.index_mut.ensures.value in
    let name = label_here source before now same i x (omega arith) c.index_mut.ensures.value in
    let within : i < length bytes = omega (arith, same.count, tell_length source before bytes tell) in
    let named : i < length (map label before) = omega (arith, same.count, length-map before label) in
    let fault = rw here at c.in_err-count_input.ensures.first in
    let is : c.from_residual.result ≡ Err c.in_err-count_input.field-0.0 = search rules in
    rw is (refused_here _ _ _ _ (c.loop-number.invariant.first bytes tell ∙ bad_next (map label before) bytes i (label x) name named within) fault)

pub returns-in_err-count_input-clause-in_turn : goal.returns-in_err-count_input-clause-in_turn
returns-in_err-count_input-clause-in_turn g c = λ (bytes : List (List ℕ)). λ tell.
    let names = map g.Src.Source.source.label c.args.inputs.now.items in
    let so_far = c.loop-number.invariant.counts bytes tell in
    let is : c.from_residual.result ≡ Err c.in_err-count_input.field-0.0 = search rules in
    rw is (turn_of_rows g.Src.Source.source c.loop-number.number _ _ names bytes _ c.in_err-count_input.ensures.cause (good_rows 0 _ _ so_far.0 so_far.1))

pub loop-number-preserved : goal.loop-number-preserved
loop-number-preserved g c =
    let source = g.Src.Source.source in
    let label = source.label in
    let before = c.args.inputs.now.items in
    let now = c.loop-number.inputs.items in
    let i = c.loop-number.number in
    let x = c.index_mut.result.now in
    let same = c.loop-number.invariant.same in
    let name = label_here source before now same i x (omega arith) c.index_mut.ensures.value in
    let named : i < length (map label before) = omega (arith, same.count, length-map before label) in record {
      order = search rules;
      total = omega (arith, c.loop-number.invariant.total, c.in_ok-count_input.ensures.total);
      same = same_next source before now same i x c.count_input.new.source (omega arith) c.index_mut.ensures.value c.in_ok-count_input.ensures.same;
      counts = λ (bytes : List (List ℕ)). λ tell.
          let here = told_here source before now same bytes i x tell (omega arith) c.index_mut.ensures.value in
          let within : i < length bytes = omega (arith, same.count, tell_length source before bytes tell) in
          let so_far = c.loop-number.invariant.counts bytes tell in
          let more = rw here at c.in_ok-count_input.ensures.counts in (
            so_far.0 ++ more.0,
            rows_next (map label before) bytes i (label x) so_far.0 more.0 name named within so_far.1 more.1,
            count_more c.args.counts.now.order _ so_far.0 more.0 (λ p. count_at p c.loop-number.counts.pairs) (λ p. count_at p c.count_input.new.counts.pairs) c.loop-number.invariant.order so_far.2 more.2,
          );
      first = λ (bytes : List (List ℕ)). λ tell.
          let here = told_here source before now same bytes i x tell (omega arith) c.index_mut.ensures.value in
          let within : i < length bytes = omega (arith, same.count, tell_length source before bytes tell) in
          passed_here _ _ _ (c.loop-number.invariant.first bytes tell ∙ bad_next (map label before) bytes i (label x) name named within) (rw here at c.in_ok-count_input.ensures.first);
    }
