use Rattle.std.proofs.Common.{◌<◌, ◌∙◌, ◌^◌, arith, length}
use Rattle.std.specs.Fmt.{decimal}
use Rattle.std.proofs.lemmas.Fmt.{decimal_nonempty}
use Rattle.std.proofs.lemmas.List.{length-append}
use Rattle.hx_inputs.proofs.Sources.{get_or_any}
use Rattle.hx_cli.proofs.Spaced.{spaced_next}
use Rattle.hx_cli.specs.Neighbours.{with_blank}
use Rattle.hx_cli.proofs.neighbours.spaced_numbers.Goals as goal

pub loop-i-preserved : goal.loop-i-preserved
loop-i-preserved c =
    let numbers = c.args.around.now in
    let n = c.get.result in
    let pushed = c.in_ok-push_number.ensures in
    let text = c.loop-i.text.items in
    let fits : n < 2 ^ 64 = omega arith in
    let below : c.loop-i.i < length numbers = rw c.count-i-end.ensures.value at c.loop-i-test.true in record {
      text = pushed ∙ spaced_next numbers c.loop-i.i n text below (c.get.ensures ∙ get_or_any numbers c.loop-i.i 0 n below) c.loop-i.invariant.some c.loop-i.invariant.text;
      some = λ _. rw pushed (omega (arith, length-append (with_blank text) (decimal n), decimal_nonempty n fits));
    }
