use Rattle.std.proofs.Common.{◌-◌, arith, drop, get_or, sym, take}
use Rattle.hx_rows.proofs.Commas.{eight-inside, part-longer}
use Rattle.hx_rows.proofs.Lines.{above-push, part-more}
use Rattle.hx_rows.proofs.plain.run_end.Goals as goal

pub returns-then-above-lt8-clause-run : goal.returns-then-above-lt8-clause-run
returns-then-above-lt8-clause-run c =
    part-longer c.args.text.now c.in-Some.front.now c.args.from c.words.end c.first_above-above.result c.words.invariant.low c.first_above-above.ensures.few (sym c.in-Some.ensures.cases.same) c.words.invariant.run c.first_above-above.ensures.run

pub words-preserved : goal.words-preserved
words-preserved c = record {
  low = omega (arith, c.words.invariant.low);
  high = eight-inside c.args.text.now c.words.end c.first_above-above.result c.words.invariant.high c.first_above-above.ensures.few c.in-Some.ensures.cases.enough;
  run = part-longer c.args.text.now c.in-Some.front.now c.args.from c.words.end c.first_above-above.result c.words.invariant.low c.first_above-above.ensures.few (sym c.in-Some.ensures.cases.same) c.words.invariant.run c.first_above-above.ensures.run;
}

pub run-preserved : goal.run-preserved
run-preserved c =
    let i = c.run.i in
    let text = c.args.text.now in
    rw (part-more text c.args.from i (omega (arith, c.words.invariant.low, c.run.auto.i)) c.run-test.true)
    (above-push (take (i - c.args.from) (drop c.args.from text)) (get_or text i 0) c.run.invariant (omega arith))
