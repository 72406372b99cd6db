use Rattle.std.proofs.Common.{rules, ◌∙◌, ◌+◌, ◌-◌, sym, true, length-drop, arith}
use Rattle.std.specs.Int.{w64}
use Rattle.std.specs.Int.RustNames.{FitsSigned}
use Rattle.std.proofs.lemmas.Int.{to_z-of_z}
use Rattle.hx_pqread.proofs.Numbered.{next_number, all_numbers}
use Rattle.hx_pqread.proofs.numbers.push_few.Goals as goal

pub loop-preserved : goal.loop-preserved
loop-preserved c =
    let number = c.wide_number-number.result.0 in
    let fits : FitsSigned w64 number = search rules in
    let pushed = rw (to_z-of_z w64 number fits) at c.in_ok-push.ensures.items in
    let next = next_number true (c.args.count - c.loop.counter) (c.args.count - (c.loop.counter + 1)) c.loop.left.now c.loop.numbers.items c.push.new.self.items number (omega arith) c.wide_number-number.ensures.number pushed in
    record {
      enough = rw c.wide_number-number.ensures.rest (omega (arith, length-drop 8 c.loop.left.now, c.loop.invariant.enough));
      so_far = rw c.wide_number-number.ensures.rest (sym next ∙ c.loop.invariant.so_far);
    }

pub returns : goal.returns
returns c = sym (all_numbers true (c.args.count - c.loop.counter) c.loop.left.now c.loop.numbers.items (omega arith)) ∙ c.loop.invariant.so_far
