use Rattle.std.proofs.Common.{◌∙◌, ◌+◌, ◌-◌, ◌*◌, ◌/◌, ◌%◌, sym, length-drop, arith}
use Rattle.hx_pqread.proofs.Numbered.{next_eight}
use Rattle.hx_pqread.proofs.numbers.push_wide.Goals as goal

pub loop-preserved : goal.loop-preserved
loop-preserved c =
    let next = next_eight ((c.args.count / 8 - c.loop.counter) * 8 + c.args.count % 8) ((c.args.count / 8 - (c.loop.counter + 1)) * 8 + c.args.count % 8) c.loop.left.now c.loop.numbers.items c.extend_from_slice.new.self.items (omega arith) (rw c.eight_numbers.ensures.numbers at c.in_ok-extend_from_slice.ensures.items) in
    record {
      enough = rw c.eight_numbers.ensures.rest (omega (arith, length-drop 64 c.loop.left.now, c.loop.invariant.enough));
      so_far = rw c.eight_numbers.ensures.rest (sym next ∙ c.loop.invariant.so_far);
    }
