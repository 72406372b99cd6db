use Rattle.std.proofs.Common.{◌∙◌, arith}
use Rattle.hx_hist.specs.declared.hist.Pair.{Pair}
use Rattle.hx_hist.proofs.Merging.{merged_both, merged_left, merged_right, room_both, room_left, room_right}
use Rattle.hx_hist.proofs.hist.merging.merged.Goals as goal

-- what the code reads where there is nothing
nothing : Pair
nothing = record { pixel = 0; count = 0 }

pub push-requires-clause-total : goal.push-requires-clause-total
unfolding nothing
push-requires-clause-total c = room_left c.args.left.now c.args.right.now c.loop-i.i c.loop-i.j c.loop-i.all.pairs nothing c.loop-i.invariant.merged (omega arith) c.requires.total

pub loop-i-preserved-then-one-other : goal.loop-i-preserved-then-one-other
unfolding nothing
loop-i-preserved-then-one-other c = record {
  order = c.in_ok-push.ensures.order ∙ c.loop-i.invariant.order;
  merged = rw c.in_ok-push.ensures.pairs
      (merged_left c.args.left.now c.args.right.now c.loop-i.i c.loop-i.j c.loop-i.all.pairs nothing c.requires.left.ascending c.loop-i.invariant.merged (omega arith) (λ within. c.if-one-other.true));
}

pub push-requires-then-other-one-clause-total : goal.push-requires-then-other-one-clause-total
unfolding nothing
push-requires-then-other-one-clause-total c = room_right c.args.left.now c.args.right.now c.loop-i.i c.loop-i.j c.loop-i.all.pairs nothing c.loop-i.invariant.merged (omega arith) c.requires.total

pub loop-i-preserved-then-other-one : goal.loop-i-preserved-then-other-one
unfolding nothing
loop-i-preserved-then-other-one c = record {
  order = c.in_ok-push-2.ensures.order ∙ c.loop-i.invariant.order;
  merged = rw c.in_ok-push-2.ensures.pairs
      (merged_right c.args.left.now c.args.right.now c.loop-i.i c.loop-i.j c.loop-i.all.pairs nothing c.requires.right.ascending c.loop-i.invariant.merged (omega arith) (λ within. c.if-other-one.true));
}

pub push-requires-else-other-one-clause-total : goal.push-requires-else-other-one-clause-total
unfolding nothing
push-requires-else-other-one-clause-total c = room_both c.args.left.now c.args.right.now c.loop-i.i c.loop-i.j c.loop-i.all.pairs nothing c.loop-i.invariant.merged (omega arith) (omega arith) c.requires.total

pub loop-i-preserved : goal.loop-i-preserved
unfolding nothing
loop-i-preserved c = record {
  order = c.in_ok-push-3.ensures.order ∙ c.loop-i.invariant.order;
  merged = rw c.in_ok-push-3.ensures.pairs
      (merged_both c.args.left.now c.args.right.now c.loop-i.i c.loop-i.j c.loop-i.all.pairs nothing c.requires.left.ascending c.requires.right.ascending c.loop-i.invariant.merged (omega arith) (omega arith)
      (omega (arith, c.if-one-other.false, c.if-other-one.false)));
}

pub push-requires-in-loop-i-2-clause-total : goal.push-requires-in-loop-i-2-clause-total
unfolding nothing
push-requires-in-loop-i-2-clause-total c = room_left c.args.left.now c.args.right.now c.loop-i-2.i c.loop-i.j c.loop-i-2.all.pairs nothing c.loop-i-2.invariant.merged (omega arith) c.requires.total

pub loop-i-2-preserved : goal.loop-i-2-preserved
unfolding nothing
loop-i-2-preserved c = record {
  order = c.in_ok-push-4.ensures.order ∙ c.loop-i-2.invariant.order;
  merged = rw c.in_ok-push-4.ensures.pairs
      (merged_left c.args.left.now c.args.right.now c.loop-i-2.i c.loop-i.j c.loop-i-2.all.pairs nothing c.requires.left.ascending c.loop-i-2.invariant.merged (omega arith)
      (λ within. absurd (omega (arith, within, c.loop-i-2.invariant.one_left (omega arith)))));
  one_left = λ next. c.loop-i-2.invariant.one_left (omega arith);
}

pub push-requires-in-loop-j-clause-total : goal.push-requires-in-loop-j-clause-total
unfolding nothing
push-requires-in-loop-j-clause-total c = room_right c.args.left.now c.args.right.now c.loop-i-2.i c.loop-j.j c.loop-j.all.pairs nothing c.loop-j.invariant.merged (omega arith) c.requires.total

pub loop-j-preserved : goal.loop-j-preserved
unfolding nothing
loop-j-preserved c = record {
  order = c.in_ok-push-5.ensures.order ∙ c.loop-j.invariant.order;
  merged = rw c.in_ok-push-5.ensures.pairs
      (merged_right c.args.left.now c.args.right.now c.loop-i-2.i c.loop-j.j c.loop-j.all.pairs nothing c.requires.right.ascending c.loop-j.invariant.merged (omega arith)
      (λ within. absurd (omega (arith, within, c.loop-j.invariant.left_done))));
  left_done = c.loop-j.invariant.left_done;
}
