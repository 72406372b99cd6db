use Rattle.std.proofs.Common.{◌∙◌, ◌+◌, ◌-◌, sym, length, arith}
use Rattle.std.specs.Option.{option_map}
use Rattle.hx_pqread.specs.Levels.{run_at, levels_in, told_of}
use Rattle.hx_pqread.proofs.Saying.{none_run, one_more, no_run, all_read, too_few}
use Rattle.hx_pqread.proofs.levels.read_levels.Goals as goal

pub returns-then-told-wanted-clause-value : goal.returns-then-told-wanted-clause-value
returns-then-told-wanted-clause-value c =
    sym (all_read (length c.args.bytes.now - c.loop.counter) (c.args.wanted - c.loop.told.count) c.loop.rest.now c.loop.told (omega arith)) ∙ c.loop.invariant.so_far

pub returns-in-None-clause-value : goal.returns-in-None-clause-value
returns-in-None-clause-value c =
    let none = none_run (c.args.wanted - c.loop.told.count) (run_at c.loop.rest.now) c.in-None.ensures.value in
    sym (no_run (length c.args.bytes.now - c.loop.counter) (c.args.wanted - c.loop.told.count) c.loop.rest.now c.loop.told none (omega arith) (omega arith)) ∙ c.loop.invariant.so_far

pub loop-preserved : goal.loop-preserved
loop-preserved c = record {
  within = c.joined-told.ensures.within;
  few = omega (arith, c.in-Some.ensures.within.1);
  so_far =
      one_more (length c.args.bytes.now - c.loop.counter) (length c.args.bytes.now - (c.loop.counter + 1)) (c.args.wanted - c.loop.told.count) (c.args.wanted - c.joined-told.result.count)
      c.loop.rest.now c.in-Some.after.now c.loop.told c.in-Some.run' c.joined-told.result (option_map told_of (levels_in c.args.wanted c.args.bytes.now))
      c.in-Some.ensures.value (omega arith) (omega arith) c.joined-told.ensures.value (omega (arith, c.joined-told.ensures.count)) c.loop.invariant.so_far;
}

pub returns-then-told-wanted-2-clause-value : goal.returns-then-told-wanted-2-clause-value
returns-then-told-wanted-2-clause-value c =
    sym (all_read (length c.args.bytes.now - c.loop.counter) (c.args.wanted - c.loop.told.count) c.loop.rest.now c.loop.told (omega arith)) ∙ c.loop.invariant.so_far

pub returns-else-told-wanted-2-clause-value : goal.returns-else-told-wanted-2-clause-value
returns-else-told-wanted-2-clause-value c =
    sym (too_few (length c.args.bytes.now - c.loop.counter) (c.args.wanted - c.loop.told.count) c.loop.rest.now c.loop.told (omega arith) (omega arith)) ∙ c.loop.invariant.so_far
