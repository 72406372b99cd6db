use Rattle.std.proofs.Common.{◌≡◌, ◌≤◌, ◌-◌, ◌+◌, ◌∙◌, drop, length, take, arith, rules}
use Rattle.hx_outside.specs.Folders.{contents}
use Rattle.hx_outside.specs.Disk.{ReadsBytes}
use Rattle.hx_outside.proofs.Runs.{same_next}
use Rattle.hx_publish.proofs.Pieces.{go_on}
use Rattle.hx_publish.proofs.reading.fill.Goals as goal

pub returns-in_err-count-clause-passes : goal.returns-in_err-count-clause-passes
returns-in_err-count-clause-passes g c tells =
    let run = c.loop-at.invariant.passes tells in
    same_next g.S.Store.disk c.args.store.now c.loop-at.store c.read.new.self tells run (c.read.ensures.acts run.told).passes

pub returns-then-count-eq0-clause-passes : goal.returns-then-count-eq0-clause-passes
returns-then-count-eq0-clause-passes g c tells =
    let run = c.loop-at.invariant.passes tells in
    same_next g.S.Store.disk c.args.store.now c.loop-at.store c.read.new.self tells run (c.read.ensures.acts run.told).passes

pub loop-at-preserved : goal.loop-at-preserved
loop-at-preserved g c = record {
  passes = λ tells. let run = c.loop-at.invariant.passes tells in same_next g.S.Store.disk c.args.store.now c.loop-at.store c.read.new.self tells run (c.read.ensures.acts run.told).passes;
  later = omega (arith, c.loop-at.invariant.later, c.read.ensures.cause.later);
  room = search rules;
  within = search rules;
  front = λ tells.
      let run = c.loop-at.invariant.passes tells in
      let d = g.S.Store.disk in
      let file = contents (d.reads c.args.store.now c.args.name.now) in
      let read : ReadsBytes (d.reads c.loop-at.store c.args.name.now) (c.args.from + c.loop-at.at) (take (length c.loop-at.buf - c.loop-at.at) (drop c.loop-at.at c.loop-at.buf)) c.read.new.buf c.in_ok-count.count = c.in_ok-count.ensures.gives run.told in
      let within : c.in_ok-count.count ≤ length c.read.new.buf = omega (arith, c.in_ok-count.ensures.bound, c.read.auto.buf) in
      let same : take c.in_ok-count.count c.read.new.buf ≡ take c.in_ok-count.count (drop (c.args.from + c.loop-at.at) file) =
      read.front ∙ (λ k. take c.in_ok-count.count (drop (c.args.from + c.loop-at.at) (contents (run.seen k c.args.name.now)))) in
      go_on file c.loop-at.buf c.read.new.buf (drop (length c.loop-at.buf - c.loop-at.at) (drop c.loop-at.at c.loop-at.buf)) c.args.from c.loop-at.at c.in_ok-count.count c.loop-at.invariant.within (c.loop-at.invariant.front tells) same within;
}
