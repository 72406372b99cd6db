use Rattle.std.proofs.Common.{rules}
use Rattle.hx_real.proofs.KnownBytes.{grown_on}
use Rattle.hx_real.proofs.writing.write_all.Goals as goal

pub loop-at-preserved : goal.loop-at-preserved
loop-at-preserved g c = record {
  within = search rules;
  written = grown_on _ _ _ c.args.bytes.now c.loop-at.at c.in_ok-at.field-0 c.loop-at.invariant.written c.in_ok-at.ensures.ok;
}
