use Rattle.std.proofs.Common.{◌-◌, ◌≡◌, ◌≤◌, IfSome, length, take, vec_len}
use Rattle.hx_outside.specs.Sources.{SameSource}
use Rattle.hx_inputs.proofs.input.read_all.Given as goal

-- what was read so far is the front of the bytes
abbrev pub invariant-loop-at : goal.invariant-loop-at
invariant-loop-at g l = record {
  same : SameSource g.Src.Source.source l.fn.source l.source;
  room : vec_len l.piece ≡ 16384;
  within : l.at ≤ l.len;
  whole : IfSome (g.Src.Source.source.told l.fn.source) (λ bytes. l.len ≡ length bytes);
  front : IfSome (g.Src.Source.source.told l.fn.source) (λ bytes. l.all.items ≡ take l.at bytes);
}

abbrev pub decreases-loop-at : goal.decreases-loop-at
decreases-loop-at g l = l.len - l.at
