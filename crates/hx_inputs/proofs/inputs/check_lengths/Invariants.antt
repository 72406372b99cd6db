use Rattle.std.proofs.Common.{◌≡◌, List, None, drop, take, ℕ}
use Rattle.hx_inputs.specs.Inputs.{too_long}
use Rattle.hx_inputs.specs.Sources.{SameSources, Tell}
use Rattle.hx_inputs.proofs.inputs.check_lengths.Given as goal

-- no input so far is too long
abbrev pub invariant-loop-number : goal.invariant-loop-number
invariant-loop-number g l = record {
  same : SameSources g.Src.Source.source l.fn.inputs.items l.inputs.items;
  first : (bytes : List (List ℕ)) → Tell g.Src.Source.source l.fn.inputs.items bytes → too_long bytes ≡ too_long (drop l.number bytes);
  passed : (bytes : List (List ℕ)) → Tell g.Src.Source.source l.fn.inputs.items bytes → too_long (take l.number bytes) ≡ None;
}
