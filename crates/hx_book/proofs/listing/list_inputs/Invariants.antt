use Rattle.std.proofs.Common.{◌≡◌, List, drop, map, take, length, ℕ}
use Rattle.hx_inputs.specs.Inputs.{too_long}
use Rattle.hx_inputs.specs.Sources.{SameSources, Tell}
use Rattle.hx_book.proofs.listing.list_inputs.Given as goal

-- the words and lengths so far
abbrev pub invariant-loop-number : goal.invariant-loop-number
invariant-loop-number g l = record {
  same : SameSources g.Src.Source.source l.fn.inputs.items l.inputs.items;
  words : l.listing.words.items ≡ take l.number (map g.Src.Source.source.label l.fn.inputs.items);
  lens : (bytes : List (List ℕ)) → Tell g.Src.Source.source l.fn.inputs.items bytes → l.listing.lens.items ≡ take l.number (map length bytes);
  first : (bytes : List (List ℕ)) → Tell g.Src.Source.source l.fn.inputs.items bytes → too_long bytes ≡ too_long (drop l.number bytes);
  long : length l.listing.lens.items ≡ l.number;
}
