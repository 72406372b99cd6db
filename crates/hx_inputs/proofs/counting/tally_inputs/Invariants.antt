use Rattle.std.proofs.Common.{◌≡◌, ◌*◌, ◌^◌, ◌≤◌, List, drop, map, take, ℕ}
use Rattle.hx_base.specs.Pixels.{count_in}
use Rattle.hx_base.specs.declared.row.Row.{Row}
use Rattle.hx_hist.specs.Histograms.{count_at, total_of}
use Rattle.hx_inputs.specs.Inputs.{AreRows, bad_input}
use Rattle.hx_inputs.specs.Sources.{SameSources, Tell}
use Rattle.hx_inputs.proofs.counting.tally_inputs.Given as goal

-- the rows of the inputs so far are counted, and none of these has a fault
abbrev pub invariant-loop-number : goal.invariant-loop-number
invariant-loop-number g l =
    let source = g.Src.Source.source in
    let names = map source.label l.fn.inputs.items in record {
      order : l.counts.order ≡ l.fn.counts.order;
      total : total_of l.counts.pairs ≤ l.number * 2 ^ 40;
      same : SameSources source l.fn.inputs.items l.inputs.items;
      counts : (bytes : List (List ℕ)) → Tell source l.fn.inputs.items bytes →
          (rows : List Row) × AreRows (take l.number names) (take l.number bytes) rows × ((p : ℕ) → count_at p l.counts.pairs ≡ count_in (record { order = l.fn.counts.order; number = p }) rows);
      first : (bytes : List (List ℕ)) → Tell source l.fn.inputs.items bytes → bad_input 0 names bytes ≡ bad_input l.number (drop l.number names) (drop l.number bytes);
    }
