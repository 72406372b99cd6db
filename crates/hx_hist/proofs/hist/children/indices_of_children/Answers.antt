use Rattle.std.proofs.Common.{◌+◌, ◌*◌, ◌^◌, arith}
use Rattle.hx_hist.proofs.Children.{children, ordered, parts_at}
use Rattle.hx_base.proofs.Powers.{end_bounds}
use Rattle.hx_hist.proofs.hist.children.indices_of_children.Goals as goal

pub overflow_add-number : goal.overflow_add-number
overflow_add-number c = let bounds = end_bounds c.args.number c.args.steps c.requires.range in omega (arith, bounds.0)

pub returns : goal.returns
returns c =
    let steps = c.args.steps in
    let number = c.args.number in
    let pairs = c.args.pairs.now in
    let start = c.index_of-start in
    let end = c.index_of-end in
    let bounds = end_bounds number steps c.requires.range in
    let first = parts_at number steps start.result pairs (omega (arith, bounds.1, c.requires.range)) start.ensures.within start.ensures.before start.ensures.after in
    let second = parts_at (number + 1) steps end.result pairs (omega (arith, c.requires.range)) end.ensures.within end.ensures.before end.ensures.after in
    let le = ordered (number * 4 ^ steps) ((number + 1) * 4 ^ steps) start.result end.result pairs (record { pixel = 0; count = 0 }) bounds.1 first second in
    record {
      order = le;
      within = end.ensures.within;
      children = children steps number start.result end.result pairs le first second;
    }
