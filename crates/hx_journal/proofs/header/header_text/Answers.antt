use Rattle.std.proofs.Common.{arith}
use Rattle.hx_journal.specs.Headers.{IsHeading, head_lines, heading_of, listed, written_version}
use Rattle.hx_journal.proofs.Written.{all-lines, length-listed}
use Rattle.hx_journal.proofs.header.header_text.Goals as goal

pub returns-clause-text : goal.returns-clause-text
returns-clause-text c =
    let inputs = listed c.args.lens.now c.args.words.now in
    rw (length-listed c.args.lens.now c.args.words.now c.requires)
    (all-lines (head_lines written_version c.args.settings.now _) inputs c.in_ok-text.text.items c.push_input_lines.new.text.items c.extend_from_slice.new.self.items c.in_ok-text.ensures.lines c.in_ok-push_input_lines.ensures.lines c.in_ok-extend_from_slice.ensures.items)

pub returns-clause-heading : goal.returns-clause-heading
returns-clause-heading c limits =
    let heading = heading_of c.args.settings.now c.args.lens.now c.args.words.now in
    let is : IsHeading heading = record {
      version = omega arith;
      name = c.in_ok-text.ensures.name;
      limits = limits;
      count = omega (arith, length-listed c.args.lens.now c.args.words.now c.requires);
      inputs = c.in_ok-push_input_lines.ensures.inputs;
    } in
    (is, (heading, is, returns-clause-text c))
