use Rattle.std.proofs.Common.{[], take, get_or}
use Rattle.hx_journal.specs.Headers.{head_lines, written_version}
use Rattle.hx_journal.proofs.Written.{line-written}
use Rattle.hx_journal.proofs.header.head_text.Goals as goal

pub returns-clause-lines : goal.returns-clause-lines
returns-clause-lines c =
    let lines = head_lines written_version c.args.settings.now c.args.count in
    let written1 = line-written [] (get_or lines 0 []) c.in_ok-text.text.items c.push_number_line.new.text.items c.in_ok-text.ensures.items c.in_ok-push_number_line.ensures in
    let written2 = line-written (take 1 lines) (get_or lines 1 []) c.push_number_line.new.text.items c.push_name_line.new.text.items written1 (rw c.as_str.ensures.bytes at c.in_ok-push_name_line.ensures) in
    let written3 = line-written (take 2 lines) (get_or lines 2 []) c.push_name_line.new.text.items c.push_number_line-2.new.text.items written2 (rw c.from.ensures at c.in_ok-push_number_line-2.ensures) in
    let written4 = line-written (take 3 lines) (get_or lines 3 []) c.push_number_line-2.new.text.items c.push_number_line-3.new.text.items written3 (rw c.from-2.ensures at c.in_ok-push_number_line-3.ensures) in
    let written5 = line-written (take 4 lines) (get_or lines 4 []) c.push_number_line-3.new.text.items c.push_number_line-4.new.text.items written4 c.in_ok-push_number_line-4.ensures in
    let written6 = line-written (take 5 lines) (get_or lines 5 []) c.push_number_line-4.new.text.items c.push_number_line-5.new.text.items written5 (rw c.from-3.ensures at c.in_ok-push_number_line-5.ensures) in
    line-written (take 6 lines) (get_or lines 6 []) c.push_number_line-5.new.text.items c.push_number_line-6.new.text.items written6 c.in_ok-push_number_line-6.ensures
