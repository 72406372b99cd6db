use Rattle.std.proofs.Common.{[], take, get_or}
use Rattle.hx_catalog.specs.Properties.{property_lines}
use Rattle.hx_catalog.proofs.Stages.{line-written}
use Rattle.hx_catalog.proofs.properties.properties_text.Goals as goal

pub returns : goal.returns
returns c =
    let lines = property_lines c.args.of.now in
    let written1 = line-written [] (get_or lines 0 []) c.in_ok-text.text.items c.push_field.new.text.items c.in_ok-text.ensures.items c.in_ok-push_field.ensures in
    let written2 = line-written (take 1 lines) (get_or lines 1 []) c.push_field.new.text.items c.push_field-2.new.text.items written1 (rw (c.as_bytes.ensures.value, c.as_str.ensures.bytes) at c.in_ok-push_field-2.ensures) in
    let written3 = line-written (take 2 lines) (get_or lines 2 []) c.push_field-2.new.text.items c.push_field-3.new.text.items written2 (rw c.kind_of.ensures at c.in_ok-push_field-3.ensures) in
    let written4 = line-written (take 3 lines) (get_or lines 3 []) c.push_field-3.new.text.items c.push_number_field.new.text.items written3 c.in_ok-push_number_field.ensures in
    let written5 = line-written (take 4 lines) (get_or lines 4 []) c.push_number_field.new.text.items c.push_number_field-2.new.text.items written4 (rw c.from.ensures at c.in_ok-push_number_field-2.ensures) in
    let written6 = line-written (take 5 lines) (get_or lines 5 []) c.push_number_field-2.new.text.items c.push_number_field-3.new.text.items written5 (rw c.from-2.ensures at c.in_ok-push_number_field-3.ensures) in
    let written7 = line-written (take 6 lines) (get_or lines 6 []) c.push_number_field-3.new.text.items c.push_number_field-4.new.text.items written6 c.in_ok-push_number_field-4.ensures in
    let written8 = line-written (take 7 lines) (get_or lines 7 []) c.push_number_field-4.new.text.items c.push_number_field-5.new.text.items written7 (rw c.from-3.ensures at c.in_ok-push_number_field-5.ensures) in
    line-written (take 8 lines) (get_or lines 8 []) c.push_number_field-5.new.text.items c.push_number_field-6.new.text.items written8 (rw c.from-4.ensures at c.in_ok-push_number_field-6.ensures)
