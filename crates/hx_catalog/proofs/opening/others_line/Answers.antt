use Rattle.std.proofs.Common.{◌≡◌, ◌+◌, inr, length, rules, take}
use Rattle.hx_catalog.specs.Lines.{text_of}
use Rattle.hx_catalog.specs.Properties.{property_lines}
use Rattle.hx_catalog.proofs.Opened.{kind-place}
use Rattle.hx_catalog.proofs.opening.others_line.Goals as goal

pub returns-then-properties : goal.returns-then-properties
returns-then-properties c =
    let of = c.args.properties.now in
    let same : of.settings.name ≡ c.args.name.now = search rules in
    let place : 28 + length c.as_str-then-properties.result.now ≡ length (text_of (take 2 (property_lines of))) = rw (c.as_str-then-properties.ensures.bytes, ← same) (kind-place of) in
    inr (same, c.if-properties.true, place)
