use Rattle.std.proofs.Common.{◌≡◌, ◌≤◌, ◌-◌, [], drop, length, map}
use Rattle.csv.specs.Machine.{next_record}
use Rattle.csv.specs.Reading.{default_config}
use Rattle.csv.specs.declared.parser.State.TheVariants as st
use Rattle.hx_rows.proofs.plain.take_line.Given as goal

-- the record of the line is that of what is left of it behind the fields so far
abbrev pub invariant-fields : goal.invariant-fields
invariant-fields l = record {
  high : l.from ≤ length l.text;
  read : next_record default_config st.StartRecord [] [] (drop l.at l.text)
      ≡ next_record default_config st.StartField (map (λ field. field.now) l.fields.items) [] (drop l.from l.text);
}

abbrev pub decreases-fields : goal.decreases-fields
decreases-fields l = length l.text - l.from
