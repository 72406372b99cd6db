use Rattle.std.proofs.Common.{◌≡◌, MatchOption, count_by, take}
use Rattle.std.specs.Str.{bytes_eq}
use Rattle.hx_rows.proofs.Columns.{IsOnlyIndex}
use Rattle.hx_rows.proofs.header.column_of.Given as goal

-- the fields so far have the name not at all, or once, at the index that was found
abbrev pub invariant-loop-column : goal.invariant-loop-column
invariant-loop-column g l =
    let fields = g.F.Fields.fields l.header in
    MatchOption l.found (count_by (bytes_eq l.name) (take l.column fields) ≡ 0) (IsOnlyIndex (bytes_eq l.name) fields l.column)
