use Rattle.std.proofs.Common.{◌≡◌, ℕ, length, map, string_bytes, ◌∙◌}
use Rattle.std.proofs.lemmas.List.{length-map}
use Rattle.hx_pqread.specs.Columns.{columns_in, HaveRows}
use Rattle.hx_pqread.proofs.Lengths.{whole_lengths, if_ok}
use Rattle.hx_pqread.proofs.file.columns.Goals as goal

pub returns-clause-count : goal.returns-clause-count
returns-clause-count c =
    let names = map string_bytes c.args.names.now in
    if_ok c.columns_of.result (λ columns. columns) (columns_in c.args.bytes.now names) (λ columns. length columns ≡ length c.args.names.now) c.columns_of.ensures
    (λ columns is. (whole_lengths c.args.bytes.now names columns is).0 ∙ length-map c.args.names.now string_bytes)

pub returns-clause-rows : goal.returns-clause-rows
returns-clause-rows c =
    let names = map string_bytes c.args.names.now in
    if_ok c.columns_of.result (λ columns. columns) (columns_in c.args.bytes.now names) (λ columns. (rows : ℕ) × HaveRows rows columns) c.columns_of.ensures
    (λ columns is. let h = whole_lengths c.args.bytes.now names columns is in (h.1, h.2))
