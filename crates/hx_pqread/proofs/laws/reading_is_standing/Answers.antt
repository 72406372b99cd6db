use Rattle.std.proofs.Common.{refl, ap}
use Rattle.hx_thrift.specs.Spelling.{ReadsWhatIsSpelled, ReadsVarints}
use Rattle.hx_pqread.specs.Columns.{columns_in}
use Rattle.hx_pqread.specs.Laws.{refusal_of}
use Rattle.hx_pqread.proofs.Standing.{reads_levels, has_levels}
use Rattle.hx_pqread.proofs.Bodied.{reads_body}
use Rattle.hx_pqread.proofs.Chains.{Below}
use Rattle.hx_pqread.proofs.Whole.{column_sound, column_complete, whole_sound, whole_complete, some_columns}
use Rattle.hx_pqread.proofs.laws.reading_is_standing.Goals as goal

below : ReadsWhatIsSpelled → ReadsVarints → Below
below spelling varints = record { spelling = spelling; body = reads_body varints }

pub returns-clause-levels : goal.returns-clause-levels
returns-clause-levels c count bytes levels =
    let law = c.reading_is_spelling.ensures.varint in
    (reads_levels law count bytes levels, has_levels law count bytes levels)

pub returns-clause-body : goal.returns-clause-body
returns-clause-body c = reads_body c.reading_is_spelling.ensures.varint

pub returns-clause-column : goal.returns-clause-column
returns-clause-column c footer file column name values =
    let law = below c.reading_is_spelling.ensures.read c.reading_is_spelling.ensures.varint in
    (column_complete law footer file column name values, column_sound law footer file column name values)

pub returns-clause-read : goal.returns-clause-read
returns-clause-read c file names lists =
    let law = below c.reading_is_spelling.ensures.read c.reading_is_spelling.ensures.varint in
    (whole_complete law file names lists, whole_sound law file names lists)

pub returns-clause-refused : goal.returns-clause-refused
returns-clause-refused c file names =
    let law = below c.reading_is_spelling.ensures.read c.reading_is_spelling.ensures.varint in
    (some_columns law file names (columns_in file names) refl, λ some. ap refusal_of (whole_complete law file names some.0 some.1))
