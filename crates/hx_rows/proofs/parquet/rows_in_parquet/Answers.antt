use Rattle.hx_base.specs.Columns.{column_names}
use Rattle.hx_rows.specs.Parquet.{parquet_rows}
use Rattle.hx_rows.proofs.Asked.{refused-columns}
use Rattle.hx_rows.proofs.Lengths.{rows-told, wants-told}
use Rattle.hx_rows.proofs.parquet.rows_in_parquet.Goals as goal

pub returns-in-Ok-clause-rows : goal.returns-in-Ok-clause-rows
returns-in-Ok-clause-rows c = rows-told c.args.bytes.now c.in-Ok.rows c.in-Ok.ensures.columns

pub returns-in-Err-clause-fault : goal.returns-in-Err-clause-fault
returns-in-Err-clause-fault c =
    refused-columns c.args.bytes.now c.in-Err.refusal c.refused_file.result (c.in-Err.ensures.refused column_names) c.refused_file.ensures.memory.1 c.refused_file.ensures.fault

pub returns-in-Err-clause-cause : goal.returns-in-Err-clause-cause
returns-in-Err-clause-cause c = λ rows is. wants-told c.refused_file.result (parquet_rows c.args.bytes.now) rows (returns-in-Err-clause-fault c) is
