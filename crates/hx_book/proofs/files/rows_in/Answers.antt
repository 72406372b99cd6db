use Rattle.hx_book.proofs.Counted.{map_counted, margin_counted, margin_split_counted, part_counted, plan_counted, split_counted}
use Rattle.hx_book.proofs.files.rows_in.Goals as goal

pub returns-in-Map-clause-rows : goal.returns-in-Map-clause-rows
returns-in-Map-clause-rows c = map_counted c.args.bytes.now c.args.file c.rows_of_map.result _ c.in-Map.is c.rows_of_map.ensures.rows

pub returns-in-Plan-clause-rows : goal.returns-in-Plan-clause-rows
returns-in-Plan-clause-rows c = plan_counted c.args.bytes.now c.args.file c.plan_rows.result c.in-Plan.is c.plan_rows.ensures.rows

pub returns-in-Split-clause-rows : goal.returns-in-Split-clause-rows
returns-in-Split-clause-rows c = split_counted c.args.bytes.now c.args.file c.rows_of_split.result _ c.in-Split.is c.rows_of_split.ensures.rows

pub returns-in-Part-clause-rows : goal.returns-in-Part-clause-rows
returns-in-Part-clause-rows c = part_counted c.args.bytes.now c.args.file c.parquet_rows.result _ c.in-Part.is c.parquet_rows.ensures.rows

pub returns-in-MarginSplit-clause-rows : goal.returns-in-MarginSplit-clause-rows
returns-in-MarginSplit-clause-rows c = margin_split_counted c.args.bytes.now c.args.file c.rows_of_split-in-MarginSplit.result _ c.in-MarginSplit.is c.rows_of_split-in-MarginSplit.ensures.rows

pub returns-in-Margin-clause-rows : goal.returns-in-Margin-clause-rows
returns-in-Margin-clause-rows c = margin_counted c.args.bytes.now c.args.file c.parquet_rows-in-Margin.result _ c.in-Margin.is c.parquet_rows-in-Margin.ensures.rows
