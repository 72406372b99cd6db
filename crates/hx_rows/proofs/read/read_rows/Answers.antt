use Rattle.hx_rows.specs.Csv.{csv_rows}
use Rattle.hx_rows.specs.Parquet.{parquet_rows}
use Rattle.hx_rows.proofs.Asked.{csv-reads}
use Rattle.hx_rows.proofs.Few.{csv-read, few-read, good-read, parquet-read}
use Rattle.hx_rows.proofs.read.read_rows.Goals as goal

pub returns-then-is_parquet_name-clause-good : goal.returns-then-is_parquet_name-clause-good
returns-then-is_parquet_name-clause-good c = good-read (parquet_rows c.args.bytes.now) c.parquet_rows.result (parquet-read c.args.bytes.now) c.parquet_rows.ensures

pub returns-then-is_parquet_name-clause-few : goal.returns-then-is_parquet_name-clause-few
returns-then-is_parquet_name-clause-few c = few-read (parquet_rows c.args.bytes.now) c.parquet_rows.result (parquet-read c.args.bytes.now) c.parquet_rows.ensures

pub returns-else-is_parquet_name-clause-good : goal.returns-else-is_parquet_name-clause-good
returns-else-is_parquet_name-clause-good c = good-read (csv_rows c.args.bytes.now) c.csv_rows.result (csv-read c.args.bytes.now) c.csv_rows.ensures

pub returns-else-is_parquet_name-clause-few : goal.returns-else-is_parquet_name-clause-few
returns-else-is_parquet_name-clause-few c = few-read (csv_rows c.args.bytes.now) c.csv_rows.result (csv-read c.args.bytes.now) c.csv_rows.ensures

pub returns-else-is_parquet_name-clause-exact : goal.returns-else-is_parquet_name-clause-exact
returns-else-is_parquet_name-clause-exact c = csv-reads c.args.name.now c.args.bytes.now c.csv_rows.result (λ h. let wrong = c.if-is_parquet_name.ensures.1 h in absurd cc) c.csv_rows.ensures
