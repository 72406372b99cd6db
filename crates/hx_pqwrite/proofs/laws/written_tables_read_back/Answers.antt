use Rattle.hx_pqwrite.proofs.Tables.{table_again}
use Rattle.hx_pqwrite.proofs.laws.written_tables_read_back.Goals as goal

pub returns : goal.returns
returns c = table_again c.page_headers_read_back.ensures.spelled c.page_headers_read_back.ensures.fields c.footers_read_back.ensures.read
