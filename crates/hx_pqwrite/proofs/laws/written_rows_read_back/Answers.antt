use Rattle.hx_pqwrite.proofs.Rows.{rows_again}
use Rattle.hx_pqwrite.proofs.laws.written_rows_read_back.Goals as goal

pub returns : goal.returns
returns c = rows_again c.written_tables_read_back.ensures c.page_headers_read_back.ensures.bound c.reading_is_standing.ensures.read c.rows_of_their_columns.ensures
