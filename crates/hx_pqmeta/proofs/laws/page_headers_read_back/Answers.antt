use Rattle.hx_pqmeta.proofs.Bounds.{page_header_bound}
use Rattle.hx_pqmeta.proofs.HeadersAgain.{fields_again, header_again, header_spelled}
use Rattle.hx_pqmeta.proofs.laws.page_headers_read_back.Goals as goal

pub returns-clause-spelled : goal.returns-clause-spelled
returns-clause-spelled c = header_spelled c.writing_is_spelling.ensures.value

pub returns-clause-fields : goal.returns-clause-fields
returns-clause-fields c = fields_again

pub returns-clause-read : goal.returns-clause-read
returns-clause-read c = header_again c.writing_is_spelling.ensures.value c.reading_is_spelling.ensures.read

pub returns-clause-bound : goal.returns-clause-bound
returns-clause-bound c = page_header_bound
