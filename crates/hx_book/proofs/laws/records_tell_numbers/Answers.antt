use Rattle.hx_book.proofs.Totals.{numbers_told}
use Rattle.hx_book.proofs.laws.records_tell_numbers.Goals as goal

pub returns : goal.returns
returns c = λ job records limits turn whole. numbers_told c.partitions_of_rows.ensures.each_once job records limits turn whole
