use Rattle.hx_book.specs.Books.{job_of}
use Rattle.hx_rows.specs.Reading.{rows_of}
use Rattle.hx_import.proofs.Margined.{part_reads}
use Rattle.hx_import.proofs.tasks.margins.rows_in_file.Goals as goal

pub returns-in_ok-place-in-Err-Bad-clause-cause : goal.returns-in_ok-place-in-Err-Bad-clause-cause
unfolding rows_of
returns-in_ok-place-in-Err-Bad-clause-cause g c = λ t. rw c.damaged.ensures (λ p.
    part_reads (job_of g.J.Job.of) c.args.bytes.now c.args.number c.in-Err-Bad.field-0-0 c.in-Err-Bad.field-0-1 (c.requires.file p) (rw c.in-Err-Bad.field-0-is at c.in-Err-Bad.ensures.exact))
