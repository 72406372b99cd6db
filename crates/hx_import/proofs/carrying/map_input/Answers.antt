use Rattle.std.proofs.Common.{Err, Some, rules, ◌≡◌}
use Rattle.hx_book.specs.Tasks.{task}
use Rattle.hx_import.proofs.Working.{refused_result}
use Rattle.hx_import.proofs.carrying.map_input.Goals as goal

pub returns-in_err-bytes-clause-cause : goal.returns-in_err-bytes-clause-cause
returns-in_err-bytes-clause-cause g c = λ faults.
    let is : c.from_residual.result ≡ Err c.in_err-bytes.field-0.0 = search rules in
    rw is (c.in_err-bytes.ensures.cause faults)

pub map_file-requires-clause-input : goal.map_file-requires-clause-input
map_file-requires-clause-input g c = rw (c.name.ensures, c.deref.ensures.value) c.in_ok-bytes.ensures.bytes

pub returns-clause-cause : goal.returns-clause-cause
returns-clause-cause g c = λ faults. refused_result g.J.Job.of g.Src.Source.source (task 1 c.args.number) (Some c.read_source.new.source) faults c.map_file.result c.map_file.ensures.cause
