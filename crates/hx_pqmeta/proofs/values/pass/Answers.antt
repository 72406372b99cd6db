use Rattle.std.proofs.Common.{◌≡◌, ◌-◌, ℕ, Ok, Err, inr, subst, arith}
use Rattle.std.proofs.lemmas.Result.{err_from_is_err_and}
use Rattle.hx_thrift.specs.Values.{Value}
use Rattle.hx_thrift.specs.Reading.{value_at}
use Rattle.hx_pqmeta.proofs.Walked.{placed_refusal}
use Rattle.hx_pqmeta.proofs.values.pass.Goals as goal

pub returns-in_err-skip : goal.returns-in_err-skip
returns-in_err-skip c levels sum =
    let p = err_from_is_err_and c.from_residual.result c.from_residual.ensures.1 in
    let same : 32 - c.args.depth ≡ levels = omega (arith, sum) in
    let refused = subst (λ (n : ℕ). value_at n c.args.kind c.args.reader.now ≡ Err c.in_err-skip.field-0.0) same c.in_err-skip.ensures.0 in
    rw (p.1, p.2) (inr (placed_refusal (value_at levels c.args.kind c.args.reader.now) c.in_err-skip.field-0.0 refused))

pub returns : goal.returns
returns c levels sum =
    let same : 32 - c.args.depth ≡ levels = omega (arith, sum) in
    let read = subst (λ (n : ℕ). (value : Value n) × (value_at n c.args.kind c.args.reader.now ≡ Ok (value, c.skip.new.self))) same c.in_ok-skip.ensures in
    (read.0, read.1, tt)
