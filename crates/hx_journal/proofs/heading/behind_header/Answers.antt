use Rattle.std.proofs.Common.{arith, rules}
use Rattle.hx_base.specs.Names.{IsName}
use Rattle.hx_journal.proofs.Headed.{header-read, no-name, no-tail, no-title, some-name, told-as, version-low}
use Rattle.hx_journal.proofs.heading.behind_header.Goals as goal

pub returns-in_err-version : goal.returns-in_err-version
returns-in_err-version c = rw c.from_residual.ensures (λ header r (h, fits, spelled) is. no-title h header r c.args.bytes.now fits spelled is c.in_err-version.ensures)

pub returns-then-version-gt-HIGHEST_VERSION : goal.returns-then-version-gt-HIGHEST_VERSION
returns-then-version-gt-HIGHEST_VERSION c header r (h, fits, spelled) is =
    let a = c.in_ok-version in
    omega (arith, c.if-version-gt-HIGHEST_VERSION.true, version-low h header r c.args.bytes.now fits spelled is a.version a.rest.now a.ensures)

pub returns-in_err-name : goal.returns-in_err-name
returns-in_err-name c =
    let a = c.in_ok-version in
    rw c.from_residual-in_err-name.ensures (λ header r (h, fits, spelled) is. no-name h header r c.args.bytes.now fits spelled is a.version a.rest.now a.ensures c.in_err-name.ensures)

pub returns-then-not-is_name : goal.returns-then-not-is_name
returns-then-not-is_name c header r (h, fits, spelled) is =
    let a = c.in_ok-version in
    let b = c.in_ok-name in
    grind (arith, c.if-not-is_name.ensures.1 (some-name h header r c.args.bytes.now fits spelled is a.version a.rest.now a.ensures b.name.now b.rest.now b.ensures))

pub returns : goal.returns
returns c =
    let a = c.in_ok-version in
    let b = c.in_ok-name in
    let good : IsName b.name.now = search (rules, c.if-not-is_name.ensures.0) in
    told-as c.behind_tail.result _ _ _ _ c.behind_tail.ensures
    (λ none header r heading is. no-tail heading.0 header r c.args.bytes.now heading.1 heading.2 is a.version a.rest.now a.ensures b.name.now b.rest.now b.ensures none)
    (λ after tail. header-read c.args.bytes.now a.rest.now b.name.now b.rest.now after.now a.version a.ensures (omega arith) b.ensures good tail)
