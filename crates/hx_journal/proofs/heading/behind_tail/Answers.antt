use Rattle.std.proofs.Common.{arith, rules}
use Rattle.hx_base.specs.Limits.{FitsLimits}
use Rattle.hx_journal.specs.Headers.{settings_of}
use Rattle.hx_journal.proofs.Headed.{limits-are, no-count, no-highest, no-lowest, no-margin, no-threshold, some-end, some-inputs, tail-read, told-as}
use Rattle.hx_journal.proofs.heading.behind_tail.Goals as goal

pub returns-in_err-lowest : goal.returns-in_err-lowest
returns-in_err-lowest c = rw c.from_residual.ensures (λ s xs r fits is. no-lowest s xs r c.args.text.now fits is c.in_err-lowest.ensures)

pub returns-in_err-highest : goal.returns-in_err-highest
returns-in_err-highest c =
    let a = c.in_ok-lowest in
    rw c.from_residual-in_err-highest.ensures (λ s xs r fits is. no-highest s xs r c.args.text.now fits is a.lowest a.rest.now a.ensures c.in_err-highest.ensures)

pub returns-in_err-threshold : goal.returns-in_err-threshold
returns-in_err-threshold c =
    let a = c.in_ok-lowest in
    let b = c.in_ok-highest in
    rw c.from_residual-in_err-threshold.ensures (λ s xs r fits is. no-threshold s xs r c.args.text.now fits is a.lowest a.rest.now a.ensures b.highest b.rest.now b.ensures c.in_err-threshold.ensures)

pub returns-in_err-margin_order : goal.returns-in_err-margin_order
returns-in_err-margin_order c =
    let a = c.in_ok-lowest in
    let b = c.in_ok-highest in
    let t = c.in_ok-threshold in
    rw c.from_residual-in_err-margin_order.ensures
    (λ s xs r fits is. no-margin s xs r c.args.text.now fits is a.lowest a.rest.now a.ensures b.highest b.rest.now b.ensures t.threshold t.rest.now t.ensures c.in_err-margin_order.ensures)

pub returns-in_err-count : goal.returns-in_err-count
returns-in_err-count c =
    let a = c.in_ok-lowest in
    let b = c.in_ok-highest in
    let t = c.in_ok-threshold in
    let m = c.in_ok-margin_order in
    rw c.from_residual-in_err-count.ensures
    (λ s xs r fits is. no-count s xs r c.args.text.now fits is a.lowest a.rest.now a.ensures b.highest b.rest.now b.ensures t.threshold t.rest.now t.ensures m.margin_order m.rest.now m.ensures c.in_err-count.ensures)

pub returns-then-not-fit : goal.returns-then-not-fit
returns-then-not-fit c s xs r fits is =
    let a = c.in_ok-lowest in
    let b = c.in_ok-highest in
    let t = c.in_ok-threshold in
    let m = c.in_ok-margin_order in
    grind (arith, c.if-not-fit.ensures.1 (limits-are s xs r c.args.text.now fits is a.lowest a.rest.now a.ensures b.highest b.rest.now b.ensures t.threshold t.rest.now t.ensures m.margin_order m.rest.now m.ensures))

pub returns-in_err-end : goal.returns-in_err-end
returns-in_err-end c =
    let a = c.in_ok-lowest in
    let b = c.in_ok-highest in
    let t = c.in_ok-threshold in
    let m = c.in_ok-margin_order in
    let n = c.in_ok-count in
    rw c.from_residual-in_err-end.ensures
    (λ s xs r fits is. some-inputs s xs r c.args.text.now fits is a.lowest a.rest.now a.ensures b.highest b.rest.now b.ensures t.threshold t.rest.now t.ensures m.margin_order m.rest.now m.ensures n.count n.rest.now n.ensures c.in_err-end.ensures)

pub returns : goal.returns
returns c =
    let a = c.in_ok-lowest in
    let b = c.in_ok-highest in
    let t = c.in_ok-threshold in
    let m = c.in_ok-margin_order in
    let n = c.in_ok-count in
    let end = c.in_ok-end.ensures in
    let limits : FitsLimits (settings_of a.lowest b.highest t.threshold m.margin_order) = search (rules, c.if-not-fit.ensures.0) in
    told-as c.behind.result _ _ _ _ c.behind.ensures
    (λ none s xs r fits is. none r (some-end s xs r c.args.text.now fits is a.lowest a.rest.now a.ensures b.highest b.rest.now b.ensures t.threshold t.rest.now t.ensures m.margin_order m.rest.now m.ensures n.count n.rest.now n.ensures c.in_ok-end.end.now end.0 end.1 end.2).1)
    (λ after at. tail-read c.args.text.now a.rest.now b.rest.now t.rest.now m.rest.now n.rest.now c.in_ok-end.end.now after.now a.lowest b.highest t.threshold m.margin_order n.count end.0 a.ensures b.ensures t.ensures m.ensures n.ensures limits end.1 end.2 at)
