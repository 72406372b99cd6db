use Rattle.std.proofs.Common.{◌∙◌, refl, sym, ap, inl, inr, is_some, arith}
use Rattle.hx_book.specs.Books.{Shown}
use Rattle.hx_book.proofs.Holding.{failed_kept, put_kept, refused_again, refused_first}
use Rattle.hx_book.proofs.book.Book.refuse.Goals as goal

pub invariant_of-self : goal.invariant_of-self
invariant_of-self g c =
    let held = rw (← c.self.view_is) at c.requires.held in
    let kind = rw (← c.self.view_is) at c.requires.kind in
    put_kept g.J.Job.of g.Src.Source.source g.S.Store.disk _ c.self.invariant c.args.claimed.task c.args.claimed.source c.put_source.new.homes.items held kind c.requires.source c.put_source.ensures c.in-Some.field-0 c.in-Some.is

pub returns-in-Some-clause-free : goal.returns-in-Some-clause-free
returns-in-Some-clause-free g c = refl

pub returns-in-Some-clause-kept : goal.returns-in-Some-clause-kept
returns-in-Some-clause-kept g c = inl (ap is_some c.in-Some.is)

pub returns-in-Some-clause-same : goal.returns-in-Some-clause-same
returns-in-Some-clause-same g c = (ap (λ (s : Shown). s.records) c.self.view_is, ap (λ (s : Shown). s.stage) c.self.view_is, ap (λ (s : Shown). s.settings) c.self.view_is, ap (λ (s : Shown). s.faults) c.self.view_is)

pub invariant_of-self-then-is_outside : goal.invariant_of-self-then-is_outside
invariant_of-self-then-is_outside g c =
    let held = rw (← c.self.view_is) at c.requires.held in
    let kind = rw (← c.self.view_is) at c.requires.kind in
    let cause = rw (← c.self.view_is) at c.requires.outside_cause in
    failed_kept g.J.Job.of g.Src.Source.source g.S.Store.disk _ c.self.invariant c.args.claimed.task c.args.claimed.source c.put_source.new.homes.items held kind c.requires.source c.put_source.ensures
    c.self.inside.store c.self.inside.journal c.args.refusal c.self.invariant.disk c.self.invariant.good (omega arith) (cause (sym c.is_outside.ensures ∙ c.if-is_outside.true))

pub returns-then-is_outside-clause-free : goal.returns-then-is_outside-clause-free
returns-then-is_outside-clause-free g c = refl

pub returns-then-is_outside-clause-kept : goal.returns-then-is_outside-clause-kept
returns-then-is_outside-clause-kept g c = inl refl

pub returns-then-is_outside-clause-same : goal.returns-then-is_outside-clause-same
returns-then-is_outside-clause-same g c = (ap (λ (s : Shown). s.records) c.self.view_is, ap (λ (s : Shown). s.stage) c.self.view_is, ap (λ (s : Shown). s.settings) c.self.view_is, ap (λ (s : Shown). s.faults) c.self.view_is)

pub invariant_of-self-in-Some-kept : goal.invariant_of-self-in-Some-kept
invariant_of-self-in-Some-kept g c =
    let held = rw (← c.self.view_is) at c.requires.held in
    let kind = rw (← c.self.view_is) at c.requires.kind in
    refused_again g.J.Job.of g.Src.Source.source g.S.Store.disk _ c.self.invariant c.args.claimed.task c.args.claimed.source c.put_source.new.homes.items held kind c.requires.source c.put_source.ensures c.in-Some-kept.field-0 c.in-None.is c.in-Some-kept.is

pub invariant_of-self-in-None-kept : goal.invariant_of-self-in-None-kept
invariant_of-self-in-None-kept g c =
    let held = rw (← c.self.view_is) at c.requires.held in
    let kind = rw (← c.self.view_is) at c.requires.kind in
    refused_first g.J.Job.of g.Src.Source.source g.S.Store.disk _ c.self.invariant c.args.claimed.task c.args.claimed.source c.put_source.new.homes.items held kind c.requires.source c.put_source.ensures c.args.refusal c.in-None.is c.in-None-kept.is
    (c.requires.task_cause (sym c.is_outside.ensures ∙ c.if-is_outside.false))

pub returns-in-Some-kept-clause-free : goal.returns-in-Some-kept-clause-free
returns-in-Some-kept-clause-free g c = refl

pub returns-in-Some-kept-clause-kept : goal.returns-in-Some-kept-clause-kept
returns-in-Some-kept-clause-kept g c = inr (ap is_some c.in-Some-kept.is)

pub returns-in-Some-kept-clause-same : goal.returns-in-Some-kept-clause-same
returns-in-Some-kept-clause-same g c = (ap (λ (s : Shown). s.records) c.self.view_is, ap (λ (s : Shown). s.stage) c.self.view_is, ap (λ (s : Shown). s.settings) c.self.view_is, ap (λ (s : Shown). s.faults) c.self.view_is)

pub returns-in-None-kept-clause-free : goal.returns-in-None-kept-clause-free
returns-in-None-kept-clause-free g c = refl

pub returns-in-None-kept-clause-kept : goal.returns-in-None-kept-clause-kept
returns-in-None-kept-clause-kept g c = inr refl

pub returns-in-None-kept-clause-same : goal.returns-in-None-kept-clause-same
returns-in-None-kept-clause-same g c = (ap (λ (s : Shown). s.records) c.self.view_is, ap (λ (s : Shown). s.stage) c.self.view_is, ap (λ (s : Shown). s.settings) c.self.view_is, ap (λ (s : Shown). s.faults) c.self.view_is)
