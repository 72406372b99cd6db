use Rattle.std.proofs.Common.{◌∙◌, None, Option, IfSome, IsSome, refl, sym, ap, subst}
use Rattle.hx_base.specs.declared.refusal.Refusal.{Refusal}
use Rattle.hx_book.specs.Books.{IsClosedCause, Shown, count_of_kind, kept_refusal, rows_of_kind}
use Rattle.hx_book.proofs.Ending.{all_back, all_filed, all_numbers, at_home, closed_cause}
use Rattle.hx_book.proofs.book.Book.close.Goals as goal

pub gather-inputs-requires-clause-count : goal.gather-inputs-requires-clause-count
gather-inputs-requires-clause-count g c = c.self.invariant.fitting.count

pub gather-inputs-requires-clause-whole : goal.gather-inputs-requires-clause-whole
gather-inputs-requires-clause-whole g c = at_home g.J.Job.of g.Src.Source.source g.S.Store.disk _ c.self.invariant (rw (← c.self.view_is) at c.requires)

pub returns-then-is_some-clause-back : goal.returns-then-is_some-clause-back
returns-then-is_some-clause-back g c = all_back g.J.Job.of g.Src.Source.source g.S.Store.disk _ c.self.invariant (rw (← c.self.view_is) at c.requires) c.gather-inputs.result.items c.gather-inputs.ensures

pub returns-then-is_some-clause-refusal : goal.returns-then-is_some-clause-refusal
returns-then-is_some-clause-refusal g c = c.kept_refusal-refusal.ensures ∙ ap (λ (s : Shown). kept_refusal s.first s.kept) c.self.view_is

pub returns-then-is_some-clause-cause : goal.returns-then-is_some-clause-cause
returns-then-is_some-clause-cause g c = subst (λ (o : Option Refusal). IfSome o (IsClosedCause g.J.Job.of g.Src.Source.source c.gather-inputs.result.items (g.S.Store.disk.faults c.self.inside.store))) (sym c.kept_refusal-refusal.ensures)
    (closed_cause g.J.Job.of g.Src.Source.source g.S.Store.disk _ c.self.invariant (rw (← c.self.view_is) at c.requires) c.gather-inputs.result.items c.gather-inputs.ensures)

pub returns-then-is_some-clause-told : goal.returns-then-is_some-clause-told
returns-then-is_some-clause-told g c = λ t. (c.self.invariant.disk t).told

pub returns-then-is_some-clause-good : goal.returns-then-is_some-clause-good
returns-then-is_some-clause-good g c = c.self.invariant.good

pub returns-then-is_some-clause-untouched : goal.returns-then-is_some-clause-untouched
returns-then-is_some-clause-untouched g c = λ t. (c.self.invariant.disk t).untouched

pub returns-then-is_some-clause-filed : goal.returns-then-is_some-clause-filed
returns-then-is_some-clause-filed g c = λ p none nine. all_filed g.J.Job.of g.Src.Source.source g.S.Store.disk _ c.self.invariant (rw (← c.self.view_is) at c.requires) p (sym c.kept_refusal-refusal.ensures ∙ none) (ap (λ (s : Shown). s.stage) c.self.view_is ∙ nine)

pub returns-then-is_some-clause-faults : goal.returns-then-is_some-clause-faults
returns-then-is_some-clause-faults g c = ap (λ (s : Shown). s.faults) c.self.view_is

pub returns-then-is_some-clause-totals : goal.returns-then-is_some-clause-totals
returns-then-is_some-clause-totals g c = λ none. absurd (let some : IsSome {T = Refusal} None = rw none at (sym c.is_some.ensures ∙ c.if-is_some.true) in cc some)

pub returns-then-is_some-clause-nothing : goal.returns-then-is_some-clause-nothing
returns-then-is_some-clause-nothing g c = λ some. (refl, refl, refl)

pub returns-clause-back : goal.returns-clause-back
returns-clause-back g c = all_back g.J.Job.of g.Src.Source.source g.S.Store.disk _ c.self.invariant (rw (← c.self.view_is) at c.requires) c.gather-inputs.result.items c.gather-inputs.ensures

pub returns-clause-refusal : goal.returns-clause-refusal
returns-clause-refusal g c = c.kept_refusal-refusal.ensures ∙ ap (λ (s : Shown). kept_refusal s.first s.kept) c.self.view_is

pub returns-clause-cause : goal.returns-clause-cause
returns-clause-cause g c = subst (λ (o : Option Refusal). IfSome o (IsClosedCause g.J.Job.of g.Src.Source.source c.gather-inputs.result.items (g.S.Store.disk.faults c.self.inside.store))) (sym c.kept_refusal-refusal.ensures)
    (closed_cause g.J.Job.of g.Src.Source.source g.S.Store.disk _ c.self.invariant (rw (← c.self.view_is) at c.requires) c.gather-inputs.result.items c.gather-inputs.ensures)

pub returns-clause-told : goal.returns-clause-told
returns-clause-told g c = λ t. (c.self.invariant.disk t).told

pub returns-clause-good : goal.returns-clause-good
returns-clause-good g c = c.self.invariant.good

pub returns-clause-untouched : goal.returns-clause-untouched
returns-clause-untouched g c = λ t. (c.self.invariant.disk t).untouched

pub returns-clause-filed : goal.returns-clause-filed
returns-clause-filed g c = λ p none nine. all_filed g.J.Job.of g.Src.Source.source g.S.Store.disk _ c.self.invariant (rw (← c.self.view_is) at c.requires) p (sym c.kept_refusal-refusal.ensures ∙ none) (ap (λ (s : Shown). s.stage) c.self.view_is ∙ nine)

pub returns-clause-faults : goal.returns-clause-faults
returns-clause-faults g c = ap (λ (s : Shown). s.faults) c.self.view_is

pub returns-clause-totals : goal.returns-clause-totals
returns-clause-totals g c = λ none. (
  c.rows_of_kind-rows.ensures ∙ ap (rows_of_kind 4) (c.records-records.ensures.items ∙ ap (λ (s : Shown). s.records) c.self.view_is),
  c.count_of_kind-partitions.ensures ∙ ap (count_of_kind 4) (c.records-records.ensures.items ∙ ap (λ (s : Shown). s.records) c.self.view_is),
  c.rows_of_kind-margin.ensures ∙ ap (rows_of_kind 6) (c.records-records.ensures.items ∙ ap (λ (s : Shown). s.records) c.self.view_is),
)

pub returns-clause-nothing : goal.returns-clause-nothing
returns-clause-nothing g c = λ some. absurd (let t = some in let f = c.if-is_some.false in let e = c.is_some.ensures in cc (t, f, e))

pub returns-then-is_some-clause-numbers : goal.returns-then-is_some-clause-numbers
returns-then-is_some-clause-numbers g c = λ p none nine. absurd (let some : IsSome {T = Refusal} None = rw none at (sym c.is_some.ensures ∙ c.if-is_some.true) in cc some)

pub returns-clause-numbers : goal.returns-clause-numbers
returns-clause-numbers g c = λ p none nine.
    let records = c.records-records.ensures.items in
    rw (c.rows_of_kind-rows.ensures, c.count_of_kind-partitions.ensures, c.rows_of_kind-margin.ensures, records)
    (all_numbers g.J.Job.of g.Src.Source.source g.S.Store.disk _ c.self.invariant (rw (← c.self.view_is) at c.requires) p (sym c.kept_refusal-refusal.ensures ∙ none) (ap (λ (s : Shown). s.stage) c.self.view_is ∙ nine) c.records_tell_numbers.ensures)
