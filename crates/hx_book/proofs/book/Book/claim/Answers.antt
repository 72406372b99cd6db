use Rattle.std.proofs.Common.{◌≡◌, ◌<◌, ◌≤◌, ◌+◌, ◌∙◌, ℕ, List, Bool, true, false, length, slice_index_or, refl, ap, subst, arith}
use Rattle.hx_book.specs.Tasks.{count_of}
use Rattle.hx_book.specs.Books.{TakesInput}
use Rattle.hx_book.proofs.Holding.{claimed_kept, claimed_next, claimed_there}
use Rattle.hx_book.proofs.book.Book.claim.Goals as goal

pub invariant_of-self : goal.invariant_of-self
invariant_of-self g c =
    let i = c.self.inside in
    let free = rw (← c.self.view_is) at c.requires.free in
    let count : c.count_of-count.result ≡ count_of (length i.homes.items) i.partitions i.stage = c.count_of-count.ensures ∙ ap (λ (n : ℕ). count_of n i.partitions i.stage) (let long : c.len.result ≡ length i.homes.items = omega (arith, c.len.ensures, i.homes.ok) in long) in
    let ready : i.from < count_of (length i.homes.items) i.partitions i.stage = omega (arith, c.if-self-count.false, count) in
    let no : TakesInput i.stage → ⊥ = λ takes. (let t = c.takes_input.ensures.1 takes in cc (t, c.if-not-takes_input.true)) in
    claimed_kept g.J.Job.of g.Src.Source.source g.S.Store.disk _ c.self.invariant i.homes.items c.next_ready-self-inside.result c.in-None.is free ready c.next_ready-self-inside.ensures.least
    (subst (λ (l : List Bool). (n : ℕ) → i.from + 1 ≤ n → n < c.next_ready-self-inside.result → slice_index_or l n false ≡ true) c.deref.ensures.value c.next_ready-self-inside.ensures.skipped)
    (subst (λ (l : List Bool). c.next_ready-self-inside.result < count_of (length i.homes.items) i.partitions i.stage → slice_index_or l c.next_ready-self-inside.result false ≡ false) c.deref.ensures.value
    (subst (λ (m : ℕ). c.next_ready-self-inside.result < m → slice_index_or c.deref.result.now c.next_ready-self-inside.result false ≡ false) count c.next_ready-self-inside.ensures.found))
    refl (λ n other. refl) (λ takes. absurd (no takes)) (λ not. refl)

pub returns-then-not-takes_input-clause-next : goal.returns-then-not-takes_input-clause-next
returns-then-not-takes_input-clause-next g c = λ p.
    let i = c.self.inside in
    let count : c.count_of-count.result ≡ count_of (length i.homes.items) i.partitions i.stage = c.count_of-count.ensures ∙ ap (λ (n : ℕ). count_of n i.partitions i.stage) (let long : c.len.result ≡ length i.homes.items = omega (arith, c.len.ensures, i.homes.ok) in long) in
    let ready : i.from < count_of (length i.homes.items) i.partitions i.stage = omega (arith, c.if-self-count.false, count) in
    rw (← c.self.view_is) (claimed_next g.J.Job.of g.Src.Source.source g.S.Store.disk _ c.self.invariant c.in-None.is ready p)

pub invariant_of-self-2 : goal.invariant_of-self-2
invariant_of-self-2 g c =
    let i = c.self.inside in
    let free = rw (← c.self.view_is) at c.requires.free in
    let count : c.count_of-count.result ≡ count_of (length i.homes.items) i.partitions i.stage = c.count_of-count.ensures ∙ ap (λ (n : ℕ). count_of n i.partitions i.stage) (let long : c.len.result ≡ length i.homes.items = omega (arith, c.len.ensures, i.homes.ok) in long) in
    let ready : i.from < count_of (length i.homes.items) i.partitions i.stage = omega (arith, c.if-self-count.false, count) in
    let takes : TakesInput i.stage = c.takes_input.ensures.0 (cc c.if-not-takes_input.false) in
    claimed_kept g.J.Job.of g.Src.Source.source g.S.Store.disk _ c.self.invariant c.take_source-source.new.homes.items c.next_ready-self-inside.result c.in-None.is free ready c.next_ready-self-inside.ensures.least
    (subst (λ (l : List Bool). (n : ℕ) → i.from + 1 ≤ n → n < c.next_ready-self-inside.result → slice_index_or l n false ≡ true) c.deref.ensures.value c.next_ready-self-inside.ensures.skipped)
    (subst (λ (l : List Bool). c.next_ready-self-inside.result < count_of (length i.homes.items) i.partitions i.stage → slice_index_or l c.next_ready-self-inside.result false ≡ false) c.deref.ensures.value
    (subst (λ (m : ℕ). c.next_ready-self-inside.result < m → slice_index_or c.deref.result.now c.next_ready-self-inside.result false ≡ false) count c.next_ready-self-inside.ensures.found))
    c.take_source-source.ensures.long c.take_source-source.ensures.others (λ again. c.take_source-source.ensures.empty) (λ not. absurd (not takes))

pub returns-clause-next : goal.returns-clause-next
returns-clause-next g c = λ p.
    let i = c.self.inside in
    let count : c.count_of-count.result ≡ count_of (length i.homes.items) i.partitions i.stage = c.count_of-count.ensures ∙ ap (λ (n : ℕ). count_of n i.partitions i.stage) (let long : c.len.result ≡ length i.homes.items = omega (arith, c.len.ensures, i.homes.ok) in long) in
    let ready : i.from < count_of (length i.homes.items) i.partitions i.stage = omega (arith, c.if-self-count.false, count) in
    rw (← c.self.view_is) (claimed_next g.J.Job.of g.Src.Source.source g.S.Store.disk _ c.self.invariant c.in-None.is ready p)

pub returns-clause-source : goal.returns-clause-source
returns-clause-source g c =
    let i = c.self.inside in
    let free = rw (← c.self.view_is) at c.requires.free in
    let takes : TakesInput i.stage = c.takes_input.ensures.0 (cc c.if-not-takes_input.false) in
    claimed_there g.J.Job.of g.Src.Source.source g.S.Store.disk _ c.self.invariant c.take_source-source.result c.in-None.is free c.take_source-source.ensures.taken takes
