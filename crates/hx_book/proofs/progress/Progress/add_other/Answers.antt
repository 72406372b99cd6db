use Rattle.std.proofs.Common.{◌≡◌, ◌+◌, ◌<◌, ◌≤◌, ℕ, List, Bool, true, false, slice_index_or, subst, refl, arith}
use Rattle.hx_book.specs.Tasks.{count_of}
use Rattle.hx_book.proofs.Walking.{marked_after, on_ok_both, opened_after, passed_after}
use Rattle.hx_book.proofs.progress.Progress.add_other.Goals as goal

pub returns-then-task-self-clause-scheduled : goal.returns-then-task-self-clause-scheduled
returns-then-task-self-clause-scheduled c = λ done h.
    let was = c.args.self.now in
    let other = c.if-task-self.true in
    on_ok_both c.mark.result _ _ _ c.mark.ensures.marked c.mark.ensures.others
    (λ marked others. marked_after was.inputs was.partitions done was.stage was.from was.flags.items h c.args.task c.requires.is_open c.mark.new.flags.items (λ e. omega (arith, other, e)) marked others)

pub returns-then-self-count-clause-scheduled : goal.returns-then-self-count-clause-scheduled
returns-then-self-count-clause-scheduled c = λ done h.
    let was = c.args.self.now in
    let next = c.next_ready-self.result in
    let count : c.count_of-count.result ≡ count_of was.inputs was.partitions was.stage = c.count_of-count.ensures in
    let equal = c.if-task-self.false in
    let front : c.args.task.number ≡ was.from = omega (arith, equal) in
    let skipped = subst (λ (l : List Bool). (n : ℕ) → c.args.task.number + 1 ≤ n → n < next → slice_index_or l n false ≡ true) c.deref.ensures.value c.next_ready-self.ensures.skipped in
    let found = subst (λ (l : List Bool). next < count_of was.inputs was.partitions was.stage → slice_index_or l next false ≡ false) c.deref.ensures.value
    (subst (λ (m : ℕ). next < m → slice_index_or c.deref.result.now next false ≡ false) count c.next_ready-self.ensures.found) in
    let whole : count_of was.inputs was.partitions was.stage ≤ next = let t = c.if-self-count.true in omega (arith, t, count) in
    let e = c.open_next.ensures in
    rw (e.same.0, e.same.1, e.start.0, e.start.1)
    (opened_after was.inputs was.partitions done was.stage was.from was.flags.items h c.args.task c.requires.is_open front next c.next_ready-self.ensures.least skipped found
    was.partitions c.open_next.new.self.stage whole e.later e.most (λ kind le. refl) e.empty e.some)

pub returns-else-self-count-clause-scheduled : goal.returns-else-self-count-clause-scheduled
returns-else-self-count-clause-scheduled c = λ done h.
    let was = c.args.self.now in
    let next = c.next_ready-self.result in
    let count : c.count_of-count.result ≡ count_of was.inputs was.partitions was.stage = c.count_of-count.ensures in
    let equal = c.if-task-self.false in
    let front : c.args.task.number ≡ was.from = omega (arith, equal) in
    let skipped = subst (λ (l : List Bool). (n : ℕ) → c.args.task.number + 1 ≤ n → n < next → slice_index_or l n false ≡ true) c.deref.ensures.value c.next_ready-self.ensures.skipped in
    let found = subst (λ (l : List Bool). next < count_of was.inputs was.partitions was.stage → slice_index_or l next false ≡ false) c.deref.ensures.value
    (subst (λ (m : ℕ). next < m → slice_index_or c.deref.result.now next false ≡ false) count c.next_ready-self.ensures.found) in
    let on : next < count_of was.inputs was.partitions was.stage = let t = c.if-self-count.false in omega (arith, t, count) in
    passed_after was.inputs was.partitions done was.stage was.from was.flags.items h c.args.task c.requires.is_open front next c.next_ready-self.ensures.least skipped found on
