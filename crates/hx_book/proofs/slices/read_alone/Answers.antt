use Rattle.std.proofs.Common.{rules, ◌≡◌, ◌∙◌, Ok, Err, List, ℕ, ap, sym, subst, take, arith}
use Rattle.hx_outside.proofs.Runs.{same_next}
use Rattle.hx_outside.specs.Folders.{contents}
use Rattle.hx_book.specs.Slices.{Answers, read_by_head}
use Rattle.hx_book.proofs.Fronts.{begins, by_head, refused}
use Rattle.hx_book.proofs.slices.read_alone.Goals as goal

pub returns-in_err-width-clause-answers : goal.returns-in_err-width-clause-answers
returns-in_err-width-clause-answers g c tells =
    let file = contents (g.S.Store.disk.reads c.args.store.now c.args.name.now) in
    let front = c.in_ok-front.front.items in
    let first = begins 12 file front (omega arith) (c.in_ok-front.ensures.gives tells) in
    let given : c.first_of.result.now ≡ take 12 file = c.first_of.ensures ∙ ap (take 12) c.deref.ensures.value ∙ first in
    let is = refused c.args.part file c.in_err-width.field-0.0 (sym (rw given at c.in_err-width.ensures)) in
    rw is (search rules)

pub returns-then-width-le-FRONT-clause-passes : goal.returns-then-width-le-FRONT-clause-passes
returns-then-width-le-FRONT-clause-passes g c tells =
    let d = g.S.Store.disk in
    let front = c.read_range.ensures.passes tells in
    same_next d c.args.store.now c.read_range.new.store c.read_by_head.new.store tells front (c.read_by_head.ensures.passes front.told)

pub returns-then-width-le-FRONT-clause-answers : goal.returns-then-width-le-FRONT-clause-answers
returns-then-width-le-FRONT-clause-answers g c tells =
    let d = g.S.Store.disk in
    let file = contents (d.reads c.args.store.now c.args.name.now) in
    let front = c.in_ok-front.front.items in
    let run = c.read_range.ensures.passes tells in
    let gives = c.in_ok-front.ensures.gives tells in
    let given : c.first_of.result.now ≡ take 12 file = c.first_of.ensures ∙ ap (take 12) c.deref.ensures.value ∙ begins 12 file front (omega arith) gives in
    let head : c.first_of-then-width-le-FRONT.result.now ≡ take c.in_ok-width.width file = c.first_of-then-width-le-FRONT.ensures ∙ ap (take c.in_ok-width.width) c.deref-then-width-le-FRONT.ensures.value ∙ begins c.in_ok-width.width file front (search rules) gives in
    by_head c.args.part c.in_ok-width.width file c.first_of-then-width-le-FRONT.result.now c.read_by_head.result (sym (rw given at c.in_ok-width.ensures)) head
    (rw run.seen at (c.read_by_head.ensures.answers run.told))

pub returns-in_err-head-clause-passes : goal.returns-in_err-head-clause-passes
returns-in_err-head-clause-passes g c tells =
    let d = g.S.Store.disk in
    let front = c.read_range.ensures.passes tells in
    same_next d c.args.store.now c.read_range.new.store c.read_range-2.new.store tells front (c.read_range-2.ensures.passes front.told)

pub returns-clause-passes : goal.returns-clause-passes
returns-clause-passes g c tells =
    let d = g.S.Store.disk in
    let front = c.read_range.ensures.passes tells in
    let head = same_next d c.args.store.now c.read_range.new.store c.read_range-2.new.store tells front (c.read_range-2.ensures.passes front.told) in
    same_next d c.args.store.now c.read_range-2.new.store c.read_by_head-2.new.store tells head (c.read_by_head-2.ensures.passes head.told)

pub returns-clause-answers : goal.returns-clause-answers
returns-clause-answers g c tells =
    let d = g.S.Store.disk in
    let file = contents (d.reads c.args.store.now c.args.name.now) in
    let front = c.in_ok-front.front.items in
    let run = c.read_range.ensures.passes tells in
    let gives = c.in_ok-front.ensures.gives tells in
    let given : c.first_of.result.now ≡ take 12 file = c.first_of.ensures ∙ ap (take 12) c.deref.ensures.value ∙ begins 12 file front (omega arith) gives in
    let next = same_next d c.args.store.now c.read_range.new.store c.read_range-2.new.store tells run (c.read_range-2.ensures.passes run.told) in
    let head : c.in_ok-head.head.items ≡ take c.in_ok-width.width file = rw run.seen at (c.in_ok-head.ensures.gives run.told) in
    by_head c.args.part c.in_ok-width.width file c.deref-2.result.now c.read_by_head-2.result (sym (rw given at c.in_ok-width.ensures)) (c.deref-2.ensures.value ∙ head)
    (rw next.seen at (c.read_by_head-2.ensures.answers next.told))
