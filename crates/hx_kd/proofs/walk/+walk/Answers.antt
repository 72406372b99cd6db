use Rattle.std.proofs.Common.{◌<◌, ◌/◌, ◌++◌, length, take, drop, rules, subst, ℕ}
use Rattle.hx_kd.proofs.Halving.{first_far, first_half, second_far, second_half}
use Rattle.hx_kd.proofs.Keeping.{in_order, kept_beyond, out_of_order}
use Rattle.hx_kd.proofs.walk.+walk.Goals as goal

pub walk-requires : goal.walk-requires
walk-requires t c = (search rules, (rw (c.split_at.ensures.front, c.split_at-2.ensures.front) (first_half c.args.nodes.now c.in-Some.below.now c.in-Some.node.now c.args.rows.now (search rules) c.requires.tree), c.requires.from))

pub walk-requires-else-gap2-best : goal.walk-requires-else-gap2-best
walk-requires-else-gap2-best t c = (search rules, (rw (c.split_at.ensures.front, c.split_at-2.ensures.front) (first_half c.args.nodes.now c.in-Some.below.now c.in-Some.node.now c.args.rows.now (search rules) c.requires.tree), c.requires.from))

pub walk-requires-then-gap2-best-2 : goal.walk-requires-then-gap2-best-2
walk-requires-then-gap2-best-2 t c = (search rules, (rw (c.split_at.ensures.back, c.split_at-2.ensures.back) (second_half c.args.nodes.now c.in-Some.below.now c.in-Some.node.now c.args.rows.now (search rules) c.requires.tree), c.requires.from))

pub walk-requires-then-gap2-best-3 : goal.walk-requires-then-gap2-best-3
walk-requires-then-gap2-best-3 t c = (search rules, (rw (c.split_at.ensures.back, c.split_at-2.ensures.back) (second_half c.args.nodes.now c.in-Some.below.now c.in-Some.node.now c.args.rows.now (search rules) c.requires.tree), c.requires.from))

pub walk-requires-else-gap2-best-3 : goal.walk-requires-else-gap2-best-3
walk-requires-else-gap2-best-3 t c = (search rules, (rw (c.split_at.ensures.back, c.split_at-2.ensures.back) (second_half c.args.nodes.now c.in-Some.below.now c.in-Some.node.now c.args.rows.now (search rules) c.requires.tree), c.requires.from))

pub walk-requires-then-gap2-best-4 : goal.walk-requires-then-gap2-best-4
walk-requires-then-gap2-best-4 t c = (search rules, (rw (c.split_at.ensures.front, c.split_at-2.ensures.front) (first_half c.args.nodes.now c.in-Some.below.now c.in-Some.node.now c.args.rows.now (search rules) c.requires.tree), c.requires.from))

pub returns-then-gap2-best : goal.returns-then-gap2-best
returns-then-gap2-best t c = λ r2 seen h.
    let rows = c.args.rows.now in
    let far = second_far c.args.nodes.now c.in-Some.below.now c.in-Some.node.now rows (search rules) c.requires.tree c.args.from.now.row c.args.best.now.limit (c.is_past.ensures.0 c.if-is_past.true) (subst (λ (n : ℕ). c.args.best.now.limit < n) c.gap2-gap2.ensures c.if-gap2-best.true) in
    out_of_order c.args.from.now.row r2 seen rows (length rows / 2) c.walk.new.best
    (rw (← c.split_at-2.ensures.front) (c.walk.ensures r2 (seen ++ drop (length rows / 2) rows) (kept_beyond c.args.from.now.row r2 seen (drop (length rows / 2) rows) c.args.best.now h far)))

pub returns-then-gap2-best-2 : goal.returns-then-gap2-best-2
returns-then-gap2-best-2 t c = λ r2 seen h.
    let rows = c.args.rows.now in
    in_order c.args.from.now.row r2 seen rows (length rows / 2) c.walk-then-gap2-best-2.new.best
    (rw (← c.split_at-2.ensures.front, ← c.split_at-2.ensures.back) (c.walk-then-gap2-best-2.ensures r2 (seen ++ c.split_at-2.result.0.now) (c.walk-else-gap2-best.ensures r2 seen h)))

pub returns-else-gap2-best-2 : goal.returns-else-gap2-best-2
returns-else-gap2-best-2 t c = λ r2 seen h.
    let rows = c.args.rows.now in
    let best = c.walk-else-gap2-best.new.best in
    let far = second_far c.args.nodes.now c.in-Some.below.now c.in-Some.node.now rows (search rules) c.requires.tree c.args.from.now.row best.limit (c.is_past.ensures.0 c.if-is_past.true) (subst (λ (n : ℕ). best.limit < n) c.gap2-gap2.ensures c.if-gap2-best-2.false) in
    in_order c.args.from.now.row r2 seen rows (length rows / 2) best
    (rw (← c.split_at-2.ensures.front) (kept_beyond c.args.from.now.row r2 (seen ++ c.split_at-2.result.0.now) (drop (length rows / 2) rows) best (c.walk-else-gap2-best.ensures r2 seen h) far))

pub returns-then-gap2-best-3 : goal.returns-then-gap2-best-3
returns-then-gap2-best-3 t c = λ r2 seen h.
    let rows = c.args.rows.now in
    let far = first_far c.args.nodes.now c.in-Some.below.now c.in-Some.node.now rows (search rules) c.requires.tree c.args.from.now.row c.args.best.now.limit (λ past. cc (c.if-is_past.false, c.is_past.ensures.1 past)) (subst (λ (n : ℕ). c.args.best.now.limit < n) c.gap2-gap2-else-is_past.ensures c.if-gap2-best-3.true) in
    in_order c.args.from.now.row r2 seen rows (length rows / 2) c.walk-then-gap2-best-3.new.best
    (rw (← c.split_at-2.ensures.back) (c.walk-then-gap2-best-3.ensures r2 (seen ++ take (length rows / 2) rows) (kept_beyond c.args.from.now.row r2 seen (take (length rows / 2) rows) c.args.best.now h far)))

pub returns-then-gap2-best-4 : goal.returns-then-gap2-best-4
returns-then-gap2-best-4 t c = λ r2 seen h.
    let rows = c.args.rows.now in
    out_of_order c.args.from.now.row r2 seen rows (length rows / 2) c.walk-then-gap2-best-4.new.best
    (rw (← c.split_at-2.ensures.front, ← c.split_at-2.ensures.back) (c.walk-then-gap2-best-4.ensures r2 (seen ++ c.split_at-2.result.1.now) (c.walk-else-gap2-best-3.ensures r2 seen h)))

pub returns-else-gap2-best-4 : goal.returns-else-gap2-best-4
returns-else-gap2-best-4 t c = λ r2 seen h.
    let rows = c.args.rows.now in
    let best = c.walk-else-gap2-best-3.new.best in
    let far = first_far c.args.nodes.now c.in-Some.below.now c.in-Some.node.now rows (search rules) c.requires.tree c.args.from.now.row best.limit (λ past. cc (c.if-is_past.false, c.is_past.ensures.1 past)) (subst (λ (n : ℕ). best.limit < n) c.gap2-gap2-else-is_past.ensures c.if-gap2-best-4.false) in
    out_of_order c.args.from.now.row r2 seen rows (length rows / 2) best
    (rw (← c.split_at-2.ensures.back) (kept_beyond c.args.from.now.row r2 (seen ++ c.split_at-2.result.1.now) (take (length rows / 2) rows) best (c.walk-else-gap2-best-3.ensures r2 seen h) far))
