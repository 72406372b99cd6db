use Rattle.std.proofs.Common.{ℕ, List, Contains, subst, sym}
use Rattle.hx_xmatch.proofs.Around.{put_keeps, put_only}
use Rattle.hx_xmatch.proofs.runs.add_index.Goals as goal

pub returns-in_ok-insert-clause-kept : goal.returns-in_ok-insert-clause-kept
returns-in_ok-insert-clause-kept c = λ other h.
    subst (λ (l : List ℕ). Contains l other) (sym c.in_ok-insert.ensures.items) (put_keeps c.args.indices.now.items c.in-Err.at c.args.index other h)

pub returns-in_ok-insert-clause-only : goal.returns-in_ok-insert-clause-only
returns-in_ok-insert-clause-only c = λ other h.
    put_only c.args.indices.now.items c.in-Err.at c.args.index other (subst (λ (l : List ℕ). Contains l other) c.in_ok-insert.ensures.items h)
