use Rattle.std.proofs.Common.{◌<◌, [], ◌∷◌, arith}
use Rattle.std.proofs.lemmas.List.Elements.{All-cons, All-nil}
use Rattle.hx_base.specs.Chords.{chord2_of}
use Rattle.hx_kd.proofs.Keeping.{kept_beyond}
use Rattle.hx_kd.proofs.closest.Closest.offer.Goals as goal

pub returns-then-chord2-self : goal.returns-then-chord2-self
returns-then-chord2-self c = λ r2 seen h. c.take.ensures c.args.from.now r2 seen c.chord2-chord2.ensures h

pub returns-else-chord2-self : goal.returns-else-chord2-self
returns-else-chord2-self c = λ r2 seen h.
    let is = c.chord2-chord2.ensures in
    let far = c.if-chord2-self.false in
    kept_beyond c.args.from.now r2 seen (c.args.row.now ∷ []) c.args.self.now h
    (All-cons (λ row. c.args.self.now.limit < chord2_of c.args.from.now row) c.args.row.now [] (omega (arith, is, far)) (All-nil (λ row. c.args.self.now.limit < chord2_of c.args.from.now row)))
