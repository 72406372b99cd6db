use Rattle.hx_nest.proofs.touching.touch.Goals as goal

pub returns : goal.returns
returns c =
    let touching = c.neighbours.ensures.touching c.args.q in
    (λ yes. touching.0 (c.contains.ensures.0 yes), λ touch. c.contains.ensures.1 (touching.1 touch))
