use Rattle.std.proofs.Common.{◌≡◌, ◌+◌, ◌++◌, ◌∙◌, IfSome, List, None, Option, Some, sym, take, rules, ℕ}
use Rattle.std.proofs.Math.Seq.{take-add}
use Rattle.hx_outside.specs.Sources.{GivesBytes}
use Rattle.hx_inputs.proofs.input.read_more.Goals as goal

-- bytes that continue a front of the source make a longer front
continued : (told : Option (List ℕ)) (at room n : ℕ) (buf old new : List ℕ) → IfSome told (λ bytes. GivesBytes bytes at room buf n)
    → new ≡ old ++ take n buf → IfSome told (λ bytes. old ≡ take at bytes → new ≡ take (at + n) bytes)
continued None at room n buf old new gives is = tt
continued (Some bytes) at room n buf old new gives is = λ front. is ∙ rw (front, gives.same) (sym (take-add at n bytes))

pub returns-clause-more : goal.returns-clause-more
returns-clause-more g c =
    let grown : c.extend_from_slice.new.self.items ≡ c.args.all.now.items ++ take c.in-Ok.count c.read_at.new.buf = search rules in
    continued _ _ _ _ _ _ _ c.in-Ok.ensures.bytes grown
