use Rattle.std.proofs.Common.{◌≡◌, ◌∙◌, sym, not, arith, rules}
use Rattle.std.proofs.lemmas.Grind.{common_steps}
use Rattle.hx_mem.specs.declared.change.Call.{Call}
use Rattle.hx_mem.specs.Files.{folder_of}
use Rattle.hx_mem.specs.Logs.{effect, effect_if, reads_after}
use Rattle.hx_mem.proofs.Images.{reads_more}
use Rattle.hx_mem.proofs.change.carry.Goals as goal

pub returns-then-fails-clause-shows : goal.returns-then-fails-clause-shows
returns-then-fails-clause-shows c start was =
    let x : Call = record { change = c.args.change; done = not c.args.fails } in
    was ∙ sym ((λ k. reads_after (c.in_ok-push.ensures.items k) start) ∙ reads_more c.args.log.now.items x start ∙ (λ k. effect_if (not (c.if-fails.true k)) c.args.change (reads_after c.args.log.now.items start)))

pub returns-clause-shows : goal.returns-clause-shows
returns-clause-shows c start was =
    let x : Call = record { change = c.args.change; done = not c.args.fails } in
    let is : c.index.result.now ≡ x = grind (arith, common_steps) in
    let done : folder_of c.apply.new.files.items ≡ effect c.index.result.now.change (folder_of c.args.files.now.items) = search rules in
    done ∙ (λ k. effect (is k).change (was k))
    ∙ sym ((λ k. reads_after (c.in_ok-push.ensures.items k) start) ∙ reads_more c.args.log.now.items x start ∙ (λ k. effect_if (not (c.if-fails.false k)) c.args.change (reads_after c.args.log.now.items start)))
