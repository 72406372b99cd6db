use Rattle.std.proofs.Common.{◌≡◌, ◌≢◌, ◌⊎◌, List, ℕ, true, ap, subst}
use Rattle.hx_outside.specs.Folders.{Folder}
use Rattle.hx_mem.specs.Files.{folder_of}
use Rattle.hx_mem.specs.Logs.{IsBound, MayBecome, effect_if, name_of}
use Rattle.hx_mem.proofs.Followed.{followed}
use Rattle.hx_mem.proofs.crash.follow.Goals as goal

pub returns : goal.returns
returns c log start images =
    let call = c.args.call.now in
    let n = name_of call.change in
    let r = folder_of c.args.reads.now.items in
    let f = folder_of c.args.image.now.items in
    let g = folder_of c.args.other.now.items in
    let free = c.is_free-free.result in
    let why : free ≡ true → (f n ≢ r n) ⊎ (g n ≢ r n) = λ is.
    subst (λ (m : List ℕ). (f m ≢ r m) ⊎ (g m ≢ r m)) c.name.ensures
    (subst (λ (h : Folder). (f c.name.result.now ≢ h c.name.result.now) ⊎ (g c.name.result.now ≢ h c.name.result.now)) (ap folder_of c.deref.ensures.value)
    (subst (λ (h : Folder). (h c.name.result.now ≢ folder_of c.deref.result.now c.name.result.now) ⊎ (g c.name.result.now ≢ folder_of c.deref.result.now c.name.result.now)) (ap folder_of c.deref-2.ensures.value)
    (subst (λ (h : Folder). (folder_of c.deref-2.result.now c.name.result.now ≢ folder_of c.deref.result.now c.name.result.now) ⊎ (h c.name.result.now ≢ folder_of c.deref.result.now c.name.result.now)) (ap folder_of c.deref-3.ensures.value)
    (c.is_free-free.ensures is)))) in
    let next = folder_of c.redo.new.reads.items in
    let first : MayBecome call.done call.change (IsBound free call.change r f) r f (folder_of c.pass.new.image.items) ⊎ (folder_of c.pass.new.image.items ≡ effect_if call.done call.change r) =
    subst (λ (h : Folder). MayBecome call.done call.change (IsBound free call.change h f) h f (folder_of c.pass.new.image.items) ⊎ (folder_of c.pass.new.image.items ≡ effect_if call.done call.change h)) (ap folder_of c.deref-4.ensures.value) c.in_ok-pass.ensures in
    let second : MayBecome call.done call.change (IsBound free call.change r g) r g (folder_of c.pass-2.new.image.items) ⊎ (folder_of c.pass-2.new.image.items ≡ effect_if call.done call.change r) =
    subst (λ (h : Folder). MayBecome call.done call.change (IsBound free call.change h g) h g (folder_of c.pass-2.new.image.items) ⊎ (folder_of c.pass-2.new.image.items ≡ effect_if call.done call.change h)) (ap folder_of c.deref-5.ensures.value) c.in_ok-pass-2.ensures in
    followed log call start r f g free images why next (folder_of c.pass.new.image.items) (folder_of c.pass-2.new.image.items) c.in_ok-redo.ensures first second
