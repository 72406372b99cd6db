-- What was done to an image is what a crash may do.
use Rattle.std.proofs.Common.{◌≡◌, ◌∙◌, ℕ, List, Bool, Option, None, sym, subst}
use Rattle.hx_outside.specs.Folders.{Folder, written, removed, Changes}
use Rattle.hx_outside.proofs.Names.{written_twice, written_same}
use Rattle.hx_outside.proofs.Steps.{changed}
use Rattle.hx_mem.specs.declared.change.Change.{Change}
use Rattle.hx_mem.specs.Logs.{IsBound, MayBecome}

-- a file that was taken out and put back
pub put_back : (name : List ℕ) (step : Option (List ℕ) → Option (List ℕ) → Type 0) (file : Option (List ℕ)) (f h g : Folder)
    → h ≡ removed name f → g ≡ written name file h → step (f name) file → Changes name step f g
put_back name step file f h g out back s =
    let is : g ≡ written name file f = back ∙ (λ k. written name file (out k)) ∙ written_twice name file None f in
    subst (Changes name step f) (sym is) (changed name step file f s)

-- nothing to take out
pub taken_none : (name : List ℕ) (f g : Folder) → g ≡ removed name f → f name ≡ None → g ≡ f
taken_none name f g out none = out ∙ written_same name None f (sym none)

-- what is known of a call's change
pub is_change : (done free : Bool) (change known : Change) (reads f g : Folder) → change ≡ known
    → MayBecome done known (IsBound free known reads f) reads f g → MayBecome done change (IsBound free change reads f) reads f g
is_change done free change known reads f g is t = subst (λ (c : Change). MayBecome done c (IsBound free c reads f) reads f g) (sym is) t
