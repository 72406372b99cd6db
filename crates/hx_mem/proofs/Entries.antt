-- What a list of files does as a folder.
use Rattle.std.proofs.Common.{◌≡◌, ◌≢◌, ◌<◌, ◌∙◌, ◌∷◌, ◌++◌, if◌then◌else◌, ℕ, zero, suc, List, [], length, take, get_or, set, Option, None, Bool, true, false, refl, sym, ap, arith}
use Rattle.std.specs.Str.{bytes_eq}
use Rattle.std.proofs.lemmas.Slice.Eq.{bytes_eq-Decides}
use Rattle.hx_outside.specs.Folders.{Folder, written}
use Rattle.hx_outside.proofs.Names.{same_name, other_name, written_same}
use Rattle.hx_mem.specs.declared.files.File.{File}
use Rattle.hx_mem.specs.Files.{folder_of, IsNowhere, IsAt}

pub found_at : (es : List File) (i : ℕ) (x : File) (name : List ℕ) → IsNowhere (take i es) name → i < length es → (get_or es i x).name ≡ name → IsAt es i name
found_at [] i x name none within is = absurd (omega arith)
found_at (e ∷ es) zero x name none within is = is
found_at (e ∷ es) (suc i) x name none within is = (none.0, found_at es i x name none.1 (omega arith) is)

pub one_more : (es : List File) (x : File) (name : List ℕ) → IsNowhere es name → x.name ≢ name → IsNowhere (es ++ x ∷ []) name
one_more [] x name none apart = (apart, tt)
one_more (e ∷ es) x name none apart = (none.0, one_more es x name none.1 apart)

pub at_end : (es : List File) (x : File) (name : List ℕ) → IsNowhere es name → x.name ≡ name → IsAt (es ++ x ∷ []) (length es) name
at_end [] x name none is = is
at_end (e ∷ es) x name none is = (none.0, at_end es x name none.1 is)

pub at_push : (es : List File) (x : File) (i : ℕ) (name : List ℕ) → IsAt es i name → IsAt (es ++ x ∷ []) i name
at_push [] x i name here = absurd here
at_push (e ∷ es) x zero name here = here
at_push (e ∷ es) x (suc i) name here = (here.0, at_push es x i name here.1)

either : {X : Type 0} (b : Bool) (x : X) → (if b then x else x) ≡ x
either true x = refl
either false x = refl

push_at : (es : List File) (x : File) (n : List ℕ) → x.bytes ≡ None → folder_of (es ++ x ∷ []) n ≡ folder_of es n
push_at [] x n none = ap (λ (b : Option (List ℕ)). if bytes_eq n x.name then b else None) none ∙ either (bytes_eq n x.name) None
push_at (e ∷ es) x n none = ap (λ (f : Option (List ℕ)). if bytes_eq n e.name then e.bytes else f) (push_at es x n none)

pub folder_push : (es : List File) (x : File) → x.bytes ≡ None → folder_of (es ++ x ∷ []) ≡ folder_of es
folder_push es x none = λ k n. push_at es x n none k

pub at_there : (es : List File) (i : ℕ) (d : File) (name : List ℕ) → IsAt es i name → folder_of es name ≡ (get_or es i d).bytes
at_there [] i d name here = absurd here
at_there (e ∷ es) zero d name here =
    ap (λ (b : Bool). if b then e.bytes else folder_of es name) (ap (λ (m : List ℕ). bytes_eq name m) here ∙ same_name name)
at_there (e ∷ es) (suc i) d name here =
    ap (λ (b : Bool). if b then e.bytes else folder_of es name) (other_name name e.name (λ s. here.0 (sym s))) ∙ at_there es i d name here.1

-- `if` of a test with what stands in its other branch
swapped : (b c : Bool) (x y z : Option (List ℕ)) → (b ≡ true → c ≡ true → ⊥) → (if b then x else if c then y else z) ≡ (if c then y else if b then x else z)
swapped true true x y z never = absurd (never refl refl)
swapped true false x y z never = refl
swapped false true x y z never = refl
swapped false false x y z never = refl

twice : (b : Bool) (x y z : Option (List ℕ)) → (if b then x else z) ≡ (if b then x else if b then y else z)
twice true x y z = refl
twice false x y z = refl

is_name : (n name : List ℕ) → bytes_eq n name ≡ true → n ≡ name
is_name n name h = (bytes_eq-Decides n name).0 h

set_at_name : (es : List File) (i : ℕ) (x : File) (name n : List ℕ) → IsAt es i name → x.name ≡ name → folder_of (set es i x) n ≡ written name x.bytes (folder_of es) n
set_at_name [] i x name n here is = absurd here
set_at_name (e ∷ es) zero x name n here is =
    ap (λ (m : List ℕ). if bytes_eq n m then x.bytes else folder_of es n) is
    ∙ twice (bytes_eq n name) x.bytes e.bytes (folder_of es n)
    ∙ ap (λ (m : List ℕ). if bytes_eq n name then x.bytes else if bytes_eq n m then e.bytes else folder_of es n) (sym here)
set_at_name (e ∷ es) (suc i) x name n here is =
    ap (λ (f : Option (List ℕ)). if bytes_eq n e.name then e.bytes else f) (set_at_name es i x name n here.1 is)
    ∙ swapped (bytes_eq n e.name) (bytes_eq n name) e.bytes x.bytes (folder_of es n) (λ a b. here.0 (sym (is_name n e.name a) ∙ is_name n name b))

pub set_there : (es : List File) (i : ℕ) (x : File) (name : List ℕ) → IsAt es i name → x.name ≡ name → folder_of (set es i x) ≡ written name x.bytes (folder_of es)
set_there es i x name here is = λ k n. set_at_name es i x name n here is k

-- an entry keeps its name
pub at_set : (es : List File) (i j : ℕ) (x : File) (name other : List ℕ) → IsAt es i name → IsAt es j other → x.name ≡ other → IsAt (set es j x) i name
at_set [] i j x name other here there is = absurd here
at_set (e ∷ es) zero zero x name other here there is = is ∙ sym there ∙ here
at_set (e ∷ es) zero (suc j) x name other here there is = here
at_set (e ∷ es) (suc i) zero x name other here there is = (λ s. here.0 (there ∙ sym is ∙ s), here.1)
at_set (e ∷ es) (suc i) (suc j) x name other here there is = (here.0, at_set es i j x name other here.1 there.1 is)

pub at_within : (es : List File) (i : ℕ) (name : List ℕ) → IsAt es i name → i < length es
at_within [] i name here = absurd here
at_within (e ∷ es) zero name here = omega arith
at_within (e ∷ es) (suc i) name here = omega (arith, at_within es i name here.1)

pub at_name : (es : List File) (i : ℕ) (d : File) (name : List ℕ) → IsAt es i name → (get_or es i d).name ≡ name
at_name [] i d name here = absurd here
at_name (e ∷ es) zero d name here = here
at_name (e ∷ es) (suc i) d name here = at_name es i d name here.1

-- The entry of a name is replaced by another.
module _ (es : List File) (i : ℕ) (old x : File) (name : List ℕ) (f : Folder)
    (here : IsAt es i name) (read : old ≡ get_or es i old) (named : x.name ≡ old.name) (was : folder_of es ≡ f) where
  pub had : old.bytes ≡ f name
  had = ap (λ (e : File). e.bytes) read ∙ sym (at_there es i old name here) ∙ (λ k. was k name)

  pub is_named : x.name ≡ name
  is_named = named ∙ ap (λ (e : File). e.name) read ∙ at_name es i old name here

  pub becomes : (file : Option (List ℕ)) → x.bytes ≡ file → folder_of (set es i x) ≡ written name file f
  becomes file is = set_there es i x name here is_named ∙ (λ k. written name (is k) (was k))

  pub remains : x.bytes ≡ old.bytes → folder_of (set es i x) ≡ f
  remains is = becomes old.bytes is ∙ written_same name old.bytes f had

pub absent : (es : List File) (name : List ℕ) → IsNowhere es name → folder_of es name ≡ None
absent [] name none = refl
absent (e ∷ es) name none = ap (λ (b : Bool). if b then e.bytes else folder_of es name) (other_name name e.name (λ s. none.0 (sym s))) ∙ absent es name none.1

pub is_there : (es : List File) (i : ℕ) (x : File) (name : List ℕ) → IsAt es i name → x ≡ get_or es i x → folder_of es name ≡ x.bytes
is_there es i x name here read = at_there es i x name here ∙ ap (λ (e : File). e.bytes) (sym read)
