-- Checks of each of a list, as a loop makes them.
use Rattle.std.proofs.Common.{◌≡◌, ◌⊎◌, inl, inr, List, [], ◌∷◌, ◌++◌, Result, Ok, Err, refl, sym, ap, ◌∙◌, append_assoc}
use Rattle.std.proofs.lemmas.List.{append-nil}
use Rattle.hx_thrift.specs.Texts.{◌>>=◌}
use Rattle.hx_pqmeta.specs.declared.refusal.PqRefusal.{PqRefusal}
use Rattle.hx_pqmeta.specs.declared.refusal.PqRefusal.TheVariants.{Memory}
use Rattle.hx_pqmeta.specs.Refusals.{each}

-- what was made before, and what is still to be made
abbrev pub each_from : {A B : Type 0} → (A → Result B PqRefusal) → List B → List A → Result (List B) PqRefusal
each_from check front xs = each check xs >>= λ ys. Ok (front ++ ys)

pub each_start : {A B : Type 0} (check : A → Result B PqRefusal) (xs : List A) → each_from check [] xs ≡ each check xs
each_start check xs = same (each check xs) where
  same : {B : Type 0} (made : Result (List B) PqRefusal) → made >>= (λ ys. Ok ([] ++ ys)) ≡ made
  same (Ok ys) = refl
  same (Err refusal) = refl

pub each_next : {A B : Type 0} (check : A → Result B PqRefusal) (front : List B) (x : A) (xs : List A) (y : B) → check x ≡ Ok y → each_from check front (x ∷ xs) ≡ each_from check (front ++ y ∷ []) xs
each_next check front x xs y is = rw is (over front y (each check xs)) where
  over : {B : Type 0} (front : List B) (y : B) (made : Result (List B) PqRefusal) → (made >>= (λ ys. Ok (y ∷ ys))) >>= (λ ys. Ok (front ++ ys)) ≡ made >>= (λ ys. Ok ((front ++ y ∷ []) ++ ys))
  over {B = B} front y (Ok ys) = ap (λ (zs : List B). Ok zs) (simp append_assoc)
  over front y (Err refusal) = refl

pub each_stop : {A B : Type 0} (check : A → Result B PqRefusal) (front : List B) (x : A) (xs : List A) (refusal : PqRefusal) → check x ≡ Err refusal → each_from check front (x ∷ xs) ≡ Err refusal
each_stop check front x xs refusal is = rw is refl

pub each_end : {A B : Type 0} (check : A → Result B PqRefusal) (front : List B) → each_from check front [] ≡ Ok front
each_end {B = B} check front = ap (λ (ys : List B). Ok ys) (append-nil front)

-- a refusal of one is that of all
pub refused_one : {A B : Type 0} (check : A → Result B PqRefusal) (front : List B) (x : A) (xs : List A) (refusal : PqRefusal) (all : Result (List B) PqRefusal) → (refusal ≡ Memory) ⊎ (check x ≡ Err refusal)
    → each_from check front (x ∷ xs) ≡ all → (refusal ≡ Memory) ⊎ (all ≡ Err refusal)
refused_one check front x xs refusal all (inl want) so_far = inl want
refused_one check front x xs refusal all (inr is) so_far = inr (sym so_far ∙ each_stop check front x xs refusal is)
