-- How often a name is in a list with one more.
use Rattle.std.proofs.Common.{◌≡◌, ◌+◌, ◌∙◌, ◌∷◌, ◌++◌, if◌then◌else◌, ℕ, List, [], Bool, true, false, ap, arith}
use Rattle.std.specs.Str.{bytes_eq}
use Rattle.hx_mem.specs.Stores.{count_of}

count_last : (name : List ℕ) (xs : List (List ℕ)) (x : List ℕ) → count_of name (xs ++ x ∷ []) ≡ count_of name xs + (if bytes_eq x name then 1 else 0)
count_last name [] x = omega arith
count_last name (y ∷ ys) x = omega (arith, count_last name ys x)

pub counted_one : (name : List ℕ) (xs : List (List ℕ)) (x : List ℕ) → bytes_eq x name ≡ true → count_of name (xs ++ x ∷ []) ≡ count_of name xs + 1
counted_one name xs x same = count_last name xs x ∙ ap (λ (b : Bool). count_of name xs + (if b then 1 else 0)) same

pub counted_none : (name : List ℕ) (xs : List (List ℕ)) (x : List ℕ) → bytes_eq x name ≡ false → count_of name (xs ++ x ∷ []) ≡ count_of name xs
counted_none name xs x apart =
    let none : count_of name (xs ++ x ∷ []) ≡ count_of name xs + 0 = count_last name xs x ∙ ap (λ (b : Bool). count_of name xs + (if b then 1 else 0)) apart in
    omega (arith, none)
