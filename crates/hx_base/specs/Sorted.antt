-- Sorted lists: the ascending list that has each element as often as another list has it.
use Rattle.std.specs.Prelude.{◌∷◌, if◌then◌else◌, List, []}
use Rattle.std.specs.Ordering.{is_gt}
use Rattle.std.specs.declared.cmp.Ordering.{Ordering}

-- an element in front of the first that isn't below it
abbrev pub placed : {X : Type 0} → (X → X → Ordering) → X → List X → List X
placed compare x [] = x ∷ []
placed compare x (y ∷ ys) = if is_gt (compare x y) then y ∷ placed compare x ys else x ∷ y ∷ ys

abbrev pub sorted : {X : Type 0} → (X → X → Ordering) → List X → List X
sorted compare [] = []
sorted compare (x ∷ xs) = placed compare x (sorted compare xs)
