-- The bytes of a file from a place on, as a buffer takes them piece by piece.
use Rattle.std.proofs.Common.{◌≡◌, ◌≤◌, ◌∙◌, ◌+◌, ◌++◌, List, ℕ, length, take, drop, ap, sym}
use Rattle.std.proofs.lemmas.List.{drop-drop, length-take-le, take-append-le}
use Rattle.std.proofs.Math.Seq.{take-add, take-append-add}

pub go_on : (file old new rest : List ℕ) (from at count : ℕ) → at ≤ length old → take at old ≡ take at (drop from file) → take count new ≡ take count (drop (from + at) file) → count ≤ length new → take (at + count) (take at old ++ (new ++ rest)) ≡ take (at + count) (drop from file)
go_on file old new rest from at count within so_far same fits =
    ap (λ (n : ℕ). take (n + count) (take at old ++ (new ++ rest))) (sym (length-take-le at old within))
    ∙ (take-append-add (take at old) (new ++ rest) count
    ∙ ((λ k. so_far k ++ take-append-le count new rest fits k)
    ∙ (ap (λ (l : List ℕ). take at (drop from file) ++ l) (same ∙ ap (take count) (sym (drop-drop at from file)))
    ∙ sym (take-add at count (drop from file)))))
