use Rattle.std.proofs.Common.{◌≡◌, ◌∙◌, ◌⊎◌, ◌+◌, ◌-◌, ◌++◌, ◌∷◌, [], ℕ, zero, suc, List, Some, ap, arith, inl, inr, length, length-append, refl, slice_get, slice_index_or}
use Rattle.std.proofs.lemmas.Option.{slice_get-get_or}
use Rattle.hx_base.specs.declared.pixel.Pixel.{Pixel}
use Rattle.hx_ptree.specs.Pieces.{IsPiece}
use Rattle.hx_ptree.specs.declared.walk.Piece.{Piece}
use Rattle.hx_ptree.proofs.Lists.{walked_on}
use Rattle.hx_ptree.proofs.walk.pieces_of.Goals as goal

-- an element of a list that was added to
added : (xs : List Piece) (x y : Piece) (i : ℕ) → slice_get (xs ++ x ∷ []) i ≡ Some y → (slice_get xs i ≡ Some y) ⊎ ((i ≡ length xs) × (y ≡ x))
added [] x y zero h = inr (refl, cc h)
added [] x y (suc i) h = absurd (cc h)
added (z ∷ zs) x y zero h = inl h
added (z ∷ zs) x y (suc i) h = elim (added zs x y i h) [ inl old ↦ inl old | inr new ↦ inr (ap suc new.0, new.1) ]

more : (xs ys : List Piece) (x : Piece) (n : ℕ) → ys ≡ xs ++ x ∷ [] → length xs ≡ n → length ys ≡ n + 1
more xs ys x n is long = rw is (length-append xs (x ∷ []) ∙ ap (λ (k : ℕ). k + 1) long)

pub on_to-walked-requires-clause-stands : goal.on_to-walked-requires-clause-stands
on_to-walked-requires-clause-stands c =
    let none : Pixel = record { order = 0; number = 0 } in
    c.loop-index.invariant.stands c.loop-index.index (slice_index_or c.args.left.now c.loop-index.index none) (omega arith) (slice_get-get_or c.args.left.now c.loop-index.index none c.loop-index-test.true)

pub loop-index-preserved : goal.loop-index-preserved
loop-index-preserved c =
    let none : Pixel = record { order = 0; number = 0 } in
    let at = c.loop-index.index in
    let here = slice_index_or c.args.left.now at none in
    let at_here : slice_get c.args.left.now at ≡ Some here = slice_get-get_or c.args.left.now at none c.loop-index-test.true in
    let walked = c.on_to-walked.result in
    let made : Piece = record { left = at; first = walked.ended; count = walked.begun - walked.ended } in
    let new : c.push_piece.new.pieces.items ≡ c.loop-index.pieces.items ++ made ∷ [] = c.in_ok-push_piece.ensures in
    record {
      count = more c.loop-index.pieces.items c.push_piece.new.pieces.items made at new c.loop-index.invariant.count;
      each = λ index part piece at_part at_piece.
          elim (added c.loop-index.pieces.items made piece index (rw new at at_piece)) [
            | inl old ↦ c.loop-index.invariant.each index part piece at_part old
            | inr last ↦
                let place : index ≡ at = last.0 ∙ c.loop-index.invariant.count in
                let is : part ≡ here = cc (at_part, place, at_here) in
                let one : IsPiece c.args.right.now at here made = record { named = refl; span = c.on_to-walked.ensures.span } in
                rw (place, is, last.1) one
          ];
      stands = λ index part behind at_part. walked_on c.args.left.now c.requires.left c.args.right.now c.on_to-walked.result at index here part (omega (arith, behind)) at_here at_part c.on_to-walked.ensures.stands;
    }
