use Rattle.std.proofs.Common.{◌≡◌, ◌∷◌, [], List, length, ap, arith, refl}
use Rattle.std.specs.List.Sorted.{IsPermutation}
use Rattle.std.proofs.lemmas.List.Sorted.{length_permutation}
use Rattle.hx_base.specs.declared.row.Row.{Row}
use Rattle.hx_xmatch.proofs.fields.Field.none.Goals as goal

none_of : (rows tree : List Row) → rows ≡ [] → IsPermutation rows tree → tree ≡ []
none_of rows [] none p = refl
none_of rows (row ∷ tree) none p = absurd (omega (arith, length_permutation rows (row ∷ tree) p, ap length none))

pub returns : goal.returns
returns c = (c.new.ensures.items, refl, none_of c.new-2.result.items c.in_ok-new.field-0 c.new-2.ensures.items c.in_ok-new.ensures)
