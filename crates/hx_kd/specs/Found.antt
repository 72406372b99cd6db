-- What a search answers.
use Rattle.std.specs.Prelude.{◌≡◌, ⊤, ℕ, Option, Some, None}
use Rattle.hx_base.specs.declared.row.Row.{Row}
use Rattle.hx_base.specs.Chords.{chord2_of}
use Rattle.hx_kd.specs.declared.tree.Near.{Near}

abbrev pub row_of : Option Near → Option Row
row_of None = None
row_of (Some near) = Some near.row

-- the chord that is told is the row's
abbrev pub HasChord : Row → Option Near → Type 0
HasChord from None = ⊤
HasChord from (Some near) = near.chord2 ≡ chord2_of from near.row

abbrev pub near_of : ℕ → Option Row → Option Near
near_of limit None = None
near_of limit (Some row) = Some (record { chord2 = limit; row = row })
