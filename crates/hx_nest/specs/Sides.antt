-- The usual table of faces by sides, and where a spot at a side comes to on the face beyond it.
use Rattle.std.specs.Prelude.{◌≡◌, ◌⊎◌, List, [], ◌∷◌, ℕ, if◌then◌else◌, nat_lt, slice_index}
use Rattle.hx_nest.specs.declared.side.Side.{Side}
use Rattle.hx_nest.specs.declared.side.Side.TheVariants.{South, SouthEast, East, SouthWest, NorthEast, West, NorthWest, North}

-- the face beyond a side or vertex of each of the faces 0 to 11, or 12 where no face meets a vertex but those beyond the sides
abbrev pub faces_beyond : Side → List ℕ
faces_beyond South = 8 ∷ 9 ∷ 10 ∷ 11 ∷ 12 ∷ 12 ∷ 12 ∷ 12 ∷ 10 ∷ 11 ∷ 8 ∷ 9 ∷ []
faces_beyond SouthEast = 5 ∷ 6 ∷ 7 ∷ 4 ∷ 8 ∷ 9 ∷ 10 ∷ 11 ∷ 9 ∷ 10 ∷ 11 ∷ 8 ∷ []
faces_beyond East = 12 ∷ 12 ∷ 12 ∷ 12 ∷ 5 ∷ 6 ∷ 7 ∷ 4 ∷ 12 ∷ 12 ∷ 12 ∷ 12 ∷ []
faces_beyond SouthWest = 4 ∷ 5 ∷ 6 ∷ 7 ∷ 11 ∷ 8 ∷ 9 ∷ 10 ∷ 11 ∷ 8 ∷ 9 ∷ 10 ∷ []
faces_beyond NorthEast = 1 ∷ 2 ∷ 3 ∷ 0 ∷ 0 ∷ 1 ∷ 2 ∷ 3 ∷ 5 ∷ 6 ∷ 7 ∷ 4 ∷ []
faces_beyond West = 12 ∷ 12 ∷ 12 ∷ 12 ∷ 7 ∷ 4 ∷ 5 ∷ 6 ∷ 12 ∷ 12 ∷ 12 ∷ 12 ∷ []
faces_beyond NorthWest = 3 ∷ 0 ∷ 1 ∷ 2 ∷ 3 ∷ 0 ∷ 1 ∷ 2 ∷ 4 ∷ 5 ∷ 6 ∷ 7 ∷ []
faces_beyond North = 2 ∷ 3 ∷ 0 ∷ 1 ∷ 12 ∷ 12 ∷ 12 ∷ 12 ∷ 0 ∷ 1 ∷ 2 ∷ 3 ∷ []

-- corner (x, y) of a face of n * n pixels lies on a side or at a vertex
abbrev pub LiesOn : ℕ → Side → ℕ → ℕ → Type 0
LiesOn n South x y = (x ≡ 0) × (y ≡ 0)
LiesOn n SouthEast x y = y ≡ 0
LiesOn n East x y = (x ≡ n) × (y ≡ 0)
LiesOn n SouthWest x y = x ≡ 0
LiesOn n NorthEast x y = x ≡ n
LiesOn n West x y = (x ≡ 0) × (y ≡ n)
LiesOn n NorthWest x y = y ≡ n
LiesOn n North x y = (x ≡ n) × (y ≡ n)

-- what (x, y) at a side or vertex of a face becomes on the face beyond, on a grid with coordinates from 0 to last. Mostly the coordinate
-- that leads there starts again at its other end. Between two faces at one pole the side is one of x on the one face and of y on the other,
-- at the same end: there the coordinates are exchanged.
abbrev pub beyond : ℕ → Side → ℕ → ℕ → ℕ → ℕ × ℕ
beyond last South face x y = if nat_lt face 8 then (last, last) else (0, 0)
beyond last SouthEast face x y = if nat_lt face 8 then (x, last) else (0, x)
beyond last East face x y = (0, last)
beyond last SouthWest face x y = if nat_lt face 8 then (last, y) else (y, 0)
beyond last NorthEast face x y = if nat_lt face 4 then (y, last) else (0, y)
beyond last West face x y = (last, 0)
beyond last NorthWest face x y = if nat_lt face 4 then (last, x) else (x, 0)
beyond last North face x y = if nat_lt face 4 then (last, last) else (0, 0)

-- corner (x, y) of a face lies on a side or at a vertex at which the table joins another face, of which it is corner (a, b)
pub record AreJoined (n face x y other a b : ℕ) : Type 0 where
  pub side : Side
  pub on_side : LiesOn n side x y
  pub joined : slice_index (faces_beyond side) face ≡ other
  pub spot : beyond n side face x y ≡ (a, b)

-- two corners of faces are the same one, or the table joins them
abbrev pub AreOneCorner : ℕ → ℕ → ℕ → ℕ → ℕ → ℕ → ℕ → Type 0
AreOneCorner n face x y other a b = ((face ≡ other) × (x ≡ a) × (y ≡ b)) ⊎ AreJoined n face x y other a b
