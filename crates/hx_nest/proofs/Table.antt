-- The table of sides, by rows of faces: row r has the faces 4r to 4r + 3, numbered eastwards.
use Rattle.std.proofs.Common.{◌≡◌, ◌+◌, ◌%◌, ◌<◌, ℕ, refl, slice_index}
use Rattle.hx_nest.specs.declared.side.Side.{Side}
use Rattle.hx_nest.specs.declared.side.Side.TheVariants.{South, SouthEast, East, SouthWest, NorthEast, West, NorthWest, North}
use Rattle.hx_nest.specs.Sides.{faces_beyond, beyond}
use Rattle.hx_nest.proofs.Sectors.{four, next}

abbrev pub prev : ℕ → ℕ
prev c = (c + 3) % 4

abbrev pub opposite : ℕ → ℕ
opposite c = (c + 2) % 4

-- a spot at a side of a face becomes (a, b) of another face
abbrev pub Crosses : ℕ → Side → ℕ → ℕ → ℕ → ℕ → ℕ → ℕ → Type 0
Crosses last side face x y other a b = (slice_index (faces_beyond side) face ≡ other) × (beyond last side face x y ≡ (a, b))

module _ (last c x y : ℕ) (h : c < 4) where
  pub south_0 : Crosses last South c x y (8 + c) last last
  south_0 = four (λ c. Crosses last South c x y (8 + c) last last) (refl, refl) (refl, refl) (refl, refl) (refl, refl) c h

  pub south_east_0 : Crosses last SouthEast c x y (4 + next c) x last
  south_east_0 = four (λ c. Crosses last SouthEast c x y (4 + next c) x last) (refl, refl) (refl, refl) (refl, refl) (refl, refl) c h

  pub south_west_0 : Crosses last SouthWest c x y (4 + c) last y
  south_west_0 = four (λ c. Crosses last SouthWest c x y (4 + c) last y) (refl, refl) (refl, refl) (refl, refl) (refl, refl) c h

  pub north_east_0 : Crosses last NorthEast c x y (next c) y last
  north_east_0 = four (λ c. Crosses last NorthEast c x y (next c) y last) (refl, refl) (refl, refl) (refl, refl) (refl, refl) c h

  pub north_west_0 : Crosses last NorthWest c x y (prev c) last x
  north_west_0 = four (λ c. Crosses last NorthWest c x y (prev c) last x) (refl, refl) (refl, refl) (refl, refl) (refl, refl) c h

  pub north_0 : Crosses last North c x y (opposite c) last last
  north_0 = four (λ c. Crosses last North c x y (opposite c) last last) (refl, refl) (refl, refl) (refl, refl) (refl, refl) c h

  pub south_east_1 : Crosses last SouthEast (4 + c) x y (8 + c) x last
  south_east_1 = four (λ c. Crosses last SouthEast (4 + c) x y (8 + c) x last) (refl, refl) (refl, refl) (refl, refl) (refl, refl) c h

  pub east_1 : Crosses last East (4 + c) x y (4 + next c) 0 last
  east_1 = four (λ c. Crosses last East (4 + c) x y (4 + next c) 0 last) (refl, refl) (refl, refl) (refl, refl) (refl, refl) c h

  pub south_west_1 : Crosses last SouthWest (4 + c) x y (8 + prev c) last y
  south_west_1 = four (λ c. Crosses last SouthWest (4 + c) x y (8 + prev c) last y) (refl, refl) (refl, refl) (refl, refl) (refl, refl) c h

  pub north_east_1 : Crosses last NorthEast (4 + c) x y c 0 y
  north_east_1 = four (λ c. Crosses last NorthEast (4 + c) x y c 0 y) (refl, refl) (refl, refl) (refl, refl) (refl, refl) c h

  pub west_1 : Crosses last West (4 + c) x y (4 + prev c) last 0
  west_1 = four (λ c. Crosses last West (4 + c) x y (4 + prev c) last 0) (refl, refl) (refl, refl) (refl, refl) (refl, refl) c h

  pub north_west_1 : Crosses last NorthWest (4 + c) x y (prev c) x 0
  north_west_1 = four (λ c. Crosses last NorthWest (4 + c) x y (prev c) x 0) (refl, refl) (refl, refl) (refl, refl) (refl, refl) c h

  pub south_2 : Crosses last South (8 + c) x y (8 + opposite c) 0 0
  south_2 = four (λ c. Crosses last South (8 + c) x y (8 + opposite c) 0 0) (refl, refl) (refl, refl) (refl, refl) (refl, refl) c h

  pub south_east_2 : Crosses last SouthEast (8 + c) x y (8 + next c) 0 x
  south_east_2 = four (λ c. Crosses last SouthEast (8 + c) x y (8 + next c) 0 x) (refl, refl) (refl, refl) (refl, refl) (refl, refl) c h

  pub south_west_2 : Crosses last SouthWest (8 + c) x y (8 + prev c) y 0
  south_west_2 = four (λ c. Crosses last SouthWest (8 + c) x y (8 + prev c) y 0) (refl, refl) (refl, refl) (refl, refl) (refl, refl) c h

  pub north_east_2 : Crosses last NorthEast (8 + c) x y (4 + next c) 0 y
  north_east_2 = four (λ c. Crosses last NorthEast (8 + c) x y (4 + next c) 0 y) (refl, refl) (refl, refl) (refl, refl) (refl, refl) c h

  pub north_west_2 : Crosses last NorthWest (8 + c) x y (4 + c) x 0
  north_west_2 = four (λ c. Crosses last NorthWest (8 + c) x y (4 + c) x 0) (refl, refl) (refl, refl) (refl, refl) (refl, refl) c h

  pub north_2 : Crosses last North (8 + c) x y c 0 0
  north_2 = four (λ c. Crosses last North (8 + c) x y c 0 0) (refl, refl) (refl, refl) (refl, refl) (refl, refl) c h

-- the vertices where three faces meet have no face but those beyond the sides
module _ (c : ℕ) (h : c < 4) where
  pub east_0 : slice_index (faces_beyond East) c ≡ 12
  east_0 = four (λ c. slice_index (faces_beyond East) c ≡ 12) refl refl refl refl c h

  pub west_0 : slice_index (faces_beyond West) c ≡ 12
  west_0 = four (λ c. slice_index (faces_beyond West) c ≡ 12) refl refl refl refl c h

  pub south_1 : slice_index (faces_beyond South) (4 + c) ≡ 12
  south_1 = four (λ c. slice_index (faces_beyond South) (4 + c) ≡ 12) refl refl refl refl c h

  pub north_1 : slice_index (faces_beyond North) (4 + c) ≡ 12
  north_1 = four (λ c. slice_index (faces_beyond North) (4 + c) ≡ 12) refl refl refl refl c h

  pub east_2 : slice_index (faces_beyond East) (8 + c) ≡ 12
  east_2 = four (λ c. slice_index (faces_beyond East) (8 + c) ≡ 12) refl refl refl refl c h

  pub west_2 : slice_index (faces_beyond West) (8 + c) ≡ 12
  west_2 = four (λ c. slice_index (faces_beyond West) (8 + c) ≡ 12) refl refl refl refl c h
