-- Steps of a coordinate by one, and the pixel that they lead to.
use Rattle.std.specs.Prelude.{◌≡◌, ◌==◌, ◌↔◌, ◌⊎◌, ◌+◌, ◌-◌, ◌<◌, ◌≤◌, ℕ, List, Contains, length, Option, Some, None, if◌then◌else◌, slice_index}
use Rattle.hx_nest.specs.declared.spot.FaceXy.{FaceXy}
use Rattle.hx_nest.specs.declared.side.Side.{Side}
use Rattle.hx_nest.specs.declared.side.Side.TheVariants.{South, SouthEast, East, SouthWest, NorthEast, West, NorthWest, North}
use Rattle.hx_nest.specs.declared.step.Coordinate.{Coordinate}
use Rattle.hx_nest.specs.declared.step.Coordinate.TheVariants.{Below, Within, Above}
use Rattle.hx_base.specs.Touching.{IsAt}
use Rattle.hx_nest.specs.Lists.{Ascends}
use Rattle.hx_nest.specs.Sides.{faces_beyond, beyond}

-- a coordinate next to x, or x itself; x is at an end where a step from it leaves the face
abbrev pub IsNear : ℕ → ℕ → Coordinate → Type 0
IsNear last x (Within a) = (a ≤ last) × (a ≤ x + 1) × (x ≤ a + 1)
IsNear last x Below = x ≡ 0
IsNear last x Above = x ≡ last

abbrev pub before : ℕ → Coordinate
before x = if x == 0 then Below else Within (x - 1)

abbrev pub after : ℕ → ℕ → Coordinate
after last x = if x == last then Above else Within (x + 1)

-- the pixel beyond a side or vertex, if a face is there
abbrev pub across : ℕ → Side → ℕ → ℕ → ℕ → Option FaceXy
across last side face x y =
    let there = slice_index (faces_beyond side) face in
    if there == 12 then None else Some (record { face = there; x = (beyond last side face x y).0; y = (beyond last side face x y).1 })

-- the pixel that two coordinates lead to, by the side that they leave the face by
abbrev pub pixel_at : ℕ → ℕ → Coordinate → Coordinate → Option FaceXy
pixel_at last face (Within x) (Within y) = Some (record { face = face; x = x; y = y })
pixel_at last face Below Below = across last South face 0 0
pixel_at last face (Within x) Below = across last SouthEast face x 0
pixel_at last face Above Below = across last East face last 0
pixel_at last face Below (Within y) = across last SouthWest face 0 y
pixel_at last face Above (Within y) = across last NorthEast face last y
pixel_at last face Below Above = across last West face 0 last
pixel_at last face (Within x) Above = across last NorthWest face x last
pixel_at last face Above Above = across last North face last last

-- a spot on a grid
pub record IsOnGrid (last : ℕ) (at : FaceXy) : Type 0 where
  pub face_range : at.face < 12
  pub x_range : at.x ≤ last
  pub y_range : at.y ≤ last

-- a pixel has the number of a spot, if there is one
abbrev pub HasPlace : ℕ → Option FaceXy → ℕ → Type 0
HasPlace order None pixel = ⊥
HasPlace order (Some at) pixel = IsAt order pixel at.face at.x at.y

-- an ascending list gains the pixel that a step leads to, if there is one
pub record AddsStep (order : ℕ) (step : Option FaceXy) (old new : List ℕ) : Type 0 where
  pub ascending : Ascends new
  pub members : (q : ℕ) → Contains new q ↔ (Contains old q ⊎ HasPlace order step q)
  pub count : length new ≤ length old + 1
