-- Touching pixels of HEALPix's nested scheme.
--
-- Twelve faces cover the sphere: 0 to 3 round the north pole, 4 to 7 along the equator, 8 to 11 round the south pole, each row numbered
-- eastwards. At order k a face is a grid of n * n pixels, n = 2 ^ k, that stands on its south corner: x grows to the north-east and y to
-- the north-west. So the corners of its pixels have coordinates from 0 to n.
--
-- HEALPix's projection puts the corners of a face that have one x + y on one parallel. So all corners lie on rings, numbered from 0 at
-- the north pole to 4n at the south pole.
-- On the belt between the polar caps, the rings n to 3n, faces are squares that stand on a corner: a step of x goes half a pixel's width
-- to the east, a step of y half a width to the west, and 8n halves go round.
-- In a cap the faces narrow towards the pole. On the ring v rings from the pole each of the cap's four faces has v steps, counted from its
-- western side, so 4v go round; at the pole itself there is one point.
-- A corner where several faces meet gets one ring and one index on it from each of them. That alone says which pixels touch, without a table
-- of sides.
use Rattle.std.specs.Prelude.{◌≡◌, ◌≢◌, ◌==◌, ◌+◌, ◌-◌, ◌*◌, ◌/◌, ◌%◌, ◌^◌, ◌<◌, ◌≤◌, ◌||◌, if◌then◌else◌, ℕ, zero, suc, nat_lt}

-- the lowest k bits of x at the even digits, and those of y at the odd digits, the lowest digit first
abbrev pub interleave : ℕ → ℕ → ℕ → ℕ
interleave zero x y = 0
interleave (suc k) x y = x % 2 + 2 * (y % 2) + 4 * interleave k (x / 2) (y / 2)

-- pixel (x, y) of a face has this number
pub record IsAt (order pixel face x y : ℕ) : Type 0 where
  pub face_range : face < 12
  pub x_range : x < 2 ^ order
  pub y_range : y < 2 ^ order
  pub number : pixel ≡ face * 4 ^ order + interleave order x y

-- the ring of a corner: a face's south corner is on ring 2n, 3n or 4n, by its row of faces
abbrev pub ring : ℕ → ℕ → ℕ → ℕ → ℕ
ring n face x y = (2 + face / 4) * n - x - y

-- how far east the middle of a face on the belt is, in n half widths: odd in the rows at the poles, even on the equator
abbrev pub middle : ℕ → ℕ
middle face = 2 * (face % 4) + (face / 4 + 1) % 2

-- the index of a corner of a face on ring v, eastwards from the meridian of face 0's western corner
abbrev pub index_on : ℕ → ℕ → ℕ → ℕ → ℕ → ℕ
index_on n face x y v =
    if v == 0 || v == 4 * n then 0
    else if nat_lt v n then (face * v + (n - y)) % (4 * v)
    else if nat_lt (3 * n) v then ((face - 8) * (4 * n - v) + x) % (4 * (4 * n - v))
    else (middle face * n + 8 * n + x - y) % (8 * n)

-- the point of the sphere at corner (x, y) of a face, as its ring and its index on the ring
abbrev pub corner_point : ℕ → ℕ → ℕ → ℕ → ℕ × ℕ
corner_point n face x y = (ring n face x y, index_on n face x y (ring n face x y))

-- a point is one of a pixel's four corners
abbrev pub HasCorner : ℕ → ℕ → ℕ × ℕ → Type 0
HasCorner order pixel point = (face x y i j : ℕ) × (IsAt order pixel face x y) × (i ≤ 1) × (j ≤ 1) × (corner_point (2 ^ order) face (x + i) (y + j) ≡ point)

-- two pixels of an order differ and have a corner in common
pub record Touch (order p q : ℕ) : Type 0 where
  pub different : p ≢ q
  pub shared : (point : ℕ × ℕ) × HasCorner order p point × HasCorner order q point
