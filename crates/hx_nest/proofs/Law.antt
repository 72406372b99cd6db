-- The law on corner points: two corners are one point exactly where they are one corner, or the table joins their faces there.
use Rattle.std.proofs.Common.{◌≡◌, ◌∙◌, ◌+◌, ◌-◌, ◌*◌, ◌<◌, ◌≤◌, ℕ, refl, sym, ap, subst, arith, inl, inr, slice_index}
use Rattle.std.proofs.lemmas.Bool.{cases_lt}
use Rattle.hx_base.specs.Touching.{ring, index_on, corner_point}
use Rattle.hx_nest.specs.declared.side.Side.{Side}
use Rattle.hx_nest.specs.declared.side.Side.TheVariants.{South, SouthEast, East, SouthWest, NorthEast, West, NorthWest, North}
use Rattle.hx_nest.specs.Sides.{faces_beyond, beyond, LiesOn, AreJoined, AreOneCorner}
use Rattle.hx_nest.proofs.Sectors.{next}
use Rattle.hx_nest.proofs.Table as table
use Rattle.hx_nest.proofs.Table.{Crosses, prev, opposite}
use Rattle.hx_nest.proofs.Spots.{ring_0, ring_1, ring_2}
use Rattle.hx_nest.proofs.Corners as corners
use Rattle.hx_nest.proofs.Corners.{AtNorth, AtSouth, OnEquator, NorthOfEquator, NorthOfSouth, itself, eastward, westward, across, itself_south, eastward_south, westward_south, across_south, itself_on, eastward_on, westward_on, north_west_of, north_east_of, north_west_above, north_east_above}

-- a point by a ring and the spot on it
point_on : (n f x y v : ℕ) → ring n f x y ≡ v → corner_point n f x y ≡ (v, index_on n f x y v)
point_on n f x y v e = ap (λ (k : ℕ). (k, index_on n f x y k)) e

same_from : (n f x y g a b v : ℕ) → ring n f x y ≡ v → ring n g a b ≡ v → index_on n f x y v ≡ index_on n g a b v → corner_point n f x y ≡ corner_point n g a b
same_from n f x y g a b v r s e = point_on n f x y v r ∙ ap (λ (k : ℕ). (v, k)) e ∙ sym (point_on n g a b v s)

same_place : (n f x y g a b v : ℕ) → ring n f x y ≡ v → ring n g a b ≡ v → corner_point n f x y ≡ corner_point n g a b → index_on n f x y v ≡ index_on n g a b v
same_place n f x y g a b v r s e = ap (λ (p : ℕ × ℕ). p.1) (sym (point_on n f x y v r) ∙ e ∙ point_on n g a b v s)

same_ring : (n f x y g a b v w : ℕ) → ring n f x y ≡ v → ring n g a b ≡ w → corner_point n f x y ≡ corner_point n g a b → v ≡ w
same_ring n f x y g a b v w r s e = sym r ∙ ap (λ (p : ℕ × ℕ). p.0) e ∙ s

-- corners of a face with column c and one with column d
module _ (n c x y d a b : ℕ) (hc : c < 4) (hd : d < 4) (pos : 0 < n) (hx : x ≤ n) (hy : y ≤ n) (ha : a ≤ n) (hb : b ≤ n) where
  same_north : corner_point n c x y ≡ corner_point n d a b → AtNorth n c x y d a b
  same_north e =
      let v = 2 * n - x - y in
      let r = ring_0 n c x y hc in
      let s = ring_0 n d a b hd in
      let q = same_ring n c x y d a b (2 * n - x - y) (2 * n - a - b) r s e in
      corners.north_rule n c x y d a b v hc hd pos hx hy ha hb (omega arith) (omega arith) (same_place n c x y d a b v r (s ∙ sym q) e)

  north_same : AtNorth n c x y d a b → corner_point n c x y ≡ corner_point n d a b
  north_same h =
      let v = 2 * n - x - y in
      let m = corners.north_point n c x y d a b v hc hd pos hx hy ha hb h (omega arith) in
      same_from n c x y d a b v (ring_0 n c x y hc) (ring_0 n d a b hd ∙ omega (arith, m.0)) m.1

  same_south : corner_point n (8 + c) x y ≡ corner_point n (8 + d) a b → AtSouth n c x y d a b
  same_south e =
      let v = 4 * n - x - y in
      let r = ring_2 n c x y hc in
      let s = ring_2 n d a b hd in
      let q = same_ring n (8 + c) x y (8 + d) a b (4 * n - x - y) (4 * n - a - b) r s e in
      corners.south_rule n c x y d a b v hc hd pos hx hy ha hb (omega arith) (omega arith) (same_place n (8 + c) x y (8 + d) a b v r (s ∙ sym q) e)

  south_same : AtSouth n c x y d a b → corner_point n (8 + c) x y ≡ corner_point n (8 + d) a b
  south_same h =
      let v = 4 * n - x - y in
      let m = corners.south_point n c x y d a b v hc hd pos hx hy ha hb h (omega arith) in
      same_from n (8 + c) x y (8 + d) a b v (ring_2 n c x y hc) (ring_2 n d a b hd ∙ omega (arith, m.0)) m.1

  same_equator : corner_point n (4 + c) x y ≡ corner_point n (4 + d) a b → OnEquator n c x y d a b
  same_equator e =
      let v = 3 * n - x - y in
      let r = ring_1 n c x y hc in
      let s = ring_1 n d a b hd in
      let q = same_ring n (4 + c) x y (4 + d) a b (3 * n - x - y) (3 * n - a - b) r s e in
      corners.equator_rule n c x y d a b v hc hd pos hx hy ha hb (omega arith) (omega arith) (same_place n (4 + c) x y (4 + d) a b v r (s ∙ sym q) e)

  equator_same : OnEquator n c x y d a b → corner_point n (4 + c) x y ≡ corner_point n (4 + d) a b
  equator_same h =
      let v = 3 * n - x - y in
      let m = corners.equator_point n c x y d a b v hc hd pos hx hy ha hb h (omega arith) in
      same_from n (4 + c) x y (4 + d) a b v (ring_1 n c x y hc) (ring_1 n d a b hd ∙ omega (arith, m.0)) m.1

  same_upper : corner_point n c x y ≡ corner_point n (4 + d) a b → NorthOfEquator n c x y d a b
  same_upper e =
      let v = 2 * n - x - y in
      let r = ring_0 n c x y hc in
      let s = ring_1 n d a b hd in
      let q = same_ring n c x y (4 + d) a b (2 * n - x - y) (3 * n - a - b) r s e in
      corners.upper_rule n c x y d a b v hc hd pos hx hy ha hb (omega arith) (omega arith) (same_place n c x y (4 + d) a b v r (s ∙ sym q) e)

  upper_same : NorthOfEquator n c x y d a b → corner_point n c x y ≡ corner_point n (4 + d) a b
  upper_same h =
      let v = 2 * n - x - y in
      let m = corners.upper_point n c x y d a b v hc hd pos hx hy ha hb h (omega arith) in
      same_from n c x y (4 + d) a b v (ring_0 n c x y hc) (ring_1 n d a b hd ∙ omega (arith, m.0)) m.1

  same_lower : corner_point n (4 + c) x y ≡ corner_point n (8 + d) a b → NorthOfSouth n c x y d a b
  same_lower e =
      let v = 3 * n - x - y in
      let r = ring_1 n c x y hc in
      let s = ring_2 n d a b hd in
      let q = same_ring n (4 + c) x y (8 + d) a b (3 * n - x - y) (4 * n - a - b) r s e in
      corners.lower_rule n c x y d a b v hc hd pos hx hy ha hb (omega arith) (omega arith) (same_place n (4 + c) x y (8 + d) a b v r (s ∙ sym q) e)

  lower_same : NorthOfSouth n c x y d a b → corner_point n (4 + c) x y ≡ corner_point n (8 + d) a b
  lower_same h =
      let v = 3 * n - x - y in
      let m = corners.lower_point n c x y d a b v hc hd pos hx hy ha hb h (omega arith) in
      same_from n (4 + c) x y (8 + d) a b v (ring_1 n c x y hc) (ring_2 n d a b hd ∙ omega (arith, m.0)) m.1

  same_far : corner_point n c x y ≡ corner_point n (8 + d) a b → (d ≡ c) × (x ≡ 0) × (y ≡ 0) × (a ≡ n) × (b ≡ n)
  same_far e =
      let v = 2 * n - x - y in
      let r = ring_0 n c x y hc in
      let s = ring_2 n d a b hd in
      let q = same_ring n c x y (8 + d) a b (2 * n - x - y) (4 * n - a - b) r s e in
      corners.far_rule n c x y d a b v hc hd pos hx hy ha hb (omega arith) (omega arith) (same_place n c x y (8 + d) a b v r (s ∙ sym q) e)

  far_same : d ≡ c → x ≡ 0 → y ≡ 0 → a ≡ n → b ≡ n → corner_point n c x y ≡ corner_point n (8 + d) a b
  far_same s t u w z =
      let v = 2 * n - x - y in
      let m = corners.far_point n c x y d a b v hc hd pos hx hy ha hb s t u w z (omega arith) in
      same_from n c x y (8 + d) a b v (ring_0 n c x y hc) (ring_2 n d a b hd ∙ omega (arith, m.0)) m.1

-- a fact for each of the twelve faces
pub by_row : (P : ℕ → Type 0) → ((c : ℕ) → c < 4 → P c) → ((c : ℕ) → c < 4 → P (4 + c)) → ((c : ℕ) → c < 4 → P (8 + c)) → (f : ℕ) → f < 12 → P f
by_row P north equator south f h =
    elim (cases_lt f 4) [
      | inl low ↦ north f low
      | inr high ↦
          elim (cases_lt f 8) [
            | inl low ↦ let e : 4 + (f - 4) ≡ f = omega arith in subst P e (equator (f - 4) (omega arith))
            | inr high2 ↦ let e : 8 + (f - 8) ≡ f = omega arith in subst P e (south (f - 8) (omega arith))
          ]
    ]

pair : (p q a b : ℕ) → p ≡ a → q ≡ b → ◌≡◌ {A = ℕ × ℕ} (p, q) (a, b)
pair p q a b e f = ap (λ (k : ℕ). (k, q)) e ∙ ap (λ (k : ℕ). (a, k)) f

-- the table joins what it crosses to
joins : (n : ℕ) (side : Side) (f x y g a b h p q : ℕ) → LiesOn n side x y → Crosses n side f x y h p q → h ≡ g → p ≡ a → q ≡ b → AreOneCorner n f x y g a b
joins n side f x y g a b h p q on crosses e s t = inr (record { side = side; on_side = on; joined = crosses.0 ∙ e; spot = crosses.1 ∙ pair p q a b s t })

stays : (n f x y g a b : ℕ) → f ≡ g → x ≡ a → y ≡ b → AreOneCorner n f x y g a b
stays n f x y g a b e s t = inl (e, s, t)

module _ (n x y a b : ℕ) (pos : 0 < n) (hx : x ≤ n) (hy : y ≤ n) (ha : a ≤ n) (hb : b ≤ n) where
  -- one point, one rule
  abbrev Rule : ℕ → ℕ → Type 0
  Rule f g = corner_point n f x y ≡ corner_point n g a b → AreOneCorner n f x y g a b

  from_north : (c : ℕ) → c < 4 → (g : ℕ) → g < 12 → Rule c g
  from_north c hc = by_row (Rule c)
      (λ d hd e.
      elim (same_north n c x y d a b hc hd pos hx hy ha hb e) [
        | itself s t u ↦ stays n c x y d a b s t u
        | eastward s t u w ↦ joins n NorthEast c x y d a b _ _ _ t (table.north_east_0 n c x y hc) (sym s) (sym u) (sym w)
        | westward s t u w ↦ joins n NorthWest c x y d a b _ _ _ t (table.north_west_0 n c x y hc) (omega arith) (sym u) (sym w)
        | across s t u w z ↦ joins n North c x y d a b _ _ _ (t, u) (table.north_0 n c x y hc) (sym s) (sym w) (sym z)
      ])
      (λ d hd e.
      elim (same_upper n c x y d a b hc hd pos hx hy ha hb e) [
        | north_west_of s t u w ↦ joins n SouthEast c x y (4 + d) a b _ _ _ t (table.south_east_0 n c x y hc) (omega arith) (sym u) (sym w)
        | north_east_of s t u w ↦ joins n SouthWest c x y (4 + d) a b _ _ _ t (table.south_west_0 n c x y hc) (omega arith) (sym u) (sym w)
      ])
      (λ d hd e.
      let m = same_far n c x y d a b hc hd pos hx hy ha hb e in
      joins n South c x y (8 + d) a b _ _ _ (m.1, m.2) (table.south_0 n c x y hc) (omega (arith, m.0)) (sym m.3) (sym m.4))

  from_equator : (c : ℕ) → c < 4 → (g : ℕ) → g < 12 → Rule (4 + c) g
  from_equator c hc = by_row (Rule (4 + c))
      (λ d hd e.
      elim (same_upper n d a b c x y hd hc pos ha hb hx hy (sym e)) [
        | north_west_of s t u w ↦ joins n NorthWest (4 + c) x y d a b _ _ _ w (table.north_west_1 n c x y hc) (omega arith) u (sym t)
        | north_east_of s t u w ↦ joins n NorthEast (4 + c) x y d a b _ _ _ u (table.north_east_1 n c x y hc) s (sym t) w
      ])
      (λ d hd e.
      elim (same_equator n c x y d a b hc hd pos hx hy ha hb e) [
        | itself_on s t u ↦ stays n (4 + c) x y (4 + d) a b (omega arith) t u
        | eastward_on s t u w z ↦ joins n East (4 + c) x y (4 + d) a b _ _ _ (t, u) (table.east_1 n c x y hc) (omega arith) (sym w) (sym z)
        | westward_on s t u w z ↦ joins n West (4 + c) x y (4 + d) a b _ _ _ (t, u) (table.west_1 n c x y hc) (omega arith) (sym w) (sym z)
      ])
      (λ d hd e.
      elim (same_lower n c x y d a b hc hd pos hx hy ha hb e) [
        | north_west_above s t u w ↦ joins n SouthEast (4 + c) x y (8 + d) a b _ _ _ t (table.south_east_1 n c x y hc) (omega arith) (sym u) (sym w)
        | north_east_above s t u w ↦ joins n SouthWest (4 + c) x y (8 + d) a b _ _ _ t (table.south_west_1 n c x y hc) (omega arith) (sym u) (sym w)
      ])

  from_south : (c : ℕ) → c < 4 → (g : ℕ) → g < 12 → Rule (8 + c) g
  from_south c hc = by_row (Rule (8 + c))
      (λ d hd e.
      let m = same_far n d a b c x y hd hc pos ha hb hx hy (sym e) in
      joins n North (8 + c) x y d a b _ _ _ (m.3, m.4) (table.north_2 n c x y hc) m.0 (sym m.1) (sym m.2))
      (λ d hd e.
      elim (same_lower n d a b c x y hd hc pos ha hb hx hy (sym e)) [
        | north_west_above s t u w ↦ joins n NorthWest (8 + c) x y (4 + d) a b _ _ _ w (table.north_west_2 n c x y hc) (omega arith) u (sym t)
        | north_east_above s t u w ↦ joins n NorthEast (8 + c) x y (4 + d) a b _ _ _ u (table.north_east_2 n c x y hc) (omega arith) (sym t) w
      ])
      (λ d hd e.
      elim (same_south n c x y d a b hc hd pos hx hy ha hb e) [
        | itself_south s t u ↦ stays n (8 + c) x y (8 + d) a b (omega arith) t u
        | eastward_south s t u w ↦ joins n SouthEast (8 + c) x y (8 + d) a b _ _ _ t (table.south_east_2 n c x y hc) (omega arith) (sym u) (sym w)
        | westward_south s t u w ↦ joins n SouthWest (8 + c) x y (8 + d) a b _ _ _ t (table.south_west_2 n c x y hc) (omega arith) (sym u) (sym w)
        | across_south s t u w z ↦ joins n South (8 + c) x y (8 + d) a b _ _ _ (t, u) (table.south_2 n c x y hc) (omega arith) (sym w) (sym z)
      ])

  pub one_corner : (f : ℕ) → f < 12 → (g : ℕ) → g < 12 → Rule f g
  one_corner = by_row (λ f. (g : ℕ) → g < 12 → Rule f g) from_north from_equator from_south

-- what the table joins is one point
carry : (n : ℕ) (side : Side) (f x y h p q g a b : ℕ) → corner_point n f x y ≡ corner_point n h p q → Crosses n side f x y h p q → slice_index (faces_beyond side) f ≡ g → beyond n side f x y ≡ (a, b)
    → corner_point n f x y ≡ corner_point n g a b
carry n side f x y h p q g a b same crosses e s =
    let spot : ◌≡◌ {A = ℕ × ℕ} (p, q) (a, b) = sym crosses.1 ∙ s in
    same ∙ ap (λ (k : ℕ). corner_point n k p q) (sym crosses.0 ∙ e) ∙ ap (λ (k : ℕ × ℕ). corner_point n g k.0 k.1) spot

module _ (n x y g a b : ℕ) (pos : 0 < n) (hx : x ≤ n) (hy : y ≤ n) (hg : g < 12) where
  abbrev Joins : Side → ℕ → Type 0
  Joins side f = LiesOn n side x y → slice_index (faces_beyond side) f ≡ g → beyond n side f x y ≡ (a, b) → corner_point n f x y ≡ corner_point n g a b

  full : n ≤ n
  full = omega arith

  none : 0 ≤ n
  none = omega arith

  joined_north : (c : ℕ) → c < 4 → (side : Side) → Joins side c
  joined_north c h South (s, t) e p = carry n South c x y _ _ _ g a b (far_same n c x y c n n h h pos hx hy full full refl s t refl refl) (table.south_0 n c x y h) e p
  joined_north c h SouthEast t e p = carry n SouthEast c x y _ _ _ g a b (upper_same n c x y (next c) x n h (omega arith) pos hx hy hx full (north_west_of refl t refl refl)) (table.south_east_0 n c x y h) e p
  joined_north c h East on e p = absurd (omega (arith, table.east_0 c h, e))
  joined_north c h SouthWest s e p = carry n SouthWest c x y _ _ _ g a b (upper_same n c x y c n y h h pos hx hy full hy (north_east_of refl s refl refl)) (table.south_west_0 n c x y h) e p
  joined_north c h NorthEast s e p = carry n NorthEast c x y _ _ _ g a b (north_same n c x y (next c) y n h (omega arith) pos hx hy hy full (eastward refl s refl refl)) (table.north_east_0 n c x y h) e p
  joined_north c h West on e p = absurd (omega (arith, table.west_0 c h, e))
  joined_north c h NorthWest t e p = carry n NorthWest c x y _ _ _ g a b (north_same n c x y (prev c) n x h (omega arith) pos hx hy full hx (westward (omega arith) t refl refl)) (table.north_west_0 n c x y h) e p
  joined_north c h North (s, t) e p = carry n North c x y _ _ _ g a b (north_same n c x y (opposite c) n n h (omega arith) pos hx hy full full (across refl s t refl refl)) (table.north_0 n c x y h) e p

  joined_equator : (c : ℕ) → c < 4 → (side : Side) → Joins side (4 + c)
  joined_equator c h South on e p = absurd (omega (arith, table.south_1 c h, e))
  joined_equator c h SouthEast t e p = carry n SouthEast (4 + c) x y _ _ _ g a b (lower_same n c x y c x n h h pos hx hy hx full (north_west_above refl t refl refl)) (table.south_east_1 n c x y h) e p
  joined_equator c h East (s, t) e p = carry n East (4 + c) x y _ _ _ g a b (equator_same n c x y (next c) 0 n h (omega arith) pos hx hy none full (eastward_on refl s t refl refl)) (table.east_1 n c x y h) e p
  joined_equator c h SouthWest s e p =
      carry n SouthWest (4 + c) x y _ _ _ g a b (lower_same n c x y (prev c) n y h (omega arith) pos hx hy full hy (north_east_above (omega arith) s refl refl)) (table.south_west_1 n c x y h) e p
  joined_equator c h NorthEast s e p = carry n NorthEast (4 + c) x y _ _ _ g a b (sym (upper_same n c 0 y c x y h h pos none hy hx hy (north_east_of refl refl s refl))) (table.north_east_1 n c x y h) e p
  joined_equator c h West (s, t) e p = carry n West (4 + c) x y _ _ _ g a b (equator_same n c x y (prev c) n 0 h (omega arith) pos hx hy full none (westward_on (omega arith) s t refl refl)) (table.west_1 n c x y h) e p
  joined_equator c h NorthWest t e p =
      carry n NorthWest (4 + c) x y _ _ _ g a b (sym (upper_same n (prev c) x 0 c x y (omega arith) h pos hx none hx hy (north_west_of (omega arith) refl refl t))) (table.north_west_1 n c x y h) e p
  joined_equator c h North on e p = absurd (omega (arith, table.north_1 c h, e))

  joined_south : (c : ℕ) → c < 4 → (side : Side) → Joins side (8 + c)
  joined_south c h South (s, t) e p = carry n South (8 + c) x y _ _ _ g a b (south_same n c x y (opposite c) 0 0 h (omega arith) pos hx hy none none (across_south refl s t refl refl)) (table.south_2 n c x y h) e p
  joined_south c h SouthEast t e p = carry n SouthEast (8 + c) x y _ _ _ g a b (south_same n c x y (next c) 0 x h (omega arith) pos hx hy none hx (eastward_south refl t refl refl)) (table.south_east_2 n c x y h) e p
  joined_south c h East on e p = absurd (omega (arith, table.east_2 c h, e))
  joined_south c h SouthWest s e p =
      carry n SouthWest (8 + c) x y _ _ _ g a b (south_same n c x y (prev c) y 0 h (omega arith) pos hx hy hy none (westward_south (omega arith) s refl refl)) (table.south_west_2 n c x y h) e p
  joined_south c h NorthEast s e p =
      carry n NorthEast (8 + c) x y _ _ _ g a b (sym (lower_same n (next c) 0 y c x y (omega arith) h pos none hy hx hy (north_east_above refl refl s refl))) (table.north_east_2 n c x y h) e p
  joined_south c h West on e p = absurd (omega (arith, table.west_2 c h, e))
  joined_south c h NorthWest t e p = carry n NorthWest (8 + c) x y _ _ _ g a b (sym (lower_same n c x 0 c x y h h pos hx none hx hy (north_west_above refl refl refl t))) (table.north_west_2 n c x y h) e p
  joined_south c h North (s, t) e p = carry n North (8 + c) x y _ _ _ g a b (sym (far_same n c 0 0 c x y h h pos none none hx hy refl refl refl s t)) (table.north_2 n c x y h) e p

  pub joined_point : (f : ℕ) → f < 12 → AreJoined n f x y g a b → corner_point n f x y ≡ corner_point n g a b
  joined_point f hf j = by_row (λ f. (side : Side) → Joins side f) joined_north joined_equator joined_south f hf j.side j.on_side j.joined j.spot

pub one_point : (n f x y g a b : ℕ) → 0 < n → f < 12 → g < 12 → x ≤ n → y ≤ n → AreOneCorner n f x y g a b → corner_point n f x y ≡ corner_point n g a b
one_point n f x y g a b pos hf hg hx hy (inl (e, s, t)) = rw (e, s, t) refl
one_point n f x y g a b pos hf hg hx hy (inr j) = joined_point n x y g a b pos hx hy hg f hf j
