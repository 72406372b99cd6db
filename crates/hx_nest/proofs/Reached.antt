-- Each step leads to a pixel that shares a corner, and each pixel that shares a corner is reached by a step.
use Rattle.std.proofs.Common.{◌≢◌, ◌≡◌, ◌∙◌, ◌==◌, ◌+◌, ◌-◌, ◌<◌, ◌≤◌, ℕ, Option, Some, None, true, false, refl, sym, ap, subst, arith, inl, inr, slice_index, eq-eqb}
use Rattle.std.proofs.lemmas.Bool.{ne_eqb}
use Rattle.hx_base.specs.Touching.{corner_point}
use Rattle.hx_nest.specs.declared.spot.FaceXy.{FaceXy}
use Rattle.hx_nest.specs.declared.side.Side.{Side}
use Rattle.hx_nest.specs.declared.side.Side.TheVariants.{South, SouthEast, East, SouthWest, NorthEast, West, NorthWest, North}
use Rattle.hx_nest.specs.declared.step.Coordinate.{Coordinate}
use Rattle.hx_nest.specs.declared.step.Coordinate.TheVariants.{Below, Within, Above}
use Rattle.hx_nest.specs.Sides.{faces_beyond, beyond, LiesOn, AreJoined}
use Rattle.hx_nest.specs.Steps.{IsNear, IsOnGrid, across, pixel_at}
use Rattle.hx_nest.proofs.Law.{by_row, joined_point, one_corner}
use Rattle.hx_nest.proofs.Sectors.{next}
use Rattle.hx_nest.proofs.Table as table
use Rattle.hx_nest.proofs.Table.{Crosses, prev, opposite}

-- two pixels have a corner in common
abbrev pub SharesCorner : ℕ → ℕ → ℕ → ℕ → ℕ → ℕ → ℕ → Type 0
SharesCorner n f x y g a b = (i j k m : ℕ) × (i ≤ 1) × (j ≤ 1) × (k ≤ 1) × (m ≤ 1) × (corner_point n f (x + i) (y + j) ≡ corner_point n g (a + k) (b + m))

pub record IsReached (last f x y : ℕ) (pixel : FaceXy) : Type 0 where
  pub on_grid : IsOnGrid last pixel
  pub shares : SharesCorner (last + 1) f x y pixel.face pixel.x pixel.y
  pub other : pixel.face ≡ f → (pixel.x ≡ x) × (pixel.y ≡ y) → ⊥

-- where a step over a side leads
lands : (last : ℕ) (side : Side) (f x y h p q : ℕ) → Crosses last side f x y h p q → h < 12 → across last side f x y ≡ Some (record { face = h; x = p; y = q })
lands last side f x y h p q crosses small =
    let some : (slice_index (faces_beyond side) f == 12) ≡ false = ne_eqb (slice_index (faces_beyond side) f) 12 (λ e. omega (arith, crosses.0, e)) in
    let px : (beyond last side f x y).0 ≡ p = ap (λ (k : ℕ × ℕ). k.0) crosses.1 in
    let py : (beyond last side f x y).1 ≡ q = ap (λ (k : ℕ × ℕ). k.1) crosses.1 in
    rw (some, crosses.0, px, py) refl

nothing : (last : ℕ) (side : Side) (f x y : ℕ) → slice_index (faces_beyond side) f ≡ 12 → across last side f x y ≡ None
nothing last side f x y e = let none : (slice_index (faces_beyond side) f == 12) ≡ true = eq-eqb (slice_index (faces_beyond side) f) 12 e in rw none refl

got : (P : FaceXy → Type 0) (o : Option FaceXy) (p q : FaceXy) → o ≡ Some p → o ≡ Some q → P p → P q
got P o p q e f h = let same : p ≡ q = cc in subst P same h

never : (P : Type 0) (o : Option FaceXy) (q : FaceXy) → o ≡ None → o ≡ Some q → P
never P o q e f = cc

module _ (last f x y : ℕ) (hf : f < 12) (hx : x ≤ last) (hy : y ≤ last) where
  reach : (side : Side) (h p q u v i j k m a b : ℕ) → Crosses last side f u v h p q → Crosses (last + 1) side f (x + i) (y + j) h a b → LiesOn (last + 1) side (x + i) (y + j)
      → (h < 12) × (h ≢ f) × (p ≤ last) × (q ≤ last) × (i ≤ 1) × (j ≤ 1) × (k ≤ 1) × (m ≤ 1) × (a ≡ p + k) × (b ≡ q + m) → (pixel : FaceXy) → across last side f u v ≡ Some pixel → IsReached last f x y pixel
  reach side h p q u v i j k m a b crosses corner on (small, off, hp, hq, hi, hj, hk, hm, ea, eb) pixel e =
      let joined = joined_point (last + 1) (x + i) (y + j) h a b (omega arith) (omega arith) (omega arith) small f hf (record { side = side; on_side = on; joined = corner.0; spot = corner.1 }) in
      got (IsReached last f x y) (across last side f u v) (record { face = h; x = p; y = q }) pixel (lands last side f u v h p q crosses small) e
      (record {
        on_grid = record { face_range = small; x_range = hp; y_range = hq };
        shares = (i, j, k, m, hi, hj, hk, hm, joined ∙ ap (λ (z : ℕ). corner_point (last + 1) h z b) ea ∙ ap (λ (z : ℕ). corner_point (last + 1) h (p + k) z) eb);
        other = λ same spot. off same;
      })

  -- a step that stays on the face
  stays : (a b : ℕ) → IsNear last x (Within a) → IsNear last y (Within b) → ((a ≡ x) × (b ≡ y) → ⊥) → (pixel : FaceXy) → pixel_at last f (Within a) (Within b) ≡ Some pixel → IsReached last f x y pixel
  stays a b na nb off pixel e =
      let px : x + (a - x) ≡ a + (x - a) = omega arith in
      let py : y + (b - y) ≡ b + (y - b) = omega arith in
      got (IsReached last f x y) (pixel_at last f (Within a) (Within b)) (record { face = f; x = a; y = b }) pixel refl e
      (record {
        on_grid = record { face_range = hf; x_range = na.0; y_range = nb.0 };
        shares = (a - x, b - y, x - a, y - b, omega arith, omega arith, omega arith, omega arith, ap (λ (z : ℕ). corner_point (last + 1) f z (y + (b - y))) px ∙ ap (λ (z : ℕ). corner_point (last + 1) f (a + (x - a)) z) py);
        other = λ same spot. off spot;
      })

-- not the pixel's own coordinates
abbrev pub IsOwn : ℕ → ℕ → Coordinate → Coordinate → Type 0
IsOwn x y (Within a) (Within b) = (a ≡ x) × (b ≡ y)
IsOwn x y Below c = ⊥
IsOwn x y Above c = ⊥
IsOwn x y (Within a) Below = ⊥
IsOwn x y (Within a) Above = ⊥

abbrev Leads : ℕ → ℕ → ℕ → ℕ → Coordinate → Coordinate → Type 0
Leads last f x y px py = IsNear last x px → IsNear last y py → (IsOwn x y px py → ⊥) → (pixel : FaceXy) → pixel_at last f px py ≡ Some pixel → IsReached last f x y pixel

module _ (last x y : ℕ) (hx : x ≤ last) (hy : y ≤ last) where
  leads_north : (c : ℕ) → c < 4 → (px py : Coordinate) → Leads last c x y px py
  leads_north c hc (Within a) (Within b) na nb off pixel e = stays last c x y (omega arith) hx hy a b na nb off pixel e
  leads_north c hc Below Below na nb off pixel e =
      reach last c x y (omega arith) hx hy South (8 + c) last last 0 0 0 0 1 1 (last + 1) (last + 1) (table.south_0 last c 0 0 hc) (table.south_0 (last + 1) c (x + 0) (y + 0) hc) (omega arith, omega arith) (omega arith) pixel e
  leads_north c hc (Within a) Below na nb off pixel e =
      reach last c x y (omega arith) hx hy SouthEast (4 + next c) a last a 0 (a - x) 0 (x - a) 1 (x + (a - x)) (last + 1) (table.south_east_0 last c a 0 hc) (table.south_east_0 (last + 1) c (x + (a - x)) (y + 0) hc) (omega arith) (omega arith) pixel e
  leads_north c hc Above Below na nb off pixel e = never (IsReached last c x y pixel) (across last East c last 0) pixel (nothing last East c last 0 (table.east_0 c hc)) e
  leads_north c hc Below (Within b) na nb off pixel e =
      reach last c x y (omega arith) hx hy SouthWest (4 + c) last b 0 b 0 (b - y) 1 (y - b) (last + 1) (y + (b - y)) (table.south_west_0 last c 0 b hc) (table.south_west_0 (last + 1) c (x + 0) (y + (b - y)) hc) (omega arith) (omega arith) pixel e
  leads_north c hc Above (Within b) na nb off pixel e =
      reach last c x y (omega arith) hx hy NorthEast (next c) b last last b 1 (b - y) (y - b) 1 (y + (b - y)) (last + 1) (table.north_east_0 last c last b hc) (table.north_east_0 (last + 1) c (x + 1) (y + (b - y)) hc) (omega arith) (omega arith) pixel e
  leads_north c hc Below Above na nb off pixel e = never (IsReached last c x y pixel) (across last West c 0 last) pixel (nothing last West c 0 last (table.west_0 c hc)) e
  leads_north c hc (Within a) Above na nb off pixel e =
      reach last c x y (omega arith) hx hy NorthWest (prev c) last a a last (a - x) 1 1 (x - a) (last + 1) (x + (a - x)) (table.north_west_0 last c a last hc) (table.north_west_0 (last + 1) c (x + (a - x)) (y + 1) hc) (omega arith) (omega arith) pixel e
  leads_north c hc Above Above na nb off pixel e =
      reach last c x y (omega arith) hx hy North (opposite c) last last last last 1 1 1 1 (last + 1) (last + 1) (table.north_0 last c last last hc) (table.north_0 (last + 1) c (x + 1) (y + 1) hc) (omega arith, omega arith) (omega arith) pixel e

  leads_equator : (c : ℕ) → c < 4 → (px py : Coordinate) → Leads last (4 + c) x y px py
  leads_equator c hc (Within a) (Within b) na nb off pixel e = stays last (4 + c) x y (omega arith) hx hy a b na nb off pixel e
  leads_equator c hc Below Below na nb off pixel e = never (IsReached last (4 + c) x y pixel) (across last South (4 + c) 0 0) pixel (nothing last South (4 + c) 0 0 (table.south_1 c hc)) e
  leads_equator c hc (Within a) Below na nb off pixel e =
      reach last (4 + c) x y (omega arith) hx hy SouthEast (8 + c) a last a 0 (a - x) 0 (x - a) 1 (x + (a - x)) (last + 1) (table.south_east_1 last c a 0 hc) (table.south_east_1 (last + 1) c (x + (a - x)) (y + 0) hc) (omega arith) (omega arith) pixel e
  leads_equator c hc Above Below na nb off pixel e =
      reach last (4 + c) x y (omega arith) hx hy East (4 + next c) 0 last last 0 1 0 0 1 0 (last + 1) (table.east_1 last c last 0 hc) (table.east_1 (last + 1) c (x + 1) (y + 0) hc) (omega arith, omega arith) (omega arith) pixel e
  leads_equator c hc Below (Within b) na nb off pixel e =
      reach last (4 + c) x y (omega arith) hx hy SouthWest (8 + prev c) last b 0 b 0 (b - y) 1 (y - b) (last + 1) (y + (b - y)) (table.south_west_1 last c 0 b hc) (table.south_west_1 (last + 1) c (x + 0) (y + (b - y)) hc) (omega arith) (omega arith) pixel e
  leads_equator c hc Above (Within b) na nb off pixel e =
      reach last (4 + c) x y (omega arith) hx hy NorthEast c 0 b last b 1 (b - y) 0 (y - b) 0 (y + (b - y)) (table.north_east_1 last c last b hc) (table.north_east_1 (last + 1) c (x + 1) (y + (b - y)) hc) (omega arith) (omega arith) pixel e
  leads_equator c hc Below Above na nb off pixel e =
      reach last (4 + c) x y (omega arith) hx hy West (4 + prev c) last 0 0 last 0 1 1 0 (last + 1) 0 (table.west_1 last c 0 last hc) (table.west_1 (last + 1) c (x + 0) (y + 1) hc) (omega arith, omega arith) (omega arith) pixel e
  leads_equator c hc (Within a) Above na nb off pixel e =
      reach last (4 + c) x y (omega arith) hx hy NorthWest (prev c) a 0 a last (a - x) 1 (x - a) 0 (x + (a - x)) 0 (table.north_west_1 last c a last hc) (table.north_west_1 (last + 1) c (x + (a - x)) (y + 1) hc) (omega arith) (omega arith) pixel e
  leads_equator c hc Above Above na nb off pixel e = never (IsReached last (4 + c) x y pixel) (across last North (4 + c) last last) pixel (nothing last North (4 + c) last last (table.north_1 c hc)) e

  leads_south : (c : ℕ) → c < 4 → (px py : Coordinate) → Leads last (8 + c) x y px py
  leads_south c hc (Within a) (Within b) na nb off pixel e = stays last (8 + c) x y (omega arith) hx hy a b na nb off pixel e
  leads_south c hc Below Below na nb off pixel e =
      reach last (8 + c) x y (omega arith) hx hy South (8 + opposite c) 0 0 0 0 0 0 0 0 0 0 (table.south_2 last c 0 0 hc) (table.south_2 (last + 1) c (x + 0) (y + 0) hc) (omega arith, omega arith) (omega arith) pixel e
  leads_south c hc (Within a) Below na nb off pixel e =
      reach last (8 + c) x y (omega arith) hx hy SouthEast (8 + next c) 0 a a 0 (a - x) 0 0 (x - a) 0 (x + (a - x)) (table.south_east_2 last c a 0 hc) (table.south_east_2 (last + 1) c (x + (a - x)) (y + 0) hc) (omega arith) (omega arith) pixel e
  leads_south c hc Above Below na nb off pixel e = never (IsReached last (8 + c) x y pixel) (across last East (8 + c) last 0) pixel (nothing last East (8 + c) last 0 (table.east_2 c hc)) e
  leads_south c hc Below (Within b) na nb off pixel e =
      reach last (8 + c) x y (omega arith) hx hy SouthWest (8 + prev c) b 0 0 b 0 (b - y) (y - b) 0 (y + (b - y)) 0 (table.south_west_2 last c 0 b hc) (table.south_west_2 (last + 1) c (x + 0) (y + (b - y)) hc) (omega arith) (omega arith) pixel e
  leads_south c hc Above (Within b) na nb off pixel e =
      reach last (8 + c) x y (omega arith) hx hy NorthEast (4 + next c) 0 b last b 1 (b - y) 0 (y - b) 0 (y + (b - y)) (table.north_east_2 last c last b hc) (table.north_east_2 (last + 1) c (x + 1) (y + (b - y)) hc) (omega arith) (omega arith) pixel e
  leads_south c hc Below Above na nb off pixel e = never (IsReached last (8 + c) x y pixel) (across last West (8 + c) 0 last) pixel (nothing last West (8 + c) 0 last (table.west_2 c hc)) e
  leads_south c hc (Within a) Above na nb off pixel e =
      reach last (8 + c) x y (omega arith) hx hy NorthWest (4 + c) a 0 a last (a - x) 1 (x - a) 0 (x + (a - x)) 0 (table.north_west_2 last c a last hc) (table.north_west_2 (last + 1) c (x + (a - x)) (y + 1) hc) (omega arith) (omega arith) pixel e
  leads_south c hc Above Above na nb off pixel e =
      reach last (8 + c) x y (omega arith) hx hy North c 0 0 last last 1 1 0 0 0 0 (table.north_2 last c last last hc) (table.north_2 (last + 1) c (x + 1) (y + 1) hc) (omega arith, omega arith) (omega arith) pixel e

  pub leads : (f : ℕ) → f < 12 → (px py : Coordinate) → Leads last f x y px py
  leads = by_row (λ f. (px py : Coordinate) → Leads last f x y px py) leads_north leads_equator leads_south

-- the step to a pixel
abbrev pub Steps : ℕ → ℕ → ℕ → ℕ → ℕ → ℕ → ℕ → Type 0
Steps last f x y g a b = (px py : Coordinate) × IsNear last x px × IsNear last y py × (pixel_at last f px py ≡ Some (record { face = g; x = a; y = b }))

arrive : (last : ℕ) (side : Side) (f u v h p q g a b : ℕ) → Crosses last side f u v h p q → h < 12 → h ≡ g → p ≡ a → q ≡ b → across last side f u v ≡ Some (record { face = g; x = a; y = b })
arrive last side f u v h p q g a b crosses small e s t = lands last side f u v h p q crosses small ∙ rw (e, s, t) refl

told : (n : ℕ) (side : Side) (f x y h a b g u v : ℕ) → Crosses n side f x y h a b → slice_index (faces_beyond side) f ≡ g → beyond n side f x y ≡ (u, v) → (h ≡ g) × (a ≡ u) × (b ≡ v)
told n side f x y h a b g u v crosses e p =
    let same : ◌≡◌ {A = ℕ × ℕ} (a, b) (u, v) = sym crosses.1 ∙ p in
    (sym crosses.0 ∙ e, ap (λ (k : ℕ × ℕ). k.0) same, ap (λ (k : ℕ × ℕ). k.1) same)

module _ (last x y g a b i j k m : ℕ) (hx : x ≤ last) (hy : y ≤ last) (hg : g < 12) (ha : a ≤ last) (hb : b ≤ last) (hi : i ≤ 1) (hj : j ≤ 1) (hk : k ≤ 1) (hm : m ≤ 1) where
  abbrev Finds : ℕ → Side → Type 0
  Finds f side = LiesOn (last + 1) side (x + i) (y + j) → slice_index (faces_beyond side) f ≡ g → beyond (last + 1) side f (x + i) (y + j) ≡ (a + k, b + m) → Steps last f x y g a b

  finds_north : (c : ℕ) → c < 4 → (side : Side) → Finds c side
  finds_north c hc South on e p =
      let t = told (last + 1) South c (x + i) (y + j) (8 + c) (last + 1) (last + 1) g (a + k) (b + m) (table.south_0 (last + 1) c (x + i) (y + j) hc) e p in
      (Below, Below, omega arith, omega arith, arrive last South c 0 0 (8 + c) last last g a b (table.south_0 last c 0 0 hc) (omega arith) t.0 (omega arith) (omega arith))
  finds_north c hc SouthEast on e p =
      let t = told (last + 1) SouthEast c (x + i) (y + j) (4 + next c) (x + i) (last + 1) g (a + k) (b + m) (table.south_east_0 (last + 1) c (x + i) (y + j) hc) e p in
      (Within a, Below, (omega arith, omega arith, omega arith), omega arith, arrive last SouthEast c a 0 (4 + next c) a last g a b (table.south_east_0 last c a 0 hc) (omega arith) t.0 (omega arith) (omega arith))
  finds_north c hc East on e p = absurd (omega (arith, table.east_0 c hc, e))
  finds_north c hc SouthWest on e p =
      let t = told (last + 1) SouthWest c (x + i) (y + j) (4 + c) (last + 1) (y + j) g (a + k) (b + m) (table.south_west_0 (last + 1) c (x + i) (y + j) hc) e p in
      (Below, Within b, omega arith, (omega arith, omega arith, omega arith), arrive last SouthWest c 0 b (4 + c) last b g a b (table.south_west_0 last c 0 b hc) (omega arith) t.0 (omega arith) (omega arith))
  finds_north c hc NorthEast on e p =
      let t = told (last + 1) NorthEast c (x + i) (y + j) (next c) (y + j) (last + 1) g (a + k) (b + m) (table.north_east_0 (last + 1) c (x + i) (y + j) hc) e p in
      (Above, Within a, omega arith, (omega arith, omega arith, omega arith), arrive last NorthEast c last a (next c) a last g a b (table.north_east_0 last c last a hc) (omega arith) t.0 (omega arith) (omega arith))
  finds_north c hc West on e p = absurd (omega (arith, table.west_0 c hc, e))
  finds_north c hc NorthWest on e p =
      let t = told (last + 1) NorthWest c (x + i) (y + j) (prev c) (last + 1) (x + i) g (a + k) (b + m) (table.north_west_0 (last + 1) c (x + i) (y + j) hc) e p in
      (Within b, Above, (omega arith, omega arith, omega arith), omega arith, arrive last NorthWest c b last (prev c) last b g a b (table.north_west_0 last c b last hc) (omega arith) t.0 (omega arith) (omega arith))
  finds_north c hc North on e p =
      let t = told (last + 1) North c (x + i) (y + j) (opposite c) (last + 1) (last + 1) g (a + k) (b + m) (table.north_0 (last + 1) c (x + i) (y + j) hc) e p in
      (Above, Above, omega arith, omega arith, arrive last North c last last (opposite c) last last g a b (table.north_0 last c last last hc) (omega arith) t.0 (omega arith) (omega arith))

  finds_equator : (c : ℕ) → c < 4 → (side : Side) → Finds (4 + c) side
  finds_equator c hc South on e p = absurd (omega (arith, table.south_1 c hc, e))
  finds_equator c hc SouthEast on e p =
      let t = told (last + 1) SouthEast (4 + c) (x + i) (y + j) (8 + c) (x + i) (last + 1) g (a + k) (b + m) (table.south_east_1 (last + 1) c (x + i) (y + j) hc) e p in
      (Within a, Below, (omega arith, omega arith, omega arith), omega arith, arrive last SouthEast (4 + c) a 0 (8 + c) a last g a b (table.south_east_1 last c a 0 hc) (omega arith) t.0 (omega arith) (omega arith))
  finds_equator c hc East on e p =
      let t = told (last + 1) East (4 + c) (x + i) (y + j) (4 + next c) 0 (last + 1) g (a + k) (b + m) (table.east_1 (last + 1) c (x + i) (y + j) hc) e p in
      (Above, Below, omega arith, omega arith, arrive last East (4 + c) last 0 (4 + next c) 0 last g a b (table.east_1 last c last 0 hc) (omega arith) t.0 (omega arith) (omega arith))
  finds_equator c hc SouthWest on e p =
      let t = told (last + 1) SouthWest (4 + c) (x + i) (y + j) (8 + prev c) (last + 1) (y + j) g (a + k) (b + m) (table.south_west_1 (last + 1) c (x + i) (y + j) hc) e p in
      (Below, Within b, omega arith, (omega arith, omega arith, omega arith), arrive last SouthWest (4 + c) 0 b (8 + prev c) last b g a b (table.south_west_1 last c 0 b hc) (omega arith) t.0 (omega arith) (omega arith))
  finds_equator c hc NorthEast on e p =
      let t = told (last + 1) NorthEast (4 + c) (x + i) (y + j) c 0 (y + j) g (a + k) (b + m) (table.north_east_1 (last + 1) c (x + i) (y + j) hc) e p in
      (Above, Within b, omega arith, (omega arith, omega arith, omega arith), arrive last NorthEast (4 + c) last b c 0 b g a b (table.north_east_1 last c last b hc) (omega arith) t.0 (omega arith) (omega arith))
  finds_equator c hc West on e p =
      let t = told (last + 1) West (4 + c) (x + i) (y + j) (4 + prev c) (last + 1) 0 g (a + k) (b + m) (table.west_1 (last + 1) c (x + i) (y + j) hc) e p in
      (Below, Above, omega arith, omega arith, arrive last West (4 + c) 0 last (4 + prev c) last 0 g a b (table.west_1 last c 0 last hc) (omega arith) t.0 (omega arith) (omega arith))
  finds_equator c hc NorthWest on e p =
      let t = told (last + 1) NorthWest (4 + c) (x + i) (y + j) (prev c) (x + i) 0 g (a + k) (b + m) (table.north_west_1 (last + 1) c (x + i) (y + j) hc) e p in
      (Within a, Above, (omega arith, omega arith, omega arith), omega arith, arrive last NorthWest (4 + c) a last (prev c) a 0 g a b (table.north_west_1 last c a last hc) (omega arith) t.0 (omega arith) (omega arith))
  finds_equator c hc North on e p = absurd (omega (arith, table.north_1 c hc, e))

  finds_south : (c : ℕ) → c < 4 → (side : Side) → Finds (8 + c) side
  finds_south c hc South on e p =
      let t = told (last + 1) South (8 + c) (x + i) (y + j) (8 + opposite c) 0 0 g (a + k) (b + m) (table.south_2 (last + 1) c (x + i) (y + j) hc) e p in
      (Below, Below, omega arith, omega arith, arrive last South (8 + c) 0 0 (8 + opposite c) 0 0 g a b (table.south_2 last c 0 0 hc) (omega arith) t.0 (omega arith) (omega arith))
  finds_south c hc SouthEast on e p =
      let t = told (last + 1) SouthEast (8 + c) (x + i) (y + j) (8 + next c) 0 (x + i) g (a + k) (b + m) (table.south_east_2 (last + 1) c (x + i) (y + j) hc) e p in
      (Within b, Below, (omega arith, omega arith, omega arith), omega arith, arrive last SouthEast (8 + c) b 0 (8 + next c) 0 b g a b (table.south_east_2 last c b 0 hc) (omega arith) t.0 (omega arith) (omega arith))
  finds_south c hc East on e p = absurd (omega (arith, table.east_2 c hc, e))
  finds_south c hc SouthWest on e p =
      let t = told (last + 1) SouthWest (8 + c) (x + i) (y + j) (8 + prev c) (y + j) 0 g (a + k) (b + m) (table.south_west_2 (last + 1) c (x + i) (y + j) hc) e p in
      (Below, Within a, omega arith, (omega arith, omega arith, omega arith), arrive last SouthWest (8 + c) 0 a (8 + prev c) a 0 g a b (table.south_west_2 last c 0 a hc) (omega arith) t.0 (omega arith) (omega arith))
  finds_south c hc NorthEast on e p =
      let t = told (last + 1) NorthEast (8 + c) (x + i) (y + j) (4 + next c) 0 (y + j) g (a + k) (b + m) (table.north_east_2 (last + 1) c (x + i) (y + j) hc) e p in
      (Above, Within b, omega arith, (omega arith, omega arith, omega arith), arrive last NorthEast (8 + c) last b (4 + next c) 0 b g a b (table.north_east_2 last c last b hc) (omega arith) t.0 (omega arith) (omega arith))
  finds_south c hc West on e p = absurd (omega (arith, table.west_2 c hc, e))
  finds_south c hc NorthWest on e p =
      let t = told (last + 1) NorthWest (8 + c) (x + i) (y + j) (4 + c) (x + i) 0 g (a + k) (b + m) (table.north_west_2 (last + 1) c (x + i) (y + j) hc) e p in
      (Within a, Above, (omega arith, omega arith, omega arith), omega arith, arrive last NorthWest (8 + c) a last (4 + c) a 0 g a b (table.north_west_2 last c a last hc) (omega arith) t.0 (omega arith) (omega arith))
  finds_south c hc North on e p =
      let t = told (last + 1) North (8 + c) (x + i) (y + j) c 0 0 g (a + k) (b + m) (table.north_2 (last + 1) c (x + i) (y + j) hc) e p in
      (Above, Above, omega arith, omega arith, arrive last North (8 + c) last last c 0 0 g a b (table.north_2 last c last last hc) (omega arith) t.0 (omega arith) (omega arith))

  finds : (f : ℕ) → f < 12 → AreJoined (last + 1) f (x + i) (y + j) g (a + k) (b + m) → Steps last f x y g a b
  finds f hf h = by_row (λ f. (side : Side) → Finds f side) finds_north finds_equator finds_south f hf h.side h.on_side h.joined h.spot

pub steps : (last f x y g a b : ℕ) → f < 12 → g < 12 → x ≤ last → y ≤ last → a ≤ last → b ≤ last → SharesCorner (last + 1) f x y g a b → Steps last f x y g a b
steps last f x y g a b hf hg hx hy ha hb (i, j, k, m, hi, hj, hk, hm, e) =
    elim (one_corner (last + 1) (x + i) (y + j) (a + k) (b + m) (omega arith) (omega arith) (omega arith) (omega arith) (omega arith) f hf g hg e) [
      | inl (same, p, q) ↦ (Within a, Within b, (ha, omega arith, omega arith), (hb, omega arith, omega arith), rw same refl)
      | inr joined ↦ finds last x y g a b i j k m hx hy hg ha hb hi hj hk hm f hf joined
    ]
