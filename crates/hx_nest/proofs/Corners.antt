-- Which corners of two faces are one point, for each two rows of faces.
use Rattle.std.proofs.Common.{◌≡◌, ◌∙◌, ◌+◌, ◌-◌, ◌*◌, ◌<◌, ◌≤◌, ◌⊎◌, ℕ, refl, sym, arith, inl, inr}
use Rattle.std.proofs.lemmas.Bool.{cases_lt, cases_eq}
use Rattle.hx_base.specs.Touching.{index_on}
use Rattle.hx_nest.proofs.Sectors.{next, OnePlace, one_place, from_one_place}
use Rattle.hx_nest.proofs.Table.{prev, opposite}
use Rattle.hx_nest.proofs.Spots.{IsSpot, east, west, spot_north, spot_south, spot_belt_0, spot_belt_1, spot_belt_2, at_pole}

-- one spot on ring v
abbrev OnRing : ℕ → ℕ → ℕ → ℕ → ℕ → ℕ → ℕ → ℕ → Type 0
OnRing n f x y g a b v = index_on n f x y v ≡ index_on n g a b v

meets : (n f x y g a b v size c t d u : ℕ) → 0 < size → IsSpot n f x y v size c t → IsSpot n g a b v size d u → OnRing n f x y g a b v → OnePlace size c t d u
meets n f x y g a b v size c t d u pos here there e = one_place size c t d u pos here.sector there.sector here.within there.within (sym here.spot ∙ e ∙ there.spot)

met : (n f x y g a b v size c t d u : ℕ) → IsSpot n f x y v size c t → IsSpot n g a b v size d u → OnePlace size c t d u → OnRing n f x y g a b v
met n f x y g a b v size c t d u here there one = here.spot ∙ from_one_place size c t d u here.sector there.sector one ∙ sym there.spot

columns : (c d : ℕ) → c < 4 → d < 4 → (c ≡ d) ⊎ ((d ≡ next c) ⊎ ((c ≡ next d) ⊎ (d ≡ opposite c)))
columns c d hc hd =
    elim (cases_eq c d) [
      | inl same ↦ inl same
      | inr off ↦
          elim (cases_eq d (next c)) [
            | inl up ↦ inr (inl up)
            | inr not_up ↦
                elim (cases_eq c (next d)) [
                  | inl down ↦ inr (inr (inl down))
                  | inr not_down ↦ inr (inr (inr (omega arith)))
                ]
          ]
    ]

-- two faces at the north pole
pub data AtNorth (n c x y d a b : ℕ) : Type 0 where
  itself : c ≡ d → x ≡ a → y ≡ b → AtNorth n c x y d a b
  eastward : d ≡ next c → x ≡ n → a ≡ y → b ≡ n → AtNorth n c x y d a b
  westward : c ≡ next d → y ≡ n → a ≡ n → b ≡ x → AtNorth n c x y d a b
  across : d ≡ opposite c → x ≡ n → y ≡ n → a ≡ n → b ≡ n → AtNorth n c x y d a b

module _ (n c x y d a b v : ℕ) (hc : c < 4) (hd : d < 4) (pos : 0 < n) (hx : x ≤ n) (hy : y ≤ n) (ha : a ≤ n) (hb : b ≤ n) where
  pub north_rule : x + y + v ≡ 2 * n → a + b + v ≡ 2 * n → OnRing n c x y d a b v → AtNorth n c x y d a b
  north_rule e f same =
      elim (cases_lt v n) [
        | inl small ↦
            elim (cases_lt 0 v) [
              | inl some ↦
                  elim (meets n c x y d a b v v c (n - y) d (n - b) some (spot_north n c x y v hc hx hy some small e) (spot_north n d a b v hd ha hb some small f) same) [
                    | inl (s, t) ↦ itself s (omega arith) (omega arith)
                    | inr (inl (s, t, u)) ↦ eastward s (omega arith) (omega arith) (omega arith)
                    | inr (inr (s, t, u)) ↦ westward s (omega arith) (omega arith) (omega arith)
                  ]
              | inr none ↦
                  elim (columns c d hc hd) [
                    | inl s ↦ itself s (omega arith) (omega arith)
                    | inr (inl s) ↦ eastward s (omega arith) (omega arith) (omega arith)
                    | inr (inr (inl s)) ↦ westward s (omega arith) (omega arith) (omega arith)
                    | inr (inr (inr s)) ↦ across s (omega arith) (omega arith) (omega arith) (omega arith)
                  ]
            ]
        | inr large ↦
            elim (meets n c x y d a b v (2 * n) c (n + x - y) d (n + a - b) (omega arith) (spot_belt_0 n c x y v hc pos hx hy large (omega arith) (omega arith)) (spot_belt_0 n d a b v hd pos ha hb large (omega arith) (omega arith)) same) [
              | inl (s, t) ↦ itself s (omega arith) (omega arith)
              | inr (inl (s, t, u)) ↦ eastward s (omega arith) (omega arith) (omega arith)
              | inr (inr (s, t, u)) ↦ westward s (omega arith) (omega arith) (omega arith)
            ]
      ]

  north_met : x + y + v ≡ 2 * n → a + b + v ≡ 2 * n → (v < n → OnePlace v c (n - y) d (n - b)) → (n ≤ v → OnePlace (2 * n) c (n + x - y) d (n + a - b)) → OnRing n c x y d a b v
  north_met e f cap belt =
      elim (cases_lt v n) [
        | inl small ↦
            elim (cases_lt 0 v) [
              | inl some ↦ met n c x y d a b v v c (n - y) d (n - b) (spot_north n c x y v hc hx hy some small e) (spot_north n d a b v hd ha hb some small f) (cap small)
              | inr none ↦ at_pole n c x y v (inl (omega arith)) ∙ sym (at_pole n d a b v (inl (omega arith)))
            ]
        | inr large ↦
            met n c x y d a b v (2 * n) c (n + x - y) d (n + a - b) (spot_belt_0 n c x y v hc pos hx hy large (omega arith) (omega arith)) (spot_belt_0 n d a b v hd pos ha hb large (omega arith) (omega arith)) (belt large)
      ]

  pub north_point : AtNorth n c x y d a b → x + y + v ≡ 2 * n → (a + b + v ≡ 2 * n) × OnRing n c x y d a b v
  north_point (itself s t u) e = (omega arith, rw (s, t, u) refl)
  north_point (eastward s t u w) e =
      let f : a + b + v ≡ 2 * n = omega arith in
      (f, north_met e f (λ small. inr (inl (s, omega arith, omega arith))) (λ large. inr (inl (s, omega arith, omega arith))))
  north_point (westward s t u w) e =
      let f : a + b + v ≡ 2 * n = omega arith in
      (f, north_met e f (λ small. inr (inr (s, omega arith, omega arith))) (λ large. inr (inr (s, omega arith, omega arith))))
  north_point (across s t u w z) e = (omega arith, at_pole n c x y v (inl (omega arith)) ∙ sym (at_pole n d a b v (inl (omega arith))))

-- two faces at the south pole
pub data AtSouth (n c x y d a b : ℕ) : Type 0 where
  itself_south : c ≡ d → x ≡ a → y ≡ b → AtSouth n c x y d a b
  eastward_south : d ≡ next c → y ≡ 0 → a ≡ 0 → b ≡ x → AtSouth n c x y d a b
  westward_south : c ≡ next d → x ≡ 0 → a ≡ y → b ≡ 0 → AtSouth n c x y d a b
  across_south : d ≡ opposite c → x ≡ 0 → y ≡ 0 → a ≡ 0 → b ≡ 0 → AtSouth n c x y d a b

module _ (n c x y d a b v : ℕ) (hc : c < 4) (hd : d < 4) (pos : 0 < n) (hx : x ≤ n) (hy : y ≤ n) (ha : a ≤ n) (hb : b ≤ n) where
  pub south_rule : x + y + v ≡ 4 * n → a + b + v ≡ 4 * n → OnRing n (8 + c) x y (8 + d) a b v → AtSouth n c x y d a b
  south_rule e f same =
      elim (cases_lt (x + y) n) [
        | inl small ↦
            elim (cases_lt 0 (x + y)) [
              | inl some ↦
                  elim (meets n (8 + c) x y (8 + d) a b v (x + y) c x d a some (spot_south n c x y v (x + y) hc some small refl (omega arith)) (spot_south n d a b v (x + y) hd some small (omega arith) (omega arith)) same) [
                    | inl (s, t) ↦ itself_south s (omega arith) (omega arith)
                    | inr (inl (s, t, u)) ↦ eastward_south s (omega arith) (omega arith) (omega arith)
                    | inr (inr (s, t, u)) ↦ westward_south s (omega arith) (omega arith) (omega arith)
                  ]
              | inr none ↦
                  elim (columns c d hc hd) [
                    | inl s ↦ itself_south s (omega arith) (omega arith)
                    | inr (inl s) ↦ eastward_south s (omega arith) (omega arith) (omega arith)
                    | inr (inr (inl s)) ↦ westward_south s (omega arith) (omega arith) (omega arith)
                    | inr (inr (inr s)) ↦ across_south s (omega arith) (omega arith) (omega arith) (omega arith)
                  ]
            ]
        | inr large ↦
            elim (meets n (8 + c) x y (8 + d) a b v (2 * n) c (n + x - y) d (n + a - b) (omega arith) (spot_belt_2 n c x y v hc pos hx hy (omega arith) (omega arith)) (spot_belt_2 n d a b v hd pos ha hb (omega arith) (omega arith)) same) [
              | inl (s, t) ↦ itself_south s (omega arith) (omega arith)
              | inr (inl (s, t, u)) ↦ eastward_south s (omega arith) (omega arith) (omega arith)
              | inr (inr (s, t, u)) ↦ westward_south s (omega arith) (omega arith) (omega arith)
            ]
      ]

  south_met : x + y + v ≡ 4 * n → a + b + v ≡ 4 * n → OnePlace (x + y) c x d a → (n ≤ x + y → OnePlace (2 * n) c (n + x - y) d (n + a - b)) → OnRing n (8 + c) x y (8 + d) a b v
  south_met e f cap belt =
      elim (cases_lt (x + y) n) [
        | inl small ↦
            elim (cases_lt 0 (x + y)) [
              | inl some ↦ met n (8 + c) x y (8 + d) a b v (x + y) c x d a (spot_south n c x y v (x + y) hc some small refl (omega arith)) (spot_south n d a b v (x + y) hd some small (omega arith) (omega arith)) cap
              | inr none ↦ at_pole n (8 + c) x y v (inr (omega arith)) ∙ sym (at_pole n (8 + d) a b v (inr (omega arith)))
            ]
        | inr large ↦
            met n (8 + c) x y (8 + d) a b v (2 * n) c (n + x - y) d (n + a - b) (spot_belt_2 n c x y v hc pos hx hy (omega arith) (omega arith)) (spot_belt_2 n d a b v hd pos ha hb (omega arith) (omega arith)) (belt large)
      ]

  pub south_point : AtSouth n c x y d a b → x + y + v ≡ 4 * n → (a + b + v ≡ 4 * n) × OnRing n (8 + c) x y (8 + d) a b v
  south_point (itself_south s t u) e = (omega arith, rw (s, t, u) refl)
  south_point (eastward_south s t u w) e =
      let f : a + b + v ≡ 4 * n = omega arith in
      (f, south_met e f (inr (inl (s, omega arith, omega arith))) (λ large. inr (inl (s, omega arith, omega arith))))
  south_point (westward_south s t u w) e =
      let f : a + b + v ≡ 4 * n = omega arith in
      (f, south_met e f (inr (inr (s, omega arith, omega arith))) (λ large. inr (inr (s, omega arith, omega arith))))
  south_point (across_south s t u w z) e = (omega arith, at_pole n (8 + c) x y v (inr (omega arith)) ∙ sym (at_pole n (8 + d) a b v (inr (omega arith))))

-- two faces on the equator
pub data OnEquator (n c x y d a b : ℕ) : Type 0 where
  itself_on : c ≡ d → x ≡ a → y ≡ b → OnEquator n c x y d a b
  eastward_on : d ≡ next c → x ≡ n → y ≡ 0 → a ≡ 0 → b ≡ n → OnEquator n c x y d a b
  westward_on : c ≡ next d → x ≡ 0 → y ≡ n → a ≡ n → b ≡ 0 → OnEquator n c x y d a b

module _ (n c x y d a b v : ℕ) (hc : c < 4) (hd : d < 4) (pos : 0 < n) (hx : x ≤ n) (hy : y ≤ n) (ha : a ≤ n) (hb : b ≤ n) where
  pub equator_rule : x + y + v ≡ 3 * n → a + b + v ≡ 3 * n → OnRing n (4 + c) x y (4 + d) a b v → OnEquator n c x y d a b
  equator_rule e f same =
      elim (spot_belt_1 n c x y v hc pos hx hy (omega arith) (omega arith)) [
        | east le here ↦
            elim (spot_belt_1 n d a b v hd pos ha hb (omega arith) (omega arith)) [
              | east le2 there ↦
                  elim (meets n (4 + c) x y (4 + d) a b v (2 * n) c (x - y) d (a - b) (omega arith) here there same) [
                    | inl (s, t) ↦ itself_on s (omega arith) (omega arith)
                    | inr (inl (s, t, u)) ↦ absurd (omega arith)
                    | inr (inr (s, t, u)) ↦ absurd (omega arith)
                  ]
              | west lt2 there ↦
                  elim (meets n (4 + c) x y (4 + d) a b v (2 * n) c (x - y) (prev d) (2 * n + a - b) (omega arith) here there same) [
                    | inl (s, t) ↦ eastward_on (omega arith) (omega arith) (omega arith) (omega arith) (omega arith)
                    | inr (inl (s, t, u)) ↦ absurd (omega arith)
                    | inr (inr (s, t, u)) ↦ absurd (omega arith)
                  ]
            ]
        | west lt here ↦
            elim (spot_belt_1 n d a b v hd pos ha hb (omega arith) (omega arith)) [
              | east le2 there ↦
                  elim (meets n (4 + c) x y (4 + d) a b v (2 * n) (prev c) (2 * n + x - y) d (a - b) (omega arith) here there same) [
                    | inl (s, t) ↦ westward_on (omega arith) (omega arith) (omega arith) (omega arith) (omega arith)
                    | inr (inl (s, t, u)) ↦ absurd (omega arith)
                    | inr (inr (s, t, u)) ↦ absurd (omega arith)
                  ]
              | west lt2 there ↦
                  elim (meets n (4 + c) x y (4 + d) a b v (2 * n) (prev c) (2 * n + x - y) (prev d) (2 * n + a - b) (omega arith) here there same) [
                    | inl (s, t) ↦ itself_on (omega arith) (omega arith) (omega arith)
                    | inr (inl (s, t, u)) ↦ absurd (omega arith)
                    | inr (inr (s, t, u)) ↦ absurd (omega arith)
                  ]
            ]
      ]

  pub equator_point : OnEquator n c x y d a b → x + y + v ≡ 3 * n → (a + b + v ≡ 3 * n) × OnRing n (4 + c) x y (4 + d) a b v
  equator_point (itself_on s t u) e = (omega arith, rw (s, t, u) refl)
  equator_point (eastward_on s t u w z) e =
      let f : a + b + v ≡ 3 * n = omega arith in
      elim (spot_belt_1 n c x y v hc pos hx hy (omega arith) (omega arith)) [
        | east le here ↦
            elim (spot_belt_1 n d a b v hd pos ha hb (omega arith) (omega arith)) [
              | east le2 there ↦ absurd (omega arith)
              | west lt2 there ↦ (f, met n (4 + c) x y (4 + d) a b v (2 * n) c (x - y) (prev d) (2 * n + a - b) here there (inl (omega arith, omega arith)))
            ]
        | west lt here ↦ absurd (omega arith)
      ]
  equator_point (westward_on s t u w z) e =
      let f : a + b + v ≡ 3 * n = omega arith in
      elim (spot_belt_1 n c x y v hc pos hx hy (omega arith) (omega arith)) [
        | east le here ↦ absurd (omega arith)
        | west lt here ↦
            elim (spot_belt_1 n d a b v hd pos ha hb (omega arith) (omega arith)) [
              | east le2 there ↦ (f, met n (4 + c) x y (4 + d) a b v (2 * n) (prev c) (2 * n + x - y) d (a - b) here there (inl (omega arith, omega arith)))
              | west lt2 there ↦ absurd (omega arith)
            ]
      ]

-- a face at the north pole and one on the equator
pub data NorthOfEquator (n c x y d a b : ℕ) : Type 0 where
  north_west_of : d ≡ next c → y ≡ 0 → a ≡ x → b ≡ n → NorthOfEquator n c x y d a b
  north_east_of : d ≡ c → x ≡ 0 → a ≡ n → b ≡ y → NorthOfEquator n c x y d a b

module _ (n c x y d a b v : ℕ) (hc : c < 4) (hd : d < 4) (pos : 0 < n) (hx : x ≤ n) (hy : y ≤ n) (ha : a ≤ n) (hb : b ≤ n) where
  pub upper_rule : x + y + v ≡ 2 * n → a + b + v ≡ 3 * n → OnRing n c x y (4 + d) a b v → NorthOfEquator n c x y d a b
  upper_rule e f same =
      let here = spot_belt_0 n c x y v hc pos hx hy (omega arith) (omega arith) (omega arith) in
      elim (spot_belt_1 n d a b v hd pos ha hb (omega arith) (omega arith)) [
        | east le there ↦
            elim (meets n c x y (4 + d) a b v (2 * n) c (n + x - y) d (a - b) (omega arith) here there same) [
              | inl (s, t) ↦ north_east_of (omega arith) (omega arith) (omega arith) (omega arith)
              | inr (inl (s, t, u)) ↦ north_west_of s (omega arith) (omega arith) (omega arith)
              | inr (inr (s, t, u)) ↦ absurd (omega arith)
            ]
        | west lt there ↦
            elim (meets n c x y (4 + d) a b v (2 * n) c (n + x - y) (prev d) (2 * n + a - b) (omega arith) here there same) [
              | inl (s, t) ↦ north_west_of (omega arith) (omega arith) (omega arith) (omega arith)
              | inr (inl (s, t, u)) ↦ absurd (omega arith)
              | inr (inr (s, t, u)) ↦ absurd (omega arith)
            ]
      ]

  pub upper_point : NorthOfEquator n c x y d a b → x + y + v ≡ 2 * n → (a + b + v ≡ 3 * n) × OnRing n c x y (4 + d) a b v
  upper_point (north_west_of s t u w) e =
      let f : a + b + v ≡ 3 * n = omega arith in
      let here = spot_belt_0 n c x y v hc pos hx hy (omega arith) (omega arith) (omega arith) in
      elim (spot_belt_1 n d a b v hd pos ha hb (omega arith) (omega arith)) [
        | east le there ↦ (f, met n c x y (4 + d) a b v (2 * n) c (n + x - y) d (a - b) here there (inr (inl (s, omega arith, omega arith))))
        | west lt there ↦ (f, met n c x y (4 + d) a b v (2 * n) c (n + x - y) (prev d) (2 * n + a - b) here there (inl (omega arith, omega arith)))
      ]
  upper_point (north_east_of s t u w) e =
      let f : a + b + v ≡ 3 * n = omega arith in
      let here = spot_belt_0 n c x y v hc pos hx hy (omega arith) (omega arith) (omega arith) in
      elim (spot_belt_1 n d a b v hd pos ha hb (omega arith) (omega arith)) [
        | east le there ↦ (f, met n c x y (4 + d) a b v (2 * n) c (n + x - y) d (a - b) here there (inl (omega arith, omega arith)))
        | west lt there ↦ absurd (omega arith)
      ]

-- a face on the equator and one at the south pole
pub data NorthOfSouth (n c x y d a b : ℕ) : Type 0 where
  north_west_above : d ≡ c → y ≡ 0 → a ≡ x → b ≡ n → NorthOfSouth n c x y d a b
  north_east_above : c ≡ next d → x ≡ 0 → a ≡ n → b ≡ y → NorthOfSouth n c x y d a b

module _ (n c x y d a b v : ℕ) (hc : c < 4) (hd : d < 4) (pos : 0 < n) (hx : x ≤ n) (hy : y ≤ n) (ha : a ≤ n) (hb : b ≤ n) where
  pub lower_rule : x + y + v ≡ 3 * n → a + b + v ≡ 4 * n → OnRing n (4 + c) x y (8 + d) a b v → NorthOfSouth n c x y d a b
  lower_rule e f same =
      let there = spot_belt_2 n d a b v hd pos ha hb (omega arith) (omega arith) in
      elim (spot_belt_1 n c x y v hc pos hx hy (omega arith) (omega arith)) [
        | east le here ↦
            elim (meets n (4 + c) x y (8 + d) a b v (2 * n) c (x - y) d (n + a - b) (omega arith) here there same) [
              | inl (s, t) ↦ north_west_above (omega arith) (omega arith) (omega arith) (omega arith)
              | inr (inl (s, t, u)) ↦ absurd (omega arith)
              | inr (inr (s, t, u)) ↦ north_east_above s (omega arith) (omega arith) (omega arith)
            ]
        | west lt here ↦
            elim (meets n (4 + c) x y (8 + d) a b v (2 * n) (prev c) (2 * n + x - y) d (n + a - b) (omega arith) here there same) [
              | inl (s, t) ↦ north_east_above (omega arith) (omega arith) (omega arith) (omega arith)
              | inr (inl (s, t, u)) ↦ absurd (omega arith)
              | inr (inr (s, t, u)) ↦ absurd (omega arith)
            ]
      ]

  pub lower_point : NorthOfSouth n c x y d a b → x + y + v ≡ 3 * n → (a + b + v ≡ 4 * n) × OnRing n (4 + c) x y (8 + d) a b v
  lower_point (north_west_above s t u w) e =
      let f : a + b + v ≡ 4 * n = omega arith in
      let there = spot_belt_2 n d a b v hd pos ha hb (omega arith) (omega arith) in
      elim (spot_belt_1 n c x y v hc pos hx hy (omega arith) (omega arith)) [
        | east le here ↦ (f, met n (4 + c) x y (8 + d) a b v (2 * n) c (x - y) d (n + a - b) here there (inl (omega arith, omega arith)))
        | west lt here ↦ absurd (omega arith)
      ]
  lower_point (north_east_above s t u w) e =
      let f : a + b + v ≡ 4 * n = omega arith in
      let there = spot_belt_2 n d a b v hd pos ha hb (omega arith) (omega arith) in
      elim (spot_belt_1 n c x y v hc pos hx hy (omega arith) (omega arith)) [
        | east le here ↦ (f, met n (4 + c) x y (8 + d) a b v (2 * n) c (x - y) d (n + a - b) here there (inr (inr (s, omega arith, omega arith))))
        | west lt here ↦ (f, met n (4 + c) x y (8 + d) a b v (2 * n) (prev c) (2 * n + x - y) d (n + a - b) here there (inl (omega arith, omega arith)))
      ]

-- a face at the north pole and one at the south pole meet in a vertex
module _ (n c x y d a b v : ℕ) (hc : c < 4) (hd : d < 4) (pos : 0 < n) (hx : x ≤ n) (hy : y ≤ n) (ha : a ≤ n) (hb : b ≤ n) where
  pub far_rule : x + y + v ≡ 2 * n → a + b + v ≡ 4 * n → OnRing n c x y (8 + d) a b v → (d ≡ c) × (x ≡ 0) × (y ≡ 0) × (a ≡ n) × (b ≡ n)
  far_rule e f same =
      let here = spot_belt_0 n c x y v hc pos hx hy (omega arith) (omega arith) (omega arith) in
      let there = spot_belt_2 n d a b v hd pos ha hb (omega arith) (omega arith) in
      elim (meets n c x y (8 + d) a b v (2 * n) c (n + x - y) d (n + a - b) (omega arith) here there same) [
        | inl (s, t) ↦ (sym s, omega arith, omega arith, omega arith, omega arith)
        | inr (inl (s, t, u)) ↦ absurd (omega arith)
        | inr (inr (s, t, u)) ↦ absurd (omega arith)
      ]

  pub far_point : d ≡ c → x ≡ 0 → y ≡ 0 → a ≡ n → b ≡ n → x + y + v ≡ 2 * n → (a + b + v ≡ 4 * n) × OnRing n c x y (8 + d) a b v
  far_point s t u w z e =
      let here = spot_belt_0 n c x y v hc pos hx hy (omega arith) (omega arith) (omega arith) in
      let there = spot_belt_2 n d a b v hd pos ha hb (omega arith) (omega arith) in
      (omega arith, met n c x y (8 + d) a b v (2 * n) c (n + x - y) d (n + a - b) here there (inl (sym s, omega arith)))
