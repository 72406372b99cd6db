-- The eight steps from a pixel lead to the pixels that touch it.
use Rattle.std.proofs.Common.{[], length, ◌≡◌, ◌≢◌, ◌∙◌, ◌==◌, ◌+◌, ◌-◌, ◌^◌, ◌<◌, ◌≤◌, ◌⊎◌, ℕ, List, Option, Some, None, true, false, refl, sym, ap, subst, arith, inl, inr, eq-eqb}
use Rattle.std.specs.List.{Contains}
use Rattle.std.proofs.lemmas.Bool.{cases_eq, ne_eqb}
use Rattle.hx_base.specs.Touching.{IsAt, HasCorner, Touch, corner_point}
use Rattle.hx_nest.specs.declared.spot.FaceXy.{FaceXy}
use Rattle.hx_nest.specs.declared.step.Coordinate.{Coordinate}
use Rattle.hx_nest.specs.declared.step.Coordinate.TheVariants.{Below, Within, Above}
use Rattle.hx_nest.specs.Lists.{Adds}
use Rattle.hx_nest.specs.Steps.{AddsStep, HasPlace, IsNear, pixel_at, before, after}
use Rattle.hx_nest.proofs.Interleaved.{one_place}
use Rattle.hx_nest.proofs.Reached.{IsOwn, SharesCorner, Steps, leads, steps}

-- touching, by the spots of the pixels
pub touch_from : (k p q f x y g a b : ℕ) → IsAt k p f x y → IsAt k q g a b → p ≢ q → SharesCorner (2 ^ k) f x y g a b → Touch k p q
touch_from k p q f x y g a b here there ne (i, j, l, m, hi, hj, hl, hm, e) =
    record { different = ne; shared = (corner_point (2 ^ k) f (x + i) (y + j), (f, x, y, i, j, here, hi, hj, refl), (g, a, b, l, m, there, hl, hm, sym e)) }

-- a pixel that touches one at a known spot
pub record TouchesAt (k q f x y : ℕ) : Type 0 where
  pub face : ℕ
  pub a : ℕ
  pub b : ℕ
  pub at : IsAt k q face a b
  pub shares : SharesCorner (2 ^ k) f x y face a b

pub touch_at : (k p q f x y : ℕ) → IsAt k p f x y → Touch k p q → TouchesAt k q f x y
touch_at k p q f x y here touch =
    go touch.shared.0 touch.shared.1 touch.shared.2
  where
    go : (point : ℕ × ℕ) → HasCorner k p point → HasCorner k q point → TouchesAt k q f x y
    go point (f2, x2, y2, i, j, here2, hi, hj, e) (g, a, b, l, m, there, hl, hm, s) =
        let same = one_place k p f2 x2 y2 f x y here2 here in
        let first : corner_point (2 ^ k) f (x + i) (y + j) ≡ point = subst (λ (z : ℕ). corner_point (2 ^ k) z (x + i) (y + j) ≡ point) same.0 (subst (λ (z : ℕ). corner_point (2 ^ k) f2 (z + i) (y + j) ≡ point) same.1 (subst (λ (z : ℕ). corner_point (2 ^ k) f2 (x2 + i) (z + j) ≡ point) same.2 e)) in
        record { face = g; a = a; b = b; at = there; shares = (i, j, l, m, hi, hj, hl, hm, first ∙ sym s) }

pub below_power : (k last x : ℕ) → last + 1 ≡ 2 ^ k → x < 2 ^ k → x ≤ last
below_power k last x e h = omega arith

-- a pixel with a spot is added by its number
pub step_added : (k r : ℕ) (at : FaceXy) (o : Option FaceXy) (old new : List ℕ) → Some at ≡ o → IsAt k r at.face at.x at.y → Adds r old new → AddsStep k o old new
step_added k r at o old new is here adds =
    let numbered : (q : ℕ) → IsAt k q at.face at.x at.y → q ≡ r = λ q there. there.number ∙ sym here.number in
    let placed : (q : ℕ) → q ≡ r → IsAt k q at.face at.x at.y = λ q e. subst (λ (z : ℕ). IsAt k z at.face at.x at.y) (sym e) here in
    subst (λ (z : Option FaceXy). AddsStep k z old new) is
    (record {
      ascending = adds.ascending;
      members = λ q. (
        λ h.
            elim ((adds.members q).0 h) [ inl kept ↦ inl kept | inr e ↦ inr (placed q e) ],
        λ h.
            elim h [ inl kept ↦ (adds.members q).1 (inl kept) | inr there ↦ (adds.members q).1 (inr (numbered q there)) ],
      );
      count = adds.count;
    })

-- the three coordinates near one
three : (last x : ℕ) (px : Coordinate) → IsNear last x px → x ≤ last → (px ≡ before x) ⊎ ((px ≡ Within x) ⊎ (px ≡ after last x))
three last x (Within a) near hx =
    elim (cases_eq a x) [
      | inl same ↦ inr (inl (ap Within same))
      | inr off ↦
          elim (cases_eq (a + 1) x) [
            | inl back ↦ let some : (x == 0) ≡ false = ne_eqb x 0 (omega arith) in let e : a ≡ x - 1 = omega arith in inl (rw some (ap Within e))
            | inr on ↦ let some : (x == last) ≡ false = ne_eqb x last (omega (arith, near)) in let e : a ≡ x + 1 = omega (arith, near) in inr (inr (rw some (ap Within e)))
          ]
    ]
three last x Below near hx = let none : (x == 0) ≡ true = eq-eqb x 0 near in inl (rw none refl)
three last x Above near hx = let none : (x == last) ≡ true = eq-eqb x last near in inr (inr (rw none refl))

near_before : (last x : ℕ) → x ≤ last → IsNear last x (before x)
near_before last x hx =
    elim (cases_eq x 0) [
      | inl at ↦ let none : (x == 0) ≡ true = eq-eqb x 0 at in rw none at
      | inr off ↦ let some : (x == 0) ≡ false = ne_eqb x 0 off in rw some (omega arith, omega arith, omega arith)
    ]

near_after : (last x : ℕ) → x ≤ last → IsNear last x (after last x)
near_after last x hx =
    elim (cases_eq x last) [
      | inl at ↦ let none : (x == last) ≡ true = eq-eqb x last at in rw none at
      | inr off ↦ let some : (x == last) ≡ false = ne_eqb x last off in rw some (omega arith, omega arith, omega arith)
    ]

near_itself : (last x : ℕ) → x ≤ last → IsNear last x (Within x)
near_itself last x hx = (hx, omega arith, omega arith)

-- a step back or on leaves the coordinate
off_before : (x : ℕ) → before x ≡ Within x → ⊥
off_before x e =
    elim (cases_eq x 0) [
      | inl at ↦ let none : (x == 0) ≡ true = eq-eqb x 0 at in cc
      | inr off ↦ let some : (x == 0) ≡ false = ne_eqb x 0 off in let f : Within (x - 1) ≡ Within x = cc in let g : x - 1 ≡ x = cc in omega arith
    ]

off_after : (last x : ℕ) → after last x ≡ Within x → ⊥
off_after last x e =
    elim (cases_eq x last) [
      | inl at ↦ let none : (x == last) ≡ true = eq-eqb x last at in cc
      | inr off ↦ let some : (x == last) ≡ false = ne_eqb x last off in let f : Within (x + 1) ≡ Within x = cc in let g : x + 1 ≡ x = cc in omega arith
    ]

own : (x y : ℕ) (px py : Coordinate) → IsOwn x y px py → (px ≡ Within x) × (py ≡ Within y)
own x y (Within a) (Within b) h = (ap Within h.0, ap Within h.1)
own x y (Within a) Below h = elim h [ ]
own x y (Within a) Above h = elim h [ ]
own x y Below py h = elim h [ ]
own x y Above py h = elim h [ ]

-- where both coordinates stay, the pixel does
pub same_pixel : (k p q f x y g a b last : ℕ) (px py : Coordinate) → IsAt k p f x y → IsAt k q g a b → pixel_at last f px py ≡ Some (record { face = g; x = a; y = b }) → px ≡ Within x → py ≡ Within y → p ≡ q
same_pixel k p q f x y g a b last px py here there e ex ey =
    let mine : FaceXy = record { face = f; x = x; y = y } in
    let its : FaceXy = record { face = g; x = a; y = b } in
    let o : Some mine ≡ pixel_at last f px py = rw (ex, ey) refl in
    let same : mine ≡ its = cc in
    let spot = subst (λ (z : FaceXy). IsAt k q z.face z.x z.y) (sym same) there in
    here.number ∙ sym spot.number

module _ (k p f x y last : ℕ) (here : IsAt k p f x y) (size : last + 1 ≡ 2 ^ k) where
  hx : x ≤ last
  hx = let lt = here.x_range in omega (arith, lt)

  hy : y ≤ last
  hy = let lt = here.y_range in omega (arith, lt)

  -- a step leads to a pixel that touches
  pub step_touches : (px py : Coordinate) → IsNear last x px → IsNear last y py → (px ≡ Within x → py ≡ Within y → ⊥) → (q : ℕ) → HasPlace k (pixel_at last f px py) q → Touch k p q
  step_touches px py nx ny off q =
      go (pixel_at last f px py) refl
    where
      go : (o : Option FaceXy) → pixel_at last f px py ≡ o → HasPlace k o q → Touch k p q
      go None e h = elim h [ ]
      go (Some at) e there =
          let reached = leads last x y hx hy f here.face_range px py nx ny (λ is. let o = own x y px py is in off o.0 o.1) at e in
          let shares = subst (λ (n : ℕ). SharesCorner n f x y at.face at.x at.y) size reached.shares in
          touch_from k p q f x y at.face at.x at.y here there
          (λ same.
          let spot = one_place k q at.face at.x at.y f x y there (subst (λ (z : ℕ). IsAt k z f x y) same here) in
          reached.other spot.0 (spot.1, spot.2)) shares

  -- a pixel that touches is where a step leads
  pub record IsStep (q : ℕ) : Type 0 where
    pub px : Coordinate
    pub py : Coordinate
    pub near_x : IsNear last x px
    pub near_y : IsNear last y py
    pub moved : px ≡ Within x → py ≡ Within y → ⊥
    pub spot : HasPlace k (pixel_at last f px py) q

  touches_step : (q : ℕ) → Touch k p q → IsStep q
  touches_step q touch =
      let t = touch_at k p q f x y here touch in
      let g = t.at in
      go t.face t.a t.b g (steps last f x y t.face t.a t.b here.face_range g.face_range hx hy (below_power k last t.a size g.x_range) (below_power k last t.b size g.y_range) (subst (λ (n : ℕ). SharesCorner n f x y t.face t.a t.b) (sym size) t.shares))
    where
      go : (g a b : ℕ) → IsAt k q g a b → Steps last f x y g a b → IsStep q
      go g a b there (px, py, nx, ny, e) = record {
        px = px;
        py = py;
        near_x = nx;
        near_y = ny;
        moved = λ ex ey. touch.different (same_pixel k p q f x y g a b last px py here there e ex ey);
        spot = subst (λ (z : Option FaceXy). HasPlace k z q) (sym e) there;
      }

-- what a list holds after a step
held : (k : ℕ) (o : Option FaceXy) (old new : List ℕ) (q : ℕ) (T : Type 0) → AddsStep k o old new → (Contains old q → T) → (HasPlace k o q → T) → Contains new q → T
held k o old new q T adds kept added h = elim ((adds.members q).0 h) [ inl old_one ↦ kept old_one | inr new_one ↦ added new_one ]

keeps : (k : ℕ) (o : Option FaceXy) (old new : List ℕ) (q : ℕ) → AddsStep k o old new → Contains old q → Contains new q
keeps k o old new q adds h = (adds.members q).1 (inl h)

gains : (k : ℕ) (o : Option FaceXy) (old new : List ℕ) (q : ℕ) → AddsStep k o old new → HasPlace k o q → Contains new q
gains k o old new q adds h = (adds.members q).1 (inr h)

none_in : (old : List ℕ) (q : ℕ) (T : Type 0) → old ≡ [] → Contains old q → T
none_in old q T e (i, lt, at) = absurd (omega (arith, ap length e))

module _ (k p f x y last : ℕ) (here : IsAt k p f x y) (size : last + 1 ≡ 2 ^ k) (bx ax by ay : Coordinate) (is_bx : bx ≡ before x) (is_ax : ax ≡ after last x) (is_by : by ≡ before y) (is_ay : ay ≡ after last y)
    (l0 l1 l2 l3 l4 l5 l6 l7 l8 : List ℕ) (start : l0 ≡ []) (a1 : AddsStep k (pixel_at last f bx by) l0 l1) (a2 : AddsStep k (pixel_at last f bx (Within y)) l1 l2) (a3 : AddsStep k (pixel_at last f bx ay) l2 l3)
    (a4 : AddsStep k (pixel_at last f (Within x) by) l3 l4) (a5 : AddsStep k (pixel_at last f (Within x) ay) l4 l5) (a6 : AddsStep k (pixel_at last f ax by) l5 l6) (a7 : AddsStep k (pixel_at last f ax (Within y)) l6 l7)
    (a8 : AddsStep k (pixel_at last f ax ay) l7 l8) where
  near_bx : IsNear last x bx
  near_bx = rw is_bx (near_before last x (hx k p f x y last here size))

  near_ax : IsNear last x ax
  near_ax = rw is_ax (near_after last x (hx k p f x y last here size))

  near_by : IsNear last y by
  near_by = rw is_by (near_before last y (hy k p f x y last here size))

  near_ay : IsNear last y ay
  near_ay = rw is_ay (near_after last y (hy k p f x y last here size))

  near_x : IsNear last x (Within x)
  near_x = near_itself last x (hx k p f x y last here size)

  near_y : IsNear last y (Within y)
  near_y = near_itself last y (hy k p f x y last here size)

  off_bx : bx ≡ Within x → ⊥
  off_bx e = off_before x (sym is_bx ∙ e)

  off_ax : ax ≡ Within x → ⊥
  off_ax e = off_after last x (sym is_ax ∙ e)

  off_by : by ≡ Within y → ⊥
  off_by e = off_before y (sym is_by ∙ e)

  off_ay : ay ≡ Within y → ⊥
  off_ay e = off_after last y (sym is_ay ∙ e)

  touching : (px py : Coordinate) → IsNear last x px → IsNear last y py → (px ≡ Within x → py ≡ Within y → ⊥) → (q : ℕ) → HasPlace k (pixel_at last f px py) q → Touch k p q
  touching = step_touches k p f x y last here size

  pub members_touch : (q : ℕ) → Contains l8 q → Touch k p q
  members_touch q =
      let t = Touch k p q in
      held k _ l7 l8 q t a8
      (held k _ l6 l7 q t a7
      (held k _ l5 l6 q t a6
      (held k _ l4 l5 q t a5
      (held k _ l3 l4 q t a4
      (held k _ l2 l3 q t a3
      (held k _ l1 l2 q t a2
      (held k _ l0 l1 q t a1 (none_in l0 q t start) (touching bx by near_bx near_by (λ e g. off_bx e) q))
      (touching bx (Within y) near_bx near_y (λ e g. off_bx e) q))
      (touching bx ay near_bx near_ay (λ e g. off_bx e) q))
      (touching (Within x) by near_x near_by (λ e g. off_by g) q))
      (touching (Within x) ay near_x near_ay (λ e g. off_ay g) q))
      (touching ax by near_ax near_by (λ e g. off_ax e) q))
      (touching ax (Within y) near_ax near_y (λ e g. off_ax e) q))
      (touching ax ay near_ax near_ay (λ e g. off_ax e) q)

  -- a list further on holds what one holds
  from7 : (q : ℕ) → Contains l7 q → Contains l8 q
  from7 q h = keeps k _ l7 l8 q a8 h

  from6 : (q : ℕ) → Contains l6 q → Contains l8 q
  from6 q h = from7 q (keeps k _ l6 l7 q a7 h)

  from5 : (q : ℕ) → Contains l5 q → Contains l8 q
  from5 q h = from6 q (keeps k _ l5 l6 q a6 h)

  from4 : (q : ℕ) → Contains l4 q → Contains l8 q
  from4 q h = from5 q (keeps k _ l4 l5 q a5 h)

  from3 : (q : ℕ) → Contains l3 q → Contains l8 q
  from3 q h = from4 q (keeps k _ l3 l4 q a4 h)

  from2 : (q : ℕ) → Contains l2 q → Contains l8 q
  from2 q h = from3 q (keeps k _ l2 l3 q a3 h)

  from1 : (q : ℕ) → Contains l1 q → Contains l8 q
  from1 q h = from2 q (keeps k _ l1 l2 q a2 h)

  at_step : (px py : Coordinate) (q : ℕ) → (px ≡ Within x → py ≡ Within y → ⊥) → HasPlace k (pixel_at last f px py) q → (px ≡ bx) ⊎ ((px ≡ Within x) ⊎ (px ≡ ax)) → (py ≡ by) ⊎ ((py ≡ Within y) ⊎ (py ≡ ay)) → Contains l8 q
  at_step px py q off there cx cy =
      let seen : (i j : Coordinate) → px ≡ i → py ≡ j → HasPlace k (pixel_at last f i j) q = λ i j e g. subst (λ (z : Coordinate). HasPlace k (pixel_at last f i z) q) g (subst (λ (z : Coordinate). HasPlace k (pixel_at last f z py) q) e there) in
      elim cx [
        | inl e ↦
            elim cy [
              | inl g ↦ from1 q (gains k _ l0 l1 q a1 (seen bx by e g))
              | inr (inl g) ↦ from2 q (gains k _ l1 l2 q a2 (seen bx (Within y) e g))
              | inr (inr g) ↦ from3 q (gains k _ l2 l3 q a3 (seen bx ay e g))
            ]
        | inr (inl e) ↦
            elim cy [
              | inl g ↦ from4 q (gains k _ l3 l4 q a4 (seen (Within x) by e g))
              | inr (inl g) ↦ absurd (off e g)
              | inr (inr g) ↦ from5 q (gains k _ l4 l5 q a5 (seen (Within x) ay e g))
            ]
        | inr (inr e) ↦
            elim cy [
              | inl g ↦ from6 q (gains k _ l5 l6 q a6 (seen ax by e g))
              | inr (inl g) ↦ from7 q (gains k _ l6 l7 q a7 (seen ax (Within y) e g))
              | inr (inr g) ↦ gains k _ l7 l8 q a8 (seen ax ay e g)
            ]
      ]

  pub touching_are_members : (q : ℕ) → Touch k p q → Contains l8 q
  touching_are_members q touch =
      let s = touches_step k p f x y last here size q touch in
      at_step s.px s.py q s.moved s.spot (rw (is_bx, is_ax) (three last x s.px s.near_x (hx k p f x y last here size))) (rw (is_by, is_ay) (three last y s.py s.near_y (hy k p f x y last here size)))
