-- Members of a list, of what a filter keeps, and of disjoint pixels.
use Rattle.std.proofs.Common.{◌≡◌, ◌∙◌, ◌==◌, ◌∷◌, ◌<◌, ◌⊎◌, [], ℕ, List, Bool, true, zero, suc, filter, length, get_or, refl, sym, ap, subst, arith, inl, inr}
use Rattle.std.specs.List.{All, Any, Contains}
use Rattle.std.proofs.lemmas.Bool.{cases_Bool, cases_order, eq-eqb}
use Rattle.std.proofs.lemmas.Bool.Decides.{Decides-eqb, eqb_tells}
use Rattle.std.proofs.lemmas.List.{get_or_default}
use Rattle.std.proofs.lemmas.List.Elements.{All-cons, All-contains, All-nil, filter_passes}
use Rattle.hx_base.specs.declared.pixel.Pixel.{Pixel}
use Rattle.hx_base.specs.declared.row.Row.{Row}
use Rattle.hx_base.specs.Pixels.{AreDisjointInOrder, HoldsPosition, PixelContains, pixel_of, rows_in}

pub member_first : {X : Type 0} (x : X) (xs : List X) → Contains (x ∷ xs) x
member_first x xs = (0, omega arith, refl)

pub member_later : {X : Type 0} (y x : X) (xs : List X) → Contains xs x → Contains (y ∷ xs) x
member_later y x xs h = (suc h.0, omega (arith, h.1), h.2)

-- what was there and passes is kept
passed : {X : Type 0} (p : X → Bool) (xs : List X) (k : ℕ) (x : X) → p x ≡ true → k < length xs → get_or xs k x ≡ x → Contains (filter p xs) x
passed p [] k x ok within is = absurd (omega (arith, within))
passed p (y ∷ ys) zero x ok within is = rw (is, ok) (member_first x (filter p ys))
passed p (y ∷ ys) (suc k) x ok within is =
    let rest = passed p ys k x ok (omega (arith, within)) is in
    elim (cases_Bool (p y)) [
      | inl e ↦ rw e (member_later y x (filter p ys) rest)
      | inr e ↦ rw e rest
    ]

pub row_is_in : (pixel : Pixel) (rows : List Row) (row : Row) → Contains rows row → PixelContains pixel row → Contains (rows_in pixel rows) row
row_is_in pixel rows row h holds = passed (λ (r : Row). pixel_of pixel.order r.hp == pixel.number) rows h.0 row (eq-eqb (pixel_of pixel.order row.hp) pixel.number holds) h.1 h.2

-- the pixel of a list that holds a position, or none does
pub record IsHeldBy (pixels : List Pixel) (place : ℕ) : Type 0 where
  pub part : Pixel
  pub member : Contains pixels part
  pub holds : HoldsPosition part place

pub held_or_not : (pixels : List Pixel) (place : ℕ) → IsHeldBy pixels place ⊎ All (λ part. ¬ (HoldsPosition part place)) pixels
held_or_not [] place = inr (All-nil (λ (part : Pixel). ¬ (HoldsPosition part place)))
held_or_not (p ∷ ps) place =
    elim (eqb_tells (pixel_of p.order place) p.number) [
      | inl it ↦ inl (record { part = p; member = member_first p ps; holds = it.1 })
      | inr off ↦ elim (held_or_not ps place) [
        | inl h ↦ inl (record { part = h.part; member = member_later p h.part ps h.member; holds = h.holds })
        | inr none ↦ inr (All-cons (λ (part : Pixel). ¬ (HoldsPosition part place)) p ps off.1 none)
      ]
    ]

pub held_by_any : (pixels : List Pixel) (row : Row) → Any (λ part. PixelContains part row) pixels → IsHeldBy pixels row.hp
held_by_any pixels row h = record { part = h.1; member = (h.0, h.2, h.3); holds = h.4 }

-- of disjoint pixels one holds a position
pub same_holder : (pixels : List Pixel) (a b : Pixel) (place : ℕ) → AreDisjointInOrder pixels → Contains pixels a → Contains pixels b → HoldsPosition a place → HoldsPosition b place → a ≡ b
same_holder pixels a b place apart is_a is_b holds_a holds_b =
    let at_b : get_or pixels is_b.0 a ≡ b = get_or_default pixels is_b.0 a b is_b.1 ∙ is_b.2 in
    let first : HoldsPosition (get_or pixels is_a.0 a) place = subst (λ (p : Pixel). HoldsPosition p place) (sym is_a.2) holds_a in
    let second : HoldsPosition (get_or pixels is_b.0 a) place = subst (λ (p : Pixel). HoldsPosition p place) (sym at_b) holds_b in
    elim (cases_order is_a.0 is_b.0) [
      | inl same ↦ sym is_a.2 ∙ ap (λ (i : ℕ). get_or pixels i a) same ∙ at_b
      | inr (inl less) ↦ absurd (apart.disjoint is_a.0 is_b.0 a less is_b.1 place first second)
      | inr (inr more) ↦ absurd (apart.disjoint is_b.0 is_a.0 a more is_a.1 place second first)
    ]

-- what a filter keeps was there
in_rest : {X : Type 0} (y x : X) (zs xs : List X) (k : ℕ) → (Contains zs x → Contains xs x) → k < length (y ∷ zs) → get_or (y ∷ zs) k x ≡ x → Contains (y ∷ xs) x
in_rest y x zs xs zero f below is = (0, omega arith, is)
in_rest y x zs xs (suc k) f below is = member_later y x xs (f (k, omega (arith, below), is))

kept : {X : Type 0} (p : X → Bool) (xs : List X) (x : X) → Contains (filter p xs) x → Contains xs x
kept p [] x h = h
kept p (y ∷ ys) x h =
    let rest = kept p ys x in
    elim (cases_Bool (p y)) [
      | inl e ↦ let g = rw e at h in in_rest y x (filter p ys) ys g.0 rest g.1 g.2
      | inr e ↦ member_later y x ys (rest (rw e at h))
    ]

pub row_was_in : (pixel : Pixel) (rows : List Row) (row : Row) → Contains (rows_in pixel rows) row → Contains rows row × PixelContains pixel row
row_was_in pixel rows row h =
    let test = λ (r : Row). pixel_of pixel.order r.hp == pixel.number in
    (kept test rows row h, (Decides-eqb _ _).0 (All-contains (λ r. test r ≡ true) (filter test rows) row (filter_passes test rows) h))
