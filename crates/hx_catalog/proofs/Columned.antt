-- The good rows of five columns: by a row's values, and by whole columns.
use Rattle.std.proofs.Common.{◌≡◌, ◌≢◌, ◌∙◌, ◌+◌, ◌-◌, ◌*◌, ◌^◌, ◌++◌, ◌<◌, ◌≤◌, ◌≤ℤ◌, ◌∷◌, ◌&&◌, [], ℕ, ℤ, pos, neg_ℤ, List, Option, None, Some, Result, Ok, Err, All, ap, arith, true, false, get_or, inl, inr, int_le, leb, length, map, option_map, refl, slice_get, sym, take, unsigned_abs}
use Rattle.std.proofs.lemmas.Bool.{and_parts, cases_Bool, cases_lt}
use Rattle.std.proofs.lemmas.Int.{ints}
use Rattle.std.proofs.lemmas.List.{length-map, map-append, take_more}
use Rattle.std.proofs.lemmas.Option.{get_or_from_slice_get, slice_get-get_or, slice_get-map, slice_get_within}
use Rattle.std.specs.List.Sorted.{IsSortedWithin}
use Rattle.std.specs.Ordering.{is_lt}
use Rattle.hx_base.specs.Columns.{◌>>=◌, columns_of_rows, coordinate, position, required, row_of, value_in, values_of, with_unit_vector, within}
use Rattle.hx_base.specs.Rows.{IsGood, row_cmp, squared_length}
use Rattle.hx_base.specs.declared.columns.Column.TheVariants as column
use Rattle.hx_base.specs.declared.columns.RowFault.{RowFault}
use Rattle.hx_base.specs.declared.columns.RowFault.TheVariants as fault
use Rattle.hx_base.specs.declared.row.Row.{Row}
use Rattle.hx_base.proofs.RowValues.{own-row, value-of}

within-some : (low high : ℤ) (f : RowFault) (v : Option ℤ) (w : ℤ) → within low high f v ≡ Ok w → (v ≡ Some w) × (low ≤ℤ w)
within-some low high f None w is = cc is
within-some low high f (Some z) w is =
    elim (cases_Bool (int_le low z && int_le z high)) [
      | inl e ↦
          let both = and_parts (int_le low z) (int_le z high) e in
          let same : z ≡ w = cc (rw e at is) in
          let above : low ≤ℤ z = at-most low z both.0 in
          (ap Some same, rw same at above)
      | inr e ↦ cc (rw e at is)
    ]
  where
    at-most : (a b : ℤ) → int_le a b ≡ true → a ≤ℤ b
    at-most a b h = grind (arith, ints)

required-some : (f : RowFault) (v : Option ℤ) (w : ℤ) → required f v ≡ Ok w → v ≡ Some w
required-some f None w is = cc is
required-some f (Some z) w is = cc is

unit-same : (made row : Row) → with_unit_vector made ≡ Ok row → made ≡ row
unit-same made row is =
    elim (cases_Bool (leb (squared_length made) (10 ^ 18 + 4 * 10 ^ 9) && leb (10 ^ 18) (squared_length made + 4 * 10 ^ 9))) [ inl e ↦ cc (rw e at is) | inr e ↦ cc (rw e at is) ]

above-zero : (z : ℤ) → pos 0 ≤ℤ z → pos (unsigned_abs z) ≡ z
above-zero z h = grind (arith, ints)

-- the row of values that follow the first ones
module _ (row : Row) where
  ends : (hp id x y : ℤ) (z : Option ℤ) → (coordinate fault.Z z >>= λ e. with_unit_vector (record { hp = unsigned_abs hp; id = id; x = x; y = y; z = e })) ≡ Ok row
      → (w : ℤ) × (z ≡ Some w) × (record { hp = unsigned_abs hp; id = id; x = x; y = y; z = w } ≡ row)
  ends hp id x y z is =
      let e = value-of (coordinate fault.Z z) (λ e. with_unit_vector (record { hp = unsigned_abs hp; id = id; x = x; y = y; z = e })) row is in
      let some = within-some (neg_ℤ (pos 2000000000)) (pos 2000000000) fault.Z z e.0 e.1 in
      let made : Row = record { hp = unsigned_abs hp; id = id; x = x; y = y; z = e.0 } in
      (e.0, some.0, unit-same made row e.2)

-- the row of five values has them
pub row-values : (hp id x y z : Option ℤ) (row : Row) → row_of (hp ∷ id ∷ x ∷ y ∷ z ∷ []) ≡ Ok row → map Some (values_of row) ≡ hp ∷ id ∷ x ∷ y ∷ z ∷ []
unfolding row_of
row-values hp id x y z row is =
    let rest3 : ℤ → ℤ → ℤ → ℤ → Result Row RowFault = λ a b c d. coordinate fault.Z z >>= λ e. with_unit_vector (record { hp = unsigned_abs a; id = b; x = c; y = d; z = e }) in
    let rest2 : ℤ → ℤ → ℤ → Result Row RowFault = λ a b c. coordinate fault.Y y >>= rest3 a b c in
    let rest1 : ℤ → ℤ → Result Row RowFault = λ a b. coordinate fault.X x >>= rest2 a b in
    let rest0 : ℤ → Result Row RowFault = λ a. required fault.Id id >>= rest1 a in
    let a = value-of (position hp) rest0 row is in
    let b = value-of (required fault.Id id) (rest1 a.0) row a.2 in
    let c = value-of (coordinate fault.X x) (rest2 a.0 b.0) row b.2 in
    let d = value-of (coordinate fault.Y y) (rest3 a.0 b.0 c.0) row c.2 in
    let e = ends row a.0 b.0 c.0 d.0 z d.2 in
    let hps = within-some (pos 0) (pos 3458764513820540927) fault.Position hp a.0 a.1 in
    let ids = required-some fault.Id id b.0 b.1 in
    let xs = within-some (neg_ℤ (pos 2000000000)) (pos 2000000000) fault.X x c.0 c.1 in
    let ys = within-some (neg_ℤ (pos 2000000000)) (pos 2000000000) fault.Y y d.0 d.1 in
    let first : Some (pos (unsigned_abs a.0)) ≡ hp = ap Some (above-zero a.0 hps.1) ∙ sym hps.0 in
    let made : map Some (values_of (record { hp = unsigned_abs a.0; id = b.0; x = c.0; y = d.0; z = e.0 })) ≡ hp ∷ id ∷ x ∷ y ∷ z ∷ [] =
    λ k. first k ∷ sym ids k ∷ sym xs.0 k ∷ sym ys.0 k ∷ sym e.1 k ∷ [] in
    ap (λ (r : Row). map Some (values_of r)) (sym e.2) ∙ made

-- where there is no row of five values, no good row has them
pub no-row : (hp id x y z : Option ℤ) (f : RowFault) → row_of (hp ∷ id ∷ x ∷ y ∷ z ∷ []) ≡ Err f → (row : Row) → IsGood row → map Some (values_of row) ≢ (hp ∷ id ∷ x ∷ y ∷ z ∷ [])
no-row hp id x y z f is row good same = cc (sym (own-row row good) ∙ ap row_of same ∙ is)

-- a row's five values
pub each-value : (row : Row) (hp id x y z : Option ℤ) → map Some (values_of row) ≡ hp ∷ id ∷ x ∷ y ∷ z ∷ []
    → (hp ≡ Some (value_in column.Position row)) × (id ≡ Some (value_in column.Id row)) × (x ≡ Some (value_in column.X row)) × (y ≡ Some (value_in column.Y row)) × (z ≡ Some (value_in column.Z row))
each-value row hp id x y z same = (cc same, cc same, cc same, cc same, cc same)

-- a column with one more row
pub column-more : (V : Row → ℤ) (rows new : List Row) (row : Row) (xs : List ℤ) (i : ℕ) → new ≡ rows ++ row ∷ [] → map V rows ≡ take i xs → slice_get xs i ≡ Some (V row) → map V new ≡ take (i + 1) xs
column-more V rows new row xs i is so_far last =
    let within = slice_get_within xs i (V row) last in
    let there : V row ≡ get_or xs i (V row) = sym (get_or_from_slice_get xs i (V row) (V row) last) in
    rw is (map-append V rows (row ∷ []) ∙ (λ k. so_far k ++ there k ∷ []) ∙ sym (take_more xs i (V row) within))

value-at : (V : Row → ℤ) (rows : List Row) (xs : List ℤ) (i : ℕ) (r : Row) → map V rows ≡ xs → slice_get rows i ≡ Some r → Some (V r) ≡ slice_get xs i
value-at V rows xs i r same at = ap (option_map V) (sym at) ∙ sym (slice_get-map V rows i) ∙ ap (λ (l : List ℤ). slice_get l i) same

-- the row at an index of columns
pub at-row : (rows : List Row) (hps ids xs ys zs : List ℤ) (i : ℕ) → All IsGood rows → columns_of_rows rows ≡ hps ∷ ids ∷ xs ∷ ys ∷ zs ∷ [] → i < length hps
    → (row : Row) × IsGood row × (map Some (values_of row) ≡ slice_get hps i ∷ slice_get ids i ∷ slice_get xs i ∷ slice_get ys i ∷ slice_get zs i ∷ [])
at-row rows hps ids xs ys zs i good same within =
    let none : Row = record { hp = 0; id = pos 0; x = pos 0; y = pos 0; z = pos 0 } in
    let row : Row = get_or rows i none in
    let first : map (value_in column.Position) rows ≡ hps = cc same in
    let second : map (value_in column.Id) rows ≡ ids = cc same in
    let third : map (value_in column.X) rows ≡ xs = cc same in
    let fourth : map (value_in column.Y) rows ≡ ys = cc same in
    let fifth : map (value_in column.Z) rows ≡ zs = cc same in
    let inside : i < length rows = omega (arith, within, length-map rows (value_in column.Position), ap (λ (l : List ℤ). length l) first) in
    let at : slice_get rows i ≡ Some row = slice_get-get_or rows i none inside in
    let one = value-at (value_in column.Position) rows hps i row first at in
    let two = value-at (value_in column.Id) rows ids i row second at in
    let three = value-at (value_in column.X) rows xs i row third at in
    let four = value-at (value_in column.Y) rows ys i row fourth at in
    let fifth_value = value-at (value_in column.Z) rows zs i row fifth at in
    (row, good i none inside, λ k. one k ∷ two k ∷ three k ∷ four k ∷ fifth_value k ∷ [])

pub five : (lists : List (List ℤ)) → length lists ≡ 5 → get_or lists 0 [] ∷ get_or lists 1 [] ∷ get_or lists 2 [] ∷ get_or lists 3 [] ∷ get_or lists 4 [] ∷ [] ≡ lists
five [] h = absurd (omega (arith, h))
five (a ∷ []) h = absurd (omega (arith, h))
five (a ∷ b ∷ []) h = absurd (omega (arith, h))
five (a ∷ b ∷ c ∷ []) h = absurd (omega (arith, h))
five (a ∷ b ∷ c ∷ d ∷ []) h = absurd (omega (arith, h))
five (a ∷ b ∷ c ∷ d ∷ e ∷ []) h = refl
five (a ∷ b ∷ c ∷ d ∷ e ∷ f ∷ more) h = absurd (omega (arith, h))

same-row : (a b : Row) → a.hp ≡ b.hp → a.id ≡ b.id → a.x ≡ b.x → a.y ≡ b.y → a.z ≡ b.z → a ≡ b
same-row a b hp id x y z = λ k. record { hp = hp k; id = id k; x = x k; y = y k; z = z k }

-- columns are those of one list of rows
pub one-rows : (rows others : List Row) → columns_of_rows rows ≡ columns_of_rows others → rows ≡ others
one-rows [] [] h = refl
one-rows [] (b ∷ bs) h = cc h
one-rows (a ∷ rest) [] h = cc h
one-rows (a ∷ rest) (b ∷ bs) h =
    let hp : pos a.hp ≡ pos b.hp = cc h in
    let more : columns_of_rows rest ≡ columns_of_rows bs = cc h in
    let first : a ≡ b = same-row a b (cc hp) (cc h) (cc h) (cc h) (cc h) in
    λ k. first k ∷ one-rows rest bs more k

-- one more row that doesn't come before the one in front of it
pub sorted-more : (rows : List Row) (i : ℕ) (e : Row) → 1 ≤ i → i < length rows → IsSortedWithin (λ (x y : Row). is_lt (row_cmp x y)) rows 0 i
    → is_lt (row_cmp (get_or rows i e) (get_or rows (i - 1) e)) ≡ false → IsSortedWithin (λ (x y : Row). is_lt (row_cmp x y)) rows 0 (i + 1)
sorted-more rows i e some within before last = λ k d lo hi.
    elim (cases_lt (k + 1) i) [
      | inl early ↦ before k d lo early
      | inr late ↦
          let at : k + 1 ≡ i = omega arith in
          let front : k ≡ i - 1 = omega arith in
          let here : get_or rows (k + 1) d ≡ get_or rows i e = ap (λ (j : ℕ). get_or rows j d) at ∙ get_or_from_slice_get rows i (get_or rows i e) d (slice_get-get_or rows i e within) in
          let there : get_or rows k d ≡ get_or rows (i - 1) e = ap (λ (j : ℕ). get_or rows j d) front ∙ get_or_from_slice_get rows (i - 1) (get_or rows (i - 1) e) d (slice_get-get_or rows (i - 1) e (omega arith)) in
          rw (here, there) last
    ]
