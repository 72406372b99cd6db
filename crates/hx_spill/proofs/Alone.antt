-- One part of a split file is read alone, as it stands in the file.
use Rattle.std.proofs.Common.{◌≡◌, ◌∙◌, ◌+◌, ◌*◌, ◌^◌, ◌-◌, ◌<◌, ◌≤◌, ◌∷◌, ◌++◌, ◌&&◌, ◌==◌, [], ℕ, zero, suc, List, Bool, true, false, Ok, Err, Option, Some, None, length, refl, sym, ap, arith, take, drop, inl, inr, nat_le, nat_lt, if◌then◌else◌, Result, subst}
use Rattle.std.specs.List.{list_all}
use Rattle.std.specs.Option.{option_map}
use Rattle.std.specs.Int.{w32, w64, cast_signed}
use Rattle.std.specs.Ordering.{is_le}
use Rattle.std.specs.Prelude.{IfSome, codes, min}
use Rattle.std.proofs.lemmas.Bool.{and_parts, cases_Bool, cases_lt, le-leb, le-ltb, lt-ltb, ltb-true}
use Rattle.std.proofs.lemmas.List.{drop-append-le, drop-drop, length-append, length-drop, length-take, take-append-drop}
use Rattle.std.proofs.Math.Nat.{min-eq_left}
use Rattle.byteorder.specs.Endian.{little_number}
use Rattle.byteorder.specs.Numbers.{little_from-append}
use Rattle.hx_base.specs.Columns.{◌>>=◌}
use Rattle.hx_base.specs.Rows.{row_cmp}
use Rattle.hx_base.specs.declared.row.Row.{Row}
use Rattle.hx_base.specs.declared.refusal.SpillRefusal.{SpillRefusal}
use Rattle.hx_base.specs.declared.refusal.SpillRefusal.TheVariants as refusal
use Rattle.hx_base.proofs.RowValues.{value-of}
use Rattle.hx_spill.specs.Alone.{AreReadAlone, HasSlices, IsBelow, LeadsTo, begun_at, head_width, refused_at}
use Rattle.hx_spill.specs.Items.{Refuses, each, kept, mark, number}
use Rattle.hx_spill.specs.Splits.{entry_at, entry_behind, entry_of, head_in, is_good, place_of, place_of_entry, place_of_row, placed_in, row_at, row_behind, row_from, rows_of, slice, slice_in, slice_place, split_in}
use Rattle.hx_spill.specs.declared.split.Placed.{Placed}
use Rattle.hx_spill.specs.declared.split.head.Entry.{Entry}
use Rattle.hx_spill.proofs.Each.{each-length, item-keeps, item-value}
use Rattle.hx_spill.proofs.Heads.{are_apart, either_fits, next_found}
use Rattle.hx_spill.proofs.Slices.{slice_found, slice_none}
use Rattle.hx_spill.proofs.Told.{entries_in, entries_within, head_front, head_within, number_front, parts}

-- the number of a field is read from the field's front alone
field_front : (w k : ℕ) (front rest : List ℕ) → k + w ≤ length front → little_number w (drop k (front ++ rest)) ≡ little_number w (drop k front)
field_front w k front rest within =
    ap (little_number w) (drop-append-le k front rest (omega (arith, within))) ∙ little_from-append w (drop k front) rest (omega (arith, length-drop k front, within))

row_front : (front rest : List ℕ) → 28 ≤ length front → row_from (front ++ rest) ≡ row_from front
row_front front rest long =
    rw (
      field_front 8 0 front rest (omega (arith, long)),
      field_front 8 8 front rest (omega (arith, long)),
      field_front 4 16 front rest (omega (arith, long)),
      field_front 4 20 front rest (omega (arith, long)),
      field_front 4 24 front rest (omega (arith, long)),
    )
    refl

-- a row that was read: there is room for it, it stands at its place, and keeps its rule
record Row_at (keeps : Row → Bool) (place : ℕ) (bytes : List ℕ) (row : Row) : Type 0 where
  within : place + 28 ≤ length bytes
  stands : row ≡ row_from (drop place bytes)
  rule : (is_good row && keeps row) ≡ true

row_room : (keeps : Row → Bool) (place : ℕ) (bytes : List ℕ) (row : Row) → row_at keeps place bytes ≡ Ok row → place + 28 ≤ length bytes
unfolding row_at
row_room keeps place bytes row is =
    elim (cases_lt (length bytes) (place + 28)) [
      | inl short ↦ let cut : nat_lt (length bytes) (place + 28) ≡ true = lt-ltb _ _ short in cc (rw cut at is)
      | inr there ↦ there
    ]

row_read : (keeps : Row → Bool) (place : ℕ) (bytes : List ℕ) (row : Row) → row_at keeps place bytes ≡ Ok row → Row_at keeps place bytes row
unfolding row_at
row_read keeps place bytes row is = record {
  within = row_room keeps place bytes row is;
  stands = item-value 28 row_from (λ r. is_good r && keeps r) place bytes row is;
  rule = item-keeps 28 row_from (λ r. is_good r && keeps r) place bytes row is;
}

row_made : (keeps : Row → Bool) (place : ℕ) (bytes : List ℕ) (row : Row) → Row_at keeps place bytes row → row_at keeps place bytes ≡ Ok row
unfolding row_at
row_made keeps place bytes row is =
    let there : nat_lt (length bytes) (place + 28) ≡ false = le-ltb _ _ is.within in
    let rule : (is_good (row_from (drop place bytes)) && keeps (row_from (drop place bytes))) ≡ true = subst (λ (r : Row). (is_good r && keeps r) ≡ true) is.stands is.rule in
    made (nat_lt (length bytes) (place + 28)) (row_from (drop place bytes)) there rule ∙ ap Ok (sym is.stands)
  where
    passes : (b : Bool) (x : Row) → b ≡ true → kept b x place ≡ Ok x
    passes true x e = refl
    passes false x e = cc e

    made : (short : Bool) (x : Row) → short ≡ false → (is_good x && keeps x) ≡ true → ((if short then Err (refusal.Damaged place) else Ok x) >>= λ r. kept (is_good r && keeps r) r place) ≡ Ok x
    made true x e rule = cc e
    made false x e rule = passes (is_good x && keeps x) x rule

-- what stands at a place behind a start stands there in what begins at the start, also where this is cut behind it
moved : (start place w : ℕ) (bytes : List ℕ) → place + 28 ≤ w → start + w ≤ length bytes → row_from (drop (start + place) bytes) ≡ row_from (drop place (take w (drop start bytes)))
moved start place w bytes room within =
    let ys = drop start bytes in
    let front = take w (drop start bytes) in
    let long : length front ≡ w = omega (arith, length-take w (drop start bytes), length-drop start bytes, within) in
    let parts : take w (drop start bytes) ++ drop w (drop start bytes) ≡ drop start bytes = take-append-drop w (drop start bytes) in
    let cut : drop place (front ++ drop w ys) ≡ drop place front ++ drop w ys = drop-append-le place front (drop w ys) (omega (arith, long, room)) in
    ap row_from (drop-add start place bytes ∙ ap (drop place) (sym parts) ∙ cut)
    ∙ row_front (drop place front) (drop w ys) (omega (arith, length-drop place front, long, room))
  where
    drop-add : (start place : ℕ) (bytes : List ℕ) → drop (start + place) bytes ≡ drop place (drop start bytes)
    drop-add start place bytes = sym (drop-drop place start bytes)

row_alone : (keeps : Row → Bool) (start place w : ℕ) (bytes : List ℕ) (row : Row) → place + 28 ≤ w → start + w ≤ length bytes → row_at keeps (start + place) bytes ≡ Ok row → row_at keeps place (take w (drop start bytes)) ≡ Ok row
row_alone keeps start place w bytes row room within is =
    let read = row_read keeps (start + place) bytes row is in
    let long : length (take w (drop start bytes)) ≡ w = omega (arith, length-take w (drop start bytes), length-drop start bytes, within) in
    row_made keeps place (take w (drop start bytes)) row (record {
      within = omega (arith, long, room);
      stands = read.stands ∙ moved start place w bytes room within;
      rule = read.rule;
    })

-- rows that were read stand within the bytes
some_within : (i start : ℕ) (bytes : List ℕ) (rows : List Row) → 0 < i → each i (row_behind start bytes) ≡ Ok rows → start + 28 * i ≤ length bytes
unfolding each
some_within zero start bytes rows some read = absurd (omega (arith, some))
some_within (suc i) start bytes rows some read =
    let before = value-of (each i (row_behind start bytes)) _ rows read in
    let next = value-of (row_behind start bytes before.0) _ rows before.2 in
    let count = each-length (row_behind start bytes) i before.0 before.1 in
    let room = row_room _ (start + 28 * length before.0) bytes next.0 next.1 in
    omega (arith, count, room)

-- their bytes alone are read as they
each_alone : (i start w : ℕ) (bytes : List ℕ) (rows : List Row) → 28 * i ≤ w → start + w ≤ length bytes → each i (row_behind start bytes) ≡ Ok rows → each i (row_behind 0 (take w (drop start bytes))) ≡ Ok rows
unfolding each
each_alone zero start w bytes rows room within read = read
each_alone (suc i) start w bytes rows room within read =
    let before = value-of (each i (row_behind start bytes)) _ rows read in
    let next = value-of (row_behind start bytes before.0) _ rows before.2 in
    let count = each-length (row_behind start bytes) i before.0 before.1 in
    let again = each_alone i start w bytes before.0 (omega (arith, room)) within before.1 in
    let keeps : Row → Bool = λ row. list_all (λ other. is_le (row_cmp other row)) before.0 in
    let alone = row_alone keeps start (28 * length before.0) w bytes next.0 (omega (arith, count, room)) within next.1 in
    let here : 28 * length before.0 ≡ 0 + 28 * length before.0 = omega arith in
    let same : row_behind 0 (take w (drop start bytes)) before.0 ≡ Ok next.0 = ap (λ (p : ℕ). row_at keeps p (take w (drop start bytes))) (sym here) ∙ alone in
    rw (again, same) next.2

-- a row that isn't there is damage at its place
row_refused : (keeps : Row → Bool) (place : ℕ) (bytes : List ℕ) (refused : SpillRefusal) → row_at keeps place bytes ≡ Err refused → refused ≡ refusal.Damaged place
unfolding row_at
row_refused keeps place bytes refused is =
    elim (cases_Bool (nat_lt (length bytes) (place + 28))) [
      | inl cut ↦ cc (sym (rw cut at is))
      | inr there ↦ breaks (is_good (row_from (drop place bytes)) && keeps (row_from (drop place bytes))) (rw there at is)
    ]
  where
    breaks : (b : Bool) → (if b then Ok (row_from (drop place bytes)) else Err (refusal.Damaged place)) ≡ Err refused → refused ≡ refusal.Damaged place
    breaks true e = cc e
    breaks false e = cc (sym e)

below_next : (i start : ℕ) (bytes : List ℕ) (refused : SpillRefusal) (before : List Row) (m : Result Row SpillRefusal) → row_behind start bytes before ≡ m → each i (row_behind start bytes) ≡ Ok before → each (suc i) (row_behind start bytes) ≡ Err refused → IsBelow (start + 28 * suc i) refused
unfolding each
below_next i start bytes refused before (Ok row) is ok read = cc (rw (ok, is) at read)
below_next i start bytes refused before (Err r) is ok read =
    let count = each-length (row_behind start bytes) i before ok in
    let same : r ≡ refused = cc (rw (ok, is) at read) in
    let place = row_refused (λ row. list_all (λ other. is_le (row_cmp other row)) before) (start + 28 * length before) bytes r is in
    let bound : start + 28 * length before < start + 28 * suc i = omega (arith, count) in
    subst (IsBelow (start + 28 * suc i)) (sym place ∙ same) bound

wider : (i start : ℕ) (r : SpillRefusal) → IsBelow (start + 28 * i) r → IsBelow (start + 28 * suc i) r
wider i start refusal.Memory below = below
wider i start (refusal.Damaged place) below = omega (arith, below)

below_first : (i start : ℕ) (bytes : List ℕ) (refused : SpillRefusal) → (each i (row_behind start bytes) ≡ Err refused → IsBelow (start + 28 * i) refused) → (m : Result (List Row) SpillRefusal) → each i (row_behind start bytes) ≡ m
    → each (suc i) (row_behind start bytes) ≡ Err refused → IsBelow (start + 28 * suc i) refused
unfolding each
below_first i start bytes refused earlier (Ok before) is read = below_next i start bytes refused before (row_behind start bytes before) refl is read
below_first i start bytes refused earlier (Err r) is read =
    let same : r ≡ refused = cc (rw is at read) in
    wider i start refused (earlier (is ∙ ap Err same))

each_below : (i start : ℕ) (bytes : List ℕ) (refused : SpillRefusal) → each i (row_behind start bytes) ≡ Err refused → IsBelow (start + 28 * i) refused
unfolding each
each_below zero start bytes refused read = cc read
each_below (suc i) start bytes refused read = below_first i start bytes refused (λ e. each_below i start bytes refused e) (each i (row_behind start bytes)) refl read

-- each entry that was read has rows, which end below 2 ^ 64
entry_rules : (keeps : ℕ → Bool) (n before place : ℕ) (bytes : List ℕ) (entry : Entry) → entry_at keeps n before place bytes ≡ Ok entry → (0 < entry.rows) × (place_of_row n (before + entry.rows) < 2 ^ 64)
unfolding entry_at
entry_rules keeps n before place bytes entry is =
    let part = value-of (number 4 keeps place bytes) _ entry is in
    let first = value-of (number 8 (λ k. k == before) (place + 4) bytes) _ entry part.2 in
    let rows = value-of (number 8 (λ k. nat_lt 0 k && nat_lt (place_of_row n (before + k)) (2 ^ 64)) (place + 12) bytes) _ entry first.2 in
    let made : record { part = part.0; first = first.0; rows = rows.0 } ≡ entry = cc rows.2 in
    let same : rows.0 ≡ entry.rows = ap (λ (e : Entry). e.rows) made in
    let rule = and_parts _ _ (item-keeps 8 (little_number 8) (λ k. nat_lt 0 k && nat_lt (place_of_row n (before + k)) (2 ^ 64)) (place + 12) bytes rows.0 rows.1) in
    (rw (← same) (ltb-true _ _ rule.0), rw (← same) (ltb-true _ _ rule.1))

some_rows : (i n : ℕ) (bytes : List ℕ) (entries : List Entry) (part : ℕ) → each i (entry_behind n bytes) ≡ Ok entries → IfSome (entry_of part entries) (λ e. 0 < e.rows)
unfolding each
some_rows zero n bytes entries part read = let none : [] ≡ entries = cc read in rw (← none) tt
some_rows (suc i) n bytes entries part read =
    let before = value-of (each i (entry_behind n bytes)) _ entries read in
    let next = value-of (entry_behind n bytes before.0) _ entries before.2 in
    let made : before.0 ++ next.0 ∷ [] ≡ entries = cc next.2 in
    let rule = entry_rules (λ p. list_all (λ other. nat_lt other.part p) before.0) n (rows_of before.0) (place_of_entry (length before.0)) bytes next.0 next.1 in
    rw (← made, next_found part before.0 next.0) (either_fits (λ e. 0 < e.rows) (entry_of part before.0) next.0 (next.0.part == part) (some_rows i n bytes before.0 part before.1) rule.0)

-- a head's length has room in a u64
width_fits : (i n : ℕ) (bytes : List ℕ) (entries : List Entry) → i ≡ n → each i (entry_behind n bytes) ≡ Ok entries → place_of_entry n ≤ 2 ^ 64 - 1
unfolding each
width_fits zero n bytes entries is read = omega (arith, is)
width_fits (suc i) n bytes entries is read =
    let before = value-of (each i (entry_behind n bytes)) _ entries read in
    let next = value-of (entry_behind n bytes before.0) _ entries before.2 in
    let rule = entry_rules (λ p. list_all (λ other. nat_lt other.part p) before.0) n (rows_of before.0) (place_of_entry (length before.0)) bytes next.0 next.1 in
    omega (arith, rule.1)

width_read : (bytes : List ℕ) (entries : List Entry) → head_in bytes ≡ Ok entries → head_width (take 12 bytes) ≡ Ok (place_of_entry (length entries))
unfolding head_in head_width
width_read bytes entries is =
    let marked = value-of (mark (codes "HXS1") bytes) _ entries is in
    let n = value-of (number 8 (λ _. true) 4 bytes) _ entries marked.2 in
    let count = each-length (entry_behind n.0 bytes) n.0 entries n.2 in
    let long = head_within bytes entries is in
    let front = take 12 bytes in
    let size : length (take 12 bytes) ≡ 12 = omega (arith, length-take 12 bytes, long) in
    let whole_again : take 12 bytes ++ drop 12 bytes ≡ bytes = take-append-drop 12 bytes in
    let mark_front : number 4 (λ found. found == little_number 4 (codes "HXS1")) 0 (take 12 bytes) ≡ Ok marked.0 =
    sym (number_front 4 (λ found. found == little_number 4 (codes "HXS1")) 0 (take 12 bytes) (drop 12 bytes) (omega (arith, size))) ∙ ap (mark (codes "HXS1")) whole_again ∙ marked.1 in
    let n_front : number 8 (λ _. true) 4 (take 12 bytes) ≡ Ok n.0 =
    sym (number_front 8 (λ _. true) 4 (take 12 bytes) (drop 12 bytes) (omega (arith, size))) ∙ ap (number 8 (λ _. true) 4) whole_again ∙ n.1 in
    let least : min (place_of_entry n.0) (2 ^ 64 - 1) ≡ place_of_entry n.0 = min-eq_left (width_fits n.0 n.0 bytes entries refl n.2) in
    rw (mark_front, n_front, least, count) refl

leads : (n : ℕ) (bytes : List ℕ) (entries : List Entry) (placed : List Placed) (part : ℕ) (found : Option Entry) → placed_in n bytes entries ≡ Ok placed → each n (entry_behind n bytes) ≡ Ok entries → entry_of part entries ≡ found
    → LeadsTo bytes (option_map (place_of n) found) (slice part placed)
leads n bytes entries placed part None read head is = slice_none n bytes entries placed part read is
leads n bytes entries placed part (Some entry) read head is =
    let rows = slice_found n bytes entries placed part entry read (are_apart n n bytes entries head) is in
    let some : 0 < entry.rows = rw is at (some_rows n n bytes entries part head) in
    let start = place_of_row n entry.first in
    let within = some_within entry.rows (place_of_row n entry.first) bytes (slice part placed) some rows in
    let alone = each_alone entry.rows (place_of_row n entry.first) (28 * entry.rows) bytes (slice part placed) (omega arith) within rows in
    record {
      within = within;
      read = ap (begun_at start) alone;
    }

pub has_slices : (bytes : List ℕ) (placed : List Placed) → split_in bytes ≡ Ok placed → HasSlices bytes placed
unfolding slice_place
has_slices bytes placed is =
    let p = parts bytes placed is in
    let n = length p.0 in
    let within : place_of_entry n ≤ length bytes = entries_within n n bytes p.0 (head_within bytes p.0 p.1) (entries_in bytes p.0 p.1) in
    let size : length (take (place_of_entry n) bytes) ≡ place_of_entry n = omega (arith, length-take (place_of_entry n) bytes, within) in
    let head = head_front (take (place_of_entry n) bytes) (drop (place_of_entry n) bytes) p.0 size (ap head_in (take-append-drop (place_of_entry n) bytes) ∙ p.1) in
    let ends : nat_le (length (take (place_of_entry n) bytes)) (place_of_entry n) ≡ true = le-leb _ _ (omega (arith, size)) in
    record {
      width = place_of_entry n;
      front = width_read bytes p.0 p.1;
      within = within;
      each_part = λ part. (option_map (place_of n) (entry_of part p.0), rw (head, ends) refl, leads n bytes p.0 placed part (entry_of part p.0) p.2 (entries_in bytes p.0 p.1) refl);
    }

-- what is refused of rows is damage within their bytes
refused_behind : (rows start : ℕ) (bytes : List ℕ) (refused : SpillRefusal) → Refuses refused (each rows (row_behind start bytes)) → IsBelow (start + 28 * rows) refused
refused_behind rows start bytes refused (inl memory) = rw memory tt
refused_behind rows start bytes refused (inr damaged) = each_below rows start bytes refused damaged

pub refused_below : (rows : ℕ) (bytes : List ℕ) (refused : SpillRefusal) → Refuses refused (each rows (row_behind 0 bytes)) → IsBelow (28 * rows) refused
refused_below rows bytes refused is =
    let same : 0 + 28 * rows ≡ 28 * rows = omega arith in
    subst (λ (end : ℕ). IsBelow end refused) same (refused_behind rows 0 bytes refused is)

pub refused_alone : (place rows : ℕ) (bytes : List ℕ) (refused : SpillRefusal) → Refuses refused (each rows (row_behind 0 bytes)) → Refuses (refused_at place refused) (begun_at place (each rows (row_behind 0 bytes)))
refused_alone place rows bytes refused (inl memory) = inl (ap (refused_at place) memory)
refused_alone place rows bytes refused (inr damaged) = inr (ap (begun_at place) damaged)
