-- A split file that was written reads back.
use Rattle.std.proofs.Common.{◌≡◌, ◌∙◌, ◌+◌, ◌*◌, ◌^◌, ◌<◌, ◌≤◌, ◌∷◌, ◌++◌, ◌&&◌, ◌==◌, [], ℕ, ℤ, List, Bool, true, false, Ok, length, map, drop, get_or, refl, sym, ap, arith, append_assoc, nat_le, nat_lt}
use Rattle.std.specs.List.{All, AllPairs, flat_map, list_all}
use Rattle.std.specs.Prelude.{FitsSigned, codes}
use Rattle.std.specs.Int.{w32, w64, cast_signed, cast_unsigned}
use Rattle.std.specs.Ordering.{is_gt, is_le}
use Rattle.std.proofs.Math.Facts.{Fits-lt-pow, Fits-of_z}
use Rattle.std.proofs.lemmas.Bool.{eq-eqb, le-leb, lt-ltb}
use Rattle.std.proofs.lemmas.Int.{to_z-of_z}
use Rattle.std.proofs.lemmas.List.{append-nil, get_or-append-add, get_or-map, length-append, length-map, map-append}
use Rattle.std.proofs.lemmas.List.Sums.{list_all-from_AllPass, sum_by-cons}
use Rattle.byteorder.specs.Endian.{little_bytes, little_number}
use Rattle.byteorder.specs.Numbers.{little_number-reads_back}
use Rattle.hx_base.specs.Rows.{IsGood, row_cmp}
use Rattle.hx_base.specs.declared.row.Row.{Row}
use Rattle.hx_spill.specs.Items.{each, mark}
use Rattle.hx_spill.specs.Splits.{AreEntries, RowFits, Tell, bytes_of_entry, bytes_of_row, bytes_of_rows, entry_at, entry_behind, head_in, head_of_split, is_good, place_of_entry, place_of_row, placed_at, placed_cmp, placed_in, row_at, row_behind, row_from, rows_of, slice_in, split_in}
use Rattle.hx_spill.specs.declared.split.Placed.{Placed}
use Rattle.hx_spill.specs.declared.split.head.Entry.{Entry}
use Rattle.hx_spill.proofs.Order.{row_le}
use Rattle.hx_spill.proofs.Slices.{split_read}
use Rattle.hx_spill.proofs.Written.{all_at, all_before, both, each-there, entry_there, item_there, number_there, place_there}

length-entry : (entry : Entry) → length (bytes_of_entry entry) ≡ 20
length-entry entry = refl

length-row : (row : Row) → length (bytes_of_row row) ≡ 28
length-row row = refl

signed64 : (z : ℤ) (rest : List ℕ) → FitsSigned w64 z → cast_signed w64 (little_number 8 (little_bytes 8 (cast_unsigned w64 z) ++ rest)) ≡ z
signed64 z rest fits = ap (cast_signed w64) (little_number-reads_back 8 (cast_unsigned w64 z) rest (Fits-lt-pow (Fits-of_z fits))) ∙ to_z-of_z w64 z fits

signed32 : (z : ℤ) (rest : List ℕ) → FitsSigned w32 z → cast_signed w32 (little_number 4 (little_bytes 4 (cast_unsigned w32 z) ++ rest)) ≡ z
signed32 z rest fits = ap (cast_signed w32) (little_number-reads_back 4 (cast_unsigned w32 z) rest (Fits-lt-pow (Fits-of_z fits))) ∙ to_z-of_z w32 z fits

reads_row : (row : Row) (rest : List ℕ) → RowFits row → row_from (bytes_of_row row ++ rest) ≡ row
reads_row row rest fits =
    let id = little_bytes 8 (cast_unsigned w64 row.id) in
    let x = little_bytes 4 (cast_unsigned w32 row.x) in
    let y = little_bytes 4 (cast_unsigned w32 row.y) in
    let z = little_bytes 4 (cast_unsigned w32 row.z) in
    let hp_is : little_number 8 (bytes_of_row row ++ rest) ≡ row.hp = little_number-reads_back 8 row.hp (id ++ (x ++ (y ++ (z ++ rest)))) fits.hp in
    let id_is : cast_signed w64 (little_number 8 (drop 8 (bytes_of_row row ++ rest))) ≡ row.id = signed64 row.id (x ++ (y ++ (z ++ rest))) fits.id in
    let x_is : cast_signed w32 (little_number 4 (drop 16 (bytes_of_row row ++ rest))) ≡ row.x = signed32 row.x (y ++ (z ++ rest)) fits.x in
    let y_is : cast_signed w32 (little_number 4 (drop 20 (bytes_of_row row ++ rest))) ≡ row.y = signed32 row.y (z ++ rest) fits.y in
    let z_is : cast_signed w32 (little_number 4 (drop 24 (bytes_of_row row ++ rest))) ≡ row.z = signed32 row.z rest fits.z in
    same_row (row_from (bytes_of_row row ++ rest)) row hp_is id_is x_is y_is z_is
  where
    same_row : (a b : Row) → a.hp ≡ b.hp → a.id ≡ b.id → a.x ≡ b.x → a.y ≡ b.y → a.z ≡ b.z → a ≡ b
    same_row a b e1 e2 e3 e4 e5 = ap (λ (n : ℕ). record { hp = n; id = a.id; x = a.x; y = a.y; z = a.z }) e1 ∙ ap (λ (n : ℤ). record { hp = b.hp; id = n; x = a.x; y = a.y; z = a.z }) e2
        ∙ ap (λ (n : ℤ). record { hp = b.hp; id = b.id; x = n; y = a.y; z = a.z }) e3 ∙ ap (λ (n : ℤ). record { hp = b.hp; id = b.id; x = b.x; y = n; z = a.z }) e4
        ∙ ap (λ (n : ℤ). record { hp = b.hp; id = b.id; x = b.x; y = b.y; z = n }) e5

good_is : (row : Row) → IsGood row → is_good row ≡ true
good_is row good = both _ _ (lt-ltb _ _ good.pixel) (both _ _ (le-leb _ _ good.no_longer) (le-leb _ _ good.no_shorter))

row_there : (keeps : Row → Bool) (place : ℕ) (front rest bytes : List ℕ) (row : Row) → bytes ≡ front ++ (bytes_of_row row ++ rest) → place ≡ length front → RowFits row → IsGood row → keeps row ≡ true → row_at keeps place bytes ≡ Ok row
unfolding row_at
row_there keeps place front rest bytes row is at fits good keep =
    item_there 28 row_from (λ r. is_good r && keeps r) row place front (bytes_of_row row) rest bytes is at (length-row row) (reads_row row rest fits) (both _ _ (good_is row good) keep)

part_there : (keeps : ℕ → Bool) (n before place : ℕ) (front rest bytes : List ℕ) (entry : Entry) → bytes ≡ front ++ (bytes_of_entry entry ++ rest) → place ≡ length front → entry.part < 2 ^ 32 → keeps entry.part ≡ true
    → entry.first ≡ before → 0 < entry.rows → place_of_row n (before + entry.rows) < 2 ^ 64 → entry_at keeps n before place bytes ≡ Ok entry
unfolding entry_at
part_there keeps n before place front rest bytes entry is at fits keep here some low =
    let part = little_bytes 4 entry.part in
    let first = little_bytes 8 entry.first in
    let rows = little_bytes 8 entry.rows in
    let one : bytes ≡ front ++ (part ++ (first ++ (rows ++ rest))) = is in
    let two : bytes ≡ (front ++ part) ++ (first ++ (rows ++ rest)) = one ∙ sym (append_assoc front part (first ++ (rows ++ rest))) in
    let three : bytes ≡ (front ++ part ++ first) ++ (rows ++ rest) = two ∙ sym (append_assoc (front ++ part) first (rows ++ rest)) in
    let four = length-append front part in
    let eight = length-append (front ++ part) first in
    rw (
      number_there 4 entry.part place keeps front (first ++ (rows ++ rest)) bytes one at (omega (arith, fits)) keep,
      number_there 8 entry.first (place + 4) (λ k. k == before) (front ++ part) (rows ++ rest) bytes two (omega (arith, at, four)) (omega (arith, here, low)) (eq-eqb entry.first before here),
      number_there 8 entry.rows (place + 12) (λ k. nat_lt 0 k && nat_lt (place_of_row n (before + k)) (2 ^ 64)) (front ++ part ++ first) rest bytes three (omega (arith, at, four, eight)) (omega (arith, low)) (both _ _ (lt-ltb _ _ some) (lt-ltb _ _ low)),
    )
    refl

tell-size : (first : ℕ) (e : Entry) (entries : List Entry) (placed : List Placed) (tell : Tell first (e ∷ entries) placed) → length placed ≡ e.rows + length tell.3
tell-size first e entries placed tell = ap length tell.4 ∙ length-append (map (placed_at e.part) tell.2) tell.3 ∙ omega (arith, length-map tell.2 (placed_at e.part), tell.5)

tell-sum : (first : ℕ) (entries : List Entry) (placed : List Placed) → Tell first entries placed → rows_of entries ≡ length placed
tell-sum first [] placed tell = sym (ap length tell)
tell-sum first (e ∷ entries) placed tell = omega (arith, sum_by-cons (λ (x : Entry). x.rows) e entries, tell-sum (first + e.rows) entries tell.3 tell.6, tell-size first e entries placed tell)

tell-at : (first : ℕ) (entries : List Entry) (placed : List Placed) (before : List Entry) (entry : Entry) (after : List Entry) → Tell first entries placed → entries ≡ before ++ entry ∷ after
    → (entry.first ≡ first + rows_of before) × (0 < entry.rows) × (rows_of before + entry.rows ≤ length placed)
tell-at first [] placed [] entry after tell is = cc is
tell-at first [] placed (b ∷ before) entry after tell is = cc is
tell-at first (x ∷ entries) placed [] entry after tell is =
    let same : x ≡ entry = cc is in
    let rows = ap (λ (e : Entry). e.rows) same in
    (omega (arith, ap (λ (e : Entry). e.first) same, tell.0), omega (arith, rows, tell.1), omega (arith, rows, tell-size first x entries placed tell))
tell-at first (x ∷ entries) placed (b ∷ before) entry after tell is =
    let same : x ≡ b = cc is in
    let rest : entries ≡ before ++ entry ∷ after = cc is in
    let rows = ap (λ (e : Entry). e.rows) same in
    let sum = sum_by-cons (λ (e : Entry). e.rows) b before in
    let more = tell-at (first + x.rows) entries tell.3 before entry after tell.6 rest in
    (omega (arith, more.0, rows, sum), more.1, omega (arith, more.2, rows, sum, tell-size first x entries placed tell))

entries_there : (head rest bytes : List ℕ) (entries : List Entry) (placed : List Placed) → AreEntries entries placed → All (λ entry. entry.part < 2 ^ 32) entries → length head ≡ 12
    → place_of_row (length entries) (length placed) < 2 ^ 64 → bytes ≡ (head ++ flat_map bytes_of_entry entries) ++ rest → each (length entries) (entry_behind (length entries) bytes) ≡ Ok entries
entries_there head rest bytes entries placed are fit long low at =
    each-there (entry_behind (length entries) bytes) entries (λ before entry after split.
    let stands : bytes ≡ (head ++ flat_map bytes_of_entry before) ++ (bytes_of_entry entry ++ (flat_map bytes_of_entry after ++ rest)) =
    at ∙ ap (λ (es : List Entry). (head ++ flat_map bytes_of_entry es) ++ rest) split ∙ entry_there bytes_of_entry head before entry after rest in
    let place : place_of_entry (length before) ≡ length (head ++ flat_map bytes_of_entry before) = omega (arith, place_there bytes_of_entry 20 length-entry head before, long) in
    let below = all_before (λ a b. a.part < b.part) entries before entry after split are.ascend in
    let all : list_all (λ other. nat_lt other.part entry.part) before ≡ true = list_all-from_AllPass _ before (λ k d within. lt-ltb _ _ (below k d within)) in
    let tell = tell-at 0 entries placed before entry after are.tell split in
    part_there (λ part. list_all (λ other. nat_lt other.part part) before) (length entries) (rows_of before) (place_of_entry (length before)) _ _ bytes entry stands place
    (all_at (λ e. e.part < 2 ^ 32) entries before entry after split fit) all (omega (arith, tell.0)) tell.1 (omega (arith, tell.2, low)))

all_right : {X : Type 0} (P : X → Type 0) (xs ys : List X) → All P (xs ++ ys) → All P ys
all_right P xs ys all k d within = rw (get_or-append-add xs ys k d) at (all (length xs + k) d (omega (arith, length-append xs ys, within)))

all_mapped : {X Y : Type 0} (P : Y → Type 0) (f : X → Y) (xs : List X) → All P (map f xs) → All (λ x. P (f x)) xs
all_mapped P f xs all k d within = rw (get_or-map f xs k d) at (all k (f d) (omega (arith, length-map xs f, within)))

-- the rows of one part after others
module _ (n : ℕ) (bytes front : List ℕ) (whole : List Placed) (pairs : AllPairs (λ a b. is_gt (placed_cmp a b) ≡ false) whole) (good : All (λ p. IsGood p.row) whole) (fit : All (λ p. RowFits p.row) whole)
    (at : bytes ≡ front ++ bytes_of_rows whole) (long : length front ≡ place_of_entry n) where
  slice_there : (part first : ℕ) (done : List Placed) (rows : List Row) (rest : List Placed) → whole ≡ done ++ (map (placed_at part) rows ++ rest) → length done ≡ first
      → each (length rows) (row_behind (place_of_row n first) bytes) ≡ Ok rows
  slice_there part first done rows rest is size =
      each-there (row_behind (place_of_row n first) bytes) rows (λ before row after split.
      let mapped = map (placed_at part) in
      let here : whole ≡ (done ++ mapped before) ++ placed_at part row ∷ (mapped after ++ rest) =
      is ∙ ap (λ (rs : List Row). done ++ (mapped rs ++ rest)) split ∙ ap (λ (ps : List Placed). done ++ (ps ++ rest)) (map-append (placed_at part) before (row ∷ after))
      ∙ ap (λ (ps : List Placed). done ++ ps) (append_assoc (mapped before) (placed_at part row ∷ mapped after) rest) ∙ sym (append_assoc done (mapped before) (placed_at part row ∷ (mapped after ++ rest))) in
      let stands : bytes ≡ (front ++ bytes_of_rows (done ++ mapped before)) ++ (bytes_of_row row ++ (bytes_of_rows (mapped after ++ rest) ++ [])) =
      at ∙ ap (λ (ps : List Placed). front ++ bytes_of_rows ps) here ∙ sym (append-nil _) ∙ entry_there (λ (p : Placed). bytes_of_row p.row) front (done ++ mapped before) (placed_at part row) (mapped after ++ rest) [] in
      let count = length-append done (mapped before) in
      let place : place_of_row n first + 28 * length before ≡ length (front ++ bytes_of_rows (done ++ mapped before)) =
      omega (arith, place_there (λ (p : Placed). bytes_of_row p.row) 28 (λ p. refl) front (done ++ mapped before), count, length-map before (placed_at part), long, size) in
      let behind = all_before (λ a b. is_gt (placed_cmp a b) ≡ false) whole (done ++ mapped before) (placed_at part row) (mapped after ++ rest) here pairs in
      let same = all_mapped (λ p. is_gt (placed_cmp p (placed_at part row)) ≡ false) (placed_at part) before (all_right (λ p. is_gt (placed_cmp p (placed_at part row)) ≡ false) done (mapped before) behind) in
      let all : list_all (λ other. is_le (row_cmp other row)) before ≡ true = list_all-from_AllPass _ before (λ k d within. row_le (placed_at part (get_or before k d)) (placed_at part row) refl (same k d within)) in
      row_there (λ r. list_all (λ other. is_le (row_cmp other r)) before) (place_of_row n first + 28 * length before) _ _ bytes row stands place
      (all_at (λ p. RowFits p.row) whole (done ++ mapped before) (placed_at part row) (mapped after ++ rest) here fit)
      (all_at (λ p. IsGood p.row) whole (done ++ mapped before) (placed_at part row) (mapped after ++ rest) here good) all)

  placed_there : (first : ℕ) (entries : List Entry) (done placed : List Placed) → Tell first entries placed → whole ≡ done ++ placed → length done ≡ first → placed_in n bytes entries ≡ Ok placed
  placed_there first [] done placed tell is size = rw tell refl
  placed_there first (e ∷ entries) done placed tell is size =
      let rows = tell.2 in
      let here : whole ≡ done ++ (map (placed_at e.part) rows ++ tell.3) = is ∙ ap (λ (ps : List Placed). done ++ ps) tell.4 in
      let slice : slice_in n bytes e ≡ Ok rows =
      ap (λ (k : ℕ). each k (row_behind (place_of_row n e.first) bytes)) (sym tell.5) ∙ ap (λ (k : ℕ). each (length rows) (row_behind (place_of_row n k) bytes)) tell.0
      ∙ slice_there e.part first done rows tell.3 here size in
      let next = placed_there (first + e.rows) entries (done ++ map (placed_at e.part) rows) tell.3 tell.6 (here ∙ sym (append_assoc done (map (placed_at e.part) rows) tell.3))
      (omega (arith, length-append done (map (placed_at e.part) rows), length-map rows (placed_at e.part), tell.5, size)) in
      rw (slice, next) (ap (λ (ps : List Placed). Ok ps) (sym tell.4))

abbrev pub bytes_of_split : List Entry → List Placed → List ℕ
bytes_of_split entries placed = (head_of_split entries ++ flat_map bytes_of_entry entries) ++ bytes_of_rows placed

head_there : (entries : List Entry) (placed : List Placed) → AreEntries entries placed → All (λ entry. entry.part < 2 ^ 32) entries → place_of_row (length entries) (length placed) < 2 ^ 64 → head_in (bytes_of_split entries placed) ≡ Ok entries
unfolding head_in
head_there entries placed are fit low =
    let word = codes "HXS1" in
    let n = little_bytes 8 (length entries) in
    let bytes = bytes_of_split entries placed in
    let rest = flat_map bytes_of_entry entries ++ bytes_of_rows placed in
    let marked : mark word bytes ≡ Ok (little_number 4 word) = item_there 4 (little_number 4) (λ found. found == little_number 4 word) (little_number 4 word) 0 [] word (n ++ rest) bytes refl refl refl refl refl in
    rw (
      marked,
      number_there 8 (length entries) 4 (λ _. true) word rest bytes refl refl (omega (arith, low)) refl,
      entries_there (head_of_split entries) (bytes_of_rows placed) bytes entries placed are fit refl low refl,
    )
    refl

-- a split file reads back
pub split_there : (entries : List Entry) (placed : List Placed) → AreEntries entries placed → All (λ entry. entry.part < 2 ^ 32) entries → length (bytes_of_split entries placed) < 2 ^ 64
    → AllPairs (λ a b. is_gt (placed_cmp a b) ≡ false) placed → All (λ p. IsGood p.row) placed → All (λ p. RowFits p.row) placed → split_in (bytes_of_split entries placed) ≡ Ok placed
split_there entries placed are fit short pairs good fits =
    let bytes = bytes_of_split entries placed in
    let front = head_of_split entries ++ flat_map bytes_of_entry entries in
    let head_size : length (head_of_split entries) ≡ 12 = refl in
    let front_size : length front ≡ place_of_entry (length entries) = omega (arith, place_there bytes_of_entry 20 length-entry (head_of_split entries) entries, head_size) in
    let size = place_there (λ (p : Placed). bytes_of_row p.row) 28 (λ p. refl) front placed in
    let low : place_of_row (length entries) (length placed) < 2 ^ 64 = omega (arith, size, front_size, short) in
    let sum = tell-sum 0 entries placed are.tell in
    let ends : nat_le (length bytes) (place_of_row (length entries) (rows_of entries)) ≡ true = le-leb _ _ (omega (arith, size, front_size, sum)) in
    split_read bytes entries placed (head_there entries placed are fit low)
    (placed_there (length entries) bytes front placed pairs good fits refl front_size 0 entries [] placed are.tell refl refl) (rw ends refl)
