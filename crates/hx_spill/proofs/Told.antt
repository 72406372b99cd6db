-- A head that ends with its last entry tells where each part's rows stand.
use Rattle.std.proofs.Common.{◌≡◌, ◌∙◌, ◌+◌, ◌^◌, ◌≤◌, ◌++◌, ◌&&◌, ◌==◌, ℕ, zero, suc, List, Bool, true, false, Ok, Option, Some, None, length, refl, sym, ap, arith, take, drop, inl, inr, nat_le, nat_lt}
use Rattle.std.specs.List.{list_all}
use Rattle.std.specs.Option.{option_map}
use Rattle.std.specs.Prelude.{codes}
use Rattle.std.proofs.lemmas.Bool.{cases_lt, le-leb, le-ltb, lt-ltb}
use Rattle.std.proofs.lemmas.List.{drop-append-le, length-append, length-drop, length-take, take-append-drop}
use Rattle.byteorder.specs.Endian.{little_number}
use Rattle.byteorder.specs.Numbers.{little_from-append}
use Rattle.hx_base.proofs.RowValues.{value-of}
use Rattle.hx_spill.specs.Items.{each, ended, mark, number}
use Rattle.hx_spill.specs.Splits.{HasHead, IsTold, entry_at, entry_behind, entry_of, head_in, place_of, place_of_entry, place_of_row, placed_in, rows_of, slice, slice_place, split_in}
use Rattle.hx_spill.specs.declared.split.Placed.{Placed}
use Rattle.hx_spill.specs.declared.split.head.Entry.{Entry}
use Rattle.hx_spill.proofs.Each.{each-length}
use Rattle.hx_spill.proofs.Heads.{are_apart}
use Rattle.hx_spill.proofs.SliceRows.{each_stands}
use Rattle.hx_spill.proofs.Slices.{slice_found, slice_none}

-- a number that ends within the front is read from it alone
pub number_front : (w : ℕ) (keeps : ℕ → Bool) (place : ℕ) (front rest : List ℕ) → place + w ≤ length front → number w keeps place (front ++ rest) ≡ number w keeps place front
number_front w keeps place front rest within =
    let there : nat_lt (length front) (place + w) ≡ false = le-ltb _ _ within in
    let also : nat_lt (length (front ++ rest)) (place + w) ≡ false = le-ltb _ _ (omega (arith, within, length-append front rest)) in
    let value : little_number w (drop place (front ++ rest)) ≡ little_number w (drop place front) =
    ap (little_number w) (drop-append-le place front rest (omega (arith, within))) ∙ little_from-append w (drop place front) rest (omega (arith, length-drop place front, within)) in
    rw (there, also, value) refl

entry_front : (keeps : ℕ → Bool) (n before place : ℕ) (front rest : List ℕ) → place + 20 ≤ length front → entry_at keeps n before place (front ++ rest) ≡ entry_at keeps n before place front
unfolding entry_at
entry_front keeps n before place front rest within =
    rw (
      number_front 4 keeps place front rest (omega (arith, within)),
      number_front 8 (λ k. k == before) (place + 4) front rest (omega (arith, within)),
      number_front 8 (λ k. nat_lt 0 k && nat_lt (place_of_row n (before + k)) (2 ^ 64)) (place + 12) front rest (omega (arith, within)),
    )
    refl

each_front : (i n : ℕ) (front rest : List ℕ) (entries : List Entry) → place_of_entry i ≤ length front → each i (entry_behind n (front ++ rest)) ≡ Ok entries → each i (entry_behind n front) ≡ Ok entries
unfolding each
each_front zero n front rest entries within read = read
each_front (suc i) n front rest entries within read =
    let before = value-of (each i (entry_behind n (front ++ rest))) _ entries read in
    let next = value-of (entry_behind n (front ++ rest) before.0) _ entries before.2 in
    let number = each-length (entry_behind n (front ++ rest)) i before.0 before.1 in
    let again = each_front i n front rest before.0 (omega (arith, within)) before.1 in
    let same = entry_front (λ part. list_all (λ other. nat_lt other.part part) before.0) n (rows_of before.0) (place_of_entry (length before.0)) front rest (omega (arith, number, within)) in
    rw (again, sym same ∙ next.1) next.2

pub head_front : (front rest : List ℕ) (entries : List Entry) → length front ≡ place_of_entry (length entries) → head_in (front ++ rest) ≡ Ok entries → head_in front ≡ Ok entries
unfolding head_in
head_front front rest entries size read =
    let marked = value-of (mark (codes "HXS1") (front ++ rest)) _ entries read in
    let n = value-of (number 8 (λ _. true) 4 (front ++ rest)) _ entries marked.2 in
    let count = each-length (entry_behind n.0 (front ++ rest)) n.0 entries n.2 in
    rw (
      sym (number_front 4 (λ found. found == little_number 4 (codes "HXS1")) 0 front rest (omega (arith, size))) ∙ marked.1,
      sym (number_front 8 (λ _. true) 4 front rest (omega (arith, size))) ∙ n.1,
      each_front n.0 n.0 front rest entries (omega (arith, size, count)) n.2,
    )
    refl

told : (n : ℕ) (bytes : List ℕ) (entries : List Entry) (placed : List Placed) (part : ℕ) (found : Option Entry) → placed_in n bytes entries ≡ Ok placed → each n (entry_behind n bytes) ≡ Ok entries → entry_of part entries ≡ found
    → IsTold bytes (slice part placed) (option_map (place_of n) found)
told n bytes entries placed part None read head is = slice_none n bytes entries placed part read is
told n bytes entries placed part (Some entry) read head is =
    let rows = slice_found n bytes entries placed part entry read (are_apart n n bytes entries head) is in
    record {
      count = each-length _ entry.rows (slice part placed) rows;
      each_row = λ i d lt. each_stands entry.rows (place_of_row n entry.first) bytes (slice part placed) rows i d lt;
    }

-- what a whole file is made of
pub parts : (bytes : List ℕ) (placed : List Placed) → split_in bytes ≡ Ok placed → (entries : List Entry) × (head_in bytes ≡ Ok entries) × (placed_in (length entries) bytes entries ≡ Ok placed)
unfolding split_in
parts bytes placed is =
    let entries = value-of (head_in bytes) _ placed is in
    let read = value-of (placed_in (length entries.0) bytes entries.0) _ placed entries.2 in
    let ends = value-of (ended (place_of_row (length entries.0) (rows_of entries.0)) bytes) _ placed read.2 in
    (entries.0, entries.1, read.1 ∙ ends.2)

-- the entries of a head, which stand in the bytes
pub entries_in : (bytes : List ℕ) (entries : List Entry) → head_in bytes ≡ Ok entries → each (length entries) (entry_behind (length entries) bytes) ≡ Ok entries
unfolding head_in
entries_in bytes entries is =
    let marked = value-of (mark (codes "HXS1") bytes) _ entries is in
    let n = value-of (number 8 (λ _. true) 4 bytes) _ entries marked.2 in
    let count = each-length (entry_behind n.0 bytes) n.0 entries n.2 in
    rw count n.2

whole_size : (w place : ℕ) (bytes : List ℕ) (keeps : ℕ → Bool) (x : ℕ) → number w keeps place bytes ≡ Ok x → place + w ≤ length bytes
whole_size w place bytes keeps x is =
    elim (cases_lt (length bytes) (place + w)) [
      | inl short ↦ let cut : nat_lt (length bytes) (place + w) ≡ true = lt-ltb _ _ short in cc (rw cut at is)
      | inr there ↦ there
    ]

entry_size : (keeps : ℕ → Bool) (n before place : ℕ) (bytes : List ℕ) (entry : Entry) → entry_at keeps n before place bytes ≡ Ok entry → place + 20 ≤ length bytes
unfolding entry_at
entry_size keeps n before place bytes entry is =
    let part = value-of (number 4 keeps place bytes) _ entry is in
    let first = value-of (number 8 (λ k. k == before) (place + 4) bytes) _ entry part.2 in
    let rows = value-of (number 8 (λ k. nat_lt 0 k && nat_lt (place_of_row n (before + k)) (2 ^ 64)) (place + 12) bytes) _ entry first.2 in
    omega (arith, whole_size 8 (place + 12) bytes _ rows.0 rows.1)

pub entries_within : (i n : ℕ) (bytes : List ℕ) (entries : List Entry) → 12 ≤ length bytes → each i (entry_behind n bytes) ≡ Ok entries → place_of_entry i ≤ length bytes
unfolding each
entries_within zero n bytes entries long read = long
entries_within (suc i) n bytes entries long read =
    let before = value-of (each i (entry_behind n bytes)) _ entries read in
    let next = value-of (entry_behind n bytes before.0) _ entries before.2 in
    let number = each-length (entry_behind n bytes) i before.0 before.1 in
    omega (arith, number, entry_size _ n (rows_of before.0) (place_of_entry (length before.0)) bytes next.0 next.1)

pub head_within : (bytes : List ℕ) (entries : List Entry) → head_in bytes ≡ Ok entries → 12 ≤ length bytes
unfolding head_in
head_within bytes entries is =
    let marked = value-of (mark (codes "HXS1") bytes) _ entries is in
    let n = value-of (number 8 (λ _. true) 4 bytes) _ entries marked.2 in
    whole_size 8 4 bytes (λ _. true) n.0 n.1

pub has_head : (bytes : List ℕ) (placed : List Placed) → split_in bytes ≡ Ok placed → HasHead bytes placed
unfolding slice_place
has_head bytes placed is =
    let p = parts bytes placed is in
    let n = length p.0 in
    let within : place_of_entry n ≤ length bytes = entries_within n n bytes p.0 (head_within bytes p.0 p.1) (entries_in bytes p.0 p.1) in
    let size : length (take (place_of_entry n) bytes) ≡ place_of_entry n = omega (arith, length-take (place_of_entry n) bytes, within) in
    let head = head_front (take (place_of_entry n) bytes) (drop (place_of_entry n) bytes) p.0 size (ap head_in (take-append-drop (place_of_entry n) bytes) ∙ p.1) in
    let ends : nat_le (length (take (place_of_entry n) bytes)) (place_of_entry n) ≡ true = le-leb _ _ (omega (arith, size)) in
    record {
      n = n;
      within = within;
      tells = λ part. (option_map (place_of n) (entry_of part p.0), rw (head, ends) refl, told n bytes p.0 placed part (entry_of part p.0) p.2 (entries_in bytes p.0 p.1) refl);
    }
