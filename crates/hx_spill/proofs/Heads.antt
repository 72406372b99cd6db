-- Heads of split files: entries that come by ascending parts.
use Rattle.std.proofs.Common.{◌≡◌, ◌∙◌, ◌+◌, ◌^◌, ◌≤◌, ◌∷◌, ◌++◌, ◌==◌, [], ℕ, List, Bool, true, false, Ok, Err, Option, Some, None, if◌then◌else◌, length, refl, sym, ap, arith, nat_le, nat_lt, ◌&&◌, zero, suc}
use Rattle.std.specs.List.{find, list_all}
use Rattle.std.specs.Option.{option_or}
use Rattle.std.specs.Prelude.{IfSome, codes, ⊤}
use Rattle.std.proofs.Math.Path.{fun_ext}
use Rattle.std.proofs.lemmas.Bool.{and_parts, eqb-true, ltb-true, ne_eqb}
use Rattle.hx_base.proofs.RowValues.{value-of}
use Rattle.std.proofs.lemmas.Bool.Decides.{nat_tests}
use Rattle.std.proofs.lemmas.List.Folds.{find-append}
use Rattle.std.proofs.lemmas.List.Sums.{sum_by-append}
use Rattle.hx_base.specs.declared.refusal.SpillRefusal.{SpillRefusal}
use Rattle.byteorder.specs.Endian.{little_number}
use Rattle.hx_spill.specs.Items.{each, mark, number, whole}
use Rattle.hx_spill.specs.Splits.{entry_at, entry_behind, entry_of, found_in, head_in, place_of_entry, place_of_row, rows_of, search_entries}
use Rattle.hx_spill.specs.declared.split.head.Entry.{Entry}
use Rattle.hx_spill.specs.declared.split.head.Head.{Head}
use Rattle.hx_spill.proofs.Each.{each-length, ends-more, item-keeps}

-- what comes behind some entries is what begins at the part behind their last
pub same_entry : (i n least at before : ℕ) (bytes : List ℕ) (entries : List Entry) → each i (entry_behind n bytes) ≡ Ok entries → at ≡ place_of_entry i → before ≡ rows_of entries
    → ((part : ℕ) → list_all (λ other. nat_lt other.part part) entries ≡ nat_le least part) → entry_behind n bytes entries ≡ entry_at (λ part. nat_le least part) n before at bytes
same_entry i n least at before bytes entries read place rows below =
    let number = each-length (entry_behind n bytes) i entries read in
    let here : place_of_entry (length entries) ≡ at = omega (arith, number, place) in
    ap (λ (keeps : ℕ → Bool). entry_at keeps n (rows_of entries) (place_of_entry (length entries)) bytes) (fun_ext below)
    ∙ ap (λ (p : ℕ). entry_at (λ part. nat_le least part) n (rows_of entries) p bytes) here
    ∙ ap (λ (k : ℕ). entry_at (λ part. nat_le least part) n k at bytes) (sym rows)

pub next_below : (entries : List Entry) (entry : Entry) (least : ℕ) → least ≤ entry.part → ((part : ℕ) → list_all (λ other. nat_lt other.part part) entries ≡ nat_le least part)
    → (part : ℕ) → list_all (λ other. nat_lt other.part part) (entries ++ entry ∷ []) ≡ nat_le (entry.part + 1) part
next_below entries entry least le below = ends-more (λ (other : Entry) p. nat_lt other.part p) (λ other. other.part + 1) (λ x p. grind (arith, nat_tests)) entries entry least (omega arith) below

pub next_rows : (entries : List Entry) (entry : Entry) → rows_of (entries ++ entry ∷ []) ≡ rows_of entries + entry.rows
next_rows entries entry = sum_by-append (λ (e : Entry). e.rows) entries (entry ∷ []) ∙ omega arith

alone : (part : ℕ) (entry : Entry) → find (λ e. e.part == part) (entry ∷ []) ≡ (if entry.part == part then Some entry else None)
alone part entry = refl

pub next_found : (part : ℕ) (entries : List Entry) (entry : Entry) → entry_of part (entries ++ entry ∷ []) ≡ option_or (entry_of part entries) (if entry.part == part then Some entry else None)
next_found part entries entry = find-append (λ e. e.part == part) entries (entry ∷ []) ∙ ap (λ (o : Option Entry). option_or (entry_of part entries) o) (alone part entry)

pub either_fits : (P : Entry → Type 0) (found : Option Entry) (entry : Entry) (is : Bool) → IfSome found P → P entry → IfSome (option_or found (if is then Some entry else None)) P
either_fits P (Some e) entry is first second = first
either_fits P None entry true first second = second
either_fits P None entry false first second = first

pub more_fits : (more rows : ℕ) (found : Option Entry) → IfSome found (λ e. e.first + e.rows ≤ rows) → IfSome found (λ e. e.first + e.rows ≤ rows + more)
more_fits more rows (Some e) fits = omega (arith, fits)
more_fits more rows None fits = fits

pub found_entries : (part n : ℕ) (bytes : List ℕ) (entries : List Entry) → each n (entry_behind n bytes) ≡ Ok entries → search_entries part n bytes ≡ Ok (found_in part entries)
found_entries part n bytes entries read = rw read refl

pub refused_entries : (part n : ℕ) (bytes : List ℕ) (refused : SpillRefusal) → each n (entry_behind n bytes) ≡ Err refused → search_entries part n bytes ≡ Err refused
refused_entries part n bytes refused read = rw read refl

pub head_is : (head : Head) (part : ℕ) (entries : List Entry) → head.entries ≡ length entries → head.rows ≡ rows_of entries → head.found ≡ entry_of part entries → head ≡ found_in part entries
head_is head part entries count rows found = rw (← count, ← rows, ← found) refl

pub head_read : (bytes : List ℕ) (m n : ℕ) (entries : List Entry) → Ok m ≡ mark (codes "HXS1") bytes → Ok n ≡ whole 8 (little_number 8) 4 bytes → each n (entry_behind n bytes) ≡ Ok entries → head_in bytes ≡ Ok entries
unfolding head_in
head_read bytes m n entries marked number read = rw (← marked, ← number, read) refl

-- an entry that was read keeps its rules
pub entry_keeps : (keeps : ℕ → Bool) (n before place : ℕ) (bytes : List ℕ) (entry : Entry) → entry_at keeps n before place bytes ≡ Ok entry → (keeps entry.part ≡ true) × (entry.first ≡ before)
unfolding entry_at
entry_keeps keeps n before place bytes entry is =
    let part = value-of (number 4 keeps place bytes) _ entry is in
    let first = value-of (number 8 (λ k. k == before) (place + 4) bytes) _ entry part.2 in
    let rows = value-of (number 8 (λ k. nat_lt 0 k && nat_lt (place_of_row n (before + k)) (2 ^ 64)) (place + 12) bytes) _ entry first.2 in
    let made : record { part = part.0; first = first.0; rows = rows.0 } ≡ entry = cc rows.2 in
    let same_part : part.0 ≡ entry.part = ap (λ (e : Entry). e.part) made in
    let same_first : first.0 ≡ entry.first = ap (λ (e : Entry). e.first) made in
    (rw (← same_part) (item-keeps 4 (little_number 4) keeps place bytes part.0 part.1), rw (← same_first) (eqb-true _ _ (item-keeps 8 (little_number 8) (λ k. k == before) (place + 4) bytes first.0 first.1)))

-- the entries of other parts are behind one
abbrev pub AreApart : List Entry → Type 0
AreApart [] = ⊤
AreApart (entry ∷ entries) = (entry_of entry.part entries ≡ None) × AreApart entries

apart-more : (entries : List Entry) (entry : Entry) → list_all (λ other. nat_lt other.part entry.part) entries ≡ true → AreApart entries → AreApart (entries ++ entry ∷ [])
apart-more [] entry below apart = (refl, tt)
apart-more (first ∷ entries) entry below apart =
    let tests = and_parts (nat_lt first.part entry.part) (list_all (λ other. nat_lt other.part entry.part) entries) below in
    let less = ltb-true _ _ tests.0 in
    let other : (entry.part == first.part) ≡ false = ne_eqb entry.part first.part (λ e. omega arith) in
    (next_found first.part entries entry ∙ rw (apart.0, other) refl, apart-more entries entry tests.1 apart.1)

pub are_apart : (i n : ℕ) (bytes : List ℕ) (entries : List Entry) → each i (entry_behind n bytes) ≡ Ok entries → AreApart entries
unfolding each
are_apart zero n bytes entries read = let none : [] ≡ entries = cc read in rw (← none) tt
are_apart (suc i) n bytes entries read =
    let before = value-of (each i (entry_behind n bytes)) _ entries read in
    let next = value-of (entry_behind n bytes before.0) _ entries before.2 in
    let made : before.0 ++ next.0 ∷ [] ≡ entries = cc next.2 in
    let keeps = entry_keeps (λ part. list_all (λ other. nat_lt other.part part) before.0) n (rows_of before.0) (place_of_entry (length before.0)) bytes next.0 next.1 in
    rw (← made) (apart-more before.0 next.0 keeps.0 (are_apart i n bytes before.0 before.1))
