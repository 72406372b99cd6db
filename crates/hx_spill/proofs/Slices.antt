-- Slices of a split file, one part after another.
use Rattle.std.proofs.Common.{◌≡◌, ◌∙◌, ◌+◌, ◌<◌, ◌∷◌, ◌++◌, ◌==◌, [], ℕ, List, true, false, Ok, Err, Some, None, length, map, refl, sym, ap, arith, inl, inr, get_or, take, drop, nat_le, nat_lt}
use Rattle.std.specs.List.{filter, list_all}
use Rattle.std.specs.Prelude.{⊤}
use Rattle.std.proofs.lemmas.Bool.{cases_Bool, eqb-true}
use Rattle.std.proofs.lemmas.List.{append-nil, drop_more, map-append, take_more}
use Rattle.std.proofs.lemmas.List.Elements.{filter-append}
use Rattle.hx_base.proofs.RowValues.{value-of}
use Rattle.hx_base.specs.Columns.{◌>>=◌}
use Rattle.hx_base.specs.declared.row.Row.{Row}
use Rattle.hx_base.specs.declared.refusal.SpillRefusal.{SpillRefusal}
use Rattle.hx_spill.specs.Items.{Read, each, ended}
use Rattle.hx_spill.specs.Splits.{IsHead, found_in, search_head, entry_at, entry_behind, entry_of, head_in, looked_at, place_of_entry, place_of_row, placed_at, placed_in, rows_looked_at, rows_of, slice, slice_in, slice_read, split_in}
use Rattle.hx_spill.specs.declared.split.Placed.{Placed}
use Rattle.hx_spill.specs.declared.split.head.Entry.{Entry}
use Rattle.hx_spill.specs.declared.split.head.Head.{Head}
use Rattle.hx_spill.proofs.Each.{each-length, each-next, each-take}
use Rattle.hx_spill.proofs.Heads.{AreApart, are_apart, same_entry}

pub looked-ok : {X : Type 0} (read : Read X) → looked_at read ≡ Ok tt → (x : X) × (read ≡ Ok x)
looked-ok (Ok x) is = (x, refl)
looked-ok (Err refused) is = cc is

pub looked-err : {X : Type 0} (read : Read X) (refused : SpillRefusal) → looked_at read ≡ Err refused → read ≡ Err refused
looked-err (Ok x) refused is = cc is
looked-err (Err other) refused is = cc is

looked-then : {X Y : Type 0} (read : Read X) (f : X → Y) → looked_at (read >>= λ x. Ok (f x)) ≡ looked_at read
looked-then (Ok x) f = refl
looked-then (Err refused) f = refl

pub passed : (n : ℕ) (bytes : List ℕ) (entry : Entry) (entries : List Entry) → looked_at (slice_in n bytes entry) ≡ Ok tt → looked_at (placed_in n bytes (entry ∷ entries)) ≡ looked_at (placed_in n bytes entries)
passed n bytes entry entries is =
    let rows = looked-ok (slice_in n bytes entry) is in
    rw rows.1 (looked-then (placed_in n bytes entries) (λ more. map (placed_at entry.part) rows.0 ++ more))

pub stopped : (n : ℕ) (bytes : List ℕ) (entry : Entry) (entries : List Entry) (refused : SpillRefusal) → looked_at (slice_in n bytes entry) ≡ Err refused → looked_at (placed_in n bytes (entry ∷ entries)) ≡ Err refused
stopped n bytes entry entries refused is = rw (looked-err (slice_in n bytes entry) refused is) refl

pub looked_in : (n : ℕ) (bytes : List ℕ) (entries : List Entry) → head_in bytes ≡ Ok entries → length entries ≡ n → rows_looked_at bytes ≡ looked_at (placed_in n bytes entries)
looked_in n bytes entries head number = rw (head, number) refl

-- the next entry, as it is read again
pub record IsNext (i n : ℕ) (bytes : List ℕ) (entries : List Entry) (entry : Entry) : Type 0 where
  pub taken : take (i + 1) entries ≡ take i entries ++ entry ∷ []
  pub left : drop i entries ≡ entry ∷ drop (i + 1) entries

pub is_next : (i n least at before : ℕ) (bytes : List ℕ) (entries : List Entry) (entry : Entry) → i < n → each n (entry_behind n bytes) ≡ Ok entries → at ≡ place_of_entry i → before ≡ rows_of (take i entries)
    → ((part : ℕ) → list_all (λ other. nat_lt other.part part) (take i entries) ≡ nat_le least part) → Ok entry ≡ entry_at (λ part. nat_le least part) n before at bytes → IsNext i n bytes entries entry
is_next i n least at before bytes entries entry lt read place rows below is =
    let size = each-length (entry_behind n bytes) n entries read in
    let part = each-take (entry_behind n bytes) n i entries (omega arith) read in
    let next = each-next (entry_behind n bytes) n i entries entry lt read in
    let same = same_entry i n least at before bytes (take i entries) part place rows below in
    let here : get_or entries i entry ≡ entry = cc (sym next ∙ same ∙ sym is) in
    record {
      taken = take_more entries i entry (omega (arith, size)) ∙ ap (λ (e : Entry). take i entries ++ e ∷ []) here;
      left = drop_more entries i entry (omega (arith, size)) ∙ ap (λ (e : Entry). e ∷ drop (i + 1) entries) here;
    }

-- it can't fail
pub no_refusal : (i n least at before : ℕ) (bytes : List ℕ) (entries : List Entry) (refused : SpillRefusal) → i < n → each n (entry_behind n bytes) ≡ Ok entries → at ≡ place_of_entry i → before ≡ rows_of (take i entries)
    → ((part : ℕ) → list_all (λ other. nat_lt other.part part) (take i entries) ≡ nat_le least part) → Err refused ≡ entry_at (λ part. nat_le least part) n before at bytes → ⊥
no_refusal i n least at before bytes entries refused lt read place rows below is =
    let some : Entry = record { part = 0; first = 0; rows = 0 } in
    let part = each-take (entry_behind n bytes) n i entries (omega arith) read in
    let next = each-next (entry_behind n bytes) n i entries some lt read in
    let same = same_entry i n least at before bytes (take i entries) part place rows below in
    cc (sym next ∙ same ∙ sym is)

-- the rows of a part among those of one part
of_part : (part p : ℕ) (rows : List Row) → (p == part) ≡ true → slice part (map (placed_at p) rows) ≡ rows
of_part part p [] is = refl
of_part part p (row ∷ rows) is = rw is (ap (λ (rs : List Row). row ∷ rs) (of_part part p rows is))

of_other : (part p : ℕ) (rows : List Row) → (p == part) ≡ false → slice part (map (placed_at p) rows) ≡ []
of_other part p [] is = refl
of_other part p (row ∷ rows) is = rw is (of_other part p rows is)

slice-append : (part : ℕ) (xs ys : List Placed) → slice part (xs ++ ys) ≡ slice part xs ++ slice part ys
slice-append part xs ys =
    ap (λ (ps : List Placed). map (λ p. p.row) ps) (filter-append (λ p. p.part == part) xs ys) ∙ map-append (λ (p : Placed). p.row) (filter (λ p. p.part == part) xs) (filter (λ p. p.part == part) ys)

pub slice_none : (n : ℕ) (bytes : List ℕ) (entries : List Entry) (placed : List Placed) (part : ℕ) → placed_in n bytes entries ≡ Ok placed → entry_of part entries ≡ None → slice part placed ≡ []
slice_none n bytes [] placed part read none = let is : [] ≡ placed = cc read in rw (← is) refl
slice_none n bytes (entry ∷ entries) placed part read none =
    let rows = value-of (slice_in n bytes entry) _ placed read in
    let more = value-of (placed_in n bytes entries) _ placed rows.2 in
    let made : map (placed_at entry.part) rows.0 ++ more.0 ≡ placed = cc more.2 in
    elim (cases_Bool (entry.part == part)) [
      | inl is ↦ cc (rw is at none)
      | inr not ↦ rw (← made, slice-append part (map (placed_at entry.part) rows.0) more.0, of_other part entry.part rows.0 not) (slice_none n bytes entries more.0 part more.1 (rw not at none))
    ]

pub slice_found : (n : ℕ) (bytes : List ℕ) (entries : List Entry) (placed : List Placed) (part : ℕ) (found : Entry) → placed_in n bytes entries ≡ Ok placed → AreApart entries → entry_of part entries ≡ Some found
    → slice_in n bytes found ≡ Ok (slice part placed)
slice_found n bytes [] placed part found read apart is = cc is
slice_found n bytes (entry ∷ entries) placed part found read apart is =
    let rows = value-of (slice_in n bytes entry) _ placed read in
    let more = value-of (placed_in n bytes entries) _ placed rows.2 in
    let made : map (placed_at entry.part) rows.0 ++ more.0 ≡ placed = cc more.2 in
    let parts = ap (slice part) (sym made) ∙ slice-append part (map (placed_at entry.part) rows.0) more.0 in
    elim (cases_Bool (entry.part == part)) [
      | inl here ↦
          let same : entry ≡ found = cc (rw here at is) in
          let none = slice_none n bytes entries more.0 part more.1 (ap (λ k. entry_of k entries) (sym (eqb-true entry.part part here)) ∙ apart.0) in
          let all : slice part placed ≡ rows.0 = parts ∙ rw (of_part part entry.part rows.0 here, none) (append-nil rows.0) in
          rw (← same, all) rows.1
      | inr other ↦
          let rest : slice part placed ≡ slice part more.0 = parts ∙ rw (of_other part entry.part rows.0 other) refl in
          rw rest (slice_found n bytes entries more.0 part found more.1 apart.1 (rw other at is))
    ]

pub split_read : (bytes : List ℕ) (entries : List Entry) (placed : List Placed) → head_in bytes ≡ Ok entries → placed_in (length entries) bytes entries ≡ Ok placed
    → ended (place_of_row (length entries) (rows_of entries)) bytes ≡ Ok tt → split_in bytes ≡ Ok placed
unfolding split_in
split_read bytes entries placed head read ends = rw (head, read, ends) refl

-- what is known of a split file once all of it was looked at
pub record Known (part : ℕ) (bytes : List ℕ) (head : Head) : Type 0 where
  pub entries : List Entry
  pub placed : List Placed
  pub apart : AreApart entries
  pub found : entry_of part entries ≡ head.found
  pub read : placed_in head.entries bytes entries ≡ Ok placed
  pub whole : slice_read part bytes ≡ Ok (slice part placed)

pub known : (part : ℕ) (bytes : List ℕ) (head : Head) (a b : ⊤) → Ok head ≡ search_head part bytes → IsHead head.entries bytes → Ok a ≡ rows_looked_at bytes → Ok b ≡ ended (place_of_row head.entries head.rows) bytes → Known part bytes head
known part bytes head a b searched is rows ends =
    let number = each-length (entry_behind head.entries bytes) head.entries is.entries is.read in
    let found : search_head part bytes ≡ Ok (found_in part is.entries) = rw is.head refl in
    let same : found_in part is.entries ≡ head = cc (sym found ∙ sym searched) in
    let looked = looked-ok (placed_in head.entries bytes is.entries) (sym (looked_in head.entries bytes is.entries is.head number) ∙ sym rows) in
    let behind : place_of_row (length is.entries) (rows_of is.entries) ≡ place_of_row head.entries head.rows = ap (λ (h : Head). place_of_row h.entries h.rows) same in
    let split = split_read bytes is.entries looked.0 is.head (ap (λ n. placed_in n bytes is.entries) number ∙ looked.1) (ap (λ p. ended p bytes) behind ∙ sym ends) in
    record {
      entries = is.entries;
      placed = looked.0;
      apart = are_apart head.entries head.entries bytes is.entries is.read;
      found = ap (λ (h : Head). h.found) same;
      read = looked.1;
      whole = rw split refl;
    }
