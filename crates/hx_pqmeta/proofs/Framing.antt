-- A file with a footer, taken apart and put together.
use Rattle.std.proofs.Common.{◌≡◌, ℕ, ◌+◌, ◌-◌, ◌<◌, ◌≤◌, ◌^◌, List, [], ◌∷◌, ◌++◌, length, take, drop, get_or, Bool, true, false, nat_eq, Result, Ok, Err, cond, inl, inr, refl, sym, ap, subst, ◌∙◌, append_assoc, arith, length-append}
use Rattle.std.specs.Prelude.{nat_le}
use Rattle.std.specs.Int.{w32, from_le_bytes, to_le_bytes}
use Rattle.std.specs.Cmp.Lexicographic.{pointwise}
use Rattle.std.specs.List.{starts_with, ends_with}
use Rattle.std.proofs.lemmas.Bool.Decides.{nat_tests}
use Rattle.std.proofs.lemmas.Bool.{cases_lt}
use Rattle.std.proofs.lemmas.List.{take-append-drop, drop-drop, length-take, length-take-le, length-drop, get_or_past, drop_at, take_at, get_or-take, get_or-drop}
use Rattle.std.proofs.lemmas.Nat.{le_bytes_4, from_le_bytes-to_le_bytes_4}
use Rattle.hx_thrift.specs.Texts.{Text}
use Rattle.hx_pqmeta.specs.declared.refusal.PqRefusal.{PqRefusal}
use Rattle.hx_pqmeta.specs.declared.refusal.PqRefusal.TheVariants.{NotParquet}
use Rattle.hx_pqmeta.specs.Footers.{magic, footer_len, is_parquet, footer_text}
use Rattle.hx_pqmeta.specs.Files.{framed}

same_bytes : (xs ys : List ℕ) → pointwise nat_eq xs ys ≡ true → ys ≡ xs
same_bytes [] [] is = refl
same_bytes [] (y ∷ ys) is = absurd cc
same_bytes (x ∷ xs) [] is = absurd cc
same_bytes (x ∷ xs) (y ∷ ys) is =
    let first : y ≡ x = grind (arith, nat_tests) in
    let others : pointwise nat_eq xs ys ≡ true = grind (arith, nat_tests) in
    rw (first, same_bytes xs ys others) refl

-- what the test of a file says
record Marked (file : List ℕ) : Type 0 where
  pub long : 12 ≤ length file
  pub first : take 4 file ≡ magic
  pub last : drop (length file - 4) file ≡ magic
  pub within : footer_len file + 12 ≤ length file

marked : (file : List ℕ) → is_parquet file ≡ true → Marked file
marked file is =
    let long : 12 ≤ length file = grind (arith, nat_tests) in
    let first : pointwise nat_eq magic (take 4 file) ≡ true = grind arith in
    let last : pointwise nat_eq magic (drop (length file - 4) file) ≡ true = grind arith in
    let fits : footer_len file ≤ length file - 12 = grind (arith, nat_tests) in
    record { long = long; first = same_bytes magic (take 4 file) first; last = same_bytes magic (drop (length file - 4) file) last; within = omega arith }

chosen : (test : Bool) (text found : Text) → (cond {A = Result Text PqRefusal} test (Ok text) (Err NotParquet)) ≡ Ok found → (test ≡ true) × (text ≡ found)
chosen true text found is = (refl, cc)
chosen false text found is = absurd cc

part : (i n : ℕ) (xs : List ℕ) → drop i xs ≡ take n (drop i xs) ++ drop (i + n) xs
part i n xs = sym (take-append-drop n (drop i xs)) ∙ ap (λ rest. take n (drop i xs) ++ rest) (drop-drop n i xs)

-- a file whose footer has this place and length
parts_of : (file le : List ℕ) (start len : ℕ) → start + len + 8 ≡ length file → 4 ≤ start → take 4 file ≡ magic → drop (length file - 4) file ≡ magic → take 4 (drop (length file - 8) file) ≡ le
    → file ≡ magic ++ (take (start - 4) (drop 4 file) ++ (take len (drop start file) ++ (le ++ magic)))
parts_of file le start len sum low first last le_is =
    let behind_mark : 4 + (start - 4) ≡ start = omega arith in
    let behind_footer : start + len ≡ length file - 8 = omega arith in
    let behind_len : length file - 8 + 4 ≡ length file - 4 = omega arith in
    let one : file ≡ magic ++ drop 4 file = sym (take-append-drop 4 file) ∙ ap (λ front. front ++ drop 4 file) first in
    let two : drop 4 file ≡ take (start - 4) (drop 4 file) ++ drop start file = part 4 (start - 4) file ∙ ap (λ i. take (start - 4) (drop 4 file) ++ drop i file) behind_mark in
    let three : drop start file ≡ take len (drop start file) ++ drop (length file - 8) file = part start len file ∙ ap (λ i. take len (drop start file) ++ drop i file) behind_footer in
    let four : drop (length file - 8) file ≡ le ++ magic =
    part (length file - 8) 4 file ∙ (ap (λ front. front ++ drop (length file - 8 + 4) file) le_is ∙ (ap (λ i. le ++ drop i file) behind_len ∙ ap (λ rest. le ++ rest) last)) in
    one ∙ ap (λ rest. magic ++ rest) (two ∙ ap (λ rest. take (start - 4) (drop 4 file) ++ rest) (three ∙ ap (λ rest. take len (drop start file) ++ rest) four))

four_bytes : (bytes : List ℕ) → ((i : ℕ) → get_or bytes i 0 < 256) → from_le_bytes w32 bytes < 2 ^ 32
four_bytes bytes are_bytes = omega (arith, are_bytes 0, are_bytes 1, are_bytes 2, are_bytes 3)

some_of : (i n : ℕ) (file : List ℕ) → ((k : ℕ) → get_or file k 0 < 256) → (k : ℕ) → get_or (take n (drop i file)) k 0 < 256
some_of i n file are_bytes k = elim (cases_lt k n) [
  | inl less ↦ rw (get_or-take n (drop i file) k 0 less, get_or-drop i file k 0) (are_bytes (i + k))
  | inr past ↦ rw (get_or_past (take n (drop i file)) k 0 (omega (arith, length-take n (drop i file), past))) (omega arith)
]

nested : (a b c d e : List ℕ) → a ++ (b ++ (c ++ (d ++ e))) ≡ a ++ b ++ c ++ d ++ e
nested a b c d e = simp append_assoc

apart : (file : List ℕ) (len : ℕ) → Marked file → len ≡ footer_len file → ((i : ℕ) → get_or file i 0 < 256)
    → (pages : List ℕ) × (length file - 8 - len ≡ 4 + length pages) × (length (take len (drop (length file - 8 - len) file)) < 2 ^ 32) × (file ≡ framed pages (take len (drop (length file - 8 - len) file)))
apart file len m is are_bytes =
    let start = length file - 8 - len in
    let fits = m.within in
    let low : 4 ≤ start = omega (arith, is, fits) in
    let long : len ≤ length (drop start file) = rw (length-drop start file) (omega (arith, is, fits)) in
    let footer_is : length (take len (drop start file)) ≡ len = length-take-le len (drop start file) long in
    let le = take 4 (drop (length file - 8) file) in
    let le_long : 4 ≤ length (drop (length file - 8) file) = rw (length-drop (length file - 8) file) (omega (arith, m.long)) in
    let bytes = some_of (length file - 8) 4 file are_bytes in
    let same : to_le_bytes w32 len ≡ le = le_bytes_4 le len (length-take-le 4 (drop (length file - 8) file) le_long) bytes is in
    let mid : length (take (start - 4) (drop 4 file)) ≡ start - 4 = length-take-le (start - 4) (drop 4 file) (rw (length-drop 4 file) (omega (arith, is, fits))) in (
      take (start - 4) (drop 4 file),
      omega (arith, mid, low),
      rw footer_is (rw is (four_bytes le bytes)),
      rw (footer_is, same) (parts_of file le start len (omega (arith, is, fits)) low m.first m.last refl ∙ nested magic (take (start - 4) (drop 4 file)) (take len (drop start file)) le magic),
    )

pub taken_apart : (file : List ℕ) (text : Text) → ((i : ℕ) → get_or file i 0 < 256) → footer_text file ≡ Ok text
    → (pages : List ℕ) × (text.at ≡ 4 + length pages) × (length text.bytes < 2 ^ 32) × (file ≡ framed pages text.bytes)
unfolding footer_text
taken_apart file text are_bytes is =
    let len = footer_len file in
    let start = length file - 8 - len in
    let found = chosen (is_parquet file) (record { at = start; bytes = take len (drop start file) }) text is in
    subst (λ (text : Text). (pages : List ℕ) × (text.at ≡ 4 + length pages) × (length text.bytes < 2 ^ 32) × (file ≡ framed pages text.bytes)) found.1
    (apart file len (marked file found.0) refl are_bytes)

found_in : (file footer : List ℕ) (start : ℕ) → take 4 file ≡ magic → drop (length file - 4) file ≡ magic → footer_len file ≡ length footer → start + length footer + 8 ≡ length file → 4 ≤ start
    → take (length footer) (drop start file) ≡ footer → footer_text file ≡ Ok (record { at = start; bytes = footer })
unfolding footer_text
found_in file footer start first last len_is sum low bytes_are =
    let long : nat_le 12 (length file) ≡ true = grind (arith, nat_tests) in
    let fits : nat_le (footer_len file) (length file - 12) ≡ true = rw len_is (grind (arith, nat_tests)) in
    let begins : starts_with nat_eq file magic ≡ true = ap (λ xs. pointwise nat_eq magic xs) first in
    let ends : ends_with nat_eq file magic ≡ true = ap (λ xs. pointwise nat_eq magic xs) last in
    let test : is_parquet file ≡ true = rw (long, begins, ends, fits) refl in
    let place : length file - 8 - length footer ≡ start = omega arith in
    rw (test, len_is, place, bytes_are) refl

pub put_together : (file : List ℕ) (text : Text) (pages : List ℕ) → text.at ≡ 4 + length pages → length text.bytes < 2 ^ 32 → file ≡ framed pages text.bytes → footer_text file ≡ Ok text
put_together file text pages at short is =
    let footer = text.bytes in
    let le = to_le_bytes w32 (length footer) in
    let front = magic ++ pages ++ footer in
    let front_len : length front ≡ 4 + length pages + length footer = rw (length-append (magic ++ pages) footer, length-append magic pages) refl in
    let file_len : length file ≡ 4 + length pages + length footer + 8 = rw (is, length-append (front ++ le) magic, length-append front le, front_len) (omega arith) in
    let tail : file ≡ front ++ (le ++ magic) = is ∙ append_assoc front le magic in
    let first : take 4 file ≡ magic = ap (λ xs. take 4 xs) (tail ∙ (append_assoc (magic ++ pages) footer (le ++ magic) ∙ append_assoc magic pages (footer ++ (le ++ magic)))) ∙ take_at magic (pages ++ (footer ++ (le ++ magic))) 4 refl in
    let last : drop (length file - 4) file ≡ magic = ap (λ xs. drop (length file - 4) xs) is ∙ drop_at (front ++ le) magic (length file - 4) (rw (length-append front le, front_len, file_len) (omega arith)) in
    let len_at : drop (length file - 8) file ≡ le ++ magic = ap (λ xs. drop (length file - 8) xs) tail ∙ drop_at front (le ++ magic) (length file - 8) (omega (arith, front_len, file_len)) in
    let len_is : footer_len file ≡ length footer = ap (λ xs. from_le_bytes w32 (take 4 xs)) len_at ∙ (ap (λ xs. from_le_bytes w32 xs) (take_at le magic 4 refl) ∙ from_le_bytes-to_le_bytes_4 (length footer) short) in
    let start_len : length (magic ++ pages) ≡ text.at = rw (length-append magic pages, at) refl in
    let bytes_at : drop text.at file ≡ footer ++ (le ++ magic) = ap (λ xs. drop text.at xs) (tail ∙ append_assoc (magic ++ pages) footer (le ++ magic)) ∙ drop_at (magic ++ pages) (footer ++ (le ++ magic)) text.at start_len in
    let bytes_are : take (length footer) (drop text.at file) ≡ footer = ap (λ xs. take (length footer) xs) bytes_at ∙ take_at footer (le ++ magic) (length footer) refl in
    found_in file footer text.at first last len_is (omega (arith, at, file_len)) (omega (arith, at)) bytes_are
