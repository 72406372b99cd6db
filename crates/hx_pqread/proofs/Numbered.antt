-- The numbers of a page, one after another.
use Rattle.std.proofs.Common.{◌≡◌, ℕ, ℤ, zero, suc, ◌+◌, ◌*◌, List, [], ◌∷◌, ◌++◌, take, drop, Bool, true, refl, sym, ap, ◌∙◌, append_assoc, arith}
use Rattle.std.proofs.lemmas.List.{append-nil, drop-drop}
use Rattle.hx_pqread.specs.Numbers.{size, number, numbers_at}

pub next_number : (is_wide : Bool) (count less : ℕ) (bytes : List ℕ) (front now : List ℤ) (n : ℤ) → count ≡ less + 1 → n ≡ number is_wide (take (size is_wide) bytes) → now ≡ front ++ n ∷ []
    → front ++ numbers_at is_wide count bytes ≡ now ++ numbers_at is_wide less (drop (size is_wide) bytes)
unfolding numbers_at
next_number is_wide zero less bytes front now n e is pushed = absurd (omega arith)
next_number is_wide (suc count) less bytes front now n e is pushed =
    let same : count ≡ less = omega arith in
    rw (same, ← is, pushed) (sym (append_assoc front (n ∷ []) (numbers_at is_wide less (drop (size is_wide) bytes))))

pub all_numbers : (is_wide : Bool) (count : ℕ) (bytes : List ℕ) (front : List ℤ) → count ≡ 0 → front ++ numbers_at is_wide count bytes ≡ front
unfolding numbers_at
all_numbers is_wide zero bytes front e = append-nil front
all_numbers is_wide (suc count) bytes front e = absurd (omega arith)

more_numbers : (count less total place : ℕ) (bytes : List ℕ) → total ≡ count + less → place ≡ count * 8
    → numbers_at true total bytes ≡ numbers_at true count bytes ++ numbers_at true less (drop place bytes)
unfolding numbers_at
more_numbers zero less total place bytes e at =
    let same : total ≡ less = omega arith in
    let none : place ≡ 0 = omega arith in
    rw (same, none) refl
more_numbers (suc count) less zero place bytes e at = absurd (omega arith)
more_numbers (suc count) less (suc total) place bytes e at =
    let next : 8 + count * 8 ≡ place = omega arith in
    let behind : drop (count * 8) (drop 8 bytes) ≡ drop place bytes = drop-drop (count * 8) 8 bytes ∙ ap (λ (k : ℕ). drop k bytes) next in
    ap (λ (ns : List ℤ). number true (take 8 bytes) ∷ ns) (more_numbers count less total (count * 8) (drop 8 bytes) (omega arith) refl ∙ ap (λ (bs : List ℕ). numbers_at true count (drop 8 bytes) ++ numbers_at true less bs) behind)

pub next_eight : (count less : ℕ) (bytes : List ℕ) (front now : List ℤ) → count ≡ 8 + less → now ≡ front ++ numbers_at true 8 bytes
    → front ++ numbers_at true count bytes ≡ now ++ numbers_at true less (drop 64 bytes)
next_eight count less bytes front now e pushed =
    rw (more_numbers 8 less count 64 bytes e refl, pushed) (sym (append_assoc front (numbers_at true 8 bytes) (numbers_at true less (drop 64 bytes))))
