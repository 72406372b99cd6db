-- Values of pages, one page after another.
use Rattle.std.proofs.Common.{◌≡◌, ◌⊎◌, inl, inr, ℕ, zero, suc, ◌+◌, ◌-◌, ◌<◌, ◌≤◌, ℤ, List, [], ◌∷◌, ◌++◌, length, map, drop, Option, Some, None, Result, Ok, Err, refl, sym, ap, ◌∙◌, append_assoc, arith}
use Rattle.std.proofs.lemmas.List.{append-nil, map-append, drop_all}
use Rattle.hx_pqmeta.specs.declared.refusal.PqRefusal.{PqRefusal}
use Rattle.hx_pqmeta.specs.declared.refusal.PqRefusal.TheVariants.{Memory, Bounds}
use Rattle.hx_thrift.specs.Texts.{◌>>=◌}
use Rattle.hx_pqmeta.specs.Refusals.{each}
use Rattle.hx_pqread.specs.declared.layout.Asked.{Asked}
use Rattle.hx_pqread.specs.declared.chunk.Span.{Span}
use Rattle.hx_pqread.specs.Pages.{page_at, pages_at}
use Rattle.hx_pqread.specs.Values.{present, first_absent}
use Rattle.hx_pqread.specs.Columns.{spans_at, column_at, columns_at, lesser, least_absent}
use Rattle.hx_pqmeta.specs.Records.{FooterRecord}

-- the values so far, and those still to come
abbrev pub with_values : List (Option ℤ) → Result (List (Option ℤ)) PqRefusal → Result (List (Option ℤ)) PqRefusal
with_values front read = read >>= λ more. Ok (front ++ more)

pub over : (front page : List (Option ℤ)) (read : Result (List (Option ℤ)) PqRefusal) → with_values front (read >>= λ more. Ok (page ++ more)) ≡ with_values (front ++ page) read
over front page (Err refusal) = refl
over front page (Ok more) = ap (λ (xs : List (Option ℤ)). Ok xs) (sym (append_assoc front page more))

pub from_none : (read : Result (List (Option ℤ)) PqRefusal) → with_values [] read ≡ read
from_none (Err refusal) = refl
from_none (Ok xs) = refl

pub next_page : (asked : Asked) (most less left place next : ℕ) (file : List ℕ) (front page : List (Option ℤ)) → page_at asked left place file ≡ Ok (page, next) → most ≡ less + 1 → 0 < left
    → with_values front (pages_at asked most left place file) ≡ with_values (front ++ page) (pages_at asked less (left - length page) next file)
unfolding pages_at
next_page asked most less zero place next file front page e k some = absurd (omega arith)
next_page asked zero less (suc left) place next file front page e k some = absurd (omega arith)
next_page asked (suc most) less (suc left) place next file front page e k some =
    let same : most ≡ less = omega arith in
    rw (e, same) (over front page (pages_at asked less (suc left - length page) next file))

pub no_page : (asked : Asked) (most left place : ℕ) (file : List ℕ) (front : List (Option ℤ)) (refusal : PqRefusal) → page_at asked left place file ≡ Err refusal → 0 < most → 0 < left
    → with_values front (pages_at asked most left place file) ≡ Err refusal
unfolding pages_at
no_page asked most zero place file front refusal e k some = absurd (omega arith)
no_page asked zero (suc left) place file front refusal e k some = absurd (omega arith)
no_page asked (suc most) (suc left) place file front refusal e k some = rw e refl

pub all_pages : (asked : Asked) (most left place : ℕ) (file : List ℕ) (front : List (Option ℤ)) → left ≡ 0 → with_values front (pages_at asked most left place file) ≡ Ok front
unfolding pages_at
all_pages asked zero zero place file front k = ap (λ (xs : List (Option ℤ)). Ok xs) (append-nil front)
all_pages asked (suc most) zero place file front k = ap (λ (xs : List (Option ℤ)). Ok xs) (append-nil front)
all_pages asked most (suc left) place file front k = absurd (omega arith)

pub too_few_pages : (asked : Asked) (most left place : ℕ) (file : List ℕ) (front : List (Option ℤ)) → most ≡ 0 → 0 < left → with_values front (pages_at asked most left place file) ≡ Err (Bounds asked.column)
unfolding pages_at
too_few_pages asked most zero place file front k some = absurd (omega arith)
too_few_pages asked zero (suc left) place file front k some = refl
too_few_pages asked (suc most) (suc left) place file front k some = absurd (omega arith)

pub next_span : (asked : Asked) (span : Span) (spans : List Span) (file : List ℕ) (front values : List (Option ℤ)) → pages_at asked asked.end span.count span.place file ≡ Ok values
    → with_values front (spans_at asked (span ∷ spans) file) ≡ with_values (front ++ values) (spans_at asked spans file)
next_span asked span spans file front values e = rw e (over front values (spans_at asked spans file))

-- a refusal of a part is that of all
pub refused : {X Y : Type 0} (refusal : PqRefusal) (part : Result X PqRefusal) (all : Result Y PqRefusal) → (refusal ≡ Memory) ⊎ (part ≡ Err refusal) → (part ≡ Err refusal → all ≡ Err refusal) → (refusal ≡ Memory) ⊎ (all ≡ Err refusal)
refused refusal part all (inl want) passes = inl want
refused refusal part all (inr is) passes = inr (passes is)

-- the one that there is, or none
abbrev pub listed : {A : Type 0} → Option A → List A
listed None = []
listed (Some x) = x ∷ []

-- ---- checks of each of a list, in order

-- what was made before, and what is still to be made
abbrev pub each_from : {A B : Type 0} → (A → Result B PqRefusal) → List B → List A → Result (List B) PqRefusal
each_from check front xs = each check xs >>= λ ys. Ok (front ++ ys)

pub each_start : {A B : Type 0} (check : A → Result B PqRefusal) (xs : List A) → each_from check [] xs ≡ each check xs
each_start check xs = same (each check xs) where
  same : {B : Type 0} (made : Result (List B) PqRefusal) → made >>= (λ ys. Ok ([] ++ ys)) ≡ made
  same (Ok ys) = refl
  same (Err refusal) = refl

pub each_next : {A B : Type 0} (check : A → Result B PqRefusal) (front : List B) (x : A) (xs : List A) (y : B) → check x ≡ Ok y → each_from check front (x ∷ xs) ≡ each_from check (front ++ y ∷ []) xs
each_next check front x xs y is = rw is (beyond front y (each check xs)) where
  beyond : {B : Type 0} (front : List B) (y : B) (made : Result (List B) PqRefusal) → (made >>= (λ ys. Ok (y ∷ ys))) >>= (λ ys. Ok (front ++ ys)) ≡ made >>= (λ ys. Ok ((front ++ y ∷ []) ++ ys))
  beyond {B = B} front y (Ok ys) = ap (λ (zs : List B). Ok zs) (simp append_assoc)
  beyond front y (Err refusal) = refl

pub each_stop : {A B : Type 0} (check : A → Result B PqRefusal) (front : List B) (x : A) (xs : List A) (refusal : PqRefusal) → check x ≡ Err refusal → each_from check front (x ∷ xs) ≡ Err refusal
each_stop check front x xs refusal is = rw is refl

pub each_end : {A B : Type 0} (check : A → Result B PqRefusal) (front : List B) → each_from check front [] ≡ Ok front
each_end {B = B} check front = ap (λ (ys : List B). Ok ys) (append-nil front)

pub each_done : {A B : Type 0} (check : A → Result B PqRefusal) (front : List B) (xs : List A) (i : ℕ) → length xs ≤ i → each_from check front (drop i xs) ≡ Ok front
each_done check front xs i past = rw (drop_all i xs past) (each_end check front)

-- ---- the columns of names

-- the columns so far, and those still to come
abbrev pub with_columns : List (List (Option ℤ)) → Result (List (List (Option ℤ))) PqRefusal → Result (List (List (Option ℤ))) PqRefusal
with_columns front read = read >>= λ more. Ok (front ++ more)

lesser_again : (a b c : Option ℕ) → lesser a (lesser b c) ≡ lesser (lesser a b) c
lesser_again None b c = refl
lesser_again (Some a) None c = refl
lesser_again (Some a) (Some b) None = refl
lesser_again (Some a) (Some b) (Some c) = ap (λ (n : ℕ). Some n) (omega arith)

pub one_column : (front : List (List (Option ℤ))) (values : List (Option ℤ)) → least_absent (front ++ values ∷ []) ≡ lesser (least_absent front) (first_absent 1 values)
one_column [] values = nothing (first_absent 1 values) where
  nothing : (row : Option ℕ) → lesser row None ≡ row
  nothing None = refl
  nothing (Some row) = refl
one_column (first ∷ front) values = ap (λ (row : Option ℕ). lesser (first_absent 1 first) row) (one_column front values) ∙ lesser_again (first_absent 1 first) (least_absent front) (first_absent 1 values)

pub next_column : (footer : FooterRecord) (file : List ℕ) (column : ℕ) (name : List ℕ) (names : List (List ℕ)) (front : List (List (Option ℤ))) (values : List (Option ℤ)) → column_at footer file column name ≡ Ok values
    → with_columns front (columns_at footer file column (name ∷ names)) ≡ with_columns (front ++ values ∷ []) (columns_at footer file (column + 1) names)
next_column footer file column name names front values e = rw e (beyond (columns_at footer file (column + 1) names)) where
  beyond : (read : Result (List (List (Option ℤ))) PqRefusal) → with_columns front (read >>= λ more. Ok (values ∷ more)) ≡ with_columns (front ++ values ∷ []) read
  beyond (Err refusal) = refl
  beyond (Ok more) = ap (λ (xs : List (List (Option ℤ))). Ok xs) (simp append_assoc)

pub no_column : (footer : FooterRecord) (file : List ℕ) (column : ℕ) (name : List ℕ) (names : List (List ℕ)) (front : List (List (Option ℤ))) (refusal : PqRefusal) → column_at footer file column name ≡ Err refusal
    → with_columns front (columns_at footer file column (name ∷ names)) ≡ Err refusal
no_column footer file column name names front refusal e = rw e refl

pub all_columns : (footer : FooterRecord) (file : List ℕ) (column : ℕ) (front : List (List (Option ℤ))) → with_columns front (columns_at footer file column []) ≡ Ok front
all_columns footer file column front = ap (λ (xs : List (List (Option ℤ))). Ok xs) (append-nil front)

pub ok_is : (a b : ℕ) (first second : Result ℕ PqRefusal) → first ≡ Ok a → second ≡ Ok b → first ≡ second → a ≡ b
ok_is a b first second x y e = cc

pub pushed : {V : Type 0} (before now : List V) (list : V) (items : V → List ℤ) (front : List (List (Option ℤ))) (values : List (Option ℤ)) → now ≡ before ++ list ∷ [] → map items before ≡ map present front → items list ≡ present values
    → map items now ≡ map present (front ++ values ∷ [])
pushed before now list items front values e so_far one = rw (e, map-append items before (list ∷ []), map-append present front (values ∷ []), so_far, one) refl
