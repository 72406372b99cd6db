-- The files of different tasks have different names, and no task's file is the journal or the temporary file.
use Rattle.std.proofs.Common.{◌≡◌, ◌≢◌, ◌<◌, ◌≤◌, ◌==◌, ◌++◌, ◌∙◌, ◌^◌, ◌+◌, ◌⊎◌, ℕ, List, [], length, get_or, drop, codes, refl, sym, ap, subst, inl, inr, ⊎_elim, arith, append_assoc, if◌then◌else◌}
use Rattle.std.proofs.lemmas.Bool.{cases_eq}
use Rattle.std.proofs.lemmas.Bool.Decides.{nat_tests}
use Rattle.std.proofs.lemmas.Fmt.{decimal_injective}
use Rattle.std.proofs.lemmas.List.{append_cancel_left}
use Rattle.std.specs.Fmt.{decimal}
use Rattle.hx_base.specs.Paths.{group_of, rows_part}
use Rattle.hx_base.specs.declared.pixel.Pixel.{Pixel}
use Rattle.hx_base.specs.declared.task.Task.{Task}
use Rattle.hx_journal.specs.Journal.{journal_file, temporary_file}
use Rattle.hx_book.specs.Tasks.{count_of, pixel_at, task, task_path}
use Rattle.hx_book.proofs.Digits.{one-number}

-- what stands behind the catalogue's name in the name of a task's file
abbrev pub tail_of : List Pixel → Task → List ℕ
tail_of parts t = task_path [] parts t

-- a task by the kinds that there are
pub record IsNumbered (t : Task) : Type 0 where
  pub inputs : ℕ
  pub partitions : ℕ
  pub few : inputs < 2 ^ 64
  pub not_many : partitions < 2 ^ 64
  pub numbered : t.number < count_of inputs partitions t.kind

pub by_kind : (P : Task → Type 0) → ((n : ℕ) → n < 2 ^ 64 → P (task 1 n)) → P (task 2 0) → ((n : ℕ) → n < 2 ^ 64 → P (task 3 n)) → ((n : ℕ) → n < 2 ^ 64 → P (task 4 n)) → ((n : ℕ) → n < 2 ^ 64 → P (task 5 n))
    → ((n : ℕ) → n < 2 ^ 64 → P (task 6 n)) → P (task 7 0) → P (task 7 1) → P (task 7 2) → P (task 8 0) → (t : Task) → IsNumbered t → P t
by_kind P one two three four five six list margin_list margin_properties eight t is =
    kinds (cases_eq t.kind 1) (cases_eq t.kind 2) (cases_eq t.kind 3) (cases_eq t.kind 4) (cases_eq t.kind 5) (cases_eq t.kind 6) (cases_eq t.kind 7) (cases_eq t.kind 8)
  where
    at : (k n : ℕ) → t.kind ≡ k → t.number ≡ n → P (task k n) → P t
    at k n kind number p = subst P (sym (λ i. record { kind = kind i; number = number i })) p

    of : (k : ℕ) → t.kind ≡ k → t.number < count_of is.inputs is.partitions k
    of k e = subst (λ (kind : ℕ). t.number < count_of is.inputs is.partitions kind) e is.numbered

    seven : t.kind ≡ 7 → P t
    seven e =
        let small : t.number < 3 = of 7 e in
        ⊎_elim (λ zero. at 7 0 e zero list)
        (λ none. ⊎_elim (λ first. at 7 1 e first margin_list) (λ other. at 7 2 e (omega (arith, small, none, other)) margin_properties) (cases_eq t.number 1))
        (cases_eq t.number 0)

    kinds : (t.kind ≡ 1) ⊎ (t.kind ≡ 1 → ⊥) → (t.kind ≡ 2) ⊎ (t.kind ≡ 2 → ⊥) → (t.kind ≡ 3) ⊎ (t.kind ≡ 3 → ⊥) → (t.kind ≡ 4) ⊎ (t.kind ≡ 4 → ⊥)
        → (t.kind ≡ 5) ⊎ (t.kind ≡ 5 → ⊥) → (t.kind ≡ 6) ⊎ (t.kind ≡ 6 → ⊥) → (t.kind ≡ 7) ⊎ (t.kind ≡ 7 → ⊥) → (t.kind ≡ 8) ⊎ (t.kind ≡ 8 → ⊥) → P t
    kinds (inl e) b c d f g h i = let l : t.number < is.inputs = of 1 e in at 1 t.number e refl (one t.number (omega (arith, l, is.few)))
    kinds (inr a) (inl e) c d f g h i = let l : t.number < 1 = of 2 e in at 2 0 e (omega (arith, l)) two
    kinds (inr a) (inr b) (inl e) d f g h i = let l : t.number < is.inputs = of 3 e in at 3 t.number e refl (three t.number (omega (arith, l, is.few)))
    kinds (inr a) (inr b) (inr c) (inl e) f g h i = let l : t.number < is.partitions = of 4 e in at 4 t.number e refl (four t.number (omega (arith, l, is.not_many)))
    kinds (inr a) (inr b) (inr c) (inr d) (inl e) g h i = let l : t.number < is.partitions = of 5 e in at 5 t.number e refl (five t.number (omega (arith, l, is.not_many)))
    kinds (inr a) (inr b) (inr c) (inr d) (inr f) (inl e) h i = let l : t.number < is.partitions = of 6 e in at 6 t.number e refl (six t.number (omega (arith, l, is.not_many)))
    kinds (inr a) (inr b) (inr c) (inr d) (inr f) (inr g) (inl e) i = seven e
    kinds (inr a) (inr b) (inr c) (inr d) (inr f) (inr g) (inr h) (inl e) = let l : t.number < 1 = of 8 e in at 8 0 e (omega (arith, l)) eight
    kinds (inr a) (inr b) (inr c) (inr d) (inr f) (inr g) (inr h) (inr i) = absurd (none is.numbered)
      where
        none : t.number < count_of is.inputs is.partitions t.kind → ⊥
        none l = grind (arith, nat_tests)

-- the kind of a task, and for lists the number too
abbrev code : Task → ℕ
code t = if t.kind == 7 then 70 + t.number else t.kind

-- the same, told from the name of its file
abbrev told : List ℕ → ℕ
told tail =
    if get_or tail 0 0 == 46 then
    (if get_or tail 6 0 == 106 then 100
    else if get_or tail 6 0 == 116 then 101
    else if get_or tail 6 0 == 112 then 2
    else if get_or tail 6 0 == 115 then 3
    else if get_or tail 7 0 == 97 then 1
    else 5)
    else if get_or tail 0 0 == 47 then
    (if get_or tail 1 0 == 100 then 4
    else if get_or tail 1 0 == 112 then 70
    else 8)
    else if get_or tail 8 0 == 100 then 6
    else if get_or tail 8 0 == 112 then 71
    else 72

told_is : (parts : List Pixel) (t : Task) → IsNumbered t → told (tail_of parts t) ≡ code t
told_is parts t is = by_kind (λ u. told (tail_of parts u) ≡ code u) (λ n less. refl) refl (λ n less. refl) (λ n less. refl) (λ n less. refl) (λ n less. refl) refl refl refl refl t is

pub small_kind : (t : Task) → IsNumbered t → t.kind ≤ 8
small_kind t is = by_kind (λ u. u.kind ≤ 8) (λ n less. omega arith) (omega arith) (λ n less. omega arith) (λ n less. omega arith) (λ n less. omega arith) (λ n less. omega arith) (omega arith) (omega arith) (omega arith) (omega arith) t is

kinds_of : (t u : Task) → t.kind ≤ 8 → u.kind ≤ 8 → code t ≡ code u → t.kind ≡ u.kind
kinds_of t u small low e = grind (arith, nat_tests)

pub named : (name : List ℕ) (parts : List Pixel) (t : Task) → IsNumbered t → task_path name parts t ≡ name ++ tail_of parts t
named name parts t is = by_kind (λ u. task_path name parts u ≡ name ++ tail_of parts u)
    (λ n less. append_assoc name (codes ".work/") (codes "map-" ++ decimal n))
    (append_assoc name (codes ".work/") (codes "plan"))
    (λ n less. append_assoc name (codes ".work/") (codes "split-" ++ decimal n))
    (λ n less. append_assoc name (codes "/") (rows_part (pixel_at parts n)))
    (λ n less. append_assoc name (codes ".work/") (codes "msplit-" ++ decimal n))
    (λ n less. append_assoc name (codes "_margin/") (rows_part (pixel_at parts n)))
    (append_assoc name (codes "/") (codes "partition_info.csv"))
    (append_assoc name (codes "_margin/") (codes "partition_info.csv"))
    (append_assoc name (codes "_margin/") (codes "hats.properties"))
    (append_assoc name (codes "/") (codes "hats.properties"))
    t is

not_hundred : (t : Task) → t.kind ≤ 8 → IsNumbered t → code t ≡ 100 → ⊥
not_hundred t small is = by_kind (λ u. code u ≡ 100 → ⊥) (λ n less e. omega (arith, e)) (λ e. omega (arith, e)) (λ n less e. omega (arith, e)) (λ n less e. omega (arith, e)) (λ n less e. omega (arith, e)) (λ n less e. omega (arith, e)) (λ e. omega (arith, e)) (λ e. omega (arith, e)) (λ e. omega (arith, e)) (λ e. omega (arith, e)) t is

not_hundred_one : (t : Task) → t.kind ≤ 8 → IsNumbered t → code t ≡ 101 → ⊥
not_hundred_one t small is = by_kind (λ u. code u ≡ 101 → ⊥) (λ n less e. omega (arith, e)) (λ e. omega (arith, e)) (λ n less e. omega (arith, e)) (λ n less e. omega (arith, e)) (λ n less e. omega (arith, e)) (λ n less e. omega (arith, e)) (λ e. omega (arith, e)) (λ e. omega (arith, e)) (λ e. omega (arith, e)) (λ e. omega (arith, e)) t is

-- no task's file is the journal, or the temporary file
pub journal_apart : (name : List ℕ) (parts : List Pixel) (t : Task) → IsNumbered t → task_path name parts t ≢ journal_file name
journal_apart name parts t is e =
    let same : tail_of parts t ≡ codes ".work/" ++ codes "journal" = append_cancel_left name _ _ (sym (named name parts t is) ∙ e ∙ append_assoc name (codes ".work/") (codes "journal")) in
    let c : code t ≡ 100 = sym (told_is parts t is) ∙ ap told same in
    not_hundred t (small_kind t is) is c

pub temporary_apart : (name : List ℕ) (parts : List Pixel) (t : Task) → IsNumbered t → temporary_file name ≢ task_path name parts t
temporary_apart name parts t is e =
    let same : tail_of parts t ≡ codes ".work/tmp" = append_cancel_left name _ _ (sym (named name parts t is) ∙ sym e) in
    let c : code t ≡ 101 = sym (told_is parts t is) ∙ ap told same in
    not_hundred_one t (small_kind t is) is c

pub temporary_is_not_journal : (name : List ℕ) → temporary_file name ≢ journal_file name
temporary_is_not_journal name e =
    let same : codes ".work/tmp" ≡ codes ".work/" ++ codes "journal" = append_cancel_left name _ _ (e ∙ append_assoc name (codes ".work/") (codes "journal")) in
    absurd (cc same)

shape : (u : Task) (k : ℕ) → u.kind ≡ k → u ≡ task k u.number
shape u k e = λ i. record { kind = e i; number = u.number }

-- the number of a pixel's file
pub record IsSmall (pixel : Pixel) : Type 0 where
  pub order : pixel.order < 2 ^ 64
  pub number : pixel.number < 2 ^ 64

group_small : (n : ℕ) → n < 2 ^ 64 → group_of n < 2 ^ 64
group_small n less = omega (arith, less)

pub pixel_told : (x y : Pixel) → IsSmall x → IsSmall y → rows_part x ≡ rows_part y → x ≡ y
pixel_told x y small low e =
    let a = one-number x.order y.order 47 _ _ small.order low.order (omega arith) (ap (drop 15) e) in
    let b = one-number (group_of x.number) (group_of y.number) 47 _ _ (group_small x.number small.number) (group_small y.number low.number) (omega arith) (ap (drop 4) a.1) in
    let c = one-number x.number y.number 46 _ _ small.number low.number (omega arith) (ap (drop 5) b.1) in
    λ i. record { order = a.0 i; number = c.0 i }

-- one name is the file of one task; of partitions with one list
pub record AreSmall (parts : List Pixel) : Type 0 where
  pub each : (n : ℕ) → n < length parts → IsSmall (pixel_at parts n)
  pub apart : (m n : ℕ) → m < length parts → n < length parts → pixel_at parts m ≡ pixel_at parts n → m ≡ n

abbrev pub OfOneList : Task → Task → List Pixel → List Pixel → Type 0
OfOneList t u p q = (t.kind ≡ u.kind) → (4 ≤ t.kind) → (t.kind ≤ 6) → (p ≡ q) × AreSmall p × (t.number < length p)

same_number : (name : List ℕ) (p q : List Pixel) (u : Task) → IsNumbered u → (t : Task) → IsNumbered t
    → t.kind ≡ u.kind → code t ≡ code u → tail_of p t ≡ tail_of q u → OfOneList t u p q → OfOneList u t q p → t.number ≡ u.number
same_number name p q u also t is = by_kind (λ v. v.kind ≡ u.kind → code v ≡ code u → tail_of p v ≡ tail_of q u → OfOneList v u p q → OfOneList u v q p → v.number ≡ u.number)
    (λ n less k c e a b. decimal_injective n u.number less (fits 1 k) (ap (drop 10) (e ∙ ap (tail_of q) (shape u 1 (sym k)))))
    (λ k c e a b. sym (zero 2 k (λ l. l)))
    (λ n less k c e a b. decimal_injective n u.number less (fits 3 k) (ap (drop 12) (e ∙ ap (tail_of q) (shape u 3 (sym k)))))
    (λ n less k c e a b. by_pixel n (a k (omega arith) (omega arith)) (b (sym k) (omega (arith, k)) (omega (arith, k))) (ap (drop 1) (e ∙ ap (tail_of q) (shape u 4 (sym k)))))
    (λ n less k c e a b. decimal_injective n u.number less (fits 5 k) (ap (drop 13) (e ∙ ap (tail_of q) (shape u 5 (sym k)))))
    (λ n less k c e a b. by_pixel n (a k (omega arith) (omega arith)) (b (sym k) (omega (arith, k)) (omega (arith, k))) (ap (drop 8) (e ∙ ap (tail_of q) (shape u 6 (sym k)))))
    (λ k c e a b. listed 0 k c) (λ k c e a b. listed 1 k c) (λ k c e a b. listed 2 k c)
    (λ k c e a b. sym (zero 8 k (λ l. l))) t is
  where
    fits : (k : ℕ) → k ≡ u.kind → u.number < 2 ^ 64
    fits k e = by_kind (λ v. v.number < 2 ^ 64) (λ n less. less) (omega arith) (λ n less. less) (λ n less. less) (λ n less. less) (λ n less. less) (omega arith) (omega arith) (omega arith) (omega arith) u also

    zero : (k : ℕ) → k ≡ u.kind → (u.number < count_of also.inputs also.partitions k → u.number < 1) → u.number ≡ 0
    zero k e one = let l = one (subst (λ (kind : ℕ). u.number < count_of also.inputs also.partitions kind) (sym e) also.numbered) in omega (arith, l)

    listed : (n : ℕ) → 7 ≡ u.kind → 70 + n ≡ code u → n ≡ u.number
    listed n k c = let d : code u ≡ 70 + u.number = ap code (shape u 7 (sym k)) in omega (arith, c, d)

    by_pixel : (n : ℕ) → (p ≡ q) × AreSmall p × (n < length p) → (q ≡ p) × AreSmall q × (u.number < length q) → rows_part (pixel_at p n) ≡ rows_part (pixel_at q u.number) → n ≡ u.number
    by_pixel n a b e =
        let same : pixel_at p n ≡ pixel_at q u.number = pixel_told _ _ (a.1.each n a.2) (b.1.each u.number b.2) e in
        b.1.apart n u.number (subst (λ (l : List Pixel). n < length l) a.0 a.2) b.2 (ap (λ (l : List Pixel). pixel_at l n) (sym a.0) ∙ same)

pub path_tells : (name : List ℕ) (p q : List Pixel) (t u : Task) → IsNumbered t → IsNumbered u → OfOneList t u p q → OfOneList u t q p → task_path name p t ≡ task_path name q u → t ≡ u
path_tells name p q t u is also a b e =
    let same : tail_of p t ≡ tail_of q u = append_cancel_left name _ _ (sym (named name p t is) ∙ e ∙ named name q u also) in
    let c : code t ≡ code u = sym (told_is p t is) ∙ ap told same ∙ told_is q u also in
    let k = kinds_of t u (small_kind t is) (small_kind u also) c in
    let n = same_number name p q u also t is k c same a b in
    λ i. record { kind = k i; number = n i }
