-- Words of eight bytes: a test of each, and the number that eight digits spell.
use Rattle.std.proofs.Common.{false, not, ◌&&◌, ◌==◌, nat_lt, ◌≡◌, ◌<◌, ◌+◌, ◌*◌, ◌/◌, ◌%◌, ◌^◌, ◌∙◌, ◌∷◌, [], List, ℕ, ap, arith, get_or, bit_and, bit_xor, length, map, refl, replicate, sym, true, suc}
use Rattle.std.proofs.lemmas.Bool.{and_parts, agree_below_at, eqb-true, lt-ltb, not-false}
use Rattle.std.proofs.lemmas.Nat.{and_block, and_mask, xor_block, xor_lt}
use Rattle.std.proofs.lemmas.Nat.Bits.{and_pow}
use Rattle.std.specs.Char.{digit_value, is_ascii_digit}
use Rattle.std.specs.List.{AllByRecursion, list_all}
use Rattle.std.specs.Str.Parse.{digits_value}
use Rattle.hx_rows.specs.Numbers.{IsWordOf}
use Rattle.hx_rows.proofs.Spelling.{digit-range, digit-value}

-- lanes of k bits, the lowest first
unfoldable pub num : ℕ → List ℕ → ℕ
num k [] = 0
num k (x ∷ xs) = num k xs * 2 ^ k + x

unfoldable pub Below : ℕ → List ℕ → Type 0
Below k [] = Unit {0}
Below k (x ∷ xs) = (x < 2 ^ k) × Below k xs

pub and-each : (k m : ℕ) (xs : List ℕ) → m < 2 ^ k → Below k xs → bit_and (num k xs) (num k (replicate (length xs) m)) ≡ num k (map (λ x. bit_and x m) xs)
unfolding num Below
and-each k m [] small below = refl
and-each k m (x ∷ xs) small below =
    and_block k (num k xs) (num k (replicate (length xs) m)) x m below.0 small ∙ ap (λ n. n * 2 ^ k + bit_and x m) (and-each k m xs small below.1)

pub xor-each : (k m : ℕ) (xs : List ℕ) → m < 2 ^ k → Below k xs → bit_xor (num k xs) (num k (replicate (length xs) m)) ≡ num k (map (λ x. bit_xor x m) xs)
unfolding num Below
xor-each k m [] small below = refl
xor-each k m (x ∷ xs) small below =
    xor_block k (num k xs) (num k (replicate (length xs) m)) x m below.0 small ∙ ap (λ n. n * 2 ^ k + bit_xor x m) (xor-each k m xs small below.1)

-- a byte whose highest bit is 0
pub low-byte : (t : ℕ) → t < 256 → bit_and t 128 ≡ 0 → t < 128
low-byte t small h = omega (arith, and_pow t 7, h)

-- eight numbers below ten, each in a byte
abbrev bytes8 : ℕ → ℕ → ℕ → ℕ → ℕ → ℕ → ℕ → ℕ → ℕ
bytes8 a b c d e f g h = a + b * 256 + c * 65536 + d * 16777216 + e * 4294967296 + f * 1099511627776 + g * 281474976710656 + h * 72057594037927936

-- joined to four numbers below a hundred
twos-of : (a b c d e f g h : ℕ) → a < 10 → b < 10 → c < 10 → d < 10 → e < 10 → f < 10 → g < 10 → h < 10
    → bit_and ((bytes8 a b c d e f g h * 10 % 18446744073709551616 + bytes8 a b c d e f g h / 256) % 18446744073709551616) 71777214294589695
    ≡ (10 * a + b) + (10 * c + d) * 65536 + (10 * e + f) * 4294967296 + (10 * g + h) * 281474976710656
unfolding num Below
twos-of a b c d e f g h la lb lc ld le lf lg lh =
    let v = (10 * a + b + (10 * b + c) * 256) in
    let w = (10 * c + d + (10 * d + e) * 256) in
    let x = (10 * e + f + (10 * f + g) * 256) in
    let y = (10 * g + h + 10 * h * 256) in
    let lanes = v ∷ w ∷ x ∷ y ∷ [] in
    let is : (bytes8 a b c d e f g h * 10 % 18446744073709551616 + bytes8 a b c d e f g h / 256) % 18446744073709551616 ≡ num 16 lanes = omega arith in
    let low = and-each 16 255 lanes (omega arith) (omega arith, (omega arith, (omega arith, (omega arith, tt)))) in
    rw is (low ∙ omega (arith, and_mask v 8, and_mask w 8, and_mask x 8, and_mask y 8))

-- those to two numbers below ten thousand
fours-of : (p q r s : ℕ) → p < 100 → q < 100 → r < 100 → s < 100
    → bit_and ((p + q * 65536 + r * 4294967296 + s * 281474976710656) * 6553601 % 18446744073709551616 / 65536) 281470681808895
    ≡ (100 * p + q) + (100 * r + s) * 4294967296
unfolding num Below
fours-of p q r s lp lq lr ls =
    let v = (100 * p + q + (100 * q + r) * 65536) in
    let w = (100 * r + s) in
    let lanes = v ∷ w ∷ [] in
    let is : (p + q * 65536 + r * 4294967296 + s * 281474976710656) * 6553601 % 18446744073709551616 / 65536 ≡ num 32 lanes = omega arith in
    let low = and-each 32 65535 lanes (omega arith) (omega arith, (omega arith, tt)) in
    rw is (low ∙ omega (arith, and_mask v 16, and_mask w 16))

-- and those to one
eights-of : (p q : ℕ) → p < 10000 → q < 10000 → (p + q * 4294967296) * 42949672960001 % 18446744073709551616 / 4294967296 ≡ 10000 * p + q
eights-of p q lp lq = omega arith

spelled : (a b c d e f g h : ℕ) → a < 10 → b < 10 → c < 10 → d < 10 → e < 10 → f < 10 → g < 10 → h < 10
    → bit_and (bit_and ((bytes8 a b c d e f g h * 10 % 18446744073709551616 + bytes8 a b c d e f g h / 256) % 18446744073709551616) 71777214294589695
    * 6553601 % 18446744073709551616 / 65536) 281470681808895 * 42949672960001 % 18446744073709551616 / 4294967296
    ≡ 10000 * (100 * (10 * a + b) + (10 * c + d)) + (100 * (10 * e + f) + (10 * g + h))
spelled a b c d e f g h la lb lc ld le lf lg lh =
    rw (
      twos-of a b c d e f g h la lb lc ld le lf lg lh,
      fours-of (10 * a + b) (10 * c + d) (10 * e + f) (10 * g + h) (omega arith) (omega arith) (omega arith) (omega arith),
    )
    (eights-of (100 * (10 * a + b) + (10 * c + d)) (100 * (10 * e + f) + (10 * g + h)) (omega arith) (omega arith))

-- a byte that differs from the code of 0 by a number below ten is a digit of that value
digit-xor : (b : ℕ) → b < 256 → bit_xor b 48 < 10 → (is_ascii_digit b ≡ true) × (digit_value b ≡ bit_xor b 48)
digit-xor b small h =
    let digit : is_ascii_digit b ≡ true = sym (agree_below_at (λ c. nat_lt (bit_xor c 48) 10) is_ascii_digit 256 b refl small) ∙ lt-ltb (bit_xor b 48) 10 h in
    let value = agree_below_at (λ c. is_ascii_digit c && not (digit_value c == bit_xor c 48)) (λ c. false) 256 b refl small in
    (digit, eqb-true (digit_value b) (bit_xor b 48) (not-false _ (rw digit at value)))

-- the same number, digit after digit
horner : (a b c d e f g h : ℕ) → 10000 * (100 * (10 * a + b) + (10 * c + d)) + (100 * (10 * e + f) + (10 * g + h))
    ≡ (((((((0 * 10 + a) * 10 + b) * 10 + c) * 10 + d) * 10 + e) * 10 + f) * 10 + g) * 10 + h
horner a b c d e f g h = omega arith

digit-below : (c : ℕ) → is_ascii_digit c ≡ true → digit_value c < 10
digit-below c h = omega (arith, digit-range c h, digit-value c h)

-- what the steps from digits to their number give
pub value-spelled : (bytes : List ℕ) (digits : ℕ) → list_all is_ascii_digit bytes ≡ true → IsWordOf digits (map digit_value bytes)
    → bit_and (bit_and ((digits * 10 % 18446744073709551616 + digits / 256) % 18446744073709551616) 71777214294589695
    * 6553601 % 18446744073709551616 / 65536) 281470681808895 * 42949672960001 % 18446744073709551616 / 4294967296
    ≡ digits_value 10 bytes
value-spelled [] digits all word = absurd (omega (arith, word.0))
value-spelled (a ∷ []) digits all word = absurd (omega (arith, word.0))
value-spelled (a ∷ b ∷ []) digits all word = absurd (omega (arith, word.0))
value-spelled (a ∷ b ∷ c ∷ []) digits all word = absurd (omega (arith, word.0))
value-spelled (a ∷ b ∷ c ∷ d ∷ []) digits all word = absurd (omega (arith, word.0))
value-spelled (a ∷ b ∷ c ∷ d ∷ e ∷ []) digits all word = absurd (omega (arith, word.0))
value-spelled (a ∷ b ∷ c ∷ d ∷ e ∷ f ∷ []) digits all word = absurd (omega (arith, word.0))
value-spelled (a ∷ b ∷ c ∷ d ∷ e ∷ f ∷ g ∷ []) digits all word = absurd (omega (arith, word.0))
value-spelled (a ∷ b ∷ c ∷ d ∷ e ∷ f ∷ g ∷ h ∷ []) digits all word =
    let (pa, all1) = and_parts _ _ all in
    let (pb, all2) = and_parts _ _ all1 in
    let (pc, all3) = and_parts _ _ all2 in
    let (pd, all4) = and_parts _ _ all3 in
    let (pe, all5) = and_parts _ _ all4 in
    let (pf, all6) = and_parts _ _ all5 in
    let (pg, all7) = and_parts _ _ all6 in
    let (ph, all8) = and_parts _ _ all7 in
    rw word.2 (spelled (digit_value a) (digit_value b) (digit_value c) (digit_value d) (digit_value e) (digit_value f) (digit_value g) (digit_value h)
    (digit-below a pa) (digit-below b pb) (digit-below c pc) (digit-below d pd) (digit-below e pe) (digit-below f pf) (digit-below g pg) (digit-below h ph)
    ∙ horner (digit_value a) (digit_value b) (digit_value c) (digit_value d) (digit_value e) (digit_value f) (digit_value g) (digit_value h))
value-spelled (a ∷ b ∷ c ∷ d ∷ e ∷ f ∷ g ∷ h ∷ i ∷ more) digits all word = absurd (omega (arith, word.0))

-- where a word has no highest bit of a byte
low-bytes : (a b c d e f g h : ℕ) → a < 256 → b < 256 → c < 256 → d < 256 → e < 256 → f < 256 → g < 256 → h < 256 → bit_and (bytes8 a b c d e f g h) 9259542123273814144 ≡ 0
    → (a < 128) × (b < 128) × (c < 128) × (d < 128) × (e < 128) × (f < 128) × (g < 128) × (h < 128)
unfolding num Below
low-bytes a b c d e f g h sa sb sc sd se sf sg sh test =
    let lanes = a ∷ b ∷ c ∷ d ∷ e ∷ f ∷ g ∷ h ∷ [] in
    let small : Below 8 lanes = (sa, (sb, (sc, (sd, (se, (sf, (sg, (sh, tt)))))))) in
    let is : bytes8 a b c d e f g h ≡ num 8 lanes = omega arith in
    let none = sym (and-each 8 128 lanes (omega arith) small) ∙ rw is at test in (
      low-byte a sa (omega (arith, none)),
      low-byte b sb (omega (arith, none)),
      low-byte c sc (omega (arith, none)),
      low-byte d sd (omega (arith, none)),
      low-byte e se (omega (arith, none)),
      low-byte f sf (omega (arith, none)),
      low-byte g sg (omega (arith, none)),
      low-byte h sh (omega (arith, none)),
    )

small-xor : (b : ℕ) → b < 256 → bit_xor b 48 < 256
small-xor b small = xor_lt 8 b 48 small (omega arith)

-- the values of eight digits, from a word of their codes that passes both tests
values-tested : (a b c d e f g h word : ℕ) → a < 256 → b < 256 → c < 256 → d < 256 → e < 256 → f < 256 → g < 256 → h < 256 → word ≡ bytes8 a b c d e f g h
    → bit_and (bit_xor word 3472328296227680304) 9259542123273814144 ≡ 0
    → bit_and ((bit_xor word 3472328296227680304 + 8536140394893047414) % 18446744073709551616) 9259542123273814144 ≡ 0
    → (bit_xor word 3472328296227680304 ≡ bytes8 (bit_xor a 48) (bit_xor b 48) (bit_xor c 48) (bit_xor d 48) (bit_xor e 48) (bit_xor f 48) (bit_xor g 48) (bit_xor h 48))
    × ((bit_xor a 48 < 10) × (bit_xor b 48 < 10) × (bit_xor c 48 < 10) × (bit_xor d 48 < 10) × (bit_xor e 48 < 10) × (bit_xor f 48 < 10) × (bit_xor g 48 < 10) × (bit_xor h 48 < 10))
unfolding num Below
values-tested a b c d e f g h word sa sb sc sd se sf sg sh is low high =
    let lanes = a ∷ b ∷ c ∷ d ∷ e ∷ f ∷ g ∷ h ∷ [] in
    let small : Below 8 lanes = (sa, (sb, (sc, (sd, (se, (sf, (sg, (sh, tt)))))))) in
    let same : word ≡ num 8 lanes = omega (arith, is) in
    let values = ap (λ w. bit_xor w 3472328296227680304) same ∙ xor-each 8 48 lanes (omega arith) small in
    let word_is : bit_xor word 3472328296227680304 ≡ bytes8 (bit_xor a 48) (bit_xor b 48) (bit_xor c 48) (bit_xor d 48) (bit_xor e 48) (bit_xor f 48) (bit_xor g 48) (bit_xor h 48) = omega (arith, values) in
    let xa = small-xor a sa in
    let xb = small-xor b sb in
    let xc = small-xor c sc in
    let xd = small-xor d sd in
    let xe = small-xor e se in
    let xf = small-xor f sf in
    let xg = small-xor g sg in
    let xh = small-xor h sh in
    let first = low-bytes (bit_xor a 48) (bit_xor b 48) (bit_xor c 48) (bit_xor d 48) (bit_xor e 48) (bit_xor f 48) (bit_xor g 48) (bit_xor h 48) xa xb xc xd xe xf xg xh (rw word_is at low) in
    let more : (bit_xor word 3472328296227680304 + 8536140394893047414) % 18446744073709551616 ≡ bytes8 (bit_xor a 48 + 118) (bit_xor b 48 + 118) (bit_xor c 48 + 118) (bit_xor d 48 + 118) (bit_xor e 48 + 118) (bit_xor f 48 + 118) (bit_xor g 48 + 118) (bit_xor h 48 + 118) = omega (arith, word_is, first) in
    let second = low-bytes (bit_xor a 48 + 118) (bit_xor b 48 + 118) (bit_xor c 48 + 118) (bit_xor d 48 + 118) (bit_xor e 48 + 118) (bit_xor f 48 + 118) (bit_xor g 48 + 118) (bit_xor h 48 + 118) (omega arith) (omega arith) (omega arith) (omega arith) (omega arith) (omega arith) (omega arith) (omega arith) (rw more at high) in
    (word_is, (omega (arith, second), omega (arith, second), omega (arith, second), omega (arith, second), omega (arith, second), omega (arith, second), omega (arith, second), omega (arith, second)))

bytes8-same : (a b c d e f g h a' b' c' d' e' f' g' h' : ℕ) → a' ≡ a → b' ≡ b → c' ≡ c → d' ≡ d → e' ≡ e → f' ≡ f → g' ≡ g → h' ≡ h → bytes8 a b c d e f g h ≡ bytes8 a' b' c' d' e' f' g' h'
bytes8-same a b c d e f g h a' b' c' d' e' f' g' h' ea eb ec ed ee ef eg eh = omega arith

value-small : (c : ℕ) → is_ascii_digit c ≡ true → digit_value c < 256
value-small c h = omega (arith, digit-below c h)

-- the same of the bytes as a list
pub digits-tested : (bytes : List ℕ) (word : ℕ) → IsWordOf word bytes
    → bit_and (bit_xor word 3472328296227680304) 9259542123273814144 ≡ 0
    → bit_and ((bit_xor word 3472328296227680304 + 8536140394893047414) % 18446744073709551616) 9259542123273814144 ≡ 0
    → (list_all is_ascii_digit bytes ≡ true) × IsWordOf (bit_xor word 3472328296227680304) (map digit_value bytes)
digits-tested [] word is low high = absurd (omega (arith, is.0))
digits-tested (a ∷ []) word is low high = absurd (omega (arith, is.0))
digits-tested (a ∷ b ∷ []) word is low high = absurd (omega (arith, is.0))
digits-tested (a ∷ b ∷ c ∷ []) word is low high = absurd (omega (arith, is.0))
digits-tested (a ∷ b ∷ c ∷ d ∷ []) word is low high = absurd (omega (arith, is.0))
digits-tested (a ∷ b ∷ c ∷ d ∷ e ∷ []) word is low high = absurd (omega (arith, is.0))
digits-tested (a ∷ b ∷ c ∷ d ∷ e ∷ f ∷ []) word is low high = absurd (omega (arith, is.0))
digits-tested (a ∷ b ∷ c ∷ d ∷ e ∷ f ∷ g ∷ []) word is low high = absurd (omega (arith, is.0))
digits-tested (a ∷ b ∷ c ∷ d ∷ e ∷ f ∷ g ∷ h ∷ []) word is low high =
    let small = is.1 in
    let sa : a < 256 = small.0 in
    let sb : b < 256 = small.1.0 in
    let sc : c < 256 = small.1.1.0 in
    let sd : d < 256 = small.1.1.1.0 in
    let se : e < 256 = small.1.1.1.1.0 in
    let sf : f < 256 = small.1.1.1.1.1.0 in
    let sg : g < 256 = small.1.1.1.1.1.1.0 in
    let sh : h < 256 = small.1.1.1.1.1.1.1.0 in
    let values = values-tested a b c d e f g h word sa sb sc sd se sf sg sh is.2 low high in
    let da = digit-xor a sa values.1.0 in
    let db = digit-xor b sb values.1.1 in
    let dc = digit-xor c sc values.1.2 in
    let dd = digit-xor d sd values.1.3 in
    let de = digit-xor e se values.1.4 in
    let df = digit-xor f sf values.1.5 in
    let dg = digit-xor g sg values.1.6 in
    let dh = digit-xor h sh values.1.7 in (
      rw (da.0, db.0, dc.0, dd.0, de.0, df.0, dg.0, dh.0) refl,
      (
        refl,
        (value-small a da.0, (value-small b db.0, (value-small c dc.0, (value-small d dd.0, (value-small e de.0, (value-small f df.0, (value-small g dg.0, (value-small h dh.0, tt)))))))),
        values.0 ∙ bytes8-same (bit_xor a 48) (bit_xor b 48) (bit_xor c 48) (bit_xor d 48) (bit_xor e 48) (bit_xor f 48) (bit_xor g 48) (bit_xor h 48) (digit_value a) (digit_value b) (digit_value c) (digit_value d) (digit_value e) (digit_value f) (digit_value g) (digit_value h) da.1 db.1 dc.1 dd.1 de.1 df.1 dg.1 dh.1,
      ),
    )
digits-tested (a ∷ b ∷ c ∷ d ∷ e ∷ f ∷ g ∷ h ∷ i ∷ more) word is low high = absurd (omega (arith, is.0))

-- bytes, one by one
pub each-small : (bytes : List ℕ) → ((i : ℕ) → get_or bytes i 0 < 256) → AllByRecursion (λ byte. byte < 256) bytes
each-small [] small = tt
each-small (b ∷ bytes) small = (small 0, each-small bytes (λ i. small (suc i)))
