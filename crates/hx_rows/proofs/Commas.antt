-- Words of eight bytes: how many bytes above the comma stand at the front.
use Rattle.std.proofs.Common.{nat_lt, ◌≡◌, ◌<◌, ◌≤◌, ◌+◌, ◌-◌, ◌*◌, ◌/◌, ◌%◌, ◌^◌, ◌∙◌, ◌∷◌, ◌++◌, [], List, ℕ, ap, arith, bit_and, bit_or, bit_xor, drop, get_or, length, length-drop, map, refl, suc, sym, take, take-add, drop-drop, true, w64, zero}
use lib.Bits.{and_le_r}
use lib.Count.{count_trailing_zeros}
use Rattle.std.proofs.lemmas.Bool.{agree_below_at, lt-ltb, ltb-true}
use Rattle.std.proofs.lemmas.List.{take_all, take-take}
use Rattle.std.proofs.lemmas.Nat.{or_block, or_lt}
use Rattle.std.proofs.lemmas.Nat.Bits.{bit_at-trailing_zeros, bit_at-zero}
use Rattle.hx_rows.specs.Numbers.{IsWordOf}
use Rattle.hx_rows.proofs.Lines.{AboveComma}
use Rattle.hx_rows.proofs.Words.{Below, and-each, num, xor-each}

or-each : (k : ℕ) (f g : ℕ → ℕ) (xs : List ℕ) → Below k (map f xs) → Below k (map g xs) → bit_or (num k (map f xs)) (num k (map g xs)) ≡ num k (map (λ x. bit_or (f x) (g x)) xs)
unfolding num Below
or-each k f g [] fs gs = refl
or-each k f g (x ∷ xs) fs gs =
    or_block k (num k (map f xs)) (num k (map g xs)) (f x) (g x) fs.0 gs.0 ∙ ap (λ n. n * 2 ^ k + bit_or (f x) (g x)) (or-each k f g xs fs.1 gs.1)

-- each byte of the word that is searched, and the same of the whole word
mark : ℕ → ℕ
mark byte = bit_xor (bit_and (bit_or (bit_and byte 127 + 83) byte) 128) 128

abbrev pub marks : ℕ → ℕ
marks word = bit_xor (bit_and (bit_or ((bit_and word 9187201950435737471 + 6004234345560363859) % 18446744073709551616) word) 9259542123273814144) 9259542123273814144

mark-small : (byte : ℕ) → byte < 256 → mark byte < 256
unfolding mark
mark-small byte small = ltb-true (mark byte) 256 (agree_below_at (λ b. nat_lt (mark b) 256) (λ b. true) 256 byte refl small)

mark-above : (byte : ℕ) → byte < 256 → mark byte < 128 → 44 < byte
unfolding mark
mark-above byte small none =
    ltb-true 44 byte (sym (agree_below_at (λ b. nat_lt (mark b) 128) (λ b. nat_lt 44 b) 256 byte refl small) ∙ lt-ltb (mark byte) 128 none)

abbrev bytes8 : ℕ → ℕ → ℕ → ℕ → ℕ → ℕ → ℕ → ℕ → ℕ
bytes8 a b c d e f g h = a + b * 256 + c * 65536 + d * 16777216 + e * 4294967296 + f * 1099511627776 + g * 281474976710656 + h * 72057594037927936

sum-small : (x : ℕ) → bit_and x 127 + 83 < 2 ^ 8
sum-small x = omega (arith, and_le_r x 127)

marks-are : (a b c d e f g h word : ℕ) → a < 256 → b < 256 → c < 256 → d < 256 → e < 256 → f < 256 → g < 256 → h < 256 → word ≡ bytes8 a b c d e f g h
    → marks word ≡ bytes8 (mark a) (mark b) (mark c) (mark d) (mark e) (mark f) (mark g) (mark h)
unfolding num Below mark
marks-are a b c d e f g h word sa sb sc sd se sf sg sh is =
    let lanes = a ∷ b ∷ c ∷ d ∷ e ∷ f ∷ g ∷ h ∷ [] in
    let small : Below 8 lanes = (sa, (sb, (sc, (sd, (se, (sf, (sg, (sh, tt)))))))) in
    let same : word ≡ num 8 lanes = omega (arith, is) in
    let sum = λ (x : ℕ). bit_and x 127 + 83 in
    let sums : Below 8 (map sum lanes) = (sum-small a, (sum-small b, (sum-small c, (sum-small d, (sum-small e, (sum-small f, (sum-small g, (sum-small h, tt)))))))) in
    let either = λ (x : ℕ). bit_or (sum x) x in
    let joined_small : (x : ℕ) → x < 256 → either x < 2 ^ 8 = λ x l. or_lt 8 (sum x) x (sum-small x) l in
    let joined : Below 8 (map either lanes) = (joined_small a sa, (joined_small b sb, (joined_small c sc, (joined_small d sd, (joined_small e se, (joined_small f sf, (joined_small g sg, (joined_small h sh, tt)))))))) in
    let high = λ (x : ℕ). bit_and (either x) 128 in
    let high_small : (x : ℕ) → high x < 2 ^ 8 = λ x. omega (arith, and_le_r (either x) 128) in
    let highs : Below 8 (map high lanes) = (high_small a, (high_small b, (high_small c, (high_small d, (high_small e, (high_small f, (high_small g, (high_small h, tt)))))))) in
    let low = ap (λ w. bit_and w 9187201950435737471) same ∙ and-each 8 127 lanes (omega arith) small in
    let la = and_le_r a 127 in
    let lb = and_le_r b 127 in
    let lc = and_le_r c 127 in
    let ld = and_le_r d 127 in
    let le = and_le_r e 127 in
    let lf = and_le_r f 127 in
    let lg = and_le_r g 127 in
    let lh = and_le_r h 127 in
    let added : (bit_and word 9187201950435737471 + 6004234345560363859) % 18446744073709551616 ≡ num 8 (map sum lanes) = omega (arith, low, la, lb, lc, ld, le, lf, lg, lh) in
    let ored = (λ j. bit_or (added j) (same j)) ∙ or-each 8 sum (λ x. x) lanes sums small in
    let kept = ap (λ w. bit_and w 9259542123273814144) ored ∙ and-each 8 128 (map either lanes) (omega arith) joined in
    let turned = ap (λ w. bit_xor w 9259542123273814144) kept ∙ xor-each 8 128 (map high lanes) (omega arith) highs in
    turned ∙ omega arith

-- below the lowest 1 there is none
none-below : (word i : ℕ) → word < 18446744073709551616 → i < count_trailing_zeros 64 word → word / 2 ^ i % 2 ≡ 0
none-below zero i fits low = bit_at-zero i
none-below (suc n) i fits low = (bit_at-trailing_zeros w64 (suc n) (omega arith) (omega arith)).2 i low

-- the bytes up to a place, one by one
each-above : (k : ℕ) (bytes : List ℕ) → ((i : ℕ) → i < k → i < length bytes → 44 < get_or bytes i 0) → AboveComma (take k bytes)
each-above zero bytes h = tt
each-above (suc k) [] h = tt
each-above (suc k) (b ∷ bytes) h = (h 0 (omega arith) (omega arith), each-above k bytes (λ i low within. h (suc i) (omega arith) (omega arith)))

above-at : (a b c d e f g h word : ℕ) → a < 256 → b < 256 → c < 256 → d < 256 → e < 256 → f < 256 → g < 256 → h < 256 → word ≡ bytes8 a b c d e f g h
    → (i : ℕ) → i < count_trailing_zeros 64 (marks word) / 8 → i < 8 → 44 < get_or (a ∷ b ∷ c ∷ d ∷ e ∷ f ∷ g ∷ h ∷ []) i 0
above-at a b c d e f g h word sa sb sc sd se sf sg sh is =
    let ma = mark-small a sa in
    let mb = mark-small b sb in
    let mc = mark-small c sc in
    let md = mark-small d sd in
    let me = mark-small e se in
    let mf = mark-small f sf in
    let mg = mark-small g sg in
    let mh = mark-small h sh in
    let are = marks-are a b c d e f g h word sa sb sc sd se sf sg sh is in
    let fits : marks word < 18446744073709551616 = omega (arith, are) in
    let none = λ (i : ℕ) (low : i < count_trailing_zeros 64 (marks word)). none-below (marks word) i fits low in
    λ i low within. at i low within
    (λ l. mark-above a sa (omega (arith, are, none 7 (omega (arith, l)))))
    (λ l. mark-above b sb (omega (arith, are, none 15 (omega (arith, l)))))
    (λ l. mark-above c sc (omega (arith, are, none 23 (omega (arith, l)))))
    (λ l. mark-above d sd (omega (arith, are, none 31 (omega (arith, l)))))
    (λ l. mark-above e se (omega (arith, are, none 39 (omega (arith, l)))))
    (λ l. mark-above f sf (omega (arith, are, none 47 (omega (arith, l)))))
    (λ l. mark-above g sg (omega (arith, are, none 55 (omega (arith, l)))))
    (λ l. mark-above h sh (omega (arith, are, none 63 (omega (arith, l)))))
  where
    at : (i : ℕ) → i < count_trailing_zeros 64 (marks word) / 8 → i < 8
        → (0 < count_trailing_zeros 64 (marks word) / 8 → 44 < a) → (1 < count_trailing_zeros 64 (marks word) / 8 → 44 < b)
        → (2 < count_trailing_zeros 64 (marks word) / 8 → 44 < c) → (3 < count_trailing_zeros 64 (marks word) / 8 → 44 < d)
        → (4 < count_trailing_zeros 64 (marks word) / 8 → 44 < e) → (5 < count_trailing_zeros 64 (marks word) / 8 → 44 < f)
        → (6 < count_trailing_zeros 64 (marks word) / 8 → 44 < g) → (7 < count_trailing_zeros 64 (marks word) / 8 → 44 < h)
        → 44 < get_or (a ∷ b ∷ c ∷ d ∷ e ∷ f ∷ g ∷ h ∷ []) i 0
    at zero low within pa pb pc pd pe pf pg ph = pa low
    at (suc zero) low within pa pb pc pd pe pf pg ph = pb low
    at (suc (suc zero)) low within pa pb pc pd pe pf pg ph = pc low
    at (suc (suc (suc zero))) low within pa pb pc pd pe pf pg ph = pd low
    at (suc (suc (suc (suc zero)))) low within pa pb pc pd pe pf pg ph = pe low
    at (suc (suc (suc (suc (suc zero))))) low within pa pb pc pd pe pf pg ph = pf low
    at (suc (suc (suc (suc (suc (suc zero)))))) low within pa pb pc pd pe pf pg ph = pg low
    at (suc (suc (suc (suc (suc (suc (suc zero))))))) low within pa pb pc pd pe pf pg ph = ph low
    at (suc (suc (suc (suc (suc (suc (suc (suc i)))))))) low within pa pb pc pd pe pf pg ph = absurd (omega (arith, within))

-- the bytes of a word up to its first mark
pub front-above : (bytes : List ℕ) (word : ℕ) → IsWordOf word bytes → AboveComma (take (count_trailing_zeros 64 (marks word) / 8) bytes)
front-above [] word is = absurd (omega (arith, is.0))
front-above (a ∷ []) word is = absurd (omega (arith, is.0))
front-above (a ∷ b ∷ []) word is = absurd (omega (arith, is.0))
front-above (a ∷ b ∷ c ∷ []) word is = absurd (omega (arith, is.0))
front-above (a ∷ b ∷ c ∷ d ∷ []) word is = absurd (omega (arith, is.0))
front-above (a ∷ b ∷ c ∷ d ∷ e ∷ []) word is = absurd (omega (arith, is.0))
front-above (a ∷ b ∷ c ∷ d ∷ e ∷ f ∷ []) word is = absurd (omega (arith, is.0))
front-above (a ∷ b ∷ c ∷ d ∷ e ∷ f ∷ g ∷ []) word is = absurd (omega (arith, is.0))
front-above (a ∷ b ∷ c ∷ d ∷ e ∷ f ∷ g ∷ h ∷ []) word is =
    let small = is.1 in
    each-above (count_trailing_zeros 64 (marks word) / 8) (a ∷ b ∷ c ∷ d ∷ e ∷ f ∷ g ∷ h ∷ [])
    (above-at a b c d e f g h word small.0 small.1.0 small.1.1.0 small.1.1.1.0 small.1.1.1.1.0 small.1.1.1.1.1.0 small.1.1.1.1.1.1.0 small.1.1.1.1.1.1.1.0 is.2)
front-above (a ∷ b ∷ c ∷ d ∷ e ∷ f ∷ g ∷ h ∷ i ∷ more) word is = absurd (omega (arith, is.0))

above-join : (run more : List ℕ) → AboveComma run → AboveComma more → AboveComma (run ++ more)
above-join [] more all rest = rest
above-join (b ∷ run) more all rest = (all.0, above-join run more all.1 rest)

-- a part of a text, longer by the front of eight bytes that follow
pub part-longer : (text front : List ℕ) (from end count : ℕ) → from ≤ end → count ≤ 8 → take 8 (take (length text - end) (drop end text)) ≡ front
    → AboveComma (take (end - from) (drop from text)) → AboveComma (take count front) → AboveComma (take (end + count - from) (drop from text))
part-longer text front from end count low few is run more =
    let sum : end + count - from ≡ (end - from) + count = omega arith in
    let at : from + (end - from) ≡ end = omega arith in
    let rest : take (length text - end) (drop end text) ≡ drop end text = take_all (length text - end) (drop end text) (omega (arith, length-drop end text)) in
    let next : take count front ≡ take count (drop end text) = ap (take count) (sym is ∙ ap (take 8) rest) ∙ take-take count 8 (drop end text) few in
    let parts : take (end + count - from) (drop from text) ≡ take (end - from) (drop from text) ++ take count (drop end text) =
    ap (λ n. take n (drop from text)) sum ∙ take-add (end - from) count (drop from text)
    ∙ ap (λ rest. take (end - from) (drop from text) ++ take count rest) (drop-drop (end - from) from text ∙ ap (λ n. drop n text) at) in
    rw parts (above-join (take (end - from) (drop from text)) (take count (drop end text)) run (rw next at more))

pub eight-inside : (text : List ℕ) (end count : ℕ) → end ≤ length text → count ≤ 8 → 8 ≤ length (take (length text - end) (drop end text)) → end + count ≤ length text
eight-inside text end count high few enough =
    let rest : take (length text - end) (drop end text) ≡ drop end text = take_all (length text - end) (drop end text) (omega (arith, length-drop end text)) in
    let left : 8 ≤ length (drop end text) = rw rest at enough in
    omega (arith, left, length-drop end text)
