-- Words that name inputs.
use Rattle.std.proofs.Common.{◌≡◌, ◌∙◌, ◌==◌, ◌<◌, ◌≤◌, ◌-◌, ◌∷◌, get_or, take, drop, ap, sym, [], false, ℕ, List, All, String, Global, length, map, string_bytes, arith, refl, subst}
use Rattle.std.proofs.Math.ListN.{get_or-map}
use Rattle.std.proofs.lemmas.List.{length-map, take_rest}
use Rattle.std.proofs.lemmas.List.Elements.{All-map}
use Rattle.hx_base.specs.FileWords.{IsFileWord}
use Rattle.hx_words.specs.Words.{AreFiles}

abbrev text : String Global → List ℕ
text word = string_bytes word

pub files_are : (words : List (String Global)) → 0 < length words → All (λ (word : String Global). IsFileWord (string_bytes word)) words → AreFiles (map string_bytes words)
files_are words some each = record { some = omega (arith, length-map words text); each = All-map IsFileWord string_bytes words each }

pub words_are : (words : List (String Global)) → AreFiles (map string_bytes words) → All (λ (word : String Global). IsFileWord (string_bytes word)) words
words_are words files = λ k d within. subst IsFileWord (get_or-map text words k d) (files.each k (text d) (omega (arith, within, length-map words text)))

pub some_word : {X : Type 0} (words : List X) → false ≡ (length words == 0) → 0 < length words
some_word [] some = cc some
some_word (w ∷ words) some = omega arith

-- the first word of a line, and those behind it
pub first_and_rest : (words : List (String Global)) (first : String Global) → 1 ≤ length words → first ≡ get_or words 0 first
    → map text words ≡ string_bytes first ∷ map string_bytes (take (length words - 1) (drop 1 words))
first_and_rest [] first some is = absurd (omega (arith, some))
first_and_rest (w ∷ words) first some is = rw (take_rest (w ∷ words) 1) (ap (λ (x : String Global). string_bytes x ∷ map text words) (sym is))

-- what two words say
pub two_words : (words : List (String Global)) (first second : String Global) → first ≡ get_or words 0 first → second ≡ get_or words 1 second
    → (a b : List ℕ) → map text words ≡ a ∷ b ∷ [] → (string_bytes first ≡ a) × (string_bytes second ≡ b)
two_words [] first second is_first is_second a b are = cc are
two_words (w ∷ []) first second is_first is_second a b are = cc are
two_words (w ∷ v ∷ words) first second is_first is_second a b are =
    let head : text w ≡ a = cc are in
    let next : text v ≡ b = cc are in
    (ap text is_first ∙ head, ap text is_second ∙ next)

-- the texts of four words
pub four_words : (words : List (String Global)) (a b c d : String Global) → 4 ≤ length words → length words < 5 → a ≡ get_or words 0 a → b ≡ get_or words 1 b → c ≡ get_or words 2 c → d ≡ get_or words 3 d
    → map text words ≡ string_bytes a ∷ string_bytes b ∷ string_bytes c ∷ string_bytes d ∷ []
four_words [] a b c d least most is_a is_b is_c is_d = absurd (omega (arith, least))
four_words (w ∷ []) a b c d least most is_a is_b is_c is_d = absurd (omega (arith, least))
four_words (w ∷ v ∷ []) a b c d least most is_a is_b is_c is_d = absurd (omega (arith, least))
four_words (w ∷ v ∷ u ∷ []) a b c d least most is_a is_b is_c is_d = absurd (omega (arith, least))
four_words (w ∷ v ∷ u ∷ t ∷ []) a b c d least most is_a is_b is_c is_d = rw (is_a, is_b, is_c, is_d) refl
four_words (w ∷ v ∷ u ∷ t ∷ s ∷ words) a b c d least most is_a is_b is_c is_d = absurd (omega (arith, most))
