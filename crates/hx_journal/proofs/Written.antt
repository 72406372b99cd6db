-- Headers as they are written, line by line.
use Rattle.std.proofs.Common.{◌≡◌, ◌≤◌, ◌<◌, ◌∙◌, ◌++◌, ◌∷◌, [], suc, zero, ℕ, List, map, length, take, get_or, codes, refl, sym, ap, subst, arith, append_assoc}
use Rattle.std.proofs.lemmas.List.{take_all}
use Rattle.hx_journal.specs.Headers.{AreListed, IsListed, Listed, input_line, input_lines, listed, text_of}

pub text-append : (xs ys : List (List ℕ)) → text_of (xs ++ ys) ≡ text_of xs ++ text_of ys
text-append [] ys = refl
text-append (x ∷ xs) ys = ap (λ (t : List ℕ). x ++ 10 ∷ t) (text-append xs ys) ∙ sym (append_assoc x (10 ∷ text_of xs) (text_of ys))

-- one line more
pub line-written : (lines : List (List ℕ)) (line old new : List ℕ) → old ≡ text_of lines → new ≡ old ++ line ++ 10 ∷ [] → new ≡ text_of (lines ++ line ∷ [])
line-written lines line old new was is =
    is ∙ ap (λ (t : List ℕ). t ++ line ++ 10 ∷ []) was ∙ append_assoc (text_of lines) line (10 ∷ []) ∙ sym (text-append lines (line ∷ []))

pub length-listed : (lens : List ℕ) (words : List (List ℕ)) → length words ≡ length lens → length (listed lens words) ≡ length lens
length-listed [] words same = refl
length-listed (len ∷ lens) [] same = absurd (omega (arith, same))
length-listed (len ∷ lens) (word ∷ words) same = ap suc (length-listed lens words (omega (arith, same)))

pub length-lines : (inputs : List Listed) → length (map input_line inputs) ≡ length inputs
length-lines [] = refl
length-lines (input ∷ inputs) = ap suc (length-lines inputs)

one-input : (lens : List ℕ) (words : List (List ℕ)) (none : List ℕ) (i : ℕ) → i < length lens → length words ≡ length lens
    → take (suc i) (map input_line (listed lens words)) ≡ take i (map input_line (listed lens words)) ++ input_line (record { len = get_or lens i 0; word = get_or words i none }) ∷ []
one-input [] words none i within same = absurd (omega (arith, within))
one-input (len ∷ lens) [] none i within same = absurd (omega (arith, same))
one-input (len ∷ lens) (word ∷ words) none zero within same = refl
one-input (len ∷ lens) (word ∷ words) none (suc i) within same = ap (λ (t : List (List ℕ)). input_line (record { len = len; word = word }) ∷ t) (one-input lens words none i (omega (arith, within)) (omega (arith, same)))

pub input-written : (start old new : List ℕ) (lens : List ℕ) (words : List (List ℕ)) (none : List ℕ) (i : ℕ) → i < length lens → length words ≡ length lens
    → old ≡ start ++ text_of (take i (map input_line (listed lens words)))
    → new ≡ old ++ input_line (record { len = get_or lens i 0; word = get_or words i none }) ++ 10 ∷ []
    → new ≡ start ++ text_of (take (suc i) (map input_line (listed lens words)))
input-written start old new lens words none i within same was is =
    let line = input_line (record { len = get_or lens i 0; word = get_or words i none }) in
    let lines = take i (map input_line (listed lens words)) in
    is ∙ ap (λ (t : List ℕ). t ++ line ++ 10 ∷ []) was ∙ append_assoc (start ++ text_of lines) line (10 ∷ []) ∙ append_assoc start (text_of lines) (line ++ 10 ∷ [])
    ∙ ap (λ (t : List ℕ). start ++ t) (sym (text-append lines (line ∷ [])) ∙ ap text_of (sym (one-input lens words none i within same)))

pub all-written : (lens : List ℕ) (words : List (List ℕ)) (n : ℕ) → length lens ≤ n → length words ≡ length lens → take n (map input_line (listed lens words)) ≡ map input_line (listed lens words)
all-written lens words n all same = take_all n (map input_line (listed lens words)) (omega (arith, all, length-lines (listed lens words), length-listed lens words same))

-- one input more
pub input-sound : (lens : List ℕ) (words : List (List ℕ)) (none : List ℕ) (i : ℕ) → i < length lens → length words ≡ length lens → AreListed (take i (listed lens words))
    → IsListed (record { len = get_or lens i 0; word = get_or words i none }) → AreListed (take (suc i) (listed lens words))
input-sound [] words none i within same all one = absurd (omega (arith, within))
input-sound (len ∷ lens) [] none i within same all one = absurd (omega (arith, same))
input-sound (len ∷ lens) (word ∷ words) none zero within same all one = (one, tt)
input-sound (len ∷ lens) (word ∷ words) none (suc i) within same all one = (all.0, input-sound lens words none i (omega (arith, within)) (omega (arith, same)) all.1 one)

pub all-sound : (lens : List ℕ) (words : List (List ℕ)) (n : ℕ) → length lens ≤ n → length words ≡ length lens → AreListed (take n (listed lens words)) → AreListed (listed lens words)
all-sound lens words n all same sound = subst AreListed (take_all n (listed lens words) (omega (arith, all, length-listed lens words same))) sound

-- the first lines, those of the inputs and the end
pub all-lines : (head : List (List ℕ)) (inputs : List Listed) (first second third : List ℕ) → first ≡ text_of head → second ≡ first ++ text_of (map input_line inputs) → third ≡ second ++ codes "end\n" → third ≡ text_of (head ++ input_lines inputs)
all-lines head inputs first second third is_first is_second is_third =
    is_third ∙ ap (λ (t : List ℕ). t ++ codes "end\n") (is_second ∙ ap (λ (t : List ℕ). t ++ text_of (map input_line inputs)) is_first)
    ∙ append_assoc (text_of head) (text_of (map input_line inputs)) (codes "end\n")
    ∙ ap (λ (t : List ℕ). text_of head ++ t) (sym (text-append (map input_line inputs) (codes "end" ∷ [])))
    ∙ sym (text-append head (input_lines inputs))
