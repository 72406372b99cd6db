-- Numbers with a blank between.
use Rattle.std.proofs.Common.{◌≡◌, ◌+◌, ◌<◌, ◌++◌, ◌∷◌, ◌∙◌, ℕ, List, [], length, take, get_or, arith, sym, ap, refl, append_assoc}
use Rattle.std.specs.Fmt.{decimal}
use Rattle.std.specs.List.{flat_map}
use Rattle.std.proofs.lemmas.List.{append-nil, length-take, take_more}
use Rattle.std.proofs.lemmas.List.Concat.{flat_map-append}
use Rattle.hx_cli.specs.Neighbours.{spaced, with_blank}

behind-text : (text : List ℕ) → 0 < length text → with_blank text ≡ text ++ 32 ∷ []
behind-text [] some = absurd (omega (arith, some))
behind-text (b ∷ text) some = refl

abbrev others : List ℕ → List ℕ
others numbers = flat_map (λ number. 32 ∷ decimal number) numbers

spaced-more : (numbers : List ℕ) (n : ℕ) (text : List ℕ) → (0 < length numbers → 0 < length text) → text ≡ spaced numbers → with_blank text ++ decimal n ≡ spaced (numbers ++ n ∷ [])
spaced-more [] n text some is = rw is (sym (append-nil (decimal n)))
spaced-more (m ∷ numbers) n text some is =
    let all : others (numbers ++ n ∷ []) ≡ others numbers ++ (32 ∷ decimal n) = flat_map-append (λ (number : ℕ). 32 ∷ decimal number) numbers (n ∷ []) ∙ ap (λ (t : List ℕ). others numbers ++ t) (append-nil (32 ∷ decimal n)) in
    let apart : text ++ 32 ∷ [] ++ decimal n ≡ text ++ (32 ∷ decimal n) = append_assoc text (32 ∷ []) (decimal n) in
    ap (λ (t : List ℕ). t ++ decimal n) (behind-text text (some (omega arith))) ∙ apart ∙ rw is (append_assoc (decimal m) (others numbers) (32 ∷ decimal n) ∙ ap (λ (t : List ℕ). decimal m ++ t) (sym all))

-- one number more
pub spaced_next : (numbers : List ℕ) (i n : ℕ) (text : List ℕ) → i < length numbers → n ≡ get_or numbers i n → (0 < i → 0 < length text) → text ≡ spaced (take i numbers)
    → with_blank text ++ decimal n ≡ spaced (take (i + 1) numbers)
spaced_next numbers i n text below is some so_far =
    rw (take_more numbers i n below, ← is) (spaced-more (take i numbers) n text (λ more. some (omega (arith, more, length-take i numbers))) so_far)
