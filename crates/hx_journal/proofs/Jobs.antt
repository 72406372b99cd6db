-- Jobs with one header are one.
use Rattle.std.proofs.Common.{◌≡◌, ◌∷◌, ◌++◌, ℕ, List, [], length, refl, ap, arith}
use Rattle.hx_base.specs.declared.settings.Settings.{Settings}
use Rattle.hx_journal.specs.Headers.{Heading, IsHeading, Listed, header_of, heading_of, listed}
use Rattle.hx_journal.specs.Laws.{AreOneJob}
use Rattle.hx_journal.proofs.Headed.{one-heading}

pub says-one : (a b : Heading) → IsHeading a → IsHeading b → header_of a ≡ header_of b → a ≡ b
says-one a b fits also is = (one-heading a b [] [] fits also (ap (λ (l : List ℕ). l ++ []) is)).0

abbrev first : List Listed → Listed
first [] = record { len = 0; word = [] }
first (x ∷ xs) = x

abbrev others : List Listed → List Listed
others [] = []
others (x ∷ xs) = xs

abbrev record_of : ℕ → List ℕ → Listed
record_of len word = record { len = len; word = word }

same-lists : (lens counts : List ℕ) (words names : List (List ℕ)) → length words ≡ length lens → length names ≡ length counts → listed lens words ≡ listed counts names → (lens ≡ counts) × (words ≡ names)
same-lists [] [] [] [] one other e = (refl, refl)
same-lists [] [] [] (name ∷ names) one other e = absurd (omega (arith, other))
same-lists [] [] (word ∷ words) names one other e = absurd (omega (arith, one))
same-lists [] (count ∷ counts) words [] one other e = absurd (omega (arith, other))
same-lists [] (count ∷ counts) words (name ∷ names) one other e = absurd (omega (arith, ap length e))
same-lists (len ∷ lens) counts [] names one other e = absurd (omega (arith, one))
same-lists (len ∷ lens) [] (word ∷ words) names one other e = absurd (omega (arith, ap length e))
same-lists (len ∷ lens) (count ∷ counts) (word ∷ words) [] one other e = absurd (omega (arith, other))
same-lists (len ∷ lens) (count ∷ counts) (word ∷ words) (name ∷ names) one other e =
    let head : record_of len word ≡ record_of count name = ap first e in
    let more = same-lists lens counts words names (omega (arith, one)) (omega (arith, other)) (ap others e) in
    (λ k. (head k).len ∷ more.0 k, λ k. (head k).word ∷ more.1 k)

pub one-job : (s t : Settings) (lens counts : List ℕ) (words names : List (List ℕ))
    → IsHeading (heading_of s lens words) → IsHeading (heading_of t counts names) → length words ≡ length lens → length names ≡ length counts
    → header_of (heading_of s lens words) ≡ header_of (heading_of t counts names) → AreOneJob s t lens counts words names
one-job s t lens counts words names fits also one other is =
    let same = says-one (heading_of s lens words) (heading_of t counts names) fits also is in
    let lists = same-lists lens counts words names one other (ap (λ (h : Heading). h.inputs) same) in
    record { settings = ap (λ (h : Heading). h.settings) same; lengths = lists.0; texts = lists.1 }
