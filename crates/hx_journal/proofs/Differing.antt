-- Headers that don't differ where both have a byte.
use Rattle.std.proofs.Common.{◌≡◌, ◌≤◌, ◌∙◌, ◌++◌, ℕ, List, [], length, take, drop, min, sym, ap, inl, inr, arith, append-nil, take-append-drop}
use Rattle.std.proofs.Math.Nat.{min-eq_left, min-eq_right}
use Rattle.std.proofs.lemmas.Bool.{cases_lt}
use Rattle.std.proofs.lemmas.List.{take_all}
use Rattle.hx_journal.specs.Headers.{IsHeader}
use Rattle.hx_journal.proofs.Headed.{one-header}

-- the shorter of two is the front of the other
front-is : (one other : List ℕ) (n : ℕ) → length one ≤ n → take n one ≡ take n other → one ++ drop n other ≡ other
front-is one other n all same = ap (λ (l : List ℕ). l ++ drop n other) (sym (take_all n one all) ∙ same) ∙ take-append-drop n other

pub same-headers : (kept asked : List ℕ) (n : ℕ) → IsHeader kept → IsHeader asked → min (length kept) (length asked) ≤ n → take n kept ≡ take n asked → kept ≡ asked
same-headers kept asked n heading other all same =
    elim (cases_lt (length kept) (length asked)) [
      | inl less ↦ (one-header kept asked (drop n asked) [] heading other (front-is kept asked n (rw (min-eq_left {n = length kept} {m = length asked} (omega (arith, less))) at all) same ∙ sym (append-nil asked))).0
      | inr more ↦ sym ((one-header asked kept (drop n kept) [] other heading (front-is asked kept n (rw (min-eq_right {n = length asked} {m = length kept} (omega (arith, more))) at all) (sym same) ∙ sym (append-nil kept))).0)
    ]
