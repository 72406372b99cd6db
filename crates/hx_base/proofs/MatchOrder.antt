-- Rows by their chord from a row are totally ordered, and rows that compare equal are one.
use Rattle.std.proofs.Common.{◌≡◌, ◌∙◌, ap, sym, refl, Less, Equal, Greater, inl, inr, ◌⊎◌}
use Rattle.std.specs.Cmp.{IsTotalOrder}
use Rattle.std.specs.Ordering.{int_cmp, nat_cmp, ordering_reverse, ordering_then}
use Rattle.std.specs.declared.cmp.Ordering.{Ordering}
use Rattle.std.proofs.lemmas.Cmp.{int_cmp_total, nat_cmp_total, on_total, then_total, tied_itself}
use Rattle.hx_base.specs.declared.row.Row.{Row}
use Rattle.hx_base.specs.Chords.{chord2_of}
use Rattle.hx_base.specs.Nearest.{match_cmp}
use Rattle.hx_base.proofs.RowOrder.{rows_exact, rows_total}

pub match_total : (from : Row) → IsTotalOrder (match_cmp from)
match_total from =
    then_total (on_total (λ (r : Row). chord2_of from r) nat_cmp_total)
    (then_total (on_total (λ (r : Row). r.id) int_cmp_total) rows_total)

last_equal : (o p : Ordering) → ordering_then o p ≡ Equal → p ≡ Equal
last_equal Less p h = cc h
last_equal Equal p h = h
last_equal Greater p h = cc h

pub match_exact : (from a b : Row) → match_cmp from a b ≡ Equal → a ≡ b
match_exact from a b h = rows_exact a b (last_equal (int_cmp a.id b.id) _ (last_equal (nat_cmp (chord2_of from a) (chord2_of from b)) _ h))

-- what was compared already decides nothing later on
pub compared_once : (o p q : Ordering) → ordering_then o (ordering_then p (ordering_then o q)) ≡ ordering_then o (ordering_then p q)
compared_once Less p q = refl
compared_once Equal p q = refl
compared_once Greater p q = refl

pub not_before_itself : (from a : Row) → ¬ (match_cmp from a a ≡ Less)
not_before_itself from a h = let tied = tied_itself (match_total from) a in apart (sym h ∙ tied)
  where
    apart : Less ≡ Equal → ⊥
    apart e = cc

-- of two rows one is before the other, or they are one
one_of : (from a b : Row) (o : Ordering) → match_cmp from a b ≡ o → (match_cmp from a b ≡ Less) ⊎ (a ≡ b) ⊎ (match_cmp from b a ≡ Less)
one_of from a b Less e = inl e
one_of from a b Equal e = inr (inl (match_exact from a b e))
one_of from a b Greater e = inr (inr ((match_total from).antisymm b a ∙ ap ordering_reverse e))

pub match_cases : (from a b : Row) → (match_cmp from a b ≡ Less) ⊎ (a ≡ b) ⊎ (match_cmp from b a ≡ Less)
match_cases from a b = one_of from a b (match_cmp from a b) refl
