use Rattle.std.proofs.Common.{◌≡◌, ◌∙◌, ◌-◌, ◌<◌, ◌≤◌, ℕ, ap, arith, get_or, inl, inr, length, pos, take}
use Rattle.std.proofs.lemmas.Bool.{cases_eq}
use Rattle.std.proofs.lemmas.List.{get_or_default, length-take}
use Rattle.std.proofs.lemmas.List.Quantifiers.{all_pairs_push}
use Rattle.hx_spill.specs.Splits.{placed_cmp}
use Rattle.hx_spill.specs.declared.split.Placed.{Placed}
use Rattle.hx_spill.specs.declared.split.head.Entry.{Entry}
use Rattle.hx_spill.proofs.Order.{in_order, part_le, placed_total}
use Rattle.hx_spill.proofs.PlanRows.{next_all}
use Rattle.hx_spill.proofs.Runs.{length-run, run, run_is, tell-more}
use Rattle.hx_spill.proofs.split.runs.entries_of.Goals as goal

pub loop-first-preserved : goal.loop-first-preserved
loop-first-preserved c =
    let at = c.loop-first.invariant in
    let placed = c.args.rows.now in
    let first = c.loop-first.first in
    let end = c.end_of_run-end.result in
    let is = c.end_of_run-end.ensures in
    let pairs = in_order placed_cmp placed_total placed c.requires in
    let z : Placed = record { part = 0; row = record { hp = 0; id = pos 0; x = pos 0; y = pos 0; z = pos 0 } } in
    let entry : Entry = record { part = (get_or placed first z).part; first = first; rows = end - first } in
    let inside : first < length placed = c.loop-first-test.true in
    let same : (k : ℕ) (d : Placed) → first ≤ k → k < end → (get_or placed k d).part ≡ entry.part = λ k d lo hi. is.same k d lo hi ∙ ap (λ (p : Placed). p.part) (get_or_default placed first d z inside) in
    let number = length-take first placed in
    let tell = tell-more 0 c.loop-first.entries.items (take first placed) entry (run first end placed) at.tell (omega (arith, number, inside)) (omega (arith, is.some)) (length-run first end placed (omega (arith, is.some)) is.within) in
    let later : (k : ℕ) (d : Placed) → end ≤ k → k < length placed → entry.part < (get_or placed k d).part = λ k d lo hi.
    let here = ap (λ (p : Placed). p.part) (get_or_default placed first d z inside) in
    let next = part_le (get_or placed first d) (get_or placed end d) (pairs first end d is.some (omega (arith, lo, hi))) in
    let other = is.other d (omega (arith, lo, hi)) in
    elim (cases_eq end k) [
      | inl e ↦ let reads : (get_or placed end d).part ≡ (get_or placed k d).part = ap (λ (j : ℕ). (get_or placed j d).part) e in omega (arith, here, next, other, reads)
      | inr ne ↦ let more = part_le (get_or placed end d) (get_or placed k d) (pairs end k d (omega (arith, lo)) hi) in omega (arith, here, next, other, more)
    ] in
    rw c.in_ok-push.ensures record {
      within = is.within;
      tell = rw (run_is entry.part first end placed (omega (arith, is.some)) is.within same) tell;
      ascend = all_pairs_push (λ a b. a.part < b.part) c.loop-first.entries.items entry at.ascend (λ k d lt. at.below k d lt first z (omega arith) inside);
      below = next_all (λ (e : Entry). (k : ℕ) → (d : Placed) → end ≤ k → k < length placed → e.part < (get_or placed k d).part) c.loop-first.entries.items entry later
          (λ k d lt j e lo hi. at.below k d lt j e (omega (arith, is.some, lo)) hi);
    }
