use Rattle.std.proofs.Common.{◌≡◌, ◌∙◌, ◌+◌, ◌≤◌, ◌∷◌, ◌++◌, ℕ, [], refl, sym, ap, arith, inl, inr, Option, Some, None, if◌then◌else◌, ◌==◌}
use Rattle.std.proofs.lemmas.Bool.Decides.{nat_tests}
use Rattle.std.proofs.lemmas.Result.{err_from_is_err_and}
use Rattle.std.specs.Option.{option_or}
use Rattle.hx_spill.specs.Splits.{entry_behind}
use Rattle.hx_spill.specs.declared.split.head.Entry.{Entry}
use Rattle.hx_spill.proofs.Each.{each-length, each-more, each-none, each-stopped, each-stops}
use Rattle.hx_spill.proofs.Heads.{either_fits, found_entries, head_is, more_fits, next_below, next_found, next_rows, refused_entries, same_entry}
use Rattle.hx_spill.proofs.split.head.read_entries.Goals as goal

pub loop-index-init : goal.loop-index-init
loop-index-init c = record {
  entries = [];
  read = each-none (entry_behind c.args.n c.args.bytes.now);
  count = refl;
  rows = refl;
  found = refl;
  below = λ p. grind (arith, nat_tests);
  place = refl;
  within = c.requires;
  fits = inl (refl, refl);
  found_fits = tt;
}

pub returns-in_err-entry-clause-value : goal.returns-in_err-entry-clause-value
returns-in_err-entry-clause-value c =
    let at = c.loop-index.invariant in
    let entry = entry_behind c.args.n c.args.bytes.now in
    let same = same_entry c.loop-index.index c.args.n c.loop-index.least c.loop-index.at c.loop-index.head.rows c.args.bytes.now at.entries at.read at.place at.rows at.below in
    let given = err_from_is_err_and c.from_residual.result c.from_residual.ensures.1 in
    let stop = each-stops entry c.loop-index.index at.entries c.in_err-entry.field-0.0 at.read (same ∙ sym c.in_err-entry.ensures.value) in
    rw (given.1, given.2) (sym (refused_entries c.args.part c.args.n c.args.bytes.now c.in_err-entry.field-0.0 (each-stopped entry c.args.n (c.loop-index.index + 1) c.in_err-entry.field-0.0 (omega (arith, c.loop-index-test.true)) stop)))

pub loop-index-preserved : goal.loop-index-preserved
loop-index-preserved c =
    let at = c.loop-index.invariant in
    let entry = c.in_ok-entry.entry in
    let read = c.in_ok-entry.ensures in
    let same = same_entry c.loop-index.index c.args.n c.loop-index.least c.loop-index.at c.loop-index.head.rows c.args.bytes.now at.entries at.read at.place at.rows at.below in
    record {
      entries = at.entries ++ entry ∷ [];
      read = each-more (entry_behind c.args.n c.args.bytes.now) c.loop-index.index at.entries entry at.read (same ∙ sym read.value);
      count = at.count;
      rows = ap (λ (k : ℕ). k + entry.rows) at.rows ∙ sym (next_rows at.entries entry);
      found = c.first_of-head.ensures ∙ ap (λ (o : Option Entry). option_or o (if entry.part == c.args.part then Some entry else None)) at.found ∙ sym (next_found c.args.part at.entries entry);
      below = rw c.from-least.ensures (next_below at.entries entry c.loop-index.least read.least at.below);
      place = omega (arith, at.place);
      within = read.there;
      fits = inr read.fits;
      found_fits = rw c.first_of-head.ensures (either_fits (λ e. e.first + e.rows ≤ c.loop-index.head.rows + entry.rows) c.loop-index.head.found entry _ (more_fits entry.rows c.loop-index.head.rows c.loop-index.head.found at.found_fits) (omega (arith, read.first)));
    }

pub returns-clause-value : goal.returns-clause-value
returns-clause-value c =
    let at = c.loop-index.invariant in
    let done : c.loop-index.index ≡ c.args.n = omega arith in
    let read = rw done at at.read in
    let number = each-length (entry_behind c.args.n c.args.bytes.now) c.args.n at.entries read in
    rw (head_is c.loop-index.head c.args.part at.entries (at.count ∙ sym number) at.rows at.found) (sym (found_entries c.args.part c.args.n c.args.bytes.now at.entries read))
