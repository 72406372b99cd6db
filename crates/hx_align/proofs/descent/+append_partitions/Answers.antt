use Rattle.std.proofs.Common.{◌↔◌, ◌∙◌, ◌++◌, ◌∷◌, [], List, ap, Bool, false, IsTrue, ◌≡◌, ◌+◌, ◌-◌, ◌<◌, ◌≤◌, ℕ, length, take, drop, arith, inl, inr}
use Rattle.std.proofs.lemmas.List.{take_all}
use Rattle.std.proofs.lemmas.Bool.{cases_lt}
use Rattle.hx_hist.specs.Histograms.{total_of}
use Rattle.hx_align.specs.declared.plan.PlanRow.{PlanRow}
use Rattle.hx_align.proofs.Runs.{Cuttable, appends_cut, appends_whole, is_below_highest, is_run_of_rest, part_cuttable, part_total, parted_behind, rest_is}
use Rattle.hx_align.proofs.descent.+append_partitions.Goals as goal

-- what doesn't fit is more
more_than : (fits : Bool) (count threshold : ℕ) → fits ≡ false → (IsTrue fits ↔ (count ≤ threshold)) → threshold < count
more_than fits count threshold e h = elim (cases_lt threshold count) [
  | inl more ↦ more
  | inr le ↦ let yes = h.1 le in absurd (cc)
]

pub first_run-run-requires-clause-total : goal.first_run-run-requires-clause-total
first_run-run-requires-clause-total t c =
    let pairs = c.args.pairs.now in
    let part = part_total pairs c.loop-start.start (length pairs - c.loop-start.start) in
    omega (arith, part, c.requires.total)

pub append_partitions-requires : goal.append_partitions-requires
append_partitions-requires t c =
    let pairs = c.args.pairs.now in
    let start = c.loop-start.start in
    let run = c.first_run-run in
    let size = run.result.pairs in
    let here = is_run_of_rest pairs (c.args.highest - c.args.lowest) run.result.pixel.number start size c.loop-start.invariant.within run.ensures.some run.ensures.within run.ensures.run run.ensures.end in
    let whole : Cuttable c.args.highest c.args.threshold pairs = record { histogram = c.requires.histogram; total = c.requires.total; fits = c.requires.fits } in
    let count : run.result.count ≡ total_of (take size (drop start pairs)) = rw (rest_is pairs start) at run.ensures.count in
    let below = is_below_highest pairs c.args.lowest c.args.highest c.args.threshold run.result.pixel.number start size c.requires.lowest c.requires.highest whole here (rw count at (more_than c.fits.result run.result.count c.args.threshold c.if-fits.false c.fits.ensures)) in
    let part = part_cuttable c.args.highest c.args.threshold start (start + size - start) pairs whole in
    (omega arith, (below, (c.requires.highest, (part.histogram, (part.total, part.fits)))))

pub loop-start-preserved-in_ok-push : goal.loop-start-preserved-in_ok-push
loop-start-preserved-in_ok-push t c =
    let pairs = c.args.pairs.now in
    let start = c.loop-start.start in
    let run = c.first_run-run in
    let size = run.result.pairs in
    let here = is_run_of_rest pairs (c.args.highest - c.args.lowest) run.result.pixel.number start size c.loop-start.invariant.within run.ensures.some run.ensures.within run.ensures.run run.ensures.end in
    let count : run.result.count ≡ total_of (take size (drop start pairs)) = rw (rest_is pairs start) at run.ensures.count in
    let rows : ℕ → List PlanRow = λ order. c.loop-start.rows.items ++ (record { pixel = record { order = order; number = run.result.pixel.number }; count = run.result.count }) ∷ [] in
    record {
      within = here.within;
      parted = parted_behind pairs (c.args.highest - c.args.lowest) run.result.pixel.number start size c.requires.histogram.ascending here c.loop-start.invariant.parted;
      plan =
          appends_whole pairs c.args.lowest c.args.highest c.args.threshold run.result.pixel.number start size c.requires.lowest c.requires.highest c.requires.histogram here c.loop-start.invariant.parted
          c.args.rows.now.items c.loop-start.rows.items _ c.loop-start.invariant.plan run.result.count count (c.fits.ensures.0 c.if-fits.true) (c.in_ok-push.ensures.items ∙ ap rows run.ensures.order);
    }

pub loop-start-preserved : goal.loop-start-preserved
loop-start-preserved t c =
    let pairs = c.args.pairs.now in
    let start = c.loop-start.start in
    let run = c.first_run-run in
    let size = run.result.pairs in
    let here = is_run_of_rest pairs (c.args.highest - c.args.lowest) run.result.pixel.number start size c.loop-start.invariant.within run.ensures.some run.ensures.within run.ensures.run run.ensures.end in
    let count : run.result.count ≡ total_of (take size (drop start pairs)) = rw (rest_is pairs start) at run.ensures.count in
    let e : start + size - start ≡ size = omega arith in
    record {
      within = here.within;
      parted = parted_behind pairs (c.args.highest - c.args.lowest) run.result.pixel.number start size c.requires.histogram.ascending here c.loop-start.invariant.parted;
      plan =
          appends_cut pairs c.args.lowest c.args.highest c.args.threshold run.result.pixel.number start size c.requires.lowest c.requires.highest c.requires.histogram here c.loop-start.invariant.parted
          c.args.rows.now.items c.loop-start.rows.items _ c.loop-start.invariant.plan (rw count at (more_than c.fits.result run.result.count c.args.threshold c.if-fits.false c.fits.ensures)) (rw e at c.in_ok-append_partitions.ensures);
    }

pub returns : goal.returns
returns t c =
    let pairs = c.args.pairs.now in
    let all = take_all c.loop-start.start pairs (omega arith) in
    rw all at c.loop-start.invariant.plan
