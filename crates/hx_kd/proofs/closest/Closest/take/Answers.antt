use Rattle.std.proofs.Common.{◌≡◌, ◌∙◌, ◌<◌, ◌⊎◌, ◌++◌, ◌∷◌, [], ℕ, Some, false, subst, sym, arith, inl, inr}
use Rattle.hx_kd.specs.Closest.{IsClosestOf, stays}
use Rattle.hx_base.specs.Chords.{chord2_of}
use Rattle.hx_kd.proofs.Keeping.{kept_held, kept_taken}
use Rattle.hx_kd.proofs.closest.Closest.take.Goals as goal
use Rattle.hx_kd.proofs.closest.Closest.take.Goals.{then-chord2-self-via-then-chord2-self, then-chord2-self-via-else-chord2-self+then-not-stays}

pub returns-then-chord2-self : goal.returns-then-chord2-self
returns-then-chord2-self c = λ from r2 seen e h.
    let le = c.requires in
    let why : (chord2_of from c.args.row.now < c.args.self.now.limit) ⊎ (stays c.args.self.now.found c.args.row.now ≡ false) =
    elim c.then-chord2-self.branch [
      | then-chord2-self-via-then-chord2-self w ↦ inl (let t = w.if-chord2-self.true in omega (arith, e, t))
      | then-chord2-self-via-else-chord2-self+then-not-stays w ↦ inr (sym w.stays.ensures ∙ w.if-not-stays.true)
    ] in
    subst (λ (n : ℕ). IsClosestOf from r2 (seen ++ c.args.row.now ∷ []) (record { limit = n; found = Some c.args.row.now })) (sym e)
    (kept_taken from r2 seen c.args.row.now c.args.self.now (omega (arith, e, le)) h why)

pub returns-else-not-stays : goal.returns-else-not-stays
returns-else-not-stays c = λ from r2 seen e h.
    let le = c.requires in
    let ge = c.if-chord2-self.false in
    kept_held from r2 seen c.args.row.now c.args.self.now (omega (arith, e, le, ge)) h (sym c.stays.ensures ∙ c.if-not-stays.false)
