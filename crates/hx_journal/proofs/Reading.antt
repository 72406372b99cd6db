-- How a journal is read, gate by gate.
use Rattle.std.proofs.Common.{◌≡◌, ◌≢◌, ◌<◌, ◌+◌, ◌-◌, ◌*◌, ◌∙◌, ◌∷◌, ◌++◌, ℕ, List, [], Some, length, drop, get_or, refl, sym, ap, inr, arith, length-append}
use Rattle.hx_journal.specs.Headers.{IsHeader}
use Rattle.hx_journal.specs.Journal.{AreRecords, BeginsByBody, HasNoBody, IsBroken, IsFirstDamage, Stands, body, front}
use Rattle.hx_journal.specs.declared.record.Record.{Record}
use Rattle.hx_journal.proofs.Gates.{front-push, length-front}

module _ (bytes header : List ℕ) (rs : List Record) (rest : List ℕ) (form : bytes ≡ front header rs ++ rest) where
  pub gate_place : length bytes - length rest ≡ length header + 33 * length rs
  gate_place = omega (arith, ap length form, length-append (front header rs) rest, length-front header rs)

  pub damage : IsHeader header → AreRecords rs → IsBroken rs rest → IsFirstDamage bytes (length bytes - length rest)
  damage heading sound broken = inr (record { header = header; heading = heading; records = rs; sound = sound; rest = rest; is = form; at = omega (arith, ap length form, length-append (front header rs) rest); broken = broken })

-- the first gate
pub first_gate : (rest : List ℕ) → 0 < length rest → rest ≡ get_or rest 0 0 ∷ drop 1 rest
first_gate [] some = absurd (omega (arith, some))
first_gate (gate ∷ rest) some = refl

pub no_gate_at : (rs : List Record) (rest : List ℕ) → length rest ≡ 0 → rs ≡ [] → IsBroken rs rest
no_gate_at rs [] none no_records = no_records
no_gate_at rs (gate ∷ rest) none no_records = absurd (omega (arith, none))

pub no_body_at : (rs : List Record) (rest : List ℕ) → 0 < length rest → get_or rest 0 0 ≡ 1 → HasNoBody (drop 1 rest) → IsBroken rs rest
no_body_at rs [] some opened none = absurd (omega (arith, some))
no_body_at rs (gate ∷ rest) some opened none = (opened, none)

pub record_more : (bytes header rest after : List ℕ) (rs : List Record) (r : Record) → bytes ≡ front header rs ++ rest → 0 < length rest → get_or rest 0 0 ≡ 1 → BeginsByBody (drop 1 rest) r after
    → bytes ≡ front header (rs ++ r ∷ []) ++ after
record_more bytes header rest after rs r form some opened begins =
    form ∙ ap (λ (l : List ℕ). front header rs ++ l) (first_gate rest some ∙ (λ k. opened k ∷ begins.2 k)) ∙ sym (front-push header rs r after)

pub fewer : (rest after : List ℕ) (r : Record) → 0 < length rest → BeginsByBody (drop 1 rest) r after → length after < length rest
fewer rest after r some begins = omega (arith, ap length (first_gate rest some), ap length begins.2, length-append (body r) after)

pub stands_at : (bytes header rest : List ℕ) (rs : List Record) → bytes ≡ front header rs ++ rest → AreRecords rs → 0 < length rest → get_or rest 0 0 ≢ 1 → Stands header rs (Some bytes)
stands_at bytes header rest rs form sound some shut =
    record { gate = get_or rest 0 0; rest = drop 1 rest; closed = shut; sound = sound; is = ap (λ (l : List ℕ). Some l) (form ∙ ap (λ (l : List ℕ). front header rs ++ l) (first_gate rest some)) }
