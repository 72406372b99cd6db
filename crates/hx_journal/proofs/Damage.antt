-- The gates of a journal end at one place.
use Rattle.std.proofs.Common.{◌≡◌, ◌≢◌, ◌<◌, ◌-◌, ◌∙◌, ◌∷◌, ◌++◌, ℕ, List, [], Option, Some, None, MatchOption, length, take, drop, get_or, refl, sym, ap, inl, inr, arith, append_assoc, append-nil}
use Rattle.std.proofs.lemmas.List.{take_at, drop_at}
use Rattle.hx_journal.specs.Headers.{IsHeader}
use Rattle.hx_journal.specs.Journal.{AreRecords, BeginsByBody, BeginsByHeader, HasNoBody, HasNoHeader, IsBroken, IsFirstDamage, IsJournal, IsRecord, blocks, body, front}
use Rattle.hx_journal.specs.declared.record.Record.{Record}
use Rattle.hx_journal.proofs.Gates.{length-body}
use Rattle.hx_journal.proofs.Headed.{one-header}
use Rattle.hx_journal.proofs.Reading.{damage, record_more, stands_at}
use Rattle.hx_journal.proofs.Steps.{records-push}
use Rattle.hx_journal.proofs.Unique.{body_same, some-same}

-- behind these records no record more stands: the gate is absent right behind the header, closed, or without a body
abbrev Ends : List Record → List ℕ → Type 0
Ends rs [] = rs ≡ []
Ends rs (gate ∷ rest) = gate ≡ 1 → HasNoBody rest

ends-broken : (rs : List Record) (rest : List ℕ) → IsBroken rs rest → Ends rs rest
ends-broken rs [] broken = broken
ends-broken rs (gate ∷ rest) broken = λ opened. broken.1

ends-less : (r : Record) (rs : List Record) (rest : List ℕ) → Ends (r ∷ rs) rest → Ends rs rest
ends-less r rs [] none = absurd (cc none)
ends-less r rs (gate ∷ rest) ends = ends

no-record : (s : Record) (ss : List Record) (x y : List ℕ) → IsRecord s → Ends [] x → Ends (s ∷ ss) y → x ≡ blocks (s ∷ ss) ++ y → ⊥
no-record s ss [] y sound ends also e = cc e
no-record s [] (gate ∷ rest) [] sound ends also e = cc also
no-record s [] (gate ∷ rest) (next ∷ more) sound ends also e =
    ends (cc e) s next more sound (ap (drop 1) e ∙ ap (λ (l : List ℕ). l ++ (next ∷ more)) (append-nil (body s)))
no-record s (t ∷ ss) (gate ∷ rest) y sound ends also e =
    ends (cc e) s 1 ((body t ++ blocks ss) ++ y) sound (ap (drop 1) e ∙ append_assoc (body s) (blocks (t ∷ ss)) y)

pub one-end : (rs ss : List Record) (x y : List ℕ) → AreRecords rs → AreRecords ss → Ends rs x → Ends ss y → blocks rs ++ x ≡ blocks ss ++ y → (rs ≡ ss) × (x ≡ y)
one-end [] [] x y fits too ends also e = (refl, e)
one-end [] (s ∷ ss) x y fits too ends also e = absurd (no-record s ss x y too.0 ends also e)
one-end (r ∷ rs) [] x y fits too ends also e = absurd (no-record r rs y x fits.0 also ends (sym e))
one-end (r ∷ rs) (s ∷ ss) x y fits too ends also e =
    let tails : body r ++ (blocks rs ++ x) ≡ body s ++ (blocks ss ++ y) = sym (append_assoc (body r) (blocks rs) x) ∙ ap (drop 1) e ∙ append_assoc (body s) (blocks ss) y in
    let bodies : body r ≡ body s = sym (take_at (body r) (blocks rs ++ x) 32 (length-body r)) ∙ ap (take 32) tails ∙ take_at (body s) (blocks ss ++ y) 32 (length-body s) in
    let rest : blocks rs ++ x ≡ blocks ss ++ y = sym (drop_at (body r) (blocks rs ++ x) 32 (length-body r)) ∙ ap (drop 32) tails ∙ drop_at (body s) (blocks ss ++ y) 32 (length-body s) in
    let all = one-end rs ss x y fits.1 too.1 (ends-less r rs x ends) (ends-less s ss y also) rest in
    let first : r ≡ s = body_same r s fits.0 too.0 bodies in
    (λ k. first k ∷ all.0 k, all.1)

-- the same behind two headers
fronts-same : (a b : List ℕ) (rs ss : List Record) (x y : List ℕ) → IsHeader a → IsHeader b → AreRecords rs → AreRecords ss → Ends rs x → Ends ss y → front a rs ++ x ≡ front b ss ++ y
    → (front a rs ≡ front b ss) × (x ≡ y)
fronts-same a b rs ss x y heading other fits too ends also e =
    let split = one-header a b (blocks rs ++ x) (blocks ss ++ y) heading other (sym (append_assoc a (blocks rs) x) ∙ e ∙ append_assoc b (blocks ss) y) in
    let all = one-end rs ss x y fits too ends also split.1 in
    (λ k. front (split.0 k) (all.0 k), all.1)

no-header-at : (bytes header : List ℕ) (rs : List Record) (rest : List ℕ) → HasNoHeader bytes → IsHeader header → bytes ≡ front header rs ++ rest → ⊥
no-header-at bytes header rs rest none heading is = none header (blocks rs ++ rest) heading (is ∙ append_assoc header (blocks rs) rest)

pub one-place : (bytes : List ℕ) (p q : ℕ) → IsFirstDamage bytes p → IsFirstDamage bytes q → p ≡ q
one-place bytes p q (inl one) (inl other) = one.1 ∙ sym other.1
one-place bytes p q (inl one) (inr other) = absurd (no-header-at bytes other.header other.records other.rest one.0 other.heading other.is)
one-place bytes p q (inr one) (inl other) = absurd (no-header-at bytes one.header one.records one.rest other.0 one.heading one.is)
one-place bytes p q (inr one) (inr other) =
    let same = fronts-same one.header other.header one.records other.records one.rest other.rest one.heading other.heading one.sound other.sound
    (ends-broken one.records one.rest one.broken) (ends-broken other.records other.rest other.broken) (sym one.is ∙ other.is) in
    one.at ∙ ap length same.0 ∙ sym other.at

closed-is-whole : (rs : List Record) (rest more : List ℕ) (gate : ℕ) → IsBroken rs rest → gate ≢ 1 → rest ≡ gate ∷ more → ⊥
closed-is-whole rs [] more gate broken closed e = cc e
closed-is-whole rs (first ∷ rest) more gate broken closed e = let same : first ≡ gate = cc e in closed (sym same ∙ broken.0)

pub no-journal : (bytes : List ℕ) (place : ℕ) → IsFirstDamage bytes place → ¬ (IsJournal bytes)
no-journal bytes place (inl none) (header, rs, heading, stands) = no-header-at bytes header rs (stands.gate ∷ stands.rest) none.0 heading (some-same bytes _ stands.is)
no-journal bytes place (inr damaged) (header, rs, heading, stands) =
    let same = fronts-same damaged.header header damaged.records rs damaged.rest (stands.gate ∷ stands.rest) damaged.heading heading damaged.sound stands.sound
    (ends-broken damaged.records damaged.rest damaged.broken) (λ opened. absurd (stands.closed opened)) (sym damaged.is ∙ some-same bytes _ stands.is) in
    closed-is-whole damaged.records damaged.rest stands.rest stands.gate damaged.broken stands.closed same.1

-- some bytes read up to a gate
pub record ReadTo (bytes rest : List ℕ) : Type 0 where
  pub header : List ℕ
  pub heading : IsHeader header
  pub records : List Record
  pub sound : AreRecords records
  pub form : bytes ≡ front header records ++ rest
  pub gate : length rest ≡ 0 → records ≡ []

pub begins : (bytes rest : List ℕ) → BeginsByHeader bytes rest → ReadTo bytes rest
begins bytes rest (header, heading, is) = record {
  header = header;
  heading = heading;
  records = [];
  sound = tt;
  form = is ∙ ap (λ (l : List ℕ). l ++ rest) (sym (append-nil header));
  gate = λ none. refl;
}

module _ (bytes rest : List ℕ) (read : ReadTo bytes rest) where
  pub broken_at : IsBroken read.records rest → IsFirstDamage bytes (length bytes - length rest)
  broken_at broken = damage bytes read.header read.records rest read.form read.heading read.sound broken

  pub whole_at : 0 < length rest → get_or rest 0 0 ≢ 1 → IsJournal bytes
  whole_at some shut = (read.header, read.records, read.heading, stands_at bytes read.header rest read.records read.form read.sound some shut)

  pub one_read : (after : List ℕ) (r : Record) → 0 < length rest → get_or rest 0 0 ≡ 1 → BeginsByBody (drop 1 rest) r after → ReadTo bytes after
  one_read after r some opened body_is = record {
    header = read.header;
    heading = read.heading;
    records = read.records ++ r ∷ [];
    sound = records-push read.records r read.sound body_is.0;
    form = record_more bytes read.header rest after read.records r read.form some opened body_is;
    gate = λ none. absurd (omega (arith, none, body_is.1));
  }

-- bytes that have no first damaged place
pub whole : (bytes : List ℕ) (found : Option ℕ) → MatchOption found (IsJournal bytes) (IsFirstDamage bytes) → ((place : ℕ) → ¬ (IsFirstDamage bytes place)) → IsJournal bytes
whole bytes None journal undamaged = journal
whole bytes (Some place) damaged undamaged = absurd (undamaged place damaged)
