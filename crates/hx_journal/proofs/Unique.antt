-- A journal's file stands for one list of records.
use Rattle.std.proofs.Common.{◌≡◌, ◌≢◌, ◌<◌, ◌^◌, ◌∙◌, ◌∷◌, ◌++◌, ℕ, List, [], Option, Some, None, length, take, drop, refl, sym, ap, append_assoc, subst}
use Rattle.hx_journal.specs.Headers.{IsHeader}
use Rattle.hx_journal.proofs.Headed.{one-header}
use Rattle.std.specs.Int.{w32, w64, to_le_bytes, from_le_bytes}
use Rattle.std.proofs.lemmas.Nat.{from_le_bytes-to_le_bytes_4, from_le_bytes-to_le_bytes_8}
use Rattle.std.proofs.lemmas.List.{take_at, drop_at}
use Rattle.hx_journal.specs.Journal.{body, blocks, front, Stands, IsRecord, AreRecords}
use Rattle.hx_journal.specs.declared.record.Record.{Record}
use Rattle.hx_journal.proofs.Gates.{length-body}

number_same : (a b : ℕ) → a < 2 ^ 32 → b < 2 ^ 32 → to_le_bytes w32 a ≡ to_le_bytes w32 b → a ≡ b
number_same a b fits also e = sym (from_le_bytes-to_le_bytes_4 a fits) ∙ ap (from_le_bytes w32) e ∙ from_le_bytes-to_le_bytes_4 b also

long_same : (a b : ℕ) → a < 2 ^ 64 → b < 2 ^ 64 → to_le_bytes w64 a ≡ to_le_bytes w64 b → a ≡ b
long_same a b fits also e = sym (from_le_bytes-to_le_bytes_8 a fits) ∙ ap (from_le_bytes w64) e ∙ from_le_bytes-to_le_bytes_8 b also

abbrev head : List ℕ → ℕ
head [] = 0
head (x ∷ xs) = x

pub body_same : (r s : Record) → IsRecord r → IsRecord s → body r ≡ body s → r ≡ s
unfolding body
body_same r s fits also e =
    let kind : r.task.kind ≡ s.task.kind = ap head e in
    let number : r.task.number ≡ s.task.number = number_same r.task.number s.task.number fits.number also.number (ap (λ (l : List ℕ). take 4 (drop 1 l)) e) in
    let len : r.len ≡ s.len = long_same r.len s.len fits.len also.len (ap (λ (l : List ℕ). take 8 (drop 5 l)) e) in
    let rows : r.rows ≡ s.rows = long_same r.rows s.rows fits.rows also.rows (ap (λ (l : List ℕ). take 8 (drop 13 l)) e) in
    λ k. record { task = record { kind = kind k; number = number k }; len = len k; rows = rows k }

same_records : (rs ss : List Record) (g h : ℕ) (x y : List ℕ) → g ≢ 1 → h ≢ 1 → AreRecords rs → AreRecords ss → blocks rs ++ (g ∷ x) ≡ blocks ss ++ (h ∷ y) → rs ≡ ss
same_records [] [] g h x y shut also fits too e = refl
same_records [] (s ∷ ss) g h x y shut also fits too e = absurd (shut (ap head e))
same_records (r ∷ rs) [] g h x y shut also fits too e = absurd (also (sym (ap head e)))
same_records (r ∷ rs) (s ∷ ss) g h x y shut also fits too e =
    let tails : body r ++ (blocks rs ++ (g ∷ x)) ≡ body s ++ (blocks ss ++ (h ∷ y)) = sym (append_assoc (body r) (blocks rs) (g ∷ x)) ∙ ap (drop 1) e ∙ append_assoc (body s) (blocks ss) (h ∷ y) in
    let bodies : body r ≡ body s = sym (take_at (body r) (blocks rs ++ (g ∷ x)) 32 (length-body r)) ∙ ap (take 32) tails ∙ take_at (body s) (blocks ss ++ (h ∷ y)) 32 (length-body s) in
    let rest : blocks rs ++ (g ∷ x) ≡ blocks ss ++ (h ∷ y) = sym (drop_at (body r) (blocks rs ++ (g ∷ x)) 32 (length-body r)) ∙ ap (drop 32) tails ∙ drop_at (body s) (blocks ss ++ (h ∷ y)) 32 (length-body s) in
    λ k. body_same r s fits.0 too.0 bodies k ∷ same_records rs ss g h x y shut also fits.1 too.1 rest k

abbrev unwrapped : Option (List ℕ) → List ℕ
unwrapped None = []
unwrapped (Some l) = l

pub some-same : (a b : List ℕ) → Some a ≡ Some b → a ≡ b
some-same a b e = ap unwrapped e

pub one_list : (header : List ℕ) (rs ss : List Record) (file : Option (List ℕ)) → Stands header rs file → Stands header ss file → rs ≡ ss
one_list header rs ss file a b =
    let both : front header rs ++ (a.gate ∷ a.rest) ≡ front header ss ++ (b.gate ∷ b.rest) = ap unwrapped (sym a.is ∙ b.is) in
    let n = length header in
    let tails : blocks rs ++ (a.gate ∷ a.rest) ≡ blocks ss ++ (b.gate ∷ b.rest) =
    sym (drop_at header (blocks rs ++ (a.gate ∷ a.rest)) n refl) ∙ ap (drop n) (sym (append_assoc header (blocks rs) (a.gate ∷ a.rest)) ∙ both ∙ append_assoc header (blocks ss) (b.gate ∷ b.rest)) ∙ drop_at header (blocks ss ++ (b.gate ∷ b.rest)) n refl in
    same_records rs ss a.gate b.gate a.rest b.rest a.closed b.closed a.sound b.sound tails

pub one_journal : (a b : List ℕ) (rs ss : List Record) (file : Option (List ℕ)) → IsHeader a → IsHeader b → Stands a rs file → Stands b ss file → (a ≡ b) × (rs ≡ ss)
one_journal a b rs ss file first second one other =
    let both : front a rs ++ (one.gate ∷ one.rest) ≡ front b ss ++ (other.gate ∷ other.rest) = ap unwrapped (sym one.is ∙ other.is) in
    let same = (one-header a b (blocks rs ++ (one.gate ∷ one.rest)) (blocks ss ++ (other.gate ∷ other.rest)) first second
    (sym (append_assoc a (blocks rs) (one.gate ∷ one.rest)) ∙ both ∙ append_assoc b (blocks ss) (other.gate ∷ other.rest))).0 in
    (same, one_list b rs ss file (subst (λ (h : List ℕ). Stands h rs file) same one) other)
