-- The bytes of a record, put one after another.
use Rattle.std.proofs.Common.{◌≡◌, ◌≢◌, ◌≤◌, ◌∙◌, ◌∷◌, ◌++◌, ℕ, List, [], ap, subst, sym, arith, drop, length, length-append, append_assoc, replicate}
use Rattle.std.specs.Int.{w32, w64, to_le_bytes}
use Rattle.std.proofs.lemmas.Nat.{from_le_bytes-to_le_bytes_4, from_le_bytes-to_le_bytes_8}
use Rattle.hx_journal.specs.Journal.{HasNoBody, IsEntry, IsRecord, body, candidate}
use Rattle.hx_journal.specs.declared.record.Record.{Record}
use Rattle.hx_journal.proofs.Gates.{length-body}

pub put_together : (old : List ℕ) (kind : ℕ) (a b c d : List ℕ) → ((((old ++ kind ∷ []) ++ a) ++ b) ++ c) ++ d ≡ old ++ (kind ∷ a ++ b ++ c ++ d)
put_together old kind a b c d =
    ap (λ (l : List ℕ). ((l ++ b) ++ c) ++ d) (append_assoc old (kind ∷ []) a)
    ∙ ap (λ (l : List ℕ). (l ++ c) ++ d) (append_assoc old (kind ∷ a) b)
    ∙ ap (λ (l : List ℕ). l ++ d) (append_assoc old (kind ∷ a ++ b) c)
    ∙ append_assoc old (kind ∷ a ++ b ++ c) d

pub candidate_is : (bytes more : List ℕ) (r : Record) → IsRecord r → bytes ≡ body r ++ more → candidate bytes ≡ r
unfolding body
candidate_is bytes more r fits is = ap candidate is ∙ spelled
  where
    spelled : candidate (body r ++ more) ≡ r
    spelled = λ k. record {
      task = record { kind = r.task.kind; number = from_le_bytes-to_le_bytes_4 r.task.number fits.number k };
      len = from_le_bytes-to_le_bytes_8 r.len fits.len k;
      rows = from_le_bytes-to_le_bytes_8 r.rows fits.rows k;
    }

-- short bytes are no body with a gate behind
pub too_short : (bytes : List ℕ) → length bytes ≤ 32 → HasNoBody bytes
too_short bytes short r next more fits is = omega (arith, short, ap length is, length-append (body r) (next ∷ more), length-body r)

-- nor are bytes that spell no entry
pub no_entry : (bytes : List ℕ) → (IsEntry (candidate bytes) → ⊥) → HasNoBody bytes
no_entry bytes none r next more fits is = none (subst IsEntry (sym (candidate_is bytes (next ∷ more) r fits is)) fits.entry)

-- nor others than those of the record that they spell
pub other_bytes : (bytes : List ℕ) (r : Record) → r ≡ candidate bytes → ((rest : List ℕ) → bytes ≢ body r ++ rest) → HasNoBody bytes
other_bytes bytes r spelled none s next more fits is = none (next ∷ more) (is ∙ ap (λ (x : Record). body x ++ (next ∷ more)) (sym (spelled ∙ candidate_is bytes (next ∷ more) s fits is)))

-- nor a body alone
pub no_gate : (bytes after : List ℕ) (r : Record) → r ≡ candidate bytes → bytes ≡ body r ++ after → length after ≡ 0 → HasNoBody bytes
no_gate bytes after r spelled is none s next more fits also =
    let same : r ≡ s = spelled ∙ candidate_is bytes (next ∷ more) s fits also in
    omega (arith, none, ap length is, length-append (body r) after, length-body r, ap length also, length-append (body s) (next ∷ more), length-body s)

-- a body read part by part
module _ (bytes : List ℕ) (r : Record) where
  pub no_kind : ((x : List ℕ) → bytes ≢ (r.task.kind ∷ []) ++ x) → (x : List ℕ) → bytes ≢ body r ++ x
  unfolding body
  no_kind none x is = none (drop 1 (body r ++ x)) is

  module _ (rest1 : List ℕ) (one : bytes ≡ (r.task.kind ∷ []) ++ rest1) where
    pub no_number : ((x : List ℕ) → rest1 ≢ to_le_bytes w32 r.task.number ++ x) → (x : List ℕ) → bytes ≢ body r ++ x
    unfolding body
    no_number none x is = none (drop 5 (body r ++ x)) (ap (drop 1) (sym one ∙ is))

    module _ (rest2 : List ℕ) (two : rest1 ≡ to_le_bytes w32 r.task.number ++ rest2) where
      after2 : bytes ≡ r.task.kind ∷ (to_le_bytes w32 r.task.number ++ rest2)
      after2 = one ∙ ap (λ (l : List ℕ). r.task.kind ∷ l) two

      pub no_len : ((x : List ℕ) → rest2 ≢ to_le_bytes w64 r.len ++ x) → (x : List ℕ) → bytes ≢ body r ++ x
      unfolding body
      no_len none x is = none (drop 13 (body r ++ x)) (ap (drop 5) (sym after2 ∙ is))

      module _ (rest3 : List ℕ) (three : rest2 ≡ to_le_bytes w64 r.len ++ rest3) where
        after3 : bytes ≡ r.task.kind ∷ (to_le_bytes w32 r.task.number ++ (to_le_bytes w64 r.len ++ rest3))
        after3 = after2 ∙ ap (λ (l : List ℕ). r.task.kind ∷ (to_le_bytes w32 r.task.number ++ l)) three

        pub no_rows : ((x : List ℕ) → rest3 ≢ to_le_bytes w64 r.rows ++ x) → (x : List ℕ) → bytes ≢ body r ++ x
        unfolding body
        no_rows none x is = none (drop 21 (body r ++ x)) (ap (drop 13) (sym after3 ∙ is))

        module _ (rest4 : List ℕ) (four : rest3 ≡ to_le_bytes w64 r.rows ++ rest4) where
          after4 : bytes ≡ r.task.kind ∷ (to_le_bytes w32 r.task.number ++ (to_le_bytes w64 r.len ++ (to_le_bytes w64 r.rows ++ rest4)))
          after4 = after3 ∙ ap (λ (l : List ℕ). r.task.kind ∷ (to_le_bytes w32 r.task.number ++ (to_le_bytes w64 r.len ++ l))) four

          pub no_zeros : ((x : List ℕ) → rest4 ≢ replicate 11 0 ++ x) → (x : List ℕ) → bytes ≢ body r ++ x
          unfolding body
          no_zeros none x is = none x (ap (drop 21) (sym after4 ∙ is))

          pub body_read : (after : List ℕ) → rest4 ≡ replicate 11 0 ++ after → bytes ≡ body r ++ after
          unfolding body
          body_read after zeros = after4 ∙ ap (λ (l : List ℕ). r.task.kind ∷ (to_le_bytes w32 r.task.number ++ (to_le_bytes w64 r.len ++ (to_le_bytes w64 r.rows ++ l)))) zeros
