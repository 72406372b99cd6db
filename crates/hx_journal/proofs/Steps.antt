-- What each call of `note` leaves of the journal.
use Rattle.std.proofs.Common.{◌≡◌, ◌≢◌, ◌⊎◌, ◌+◌, ◌*◌, ◌∙◌, ◌∷◌, ◌++◌, ℕ, List, [], Option, Some, None, option_map, Result, Ok, Err, OnOk, length, refl, sym, ap, subst, inl, inr, arith, append_assoc}
use Rattle.std.proofs.lemmas.Bool.{cases_eq}
use Rattle.hx_outside.specs.Folders.{Folder, Same, Changes, Torn, Grown, Flipped, Altered, MaySetByte, contents, appended, byte_set, set_at}
use Rattle.hx_outside.proofs.Calls.{set_byte_changes}
use Rattle.hx_outside.specs.Disk.{DiskMembers, Passes, IsStable}
use Rattle.hx_outside.specs.declared.store.StoreError.{StoreError}
use Rattle.hx_outside.proofs.Runs.{weaker, goes_on}
use Rattle.hx_outside.proofs.Names.{written_there}
use Rattle.hx_journal.specs.Journal.{body, front, IsRecord, IsReady, AreRecords, Opened, Stands, IsAtRest, Notes}
use Rattle.hx_journal.specs.declared.record.Record.{Record}
use Rattle.hx_journal.proofs.Gates.{length-front, front-push, behind, at_gate, gate_set}

-- a file that has bytes still has some after a step that keeps it there
grown_is : (end : ℕ) (old : List ℕ) (o p : Option (List ℕ)) → o ≡ Some old → Grown end o p → (new : List ℕ) × (p ≡ Some new) × Torn end old new
grown_is end old None p is g = absurd (cc is)
grown_is end old (Some b) None is g = absurd g
grown_is end old (Some b) (Some new) is g = let same : b ≡ old = cc is in (new, refl, subst (λ (l : List ℕ). Torn end l new) same g)

altered_is : (at : ℕ) (old : List ℕ) (o p : Option (List ℕ)) → o ≡ Some old → Altered at o p → (new : List ℕ) × (p ≡ Some new) × Flipped at old new
altered_is at old None p is g = absurd (cc is)
altered_is at old (Some b) None is g = absurd g
altered_is at old (Some b) (Some new) is g = let same : b ≡ old = cc is in (new, refl, subst (λ (l : List ℕ). Flipped at l new) same g)

pub records-push : (rs : List Record) (r : Record) → AreRecords rs → IsRecord r → AreRecords (rs ++ r ∷ [])
records-push [] r all one = (one, tt)
records-push (s ∷ rs) r all one = (all.0, records-push rs r all.1 one)

module _ (name header : List ℕ) (rs : List Record) (r : Record) (gate : ℕ) (closed : gate ≢ 1) (sound : AreRecords rs) (one : IsRecord r) where
  abbrev rests : List ℕ
  rests = front header rs ++ (gate ∷ [])

  abbrev staged : List ℕ
  staged = front header rs ++ (gate ∷ (body r ++ 0 ∷ []))

  -- while the body is appended
  on_append : (end : ℕ) (f g : Folder) → f name ≡ Some rests → Changes name (Grown end) f g → Notes name header rs r f g
  on_append end f g was c =
      let (new, is, torn) = grown_is end rests (f name) (g name) was c.there in
      let (rest, new_is) = behind (front header rs) gate end new torn in
      record { others = c.others; there = inl (record { gate = gate; rest = rest; closed = closed; sound = sound; is = is ∙ ap (λ (l : List ℕ). Some l) new_is }) }

  -- while the gate is opened
  opened : (x : ℕ) (o : Option (List ℕ)) → o ≡ Some (front header rs ++ (x ∷ (body r ++ 0 ∷ []))) → Stands header rs o ⊎ Stands header (rs ++ r ∷ []) o
  opened x o is = elim (cases_eq x 1) [
    | inl open_gate ↦ inr (record {
      gate = 0;
      rest = [];
      closed = omega arith;
      sound = records-push rs r sound one;
      is = is ∙ ap (λ (y : ℕ). Some (front header rs ++ (y ∷ (body r ++ 0 ∷ [])))) open_gate ∙ ap (λ (l : List ℕ). Some l) (sym (front-push header rs r (0 ∷ [])));
    })
    | inr shut ↦ inl (record { gate = x; rest = body r ++ 0 ∷ []; closed = shut; sound = sound; is = is })
  ]

  on_gate : (at : ℕ) → at ≡ length header + 33 * length rs → (f g : Folder) → f name ≡ Some staged → Changes name (Altered at) f g → Stands header rs (g name) ⊎ Stands header (rs ++ r ∷ []) (g name)
  on_gate at place f g was c =
      let (new, is, flipped) = altered_is at staged (f name) (g name) was c.there in
      let (x, new_is) = at_gate (front header rs) gate at (body r ++ 0 ∷ []) new (place ∙ sym (length-front header rs)) flipped in
      opened x (g name) (is ∙ ap (λ (l : List ℕ). Some l) new_is)

  module _ {S : Type 0} (d : DiskMembers S) (old : S) (tells : d.tells old) (rest : (f : Folder) → d.may_leave old f → f name ≡ Some rests) where
    pub append_first : (mid : S) (end : ℕ) → Passes d old mid (Changes name (Grown end)) → Passes d old mid (Notes name header rs r)
    append_first mid end call = weaker d old mid (Changes name (Grown end)) (Notes name header rs r) call (λ f g now c. on_append end f g (rest f now) c) tells

    pub sync_next : (mid new : S) → Passes d old mid (Notes name header rs r) → Passes d mid new Same → Passes d old new (Notes name header rs r)
    sync_next mid new run call = goes_on d old mid new (Notes name header rs r) Same tells run call (λ f g h was p now same. subst (Notes name header rs r f) (sym same) p)

    pub gate_next : (mid new : S) (at : ℕ) → at ≡ length header + 33 * length rs → ((f : Folder) → d.may_leave mid f → f name ≡ Some staged) → Passes d old mid (Notes name header rs r) → Passes d mid new (MaySetByte name at (d.reads mid)) → Passes d old new (Notes name header rs r)
    gate_next mid new at place full run call = goes_on d old mid new (Notes name header rs r) (MaySetByte name at (d.reads mid)) tells run call
        (λ f g h was p now s. let c = set_byte_changes name at (d.reads mid) g h s in record { others = λ n apart. c.others n apart ∙ p.others n apart; there = on_gate at place g h (full g now) c })

    -- what is read after a body was appended, and after its gate was opened
    pub is_staged : (before after : Folder) (bytes : List ℕ) → bytes ≡ body r ++ 0 ∷ [] → before name ≡ Some rests → after ≡ appended name bytes before → after name ≡ Some staged
    is_staged before after bytes is was now =
        (λ k. now k name) ∙ written_there name _ before ∙ ap (λ (o : Option (List ℕ)). Some (contents o ++ bytes)) was
        ∙ ap (λ (l : List ℕ). Some (rests ++ l)) is ∙ ap (λ (l : List ℕ). Some l) (append_assoc (front header rs) (gate ∷ []) (body r ++ 0 ∷ []))

    pub is_open : (at : ℕ) → at ≡ length header + 33 * length rs → (before after : Folder) → before name ≡ Some staged → after ≡ byte_set name at 1 before → after name ≡ Some (front header (rs ++ r ∷ []) ++ (0 ∷ []))
    is_open at place before after was now =
        (λ k. now k name) ∙ written_there name _ before ∙ ap (option_map (set_at at 1)) was
        ∙ ap (λ (l : List ℕ). Some l) (gate_set (front header rs) gate at 1 (body r ++ 0 ∷ []) (place ∙ sym (length-front header rs)) ∙ sym (front-push header rs r (0 ∷ [])))

-- a store that tells is ready
pub ready_at : {S T E : Type 0} (d : DiskMembers S) (s : S) (journal : Opened) (rs : List Record) (result : Result T E) → d.tells s → OnOk result (IsAtRest d s journal.file journal.header rs)
    → OnOk result (IsReady d s (record journal { records = rs }))
ready_at d s journal rs (Ok x) told rest = record { told = told; rest = rest }
ready_at d s journal rs (Err e) told rest = tt

-- no call
pub not_noted : {S : Type 0} (d : DiskMembers S) (s : S) (name header : List ℕ) (rs : List Record) (r : Record) → d.tells s → IsAtRest d s name header rs → Passes d s s (Notes name header rs r)
not_noted d s name header rs r tells rest = record {
  told = tells;
  later = omega arith;
  keeps = λ t f le left. left;
  leaves = λ t f le left. inl left;
  each = λ f left. (f, d.only_now s f left, same f (d.only_now s f left));
  seen = same (d.reads s) (d.reads_now s tells);
}
  where
    same : (f : Folder) → d.may_leave s f → Notes name header rs r f f
    same f now = record { others = λ n apart. refl; there = inl (record { gate = rest.gate; rest = []; closed = rest.closed; sound = rest.sound; is = rest.each f now }) }

pub at_rest : {S T : Type 0} (d : DiskMembers S) (s : S) (name header : List ℕ) (rs : List Record) (result : Result T StoreError) → AreRecords rs → d.reads s name ≡ Some (front header rs ++ (0 ∷ [])) → OnOk result (IsStable d s name) → OnOk result (IsAtRest d s name header rs)
at_rest d s name header rs (Ok x) sound reads stable = record { gate = 0; closed = omega arith; sound = sound; each = λ f now. stable f now ∙ reads }
at_rest d s name header rs (Err e) sound reads stable = tt
