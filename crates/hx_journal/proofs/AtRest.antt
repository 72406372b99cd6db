-- A journal that is at rest, opened again.
use Rattle.std.proofs.Common.{◌≡◌, ◌↔◌, ◌∙◌, ◌∷◌, ◌++◌, ℕ, List, [], Option, Some, None, sym, subst, ⊎_elim}
use Rattle.hx_outside.specs.Folders.{Folder, Step}
use Rattle.hx_outside.specs.Disk.{DiskMembers, Passes}
use Rattle.hx_journal.specs.Headers.{IsHeader}
use Rattle.hx_journal.specs.Journal.{IsAtRest, Opened, Stands, Trimmed, Trims, front}
use Rattle.hx_journal.specs.Refusals.{IsFault, IsOpened, IsRefusedFor}
use Rattle.hx_journal.specs.declared.record.Record.{Record}
use Rattle.hx_journal.specs.declared.refusal.JournalRefusal.{JournalRefusal}
use Rattle.hx_journal.specs.declared.refusal.JournalRefusal.TheVariants as refusal
use Rattle.hx_journal.proofs.Damage.{no-journal}
use Rattle.hx_journal.proofs.Unique.{one_journal}

-- in each image
pub stands_at : {S : Type 0} (d : DiskMembers S) (s : S) (name header : List ℕ) (rs : List Record) (f : Folder) → IsAtRest d s name header rs → d.may_leave s f → Stands header rs (f name)
stands_at d s name header rs f rest now = record { gate = rest.gate; rest = []; closed = rest.closed; sound = rest.sound; is = rest.each f now }

pub opens : (name header : List ℕ) (rs : List Record) (file : Option (List ℕ)) (journal : Opened) → IsHeader header → Stands header rs file → IsOpened name file journal
    → journal ≡ record { file = name; header = header; records = rs }
opens name header rs file journal heading stands opened =
    let same = one_journal journal.header header journal.records rs file opened.heading heading opened.stands stands in
    λ k. record { file = opened.named k; header = same.0 k; records = same.1 k }

-- a file that stands for a journal isn't refused
pub refused : (header : List ℕ) (rs : List Record) (file : Option (List ℕ)) (why : JournalRefusal) → IsHeader header → Stands header rs file → IsRefusedFor file why → IsFault why
refused header rs file refusal.Absent heading stands none = absurd (let both : Some (front header rs ++ (stands.gate ∷ stands.rest)) ≡ None = sym stands.is ∙ none in cc both)
refused header rs file (refusal.Damaged place) heading stands (bytes, is, damaged) = absurd (no-journal bytes place damaged (header, rs, heading, subst (Stands header rs) is stands))
refused header rs file refusal.StoreFault heading stands for = tt
refused header rs file refusal.Memory heading stands for = tt

-- what is trimmed stands for what it stood for
trimmed_keeps : (header : List ℕ) (rs : List Record) (before after : Option (List ℕ)) → IsHeader header → Trimmed before after → Stands header rs before → Stands header rs after
trimmed_keeps header rs before after heading t stands =
    let same = one_journal t.header header t.records rs before t.heading heading (record { gate = t.gate; rest = t.was_behind; closed = t.closed; sound = t.sound; is = t.was }) stands in
    let left : Stands t.header t.records after = record { gate = t.gate; rest = t.is_behind; closed = t.closed; sound = t.sound; is = t.is } in
    subst (λ (h : List ℕ). Stands h rs after) same.0 (subst (λ (l : List Record). Stands t.header l after) same.1 left)

turned : (before after : Option (List ℕ)) → Trimmed before after → Trimmed after before
turned before after t = record { header = t.header; heading = t.heading; records = t.records; sound = t.sound; gate = t.gate; closed = t.closed; was_behind = t.is_behind; is_behind = t.was_behind; was = t.is; is = t.was }

pub keeps : (name header : List ℕ) (rs : List Record) (f g : Folder) → IsHeader header → Trims name f g → Stands header rs (f name) ↔ Stands header rs (g name)
keeps name header rs f g heading trims = ⊎_elim
    (λ same. (λ stands. subst (Stands header rs) (sym same) stands, λ stands. subst (Stands header rs) same stands))
    (λ t. (trimmed_keeps header rs (f name) (g name) heading t, trimmed_keeps header rs (g name) (f name) heading (turned (f name) (g name) t)))
    trims.there

-- and stays at rest while other files change
pub stays_at_rest : {S : Type 0} (d : DiskMembers S) (old new : S) (name header : List ℕ) (rs : List Record) (step : Step) → ((f g : Folder) → step f g → g name ≡ f name)
    → Passes d old new step → IsAtRest d old name header rs → IsAtRest d new name header rs
stays_at_rest d old new name header rs step same run rest = record {
  gate = rest.gate;
  closed = rest.closed;
  sound = rest.sound;
  each = λ f now. let (g, was, stepped) = run.each f (d.counts_now new (d.moment old) f run.later now) in same g f stepped ∙ rest.each g was;
}
