-- A file that is published, and then its record noted.
use Rattle.std.proofs.Common.{◌≡◌, ◌∙◌, ℕ, List, [], Some, sym, inl, inr, ⊎_elim}
use Rattle.hx_outside.specs.Folders.{Folder}
use Rattle.hx_outside.specs.Disk.{DiskMembers, Passes}
use Rattle.hx_outside.proofs.Runs.{weaker, joined}
use Rattle.hx_publish.specs.Publishing.{HasInEach, Publishes}
use Rattle.hx_journal.specs.Journal.{IsAtRest, IsReady, Notes, Opened}
use Rattle.hx_journal.specs.Recording.{AreApart, Records}
use Rattle.hx_journal.specs.declared.record.Record.{Record}
use Rattle.hx_journal.proofs.AtRest.{stays_at_rest}

module _ {S : Type 0} (d : DiskMembers S) (old mid new : S) (tmp name bytes : List ℕ) (j : Opened) (r : Record) (apart : AreApart tmp name j.file) (ready : IsReady d old j) (run : Passes d old mid (Publishes tmp name bytes)) where
  abbrev rest : IsAtRest d old j.file j.header j.records
  rest = ready.rest

  not_the_journal : (f g : Folder) → Publishes tmp name bytes f g → g j.file ≡ f j.file
  not_the_journal f g p = p.others j.file (λ e. apart.tmp_journal (sym e)) (λ e. apart.file_journal (sym e))

  pub still_ready : IsReady d mid j
  still_ready = record { told = run.told; rest = rests }
    where
      rests : IsAtRest d mid j.file j.header j.records
      rests = stays_at_rest d old mid j.file j.header j.records (Publishes tmp name bytes) not_the_journal run rest

  published : (f g : Folder) → d.may_leave old f → Publishes tmp name bytes f g → Records tmp name bytes j r f g
  published f g was p = record {
    others = λ n a b c. p.others n a b;
    there = p.there;
    noted = inl (record { gate = rest.gate; rest = []; closed = rest.closed; sound = rest.sound; is = not_the_journal f g p ∙ rest.each f was });
  }

  pub begun : Passes d old mid (Records tmp name bytes j r)
  begun = weaker d old mid (Publishes tmp name bytes) (Records tmp name bytes j r) run published ready.told

  module _ (full : HasInEach d mid name bytes) (call : Passes d mid new (Notes j.file j.header j.records r)) where
    noted : (f g h : Folder) → Publishes tmp name bytes f g → d.may_leave mid g → Notes j.file j.header j.records r g h → Records tmp name bytes j r f h
    noted f g h p now n =
        let there : h name ≡ Some bytes = n.others name apart.file_journal ∙ full g now in
        record {
          others = λ m a b c. n.others m c ∙ p.others m a b;
          there = inr there;
          noted = ⊎_elim (λ before. inl before) (λ more. inr (more, there)) n.there;
        }

    pub recorded : Passes d old new (Records tmp name bytes j r)
    recorded = joined d old mid new (Publishes tmp name bytes) (Notes j.file j.header j.records r) (Records tmp name bytes j r) ready.told run call published (λ f g h was p now n. noted f g h p now n)

    pub still_full : HasInEach d new name bytes
    still_full f now = let (g, was, n) = call.each f (d.counts_now new (d.moment mid) f call.later now) in n.others name apart.file_journal ∙ full g was
