use Rattle.std.proofs.Common.{◌≡◌, ◌∙◌, ◌++◌, ◌∷◌, [], Some}
use Rattle.hx_outside.specs.Folders.{Folder}
use Rattle.hx_journal.specs.Journal.{body, front}
use Rattle.hx_journal.proofs.Steps.{append_first, sync_next, gate_next, is_staged, is_open, at_rest, records-push}
use Rattle.hx_journal.proofs.noting.note_in.Goals as goal

pub returns-in_err-append-clause-passes : goal.returns-in_err-append-clause-passes
returns-in_err-append-clause-passes g c header rs r one place is tells rest =
    let d = g.S.Store.disk in
    let s = c.args.store.now in
    let name = c.args.name.now in
    let call = c.append.ensures.acts tells in
    let first = append_first name header rs r rest.gate rest.closed rest.sound one d s tells rest.each c.append.new.self _ call.passes in
    first

pub returns-in_err-sync-clause-passes : goal.returns-in_err-sync-clause-passes
returns-in_err-sync-clause-passes g c header rs r one place is tells rest =
    let d = g.S.Store.disk in
    let s = c.args.store.now in
    let name = c.args.name.now in
    let call = c.append.ensures.acts tells in
    let first = append_first name header rs r rest.gate rest.closed rest.sound one d s tells rest.each c.append.new.self _ call.passes in
    let synced = c.sync.ensures.acts call.passes.told in
    let kept = sync_next name header rs r rest.gate rest.closed rest.sound one d s tells rest.each c.append.new.self c.sync.new.self first synced.passes in
    kept

pub returns-in_err-set_byte-clause-passes : goal.returns-in_err-set_byte-clause-passes
returns-in_err-set_byte-clause-passes g c header rs r one place is tells rest =
    let d = g.S.Store.disk in
    let s = c.args.store.now in
    let name = c.args.name.now in
    let call = c.append.ensures.acts tells in
    let first = append_first name header rs r rest.gate rest.closed rest.sound one d s tells rest.each c.append.new.self _ call.passes in
    let synced = c.sync.ensures.acts call.passes.told in
    let kept = sync_next name header rs r rest.gate rest.closed rest.sound one d s tells rest.each c.append.new.self c.sync.new.self first synced.passes in
    let was : d.reads s name ≡ Some (front header rs ++ (rest.gate ∷ [])) = rest.each (d.reads s) (d.reads_now s tells) in
    let read : d.reads c.append.new.self name ≡ Some (front header rs ++ (rest.gate ∷ (body r ++ 0 ∷ []))) = is_staged name header rs r rest.gate rest.closed rest.sound one d s tells rest.each (d.reads s) (d.reads c.append.new.self) c.args.bytes.now is was (c.in_ok-append.ensures.done tells) in
    let reads : d.reads c.sync.new.self name ≡ Some (front header rs ++ (rest.gate ∷ (body r ++ 0 ∷ []))) = (λ k. synced.passes.seen k name) ∙ read in
    let full : (f : Folder) → d.may_leave c.sync.new.self f → f name ≡ Some (front header rs ++ (rest.gate ∷ (body r ++ 0 ∷ []))) = λ f now. c.in_ok-sync.ensures.done call.passes.told f now ∙ reads in
    let set = c.set_byte.ensures.acts synced.passes.told in
    let opened = gate_next name header rs r rest.gate rest.closed rest.sound one d s tells rest.each c.sync.new.self c.set_byte.new.self c.args.gate place full kept set.passes in
    opened

pub returns-clause-passes : goal.returns-clause-passes
returns-clause-passes g c header rs r one place is tells rest =
    let d = g.S.Store.disk in
    let s = c.args.store.now in
    let name = c.args.name.now in
    let call = c.append.ensures.acts tells in
    let first = append_first name header rs r rest.gate rest.closed rest.sound one d s tells rest.each c.append.new.self _ call.passes in
    let synced = c.sync.ensures.acts call.passes.told in
    let kept = sync_next name header rs r rest.gate rest.closed rest.sound one d s tells rest.each c.append.new.self c.sync.new.self first synced.passes in
    let was : d.reads s name ≡ Some (front header rs ++ (rest.gate ∷ [])) = rest.each (d.reads s) (d.reads_now s tells) in
    let read : d.reads c.append.new.self name ≡ Some (front header rs ++ (rest.gate ∷ (body r ++ 0 ∷ []))) = is_staged name header rs r rest.gate rest.closed rest.sound one d s tells rest.each (d.reads s) (d.reads c.append.new.self) c.args.bytes.now is was (c.in_ok-append.ensures.done tells) in
    let reads : d.reads c.sync.new.self name ≡ Some (front header rs ++ (rest.gate ∷ (body r ++ 0 ∷ []))) = (λ k. synced.passes.seen k name) ∙ read in
    let full : (f : Folder) → d.may_leave c.sync.new.self f → f name ≡ Some (front header rs ++ (rest.gate ∷ (body r ++ 0 ∷ []))) = λ f now. c.in_ok-sync.ensures.done call.passes.told f now ∙ reads in
    let set = c.set_byte.ensures.acts synced.passes.told in
    let opened = gate_next name header rs r rest.gate rest.closed rest.sound one d s tells rest.each c.sync.new.self c.set_byte.new.self c.args.gate place full kept set.passes in
    let last = c.sync-2.ensures.acts set.passes.told in
    sync_next name header rs r rest.gate rest.closed rest.sound one d s tells rest.each c.set_byte.new.self c.sync-2.new.self opened last.passes

pub returns-clause-done : goal.returns-clause-done
returns-clause-done g c header rs r one place is tells rest =
    let d = g.S.Store.disk in
    let s = c.args.store.now in
    let name = c.args.name.now in
    let call = c.append.ensures.acts tells in
    let first = append_first name header rs r rest.gate rest.closed rest.sound one d s tells rest.each c.append.new.self _ call.passes in
    let synced = c.sync.ensures.acts call.passes.told in
    let kept = sync_next name header rs r rest.gate rest.closed rest.sound one d s tells rest.each c.append.new.self c.sync.new.self first synced.passes in
    let was : d.reads s name ≡ Some (front header rs ++ (rest.gate ∷ [])) = rest.each (d.reads s) (d.reads_now s tells) in
    let read : d.reads c.append.new.self name ≡ Some (front header rs ++ (rest.gate ∷ (body r ++ 0 ∷ []))) = is_staged name header rs r rest.gate rest.closed rest.sound one d s tells rest.each (d.reads s) (d.reads c.append.new.self) c.args.bytes.now is was (c.in_ok-append.ensures.done tells) in
    let reads : d.reads c.sync.new.self name ≡ Some (front header rs ++ (rest.gate ∷ (body r ++ 0 ∷ []))) = (λ k. synced.passes.seen k name) ∙ read in
    let full : (f : Folder) → d.may_leave c.sync.new.self f → f name ≡ Some (front header rs ++ (rest.gate ∷ (body r ++ 0 ∷ []))) = λ f now. c.in_ok-sync.ensures.done call.passes.told f now ∙ reads in
    let set = c.set_byte.ensures.acts synced.passes.told in
    let opened = gate_next name header rs r rest.gate rest.closed rest.sound one d s tells rest.each c.sync.new.self c.set_byte.new.self c.args.gate place full kept set.passes in
    let last = c.sync-2.ensures.acts set.passes.told in
    let noted : d.reads c.sync-2.new.self name ≡ Some (front header (rs ++ r ∷ []) ++ (0 ∷ [])) = (λ k. last.passes.seen k name) ∙ is_open name header rs r rest.gate rest.closed rest.sound one d s tells rest.each c.args.gate place (d.reads c.sync.new.self) (d.reads c.set_byte.new.self) reads (c.in_ok-set_byte.ensures.done synced.passes.told) in
    at_rest d c.sync-2.new.self name header (rs ++ r ∷ []) c.sync-2.result (records-push rs r rest.sound one) noted (c.sync-2.ensures.done set.passes.told)
