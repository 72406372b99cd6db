use Rattle.std.proofs.Common.{rules, ◌≡◌, ℕ, List, Bor, false, refl}
use Rattle.hx_thrift.specs.Values.{binary, leaf}
use Rattle.hx_pqmeta.specs.Fields.{chunk_of, is_entry}
use Rattle.hx_pqmeta.proofs.Entries.{last_more, adds, adds_some}
use Rattle.hx_pqmeta.proofs.chunk.ChunkStruct.read_entry.Goals as goal

pub returns-in_ok-binary-in-1-eq8 : goal.returns-in_ok-binary-in-1-eq8
returns-in_ok-binary-in-1-eq8 c =
    adds_some 27 1 8 (λ (b : Bor (List ℕ)). leaf (binary b.now)) chunk_of _ _ c.args.field (search rules) refl c.in-1-eq8.is-0 c.in-1-eq8.is-1 (c.in_ok-binary-in-1-eq8.ensures 26) (λ x is es so_far. rw (c.is_some-self.ensures, is, so_far) (simp last_more))

pub returns-in_ok-read_struct-in-3-eq12 : goal.returns-in_ok-read_struct-in-3-eq12
returns-in_ok-read_struct-in-3-eq12 c =
    let inner = c.in_ok-read_struct-in-3-eq12.ensures in
    adds 27 3 12 chunk_of _ _ c.args.field (search rules) refl c.in-3-eq12.is-0 c.in-3-eq12.is-1 (inner.0, inner.1, λ es so_far. rw (c.with_meta.ensures, so_far, inner.2.1, inner.2.2) (simp last_more))

pub returns-in_ok-pass-in_default : goal.returns-in_ok-pass-in_default
returns-in_ok-pass-in_default c =
    let path : is_entry 1 8 c.args.field.id c.args.field.kind ≡ false = search rules in
    let meta : is_entry 3 12 c.args.field.id c.args.field.kind ≡ false = search rules in
    let passed = c.in_ok-pass-in_default.ensures 27 c.requires.depth in
    (passed.0, passed.1, λ es so_far. rw so_far (simp (last_more, path, meta)))
