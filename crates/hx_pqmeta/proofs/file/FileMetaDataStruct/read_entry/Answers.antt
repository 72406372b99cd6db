use Rattle.std.proofs.Common.{rules, ◌≡◌, ℤ, false, refl, ap, ◌∙◌}
use Rattle.hx_thrift.specs.Values.{number, leaf}
use Rattle.hx_pqmeta.specs.Records.{FileFields}
use Rattle.hx_pqmeta.specs.Fields.{file_of, is_entry}
use Rattle.hx_pqmeta.proofs.Entries.{last_more, map_or, adds, adds_some}
use Rattle.hx_pqmeta.proofs.file.FileMetaDataStruct.read_entry.Goals as goal

pub returns-in_ok-read_list-in-2-eq9 : goal.returns-in_ok-read_list-in-2-eq9
returns-in_ok-read_list-in-2-eq9 c =
    let given = c.in_ok-read_list-in-2-eq9.ensures in
    adds 31 2 9 file_of _ _ c.args.field (search rules) refl c.in-2-eq9.is-0 c.in-2-eq9.is-1 (
      given.0,
      given.1,
      λ es so_far.
          let before = c.self.view_is ∙ so_far in
          rw (given.2, ap (λ (s : FileFields). s.schema) before, ap (λ (s : FileFields). s.rows) before, ap (λ (s : FileFields). s.groups) before) (simp (last_more, map_or)),
    )

pub returns-in_ok-self-inside-in-3-eq6 : goal.returns-in_ok-self-inside-in-3-eq6
returns-in_ok-self-inside-in-3-eq6 c =
    adds_some 31 3 6 (λ (n : ℤ). leaf (number n)) file_of _ _ c.args.field (search rules) refl c.in-3-eq6.is-0 c.in-3-eq6.is-1 (c.in_ok-self-inside-in-3-eq6.ensures 30) (λ n is es so_far.
    let before = c.self.view_is ∙ so_far in
    rw (is, ap (λ (s : FileFields). s.schema) before, ap (λ (s : FileFields). s.groups) before) (simp last_more))

pub returns-in_ok-read_list-in-4-eq9 : goal.returns-in_ok-read_list-in-4-eq9
returns-in_ok-read_list-in-4-eq9 c =
    let given = c.in_ok-read_list-in-4-eq9.ensures in
    adds 31 4 9 file_of _ _ c.args.field (search rules) refl c.in-4-eq9.is-0 c.in-4-eq9.is-1 (
      given.0,
      given.1,
      λ es so_far.
          let before = c.self.view_is ∙ so_far in
          rw (given.2, ap (λ (s : FileFields). s.schema) before, ap (λ (s : FileFields). s.rows) before, ap (λ (s : FileFields). s.groups) before) (simp (last_more, map_or)),
    )

pub returns-in_ok-pass-in_default : goal.returns-in_ok-pass-in_default
returns-in_ok-pass-in_default c =
    let schema : is_entry 2 9 c.args.field.id c.args.field.kind ≡ false = search rules in
    let rows : is_entry 3 6 c.args.field.id c.args.field.kind ≡ false = search rules in
    let groups : is_entry 4 9 c.args.field.id c.args.field.kind ≡ false = search rules in
    let passed = c.in_ok-pass-in_default.ensures 31 c.requires.depth in
    (passed.0, passed.1, λ es so_far. rw so_far (simp (last_more, schema, rows, groups)))
