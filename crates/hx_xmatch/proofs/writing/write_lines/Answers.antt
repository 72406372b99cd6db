use Rattle.std.proofs.Common.{◌≡◌, ◌++◌, [], ℕ, List, Err, Option, Some, false, refl, rules, subst, arith}
use Rattle.hx_xmatch.specs.Files.{HasRowsAt, name_of}
use Rattle.hx_xmatch.specs.MatchText.{header}
use Rattle.hx_xmatch.specs.Output.{AddsPiece}
use Rattle.hx_xmatch.proofs.Composed.{but_twice}
use Rattle.hx_xmatch.proofs.FieldLemmas.{field_moves}
use Rattle.hx_xmatch.proofs.Listing.{listed_more}
use Rattle.hx_xmatch.proofs.Moves.{either_back, rows_back, rows_on}
use Rattle.hx_xmatch.proofs.Written.{field_empty, more_written, none_written}
use Rattle.hx_xmatch.proofs.writing.write_lines.Goals as goal

pub loop-part-init : goal.loop-part-init
loop-part-init g c =
    let d = g.S.Store.disk in
    let start = d.reads c.args.store.now in
    let pair = c.args.pair.now in
    record {
      passes = λ tells. c.begin.ensures.passes tells;
      later = c.begin.ensures.cause.later;
      field = λ tells. field_empty (HasRowsAt start pair.right) _ _ _ c.in_ok-none.ensures;
      written = λ tells. (header, c.in_ok-begin.ensures.begun tells, [], refl, none_written start pair.right pair.r2);
    }

pub returns-in_err-more-clause-passes : goal.returns-in_err-more-clause-passes
returns-in_err-more-clause-passes g c tells =
    let run = c.loop-part.invariant.passes tells in
    but_twice g.S.Store.disk _ tells _ _ _ run (c.add_piece.ensures.passes run.told)

pub loop-part-preserved : goal.loop-part-preserved
loop-part-preserved g c =
    let d = g.S.Store.disk in
    let start = d.reads c.args.store.now in
    let mid = d.reads c.loop-part.store in
    let pair = c.args.pair.now in
    let tmp = c.args.tmp.now in
    let none = c.requires in
    record {
      passes = λ tells. let run = c.loop-part.invariant.passes tells in but_twice d _ tells _ _ _ run (c.add_piece.ensures.passes run.told);
      later = omega (arith, c.loop-part.invariant.later, c.add_piece.ensures.cause.later);
      field = λ tells.
          let run = c.loop-part.invariant.passes tells in
          let held = field_moves (HasRowsAt start pair.right) (HasRowsAt mid pair.right) (rows_on start mid tmp none run.seen pair.right) _ _ _ (c.loop-part.invariant.field tells) in
          field_moves (HasRowsAt mid pair.right) (HasRowsAt start pair.right) (rows_back start mid tmp none run.seen pair.right) _ _ _ (c.in_ok-more.ensures.field run.told held);
      written = λ tells.
          let run = c.loop-part.invariant.passes tells in
          let held = field_moves (HasRowsAt start pair.right) (HasRowsAt mid pair.right) (rows_on start mid tmp none run.seen pair.right) _ _ _ (c.loop-part.invariant.field tells) in
          let (text, is, rows, listed, wr) = c.loop-part.invariant.written tells in
          let adds : AddsPiece mid pair.left pair.right c.loop-part.part pair.r2 (Some text) (d.reads c.add_piece.new.store tmp) c.in_ok-more.more.rows c.in_ok-more.more.matched =
          subst (λ (o : Option (List ℕ)). AddsPiece mid pair.left pair.right c.loop-part.part pair.r2 o (d.reads c.add_piece.new.store tmp) c.in_ok-more.more.rows c.in_ok-more.more.matched) is (c.in_ok-more.ensures.added run.told held) in
          let (pixel, at, has) = rows_back start mid tmp none run.seen pair.left c.loop-part.part false adds.file adds.is in (
            text ++ adds.lines,
            adds.added,
            rows ++ adds.file,
            listed_more start (name_of pair.left) false pair.left.parts c.loop-part.part pixel rows adds.file at listed has,
            more_written start mid tmp none run.seen pair.left pair.right pair.r2 c.loop-part.part rows text _ _ _ _ _ _ _ wr adds c.plus-counts.ensures.rows c.plus-counts.ensures.matched,
          );
    }

pub returns-in_err-more-clause-refused : goal.returns-in_err-more-clause-refused
returns-in_err-more-clause-refused g c tells =
    let d = g.S.Store.disk in
    let run = c.loop-part.invariant.passes tells in
    let pair = c.args.pair.now in
    let is : c.from_residual-in_err-more.result ≡ Err c.in_err-more.field-0.0 = search rules in
    rw is (either_back (d.reads c.args.store.now) (d.reads c.loop-part.store) c.args.tmp.now c.requires run.seen pair.left pair.right c.in_err-more.field-0.0 (c.in_err-more.ensures.refused run.told))
