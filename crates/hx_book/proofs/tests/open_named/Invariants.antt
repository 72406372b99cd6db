use Rattle.std.proofs.Common.{map}
use Rattle.hx_book.specs.Books.{origin_of}
use Rattle.hx_book.proofs.tests.open_named.Given as goal

-- the job is the one that is asked; nothing is supposed of it
abbrev pub ghosts-open_in : goal.ghosts-open_in
ghosts-open_in g a = record {
  of = record {
    settings = a.settings;
    origins = map (origin_of g.Src.Source.source) a.inputs.items;
    tells = g.S.Store.disk.tells a.store;
    premises = ⊥;
    opening = g.S.Store.disk.may_leave a.store;
    moment = g.S.Store.disk.moment a.store;
    before = g.S.Store.disk.faults a.store;
  };
}
