use Rattle.hats.proofs.running.answer.Goals as goal

pub returns-in-Ok-clause-run : goal.returns-in-Ok-clause-run
returns-in-Ok-clause-run g c =
    let ran = c.run_plain-ran.ensures in
    rw (c.in-Ok.is, ← c.deref.ensures.value) (record {
      inputs = ran.inputs;
      usage = ran.usage;
      many = ran.many;
      first = ran.first;
      decided = ran.decided;
      in_turn = ran.in_turn;
      cause = ran.cause;
      output = ran.output;
      later = ran.sink;
      faults = ran.faults;
      left = ran.store;
      untouched = ran.untouched;
      too_many = ran.too_many;
    })
