use Rattle.std.proofs.Common.{◌-◌}
use Rattle.hx_thrift.specs.Reading.{value_at}
use Rattle.hx_thrift.proofs.Passing.{ok_of_rest}
use Rattle.hx_thrift.proofs.reader.Reader.skip.Goals as goal

pub returns : goal.returns
returns c = ok_of_rest (value_at (32 - c.args.depth) c.args.kind c.args.self.now) c.in_ok-self.field-0 c.in_ok-self.ensures
