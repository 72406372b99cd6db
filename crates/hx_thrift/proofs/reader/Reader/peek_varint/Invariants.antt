use Rattle.std.proofs.Common.{◌≡◌, ◌-◌, ◌^◌, ◌<◌}
use Rattle.hx_thrift.specs.Reading.{groups_at}
use Rattle.hx_thrift.proofs.Groups.{above}
use Rattle.hx_thrift.proofs.reader.Reader.peek_varint.Given as goal

abbrev pub invariant-loop : goal.invariant-loop
invariant-loop l = record {
  weight : l.scale ≡ 128 ^ l.counter;
  below : l.number < l.scale;
  so_far : above l.number l.scale (groups_at l.fn.self.at (10 - l.counter) l.ahead) ≡ groups_at l.fn.self.at 10 l.fn.self;
}
