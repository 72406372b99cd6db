use Rattle.hx_thrift.proofs.Written.{varint_spelled, shortest, header_spelled, list_spelled, binary_spelled, value_spelled}
use Rattle.hx_thrift.proofs.laws.writing_is_spelling.Goals as goal

pub returns-clause-varint : goal.returns-clause-varint
returns-clause-varint c = varint_spelled

pub returns-clause-shortest : goal.returns-clause-shortest
returns-clause-shortest c n bytes is = shortest 9 n bytes is.groups

pub returns-clause-header : goal.returns-clause-header
returns-clause-header c = header_spelled

pub returns-clause-list : goal.returns-clause-list
returns-clause-list c = list_spelled

pub returns-clause-binary : goal.returns-clause-binary
returns-clause-binary c = binary_spelled

pub returns-clause-value : goal.returns-clause-value
returns-clause-value c = value_spelled
