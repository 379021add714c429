-- The reader's words carry over, since it is exact.
use Rattle.std.specs.Option.{option_map}
use Rattle.rv_bytes.proofs.Calls.{taken_by, refused_by}
use Rattle.expr_bytes.specs.Operations.{oper_of}
use Rattle.expr_bytes.specs.Operands.{operation}
use Rattle.expr_bytes.specs.Readers.{read_operation}
use Rattle.expr_bytes.proofs.OperandsExact.{operation_exact}
use Rattle.expr_bytes.proofs.reader.read_operation.Goals as goal

pub returns-clause-taken : goal.returns-clause-taken
returns-clause-taken c =
    let frame = c.args.frame in let addrs = c.args.addrs.now in
    taken_by (operation frame addrs) (read_operation frame addrs) (operation_exact frame addrs) (option_map oper_of) c.args.cut.now c.read_item.new.cut c.read_item.result c.read_item.ensures

pub returns-clause-refused : goal.returns-clause-refused
returns-clause-refused c =
    let frame = c.args.frame in let addrs = c.args.addrs.now in
    refused_by (operation frame addrs) (read_operation frame addrs) (operation_exact frame addrs) (option_map oper_of) c.args.cut.now c.read_item.new.cut c.read_item.result c.read_item.ensures
