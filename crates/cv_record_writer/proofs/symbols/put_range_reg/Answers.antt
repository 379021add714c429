-- The fields, and the range.
use Rattle.std.proofs.Common.{arith}
use Rattle.rv_bytes.proofs.Puts.{on_ok}
use Rattle.cv_record_writer.proofs.SymbolPuts.{range_reg_fields}
use Rattle.cv_record_writer.proofs.symbols.put_range_reg.Goals as goal

pub returns : goal.returns
returns c =
    on_ok (range_reg_fields c.args.reg c.args.attributes c.args.range.now c.args.out.now c.put_u16.new.out c.put_u16-2.new.out c.put_range.new.out
    (omega arith)
    c.in_ok-put_u16.ensures.appended
    (omega arith)
    c.in_ok-put_u16-2.ensures.appended)
    c.put_range.result c.put_range.ensures
