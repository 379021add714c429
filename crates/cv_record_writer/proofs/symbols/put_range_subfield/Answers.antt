-- The fields, and the range.
use Rattle.std.proofs.Common.{arith}
use Rattle.rv_bytes.proofs.Puts.{on_ok}
use Rattle.cv_record_writer.proofs.SymbolPuts.{range_subfield_fields}
use Rattle.cv_record_writer.proofs.symbols.put_range_subfield.Goals as goal

pub returns : goal.returns
returns c =
    on_ok (range_subfield_fields c.args.reg c.args.attributes c.args.at c.args.range.now c.args.out.now c.put_u16.new.out c.put_u16-2.new.out c.put_u32.new.out c.put_range.new.out
    (omega arith)
    c.in_ok-put_u16.ensures.appended
    (omega arith)
    c.in_ok-put_u16-2.ensures.appended
    (omega arith)
    c.in_ok-put_u32.ensures.appended)
    c.put_range.result c.put_range.ensures
