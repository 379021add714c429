-- The fields, one after the other.
use Rattle.std.proofs.Common.{arith}
use Rattle.byteorder.specs.Endian.{little_bytes}
use Rattle.rv_bytes.specs.Numbers.{number, text}
use Rattle.rv_bytes.proofs.Puts.{on_ok}
use Rattle.cv_parts.specs.Puts.{name_bytes}
use Rattle.cv_parts.proofs.PutForms.{puts_number, puts_made, puts_then}
use Rattle.cv_record_writer.proofs.Fields.{number_then, numeric_then}
use Rattle.cv_symbol_records.specs.declared.kinds.SymKind.{SymKind}
use Rattle.cv_record_writer.proofs.SymbolPuts.{block_fields}
use Rattle.cv_record_writer.proofs.symbols.put_block.Goals as goal

pub returns : goal.returns
returns c =
    on_ok (λ p. block_fields c.args.parent c.args.end c.args.len c.args.offset c.args.section c.args.name.now _ c.args.out.now c.put_name.new.out (number_then 4 c.args.parent _ _ _ c.args.out.now c.put_u32.new.out c.put_name.new.out (omega arith) c.in_ok-put_u32.ensures.appended
    (number_then 4 c.args.end _ _ _ c.put_u32.new.out c.put_u32-2.new.out c.put_name.new.out (omega arith) c.in_ok-put_u32-2.ensures.appended
    (number_then 4 c.args.len _ _ _ c.put_u32-2.new.out c.put_u32-3.new.out c.put_name.new.out (omega arith) c.in_ok-put_u32-3.ensures.appended
    (number_then 4 c.args.offset _ _ _ c.put_u32-3.new.out c.put_u32-4.new.out c.put_name.new.out (omega arith) c.in_ok-put_u32-4.ensures.appended
    (number_then 2 c.args.section _ _ _ c.put_u32-4.new.out c.put_u16.new.out c.put_name.new.out (omega arith) c.in_ok-put_u16.ensures.appended
    (puts_made (SymKind.Block c.args.parent c.args.end c.args.len c.args.offset c.args.section) text c.args.name.now (name_bytes c.args.name.now) c.put_u16.new.out c.put_name.new.out p)))))))
    c.put_name.result c.put_name.ensures.appended
