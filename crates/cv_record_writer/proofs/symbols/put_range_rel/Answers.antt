-- The fields, and the range.
use Rattle.std.proofs.Common.{subst, arith}
use Rattle.rv_bytes.proofs.Puts.{on_ok}
use Rattle.std.specs.Int.{w32}
use Rattle.std.proofs.lemmas.Int.{to_z-of_z}
use Rattle.cv_parts.specs.Puts.{Puts}
use Rattle.cv_symbol_records.specs.Ranges.{signed}
use Rattle.cv_record_writer.specs.SymbolBytes.{signed_bytes}
use Rattle.cv_record_writer.proofs.SymbolPuts.{range_rel_fields}
use Rattle.cv_record_writer.proofs.symbols.put_range_rel.Goals as goal

pub returns : goal.returns
returns c =
    on_ok (range_rel_fields c.args.reg c.args.flags c.args.offset c.args.range.now c.args.out.now c.put_u16.new.out c.put_u16-2.new.out c.put_signed.new.out c.put_range.new.out
    (omega arith)
    c.in_ok-put_u16.ensures.appended
    (omega arith)
    c.in_ok-put_u16-2.ensures.appended
    (subst (λ z. Puts signed z (signed_bytes z) c.put_u16-2.new.out c.put_signed.new.out) (to_z-of_z w32 c.args.offset c.ranges.offset) c.in_ok-put_signed.ensures))
    c.put_range.result c.put_range.ensures
