-- The offset.
use Rattle.std.proofs.Common.{OnOk, subst}
use Rattle.std.specs.Int.{w32}
use Rattle.std.proofs.lemmas.Int.{to_z-of_z}
use Rattle.rv_bytes.proofs.Puts.{on_ok}
use Rattle.cv_parts.specs.Puts.{Puts}
use Rattle.cv_symbol_records.specs.Ranges.{signed}
use Rattle.cv_record_writer.specs.SymbolBytes.{signed_bytes}
use Rattle.cv_record_writer.proofs.SymbolPuts.{range_full_fields}
use Rattle.cv_record_writer.proofs.symbols.put_range_full.Goals as goal

pub returns : goal.returns
returns c =
    on_ok (range_full_fields c.args.offset (signed_bytes c.args.offset) c.args.out.now c.put_signed.new.out) c.put_signed.result
    (subst (λ z. OnOk c.put_signed.result (Puts signed z (signed_bytes z) c.args.out.now c.put_signed.new.out)) (to_z-of_z w32 c.args.offset c.ranges.offset) c.put_signed.ensures)
