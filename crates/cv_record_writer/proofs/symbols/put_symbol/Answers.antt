-- The content, after its length.
use Rattle.std.proofs.Common.{◌<◌, ◌^◌, ◌∙◌, arith}
use Rattle.rv_bytes.proofs.Puts.{on_ok}
use Rattle.cv_record_writer.specs.SymbolBytes.{number_of}
use Rattle.cv_record_writer.proofs.SymbolPuts.{content_is, symbol_puts}
use Rattle.cv_record_writer.proofs.symbols.put_symbol.Goals as goal

pub returns-clause-appended : goal.returns-clause-appended
returns-clause-appended c =
    let kind = c.args.kind.now in
    let number : number_of kind < 256 ^ 2 = omega (arith, c.symbol_number.type_inv, c.symbol_number.ensures) in
    let content =
    content_is kind c.symbol_number.result c.new-content.result c.put_u16.new.out c.put_fields.new.out c.put_zeros.new.content c.new-content.ensures c.symbol_number.ensures
    c.in_ok-put_u16.ensures.appended c.in_ok-put_fields.ensures c.in_ok-put_zeros.ensures in
    on_ok
    (λ e. symbol_puts kind c.as_bytes.result.now c.args.out.now c.put_record.new.out number (c.as_bytes.ensures ∙ content) c.requires.fits e c.put_u16.new.out c.put_fields.new.out c.in_ok-put_fields.ensures)
    c.put_record.result c.put_record.ensures.appended
