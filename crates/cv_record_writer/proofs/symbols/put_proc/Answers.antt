-- The fields, one after the other.
use Rattle.std.proofs.Common.{arith}
use Rattle.byteorder.specs.Endian.{little_bytes}
use Rattle.rv_bytes.specs.Numbers.{number, text}
use Rattle.rv_bytes.proofs.Puts.{on_ok}
use Rattle.cv_parts.specs.Puts.{name_bytes}
use Rattle.cv_parts.proofs.PutForms.{puts_number, puts_made, puts_then}
use Rattle.cv_record_writer.proofs.Fields.{number_then, numeric_then}
use Rattle.cv_symbol_records.specs.Symbols.{proc_of}
use Rattle.cv_record_writer.proofs.symbols.put_proc.Goals as goal

pub returns : goal.returns
returns c =
    on_ok (λ p. puts_then (number 4) _ c.args.procedure.now.parent _ (little_bytes 4 c.args.procedure.now.parent) _ c.args.out.now c.put_dword.new.out c.put_name.new.out c.in_ok-put_dword.ensures
    (puts_then (number 4) _ c.args.procedure.now.end _ (little_bytes 4 c.args.procedure.now.end) _ c.put_dword.new.out c.put_dword-2.new.out c.put_name.new.out c.in_ok-put_dword-2.ensures
    (puts_then (number 4) _ c.args.procedure.now.next _ (little_bytes 4 c.args.procedure.now.next) _ c.put_dword-2.new.out c.put_dword-3.new.out c.put_name.new.out c.in_ok-put_dword-3.ensures
    (puts_then (number 4) _ c.args.procedure.now.len _ (little_bytes 4 c.args.procedure.now.len) _ c.put_dword-3.new.out c.put_dword-4.new.out c.put_name.new.out c.in_ok-put_dword-4.ensures
    (puts_then (number 4) _ c.args.procedure.now.debug_start _ (little_bytes 4 c.args.procedure.now.debug_start) _ c.put_dword-4.new.out c.put_dword-5.new.out c.put_name.new.out c.in_ok-put_dword-5.ensures
    (puts_then (number 4) _ c.args.procedure.now.debug_end _ (little_bytes 4 c.args.procedure.now.debug_end) _ c.put_dword-5.new.out c.put_dword-6.new.out c.put_name.new.out c.in_ok-put_dword-6.ensures
    (puts_then (number 4) _ c.args.procedure.now.ty _ (little_bytes 4 c.args.procedure.now.ty) _ c.put_dword-6.new.out c.put_dword-7.new.out c.put_name.new.out c.in_ok-put_dword-7.ensures
    (puts_then (number 4) _ c.args.procedure.now.offset _ (little_bytes 4 c.args.procedure.now.offset) _ c.put_dword-7.new.out c.put_dword-8.new.out c.put_name.new.out c.in_ok-put_dword-8.ensures
    (puts_then (number 2) _ c.args.procedure.now.section _ (little_bytes 2 c.args.procedure.now.section) _ c.put_dword-8.new.out c.put_word.new.out c.put_name.new.out c.in_ok-put_word.ensures
    (puts_then (number 1) _ c.args.procedure.now.flags _ (little_bytes 1 c.args.procedure.now.flags) _ c.put_word.new.out c.put_byte.new.out c.put_name.new.out c.in_ok-put_byte.ensures
    (puts_made (proc_of c.args.procedure.now.parent c.args.procedure.now.end c.args.procedure.now.next c.args.procedure.now.len c.args.procedure.now.debug_start c.args.procedure.now.debug_end c.args.procedure.now.ty c.args.procedure.now.offset c.args.procedure.now.section c.args.procedure.now.flags) text c.args.procedure.now.name (name_bytes c.args.procedure.now.name) c.put_byte.new.out c.put_name.new.out p)))))))))))
    c.put_name.result c.put_name.ensures.appended
