-- The count, and the types.
use Rattle.std.proofs.Common.{arith}
use Rattle.rv_bytes.proofs.Puts.{on_ok}
use Rattle.cv_type_writer.proofs.TypePuts.{arglist_fields}
use Rattle.cv_type_writer.proofs.fields.put_arglist.Goals as goal

pub returns : goal.returns
returns c =
    on_ok (arglist_fields c.args.types.now _ c.args.out.now c.put_u32.new.out c.put_indices.new.out (omega arith) (omega arith) c.in_ok-put_u32.ensures.appended) c.put_indices.result c.put_indices.ensures
