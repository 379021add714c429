-- The types of an LF_ARGLIST are fewer than its bytes.
use Rattle.std.proofs.Common.{◌≤◌, length, ap, subst, arith}
use Rattle.cv_type_writer.specs.TypeBytes.{arglist_bytes, fields_bytes}
use Rattle.cv_type_writer.proofs.TypePuts.{arglist_long}
use Rattle.cv_type_writer.proofs.fields.put_fields.Goals as goal

pub put_arglist-requires : goal.put_arglist-requires
put_arglist-requires c =
    let fits : length (arglist_bytes c.in-ArgList.types) ≤ 65535 = subst (λ k. length (fields_bytes k) ≤ 65535) c.in-ArgList.is c.requires.fits in
    omega (arith, fits, arglist_long c.in-ArgList.types, ap length c.as_slice.ensures)
