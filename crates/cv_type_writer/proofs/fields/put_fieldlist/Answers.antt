-- The members.
use Rattle.rv_bytes.proofs.Puts.{on_ok}
use Rattle.cv_type_writer.proofs.TypePuts.{fieldlist_fields}
use Rattle.cv_type_writer.proofs.fields.put_fieldlist.Goals as goal

pub returns : goal.returns
returns c = on_ok (fieldlist_fields c.args.members.now c.args.out.now c.put_members.new.out) c.put_members.result c.put_members.ensures
