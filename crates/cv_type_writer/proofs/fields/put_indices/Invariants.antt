-- The types so far.
use Rattle.std.proofs.Common.{take}
use Rattle.byteorder.specs.Endian.{little_bytes}
use Rattle.rv_bytes.specs.Numbers.{number}
use Rattle.cv_record_writer.proofs.Lists.{Written}
use Rattle.cv_type_writer.proofs.fields.put_indices.Given as goal

abbrev pub invariant-loop-index : goal.invariant-loop-index
invariant-loop-index l = Written (number 4) (little_bytes 4) (take l.index-index l.types) l.fn.out l.out
