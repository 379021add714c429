-- One type more.
use Rattle.byteorder.specs.Endian.{little_bytes}
use Rattle.rv_bytes.specs.Numbers.{number}
use Rattle.cv_record_writer.proofs.Lists.{written_none, written_more, written_whole}
use Rattle.cv_type_writer.proofs.fields.put_indices.Goals as goal

pub loop-index-init : goal.loop-index-init
loop-index-init c = written_none (number 4) (little_bytes 4) c.args.out.now

pub loop-index-preserved : goal.loop-index-preserved
loop-index-preserved c =
    written_more (number 4) (little_bytes 4) c.args.types.now c.loop-index.index-index 0 c.args.out.now c.loop-index.out c.put_type_index.new.out c.loop-index-test.true c.loop-index.invariant c.in_ok-put_type_index.ensures

pub returns : goal.returns
returns c = written_whole (number 4) (little_bytes 4) c.args.types.now c.loop-index.index-index c.args.out.now c.loop-index.out c.loop-index-test.false c.loop-index.invariant
