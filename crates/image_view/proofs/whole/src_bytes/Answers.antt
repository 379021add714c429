use Rattle.std.proofs.Common.{refl, ◌+◌}
use Rattle.snapshot_file.specs.Memory.{items_at}
use Rattle.image_view.specs.Places.{slice_items}
use Rattle.image_view.proofs.OneChunk.{by_items, memory_items}
use Rattle.image_view.proofs.whole.src_bytes.Goals as goal

pub returns-in-Mem : goal.returns-in-Mem
returns-in-Mem c = rw c.in-Mem.is (by_items c.memory_bytes.result (items_at c.args.mem.now (c.in-Mem.at + c.args.off) c.args.len) _ c.memory_bytes.ensures (memory_items c.args.mem.now c.in-Mem.at c.args.off c.args.len))

pub returns-in-Bytes : goal.returns-in-Bytes
returns-in-Bytes c = rw c.in-Bytes.is (by_items c.slice_bytes.result (slice_items c.in-Bytes.bytes.now c.args.off c.args.len) (slice_items c.in-Bytes.bytes.now c.args.off c.args.len) c.slice_bytes.ensures refl)
