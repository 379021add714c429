use Rattle.std.proofs.Common.{length}
use Rattle.rv_bytes.proofs.leb.+low_bits.Given as goal

-- how many bytes are left
abbrev pub decreases-low_bits : goal.decreases-low_bits
decreases-low_bits l = length l.bytes.now
