use Rattle.std.proofs.Common.{w64, ◌∙◌}
use Rattle.std.proofs.lemmas.Int.{to_z-of_z}
use Rattle.rv_bytes.specs.Numbers.{zero_or}
use Rattle.rv_bytes.proofs.Lebs.{groups_are}
use Rattle.rv_bytes.proofs.LebCalls.{sleb_taken, sleb_refused}
use Rattle.rv_bytes.proofs.cut.Cut.long_sleb.Goals as goal

pub signed_bits-requires : goal.signed_bits-requires
signed_bits-requires c = groups_are (zero_or 127) _ _ _ _ _ c.in-Ok.ensures.reads

-- what the reader of groups gives is taken, and what it refuses is refused
pub returns-in-Ok-clause-taken : goal.returns-in-Ok-clause-taken
returns-in-Ok-clause-taken c =
    let value = to_z-of_z w64 c.signed_bits.result (record { sfits = c.signed_bits.type_inv }) ∙ c.signed_bits.ensures in
    sleb_taken c.args.self.now c.groups.new.self _ c.in-Ok.bytes.now value c.in-Ok.ensures.reads

pub returns-in-Err-clause-refused : goal.returns-in-Err-clause-refused
returns-in-Err-clause-refused c = sleb_refused c.args.self.now c.in-Err.e c.in-Err.ensures.reads
