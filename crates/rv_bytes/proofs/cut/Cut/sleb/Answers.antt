use Rattle.std.proofs.Common.{w64, ◌∙◌}
use Rattle.std.proofs.lemmas.Int.{to_z-of_z}
use Rattle.rv_bytes.proofs.LebCalls.{low_sleb_read, low_sleb_taken}
use Rattle.rv_bytes.proofs.cut.Cut.sleb.Goals as goal

-- a byte below 128 is the whole number
pub returns-in-Some-clause-taken : goal.returns-in-Some-clause-taken
returns-in-Some-clause-taken c =
    let value = to_z-of_z w64 c.signed_group.result (record { sfits = c.signed_group.type_inv }) ∙ c.signed_group.ensures in
    low_sleb_taken c.args.self.now c.skip_byte.new.self c.in-Some.b _ c.in-Some.ensures value c.skip_byte.ensures

pub returns-in-Some-clause-reads : goal.returns-in-Some-clause-reads
returns-in-Some-clause-reads c =
    let value = to_z-of_z w64 c.signed_group.result (record { sfits = c.signed_group.type_inv }) ∙ c.signed_group.ensures in
    low_sleb_read c.args.self.now c.skip_byte.new.self c.in-Some.b _ c.in-Some.ensures value c.skip_byte.ensures
