use Rattle.std.proofs.Common.{◌≡◌, ◌++◌, OnOk, subst}
use Rattle.rv_bytes.proofs.LeafBytes.{leaf_written}
use Rattle.rv_bytes.proofs.put_leaves.put_leaf.Goals as goal

-- the kind stands in the first two bytes, and the lowest bytes of the word after it
pub returns-clause-appended : goal.returns-clause-appended
returns-clause-appended c =
    let written = leaf_written c.args.leaf.kind c.args.word c.args.leaf.width c.from.result 8 _ _ c.write_u16.new.buf c.write_u64.new.buf c.requires c.from.ensures c.write_u16.ensures c.write_u64.ensures in
    subst (λ z. OnOk c.put.result (c.put.new.self ≡ c.args.out.now ++ z)) written c.put.ensures.appended
