use Rattle.std.proofs.Common.{◌≡◌, rules, to_z, of_z, sym, subst, ◌∙◌}
use Rattle.std.specs.Int.{w128}
use Rattle.rv_bytes.specs.Readers.{got}
use Rattle.rv_bytes.specs.Reads.{Takes}
use Rattle.rv_bytes.specs.Leaves.{numeric}
use Rattle.rv_bytes.specs.NumberReaders.{read_number}
use Rattle.rv_bytes.proofs.LeafCalls.{numeric_taken, numeric_refused}
use Rattle.rv_bytes.proofs.cut.Cut.numeric.Goals as goal

pub returns-in-Ok-clause-taken : goal.returns-in-Ok-clause-taken
returns-in-Ok-clause-taken c =
    let kind = subst (λ p. read_number 2 p.at p.rest ≡ got c.in_ok-kind.kind c.u16.new.self.at c.u16.new.self.rest) c.copy-cut.ensures c.in_ok-kind.ensures.reads in
    let same : to_z w128 (of_z w128 c.in-Ok.n) ≡ c.in-Ok.n = search rules in
    subst (Takes numeric c.args.self.now c.leaf.new.self) (sym same) (numeric_taken c.args.self.now c.u16.new.self c.leaf.new.self c.in_ok-kind.kind c.in-Ok.n kind c.in-Ok.ensures)

pub returns-in-Err-clause-refused : goal.returns-in-Err-clause-refused
returns-in-Err-clause-refused c =
    let kind = subst (λ p. read_number 2 p.at p.rest ≡ got c.in_ok-kind.kind c.u16.new.self.at c.u16.new.self.rest) c.copy-cut.ensures c.in_ok-kind.ensures.reads in
    numeric_refused c.args.self.now c.u16.new.self c.in_ok-kind.kind c.in-Err.e c.of_item.result kind c.in-Err.ensures (c.of_item.ensures.0, c.of_item.ensures.1 ∙ c.at-at.ensures)
