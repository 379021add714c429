use Rattle.std.proofs.Common.{sym, ap, ◌∙◌}
use Rattle.std.specs.Option.{option_map}
use Rattle.cv_links.specs.Seen.{head_seen, leaf_seen}
use Rattle.cv_links.proofs.Firsts.{enum_added, forward_stays, structure_added, union_added, without_head}
use Rattle.cv_links.proofs.completes.Completes.add_at.Goals as goal

pub returns-in_default : goal.returns-in_default
returns-in_default c = without_head c.args.records.now c.args.place c.args.self.now c.requires (sym (ap (option_map head_seen) c.in_default.is) ∙ c.head_at.ensures)

pub returns-then-is_forward : goal.returns-then-is_forward
returns-then-is_forward c =
    forward_stays c.args.records.now c.args.place (head_seen c.in-Some.head) c.args.self.now c.requires c.in-Some.ensures (sym c.is_forward.ensures ∙ c.if-is_forward.true)

pub returns-in-Structure : goal.returns-in-Structure
returns-in-Structure c =
    structure_added c.add.result c.args.records.now c.args.place (head_seen c.in-Some.head) c.args.self.now c.add.new.self c.requires c.in-Some.ensures (sym c.is_forward.ensures ∙ c.if-is_forward.false) (ap leaf_seen c.in-Structure.is) c.add.ensures

pub returns-in-Union : goal.returns-in-Union
returns-in-Union c =
    union_added c.add-in-Union.result c.args.records.now c.args.place (head_seen c.in-Some.head) c.args.self.now c.add-in-Union.new.self c.requires c.in-Some.ensures (sym c.is_forward.ensures ∙ c.if-is_forward.false) (ap leaf_seen c.in-Union.is) c.add-in-Union.ensures

pub returns-in-Enum : goal.returns-in-Enum
returns-in-Enum c =
    enum_added c.add-in-Enum.result c.args.records.now c.args.place (head_seen c.in-Some.head) c.args.self.now c.add-in-Enum.new.self c.requires c.in-Some.ensures (sym c.is_forward.ensures ∙ c.if-is_forward.false) (ap leaf_seen c.in-Enum.is) c.add-in-Enum.ensures
