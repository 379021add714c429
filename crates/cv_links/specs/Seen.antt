-- What targets and heads show: those of cv_type_defs.
use Rattle.std.specs.Prelude.{option_copied}
use Rattle.cv_type_defs.specs.Links.{Target}
use Rattle.cv_type_defs.specs.Records.{Head, Leaf}
use Rattle.cv_links.specs.declared.heads.Head.{Head as ReadHead}
use Rattle.cv_links.specs.declared.heads.Leaf.{Leaf as ReadLeaf}
use Rattle.cv_links.specs.declared.target.Target.{Target as ReadTarget}

abbrev pub target_seen : ReadTarget → Target
target_seen (ReadTarget.Simple index) = Target.Simple index
target_seen (ReadTarget.Record place) = Target.Record place
target_seen (ReadTarget.Broken rule) = Target.Broken rule

abbrev pub leaf_seen : ReadLeaf → Leaf
leaf_seen ReadLeaf.Structure = Leaf.Structure
leaf_seen ReadLeaf.«Union» = Leaf.Union
leaf_seen ReadLeaf.Enum = Leaf.Enum

abbrev pub head_seen : ReadHead → Head
head_seen h = record { leaf = leaf_seen h.leaf; property = h.property; fields = h.fields; name = h.name.now; unique = option_copied h.unique }
