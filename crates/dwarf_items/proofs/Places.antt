-- Places of expressions.
use Rattle.std.proofs.Common.{◌≡◌, ◌≤◌, [], drop, length, refl, sym}
use Rattle.std.proofs.lemmas.List.{drop_all}
use Rattle.rv_bytes.specs.NumberReaders.{groups_in}
use Rattle.dwarf_entries.specs.AttributeItems.{expression_place}
use Rattle.dwarf_entries.specs.Dies.{Info}
use Rattle.dwarf_entries.specs.Shapes.{Attribute}

-- no length is read from outside
read_nothing : (info : Info) (a : Attribute) → drop a.offset info.sections.info ≡ [] → expression_place info a ≡ a.offset
unfolding groups_in
read_nothing info a h = rw h refl

pub place_outside : (info : Info) (a : Attribute) → length info.sections.info ≤ a.offset → a.offset ≡ expression_place info a
place_outside info a h = sym (read_nothing info a (drop_all a.offset info.sections.info h))
