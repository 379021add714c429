use Rattle.std.proofs.Common.{rules, ◌≡◌, None, Some, ap}
use Rattle.dwarf_entries.specs.Dies.{what}
use Rattle.dwarf_entries.specs.Tags.{passes}
use Rattle.dwarf_entries.specs.declared.tag.Tag.{Tag}
use Rattle.dwarf_types.proofs.SetTypes.{has_cases, has_count, has_size, is_said_otherwise, is_structure}
use Rattle.dwarf_types.proofs.type_defs.type_def.Goals as goal
use Rattle.dwarf_types.proofs.type_defs.type_def.Goals.{in_default-via-in-Some+in_default, in_default-via-in_default}

pub structure_def-requires-clause-structure : goal.structure_def-requires-clause-structure
structure_def-requires-clause-structure c =
    let is : what c.args.die.now.die ≡ Some Tag.StructureType = cc in
    is_structure c.args.links.now c.args.die.now
    (record { here = c.requires.here; found = c.number-number.ensures.found; unbroken = c.requires.unbroken; of_set = c.requires.of_set }) is

pub array_def-requires-clause-count : goal.array_def-requires-clause-count
array_def-requires-clause-count c =
    let is : what c.args.die.now.die ≡ Some Tag.ArrayType = cc in
    has_count c.args.links.now c.args.die.now
    (record { here = c.requires.here; found = c.number-number.ensures.found; unbroken = c.requires.unbroken; of_set = c.requires.of_set }) is

pub enumeration_def-requires-clause-cases : goal.enumeration_def-requires-clause-cases
enumeration_def-requires-clause-cases c =
    let is : what c.args.die.now.die ≡ Some Tag.EnumerationType = cc in
    has_cases c.args.links.now c.args.die.now
    (record { here = c.requires.here; found = c.number-number.ensures.found; unbroken = c.requires.unbroken; of_set = c.requires.of_set }) is

pub bytes_def-requires : goal.bytes_def-requires
bytes_def-requires c =
    has_size c.args.links.now c.args.die.now
    (record { here = c.requires.here; found = c.number-number.ensures.found; unbroken = c.requires.unbroken; of_set = c.requires.of_set })
    (elim c.in_default.branch [
      | in_default-via-in-Some+in_default w ↦ search rules
      | in_default-via-in_default w ↦ let none : what c.args.die.now.die ≡ None = cc in ap (passes is_said_otherwise) none
    ])
