use Rattle.std.proofs.Common.{◌≡◌, ◌++◌, take}
use Rattle.std.specs.List.{flat_map, All}
use Rattle.layout_lines.specs.Sets.{part_text, entry_lines}
use Rattle.layout_set.specs.Counts.{entry_parts}
use Rattle.layout_writer.proofs.FuncLines.{HasLines}
use Rattle.layout_writer.proofs.func_writer.put_entries.Given as goal

-- the lines so far are put, and those of entries that are not too large are lines
abbrev pub invariant-loop-entry : goal.invariant-loop-entry
invariant-loop-entry l = record {
  put : l.out ≡ l.initial.out ++ flat_map part_text (flat_map entry_lines (take l.entry-index l.entries));
  are_lines : All (HasLines entry_parts entry_lines) (take l.entry-index l.entries);
}
