-- Tests of tags that are the same.
use Rattle.std.proofs.Common.{◌≡◌, Bool, Option, Some, None, refl}
use Rattle.dwarf_entries.specs.Tags.{passes}
use Rattle.dwarf_entries.specs.declared.tag.Tag.{Tag}

pub same_tests : (f g : Tag → Bool) → ((t : Tag) → f t ≡ g t) → (o : Option Tag) → passes f o ≡ passes g o
same_tests f g same None = refl
same_tests f g same (Some t) = same t
