-- What names are, as the calls answer it.
use Rattle.std.specs.Prelude.{Bool, true, false}
use Rattle.dwarf_entries.specs.NameRoles.{Role as Meant}
use Rattle.dwarf_scopes.specs.declared.roles.Role.{Role}

abbrev pub role_meant : Role → Meant
role_meant Role.Word = Meant.word
role_meant Role.Joined = Meant.joined
role_meant Role.Plain = Meant.plain

-- a word, or a text that says nothing
abbrev pub word_or_plain : Bool → Meant
word_or_plain true = Meant.word
word_or_plain false = Meant.plain

-- a word, or a text with those around it
abbrev pub word_or_joined : Bool → Meant
word_or_joined true = Meant.word
word_or_joined false = Meant.joined
