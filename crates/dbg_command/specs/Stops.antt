-- The statuses and the messages of runs that end without an answer.
use Rattle.std.specs.Prelude.{ℕ, List, [], ◌∷◌, ◌++◌, codes, decimal}
use Rattle.layout_set.specs.declared.refusal.Refusal.{Refusal}
use Rattle.layout_set.specs.declared.refusal.Section.{Section}
use Rattle.layout_set.specs.declared.breach.Item.{Item}
use Rattle.layout_set.specs.declared.breach.Item.TheVariants.{Whole, Def, Static, Func}
use Rattle.layout_reader.specs.declared.layout_err.Count.{Count}
use Rattle.layout_reader.specs.declared.layout_err.Count.TheVariants.{Types, Parts, Variables}
use Rattle.dbg_command.specs.declared.stop.Stop.{Stop}
use Rattle.dbg_command.specs.declared.stop.Stop.TheVariants as stops

abbrev pub status_of : Stop → ℕ
status_of stops.Usage = 2
status_of stops.ReadFault = 3
status_of stops.WriteFault = 4
status_of stops.Memory = 5
status_of _ = 1

-- a message of two texts
abbrev pub line : List ℕ → List ℕ → List ℕ
line front text = front ++ text ++ 10 ∷ []

-- a message of a text, a number and a text
abbrev pub number_line : List ℕ → ℕ → List ℕ → List ℕ
number_line front n back = front ++ decimal n ++ back ++ 10 ∷ []

-- a message of a text, a number, a text and a number
abbrev pub numbers_line : List ℕ → ℕ → List ℕ → ℕ → List ℕ
numbers_line front first between second = front ++ decimal first ++ between ++ decimal second ++ 10 ∷ []

-- what a layout has too many of
abbrev pub count_word : Count → List ℕ
count_word Types = codes "types"
count_word Parts = codes "parts"
count_word Variables = codes "variables"

-- the law that fails, and the first item of which it is false
abbrev pub breach_line : ℕ → Item → List ℕ
breach_line law Whole = number_line (codes "rdbg: breach law ") law (codes " at set")
breach_line law (Def i) = numbers_line (codes "rdbg: breach law ") law (codes " at type ") i
breach_line law (Static i) = numbers_line (codes "rdbg: breach law ") law (codes " at static ") i
breach_line law (Func i) = numbers_line (codes "rdbg: breach law ") law (codes " at fn ") i

-- a section by its name in an object file, or the bundle
abbrev pub section_word : Section → List ℕ
section_word Section.Abbrev = codes ".debug_abbrev"
section_word Section.Info = codes ".debug_info"
section_word Section.Str = codes ".debug_str"
section_word Section.LineStr = codes ".debug_line_str"
section_word Section.StrOffsets = codes ".debug_str_offsets"
section_word Section.Addr = codes ".debug_addr"
section_word Section.LocLists = codes ".debug_loclists"
section_word Section.RngLists = codes ".debug_rnglists"
section_word Section.DebugT = codes ".debug$T"
section_word Section.DebugS = codes ".debug$S"
section_word Section.Bundle = codes "bundle"

-- the rule that is broken, and where
abbrev pub outside_line : Refusal → List ℕ
outside_line r = codes "rdbg: outside " ++ section_word r.section ++ codes " " ++ decimal r.offset ++ codes " rule " ++ decimal r.rule ++ 10 ∷ []

abbrev pub message : Stop → List ℕ
message stops.Usage = line (codes "rdbg: usage") []
message (stops.LayoutLine n rule) = numbers_line (codes "rdbg: layout line ") n (codes " rule ") rule
message (stops.LayoutLimit which) = line (codes "rdbg: layout limit ") (count_word which)
message (stops.Breach law at) = breach_line law at
message (stops.Outside refusal) = outside_line refusal
message (stops.SnapshotLine n rule) = numbers_line (codes "rdbg: snapshot line ") n (codes " rule ") rule
message (stops.SnapshotOverlap n) = number_line (codes "rdbg: snapshot overlap ") n []
message (stops.CannotOpen name) = line (codes "rdbg: cannot open ") name.now
message (stops.TooManyBytes name) = line (codes "rdbg: too many bytes ") name.now
message stops.NotYet = line (codes "rdbg: not yet") []
message stops.ReadFault = line (codes "rdbg: read fault") []
message stops.WriteFault = line (codes "rdbg: write fault") []
message stops.Memory = line (codes "rdbg: out of memory") []
