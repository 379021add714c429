-- The forms of a command line's words.
use Rattle.std.specs.Prelude.{ℕ, ◌≤◌, nat_le, ◌&&◌, List, [], ◌∷◌, Option, Some, None, codes, if◌then◌else◌}
use Rattle.std.specs.Fmt.{decimal}
use Rattle.std.specs.Str.{bytes_eq, is_utf8}
use Rattle.std.specs.Str.Parse.{digits_value}
use Rattle.dbg_command.specs.declared.form.Form.{Form as Command}
use Rattle.dbg_command.specs.declared.form.Form.TheVariants as commands
use Rattle.dbg_command.specs.declared.form.LayoutCommand.{LayoutCommand as OfLayout}
use Rattle.dbg_command.specs.declared.form.LayoutCommand.TheVariants as layouts
use Rattle.dbg_command.specs.declared.form.BundleCommand.{BundleCommand as OfBundle}
use Rattle.dbg_command.specs.declared.form.BundleCommand.TheVariants as bundles
use Rattle.dbg_command.specs.declared.form.Printing.{Printing as Printed}

-- what values are printed over: a snapshot, by its name; how deep pointers are followed, and how many elements are shown
pub record Printing : Type 0 where
  pub snapshot : List ℕ
  pub depth : ℕ
  pub width : ℕ

-- what is asked of a layout: whether it is lawful and honest, its values, or a bundle of DWARF sections that describe it
pub data LayoutCommand : Type 0 where
  check : LayoutCommand
  text : (printing : Printing) → LayoutCommand
  emit : LayoutCommand

-- what is asked of a bundle: the set that it describes, or its values
pub data BundleCommand : Type 0 where
  show : BundleCommand
  print : (printing : Printing) → BundleCommand

-- what is asked for, with the name of the first file
pub data Form : Type 0 where
  layout : (name : List ℕ) (command : LayoutCommand) → Form
  bundle : (name : List ℕ) (command : BundleCommand) → Form

-- the number between these bounds that the word spells, in decimal without leading zeros
unfoldable pub number_from : ℕ → ℕ → List ℕ → Option ℕ
number_from least most word = let n = digits_value 10 word in if nat_le least n && nat_le n most && bytes_eq word (decimal n) then Some n else None

-- `check L`, `show B`
abbrev pub of_file : List ℕ → List ℕ → Option Form
of_file command name = if bytes_eq command (codes "check") then Some (layout name check) else if bytes_eq command (codes "show") then Some (bundle name show) else None

-- the same, where the name is UTF-8
abbrev pub file_form : List ℕ → List ℕ → Option Form
file_form command name = if is_utf8 name then of_file command name else None

-- `text L S`, `print B S`, at a depth and a width
abbrev pub of_printing : List ℕ → List ℕ → Printing → Option Form
of_printing command name p =
    if bytes_eq command (codes "text") then Some (layout name (text p)) else if bytes_eq command (codes "print") then Some (bundle name (print p)) else None

-- the same, where the names are UTF-8
abbrev pub printing_form : List ℕ → List ℕ → List ℕ → ℕ → ℕ → Option Form
printing_form command name snapshot depth width =
    if is_utf8 name && is_utf8 snapshot then of_printing command name (record { snapshot = snapshot; depth = depth; width = width }) else None

-- the same, where both numbers are spelled
abbrev pub printing_form_at : List ℕ → List ℕ → List ℕ → Option ℕ → Option ℕ → Option Form
printing_form_at command name snapshot (Some depth) (Some width) = printing_form command name snapshot depth width
printing_form_at command name snapshot (Some depth) None = None
printing_form_at command name snapshot None width = None

-- `text L S --depth N --width N`, `print B S --depth N --width N`: a depth of 0 to 4, a width of 1 to 256
abbrev pub long_form : List ℕ → List ℕ → List ℕ → List ℕ → List ℕ → List ℕ → List ℕ → Option Form
long_form command name snapshot depth_word depth width_word width =
    if bytes_eq depth_word (codes "--depth") && bytes_eq width_word (codes "--width")
    then printing_form_at command name snapshot (number_from 0 4 depth) (number_from 1 256 width)
    else None

-- `emit dwarf L`, where the name is UTF-8
abbrev pub emit_form : List ℕ → List ℕ → Option Form
emit_form format name = if bytes_eq format (codes "dwarf") && is_utf8 name then Some (layout name emit) else None

-- three words: `emit` has a format before the name; depth 2 and width 32 are taken where none are asked for
abbrev pub short_form : List ℕ → List ℕ → List ℕ → Option Form
short_form command first second = if bytes_eq command (codes "emit") then emit_form first second else printing_form command first second 2 32

-- the words' form; a word that isn't UTF-8 fits none
abbrev pub form_of : List (List ℕ) → Option Form
form_of (command ∷ name ∷ []) = file_form command name
form_of (command ∷ first ∷ second ∷ []) = short_form command first second
form_of (command ∷ name ∷ snapshot ∷ depth_word ∷ depth ∷ width_word ∷ width ∷ []) = long_form command name snapshot depth_word depth width_word width
form_of _ = None

-- a depth is at most 4
abbrev pub IsShallowLayout : LayoutCommand → Type 0
IsShallowLayout check = Unit {0}
IsShallowLayout (text p) = p.depth ≤ 4
IsShallowLayout emit = Unit {0}

abbrev pub IsShallowBundle : BundleCommand → Type 0
IsShallowBundle show = Unit {0}
IsShallowBundle (print p) = p.depth ≤ 4

abbrev pub IsShallow : Form → Type 0
IsShallow (layout name c) = IsShallowLayout c
IsShallow (bundle name c) = IsShallowBundle c

-- what the code has found
abbrev pub printing_of : Printed → Printing
printing_of p = record { snapshot = p.snapshot.now; depth = p.depth; width = p.width }

abbrev pub layout_command : OfLayout → LayoutCommand
layout_command layouts.Check = check
layout_command (layouts.Text p) = text (printing_of p)
layout_command layouts.Emit = emit

abbrev pub bundle_command : OfBundle → BundleCommand
bundle_command bundles.Show = show
bundle_command (bundles.Print p) = print (printing_of p)

abbrev pub named : Command → Form
named (commands.Layout name c) = layout name.now (layout_command c)
named (commands.Bundle name c) = bundle name.now (bundle_command c)
