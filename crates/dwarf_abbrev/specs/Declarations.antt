-- The declarations of a table: how they are found, and which can be written.
use Rattle.std.specs.Prelude.{◌≡◌, ◌≢◌, ℕ, nat_eq, true, false, List, map, Option, All, is_some, pos}
use Rattle.std.specs.List.{find, list_any, position, IsDistinct}
use Rattle.std.specs.Ordering.{nat_cmp}
use Rattle.std.specs.BTreeMap.{BTreeMap, get}
use Rattle.dwarf_abbrev.specs.FormCodes.{implicit_const}
use Rattle.dwarf_abbrev.specs.Encodings.{encoding_of}
use Rattle.dwarf_abbrev.specs.declared.attr.Spec.{Spec}
use Rattle.dwarf_abbrev.specs.declared.decl.Abbrev.{Abbrev}

-- the declaration that has the code
abbrev pub find_code : List Abbrev → ℕ → Option Abbrev
find_code list code = find (λ a. nat_eq code a.code) list

-- its place among them
abbrev pub place_of_code : List Abbrev → ℕ → Option ℕ
place_of_code list code = position (λ a. nat_eq code a.code) list

-- the map has for each code the place of its declaration, and no other code
abbrev pub HasPlaces : BTreeMap ℕ ℕ → List Abbrev → Type 0
HasPlaces places list = (code : ℕ) → get nat_cmp places code ≡ place_of_code list code

-- the codes of declarations, in order
abbrev pub codes_of : List Abbrev → List ℕ
codes_of list = map (λ a. a.code) list

-- no code is there twice, or is 0
abbrev pub AreCodes : List ℕ → Type 0
AreCodes codes = IsDistinct nat_eq codes × All (λ code. code ≢ 0) codes

-- the code is none of these, and not 0
abbrev pub IsFresh : List ℕ → ℕ → Type 0
IsFresh codes code = (list_any (nat_eq code) codes ≡ false) × (code ≢ 0)

-- the form is one of the table, and only an implicit_const has a number in its declaration
pub record IsSpec (spec : Spec) : Type 0 where
  pub form : is_some (encoding_of spec.form) ≡ true
  pub fixed : spec.form ≢ implicit_const → spec.fixed ≡ pos 0

-- the tag is not 0, and each attribute has a form
pub record IsDeclaration (a : Abbrev) : Type 0 where
  pub tag : a.tag ≢ 0
  pub specs : All IsSpec a.specs

-- declarations with distinct codes, none of them 0
pub record AreDeclarations (list : List Abbrev) : Type 0 where
  pub codes : AreCodes (codes_of list)
  pub each : All IsDeclaration list
