-- The bytes of an abbreviation table: DWARF 5, 7.5.3.
use Rattle.std.specs.Prelude.{ℕ, ◌-◌, ◌==◌, ◌&&◌, nat_eq, nat_lt, Bool, true, false, if◌then◌else◌, List, [], ◌∷◌, ◌++◌, length, take, Option, Some, None, is_some, ℤ, pos}
use Rattle.std.specs.List.{list_any}
use Rattle.rv_bytes.specs.Forms.{Form, nothing, follow, made, item, choose, Steps, row}
use Rattle.rv_bytes.specs.Numbers.{number, uleb, sleb}
use Rattle.dwarf_abbrev.specs.FormCodes.{implicit_const}
use Rattle.dwarf_abbrev.specs.Rules.{children_byte, code_or_tag, unknown_form}
use Rattle.dwarf_abbrev.specs.Encodings.{encoding_of}
use Rattle.dwarf_abbrev.specs.declared.attr.Spec.{Spec}
use Rattle.dwarf_abbrev.specs.declared.decl.Abbrev.{Abbrev}

-- whether it is the pair 0, 0, which stands after the attributes of a declaration
abbrev pub is_end : Spec → Bool
is_end p = p.attr == 0 && p.form == 0

-- that pair
abbrev pub end : Spec
end = record { attr = 0; form = 0; fixed = pos 0 }

-- the rule that a form breaks: it is none of the table, and not the 0 of the pair 0, 0
abbrev pub form_breaks : ℕ → ℕ → Option ℕ
form_breaks attr form = if is_some (encoding_of form) then None else if attr == 0 && form == 0 then None else Some unknown_form

-- an attribute, its form and the number of its declaration
abbrev pub pair_of : ℕ → ℕ → ℤ → Spec
pair_of attr form fixed = record { attr = attr; form = form; fixed = fixed }

-- an attribute, its form, and the number that an implicit_const has after it
abbrev pub pair : Form ℕ Spec
pair = follow uleb (λ attr. follow (item uleb (form_breaks attr)) (λ form. choose (form == implicit_const) (made (pair_of attr form) sleb) (nothing (pair_of attr form (pos 0)))))

-- whether the pair 0, 0 was there, after this pair
abbrev pub after_pair : Bool → Spec → Bool
after_pair _ p = is_end p

-- pairs, of which the last, and no other, is 0, 0
abbrev pub pairs : Steps Bool Spec ℕ
pairs = record { over = λ b. b; due = λ _. pair; next = after_pair }

-- all but the last
abbrev pub but_last : {A : Type 0} → List A → List A
but_last xs = take (length xs - 1) xs

-- the rule that a code breaks: an earlier declaration has it
abbrev pub code_breaks : List ℕ → ℕ → Option ℕ
code_breaks codes code = if list_any (nat_eq code) codes then Some code_or_tag else None

-- the rule that a tag breaks: it is 0
abbrev pub tag_breaks : ℕ → Option ℕ
tag_breaks tag = if tag == 0 then Some code_or_tag else None

-- the rule that a children byte breaks: it is neither 0 (no children) nor 1 (children)
abbrev pub child_breaks : ℕ → Option ℕ
child_breaks n = if nat_lt 1 n then Some children_byte else None

-- the declaration of a code, a tag, a children byte and pairs up to 0, 0
abbrev pub abbrev_of : ℕ → ℕ → ℕ → List Spec → Abbrev
abbrev_of code tag child specs = record { code = code; tag = tag; children = child == 1; specs = but_last specs }

-- a declaration after its code: tag, children byte, pairs
abbrev pub decl_rest : ℕ → Form ℕ Abbrev
decl_rest code = follow (item uleb tag_breaks) (λ tag. follow (item (number 1) child_breaks) (λ child. made (abbrev_of code tag child) (row pairs false)))

-- a declaration after those of these codes; None is the code 0, which ends the table
abbrev pub decl : List ℕ → Form ℕ (Option Abbrev)
decl codes = follow (item uleb (code_breaks codes)) (λ code. choose (code == 0) (nothing None) (made (λ a. Some a) (decl_rest code)))

-- the codes so far, and whether the code 0 was there
pub record SoFar : Type 0 where
  pub codes : List ℕ
  pub ended : Bool

-- after a declaration its code was there, and after the code 0 the table ends
abbrev pub after_decl : SoFar → Option Abbrev → SoFar
after_decl t None = record { codes = t.codes; ended = true }
after_decl t (Some a) = record { codes = t.codes ++ a.code ∷ []; ended = false }

-- declarations of distinct codes, up to the code 0
abbrev pub decls : Steps SoFar (Option Abbrev) ℕ
decls = record { over = λ t. t.ended; due = λ t. decl t.codes; next = after_decl }

-- at the beginning of a table
abbrev pub fresh : SoFar
fresh = record { codes = []; ended = false }

-- those that are declarations
abbrev pub kept : List (Option Abbrev) → List Abbrev
kept [] = []
kept (None ∷ xs) = kept xs
kept (Some a ∷ xs) = a ∷ kept xs

-- a table
abbrev pub table : Form ℕ (List Abbrev)
table = made kept (row decls fresh)
