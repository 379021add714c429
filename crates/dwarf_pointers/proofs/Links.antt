-- What is said of the ends at which links arrive.
use Rattle.std.proofs.Common.{◌≡◌, ◌∙◌, Bool, true, false, if◌then◌else◌, not, Option, Some, None, ℕ, refl, sym, ap, arith}
use Rattle.dwarf_entries.specs.Codes.{at_type}
use Rattle.dwarf_entries.specs.Dies.{Die, Info, what}
use Rattle.dwarf_entries.specs.Items.{rule_if}
use Rattle.dwarf_entries.specs.Lookups.{has}
use Rattle.dwarf_entries.specs.PassC.{typedef_rule}
use Rattle.dwarf_entries.specs.Pointers.{ends_at_function}
use Rattle.dwarf_entries.specs.Rules.{missing, no_type, too_long}
use Rattle.dwarf_entries.specs.Tags.{passes, is_type}
use Rattle.dwarf_entries.specs.TypeLinks.{End as LinkEnd, type_end}
use Rattle.dwarf_dies.specs.Handles.{DieIn}
use Rattle.dwarf_scopes.specs.Tags.{is_subroutine}
use Rattle.dwarf_links.specs.declared.ends.End.{End}
use Rattle.dwarf_links.specs.Ends.{end_in}
use Rattle.dwarf_links.proofs.TypeRules.{reached_is, nowhere_is, endless_is}
use Rattle.dwarf_pointers.proofs.SameTests.{same_tests}

-- what is said of an end is said of the entry that is reached
pub at_reached : {A : Type 0} (f : LinkEnd → A) (info : Info) (e : DieIn) (l : LinkEnd) → End.Reached e ≡ end_in info l → f (LinkEnd.reached e.die) ≡ f l
at_reached f info e l h = sym (ap f (reached_is info l e h).is)

pub at_nowhere : {A : Type 0} (f : LinkEnd → A) (info : Info) (l : LinkEnd) → End.Nowhere ≡ end_in info l → f LinkEnd.nowhere ≡ f l
at_nowhere f info l h = sym (ap f (nowhere_is info l h))

pub at_endless : {A : Type 0} (f : LinkEnd → A) (info : Info) (l : LinkEnd) → End.Endless ≡ end_in info l → f LinkEnd.endless ≡ f l
at_endless f info l h = sym (ap f (endless_is info l h))

-- the entry that is reached is a function's type
pub function_there : (d : Die) → passes is_subroutine (what d) ≡ ends_at_function (LinkEnd.reached d)
function_there d = sym (same_tests _ is_subroutine (λ t. grind arith) (what d))

-- the rule of a typedef that has a type, by where that leads
abbrev alias_rule : LinkEnd → Option ℕ
alias_rule (LinkEnd.reached d) = rule_if (not (passes is_type (what d))) no_type
alias_rule LinkEnd.nowhere = Some no_type
alias_rule LinkEnd.endless = Some too_long

typed_typedef : (info : Info) (d : Die) → has at_type d.entry ≡ true → alias_rule (type_end info d) ≡ typedef_rule info d
typed_typedef info d typed = sym (ap (λ b. if b then alias_rule (type_end info d) else Some missing) typed)

pub typedef_reached : (info : Info) (d : Die) (e : DieIn) → End.Reached e ≡ end_in info (type_end info d) → has at_type d.entry ≡ true
    → rule_if (not (passes is_type (what e.die))) no_type ≡ typedef_rule info d
typedef_reached info d e h typed = at_reached alias_rule info e (type_end info d) h ∙ typed_typedef info d typed

pub typedef_nowhere : (info : Info) (d : Die) → End.Nowhere ≡ end_in info (type_end info d) → has at_type d.entry ≡ true → Some no_type ≡ typedef_rule info d
typedef_nowhere info d h typed = at_nowhere alias_rule info (type_end info d) h ∙ typed_typedef info d typed

pub typedef_endless : (info : Info) (d : Die) → End.Endless ≡ end_in info (type_end info d) → has at_type d.entry ≡ true → Some too_long ≡ typedef_rule info d
typedef_endless info d h typed = at_endless alias_rule info (type_end info d) h ∙ typed_typedef info d typed
