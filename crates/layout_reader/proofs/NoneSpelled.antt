-- A line that is not read, or may not follow, breaks a rule.
use Rattle.std.proofs.Common.{◌≡◌, ◌≢◌, ◌∙◌, sym, ap, refl, ℕ, ◌<◌, ◌≤◌, ◌^◌, lit≤, arith, Bool, true, false, List, Option, Some, None, length}
use Rattle.std.proofs.lemmas.Option.{same_Some}
use Rattle.layout_set.specs.declared.set.Set.{Set}
use Rattle.layout_words.specs.declared.kinds.LineKind.{LineKind}
use Rattle.layout_lines.specs.declared.line.Line.{Line}
use Rattle.layout_lines.specs.declared.open_entry.OpenEntry.{OpenEntry}
use Rattle.layout_words.specs.Kinds.{line_kind_of, line_kind_word}
use Rattle.layout_words.specs.Forms.{cut}
use Rattle.layout_lines.specs.Lines.{line_rest, kind_of_line}
use Rattle.layout_lines.specs.ReadLines.{line_of}
use Rattle.layout_lines.specs.Sets.{may_follow}
use Rattle.layout_rules.specs.Faults.{behind}
use Rattle.layout_rules.specs.LineRules.{may_stand, rule_of}
use Rattle.layout_words.proofs.Cuts.{cut_behind}
use Rattle.layout_words.proofs.Lacking.{free_lacks}
use Rattle.layout_words.proofs.KindWords.{line_kind_found}
use Rattle.layout_lines.proofs.LineLaws.{line_text_of}
use Rattle.layout_rules.proofs.ItemRules.{IsBroken}
use Rattle.layout_rules.proofs.Unfit.{no_kind_breaks, misplaced_breaks, unfit_breaks}

pub is_broken : (o : Option ℕ) → IsBroken o → o ≢ None
is_broken o b n = let e = b.1 in cc

pub few : (n : ℕ) → n ≤ 20000 → n < 2 ^ 32
few n h = let e : 20001 ≤ 2 ^ 32 = lit≤ tt in omega arith

-- a line that is no line of types, statics or functions

by_place : (set : Set) (open_entry : Option OpenEntry) (text : List ℕ) (kind : LineKind) (b : Bool) → may_stand (behind set open_entry) kind ≡ b
    → line_kind_of (cut text).0 ≡ Some kind → line_of (length set.types) text ≡ None → IsBroken (rule_of (behind set open_entry) text)
by_place set open_entry text kind true may e none = unfit_breaks set open_entry text kind e may none
by_place set open_entry text kind false may e none = misplaced_breaks (behind set open_entry) text kind e may

by_kind : (set : Set) (open_entry : Option OpenEntry) (text : List ℕ) (o : Option LineKind) → line_kind_of (cut text).0 ≡ o
    → line_of (length set.types) text ≡ None → IsBroken (rule_of (behind set open_entry) text)
by_kind set open_entry text None e none = no_kind_breaks (behind set open_entry) text e
by_kind set open_entry text (Some kind) e none = by_place set open_entry text kind (may_stand (behind set open_entry) kind) refl e none

pub unfit_rule : (set : Set) (open_entry : Option OpenEntry) (text : List ℕ) → line_of (length set.types) text ≡ None
    → rule_of (behind set open_entry) text ≢ None
unfit_rule set open_entry text none = is_broken (rule_of (behind set open_entry) text) (by_kind set open_entry text (line_kind_of (cut text).0) refl none)

-- a line that may not follow

pub misplaced_rule : (set : Set) (open_entry : Option OpenEntry) (text : List ℕ) (l : Line) → line_of (length set.types) text ≡ Some l
    → may_follow set open_entry (kind_of_line l) ≡ false → rule_of (behind set open_entry) text ≢ None
misplaced_rule set open_entry text l read misplaced =
    let is = (line_text_of (length set.types) text l read).0 in
    let found = line_kind_found (kind_of_line l) in
    let word : cut text ≡ (line_kind_word (kind_of_line l), line_rest (length set.types) l) =
    ap cut is ∙ cut_behind (line_kind_word (kind_of_line l)) (line_rest (length set.types) l) (free_lacks 32 (line_kind_word (kind_of_line l)) found.1.0)
    in
    let kind : line_kind_of (cut text).0 ≡ Some (kind_of_line l) = ap (λ p. line_kind_of p.0) word ∙ found.0 in
    is_broken (rule_of (behind set open_entry) text) (misplaced_breaks (behind set open_entry) text (kind_of_line l) kind misplaced)
