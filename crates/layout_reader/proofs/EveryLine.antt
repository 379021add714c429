-- Each text has a first line or no end of one, and each line is refused or goes on from what was read.
use Rattle.std.proofs.Common.{◌≡◌, ◌≢◌, ap, refl, ℕ, ◌+◌, ◌<◌, ◌≤◌, ◌==◌, ◌⊎◌, inl, inr, Bool, true, false, List, [], ◌∷◌, length, Option, Some, None}
use Rattle.std.proofs.Common.{eqb-true, arith}
use Rattle.std.proofs.lemmas.Bool.{cases_lt}
use Rattle.std.proofs.lemmas.List.Elements.{All-nil, All-cons}
use Rattle.readers.specs.Lines.{Lacks, CutAt}
use Rattle.layout_set.specs.Counts.{part_count, variable_count}
use Rattle.layout_set.specs.declared.set.Set.{Set}
use Rattle.layout_lines.specs.declared.open_entry.OpenEntry.{OpenEntry}
use Rattle.layout_lines.specs.declared.line.Line.{Line}
use Rattle.layout_reader.specs.declared.layout_err.Count.{Count}
use Rattle.layout_reader.specs.declared.layout_err.Count.TheVariants.{Types, Parts, Variables}
use Rattle.layout_reader.specs.declared.layout_err.LayoutErr.{LayoutErr}
use Rattle.layout_reader.specs.declared.layout_err.LayoutErr.TheVariants.{BadLine, Limit, Memory}
use Rattle.layout_reader.specs.declared.reader.Reading.{Reading}
use Rattle.layout_builder.specs.Additions.{added}
use Rattle.layout_lines.specs.Lines.{line_text, kind_of_line, IsLine}
use Rattle.layout_lines.specs.ReadLines.{line_of}
use Rattle.layout_lines.specs.Sets.{open_parts, may_follow}
use Rattle.layout_rules.specs.Faults.{Front, behind}
use Rattle.layout_rules.specs.LineRules.{rule_of}
use Rattle.layout_reader.specs.Claims.{Exceeds}
use Rattle.layout_builder.specs.LineCounts.{line_types, line_parts, line_variables}
use Rattle.layout_reader.specs.Progress.{IsState, line_number, Refuses, RefusesLine, Goes}
use Rattle.layout_lines.proofs.LineLaws.{line_text_of}
use Rattle.layout_reader.proofs.NoneSpelled.{unfit_rule, misplaced_rule}
use Rattle.layout_reader.proofs.Bounds.{state_added}

-- the text is cut at the end of its first line, or no line of it ends
pub data FirstLine (text : List ℕ) : Type 0 where
  ends : (line more : List ℕ) → CutAt 10 text line more → FirstLine text
  endless : Lacks 10 text → FirstLine text

-- one byte more before a text that is cut or has no end of a line
one_more : (x : ℕ) (text : List ℕ) (b : Bool) → (x == 10) ≡ b → FirstLine text → FirstLine (x ∷ text)
one_more x text true e f = ends [] text (record { text = ap (λ c. c ∷ text) (eqb-true x 10 e); first = All-nil (λ b. b ≢ 10) })
one_more x text false e (ends line more cut) =
    ends (x ∷ line) more (record { text = ap (λ t. x ∷ t) cut.text; first = All-cons (λ b. b ≢ 10) x line (λ q. grind (arith, e, q)) cut.first })
one_more x text false e (endless lacks) = endless (All-cons (λ b. b ≢ 10) x text (λ q. grind (arith, e, q)) lacks)

-- each text has a first line, or no end of one
pub first_line : (text : List ℕ) → FirstLine text
first_line [] = endless (All-nil (λ b. b ≢ 10))
first_line (x ∷ text) = one_more x text (x == 10) refl (first_line text)

-- a rule that is not none is some rule
some_rule : (o : Option ℕ) → o ≢ None → (rule : ℕ) × (o ≡ Some rule)
some_rule None h = absurd (h refl)
some_rule (Some rule) h = (rule, refl)

-- a line that breaks a rule is refused by the lowest
pub refused : (front : Front) (count : ℕ) (line : List ℕ) → rule_of front line ≢ None → (rule : ℕ) × Refuses front count line (BadLine (line_number count) rule)
refused front count line broken = let rule = some_rule (rule_of front line) broken in (rule.0, (rule.1, refl))

-- with the line there are too many of something, or of nothing
data Room (set : Set) (open_entry : Option OpenEntry) (l : Line) : Type 0 where
  too_many : (which : Count) → Exceeds set open_entry l which → Room set open_entry l
  enough : ((which : Count) → Exceeds set open_entry l which → ⊥) → Room set open_entry l

-- where no count is above its greatest number, there are too many of nothing
none_exceeds : (set : Set) (open_entry : Option OpenEntry) (l : Line) → length set.types + line_types l ≤ 20000
    → part_count set + open_parts open_entry + line_parts l ≤ 40000 → variable_count set + line_variables l ≤ 20000
    → (which : Count) → Exceeds set open_entry l which → ⊥
none_exceeds set open_entry l t p v Types h = omega (arith, t, h)
none_exceeds set open_entry l t p v Parts h = omega (arith, p, h)
none_exceeds set open_entry l t p v Variables h = omega (arith, v, h)

-- with no more types and parts than there may be, by how many variables there are
by_variables : (set : Set) (open_entry : Option OpenEntry) (l : Line) → length set.types + line_types l ≤ 20000
    → part_count set + open_parts open_entry + line_parts l ≤ 40000
    → (20000 < variable_count set + line_variables l) ⊎ (variable_count set + line_variables l ≤ 20000) → Room set open_entry l
by_variables set open_entry l t p (inl h) = too_many Variables h
by_variables set open_entry l t p (inr v) = enough (none_exceeds set open_entry l t p v)

-- with no more types than there may be, by how many parts there are
by_parts : (set : Set) (open_entry : Option OpenEntry) (l : Line) → length set.types + line_types l ≤ 20000
    → (40000 < part_count set + open_parts open_entry + line_parts l) ⊎ (part_count set + open_parts open_entry + line_parts l ≤ 40000) → Room set open_entry l
by_parts set open_entry l t (inl h) = too_many Parts h
by_parts set open_entry l t (inr p) = by_variables set open_entry l t p (cases_lt 20000 (variable_count set + line_variables l))

-- by how many types there are
by_types : (set : Set) (open_entry : Option OpenEntry) (l : Line) → (20000 < length set.types + line_types l) ⊎ (length set.types + line_types l ≤ 20000)
    → Room set open_entry l
by_types set open_entry l (inl h) = too_many Types h
by_types set open_entry l (inr t) = by_parts set open_entry l t (cases_lt 40000 (part_count set + open_parts open_entry + line_parts l))

-- each line makes too many of something, or of nothing
room : (set : Set) (open_entry : Option OpenEntry) (l : Line) → Room set open_entry l
room set open_entry l = by_types set open_entry l (cases_lt 20000 (length set.types + line_types l))

-- a line that follows what was read is refused, not for want of memory, or goes on from it
pub data Step (r : Reading) (line : List ℕ) : Type 0 where
  stops : (e : LayoutErr) → e ≢ Memory → RefusesLine r line e → Step r line
  goes : (s : Reading) → Goes r line s → Step r line

-- what was read with the line
abbrev with_line : Reading → Line → Reading
with_line r l = record {
  set = (added r.set r.open_entry l).0;
  open_entry = (added r.set r.open_entry l).1;
  parts = r.parts + line_parts l;
  variables = r.variables + line_variables l;
  lines = line_number r.lines;
}

-- a line that breaks a rule
unfit : (r : Reading) (line : List ℕ) → rule_of (behind r.set r.open_entry) line ≢ None → Step r line
unfit r line broken = let why = refused (behind r.set r.open_entry) r.lines line broken in stops (BadLine (line_number r.lines) why.0) (λ e. cc) why.1

-- a line that may follow
by_room : (r : Reading) (line : List ℕ) (l : Line) → IsState r → line ≡ line_text (length r.set.types) l
    → may_follow r.set r.open_entry (kind_of_line l) ≡ true → IsLine l → Room r.set r.open_entry l → Step r line
by_room r line l state text may is (too_many which exceeds) = stops (Limit which) (λ e. cc)
    (record { line = l; text_is = text; follows = may; is_line = is; exceeds = exceeds })
by_room r line l state text may is (enough none) =
    goes (with_line r l)
    (record {
      line = l;
      text_is = text;
      follows = may;
      is_line = is;
      draft_is = refl;
      state = state_added r l (added r.set r.open_entry l) (r.parts + line_parts l) (r.variables + line_variables l)
          (line_number r.lines) state may is none refl refl refl refl;
    })

-- a line that reads as one, by whether it may follow
by_place : (r : Reading) (line : List ℕ) (l : Line) (b : Bool) → IsState r → line_of (length r.set.types) line ≡ Some l
    → may_follow r.set r.open_entry (kind_of_line l) ≡ b → Step r line
by_place r line l true state read may = let is = line_text_of (length r.set.types) line l read in by_room r line l state is.0 may is.1
    (room r.set r.open_entry l)
by_place r line l false state read may = unfit r line (misplaced_rule r.set r.open_entry line l read may)

-- a line, by what it reads as
by_line : (r : Reading) (line : List ℕ) (o : Option Line) → IsState r → line_of (length r.set.types) line ≡ o → Step r line
by_line r line None state none = unfit r line (unfit_rule r.set r.open_entry line none)
by_line r line (Some l) state read = by_place r line l (may_follow r.set r.open_entry (kind_of_line l)) state read refl

-- each line is refused, not for want of memory, or goes on from what was read
pub step : (r : Reading) (line : List ℕ) → IsState r → Step r line
step r line state = by_line r line (line_of (length r.set.types) line) state refl
