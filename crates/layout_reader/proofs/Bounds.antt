-- A set and the entry that stands open with one line more are not too large, if the line exceeds no limit.
use Rattle.std.proofs.Common.{◌≡◌, ℕ, ◌+◌, ◌-◌, ◌^◌, ◌<◌, min, true, List, [], ◌∷◌, length, sym, ap, subst, ◌∙◌, arith, length-append, Option, Some}
use Rattle.std.proofs.Common.{None, IfSome, Result, Ok, Err}
use Rattle.std.proofs.lemmas.List.Elements.{All-push}
use Rattle.std.specs.List.{All}
use Rattle.layout_set.specs.declared.set.Set.{Set}
use Rattle.layout_lines.specs.declared.open_entry.OpenEntry.{OpenEntry}
use Rattle.layout_lines.specs.declared.line.Line.{Line}
use Rattle.layout_reader.specs.declared.layout_err.Count.{Count}
use Rattle.layout_reader.specs.declared.layout_err.Count.TheVariants.{Types, Parts, Variables}
use Rattle.layout_reader.specs.declared.layout_err.LayoutErr.{LayoutErr}
use Rattle.layout_reader.specs.declared.layout_err.LayoutErr.TheVariants.{BadLine, Limit, Memory}
use Rattle.layout_reader.specs.declared.reader.Reading.{Reading}
use Rattle.layout_lines.specs.Lines.{line_text, kind_of_line, IsLine}
use Rattle.layout_lines.specs.Sets.{lines_of, lines_before, open_lines, may_follow, IsOpenEntry, IsBoundedBefore}
use Rattle.layout_builder.specs.Additions.{Draft, added}
use Rattle.layout_builder.specs.LineCounts.{line_parts, line_variables}
use Rattle.layout_reader.specs.Claims.{Exceeds}
use Rattle.layout_reader.specs.Progress.{IsState, Adds, GoesOn}
use Rattle.layout_builder.proofs.Adding.{Advance, IsReady, advances}
use Rattle.layout_builder.proofs.Following.{is_ready, before_are_lines}
use Rattle.layout_lines.proofs.IsSets.{front, back}

bounded_by : (set : Set) (open_entry : Option OpenEntry) (l : Line) (d : Draft) → Advance set open_entry l d
    → ((which : Count) → Exceeds set open_entry l which → ⊥) → IsBoundedBefore d.0 d.1
bounded_by set open_entry l d c why = record {
  types = let x = c.types in let y = why Types in omega (arith, x, y);
  parts = let x = c.parts in let y = why Parts in omega (arith, x, y);
  variables = let x = c.vars in let y = why Variables in omega (arith, x, y);
}

open_after : (set : Set) (open_entry : Option OpenEntry) → IsReady (set, open_entry) → All IsLine (lines_before set open_entry)
    → IfSome open_entry (IsOpenEntry set)
open_after set None r h = tt
open_after set (Some o) r h = record { stands = r.0; missing = r.1; lines = back (lines_of set) (open_lines (Some o)) h }

-- the state behind one line more
pub state_added : (r : Reading) (l : Line) (d : Draft) (parts variables lines : ℕ) → IsState r → may_follow r.set r.open_entry (kind_of_line l) ≡ true
    → IsLine l
    → ((which : Count) → Exceeds r.set r.open_entry l which → ⊥) → d ≡ added r.set r.open_entry l → parts ≡ r.parts + line_parts l
    → variables ≡ r.variables + line_variables l → lines ≡ min (r.lines + 1) (2 ^ 32 - 1)
    → IsState (record { set = d.0; open_entry = d.1; parts = parts; variables = variables; lines = lines })
state_added r l d parts variables lines s f i why e p v n =
    let c = subst (Advance r.set r.open_entry l) (sym e) (advances r.set r.open_entry l f i (is_ready r.set r.open_entry s.entry)) in
    let before = lines_before r.set r.open_entry in
    let are : All IsLine (lines_before d.0 d.1) = subst (All IsLine) (sym c.lines)
    (All-push IsLine before l (before_are_lines r.set r.open_entry s.items.lines s.entry) i) in
    let more : length (lines_before d.0 d.1) ≡ length before + 1 = ap length c.lines ∙ length-append before (l ∷ []) in
    record {
      items = record { target = subst (λ t. t.ptr < 256) (sym c.target) s.items.target; lines = front (lines_of d.0) (open_lines d.1) are };
      entry = open_after d.0 d.1 c.ready are;
      bounded = bounded_by r.set r.open_entry l d c why;
      parts = let x = s.parts in let y = c.parts in omega (arith, p, x, y);
      variables = let x = s.variables in let y = c.vars in omega (arith, v, x, y);
      lines = let x = s.lines in omega (arith, n, x, more);
    }

-- adding the line that has a text is going on with the text
pub adds_goes_on : (r : Reading) (text : List ℕ) (l : Line) (result : Result Reading LayoutErr) → text ≡ line_text (length r.set.types) l
    → may_follow r.set r.open_entry (kind_of_line l) ≡ true → IsLine l → Adds r l result → GoesOn r text result
adds_goes_on r text l (Ok s) e f i a = record { line = l; text_is = e; follows = f; is_line = i; draft_is = a.0; state = a.1 }
adds_goes_on r text l (Err (Limit which)) e f i a = record { line = l; text_is = e; follows = f; is_line = i; exceeds = a }
adds_goes_on r text l (Err Memory) e f i a = tt
adds_goes_on r text l (Err (BadLine n rule)) e f i a = absurd a
