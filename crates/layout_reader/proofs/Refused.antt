-- What a refused line, or a line more, says of the whole file.
use Rattle.std.proofs.Common.{◌≡◌, ◌≢◌, ℕ, ◌+◌, ◌-◌, ◌<◌, ◌^◌, min, List, [], ◌∷◌, ◌++◌, inl, inr, length, Option, Some, None, IsSome, Err, sym, ap}
use Rattle.std.proofs.Common.{subst, refl, ◌∙◌, arith, append_assoc, append-nil}
use Rattle.readers.specs.Lines.{Lacks, CutAt, with_end}
use Rattle.layout_set.specs.declared.set.Set.{Set}
use Rattle.layout_lines.specs.declared.open_entry.OpenEntry.{OpenEntry}
use Rattle.layout_reader.specs.declared.reader.Reading.{Reading}
use Rattle.layout_reader.specs.declared.layout_err.LayoutErr.{LayoutErr}
use Rattle.layout_reader.specs.declared.layout_err.LayoutErr.TheVariants.{BadLine, Limit, Memory}
use Rattle.layout_lines.specs.Sets.{lines_before, layout_text, text_before, Spells, IsBoundedBefore}
use Rattle.layout_builder.specs.Additions.{added}
use Rattle.layout_rules.specs.Faults.{Front, behind}
use Rattle.layout_reader.specs.Claims.{IsBefore, MustGoOn, IsReading, whole, endless, missing}
use Rattle.layout_reader.specs.Progress.{HasRead, Refuses, RefusesEnd, RefusesLine, Goes}
use Rattle.layout_reader.specs.Heads.{RefusesFirst}
use Rattle.layout_builder.proofs.Adding.{advances}
use Rattle.layout_builder.proofs.AdvanceTexts.{advance_text}
use Rattle.layout_builder.proofs.Following.{is_ready}
use Rattle.layout_rules.proofs.LowestLines.{is_lowest}

abbrev most : ℕ
most = 2 ^ 32 - 1

-- a line with its end, behind lines without a fault
pub refused_at : (front : Front) (bytes before left line more : List ℕ) (count lines : ℕ) (e : LayoutErr) → bytes ≡ before ++ left → IsBefore front before count
    → lines ≡ min count most → CutAt 10 left line more → Refuses front lines line e → IsReading bytes (Err e)
refused_at front bytes before left line more count lines (BadLine n rule) b is l cut why =
    record {
      front = front;
      before = before;
      text = left;
      count = count;
      bytes_are = b;
      is_before = is;
      breaks = whole line (more, cut)
          (is_lowest front line rule why.0);
      number = omega (arith, why.1, l);
    }
refused_at front bytes before left line more count lines (Limit which) b is l cut why = absurd why
refused_at front bytes before left line more count lines Memory b is l cut why = tt

-- bytes without an end, behind lines without a fault
pub ended_at : (front : Front) (bytes before left : List ℕ) (count lines : ℕ) (e : LayoutErr) → bytes ≡ before ++ left → IsBefore front before count
    → lines ≡ min count most → Lacks 10 left → (left ≡ [] → MustGoOn front) → RefusesEnd lines left e → IsReading bytes (Err e)
ended_at front bytes before [] count lines (BadLine n rule) b is l lacks must why =
    record {
      front = front;
      before = before;
      text = [];
      count = count;
      bytes_are = b;
      is_before = is;
      breaks = missing refl (must refl)
          (why.1.0 refl);
      number = omega (arith, why.0, l);
    }
ended_at front bytes before (c ∷ left) count lines (BadLine n rule) b is l lacks must why =
    let some : c ∷ left ≢ [] = λ e. cc in
    record {
      front = front;
      before = before;
      text = c ∷ left;
      count = count;
      bytes_are = b;
      is_before = is;
      breaks = endless (some, lacks)
          (why.1.1 some);
      number = omega (arith, why.0, l);
    }
ended_at front bytes before left count lines (Limit which) b is l lacks must why = absurd why
ended_at front bytes before left count lines Memory b is l lacks must why = absurd why

-- one of the first two lines
pub refused_first : (front : Front) (bytes before left : List ℕ) (count : ℕ) (e : LayoutErr) → count < 2 → bytes ≡ before ++ left → IsBefore front before count
    → MustGoOn front → RefusesFirst front count left e → IsReading bytes (Err e)
refused_first front bytes before left count e small b is must (inl r) = refused_at front bytes before left r.0 r.1.0 count count e b is
    (omega (arith, small)) r.1.1.0 r.1.1.1
refused_first front bytes before left count e small b is must (inr r) = ended_at front bytes before left count count e b is (omega (arith, small)) r.0
    (λ none. must) r.1

spelled : (bytes : List ℕ) (r : Reading) (left : List ℕ) → HasRead bytes r left
    → IsBefore (behind r.set r.open_entry) (text_before r.set r.open_entry) (2 + length (lines_before r.set r.open_entry))
spelled bytes r left h = (record { text_is = refl; items = h.0.items; entry = h.0.entry; bounded = h.0.bounded }, refl)

pub refused_line : (bytes : List ℕ) (r : Reading) (left line more : List ℕ) (e : LayoutErr) → HasRead bytes r left → CutAt 10 left line more
    → RefusesLine r line e → IsReading bytes (Err e)
refused_line bytes r left line more (BadLine n rule) h cut why =
    refused_at (behind r.set r.open_entry) bytes (text_before r.set r.open_entry) left line more (2 + length (lines_before r.set r.open_entry)) r.lines
    (BadLine n rule) h.1 (spelled bytes r left h) h.0.lines cut why
refused_line bytes r left line more (Limit which) h cut why =
    record {
      set = r.set;
      open_entry = r.open_entry;
      before = text_before r.set r.open_entry;
      text = left;
      line = why.line;
      bytes_are = h.1;
      spells = (spelled bytes r left h).0;
      follows = why.follows;
      is_line = why.is_line;
      whole = (more, subst (λ t. CutAt 10 left t more) why.text_is cut);
      exceeds = why.exceeds;
    }
refused_line bytes r left line more Memory h cut why = tt

pub refused_end : (bytes : List ℕ) (r : Reading) (left : List ℕ) (e : LayoutErr) → HasRead bytes r left → Lacks 10 left
    → (left ≡ [] → MustGoOn (behind r.set r.open_entry)) → RefusesEnd r.lines left e → IsReading bytes (Err e)
refused_end bytes r left e h lacks must why =
    ended_at (behind r.set r.open_entry) bytes (text_before r.set r.open_entry) left (2 + length (lines_before r.set r.open_entry)) r.lines e h.1
    (spelled bytes r left h) h.0.lines lacks must why

-- an entry that stands open must go on
pub must_go_on : (set : Set) (open_entry : Option OpenEntry) → IsSome open_entry → MustGoOn (behind set open_entry)
must_go_on set None h = absurd (cc)
must_go_on set (Some o) h = tt

-- the text, a line with its end, and what follows
joined : (text line more : List ℕ) → text ++ (line ++ 10 ∷ more) ≡ (text ++ with_end line) ++ more
joined text line more = ap (λ t. text ++ t) (sym (append_assoc line (10 ∷ []) more)) ∙ sym (append_assoc text (with_end line) more)

pub goes_on : (bytes : List ℕ) (r s : Reading) (left line more : List ℕ) → HasRead bytes r left → CutAt 10 left line more → Goes r line s → HasRead bytes s more
goes_on bytes r s left line more h cut g =
    let before = text_before r.set r.open_entry in
    let after = added r.set r.open_entry g.line in
    let advance = advances r.set r.open_entry g.line g.follows g.is_line (is_ready r.set r.open_entry h.0.entry) in
    let text : text_before s.set s.open_entry ≡ before ++ with_end line =
    ap (λ d. text_before d.0 d.1) g.draft_is ∙ advance_text r.set r.open_entry g.line after advance ∙ ap (λ t. before ++ with_end t) (sym g.text_is) in
    (g.state, h.1 ∙ ap (λ t. before ++ t) cut.text ∙ joined before line more ∙ ap (λ t. t ++ more) (sym text))

-- nothing is left, and nothing stands open
all_read_with : (bytes : List ℕ) (set : Set) (open_entry : Option OpenEntry) → open_entry ≡ None → bytes ≡ text_before set open_entry ++ []
    → bytes ≡ layout_text set
all_read_with bytes set open_entry e t = t ∙ append-nil (text_before set open_entry) ∙ ap (text_before set) e ∙ append-nil (layout_text set)

pub all_read : (bytes : List ℕ) (r : Reading) → HasRead bytes r [] → r.open_entry ≡ None → Spells r.set bytes
all_read bytes r h e = record {
  text = all_read_with bytes r.set r.open_entry e h.1;
  items = h.0.items;
  bounded = let b = subst (IsBoundedBefore r.set) e h.0.bounded in record
      { types = b.types; parts = let x = b.parts in omega (arith, x); variables = b.variables };
}
