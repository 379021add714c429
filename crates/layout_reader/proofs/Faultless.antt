-- A file that spells a set has no fault.
use Rattle.std.proofs.Common.{◌≡◌, ◌∙◌, sym, ap, subst, refl, ℕ, ◌<◌, ◌≤◌, ◌^◌, true, List, [], ◌∷◌, ◌++◌, length, None, Err, lit≤, arith}
use Rattle.std.proofs.lemmas.List.Elements.{All-head, All-tail}
use Rattle.std.specs.List.{All}
use Rattle.readers.specs.Lines.{Lacks, CutAt, with_end}
use Rattle.readers.proofs.Cutting.{one_cut}
use Rattle.layout_set.specs.Counts.{part_count, variable_count}
use Rattle.layout_set.specs.declared.set.Set.{Set}
use Rattle.layout_lines.specs.declared.line.Line.{Line}
use Rattle.layout_reader.specs.declared.layout_err.Count.{Count}
use Rattle.layout_reader.specs.declared.layout_err.Count.TheVariants.{Types, Parts, Variables}
use Rattle.layout_reader.specs.declared.layout_err.LayoutErr.{LayoutErr}
use Rattle.layout_reader.specs.declared.layout_err.LayoutErr.TheVariants.{BadLine, Limit, Memory}
use Rattle.layout_lines.specs.Lines.{kind_of_line, line_text, IsLine}
use Rattle.layout_lines.specs.Sets.{lines_of, texts, number_after, may_follow, version_text, target_text, Spells}
use Rattle.layout_builder.specs.Additions.{Draft, added}
use Rattle.layout_rules.specs.Faults.{Front, first, second, behind, BreaksLine}
use Rattle.layout_reader.specs.Claims.{IsBefore, IsFirstLine, MustGoOn, Breaks, whole, endless, missing, Exceeds, IsReading}
use Rattle.layout_builder.proofs.Adding.{Advance, IsReady, advances}
use Rattle.layout_builder.proofs.Leading.{Leads}
use Rattle.layout_reader.proofs.HeadLaws.{version_breaks_none, target_breaks_none}
use Rattle.layout_rules.proofs.Fit.{spelled_breaks_none}
use Rattle.layout_lines.proofs.Heads.{begins_line, version_lacks, target_lacks, head_cut, same_line, lf_in}
use Rattle.layout_builder.proofs.Following.{LinesAreKnown, Grows, lines_grow, is_ready, file_goes_on}

-- the line breaks no rule
abbrev pub BreaksNone : Front → List ℕ → Type 0
BreaksNone front line = (rule : ℕ) → BreaksLine front line rule → ⊥

-- what stands behind a front: nothing, where nothing need stand there, or a line with its end that breaks no rule
pub data Sound (front : Front) (text : List ℕ) : Type 0 where
  over : text ≡ [] → (MustGoOn front → ⊥) → Sound front text
  more : (line left : List ℕ) → CutAt 10 text line left → BreaksNone front line → Sound front text

pub nothing_cut : (line left : List ℕ) → CutAt 10 [] line left → ⊥
nothing_cut [] left c = let e = c.text in cc
nothing_cut (x ∷ line) left c = let e = c.text in cc

pub no_break : (front : Front) (text : List ℕ) (rule : ℕ) → Sound front text → Breaks front text rule → ⊥
no_break front text rule (over e g) (whole line w r) = nothing_cut line w.0 (subst (λ t. CutAt 10 t line w.0) e w.1)
no_break front text rule (over e g) (endless en r) = en.0 e
no_break front text rule (over e g) (missing m must r) = g must
no_break front text rule (more line left c sound) (whole l w r) = sound rule
    (subst (λ x. BreaksLine front x rule) (sym (one_cut 10 text line l left w.0 c w.1).0) r.0)
no_break front text rule (more line left c sound) (endless en r) = lf_in line left (subst (Lacks 10) c.text en.1)
no_break front text rule (more line left c sound) (missing m must r) = nothing_cut line left (subst (λ t. CutAt 10 t line left) m c)

pub few : (n : ℕ) → n ≤ 20000 → n < 2 ^ 32
few n h = let e : 20001 ≤ 2 ^ 32 = lit≤ tt in omega arith

lines_sound : LinesAreKnown → (a : Draft) (b : Set) (text : List ℕ) (rest : List Line) → IsReady a → Leads a rest (b, None) → All IsLine rest
    → length b.types < 2 ^ 32 → text ≡ texts (length a.0.types) rest → Sound (behind a.0 a.1) text
lines_sound K a b text [] r p is room e = over e (λ f. subst (λ d. MustGoOn (behind d.0 d.1)) p f)
lines_sound K a b text (l ∷ rest) r p is room e =
    let n = length a.0.types in
    let il = All-head IsLine l rest is in
    let g = lines_grow a (b, None) (l ∷ rest) r p is in
    let small : n < 2 ^ 32 = let x = g.types in omega (arith, x, room) in
    let left = texts (number_after n l) rest in
    more (line_text n l) left (subst (λ t. CutAt 10 t (line_text n l) left) (sym e) (begins_line (line_text n l) left (K.no_end n l small il)))
    (spelled_breaks_none a.0 a.1 l small p.0 il)

-- what stands behind a front of a file that spells a set
sound : LinesAreKnown → (set : Set) (bytes : List ℕ) → Spells set bytes → (front : Front) (before text : List ℕ) (count : ℕ) → bytes ≡ before ++ text
    → IsBefore front before count → Sound front text
sound K set bytes s first before text count e b =
    let left = with_end (target_text set.target.ptr) ++ texts 0 (lines_of set) in
    let whole_text : with_end version_text ++ left ≡ text = sym (head_cut set.target.ptr (texts 0 (lines_of set))) ∙ sym s.text ∙ e ∙ ap (λ t. t ++ text) b.0 in
    more version_text left (subst (λ t. CutAt 10 t version_text left) whole_text (begins_line version_text left version_lacks)) version_breaks_none
sound K set bytes s second before text count e b =
    let ptr = set.target.ptr in
    let left = texts 0 (lines_of set) in
    let whole_text : with_end version_text ++ (with_end (target_text ptr) ++ left) ≡ with_end version_text ++ text = sym (head_cut ptr left) ∙ sym s.text ∙ e
    ∙ ap (λ t. t ++ text) b.0 in
    let rest : with_end (target_text ptr) ++ left ≡ text = (same_line version_text version_text
    (with_end (target_text ptr) ++ left) text version_lacks version_lacks whole_text).1 in
    more (target_text ptr) left (subst (λ t. CutAt 10 t (target_text ptr) left) rest (begins_line (target_text ptr) left (target_lacks ptr s.items.target)))
    (target_breaks_none ptr s.items.target)
sound K set bytes s (behind a open_entry) before text count e b =
    let g = file_goes_on K a open_entry set before bytes text b.0 s e in
    lines_sound K (a, open_entry) set text g.rest (is_ready a open_entry b.0.entry) g.leads g.are_lines (few (length set.types) s.bounded.types) g.text_is

-- with the line there are no more than the set has
no_pass : (a : Draft) (b : Set) (l : Line) (which : Count) (d : Draft) → Advance a.0 a.1 l d → Grows d (b, None) → length b.types ≤ 20000
    → part_count b ≤ 40000 → variable_count b ≤ 20000 → Exceeds a.0 a.1 l which → ⊥
no_pass a b l Types d c g t p v h = let x = c.types in let y = g.types in omega (arith, x, y, t, h)
no_pass a b l Parts d c g t p v h = let x = c.parts in let y = g.parts in omega (arith, x, y, p, h)
no_pass a b l Variables d c g t p v h = let x = c.vars in let y = g.vars in omega (arith, x, y, v, h)

no_limit : LinesAreKnown → (a : Draft) (b : Set) (text : List ℕ) (l : Line) (which : Count) (rest : List Line) → IsReady a → Leads a rest (b, None)
    → All IsLine rest → text ≡ texts (length a.0.types) rest
    → may_follow a.0 a.1 (kind_of_line l) ≡ true → IsLine l → IsFirstLine (line_text (length a.0.types) l) text → length b.types ≤ 20000
    → part_count b ≤ 40000 → variable_count b ≤ 20000 → Exceeds a.0 a.1 l which → ⊥
no_limit K a b text l which [] r lead is e h il w t p v pass = nothing_cut (line_text (length a.0.types) l) w.0
    (subst (λ x. CutAt 10 x (line_text (length a.0.types) l) w.0) e w.1)
no_limit K a b text l which (m ∷ rest) r lead is e h il w t p v pass =
    let n = length a.0.types in
    let im = All-head IsLine m rest is in
    let grow = lines_grow a (b, None) (m ∷ rest) r lead is in
    let small : n < 2 ^ 32 = few n (let x = grow.types in omega (arith, x, t)) in
    let left = texts (number_after n m) rest in
    let text_cut : CutAt 10 text (line_text n m) left = subst (λ x. CutAt 10 x (line_text n m) left) (sym e)
    (begins_line (line_text n m) left (K.no_end n m small im)) in
    let same : m ≡ l = K.one_line n m l small im il (one_cut 10 text (line_text n m) (line_text n l) left w.0 text_cut w.1).0 in
    let after : Leads (added a.0 a.1 l) rest (b, None) = subst (λ x. Leads (added a.0 a.1 x) rest (b, None)) same lead.1 in
    let c = advances a.0 a.1 l h il r in
    no_pass a b l which (added a.0 a.1 l) c (lines_grow (added a.0 a.1 l) (b, None) rest c.ready after (All-tail IsLine m rest is)) t p v pass

pub no_fault : LinesAreKnown → (set : Set) (bytes : List ℕ) (e : LayoutErr) → Spells set bytes → IsReading bytes (Err e) → e ≡ Memory
no_fault K set bytes (BadLine line rule) s r = absurd (no_break r.front r.text rule
    (sound K set bytes s r.front r.before r.text r.count r.bytes_are r.is_before) r.breaks)
no_fault K set bytes (Limit which) s r =
    let g = file_goes_on K r.set r.open_entry set r.before bytes r.text r.spells s r.bytes_are in
    absurd (no_limit K (r.set, r.open_entry) set r.text r.line which g.rest
    (is_ready r.set r.open_entry r.spells.entry) g.leads g.are_lines g.text_is r.follows r.is_line r.whole s.bounded.types s.bounded.parts
    s.bounded.variables r.exceeds)
no_fault K set bytes Memory s r = refl
