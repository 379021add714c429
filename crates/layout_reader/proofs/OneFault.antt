-- A file has at most one fault.
use Rattle.std.proofs.Common.{◌≡◌, ◌∙◌, sym, ap, subst, refl, ℕ, ◌+◌, ◌-◌, ◌<◌, ◌^◌, min, true, List, [], ◌∷◌, ◌++◌, length, append_assoc, Option, None, arith}
use Rattle.std.proofs.lemmas.List.{append_cancel_left}
use Rattle.std.proofs.lemmas.List.Elements.{All-head, All-tail}
use Rattle.std.specs.List.{All}
use Rattle.readers.specs.Lines.{Lacks, CutAt, with_end}
use Rattle.readers.proofs.Cutting.{one_cut}
use Rattle.layout_set.specs.declared.set.Set.{Set}
use Rattle.layout_lines.specs.declared.open_entry.OpenEntry.{OpenEntry}
use Rattle.layout_lines.specs.declared.line.Line.{Line}
use Rattle.layout_lines.specs.declared.line.Line.TheVariants as lines
use Rattle.layout_reader.specs.declared.layout_err.Count.{Count}
use Rattle.layout_reader.specs.declared.layout_err.Count.TheVariants.{Types, Parts, Variables}
use Rattle.layout_reader.specs.declared.layout_err.LayoutErr.TheVariants.{BadLine, Limit, Memory}
use Rattle.layout_lines.specs.Lines.{kind_of_line, line_text, IsLine}
use Rattle.layout_lines.specs.Sets.{lines_before, texts, number_after, may_follow, head_text, version_text, target_text, SpellsBefore, IsBoundedBefore}
use Rattle.layout_builder.specs.Additions.{Draft, added}
use Rattle.layout_rules.specs.Faults.{Front, first, second, behind, BreaksLine, IsLowest}
use Rattle.layout_reader.specs.Claims.{IsBefore, IsFirstLine, Breaks, whole, endless, missing, Exceeds, IsFault, IsLimit, HaveOneFault}
use Rattle.layout_builder.specs.LineCounts.{line_types, line_parts, line_variables}
use Rattle.layout_builder.proofs.Adding.{Advance, IsReady, advances}
use Rattle.layout_lines.proofs.FuncTexts.{text_before_is}
use Rattle.layout_builder.proofs.Leading.{Leads, empty_set}
use Rattle.layout_builder.proofs.FuncLeading.{lines_before_lead}
use Rattle.layout_lines.proofs.Heads.{begins_line, same_line, same_head, version_lacks, target_lacks, head_cut, lf_in}
use Rattle.layout_builder.proofs.Following.{LinesAreKnown, Grows, lines_grow, next_number, is_ready, before_are_lines}
use Rattle.layout_reader.proofs.Faultless.{BreaksNone, more, nothing_cut, no_break, few}
use Rattle.layout_reader.proofs.HeadLaws.{version_breaks_none, target_breaks_none}
use Rattle.layout_rules.proofs.Fit.{spelled_breaks_none}
use Rattle.layout_rules.proofs.LowestLines.{one_lowest}

-- with the line there are not too many of anything
abbrev Within : Front → List ℕ → Type 0
Within (behind set open_entry) text = (l : Line) (which : Count) → text ≡ line_text (length set.types) l → may_follow set open_entry (kind_of_line l) ≡ true
    → IsLine l → Exceeds set open_entry l which → ⊥
Within front text = Unit {0}

-- the first line behind the front may stand there, and there are not too many of anything with it
record GoesPast (front : Front) (text : List ℕ) : Type 0 where
  pub line : List ℕ
  pub left : List ℕ
  pub cut : CutAt 10 text line left
  pub sound : BreaksNone front line
  pub within : Within front line

no_break_there : (front : Front) (text : List ℕ) (rule : ℕ) → GoesPast front text → Breaks front text rule → ⊥
no_break_there front text rule g b = no_break front text rule (more g.line g.left g.cut g.sound) b

-- of two fronts of a file, with what stands behind them and how many lines stand before: they are one, or the file goes past one of them
data Compared (f g : Front) (s t : List ℕ) (m n : ℕ) : Type 0 where
  one : f ≡ g → s ≡ t → m ≡ n → Compared f g s t m n
  past_f : GoesPast f s → Compared f g s t m n
  past_g : GoesPast g t → Compared f g s t m n

swapped : (f g : Front) (s t : List ℕ) (m n : ℕ) → Compared f g s t m n → Compared g f t s n m
swapped f g s t m n (one p q r) = one (sym p) (sym q) (sym r)
swapped f g s t m n (past_f h) = past_g h
swapped f g s t m n (past_g h) = past_f h

-- the same of two sets, each with the entry that stands open
data Meet (a b : Draft) (s t : List ℕ) : Type 0 where
  equal : a ≡ b → s ≡ t → Meet a b s t
  ahead : (l : Line) (rest : List Line) → Leads a (l ∷ rest) b → All IsLine (l ∷ rest) → s ≡ texts (length a.0.types) (l ∷ rest) ++ t → Meet a b s t
  back : (l : Line) (rest : List Line) → Leads b (l ∷ rest) a → All IsLine (l ∷ rest) → t ≡ texts (length b.0.types) (l ∷ rest) ++ s → Meet a b s t

meets : LinesAreKnown → (o a b : Draft) (xs ys : List Line) (s t : List ℕ) → IsReady o → Leads o xs a → Leads o ys b → All IsLine xs → All IsLine ys
    → length b.0.types < 2 ^ 32
    → texts (length o.0.types) xs ++ s ≡ texts (length o.0.types) ys ++ t → Meet a b s t
meets K o a b [] [] s t r p q hx hy room e = equal (sym p ∙ q) e
meets K o a b [] (m ∷ ys) s t r p q hx hy room e = subst (λ x. Meet x b s t) p (ahead m ys q hy e)
meets K o a b (l ∷ xs) [] s t r p q hx hy room e = subst (λ x. Meet a x s t) q (back l xs p hx (sym e))
meets K o a b (l ∷ xs) (m ∷ ys) s t r p q hx hy room e =
    let n = length o.0.types in
    let il = All-head IsLine l xs hx in
    let im = All-head IsLine m ys hy in
    let g = lines_grow o b (m ∷ ys) r q hy in
    let small : n < 2 ^ 32 = let x = g.types in omega (arith, x, room) in
    let cut = same_line (line_text n l) (line_text n m) (texts (number_after n l) xs ++ s) (texts (number_after n m) ys ++ t) (K.no_end n l small il)
    (K.no_end n m small im)
    (sym (append_assoc (with_end (line_text n l)) (texts (number_after n l) xs) s) ∙ e
    ∙ append_assoc (with_end (line_text n m)) (texts (number_after n m) ys) t) in
    let same : l ≡ m = K.one_line n l m small il im cut.0 in
    let c = advances o.0 o.1 l p.0 il r in
    let number = next_number o l (added o.0 o.1 l) c in
    meets K (added o.0 o.1 l) a b xs ys s t c.ready p.1 (subst (λ x. Leads (added o.0 o.1 x) ys b) (sym same) q.1) (All-tail IsLine l xs hx)
    (All-tail IsLine m ys hy) room
    (ap (λ k. texts k xs ++ s) (sym number) ∙ cut.1 ∙ ap (λ x. texts (number_after n x) ys ++ t) (sym same) ∙ ap (λ k. texts k ys ++ t) number)

-- a line of a set that is not too large is not one too many
no_surplus : (a b : Draft) (l : Line) (which : Count) (d : Draft) → Advance a.0 a.1 l d → Grows d b → IsBoundedBefore b.0 b.1 → Exceeds a.0 a.1 l which → ⊥
no_surplus a b l Types d c g h pass = let x = c.types in let y = g.types in let z = h.types in omega (arith, x, y, z, pass)
no_surplus a b l Parts d c g h pass = let x = c.parts in let y = g.parts in let z = h.parts in omega (arith, x, y, z, pass)
no_surplus a b l Variables d c g h pass = let x = c.vars in let y = g.vars in let z = h.variables in omega (arith, x, y, z, pass)

goes_past : LinesAreKnown → (a b : Draft) (l : Line) (rest : List Line) (s t : List ℕ) → IsReady a → IsBoundedBefore b.0 b.1 → Leads a (l ∷ rest) b
    → All IsLine (l ∷ rest) → s ≡ texts (length a.0.types) (l ∷ rest) ++ t
    → GoesPast (behind a.0 a.1) s
goes_past K a b l rest s t r bounded lead is e =
    let n = length a.0.types in
    let il = All-head IsLine l rest is in
    let g = lines_grow a b (l ∷ rest) r lead is in
    let small : n < 2 ^ 32 = few n (let x = g.types in let y = bounded.types in omega (arith, x, y)) in
    let left = texts (number_after n l) rest ++ t in
    let e2 : s ≡ with_end (line_text n l) ++ left = e ∙ append_assoc (with_end (line_text n l)) (texts (number_after n l) rest) t in
    record {
      line = line_text n l;
      left = left;
      cut = subst (λ x. CutAt 10 x (line_text n l) left) (sym e2) (begins_line (line_text n l) left (K.no_end n l small il));
      sound = spelled_breaks_none a.0 a.1 l small lead.0 il;
      within = λ m which same may im pass.
          let eq : l ≡ m = K.one_line n l m small il im same in
          let after : Leads (added a.0 a.1 m) rest b = subst (λ x. Leads (added a.0 a.1 x) rest b) eq lead.1 in
          let c = advances a.0 a.1 m may im r in
          no_surplus a b m which (added a.0 a.1 m) c (lines_grow (added a.0 a.1 m) b rest c.ready after (All-tail IsLine l rest is)) bounded pass;
    }

first_goes : (s left : List ℕ) → s ≡ with_end version_text ++ left → GoesPast first s
first_goes s left e = record {
  line = version_text;
  left = left;
  cut = subst (λ x. CutAt 10 x version_text left) (sym e) (begins_line version_text left version_lacks);
  sound = version_breaks_none;
  within = tt;
}

second_goes : (ptr : ℕ) (s left : List ℕ) → ptr < 256 → s ≡ with_end (target_text ptr) ++ left → GoesPast second s
second_goes ptr s left h e = record {
  line = target_text ptr;
  left = left;
  cut = subst (λ x. CutAt 10 x (target_text ptr) left) (sym e) (begins_line (target_text ptr) left (target_lacks ptr h));
  sound = target_breaks_none ptr h;
  within = tt;
}

-- the first two lines before, the others, and the rest
parts_of : (set : Set) (open_entry : Option OpenEntry) (text rest : List ℕ) → SpellsBefore set open_entry text
    → text ++ rest ≡ head_text set.target.ptr ++ (texts 0 (lines_before set open_entry) ++ rest)
parts_of set open_entry text rest s = ap (λ z. z ++ rest) (s.text_is ∙ text_before_is set open_entry)
    ∙ append_assoc (head_text set.target.ptr) (texts 0 (lines_before set open_entry)) rest

head_of : (set : Set) (open_entry : Option OpenEntry) (text rest : List ℕ) → SpellsBefore set open_entry text
    → text ++ rest ≡ with_end version_text ++ (with_end (target_text set.target.ptr) ++ (texts 0 (lines_before set open_entry) ++ rest))
head_of set open_entry text rest s = parts_of set open_entry text rest s ∙ head_cut set.target.ptr (texts 0 (lines_before set open_entry) ++ rest)

met : LinesAreKnown → (a b : Set) (x y : Option OpenEntry) (u v s t : List ℕ) → SpellsBefore a x u → SpellsBefore b y v → Meet (a, x) (b, y) s t
    → Compared (behind a x) (behind b y) s t (2 + length (lines_before a x)) (2 + length (lines_before b y))
met K a b x y u v s t sa sb (equal p q) = one (ap (λ (d : Draft). behind d.0 d.1) p) q (ap (λ (d : Draft). 2 + length (lines_before d.0 d.1)) p)
met K a b x y u v s t sa sb (ahead l rest lead is e) = past_f (goes_past K (a, x) (b, y) l rest s t (is_ready a x sa.entry) sb.bounded lead is e)
met K a b x y u v s t sa sb (back l rest lead is e) = past_g (goes_past K (b, y) (a, x) l rest t s (is_ready b y sb.entry) sa.bounded lead is e)

both_behind : LinesAreKnown → (a b : Set) (x y : Option OpenEntry) (u v s t : List ℕ) → u ++ s ≡ v ++ t → SpellsBefore a x u → SpellsBefore b y v
    → Compared (behind a x) (behind b y) s t (2 + length (lines_before a x)) (2 + length (lines_before b y))
both_behind K a b x y u v s t e sa sb =
    let ls = lines_before a x in
    let ms = lines_before b y in
    let both : head_text a.target.ptr ++ (texts 0 ls ++ s) ≡ head_text b.target.ptr ++ (texts 0 ms ++ t) = sym (parts_of a x u s sa) ∙ e
    ∙ parts_of b y v t sb in
    let cut = same_head a.target.ptr b.target.ptr (texts 0 ls ++ s) (texts 0 ms ++ t) sa.items.target sb.items.target both in
    let target : a.target ≡ b.target = ap (λ p. record { ptr = p }) cut.0 in
    met K a b x y u v s t sa sb
    (meets K (empty_set a.target, None) (a, x) (b, y) ls ms s t tt (lines_before_lead a x (is_ready a x sa.entry))
    (subst (λ z. Leads (empty_set z, None) ms (b, y)) (sym target) (lines_before_lead b y (is_ready b y sb.entry)))
    (before_are_lines a x sa.items.lines sa.entry) (before_are_lines b y sb.items.lines sb.entry) (few (length b.types) sb.bounded.types) cut.1)

from_first : (g : Front) (u v s t : List ℕ) (m n : ℕ) → u ++ s ≡ v ++ t → IsBefore first u m → IsBefore g v n → Compared first g s t m n
from_first first u v s t m n e h k = one refl (ap (λ z. z ++ s) (sym h.0) ∙ e ∙ ap (λ z. z ++ t) k.0) (h.1 ∙ sym k.1)
from_first second u v s t m n e h k = past_f (first_goes s t (ap (λ z. z ++ s) (sym h.0) ∙ e ∙ ap (λ z. z ++ t) k.0))
from_first (behind b y) u v s t m n e h k = past_f (first_goes s _ (ap (λ z. z ++ s) (sym h.0) ∙ e ∙ head_of b y v t k.0))

second_behind : (b : Set) (y : Option OpenEntry) (u v s t : List ℕ) (m n : ℕ) → u ++ s ≡ v ++ t → IsBefore second u m → IsBefore (behind b y) v n
    → Compared second (behind b y) s t m n
second_behind b y u v s t m n e h k =
    let left = texts 0 (lines_before b y) ++ t in
    past_f (second_goes b.target.ptr s left k.0.items.target (append_cancel_left (with_end version_text) s (with_end (target_text b.target.ptr) ++ left)
    (ap (λ z. z ++ s) (sym h.0) ∙ e ∙ head_of b y v t k.0)))

compared : LinesAreKnown → (f g : Front) (u v s t : List ℕ) (m n : ℕ) → u ++ s ≡ v ++ t → IsBefore f u m → IsBefore g v n → Compared f g s t m n
compared K first g u v s t m n e h k = from_first g u v s t m n e h k
compared K second first u v s t m n e h k = swapped first second t s n m (from_first second v u t s n m (sym e) k h)
compared K second second u v s t m n e h k = one refl (append_cancel_left (with_end version_text) s t (ap (λ z. z ++ s) (sym h.0) ∙ e ∙ ap (λ z. z ++ t) k.0))
    (h.1 ∙ sym k.1)
compared K second (behind b y) u v s t m n e h k = second_behind b y u v s t m n e h k
compared K (behind a x) first u v s t m n e h k = swapped first (behind a x) t s n m (from_first (behind a x) v u t s n m (sym e) k h)
compared K (behind a x) second u v s t m n e h k = swapped second (behind a x) t s n m (second_behind a x v u t s n m (sym e) k h)
compared K (behind a x) (behind b y) u v s t m n e h k =
    subst (λ z. Compared (behind a x) (behind b y) s t z n) (sym h.1)
    (subst (λ z. Compared (behind a x) (behind b y) s t (2 + length (lines_before a x)) z) (sym k.1) (both_behind K a b x y u v s t e h.0 k.0))

-- one rule is the lowest that is broken at a front
one_rule : (f : Front) (t : List ℕ) (r q : ℕ) → Breaks f t r → Breaks f t q → r ≡ q
one_rule f t r q (whole l w e) (whole m v d) =
    let same = one_cut 10 t l m w.0 v.0 w.1 v.1 in
    one_lowest (BreaksLine f m) r q (subst (λ x. IsLowest (BreaksLine f x) r) same.0 e) d
one_rule f t r q (whole l w e) (endless en d) = absurd (lf_in l w.0 (subst (Lacks 10) w.1.text en.1))
one_rule f t r q (whole l w e) (missing m must d) = absurd (nothing_cut l w.0 (subst (λ z. CutAt 10 z l w.0) m w.1))
one_rule f t r q (endless en e) (whole m v d) = absurd (lf_in m v.0 (subst (Lacks 10) v.1.text en.1))
one_rule f t r q (endless en e) (endless also d) = e ∙ sym d
one_rule f t r q (endless en e) (missing m must d) = absurd (en.0 m)
one_rule f t r q (missing n must e) (whole m v d) = absurd (nothing_cut m v.0 (subst (λ z. CutAt 10 z m v.0) n v.1))
one_rule f t r q (missing n must e) (endless en d) = absurd (en.0 n)
one_rule f t r q (missing n must e) (missing m also d) = e ∙ sym d

-- a line adds to one of the counts
data AddsOne (l : Line) : Type 0 where
  a_type : line_parts l ≡ 0 → line_variables l ≡ 0 → AddsOne l
  a_part : line_types l ≡ 0 → line_variables l ≡ 0 → AddsOne l
  a_variable : line_types l ≡ 0 → line_parts l ≡ 0 → AddsOne l

adds_one : (l : Line) → AddsOne l
adds_one (lines.Type def) = a_type refl refl
adds_one (lines.Param p) = a_part refl refl
adds_one (lines.Field f) = a_part refl refl
adds_one (lines.Case c) = a_part refl refl
adds_one (lines.Tag t) = a_part refl refl
adds_one (lines.Variant w sel) = a_part refl refl
adds_one (lines.Static s) = a_variable refl refl
adds_one (lines.Func f) = a_part refl refl
adds_one (lines.Scope s) = a_part refl refl
adds_one (lines.Var v) = a_variable refl refl
adds_one (lines.Whole lo hi place) = a_part refl refl
adds_one (lines.Pieces lo hi count) = a_part refl refl
adds_one (lines.Piece p) = a_part refl refl

abbrev count_of : (l : Line) → AddsOne l → Count
count_of l (a_type p v) = Types
count_of l (a_part p v) = Parts
count_of l (a_variable p v) = Variables

is_count : (d : Draft) (l : Line) (a : AddsOne l) (which : Count) → IsBoundedBefore d.0 d.1 → Exceeds d.0 d.1 l which → which ≡ count_of l a
is_count d l (a_type p v) Types b h = refl
is_count d l (a_type p v) Parts b h = absurd (let x = b.parts in omega (arith, x, p, h))
is_count d l (a_type p v) Variables b h = absurd (let x = b.variables in omega (arith, x, v, h))
is_count d l (a_part t v) Types b h = absurd (let x = b.types in omega (arith, x, t, h))
is_count d l (a_part t v) Parts b h = refl
is_count d l (a_part t v) Variables b h = absurd (let x = b.variables in omega (arith, x, v, h))
is_count d l (a_variable t p) Types b h = absurd (let x = b.types in omega (arith, x, t, h))
is_count d l (a_variable t p) Parts b h = absurd (let x = b.parts in omega (arith, x, p, h))
is_count d l (a_variable t p) Variables b h = refl

-- the first line behind the text of a set is one too many
record Surplus (d : Draft) (text : List ℕ) (which : Count) : Type 0 where
  pub line : Line
  pub follows : may_follow d.0 d.1 (kind_of_line line) ≡ true
  pub is_line : IsLine line
  pub is_first : IsFirstLine (line_text (length d.0.types) line) text
  pub exceeds : Exceeds d.0 d.1 line which
  pub bounded : IsBoundedBefore d.0 d.1

surplus : (bytes : List ℕ) (which : Count) (k : IsLimit bytes which) → Surplus (k.set, k.open_entry) k.text which
surplus bytes which k = record { line = k.line; follows = k.follows; is_line = k.is_line; is_first = k.whole; exceeds = k.exceeds; bounded = k.spells.bounded }

one_surplus : LinesAreKnown → (d : Draft) (text : List ℕ) (x y : Count) → Surplus d text x → Surplus d text y → x ≡ y
one_surplus K d text x y h k =
    let n = length d.0.types in
    let cut = one_cut 10 text (line_text n h.line) (line_text n k.line) h.is_first.0 k.is_first.0 h.is_first.1 k.is_first.1 in
    let same : h.line ≡ k.line = K.one_line n h.line k.line (few n h.bounded.types) h.is_line k.is_line cut.0 in
    let a = adds_one h.line in
    is_count d h.line a x h.bounded h.exceeds ∙ sym (is_count d h.line a y h.bounded (subst (λ l. Exceeds d.0 d.1 l y) (sym same) k.exceeds))

not_past : (d : Draft) (text : List ℕ) (which : Count) → Surplus d text which → GoesPast (behind d.0 d.1) text → ⊥
not_past d text which h g =
    let n = length d.0.types in
    g.within h.line which (one_cut 10 text g.line (line_text n h.line) g.left h.is_first.0 g.cut h.is_first.1).0 h.follows h.is_line h.exceeds

-- such a line breaks no rule
no_rule : (d : Draft) (text : List ℕ) (which : Count) (rule : ℕ) → Surplus d text which → Breaks (behind d.0 d.1) text rule → ⊥
no_rule d text which rule h b = no_break (behind d.0 d.1) text rule (more (line_text (length d.0.types) h.line) h.is_first.0 h.is_first.1
    (spelled_breaks_none d.0 d.1 h.line (few (length d.0.types) h.bounded.types) h.follows h.is_line)) b

abbrev draft_at : Draft → Front → Draft
draft_at d (behind set open_entry) = (set, open_entry)
draft_at d first = d
draft_at d second = d

two_faults : (bytes : List ℕ) (l r m q : ℕ) (h : IsFault bytes l r) (k : IsFault bytes m q) → Compared h.front k.front h.text k.text h.count k.count
    → BadLine l r ≡ BadLine m q
two_faults bytes l r m q h k (one p s c) =
    let number : l ≡ m = h.number ∙ ap (λ x. min (x + 1) (2 ^ 32 - 1)) c ∙ sym k.number in
    let there : Breaks k.front k.text r = subst (λ z. Breaks k.front z r) s (subst (λ z. Breaks z h.text r) p h.breaks) in
    ap (λ x. BadLine x r) number ∙ ap (λ x. BadLine m x) (one_rule k.front k.text r q there k.breaks)
two_faults bytes l r m q h k (past_f g) = absurd (no_break_there h.front h.text r g h.breaks)
two_faults bytes l r m q h k (past_g g) = absurd (no_break_there k.front k.text q g k.breaks)

not_both : (bytes : List ℕ) (l r : ℕ) (which : Count) (h : IsFault bytes l r) (k : IsLimit bytes which) (n : ℕ)
    → Compared h.front (behind k.set k.open_entry) h.text k.text h.count n → ⊥
not_both bytes l r which h k n (one p s c) =
    no_rule (k.set, k.open_entry) k.text which r (surplus bytes which k)
    (subst (λ z. Breaks (behind k.set k.open_entry) z r) s (subst (λ z. Breaks z h.text r) p h.breaks))
not_both bytes l r which h k n (past_f g) = no_break_there h.front h.text r g h.breaks
not_both bytes l r which h k n (past_g g) = not_past (k.set, k.open_entry) k.text which (surplus bytes which k) g

two_limits : LinesAreKnown → (bytes : List ℕ) (x y : Count) (h : IsLimit bytes x) (k : IsLimit bytes y) (m n : ℕ)
    → Compared (behind h.set h.open_entry) (behind k.set k.open_entry) h.text k.text m n → x ≡ y
two_limits K bytes x y h k m n (one p s c) =
    let d : (h.set, h.open_entry) ≡ (k.set, k.open_entry) = ap (draft_at (h.set, h.open_entry)) p in
    let there = subst (λ z. Surplus (k.set, k.open_entry) z x) s (subst (λ z. Surplus z h.text x) d (surplus bytes x h)) in
    one_surplus K (k.set, k.open_entry) k.text x y there (surplus bytes y k)
two_limits K bytes x y h k m n (past_f g) = absurd (not_past (h.set, h.open_entry) h.text x (surplus bytes x h) g)
two_limits K bytes x y h k m n (past_g g) = absurd (not_past (k.set, k.open_entry) k.text y (surplus bytes y k) g)

no_fault_and_limit : LinesAreKnown → (bytes : List ℕ) (l r : ℕ) (which : Count) → IsFault bytes l r → IsLimit bytes which → ⊥
no_fault_and_limit K bytes l r which h k =
    let n = 2 + length (lines_before k.set k.open_entry) in
    not_both bytes l r which h k n (compared K h.front (behind k.set k.open_entry) h.before k.before h.text k.text h.count n
    (sym h.bytes_are ∙ k.bytes_are) h.is_before (k.spells, refl))

-- a file has at most one fault
pub one_fault : LinesAreKnown → HaveOneFault
one_fault K bytes (BadLine l r) (BadLine m q) h k n o =
    two_faults bytes l r m q h k (compared K h.front k.front h.before k.before h.text k.text h.count k.count
    (sym h.bytes_are ∙ k.bytes_are) h.is_before k.is_before)
one_fault K bytes (BadLine l r) (Limit which) h k n o = absurd (no_fault_and_limit K bytes l r which h k)
one_fault K bytes (Limit which) (BadLine l r) h k n o = absurd (no_fault_and_limit K bytes l r which k h)
one_fault K bytes (Limit x) (Limit y) h k n o =
    let m = 2 + length (lines_before h.set h.open_entry) in
    let i = 2 + length (lines_before k.set k.open_entry) in
    ap (λ w. Limit w) (two_limits K bytes x y h k m i (compared K (behind h.set h.open_entry) (behind k.set k.open_entry) h.before k.before h.text k.text m i
    (sym h.bytes_are ∙ k.bytes_are) (h.spells, refl) (k.spells, refl)))
one_fault K bytes Memory f h k n o = absurd (n refl)
one_fault K bytes (BadLine l r) Memory h k n o = absurd (o refl)
one_fault K bytes (Limit which) Memory h k n o = absurd (o refl)
