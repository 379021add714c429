-- The text of a set is that of no other, and goes on from the text of another by lines that may follow.
use Rattle.std.proofs.Common.{
  ◌≡◌,
  ◌∙◌,
  sym,
  ap,
  subst,
  refl,
  ℕ,
  ◌+◌,
  ◌<◌,
  ◌≤◌,
  ◌^◌,
  List,
  [],
  ◌∷◌,
  ◌++◌,
  length,
  append_assoc,
  Option,
  Some,
  None,
  IfSome,
  lit≤,
  arith,
}
use Rattle.std.proofs.lemmas.List.{append-nil}
use Rattle.std.proofs.lemmas.List.Elements.{All-head, All-tail, All-append}
use Rattle.std.specs.List.{All}
use Rattle.readers.specs.Lines.{Lacks, with_end}
use Rattle.layout_set.specs.Counts.{part_count, variable_count}
use Rattle.layout_set.specs.declared.set.Set.{Set}
use Rattle.layout_lines.specs.declared.open_entry.OpenEntry.{OpenEntry}
use Rattle.layout_lines.specs.declared.line.Line.{Line}
use Rattle.layout_lines.specs.declared.line.Line.TheVariants as lines
use Rattle.layout_lines.specs.Lines.{line_text, IsLine}
use Rattle.layout_lines.specs.Sets.{
  lines_of,
  lines_before,
  open_lines,
  open_parts,
  texts,
  number_after,
  head_text,
  layout_text,
  IsOpenEntry,
  Spells,
  SpellsBefore,
}
use Rattle.layout_builder.specs.Additions.{Draft, added}
use Rattle.layout_builder.specs.LineCounts.{line_types}
use Rattle.layout_builder.proofs.Adding.{Advance, IsReady, advances}
use Rattle.layout_lines.proofs.FuncTexts.{text_before_is}
use Rattle.layout_builder.proofs.Leading.{Leads, empty_set}
use Rattle.layout_builder.proofs.FuncLeading.{lines_lead, lines_before_lead}
use Rattle.layout_lines.proofs.Heads.{same_line, no_line, same_head}

-- what is known of the text of a line: no other line has it, and it has no end in it
pub record LinesAreKnown : Type 0 where
  pub one_line : (next : ℕ) (a b : Line) → next < 2 ^ 32 → IsLine a → IsLine b → line_text next a ≡ line_text next b → a ≡ b
  pub no_end : (next : ℕ) (l : Line) → next < 2 ^ 32 → IsLine l → Lacks 10 (line_text next l)

-- how many parts a set and the entry that stands open have
abbrev pub parts_in : Draft → ℕ
parts_in d = part_count d.0 + open_parts d.1

-- nothing is fewer
pub record Grows (a b : Draft) : Type 0 where
  pub types : length a.0.types ≤ length b.0.types
  pub parts : parts_in a ≤ parts_in b
  pub vars : variable_count a.0 ≤ variable_count b.0

pub lines_grow : (a b : Draft) (ls : List Line) → IsReady a → Leads a ls b → All IsLine ls → Grows a b
lines_grow a b [] r p is = subst (Grows a) p (record { types = omega arith; parts = omega arith; vars = omega arith })
lines_grow a b (l ∷ ls) r p is =
    let c = advances a.0 a.1 l p.0 (All-head IsLine l ls is) r in
    let g = lines_grow (added a.0 a.1 l) b ls c.ready p.1 (All-tail IsLine l ls is) in
    record {
      types = let x = c.types in let y = g.types in omega (arith, x, y);
      parts = let x = c.parts in let y = g.parts in omega (arith, x, y);
      vars = let x = c.vars in let y = g.vars in omega (arith, x, y);
    }

after_is : (next : ℕ) (l : Line) → number_after next l ≡ next + line_types l
after_is next (lines.Type def) = refl
after_is next (lines.Param p) = omega arith
after_is next (lines.Field f) = omega arith
after_is next (lines.Case c) = omega arith
after_is next (lines.Tag t) = omega arith
after_is next (lines.Variant w sel) = omega arith
after_is next (lines.Static s) = omega arith
after_is next (lines.Func f) = omega arith
after_is next (lines.Scope s) = omega arith
after_is next (lines.Var v) = omega arith
after_is next (lines.Whole lo hi place) = omega arith
after_is next (lines.Pieces lo hi count) = omega arith
after_is next (lines.Piece p) = omega arith

pub next_number : (a : Draft) (l : Line) (d : Draft) → Advance a.0 a.1 l d → number_after (length a.0.types) l ≡ length d.0.types
next_number a l d c = after_is (length a.0.types) l ∙ sym c.types

-- the lines by which a set and the entry that stands open go on to others, and their text
pub record GoesOn (a b : Draft) (text : List ℕ) : Type 0 where
  pub rest : List Line
  pub leads : Leads a rest b
  pub are_lines : All IsLine rest
  pub text_is : text ≡ texts (length a.0.types) rest

pub goes_on : LinesAreKnown → (s a b : Draft) (before all : List Line) (text : List ℕ) → IsReady s → Leads s before a → Leads s all b → All IsLine before
    → All IsLine all → length b.0.types < 2 ^ 32
    → texts (length s.0.types) before ++ text ≡ texts (length s.0.types) all → GoesOn a b text
goes_on K s a b [] all text r p q hp hq room e = subst (λ x. GoesOn x b text) p (record { rest = all; leads = q; are_lines = hq; text_is = e })
goes_on K s a b (l ∷ before) [] text r p q hp hq room e =
    let n = length s.0.types in
    absurd (no_line (line_text n l) (texts (number_after n l) before ++ text) (sym e
    ∙ append_assoc (with_end (line_text n l)) (texts (number_after n l) before) text))
goes_on K s a b (l ∷ before) (m ∷ all) text r p q hp hq room e =
    let n = length s.0.types in
    let il = All-head IsLine l before hp in
    let im = All-head IsLine m all hq in
    let g = lines_grow s b (m ∷ all) r q hq in
    let small : n < 2 ^ 32 = let x = g.types in omega (arith, x, room) in
    let cut = same_line (line_text n l) (line_text n m) (texts (number_after n l) before ++ text) (texts (number_after n m) all) (K.no_end n l small il)
    (K.no_end n m small im)
    (sym (append_assoc (with_end (line_text n l)) (texts (number_after n l) before) text) ∙ e) in
    let same : l ≡ m = K.one_line n l m small il im cut.0 in
    let c = advances s.0 s.1 l p.0 il r in
    let number = next_number s l (added s.0 s.1 l) c in
    goes_on K (added s.0 s.1 l) a b before all text c.ready p.1 (subst (λ x. Leads (added s.0 s.1 x) all b) (sym same) q.1) (All-tail IsLine l before hp)
    (All-tail IsLine m all hq) room
    (ap (λ k. texts k before ++ text) (sym number) ∙ cut.1 ∙ ap (λ x. texts (number_after n x) all) (sym same) ∙ ap (λ k. texts k all) number)

few : (n : ℕ) → n ≤ 20000 → n < 2 ^ 32
few n h = let e : 20001 ≤ 2 ^ 32 = lit≤ tt in omega arith

-- what stands open behind a text that was spelled may stand there
pub is_ready : (set : Set) (open_entry : Option OpenEntry) → IfSome open_entry (IsOpenEntry set) → IsReady (set, open_entry)
is_ready set None h = tt
is_ready set (Some o) h = (h.stands, h.missing)

pub before_are_lines : (set : Set) (open_entry : Option OpenEntry) → All IsLine (lines_of set) → IfSome open_entry (IsOpenEntry set)
    → All IsLine (lines_before set open_entry)
before_are_lines set None is h = subst (All IsLine) (sym (append-nil (lines_of set))) is
before_are_lines set (Some o) is h = All-append IsLine (lines_of set) (open_lines (Some o)) is h.lines

-- where a file begins with the text of a set and of an entry that stands open, and spells a set, the one goes on to the other
pub file_goes_on : LinesAreKnown → (a : Set) (open_entry : Option OpenEntry) (b : Set) (before bytes text : List ℕ) → SpellsBefore a open_entry before
    → Spells b bytes
    → bytes ≡ before ++ text → GoesOn (a, open_entry) (b, None) text
file_goes_on K a open_entry b before bytes text sa sb e =
    let ls = lines_before a open_entry in
    let whole : head_text a.target.ptr ++ (texts 0 ls ++ text) ≡ head_text b.target.ptr ++ texts 0 (lines_of b) =
    sym (append_assoc (head_text a.target.ptr) (texts 0 ls) text) ∙ ap (λ t. t ++ text) (sym (text_before_is a open_entry) ∙ sym sa.text_is) ∙ sym e
    ∙ sb.text in
    let cut = same_head a.target.ptr b.target.ptr (texts 0 ls ++ text) (texts 0 (lines_of b)) sa.items.target sb.items.target whole in
    let target : a.target ≡ b.target = ap (λ p. record { ptr = p }) cut.0 in
    goes_on K (empty_set a.target, None) (a, open_entry) (b, None) ls (lines_of b) text tt (lines_before_lead a open_entry (is_ready a open_entry sa.entry))
    (subst (λ t. Leads (empty_set t, None) (lines_of b) (b, None)) (sym target) (lines_lead b))
    (before_are_lines a open_entry sa.items.lines sa.entry) sb.items.lines (few (length b.types) sb.bounded.types) cut.1

-- no lines have no text
no_lines : (a b : Draft) (next : ℕ) (rest : List Line) → Leads a rest b → [] ≡ texts next rest → a ≡ b
no_lines a b next [] p e = p
no_lines a b next (l ∷ rest) p e = absurd (no_line (line_text next l) (texts (number_after next l) rest) e)

-- a set that a file spells is spelled with nothing open behind it
pub spells_before : (set : Set) (bytes : List ℕ) → Spells set bytes → SpellsBefore set None bytes
spells_before set bytes s = record {
  text_is = s.text ∙ sym (append-nil (layout_text set));
  items = s.items;
  entry = tt;
  bounded = record { types = s.bounded.types; parts = let x = s.bounded.parts in omega (arith, x); variables = s.bounded.variables };
}

pub one_set : LinesAreKnown → (a b : Set) (bytes : List ℕ) → Spells a bytes → Spells b bytes → a ≡ b
one_set K a b bytes sa sb =
    let g = file_goes_on K a None b bytes bytes [] (spells_before a bytes sa) sb (sym (append-nil bytes)) in
    ap (λ d. d.0) (no_lines (a, None) (b, None) (length a.types) g.rest g.leads g.text_is)
