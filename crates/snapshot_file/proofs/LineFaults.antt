-- What the words of a line tell of the rules that the line breaks.
use Rattle.std.proofs.Common.{◌≡◌, ◌∙◌, sym, ap, subst, refl, ℕ, ◌≤◌, true, false, List, [], ◌∷◌, arith, Option, Some, None, Result, codes}
use Rattle.std.proofs.lemmas.Option.{same_Some}
use Rattle.std.proofs.lemmas.Slice.Eq.{bytes_eq-Decides}
use Rattle.std.specs.Prelude.{if◌then◌else◌}
use Rattle.std.specs.Str.{bytes_eq, is_utf8}
use Rattle.readers.specs.Lines.{words}
use Rattle.readers.specs.Hex.{hex_text}
use Rattle.readers.proofs.Cutting.{two_items}
use Rattle.snapshot_file.specs.declared.fault.SnapErr.{SnapErr}
use Rattle.snapshot_file.specs.declared.registers.Reg.{Reg}
use Rattle.snapshot_file.specs.declared.snapshot.Reading.{Reading}
use Rattle.snapshot_file.specs.declared.snapshot.Snapshot.{Snapshot}
use Rattle.snapshot_file.specs.Spans.{last_end}
use Rattle.snapshot_file.specs.Reading.{bad, is_above, register_line, memory_line, last_line, later_line}
use Rattle.snapshot_file.specs.Faults.{Front, behind, Kind, Version, Pc, Cfa, Register, Memory, first_word, MayStand, IsBare, IsPassed, BreaksWords, Breaks, no_text, cannot_stand, words_break, Overlaps}
use Rattle.snapshot_file.proofs.Lowest.{Tells, cond_tells, tells_same}
use Rattle.snapshot_file.proofs.ReadLines.{whole}
use Rattle.snapshot_file.proofs.WordFaults.{not_equal, version_low, number_low}
use Rattle.snapshot_file.proofs.RegisterFaults.{register_low, register_tells}
use Rattle.snapshot_file.proofs.MemoryFaults.{memory_low, memory_tells, IsBelow}

-- the kind of a first word
abbrev kind_of : List ℕ → Option Kind
kind_of word =
    if bytes_eq word (codes "rdbg-snapshot") then Some Version
    else if bytes_eq word (codes "pc") then Some Pc
    else if bytes_eq word (codes "cfa") then Some Cfa
    else if bytes_eq word (codes "reg") then Some Register
    else if bytes_eq word (codes "mem") then Some Memory
    else None

kind_back : (kind : Kind) → kind_of (first_word kind) ≡ Some kind
kind_back Version = refl
kind_back Pc = refl
kind_back Cfa = refl
kind_back Register = refl
kind_back Memory = refl

one_kind : (kind other : Kind) → first_word kind ≡ first_word other → kind ≡ other
one_kind kind other e = same_Some kind other (sym (kind_back kind) ∙ ap kind_of e ∙ kind_back other)

pub head_of : (a b : List ℕ) (xs ys : List (List ℕ)) → a ∷ xs ≡ b ∷ ys → a ≡ b
head_of a b xs ys e = cc

tail_of : (a b : List ℕ) (xs ys : List (List ℕ)) → a ∷ xs ≡ b ∷ ys → xs ≡ ys
tail_of a b xs ys e = cc

words_low : (front : Front) (kind : Kind) (more : List (List ℕ)) (n : ℕ) → BreaksWords front kind more n → 3 ≤ n
words_low front Version more n b = version_low more n b
words_low front Pc more n b = number_low more n b
words_low front Cfa more n b = number_low more n b
words_low front Register more n b = register_low _ more n b
words_low front Memory more n b = memory_low more n b

line_low : (front : Front) (line : List ℕ) (n : ℕ) → Breaks front line n → 1 ≤ n
line_low front line n (no_text e r) = omega arith
line_low front line n (cannot_stand none r) = omega arith
line_low front line n (words_break kind more may w b) = omega (arith, words_low front kind more n b)

text_low : (front : Front) (line : List ℕ) (n : ℕ) → is_utf8 line ≡ true → Breaks front line n → 2 ≤ n
text_low front line n u (no_text e r) = absurd (cc)
text_low front line n u (cannot_stand none r) = omega arith
text_low front line n u (words_break kind more may w b) = omega (arith, words_low front kind more n b)

-- a line that may stand breaks what its words break
of_words : (front : Front) (kind : Kind) (line : List ℕ) (more : List (List ℕ)) (n : ℕ) → is_utf8 line ≡ true → MayStand front kind → words line ≡ first_word kind ∷ more → Breaks front line n → BreaksWords front kind more n
of_words front kind line more n u may w (no_text e r) = absurd (cc)
of_words front kind line more n u may w (cannot_stand none r) = absurd (none kind more may w)
of_words front kind line more n u may w (words_break other rest m v b) =
    let same : first_word other ∷ rest ≡ first_word kind ∷ more = sym v ∙ w in
    let words_same = tail_of (first_word other) (first_word kind) rest more same in
    let kind_same = one_kind other kind (head_of (first_word other) (first_word kind) rest more same) in
    subst (λ k. BreaksWords front k more n) kind_same (subst (λ ms. BreaksWords front other ms n) words_same b)

pub words_tell : {X : Type 0} (front : Front) (kind : Kind) (line : List ℕ) (more : List (List ℕ)) (O P : Type 0) (n : ℕ) (res : Result X SnapErr) → is_utf8 line ≡ true → MayStand front kind → words line ≡ first_word kind ∷ more → (O → P)
    → Tells (BreaksWords front kind more) O n res → Tells (Breaks front line) P n res
words_tell front kind line more O P n res u may w over h =
    tells_same (BreaksWords front kind more) (Breaks front line) O P n res (λ m b. words_break kind more may w b) (λ m b. of_words front kind line more m u may w b) over h

-- the first word may not stand here
pub none_stands : (front : Front) (line : List ℕ) (O : Type 0) (n : ℕ) → is_utf8 line ≡ true → ((kind : Kind) (more : List (List ℕ)) → MayStand front kind → words line ≡ first_word kind ∷ more → ⊥) → Tells {X = Reading} (Breaks front line) O n (bad n 2)
none_stands front line O n u h = (refl, (cannot_stand h refl, λ m b. text_low front line m u b))

-- the line is not UTF-8
pub not_utf8 : (front : Front) (line : List ℕ) (O : Type 0) (n : ℕ) → is_utf8 line ≡ false → Tells {X = Reading} (Breaks front line) O n (bad n 1)
not_utf8 front line O n f = (refl, (no_text f refl, λ m b. line_low front line m b))

-- a segment below the end of the one before is an overlap
overlap_of : (s : Snapshot) (line : List ℕ) (more : List (List ℕ)) → is_utf8 line ≡ true → words line ≡ codes "mem" ∷ more → IsBelow (last_end s.mem) more → Overlaps s line
overlap_of s line more u w below =
    let at = hex_text below.segment.at in
    record {
      segment = below.segment;
      is = record { digits = below.digits; text = whole line (codes "mem" ∷ at ∷ below.digits ∷ []) (w ∙ ap (λ ws. codes "mem" ∷ ws) (two_items more at below.digits below.words)); bytes = below.bytes };
      faultless = λ n b. below.faultless n (of_words (behind s) Memory line more n u tt w b);
      below = below.below;
    }

-- the first word with those after it, by its test
pub begins : (line word other : List ℕ) (more : List (List ℕ)) → words line ≡ word ∷ more → bytes_eq word other ≡ true → words line ≡ other ∷ more
begins line w other more h t = h ∙ ap (λ x. x ∷ more) ((bytes_eq-Decides w other).0 t)

pub does_not_begin : (line word other : List ℕ) (more rest : List (List ℕ)) → words line ≡ word ∷ more → bytes_eq word other ≡ false → words line ≡ other ∷ rest → ⊥
does_not_begin line w other more rest h f v = not_equal w other f (head_of w other more rest (sym h ∙ v))

-- a line that may be of memory
pub last_tells : (r : Reading) (line word : List ℕ) (more : List (List ℕ)) → is_utf8 line ≡ true → words line ≡ word ∷ more → ((rest : List (List ℕ)) → IsBare r.snapshot → words line ≡ codes "cfa" ∷ rest → ⊥) → ((rest : List (List ℕ)) → r.snapshot.mem ≡ [] → words line ≡ codes "reg" ∷ rest → ⊥)
    → Tells (Breaks (behind r.snapshot) line) (Overlaps r.snapshot line) r.line (last_line r word more)
last_tells r line word more u w cfa reg =
    let front = behind r.snapshot in
    let O = Overlaps r.snapshot line in
    cond_tells (Breaks front line) O r.line (bytes_eq word (codes "mem")) (memory_line r more) (bad r.line 2)
    (λ t. let is = begins line word (codes "mem") more w t in
    words_tell front Memory line more (IsBelow (last_end r.snapshot.mem) more) O r.line (memory_line r more) u tt is (overlap_of r.snapshot line more u is) (memory_tells r more))
    (λ f. none_stands front line O r.line u (λ kind rest may v. elim kind as (λ k. MayStand front k → words line ≡ first_word k ∷ rest → ⊥) [
      | Version ↦ λ m e. m
      | Pc ↦ λ m e. m
      | Cfa ↦ λ m e. cfa rest m e
      | Register ↦ λ m e. reg rest m e
      | Memory ↦ λ m e. does_not_begin line word (codes "mem") more rest w f e
    ] may v))

-- a line that may be of a register or of memory
pub later_tells : (r : Reading) (line word : List ℕ) (more : List (List ℕ)) → is_utf8 line ≡ true → words line ≡ word ∷ more → ((rest : List (List ℕ)) → IsBare r.snapshot → words line ≡ codes "cfa" ∷ rest → ⊥) → r.snapshot.mem ≡ []
    → ((reg : Reg) → is_above r.stage reg ≡ true → IsPassed r.snapshot.regs reg → ⊥) → ((reg : Reg) → is_above r.stage reg ≡ false → IsPassed r.snapshot.regs reg)
    → Tells (Breaks (behind r.snapshot) line) (Overlaps r.snapshot line) r.line (later_line r word more)
later_tells r line word more u w cfa none above not_above =
    let front = behind r.snapshot in
    let O = Overlaps r.snapshot line in
    cond_tells (Breaks front line) O r.line (bytes_eq word (codes "reg")) (register_line r more) (last_line r word more)
    (λ t. words_tell front Register line more O O r.line (register_line r more) u none (begins line word (codes "reg") more w t) (λ o. o) (register_tells O r r.snapshot.regs more above not_above))
    (λ f. last_tells r line word more u w cfa (λ rest m e. does_not_begin line word (codes "reg") more rest w f e))
