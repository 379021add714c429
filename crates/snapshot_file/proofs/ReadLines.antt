-- What a line that is read says.
use Rattle.std.proofs.Common.{◌≡◌, ◌∙◌, sym, ap, subst, refl, ℕ, ◌+◌, ◌*◌, ◌<◌, ◌≤◌, ◌^◌, ◌==◌, ◌||◌, ◌⊎◌, inl, inr, true, false, cond, List, [], ◌∷◌, ◌++◌, length, arith, Option, Some, None, Result, Ok, Err, codes, nat_lt, lit≤}
use Rattle.std.proofs.lemmas.Bool.{ltb-false, ltb-true, lt-ltb}
use Rattle.std.proofs.lemmas.Slice.Eq.{bytes_eq-Decides}
use Rattle.std.proofs.lemmas.List.Splits.{join_with_byte-slice_split}
use Rattle.std.proofs.lemmas.Option.{same_Some}
use Rattle.std.specs.List.{join_with_byte}
use Rattle.std.specs.Str.{bytes_eq, is_utf8}
use Rattle.hex.specs.Hex.{decode_of}
use Rattle.hex.specs.declared.error.FromHexError.{FromHexError}
use Rattle.readers.specs.Lines.{words, only, two}
use Rattle.readers.specs.Hex.{hex_text, hex_of, wide_hex_of, is_hex_word}
use Rattle.readers.proofs.Cutting.{only_item, two_items}
use Rattle.readers.proofs.HexWords.{spelling_of, wide_spelling_of}
use Rattle.snapshot_file.specs.declared.fault.SnapErr.{SnapErr}
use Rattle.snapshot_file.specs.declared.registers.Reg.{Reg}
use Rattle.snapshot_file.specs.declared.snapshot.Stage.TheVariants as stages
use Rattle.snapshot_file.specs.declared.snapshot.Reading.{Reading}
use Rattle.snapshot_file.specs.Memory.{Run, end_of}
use Rattle.snapshot_file.specs.Registers.{number_of, width_of, name_of, reg_of}
use Rattle.snapshot_file.specs.Spans.{with_bytes, last_end}
use Rattle.snapshot_file.specs.Reading.{or_bad, bad, after, pairs, step, words_at, line_at, version_line, number_of_line, pc_line, cfa_line, fits, fitting, value_in, value_of_line, is_above, after_register, register_line, memory_line, last_line, later_line}
use Rattle.snapshot_file.specs.Snapshots.{IsMemoryLine, line_of_register}
use Rattle.snapshot_file.proofs.Chains.{bind_then, cond_then, or_bad_then}
use Rattle.snapshot_file.proofs.RegisterLists.{word_of}

some_words : {P : Type 0} (r : Reading) (ws : List (List ℕ)) (s : Reading) → words_at r ws ≡ Ok s
    → ((first : List ℕ) (more : List (List ℕ)) → ws ≡ first ∷ more → line_at r.stage r first more ≡ Ok s → P) → P
some_words r [] s e k = absurd (cc)
some_words r (first ∷ more) s e k = k first more refl e

-- the words of a line that is read
pub line_words : {P : Type 0} (r : Reading) (line : List ℕ) (s : Reading) → step r line ≡ Ok s
    → ((first : List ℕ) (more : List (List ℕ)) → words line ≡ first ∷ more → line_at r.stage r first more ≡ Ok s → P) → P
unfolding step
line_words r line s e k =
    cond_then (is_utf8 line) (words_at r (words line)) (bad r.line 1) (Ok s) e
    (λ u e1. some_words r (words line) s e1 k)
    (λ u e1. absurd (cc))

-- the words of a line, put together
pub whole : (line : List ℕ) (ws : List (List ℕ)) → words line ≡ ws → line ≡ join_with_byte 32 ws
whole line ws e = sym (join_with_byte-slice_split 32 line) ∙ ap (join_with_byte 32) e

pub same_ok : {A : Type 0} (x y : A) → ◌≡◌ {A = Result A SnapErr} (Ok x) (Ok y) → x ≡ y
same_ok x y e = cc

word : (first other : List ℕ) → bytes_eq first other ≡ true → first ≡ other
word first other e = (bytes_eq-Decides first other).0 e

pub version_says : (r : Reading) (line first : List ℕ) (more : List (List ℕ)) (s : Reading) → words line ≡ first ∷ more → version_line r first more ≡ Ok s
    → (line ≡ codes "rdbg-snapshot 1") × (s ≡ record r { stage = stages.Version; line = after r.line })
version_says r line first more s w e1 =
    cond_then (bytes_eq first (codes "rdbg-snapshot")) _ (bad r.line 2) (Ok s) e1 (λ f e2.
    bind_then (or_bad r.line 3 (only more)) _ s e2 (λ version v e3.
    cond_then (bytes_eq version (codes "1")) _ (bad r.line 4) (Ok s) e3 (λ one e4.
    let parts = w ∙ ap (λ x. x ∷ more) (word first (codes "rdbg-snapshot") f)
    ∙ ap (λ m. codes "rdbg-snapshot" ∷ m) (only_item more version (or_bad_then r.line 3 (only more) version v) ∙ ap (λ x. x ∷ []) (word version (codes "1") one)) in
    (whole line (codes "rdbg-snapshot" ∷ codes "1" ∷ []) parts, sym (same_ok _ s e4)))
    (λ no e4. absurd (cc)))) (λ no e2. absurd (cc))

-- the one number after the first word
number_says : (line : ℕ) (more : List (List ℕ)) (n : ℕ) → number_of_line line more ≡ Ok n → (n < 2 ^ 64) × (more ≡ hex_text n ∷ [])
number_says line more n e =
    bind_then (or_bad line 3 (only more)) _ n e (λ digits d e2.
    let number = spelling_of digits n (or_bad_then line 4 (hex_of digits) n e2) in
    (number.0, only_item more digits (or_bad_then line 3 (only more) digits d) ∙ ap (λ y. y ∷ []) number.1))

pub pc_says : (r : Reading) (line first : List ℕ) (more : List (List ℕ)) (s : Reading) → words line ≡ first ∷ more → pc_line r first more ≡ Ok s
    → (n : ℕ) × (n < 2 ^ 64) × (line ≡ codes "pc " ++ hex_text n) × (s ≡ record { stage = stages.Pc; line = after r.line; snapshot = record r.snapshot { pc = n } })
pc_says r line first more s w e =
    cond_then (bytes_eq first (codes "pc")) _ (bad r.line 2) (Ok s) e (λ f e1.
    bind_then (number_of_line r.line more) _ s e1 (λ n x e2.
    let number = number_says r.line more n x in
    let parts = w ∙ ap (λ y. y ∷ more) (word first (codes "pc") f) ∙ ap (λ m. codes "pc" ∷ m) number.1 in
    (n, number.0, whole line (codes "pc" ∷ hex_text n ∷ []) parts, sym (same_ok _ s e2)))) (λ no e1. absurd (cc))

pub cfa_says : (r : Reading) (line : List ℕ) (more : List (List ℕ)) (s : Reading) → words line ≡ codes "cfa" ∷ more → cfa_line r more ≡ Ok s
    → (n : ℕ) × (n < 2 ^ 64) × (line ≡ codes "cfa " ++ hex_text n) × (s ≡ record { stage = stages.Cfa; line = after r.line; snapshot = record r.snapshot { cfa = Some n } })
cfa_says r line more s w e =
    bind_then (number_of_line r.line more) _ s e (λ n x e2.
    let number = number_says r.line more n x in
    (n, number.0, whole line (codes "cfa" ∷ hex_text n ∷ []) (w ∙ ap (λ m. codes "cfa" ∷ m) number.1), sym (same_ok _ s e2)))

-- a number that fits a register
pub fits_says : (reg : Reg) (n : ℕ) → n < 2 ^ 128 → fits reg n ≡ true → n < 2 ^ (8 * width_of reg)
fits_says reg n l e =
    let test = nat_lt (number_of reg) 16 in
    elim test as (λ b. (cond b 8 16 == 16) || nat_lt n (2 ^ 64) ≡ true → n < 2 ^ (8 * cond b 8 16)) [
      | true ↦ λ f. ltb-true n (2 ^ 64) f
      | false ↦ λ f. l
    ] e

pub fits_holds : (reg : Reg) (n : ℕ) → n < 2 ^ (8 * width_of reg) → (n < 2 ^ 128) × (fits reg n ≡ true)
fits_holds reg n l =
    let test = nat_lt (number_of reg) 16 in
    elim test as (λ b. n < 2 ^ (8 * cond b 8 16) → (n < 2 ^ 128) × ((cond b 8 16 == 16) || nat_lt n (2 ^ 64) ≡ true)) [
      | true ↦ λ h. (let wide : 2 ^ 64 ≤ 2 ^ 128 = lit≤ tt in omega arith, lt-ltb n (2 ^ 64) h)
      | false ↦ λ h. (h, refl)
    ] l

pub fitting_says : (reg : Reg) (o : Option ℕ) (n : ℕ) → fitting reg o ≡ Some n → (o ≡ Some n) × (fits reg n ≡ true)
fitting_says reg None n e = absurd (cc)
fitting_says reg (Some m) n e =
    cond_then (fits reg m) (Some m) None (Some n) e
    (λ f e1. let same = same_Some m n e1 in (ap Some same, subst (λ k. fits reg k ≡ true) same f))
    (λ f e1. absurd (cc))

value_says : (line : ℕ) (found : Option Reg) (digits : List ℕ) (value : Reg × ℕ) → value_in line found digits ≡ Ok value
    → (found ≡ Some value.0) × (digits ≡ hex_text value.1) × (value.1 < 2 ^ (8 * width_of value.0))
value_says line None digits value e = cond_then (is_hex_word digits) (bad line 5) (bad line 4) (Ok value) e (λ t e1. absurd (cc)) (λ t e1. absurd (cc))
value_says line (Some reg) digits value e =
    bind_then (or_bad line 4 (fitting reg (wide_hex_of digits))) _ value e (λ n x e1.
    let is : (reg, n) ≡ value = same_ok (reg, n) value e1 in
    let known = fitting_says reg (wide_hex_of digits) n (or_bad_then line 4 (fitting reg (wide_hex_of digits)) n x) in
    let number = wide_spelling_of digits n known.0 in
    let room = fits_says reg n number.0 known.1 in
    (ap (λ v. Some v.0) is, number.1 ∙ ap (λ v. hex_text v.1) is, subst (λ (v : Reg × ℕ). v.1 < 2 ^ (8 * width_of v.0)) is room))

-- what the line of a register says
pub record SaysRegister (r : Reading) (line : List ℕ) (s : Reading) : Type 0 where
  pub value : Reg × ℕ
  pub is : line ≡ line_of_register value
  pub above : is_above r.stage value.0 ≡ true
  pub room : value.1 < 2 ^ (8 * width_of value.0)
  pub next : s ≡ after_register r value.0 value.1

pub register_says : (r : Reading) (line : List ℕ) (more : List (List ℕ)) (s : Reading) → words line ≡ codes "reg" ∷ more → register_line r more ≡ Ok s → SaysRegister r line s
register_says r line more s w e =
    bind_then (or_bad r.line 3 (two more)) _ s e (λ both t e1.
    bind_then (value_of_line r.line both.0 both.1) _ s e1 (λ value v e2.
    cond_then (is_above r.stage value.0) _ (bad r.line 5) (Ok s) e2 (λ above e3.
    let known = value_says r.line (reg_of both.0) both.1 value v in
    let name = word_of both.0 value.0 known.0 in
    let parts = w ∙ ap (λ m. codes "reg" ∷ m) (two_items more both.0 both.1 (or_bad_then r.line 3 (two more) both t) ∙ ap (λ y. y ∷ both.1 ∷ []) name ∙ ap (λ y. name_of value.0 ∷ y ∷ []) known.1) in
    record {
      value = value;
      is = whole line (codes "reg" ∷ name_of value.0 ∷ hex_text value.1 ∷ []) parts;
      above = above;
      room = known.2;
      next = sym (same_ok _ s e3);
    })
    (λ no e3. absurd (cc))))

pairs_then : (line : ℕ) (d : Result (List ℕ) FromHexError) (bytes : List ℕ) → pairs line d ≡ Ok bytes → (d ≡ Ok bytes) × (0 < length bytes)
pairs_then line (Ok []) bytes e = absurd (cc)
pairs_then line (Ok (b ∷ bs)) bytes e = let same = same_ok (b ∷ bs) bytes e in (ap Ok same, omega (arith, ap length (sym same)))
pairs_then line (Err x) bytes e = absurd (cc)

-- what a line of memory says: a segment after those before it
pub record SaysMemory (r : Reading) (line : List ℕ) (s : Reading) : Type 0 where
  pub segment : Run
  pub is : IsMemoryLine line segment
  pub later : last_end r.snapshot.mem ≤ segment.at
  pub some : 0 < length segment.bytes
  pub end : end_of segment ≤ 2 ^ 64
  pub next : s ≡ record { stage = stages.Memory; line = after r.line; snapshot = record r.snapshot { mem = with_bytes r.snapshot.mem segment.at segment.bytes } }

pub memory_says : (r : Reading) (line : List ℕ) (more : List (List ℕ)) (s : Reading) → words line ≡ codes "mem" ∷ more → memory_line r more ≡ Ok s → SaysMemory r line s
memory_says r line more s w e2 =
    bind_then (or_bad r.line 3 (two more)) _ s e2 (λ both t e3.
    bind_then (or_bad r.line 4 (hex_of both.0)) _ s e3 (λ at x e4.
    bind_then (pairs r.line (decode_of both.1)) _ s e4 (λ bytes p e5.
    cond_then (nat_lt (2 ^ 64) (at + length bytes)) _ _ (Ok s) e5 (λ long e6. absurd (cc)) (λ fits e6.
    cond_then (nat_lt at (last_end r.snapshot.mem)) _ _ (Ok s) e6 (λ below e7. absurd (cc)) (λ later e7.
    let number = spelling_of both.0 at (or_bad_then r.line 4 (hex_of both.0) at x) in
    let decoded = pairs_then r.line (decode_of both.1) bytes p in
    let parts = w ∙ ap (λ m. codes "mem" ∷ m) (two_items more both.0 both.1 (or_bad_then r.line 3 (two more) both t) ∙ ap (λ y. y ∷ both.1 ∷ []) number.1) in
    record {
      segment = record { at = at; bytes = bytes };
      is = record { digits = both.1; text = whole line (codes "mem" ∷ hex_text at ∷ both.1 ∷ []) parts; bytes = decoded.0 };
      later = ltb-false at (last_end r.snapshot.mem) later;
      some = decoded.1;
      end = ltb-false (2 ^ 64) (at + length bytes) fits;
      next = sym (same_ok _ s e7);
    })))))

-- a line that may be of memory
pub last_says : (r : Reading) (line first : List ℕ) (more : List (List ℕ)) (s : Reading) → words line ≡ first ∷ more → last_line r first more ≡ Ok s → SaysMemory r line s
last_says r line first more s w e =
    cond_then (bytes_eq first (codes "mem")) (memory_line r more) (bad r.line 2) (Ok s) e
    (λ f e1. memory_says r line more s (w ∙ ap (λ y. y ∷ more) (word first (codes "mem") f)) e1)
    (λ no e1. absurd (cc))

-- a line that may be of a register or of memory
pub later_says : (r : Reading) (line first : List ℕ) (more : List (List ℕ)) (s : Reading) → words line ≡ first ∷ more → later_line r first more ≡ Ok s → SaysRegister r line s ⊎ SaysMemory r line s
later_says r line first more s w e =
    cond_then (bytes_eq first (codes "reg")) (register_line r more) (last_line r first more) (Ok s) e
    (λ f e1. inl (register_says r line more s (w ∙ ap (λ y. y ∷ more) (word first (codes "reg") f)) e1))
    (λ no e1. inr (last_says r line first more s w e1))
