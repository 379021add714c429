-- A file that is read is the text of what it is read as.
use Rattle.std.proofs.Common.{◌≡◌, ◌∙◌, sym, ap, subst, refl, ℕ, ◌+◌, ◌<◌, ◌≤◌, ◌^◌, ◌==◌, ⊎_elim, true, List, [], ◌∷◌, ◌++◌, map, length, append_assoc, arith, Option, Some, None, IfSome, IfOk, Result, Ok, Err, codes}
use Rattle.std.specs.Prelude.{flat_map}
use Rattle.std.specs.List.{AllZip, join_with_byte}
use Rattle.std.specs.Str.{bytes_eq}
use Rattle.std.proofs.lemmas.Bool.{ltb-true}
use Rattle.std.proofs.lemmas.List.{append-nil}
use Rattle.std.proofs.lemmas.List.Splits.{join_with_byte-slice_split}
use Rattle.std.proofs.lemmas.Slice.Eq.{bytes_eq-Decides}
use Rattle.readers.specs.Lines.{lines, with_end}
use Rattle.readers.specs.Hex.{hex_text}
use Rattle.snapshot_file.specs.declared.fault.SnapErr.{SnapErr}
use Rattle.snapshot_file.specs.declared.registers.Reg.{Reg}
use Rattle.snapshot_file.specs.declared.snapshot.Stage.{Stage}
use Rattle.snapshot_file.specs.declared.snapshot.Stage.TheVariants as stages
use Rattle.snapshot_file.specs.declared.snapshot.Reading.{Reading}
use Rattle.snapshot_file.specs.declared.snapshot.Snapshot.{Snapshot}
use Rattle.snapshot_file.specs.Memory.{Run, end_of, Rise}
use Rattle.snapshot_file.specs.Registers.{number_of, no_registers}
use Rattle.snapshot_file.specs.Spans.{last_end}
use Rattle.snapshot_file.specs.Reading.{◌>>=◌, bad, after, step, steps, line_at, later_line, cfa_line, is_above, finish, at_end, start, snapshot_of, Gives}
use Rattle.snapshot_file.specs.Snapshots.{IsMemoryLine, IsMemoryOf, Spells, line_of_register, cfa_lines, lines_of, RegistersRise, with_registers}
use Rattle.snapshot_file.proofs.Chains.{bind_then, cond_then}
use Rattle.snapshot_file.proofs.Segments.{put_all, end_with_bytes, memory_of}
use Rattle.snapshot_file.proofs.ReadLines.{SaysMemory, SaysRegister, line_words, version_says, pc_says, cfa_says, last_says, later_says, same_ok}

nil_of : (xs : List ℕ) → (length xs == 0) ≡ true → xs ≡ []
nil_of [] e = refl
nil_of (x ∷ xs) e = absurd (grind arith)

-- the number that the next register has at least
abbrev pub above_of : Stage → ℕ
above_of (stages.Register last) = number_of last + 1
above_of _ = 0

-- what the lines of registers and of memory say, from a reading on
pub record Rest (r : Reading) (pieces : List (List ℕ)) (s : Snapshot) : Type 0 where
  pub registers : List (Reg × ℕ)
  pub memory_lines : List (List ℕ)
  pub segments : List Run
  pub pieces_are : pieces ≡ map line_of_register registers ++ (memory_lines ++ [] ∷ [])
  pub registers_rise : RegistersRise (above_of r.stage) registers
  pub each : AllZip IsMemoryLine memory_lines segments
  pub segments_rise : Rise 0 (last_end r.snapshot.mem) segments
  pub snapshot : s ≡ record { pc = r.snapshot.pc; cfa = r.snapshot.cfa; regs = with_registers r.snapshot.regs registers; mem = put_all r.snapshot.mem segments }

-- the same of memory alone
pub record Memories (r : Reading) (pieces : List (List ℕ)) (s : Snapshot) : Type 0 where
  pub memory_lines : List (List ℕ)
  pub segments : List Run
  pub pieces_are : pieces ≡ memory_lines ++ [] ∷ []
  pub each : AllZip IsMemoryLine memory_lines segments
  pub segments_rise : Rise 0 (last_end r.snapshot.mem) segments
  pub snapshot : s ≡ record r.snapshot { mem = put_all r.snapshot.mem segments }

-- the file may end after the line
abbrev Ends : Reading → Type 0
Ends r = at_end r.stage r ≡ Ok r.snapshot

last_piece : (r : Reading) (rest : List ℕ) (s : Snapshot) → Ends r → finish r rest ≡ Ok s → (rest ≡ []) × (s ≡ r.snapshot)
last_piece r rest s h e =
    cond_then (length rest == 0) (at_end r.stage r) (bad r.line 1) (Ok s) e
    (λ empty e1. (nil_of rest empty, same_ok s r.snapshot (sym e1 ∙ h)))
    (λ some e1. absurd (cc))

no_memories : (r : Reading) (rest : List ℕ) (s : Snapshot) → (rest ≡ []) × (s ≡ r.snapshot) → Memories r (rest ∷ []) s
no_memories r rest s h = record { memory_lines = []; segments = []; pieces_are = ap (λ x. x ∷ []) h.0; each = tt; segments_rise = tt; snapshot = h.1 }

one_memory : (r t : Reading) (line : List ℕ) (more : List (List ℕ)) (s : Snapshot) → SaysMemory r line t → Memories t more s → Memories r (line ∷ more) s
one_memory r t line more s first rest =
    let g = first.segment in
    let mem = ap (λ (q : Reading). q.snapshot.mem) first.next in
    let end : last_end t.snapshot.mem ≡ end_of g + 0 = ap last_end mem ∙ end_with_bytes r.snapshot.mem g.at g.bytes first.some ∙ omega arith in
    record {
      memory_lines = line ∷ rest.memory_lines;
      segments = g ∷ rest.segments;
      pieces_are = ap (λ x. line ∷ x) rest.pieces_are;
      each = (first.is, rest.each);
      segments_rise = (first.later, first.some, first.end, subst (λ n. Rise 0 n rest.segments) end rest.segments_rise);
      snapshot = rest.snapshot ∙ ap (λ (q : Reading). record q.snapshot { mem = put_all q.snapshot.mem rest.segments }) first.next;
    }

memories_say : (r : Reading) (pieces : List (List ℕ)) (s : Snapshot) → r.stage ≡ stages.Memory → steps r pieces ≡ Ok s → Memories r pieces s
memories_say r [] s h e = absurd (cc)
memories_say r (rest ∷ []) s h e = no_memories r rest s (last_piece r rest s (ap (λ st. at_end st r) h) e)
memories_say r (line ∷ next ∷ more) s h e =
    bind_then (step r line) (λ t. steps t (next ∷ more)) s e (λ t e1 e2.
    line_words r line t e1 (λ first ws w e3.
    let says = last_says r line first ws t w (ap (λ st. line_at st r first ws) (sym h) ∙ e3) in
    one_memory r t line (next ∷ more) s says (memories_say t (next ∷ more) s (ap (λ (q : Reading). q.stage) says.next) e2)))

-- memory alone is a rest without registers
no_registers_first : (r : Reading) (pieces : List (List ℕ)) (s : Snapshot) → Memories r pieces s → Rest r pieces s
no_registers_first r pieces s m = record {
  registers = [];
  memory_lines = m.memory_lines;
  segments = m.segments;
  pieces_are = m.pieces_are;
  registers_rise = tt;
  each = m.each;
  segments_rise = m.segments_rise;
  snapshot = m.snapshot;
}

above_says : (stage : Stage) (reg : Reg) → is_above stage reg ≡ true → above_of stage ≤ number_of reg
above_says stages.Nothing reg e = omega arith
above_says stages.Version reg e = omega arith
above_says stages.Pc reg e = omega arith
above_says stages.Cfa reg e = omega arith
above_says (stages.Register last) reg e = omega (arith, ltb-true (number_of last) (number_of reg) e)
above_says stages.Memory reg e = omega arith

one_register : (r t : Reading) (line : List ℕ) (more : List (List ℕ)) (s : Snapshot) → SaysRegister r line t → Rest t more s → Rest r (line ∷ more) s
one_register r t line more s first rest =
    let v = first.value in
    let stage : above_of t.stage ≡ number_of v.0 + 1 = ap (λ (q : Reading). above_of q.stage) first.next in
    let mem : last_end t.snapshot.mem ≡ last_end r.snapshot.mem = ap (λ (q : Reading). last_end q.snapshot.mem) first.next in
    record {
      registers = v ∷ rest.registers;
      memory_lines = rest.memory_lines;
      segments = rest.segments;
      pieces_are = ap (λ x. line ∷ x) rest.pieces_are ∙ ap (λ x. x ∷ map line_of_register rest.registers ++ (rest.memory_lines ++ [] ∷ [])) first.is;
      registers_rise = (above_says r.stage v.0 first.above, first.room, subst (λ n. RegistersRise n rest.registers) stage rest.registers_rise);
      each = rest.each;
      segments_rise = subst (λ n. Rise 0 n rest.segments) mem rest.segments_rise;
      snapshot = rest.snapshot ∙ ap (λ (q : Reading). record { pc = q.snapshot.pc; cfa = q.snapshot.cfa; regs = with_registers q.snapshot.regs rest.registers; mem = put_all q.snapshot.mem rest.segments }) first.next;
    }

-- a line after which registers may stand
abbrev TakesRegisters : Reading → Type 0
TakesRegisters r = (first : List ℕ) (more : List (List ℕ)) → line_at r.stage r first more ≡ later_line r first more

takes_registers : (r : Reading) (stage : Stage) → r.stage ≡ stage → ((first : List ℕ) (more : List (List ℕ)) → line_at stage r first more ≡ later_line r first more) → TakesRegisters r
takes_registers r stage h k first more = ap (λ st. line_at st r first more) h ∙ k first more

rest_says : (r : Reading) (pieces : List (List ℕ)) (s : Snapshot) → TakesRegisters r → Ends r → steps r pieces ≡ Ok s → Rest r pieces s
rest_says r [] s h k e = absurd (cc)
rest_says r (rest ∷ []) s h k e = no_registers_first r (rest ∷ []) s (no_memories r rest s (last_piece r rest s k e))
rest_says r (line ∷ next ∷ more) s h k e =
    bind_then (step r line) (λ t. steps t (next ∷ more)) s e (λ t e1 e2.
    line_words r line t e1 (λ first ws w e3.
    ⊎_elim
    (λ (says : SaysRegister r line t).
    let stage : t.stage ≡ stages.Register says.value.0 = ap (λ (q : Reading). q.stage) says.next in
    one_register r t line (next ∷ more) s says (rest_says t (next ∷ more) s (takes_registers t (stages.Register says.value.0) stage (λ f m. refl)) (ap (λ st. at_end st t) stage) e2))
    (λ (says : SaysMemory r line t).
    let stage : t.stage ≡ stages.Memory = ap (λ (q : Reading). q.stage) says.next in
    no_registers_first r (line ∷ next ∷ more) s (one_memory r t line (next ∷ more) s says (memories_say t (next ∷ more) s stage e2)))
    (later_says r line first ws t w (sym (h first ws) ∙ e3))))

-- what stands after the line of `pc`
pub record Third (r : Reading) (pieces : List (List ℕ)) (s : Snapshot) : Type 0 where
  pub cfa : Option ℕ
  pub cfa_fits : IfSome cfa (λ n. n < 2 ^ 64)
  pub registers : List (Reg × ℕ)
  pub memory_lines : List (List ℕ)
  pub segments : List Run
  pub pieces_are : pieces ≡ cfa_lines cfa ++ (map line_of_register registers ++ (memory_lines ++ [] ∷ []))
  pub registers_rise : RegistersRise 0 registers
  pub each : AllZip IsMemoryLine memory_lines segments
  pub segments_rise : Rise 0 (last_end r.snapshot.mem) segments
  pub snapshot : s ≡ record { pc = r.snapshot.pc; cfa = cfa; regs = with_registers r.snapshot.regs registers; mem = put_all r.snapshot.mem segments }

no_cfa : (r : Reading) (pieces : List (List ℕ)) (s : Snapshot) → r.stage ≡ stages.Pc → r.snapshot.cfa ≡ None → Rest r pieces s → Third r pieces s
no_cfa r pieces s h none rest = record {
  cfa = None;
  cfa_fits = tt;
  registers = rest.registers;
  memory_lines = rest.memory_lines;
  segments = rest.segments;
  pieces_are = rest.pieces_are;
  registers_rise = subst (λ st. RegistersRise (above_of st) rest.registers) h rest.registers_rise;
  each = rest.each;
  segments_rise = rest.segments_rise;
  snapshot = rest.snapshot ∙ ap (λ o. record { pc = r.snapshot.pc; cfa = o; regs = with_registers r.snapshot.regs rest.registers; mem = put_all r.snapshot.mem rest.segments }) none;
}

with_cfa : (r t : Reading) (line : List ℕ) (more : List (List ℕ)) (s : Snapshot) (n : ℕ) → n < 2 ^ 64 → line ≡ codes "cfa " ++ hex_text n
    → t ≡ record { stage = stages.Cfa; line = after r.line; snapshot = record r.snapshot { cfa = Some n } } → Rest t more s → Third r (line ∷ more) s
with_cfa r t line more s n l is next rest =
    let mem : last_end t.snapshot.mem ≡ last_end r.snapshot.mem = ap (λ (q : Reading). last_end q.snapshot.mem) next in
    record {
      cfa = Some n;
      cfa_fits = l;
      registers = rest.registers;
      memory_lines = rest.memory_lines;
      segments = rest.segments;
      pieces_are = ap (λ x. line ∷ x) rest.pieces_are ∙ ap (λ x. x ∷ map line_of_register rest.registers ++ (rest.memory_lines ++ [] ∷ [])) is;
      registers_rise = subst (λ (q : Reading). RegistersRise (above_of q.stage) rest.registers) next rest.registers_rise;
      each = rest.each;
      segments_rise = subst (λ k. Rise 0 k rest.segments) mem rest.segments_rise;
      snapshot = rest.snapshot ∙ ap (λ (q : Reading). record { pc = q.snapshot.pc; cfa = q.snapshot.cfa; regs = with_registers q.snapshot.regs rest.registers; mem = put_all q.snapshot.mem rest.segments }) next;
    }

third_says : (r : Reading) (pieces : List (List ℕ)) (s : Snapshot) → r.stage ≡ stages.Pc → r.snapshot.cfa ≡ None → steps r pieces ≡ Ok s → Third r pieces s
third_says r [] s h none e = absurd (cc)
third_says r (rest ∷ []) s h none e = no_cfa r (rest ∷ []) s h none (no_registers_first r (rest ∷ []) s (no_memories r rest s (last_piece r rest s (ap (λ st. at_end st r) h) e)))
third_says r (line ∷ next ∷ more) s h none e =
    bind_then (step r line) (λ t. steps t (next ∷ more)) s e (λ t e1 e2.
    line_words r line t e1 (λ first ws w e3.
    cond_then (bytes_eq first (codes "cfa")) (cfa_line r ws) (later_line r first ws) (Ok t) (ap (λ st. line_at st r first ws) (sym h) ∙ e3)
    (λ f e4.
    let says = cfa_says r line ws t (w ∙ ap (λ y. y ∷ ws) ((bytes_eq-Decides first (codes "cfa")).0 f)) e4 in
    let stage : t.stage ≡ stages.Cfa = ap (λ (q : Reading). q.stage) says.3 in
    with_cfa r t line (next ∷ more) s says.0 says.1 says.2 says.3 (rest_says t (next ∷ more) s (takes_registers t stages.Cfa stage (λ g m. refl)) (ap (λ st. at_end st t) stage) e2))
    (λ f e4. no_cfa r (line ∷ next ∷ more) s h none (⊎_elim
    (λ (says : SaysRegister r line t).
    let stage : t.stage ≡ stages.Register says.value.0 = ap (λ (q : Reading). q.stage) says.next in
    one_register r t line (next ∷ more) s says (rest_says t (next ∷ more) s (takes_registers t (stages.Register says.value.0) stage (λ g m. refl)) (ap (λ st. at_end st t) stage) e2))
    (λ (says : SaysMemory r line t).
    let stage : t.stage ≡ stages.Memory = ap (λ (q : Reading). q.stage) says.next in
    no_registers_first r (line ∷ next ∷ more) s (one_memory r t line (next ∷ more) s says (memories_say t (next ∷ more) s stage e2)))
    (later_says r line first ws t w e4)))))

-- lines and an empty rest, joined
joined : (ls : List (List ℕ)) → join_with_byte 10 (ls ++ [] ∷ []) ≡ flat_map with_end ls
joined [] = refl
joined (l ∷ []) = sym (append-nil (with_end l))
joined (l ∷ m ∷ ls) = ap (λ t. l ++ 10 ∷ t) (joined (m ∷ ls)) ∙ sym (append_assoc l (10 ∷ []) (flat_map with_end (m ∷ ls)))

text_of : (bytes : List ℕ) (ls : List (List ℕ)) → lines bytes ≡ ls ++ [] ∷ [] → bytes ≡ flat_map with_end ls
text_of bytes ls e = sym (join_with_byte-slice_split 10 bytes) ∙ ap (join_with_byte 10) e ∙ joined ls

-- the last, empty piece goes after all lines
pub regroup : (cs rs ms : List (List ℕ)) → cs ++ (rs ++ (ms ++ [] ∷ [])) ≡ (cs ++ (rs ++ ms)) ++ [] ∷ []
regroup cs rs ms = ap (λ t. cs ++ t) (sym (append_assoc rs ms ([] ∷ []))) ∙ sym (append_assoc cs (rs ++ ms) ([] ∷ []))

spelled : (bytes : List ℕ) (s : Snapshot) (v p : List ℕ) (more : List (List ℕ)) (t : Reading) (n : ℕ) → lines bytes ≡ v ∷ p ∷ more
    → v ≡ codes "rdbg-snapshot 1" → p ≡ codes "pc " ++ hex_text n → n < 2 ^ 64 → t.snapshot ≡ record { pc = n; cfa = None; regs = no_registers; mem = [] } → Third t more s → Spells bytes s
spelled bytes s v p more t n e version pc l before third =
    let is : s ≡ record { pc = n; cfa = third.cfa; regs = with_registers no_registers third.registers; mem = put_all [] third.segments } =
    third.snapshot ∙ ap (λ (q : Snapshot). record { pc = q.pc; cfa = third.cfa; regs = with_registers q.regs third.registers; mem = put_all q.mem third.segments }) before in
    let rising : Rise 0 0 third.segments = subst (λ (q : Snapshot). Rise 0 (last_end q.mem) third.segments) before third.segments_rise in
    let number : s.pc ≡ n = ap (λ (q : Snapshot). q.pc) is in
    let cfa : s.cfa ≡ third.cfa = ap (λ (q : Snapshot). q.cfa) is in
    let rest = third.pieces_are ∙ regroup (cfa_lines third.cfa) (map line_of_register third.registers) third.memory_lines ∙ ap (λ o. (cfa_lines o ++ (map line_of_register third.registers ++ third.memory_lines)) ++ [] ∷ []) (sym cfa) in
    let all = e ∙ ap (λ x. x ∷ p ∷ more) version ∙ ap (λ x. codes "rdbg-snapshot 1" ∷ x ∷ more) (pc ∙ ap (λ k. codes "pc " ++ hex_text k) (sym number)) ∙ ap (λ x. codes "rdbg-snapshot 1" ∷ (codes "pc " ++ hex_text s.pc) ∷ x) rest in
    record {
      registers = third.registers;
      memory_lines = third.memory_lines;
      segments = third.segments;
      text = text_of bytes (lines_of s third.registers third.memory_lines) all;
      pc = subst (λ k. k < 2 ^ 64) (sym number) l;
      cfa = subst (λ o. IfSome o (λ k. k < 2 ^ 64)) (sym cfa) third.cfa_fits;
      registers_rise = third.registers_rise;
      regs = ap (λ (q : Snapshot). q.regs) is;
      each = third.each;
      segments_rise = rising;
      memory = subst (IsMemoryOf third.segments) (sym (ap (λ (q : Snapshot). q.mem) is)) (memory_of third.segments rising);
    }

no_end : {P : Type 0} (r : Reading) (rest : List ℕ) (s : Snapshot) → r.stage ≡ stages.Version → finish r rest ≡ Ok s → P
no_end r rest s h e = cond_then (length rest == 0) (at_end r.stage r) (bad r.line 1) (Ok s) e (λ t k. let no = ap (λ st. at_end st r) (sym h) ∙ k in absurd (cc)) (λ t k. absurd (cc))

version_first : (v : List ℕ) (r : Reading) → step start v ≡ Ok r → (v ≡ codes "rdbg-snapshot 1") × (r ≡ record start { stage = stages.Version; line = after 1 })
version_first v r e = line_words start v r e (λ first more w e1. version_says start v first more r w e1)

by_pieces : (bytes : List ℕ) (s : Snapshot) (pieces : List (List ℕ)) → lines bytes ≡ pieces → steps start pieces ≡ Ok s → Spells bytes s
by_pieces bytes s [] e h = absurd (cc)
by_pieces bytes s (rest ∷ []) e h = cond_then (length rest == 0) (at_end stages.Nothing start) (bad 1 1) (Ok s) h (λ t k. absurd (cc)) (λ t k. absurd (cc))
by_pieces bytes s (v ∷ rest ∷ []) e h =
    bind_then (step start v) (λ r. finish r rest) s h (λ r a b. no_end r rest s (ap (λ (q : Reading). q.stage) (version_first v r a).1) b)
by_pieces bytes s (v ∷ p ∷ next ∷ more) e h =
    bind_then (step start v) (λ r. step r p >>= λ t. steps t (next ∷ more)) s h (λ r a b.
    bind_then (step r p) (λ t. steps t (next ∷ more)) s b (λ t c d.
    let version = version_first v r a in
    line_words r p t c (λ first ws w e1.
    let pc = pc_says r p first ws t w (ap (λ st. line_at st r first ws) (sym (ap (λ (q : Reading). q.stage) version.1)) ∙ e1) in
    let stage : t.stage ≡ stages.Pc = ap (λ (q : Reading). q.stage) pc.3 in
    let before : t.snapshot ≡ record { pc = pc.0; cfa = None; regs = no_registers; mem = [] } = ap (λ (q : Reading). q.snapshot) pc.3 ∙ ap (λ (q : Reading). record q.snapshot { pc = pc.0 }) version.1 in
    spelled bytes s v p (next ∷ more) t pc.0 e version.0 pc.2 pc.1 before (third_says t (next ∷ more) s stage (ap (λ (q : Snapshot). q.cfa) before) d))))

-- What is read is spelled.
pub read_spells : (bytes : List ℕ) (s : Snapshot) → snapshot_of bytes ≡ Ok s → Spells bytes s
read_spells bytes s e = by_pieces bytes s (lines bytes) refl e

pub spells_if_ok : (bytes : List ℕ) (r : Result Snapshot SnapErr) → Gives r (snapshot_of bytes) → IfOk r (λ s. Spells bytes s)
spells_if_ok bytes (Ok s) h = read_spells bytes s h
spells_if_ok bytes (Err e) h = tt
