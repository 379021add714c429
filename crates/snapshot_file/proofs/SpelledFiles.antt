-- What a file spells is read from it.
use Rattle.std.proofs.Common.{◌≡◌, ◌∙◌, sym, ap, subst, refl, ℕ, ◌+◌, ◌*◌, ◌<◌, ◌≤◌, ◌^◌, true, cond, List, [], ◌∷◌, ◌++◌, map, length, length-append, arith, Option, Some, None, IfSome, Result, Ok, Err, codes, nat_lt}
use Rattle.std.specs.Prelude.{flat_map}
use Rattle.std.specs.List.{AllZip}
use Rattle.std.specs.Str.{IsAscii}
use Rattle.std.proofs.lemmas.Bool.{le-ltb, lt-ltb}
use Rattle.hex.specs.Hex.{decode_of}
use Rattle.readers.specs.Lines.{Lacks, lines, words, with_end}
use Rattle.readers.specs.Hex.{hex_text, hex_of, wide_hex_of}
use Rattle.readers.proofs.Cutting.{parts_cut, words_are, line_cut}
use Rattle.readers.proofs.HexWords.{hex_some, wide_some}
use Rattle.snapshot_file.specs.declared.fault.SnapErr.{SnapErr}
use Rattle.snapshot_file.specs.declared.fault.SnapErr.TheVariants as faults
use Rattle.snapshot_file.specs.declared.registers.Reg.{Reg}
use Rattle.snapshot_file.specs.declared.snapshot.Stage.{Stage}
use Rattle.snapshot_file.specs.declared.snapshot.Stage.TheVariants as stages
use Rattle.snapshot_file.specs.declared.snapshot.Reading.{Reading}
use Rattle.snapshot_file.specs.declared.snapshot.Snapshot.{Snapshot}
use Rattle.snapshot_file.specs.Memory.{Run, end_of, Rise}
use Rattle.snapshot_file.specs.Registers.{number_of, width_of, name_of, no_registers}
use Rattle.snapshot_file.specs.Spans.{with_bytes, last_end}
use Rattle.snapshot_file.specs.Reading.{◌>>=◌, or_bad, bad, after, pairs, step, steps, words_at, line_at, number_of_line, pc_line, cfa_line, fitting, value_in, value_of_line, is_above, after_register, register_line, memory_line, segment_line, at_end, start, snapshot_of}
use Rattle.snapshot_file.specs.Snapshots.{IsMemoryLine, Spells, line_of_register, cfa_lines, lines_of as file_lines, RegistersRise, with_registers}
use Rattle.snapshot_file.proofs.Chains.{bind_ok}
use Rattle.snapshot_file.proofs.ReadFiles.{above_of, regroup}
use Rattle.snapshot_file.proofs.ReadLines.{same_ok, fits_holds}
use Rattle.snapshot_file.proofs.RegisterLists.{named}
use Rattle.snapshot_file.proofs.Steps.{steps_more}
use Rattle.snapshot_file.proofs.Segments.{put_all, end_with_bytes, only_memory}
use Rattle.snapshot_file.proofs.Plain.{ArePlain, plain_ascii, plain_lacks_space, plain_lacks_lf, plain_hex, plain_wide, plain_name, plain_decoded, utf8_of, ascii_more, lf_more, plain_by_test}

-- a line that is text, by its words
line_steps : (r s : Reading) (line first : List ℕ) (more : List (List ℕ)) → IsAscii line → words line ≡ first ∷ more → line_at r.stage r first more ≡ Ok s → step r line ≡ Ok s
unfolding step
line_steps r s line first more a w e =
    ap (λ b. cond b (words_at r (words line)) (bad r.line 1)) (utf8_of line a) ∙ ap (words_at r) w ∙ e

pairs_ok : (line : ℕ) (digits bytes : List ℕ) → decode_of digits ≡ Ok bytes → 0 < length bytes → pairs line (decode_of digits) ≡ Ok bytes
pairs_ok line digits [] e l = absurd (omega arith)
pairs_ok line digits (b ∷ bytes) e l = ap (pairs line) e

mem_plain : ArePlain (codes "mem")
mem_plain = plain_by_test (codes "mem") refl

pc_plain : ArePlain (codes "pc")
pc_plain = plain_by_test (codes "pc") refl

cfa_plain : ArePlain (codes "cfa")
cfa_plain = plain_by_test (codes "cfa") refl

reg_plain : ArePlain (codes "reg")
reg_plain = plain_by_test (codes "reg") refl

name_plain : ArePlain (codes "rdbg-snapshot")
name_plain = plain_by_test (codes "rdbg-snapshot") refl

one_plain : ArePlain (codes "1")
one_plain = plain_by_test (codes "1") refl

pub low_address : (g : Run) → 0 < length g.bytes → end_of g ≤ 2 ^ 64 → g.at < 2 ^ 64
low_address g some end = omega arith

-- a line of memory has three plain words
pub memory_words : (line : List ℕ) (g : Run) (m : IsMemoryLine line g) → g.at < 2 ^ 64 → words line ≡ codes "mem" ∷ hex_text g.at ∷ m.digits ∷ []
memory_words line g m l =
    let rest = hex_text g.at ++ 32 ∷ m.digits in
    parts_cut 32 line (codes "mem") rest (record { text = m.text; first = plain_lacks_space (codes "mem") mem_plain })
    ∙ ap (λ ws. codes "mem" ∷ ws) (words_are rest (hex_text g.at) m.digits refl (plain_lacks_space (hex_text g.at) (plain_hex g.at l)) (plain_lacks_space m.digits (plain_decoded m.digits g.bytes m.bytes)))

memory_ascii : (line : List ℕ) (g : Run) → IsMemoryLine line g → g.at < 2 ^ 64 → IsAscii line
memory_ascii line g m l =
    let rest = ascii_more (hex_text g.at) m.digits (plain_ascii (hex_text g.at) (plain_hex g.at l)) (plain_ascii m.digits (plain_decoded m.digits g.bytes m.bytes)) in
    subst IsAscii (sym m.text) (ascii_more (codes "mem") (hex_text g.at ++ 32 ∷ m.digits) (plain_ascii (codes "mem") mem_plain) rest)

memory_lacks_lf : (line : List ℕ) (g : Run) → IsMemoryLine line g → g.at < 2 ^ 64 → Lacks 10 line
memory_lacks_lf line g m l =
    let rest = lf_more (hex_text g.at) m.digits (plain_lacks_lf (hex_text g.at) (plain_hex g.at l)) (plain_lacks_lf m.digits (plain_decoded m.digits g.bytes m.bytes)) in
    subst (Lacks 10) (sym m.text) (lf_more (codes "mem") (hex_text g.at ++ 32 ∷ m.digits) (plain_lacks_lf (codes "mem") mem_plain) rest)

-- the reading after a segment
abbrev behind : Reading → Run → Reading
behind r g = record { stage = stages.Memory; line = after r.line; snapshot = record r.snapshot { mem = with_bytes r.snapshot.mem g.at g.bytes } }

segment_ok : (r : Reading) (g : Run) → last_end r.snapshot.mem ≤ g.at → end_of g ≤ 2 ^ 64 → segment_line r g.at g.bytes ≡ Ok (behind r g)
segment_ok r g later end =
    let over : Result Reading SnapErr = Err (faults.Overlap r.line) in
    let good : Result Reading SnapErr = Ok (behind r g) in
    ap (λ b. cond b (bad r.line 7) (cond (nat_lt g.at (last_end r.snapshot.mem)) over good)) (le-ltb (2 ^ 64) (end_of g) end)
    ∙ ap (λ b. cond b over good) (le-ltb g.at (last_end r.snapshot.mem) later)

-- a line after which the file may end, and memory may stand
abbrev TakesMemory : Stage → Type 0
TakesMemory stage = ((r : Reading) (more : List (List ℕ)) → line_at stage r (codes "mem") more ≡ memory_line r more) × ((r : Reading) → at_end stage r ≡ Ok r.snapshot)

memory_steps : (r : Reading) (line : List ℕ) (g : Run) → TakesMemory r.stage → IsMemoryLine line g → last_end r.snapshot.mem ≤ g.at → 0 < length g.bytes → end_of g ≤ 2 ^ 64 → step r line ≡ Ok (behind r g)
memory_steps r line g h m later some end =
    let l = low_address g some end in
    let number = ap (or_bad r.line 4) (hex_some (hex_text g.at) g.at l refl) in
    let bytes = pairs_ok r.line m.digits g.bytes m.bytes some in
    let says : memory_line r (hex_text g.at ∷ m.digits ∷ []) ≡ Ok (behind r g) =
    bind_ok (or_bad r.line 4 (hex_of (hex_text g.at))) (λ at. pairs r.line (decode_of m.digits) >>= λ bs. segment_line r at bs) g.at (Ok (behind r g)) number
    (bind_ok (pairs r.line (decode_of m.digits)) (λ bs. segment_line r g.at bs) g.bytes (Ok (behind r g)) bytes (segment_ok r g later end)) in
    line_steps r (behind r g) line (codes "mem") (hex_text g.at ∷ m.digits ∷ []) (memory_ascii line g m l) (memory_words line g m l) (h.0 r (hex_text g.at ∷ m.digits ∷ []) ∙ says)

memories_step : (r : Reading) (ls : List (List ℕ)) (gs : List Run) → TakesMemory r.stage → AllZip IsMemoryLine ls gs → Rise 0 (last_end r.snapshot.mem) gs
    → steps r (ls ++ [] ∷ []) ≡ Ok (record r.snapshot { mem = put_all r.snapshot.mem gs })
memories_step r [] [] h z k = h.1 r
memories_step r [] (g ∷ gs) h z k = absurd z
memories_step r (l ∷ ls) [] h z k = absurd z
memories_step r (l ∷ ls) (g ∷ gs) h z k =
    let rest = ls ++ [] ∷ [] in
    let end : end_of g + 0 ≡ last_end (with_bytes r.snapshot.mem g.at g.bytes) = omega (arith, end_with_bytes r.snapshot.mem g.at g.bytes k.1) in
    steps_more r l rest (omega (arith, length-append ls ([] ∷ [])))
    ∙ bind_ok (step r l) (λ s. steps s rest) (behind r g) (Ok (record r.snapshot { mem = put_all r.snapshot.mem (g ∷ gs) })) (memory_steps r l g h z.0 k.0 k.1 k.2)
    (memories_step (behind r g) ls gs (λ q m. refl, λ q. refl) z.1 (subst (λ n. Rise 0 n gs) end k.3))

-- a line after which registers may stand
abbrev TakesRegister : Stage → Type 0
TakesRegister stage = (r : Reading) (more : List (List ℕ)) → line_at stage r (codes "reg") more ≡ register_line r more

register_words : (v : Reg × ℕ) → v.1 < 2 ^ 128 → words (line_of_register v) ≡ codes "reg" ∷ name_of v.0 ∷ hex_text v.1 ∷ []
register_words v l =
    let rest = name_of v.0 ++ 32 ∷ hex_text v.1 in
    parts_cut 32 (line_of_register v) (codes "reg") rest (record { text = refl; first = plain_lacks_space (codes "reg") reg_plain })
    ∙ ap (λ ws. codes "reg" ∷ ws) (words_are rest (name_of v.0) (hex_text v.1) refl (plain_lacks_space (name_of v.0) (plain_name v.0)) (plain_lacks_space (hex_text v.1) (plain_wide v.1 l)))

register_ascii : (v : Reg × ℕ) → v.1 < 2 ^ 128 → IsAscii (line_of_register v)
register_ascii v l =
    let rest = ascii_more (name_of v.0) (hex_text v.1) (plain_ascii (name_of v.0) (plain_name v.0)) (plain_ascii (hex_text v.1) (plain_wide v.1 l)) in
    ascii_more (codes "reg") (name_of v.0 ++ 32 ∷ hex_text v.1) (plain_ascii (codes "reg") reg_plain) rest

register_lacks_lf : (v : Reg × ℕ) → v.1 < 2 ^ 128 → Lacks 10 (line_of_register v)
register_lacks_lf v l =
    let rest = lf_more (name_of v.0) (hex_text v.1) (plain_lacks_lf (name_of v.0) (plain_name v.0)) (plain_lacks_lf (hex_text v.1) (plain_wide v.1 l)) in
    lf_more (codes "reg") (name_of v.0 ++ 32 ∷ hex_text v.1) (plain_lacks_lf (codes "reg") reg_plain) rest

value_ok : (line : ℕ) (v : Reg × ℕ) → v.1 < 2 ^ (8 * width_of v.0) → value_of_line line (name_of v.0) (hex_text v.1) ≡ Ok v
value_ok line v l =
    let room = fits_holds v.0 v.1 l in
    let number : fitting v.0 (wide_hex_of (hex_text v.1)) ≡ Some v.1 = ap (fitting v.0) (wide_some (hex_text v.1) v.1 room.0 refl) ∙ ap (λ b. cond b (Some v.1) None) room.1 in
    ap (λ found. value_in line found (hex_text v.1)) (named v.0)
    ∙ bind_ok (or_bad line 4 (fitting v.0 (wide_hex_of (hex_text v.1)))) (λ n. Ok (v.0, n)) v.1 (Ok v) (ap (or_bad line 4) number) refl

above_ok : (stage : Stage) (reg : Reg) → above_of stage ≤ number_of reg → is_above stage reg ≡ true
above_ok stages.Nothing reg l = refl
above_ok stages.Version reg l = refl
above_ok stages.Pc reg l = refl
above_ok stages.Cfa reg l = refl
above_ok (stages.Register last) reg l = lt-ltb (number_of last) (number_of reg) (omega arith)
above_ok stages.Memory reg l = refl

register_steps : (r : Reading) (v : Reg × ℕ) → TakesRegister r.stage → above_of r.stage ≤ number_of v.0 → v.1 < 2 ^ (8 * width_of v.0) → step r (line_of_register v) ≡ Ok (after_register r v.0 v.1)
register_steps r v h above l =
    let wide = (fits_holds v.0 v.1 l).0 in
    let more = name_of v.0 ∷ hex_text v.1 ∷ [] in
    let good : Result Reading SnapErr = Ok (after_register r v.0 v.1) in
    let says : register_line r more ≡ Ok (after_register r v.0 v.1) =
    bind_ok (value_of_line r.line (name_of v.0) (hex_text v.1)) (λ value. cond (is_above r.stage value.0) (Ok (after_register r value.0 value.1)) (bad r.line 5)) v (Ok (after_register r v.0 v.1)) (value_ok r.line v l)
    (ap (λ b. cond b good (bad r.line 5)) (above_ok r.stage v.0 above)) in
    line_steps r (after_register r v.0 v.1) (line_of_register v) (codes "reg") more (register_ascii v wide) (register_words v wide) (h r more ∙ says)

rest_steps : (r : Reading) (vs : List (Reg × ℕ)) (ls : List (List ℕ)) (gs : List Run) → TakesRegister r.stage → TakesMemory r.stage → RegistersRise (above_of r.stage) vs → AllZip IsMemoryLine ls gs → Rise 0 (last_end r.snapshot.mem) gs
    → steps r (map line_of_register vs ++ (ls ++ [] ∷ [])) ≡ Ok (record { pc = r.snapshot.pc; cfa = r.snapshot.cfa; regs = with_registers r.snapshot.regs vs; mem = put_all r.snapshot.mem gs })
rest_steps r [] ls gs h k q z u = memories_step r ls gs k z u
rest_steps r (v ∷ vs) ls gs h k q z u =
    let rest = map line_of_register vs ++ (ls ++ [] ∷ []) in
    let some : 0 < length rest = omega (arith, length-append (map line_of_register vs) (ls ++ [] ∷ []), length-append ls ([] ∷ [])) in
    steps_more r (line_of_register v) rest some
    ∙ bind_ok (step r (line_of_register v)) (λ s. steps s rest) (after_register r v.0 v.1) (Ok (record { pc = r.snapshot.pc; cfa = r.snapshot.cfa; regs = with_registers r.snapshot.regs (v ∷ vs); mem = put_all r.snapshot.mem gs })) (register_steps r v h q.0 q.1)
    (rest_steps (after_register r v.0 v.1) vs ls gs (λ t m. refl) (λ t m. refl, λ t. refl) q.2 z u)

-- a line of one word and a number
number_ok : (line n : ℕ) → n < 2 ^ 64 → number_of_line line (hex_text n ∷ []) ≡ Ok n
number_ok line n l = ap (or_bad line 4) (hex_some (hex_text n) n l refl)

number_words : (first : List ℕ) (n : ℕ) → ArePlain first → n < 2 ^ 64 → words (first ++ 32 ∷ hex_text n) ≡ first ∷ hex_text n ∷ []
number_words first n p l = words_are (first ++ 32 ∷ hex_text n) first (hex_text n) refl (plain_lacks_space first p) (plain_lacks_space (hex_text n) (plain_hex n l))

number_ascii : (first : List ℕ) (n : ℕ) → ArePlain first → n < 2 ^ 64 → IsAscii (first ++ 32 ∷ hex_text n)
number_ascii first n p l = ascii_more first (hex_text n) (plain_ascii first p) (plain_ascii (hex_text n) (plain_hex n l))

number_lacks_lf : (first : List ℕ) (n : ℕ) → ArePlain first → n < 2 ^ 64 → Lacks 10 (first ++ 32 ∷ hex_text n)
number_lacks_lf first n p l = lf_more first (hex_text n) (plain_lacks_lf first p) (plain_lacks_lf (hex_text n) (plain_hex n l))

abbrev pub after_version : Reading
after_version = record start { stage = stages.Version; line = after 1 }

abbrev after_pc : ℕ → Reading
after_pc n = record { stage = stages.Pc; line = after (after 1); snapshot = record { pc = n; cfa = None; regs = no_registers; mem = [] } }

pub version_steps : step start (codes "rdbg-snapshot 1") ≡ Ok after_version
version_steps =
    line_steps start after_version (codes "rdbg-snapshot 1") (codes "rdbg-snapshot") (codes "1" ∷ [])
    (ascii_more (codes "rdbg-snapshot") (codes "1") (plain_ascii (codes "rdbg-snapshot") name_plain) (plain_ascii (codes "1") one_plain))
    (words_are (codes "rdbg-snapshot 1") (codes "rdbg-snapshot") (codes "1") refl (plain_lacks_space (codes "rdbg-snapshot") name_plain) (plain_lacks_space (codes "1") one_plain))
    refl

pc_steps : (n : ℕ) → n < 2 ^ 64 → step after_version (codes "pc " ++ hex_text n) ≡ Ok (after_pc n)
pc_steps n l =
    let says : pc_line after_version (codes "pc") (hex_text n ∷ []) ≡ Ok (after_pc n) =
    bind_ok (number_of_line after_version.line (hex_text n ∷ [])) (λ m. Ok (after_pc m)) n (Ok (after_pc n)) (number_ok after_version.line n l) refl in
    line_steps after_version (after_pc n) (codes "pc " ++ hex_text n) (codes "pc") (hex_text n ∷ []) (number_ascii (codes "pc") n pc_plain l) (number_words (codes "pc") n pc_plain l) says

abbrev after_cfa : ℕ → ℕ → Reading
after_cfa n m = record { stage = stages.Cfa; line = after (after (after 1)); snapshot = record { pc = n; cfa = Some m; regs = no_registers; mem = [] } }

cfa_steps : (n m : ℕ) → m < 2 ^ 64 → step (after_pc n) (codes "cfa " ++ hex_text m) ≡ Ok (after_cfa n m)
cfa_steps n m l =
    let says : cfa_line (after_pc n) (hex_text m ∷ []) ≡ Ok (after_cfa n m) =
    bind_ok (number_of_line (after_pc n).line (hex_text m ∷ [])) (λ k. Ok (after_cfa n k)) m (Ok (after_cfa n m)) (number_ok (after_pc n).line m l) refl in
    line_steps (after_pc n) (after_cfa n m) (codes "cfa " ++ hex_text m) (codes "cfa") (hex_text m ∷ []) (number_ascii (codes "cfa") m cfa_plain l) (number_words (codes "cfa") m cfa_plain l) says

third_steps : (n : ℕ) (cfa : Option ℕ) (vs : List (Reg × ℕ)) (ls : List (List ℕ)) (gs : List Run) → IfSome cfa (λ m. m < 2 ^ 64) → RegistersRise 0 vs → AllZip IsMemoryLine ls gs → Rise 0 0 gs
    → steps (after_pc n) (cfa_lines cfa ++ (map line_of_register vs ++ (ls ++ [] ∷ []))) ≡ Ok (record { pc = n; cfa = cfa; regs = with_registers no_registers vs; mem = put_all [] gs })
third_steps n None vs ls gs l q z u = rest_steps (after_pc n) vs ls gs (λ t m. refl) (λ t m. refl, λ t. refl) q z u
third_steps n (Some m) vs ls gs l q z u =
    let rest = map line_of_register vs ++ (ls ++ [] ∷ []) in
    let some : 0 < length rest = omega (arith, length-append (map line_of_register vs) (ls ++ [] ∷ []), length-append ls ([] ∷ [])) in
    steps_more (after_pc n) (codes "cfa " ++ hex_text m) rest some
    ∙ bind_ok (step (after_pc n) (codes "cfa " ++ hex_text m)) (λ s. steps s rest) (after_cfa n m) (Ok (record { pc = n; cfa = Some m; regs = with_registers no_registers vs; mem = put_all [] gs })) (cfa_steps n m l)
    (rest_steps (after_cfa n m) vs ls gs (λ t k. refl) (λ t k. refl, λ t. refl) q z u)

abbrev LackLf : List (List ℕ) → Type 0
LackLf [] = Unit {0}
LackLf (l ∷ ls) = Lacks 10 l × LackLf ls

-- lines that are put together are cut again
cut_again : (ls : List (List ℕ)) → LackLf ls → lines (flat_map with_end ls) ≡ ls ++ [] ∷ []
cut_again [] h = refl
cut_again (l ∷ ls) h = line_cut l (flat_map with_end ls) h.0 ∙ ap (λ ps. l ∷ ps) (cut_again ls h.1)

both_lack : (xs ys : List (List ℕ)) → LackLf xs → LackLf ys → LackLf (xs ++ ys)
both_lack [] ys h k = k
both_lack (x ∷ xs) ys h k = (h.0, both_lack xs ys h.1 k)

memory_lines_lack : (from : ℕ) (ls : List (List ℕ)) (gs : List Run) → AllZip IsMemoryLine ls gs → Rise 0 from gs → LackLf ls
memory_lines_lack from [] [] z k = tt
memory_lines_lack from [] (g ∷ gs) z k = absurd z
memory_lines_lack from (l ∷ ls) [] z k = absurd z
memory_lines_lack from (l ∷ ls) (g ∷ gs) z k = (memory_lacks_lf l g z.0 (low_address g k.1 k.2), memory_lines_lack (end_of g + 0) ls gs z.1 k.3)

register_lines_lack : (from : ℕ) (vs : List (Reg × ℕ)) → RegistersRise from vs → LackLf (map line_of_register vs)
register_lines_lack from [] h = tt
register_lines_lack from (v ∷ vs) h = (register_lacks_lf v (fits_holds v.0 v.1 h.1).0, register_lines_lack (number_of v.0 + 1) vs h.2)

cfa_lines_lack : (cfa : Option ℕ) → IfSome cfa (λ m. m < 2 ^ 64) → LackLf (cfa_lines cfa)
cfa_lines_lack None h = tt
cfa_lines_lack (Some m) h = (number_lacks_lf (codes "cfa") m cfa_plain h, tt)

version_lacks_lf : Lacks 10 (codes "rdbg-snapshot 1")
version_lacks_lf = lf_more (codes "rdbg-snapshot") (codes "1") (plain_lacks_lf (codes "rdbg-snapshot") name_plain) (plain_lacks_lf (codes "1") one_plain)

-- What is spelled is read.
pub spelled_reads : (bytes : List ℕ) (s : Snapshot) → Spells bytes s → snapshot_of bytes ≡ Ok s
spelled_reads bytes s h =
    let vs = map line_of_register h.registers in
    let rest = cfa_lines s.cfa ++ (vs ++ (h.memory_lines ++ [] ∷ [])) in
    let p = codes "pc " ++ hex_text s.pc in
    let later = both_lack (cfa_lines s.cfa) (vs ++ h.memory_lines) (cfa_lines_lack s.cfa h.cfa) (both_lack vs h.memory_lines (register_lines_lack 0 h.registers h.registers_rise) (memory_lines_lack 0 h.memory_lines h.segments h.each h.segments_rise)) in
    let cut = ap lines h.text ∙ cut_again (file_lines s h.registers h.memory_lines) (version_lacks_lf, (number_lacks_lf (codes "pc") s.pc pc_plain h.pc, later))
    ∙ ap (λ x. codes "rdbg-snapshot 1" ∷ p ∷ x) (sym (regroup (cfa_lines s.cfa) vs h.memory_lines)) in
    let some : 0 < length rest = omega (arith, length-append (cfa_lines s.cfa) (vs ++ (h.memory_lines ++ [] ∷ [])), length-append vs (h.memory_lines ++ [] ∷ []), length-append h.memory_lines ([] ∷ [])) in
    let mem : put_all [] h.segments ≡ s.mem = sym (only_memory h.segments s.mem h.segments_rise h.memory) in
    let done : steps (after_pc s.pc) rest ≡ Ok s = third_steps s.pc s.cfa h.registers h.memory_lines h.segments h.cfa h.registers_rise h.each h.segments_rise
    ∙ ap (λ rs. Ok (record { pc = s.pc; cfa = s.cfa; regs = rs; mem = put_all [] h.segments })) (sym h.regs) ∙ ap (λ m. Ok (record { pc = s.pc; cfa = s.cfa; regs = s.regs; mem = m })) mem in
    let second : steps after_version (p ∷ rest) ≡ Ok s = steps_more after_version p rest some ∙ bind_ok (step after_version p) (λ t. steps t rest) (after_pc s.pc) (Ok s) (pc_steps s.pc h.pc) done in
    ap (steps start) cut ∙ bind_ok (step start (codes "rdbg-snapshot 1")) (λ t. steps t (p ∷ rest)) after_version (Ok s) version_steps second

-- A file spells at most one snapshot.
pub same_snapshot : (bytes : List ℕ) (s t : Snapshot) → Spells bytes s → Spells bytes t → s ≡ t
same_snapshot bytes s t h k = same_ok s t (sym (spelled_reads bytes s h) ∙ spelled_reads bytes t k)

-- What cannot be read spells none.
pub unread : (bytes : List ℕ) (e : SnapErr) → snapshot_of bytes ≡ Err e → (s : Snapshot) → Spells bytes s → ⊥
unread bytes e fails s h = let reads = spelled_reads bytes s h in cc
