-- Each file spells a set, or has a fault.
use Rattle.std.proofs.Common.{◌≡◌, ◌≢◌, ◌∙◌, sym, ap, refl, ℕ, ◌<◌, zero, suc, List, [], ◌∷◌, ◌++◌, length, length-append, append_assoc, append-nil}
use Rattle.std.proofs.Common.{Option, Some, None, is_some, Result, Ok, Err, inl, inr, lit<, arith}
use Rattle.std.proofs.lemmas.List.Elements.{All-nil}
use Rattle.readers.specs.Lines.{Lacks, CutAt, with_end}
use Rattle.layout_set.specs.declared.set.Set.{Set}
use Rattle.layout_lines.specs.declared.open_entry.OpenEntry.{OpenEntry}
use Rattle.layout_reader.specs.declared.layout_err.LayoutErr.{LayoutErr}
use Rattle.layout_reader.specs.declared.layout_err.LayoutErr.TheVariants.{BadLine, Memory}
use Rattle.layout_reader.specs.declared.reader.Reading.{Reading}
use Rattle.layout_lines.specs.Lines.{IsLine}
use Rattle.layout_lines.specs.Sets.{version_text, target_text, head_text}
use Rattle.layout_rules.specs.Faults.{first, second}
use Rattle.layout_reader.specs.Claims.{IsReading, HaveReading}
use Rattle.layout_reader.specs.Progress.{line_number, RefusesEnd, HasRead}
use Rattle.layout_reader.specs.Heads.{version_of, target_of}
use Rattle.layout_lines.proofs.Heads.{head_cut}
use Rattle.layout_reader.proofs.HeadLaws.{version_says, version_breaks, target_says, target_breaks}
use Rattle.layout_builder.proofs.Leading.{empty_set}
use Rattle.layout_reader.proofs.Refused.{refused_first, refused_line, refused_end, must_go_on, goes_on, all_read}
use Rattle.layout_reader.proofs.EveryLine.{FirstLine, ends, endless, first_line, refused, Step, stops, goes, step}

-- the file has a reading that is not for want of memory
abbrev HasReading : List ℕ → Type 0
HasReading bytes = (r : Result Set LayoutErr) × ((r ≢ Err Memory) × IsReading bytes r)

-- a file with a fault that is no want of memory
at_fault : (bytes : List ℕ) (e : LayoutErr) → e ≢ Memory → IsReading bytes (Err e) → HasReading bytes
at_fault bytes e some is = (Err e, (λ q. let same : e ≡ Memory = cc in some same, is))

-- the rule that the end of a file breaks where it may not end
end_rule : List ℕ → ℕ
end_rule [] = 2
end_rule (c ∷ rest) = 1

-- with that rule the end of a file is refused
end_refused : (count : ℕ) (rest : List ℕ) → RefusesEnd count rest (BadLine (line_number count) (end_rule rest))
unfolding end_rule
end_refused count [] = (refl, (λ e. refl, λ some. absurd (some refl)))
end_refused count (c ∷ rest) = (refl, (λ e. absurd (cc), λ some. refl))

-- what is left has no end of a line: the file spells the set, or ends where it may not
ended : (bytes : List ℕ) (r : Reading) (left : List ℕ) (open_entry : Option OpenEntry) → r.open_entry ≡ open_entry → HasRead bytes r left → Lacks 10 left
    → HasReading bytes
ended bytes r [] None e read lacks = (Ok r.set, (λ q. cc, all_read bytes r read e))
ended bytes r [] (Some o) e read lacks =
    at_fault bytes (BadLine (line_number r.lines) (end_rule [])) (λ q. cc)
    (refused_end bytes r [] (BadLine (line_number r.lines) (end_rule [])) read lacks (λ none. must_go_on r.set r.open_entry (ap is_some e))
    (end_refused r.lines []))
ended bytes r (c ∷ left) open_entry e read lacks =
    at_fault bytes (BadLine (line_number r.lines) (end_rule (c ∷ left))) (λ q. cc)
    (refused_end bytes r (c ∷ left) (BadLine (line_number r.lines) (end_rule (c ∷ left))) read lacks (λ none. absurd (cc)) (end_refused r.lines (c ∷ left)))

-- what follows the first line is shorter
shorter : (text line more : List ℕ) (n : ℕ) → CutAt 10 text line more → length text < suc n → length more < n
shorter text line more n cut h = omega (arith, ap length cut.text, length-append line (10 ∷ more), h)

-- one line of the file, where what follows it has a reading after whatever was read
by_step : (bytes : List ℕ) (r : Reading) (left line more : List ℕ) → HasRead bytes r left → CutAt 10 left line more
    → ((s : Reading) → HasRead bytes s more → HasReading bytes) → Step r line → HasReading bytes
by_step bytes r left line more read cut next (stops e some why) = at_fault bytes e some (refused_line bytes r left line more e read cut why)
by_step bytes r left line more read cut next (goes s g) = next s (goes_on bytes r s left line more read cut g)

-- the text that is left of the file, where each shorter one has a reading after whatever was read
by_first : (bytes : List ℕ) (r : Reading) (left : List ℕ) (n : ℕ) → length left < suc n → HasRead bytes r left
    → ((s : Reading) (more : List ℕ) → length more < n → HasRead bytes s more → HasReading bytes)
    → FirstLine left → HasReading bytes
by_first bytes r left n h read next (ends line more cut) = by_step bytes r left line more read cut (λ s. next s more (shorter left line more n cut h))
    (step r line read.0)
by_first bytes r left n h read next (endless lacks) = ended bytes r left r.open_entry refl read lacks

-- a file of which a part was read has a reading
go_on : (n : ℕ) (bytes : List ℕ) (r : Reading) (left : List ℕ) → length left < n → HasRead bytes r left → HasReading bytes
go_on zero bytes r left h read = absurd (omega (arith, h))
go_on (suc n) bytes r left h read = by_first bytes r left n h read (λ s more small. go_on n bytes s more small) (first_line left)

-- what was read with the first two lines, which tell the size of a pointer
start : ℕ → Reading
start ptr = record { set = empty_set (record { ptr = ptr }); open_entry = None; parts = 0; variables = 0; lines = 2 }

-- behind the first two lines the empty set was read
head_read : (bytes : List ℕ) (ptr : ℕ) (left : List ℕ) → ptr < 256 → bytes ≡ head_text ptr ++ left → HasRead bytes (start ptr) left
unfolding start
head_read bytes ptr left small e = (
  record {
    items = record { target = small; lines = All-nil IsLine };
    entry = tt;
    bounded = record { types = omega arith; parts = omega arith; variables = omega arith };
    parts = refl;
    variables = refl;
    lines = refl;
  },
  e ∙ ap (λ t. t ++ left) (sym (append-nil (head_text ptr)) ∙ sym (append-nil (head_text ptr ++ []))),
)

-- a line with its end, and what follows it
cut_text : (text line more : List ℕ) → CutAt 10 text line more → text ≡ with_end line ++ more
cut_text text line more cut = cut.text ∙ sym (append_assoc line (10 ∷ []) more)

-- the second line, by what it says of pointers
by_target : (bytes left line more : List ℕ) (o : Option ℕ) → bytes ≡ with_end version_text ++ left → CutAt 10 left line more → target_of line ≡ o
    → HasReading bytes
by_target bytes left line more None e cut none =
    let why = refused second 1 line (target_breaks line none) in
    at_fault bytes (BadLine (line_number 1) why.0) (λ q. cc)
    (refused_first second bytes (with_end version_text) left 1 (BadLine (line_number 1) why.0) (lit< tt) e (refl, refl) tt (inl (line, (more, (cut, why.1)))))
by_target bytes left line more (Some ptr) e cut read =
    let says = target_says line ptr read in
    let rest : left ≡ with_end (target_text ptr) ++ more = cut_text left line more cut ∙ ap (λ t. with_end t ++ more) says.0 in
    go_on (suc (length more)) bytes (start ptr) more (omega arith) (head_read bytes ptr more says.1
    (e ∙ ap (λ t. with_end version_text ++ t) rest ∙ sym (head_cut ptr more)))

-- the text behind the first line
by_second : (bytes left : List ℕ) → bytes ≡ with_end version_text ++ left → FirstLine left → HasReading bytes
by_second bytes left e (ends line more cut) = by_target bytes left line more (target_of line) e cut refl
by_second bytes left e (endless lacks) =
    at_fault bytes (BadLine (line_number 1) (end_rule left)) (λ q. cc)
    (refused_first second bytes (with_end version_text) left 1 (BadLine (line_number 1) (end_rule left)) (lit< tt) e (refl, refl) tt
    (inr (lacks, end_refused 1 left)))

-- the first line, by whether it says the version
by_version : (bytes line more : List ℕ) (o : Option (Unit {0})) → CutAt 10 bytes line more → version_of line ≡ o → HasReading bytes
by_version bytes line more None cut none =
    let why = refused first 0 line (version_breaks line none) in
    at_fault bytes (BadLine (line_number 0) why.0) (λ q. cc)
    (refused_first first bytes [] bytes 0 (BadLine (line_number 0) why.0) (lit< tt) refl (refl, refl) tt (inl (line, (more, (cut, why.1)))))
by_version bytes line more (Some u) cut read =
    by_second bytes more (cut_text bytes line more cut ∙ ap (λ t. with_end t ++ more) (version_says line read)) (first_line more)

-- a file, by its first line
by_bytes : (bytes : List ℕ) → FirstLine bytes → HasReading bytes
by_bytes bytes (ends line more cut) = by_version bytes line more (version_of line) cut refl
by_bytes bytes (endless lacks) =
    at_fault bytes (BadLine (line_number 0) (end_rule bytes)) (λ q. cc)
    (refused_first first bytes [] bytes 0 (BadLine (line_number 0) (end_rule bytes)) (lit< tt) refl (refl, refl) tt (inr (lacks, end_refused 0 bytes)))

-- each file has a reading
pub have_reading : HaveReading
have_reading bytes = by_bytes bytes (first_line bytes)
