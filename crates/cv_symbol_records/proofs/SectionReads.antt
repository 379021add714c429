-- A subsection as bytes of the section, and what is read of it.
use Rattle.std.proofs.Common.{◌≡◌, ◌<◌, ◌≤◌, ℕ, ◌+◌, ◌-◌, ◌==◌, min, List, [], ◌∷◌, ◌++◌, length, take, drop, None, Result, Ok, Err, refl, sym, ap, ◌∙◌, arith, length-drop}
use Rattle.std.proofs.lemmas.List.{drop-drop, drop-take, length-take-le}
use Rattle.std.proofs.lemmas.Bool.{le-leb}
use Rattle.rv_bytes.specs.Places.{Place}
use Rattle.rv_bytes.specs.Readers.{Res, got, bad, and_then, with_value, as_item}
use Rattle.rv_bytes.specs.NestedReaders.{resume}
use Rattle.rv_bytes.specs.NumberReaders.{read_bytes, read_number}
use Rattle.cv_parts.specs.RecordReaders.{read_inside}
use Rattle.cv_parts.specs.Results.{IsPlaceOf}
use Rattle.cv_parts.proofs.Contents.{number_leaves, number_fits}
use Rattle.cv_symbol_records.specs.Subsections.{Chunk, chunk_of, pad}
use Rattle.cv_symbol_records.specs.SubsectionReaders.{read_chunk, read_symbols_in, read_subsection}
use Rattle.rv_bytes.specs.Results.{Reads}
use Rattle.rv_bytes.specs.declared.err.DwErr.{DwErr}
use Rattle.cv_symbol_records.specs.Results.{chunk_in, IsSubsection, ReadsOnto, ReadsInside}
use Rattle.cv_symbol_records.specs.declared.sections.Subsection.{Subsection}
use Rattle.cv_symbol_records.specs.declared.kinds.SymRec.{SymRec}

-- a kind, a length and as many bytes
chunk_read : (at kind size : ℕ) (s k l : List ℕ) (m j : ℕ) → read_number 4 at s ≡ got kind m k → read_number 4 m k ≡ got size j l → size ≤ length l → read_chunk at s ≡ got (chunk_of kind (take size l)) (j + size) (drop size l)
chunk_read at kind size s k l m j h g b =
    ap (λ x. as_item (λ _. None) at (and_then x (λ kind n s. and_then (read_number 4 n s) (λ size n s. with_value (chunk_of kind) (read_bytes size n s))))) h
    ∙ ap (λ x. as_item (λ _. None) at (and_then x (λ size n s. with_value (chunk_of kind) (read_bytes size n s)))) g
    ∙ rw (le-leb size (length l) b) refl

-- and the section's bytes up to their end
pub subsection_is : (section : List ℕ) (at kind size : ℕ) (p q : Place) (found : Subsection) → at ≤ length section → read_number 4 at (drop at section) ≡ got kind p.at p.rest → read_number 4 p.at p.rest ≡ got size q.at q.rest → size ≤ length q.rest
    → found.kind ≡ kind → found.start ≡ at + 8 → found.bytes.now ≡ take (at + 8 + size) section → IsSubsection section at found
subsection_is section at kind size p q found a h g b ek es eb =
    let first = number_leaves 4 at (drop at section) kind p.at p.rest h in
    let second = number_leaves 4 p.at p.rest size q.at q.rest g in
    let four : 4 ≤ length p.rest = number_fits 4 p.at p.rest size q.at q.rest g in
    let rest : p.rest ≡ drop (at + 4) section = first.0 ∙ drop-drop 4 at section in
    let left : q.rest ≡ drop (at + 4 + 4) section = second.0 ∙ ap (drop 4) rest ∙ drop-drop 4 (at + 4) section in
    let eight : at + 4 + 4 ≡ at + 8 = omega arith in
    let left8 : q.rest ≡ drop (at + 8) section = left ∙ ap (λ z. drop z section) eight in
    let room : at + 8 + size ≤ length section = omega (arith, a, four, b, ap length rest, length-drop (at + 4) section, ap length left8, length-drop (at + 8) section) in
    let long : length found.bytes.now ≡ at + 8 + size = ap length eb ∙ length-take-le (at + 8 + size) section room in
    let content : take size q.rest ≡ drop found.start found.bytes.now =
    ap (take size) left8 ∙ sym (drop-take (at + 8) size section) ∙ sym (ap (λ z. drop z (take (at + 8 + size) section)) es) ∙ sym (ap (drop found.start) eb) in
    let end : q.at + size ≡ length found.bytes.now = omega (arith, first.1, second.1, long) in
    let past : drop size q.rest ≡ drop (length found.bytes.now) section = ap (drop size) left8 ∙ drop-drop size (at + 8) section ∙ ap (λ z. drop z section) (sym long) in
    record {
      starts = es;
      inside = omega (arith, es, long);
      bytes = eb ∙ ap (λ z. take z section) (sym long);
      within = omega (arith, long, room);
      reads =
          chunk_read at kind size (drop at section) p.rest q.rest p.at q.at h g b ∙ ap (λ z. got (chunk_of kind z) (q.at + size) (drop size q.rest)) content
          ∙ ap (λ z. got (chunk_of z (drop found.start found.bytes.now)) (q.at + size) (drop size q.rest)) (sym ek)
          ∙ ap (λ z. got (chunk_in found) z (drop size q.rest)) end ∙ ap (λ z. got (chunk_in found) (length found.bytes.now) z) past;
    }

-- the place after a subsection whose bytes end at `end` and have their content from `start` on, and after its pad
abbrev pub past : List ℕ → ℕ → ℕ → ℕ
past section start end = end + min (pad (end - start)) (length section - end)

-- a subsection is read where it is, and its symbols in it
pub subsection_got : (section : List ℕ) (p new : Place) (found : Subsection) (xs : List SymRec) (j : ℕ) (l : List ℕ) → IsPlaceOf section p → IsSubsection section p.at found
    → read_symbols_in (chunk_in found) found.start (drop found.start found.bytes.now) ≡ got xs j l
    → new ≡ record { at = past section found.start (length found.bytes.now); rest = drop (past section found.start (length found.bytes.now)) section } → read_subsection (length p.rest) p.at p.rest ≡ got xs new.at new.rest
subsection_got section p new found xs j l place h r e =
    let end = length found.bytes.now in
    let content = drop found.start found.bytes.now in
    let size = min (pad (end - found.start)) (length section - end) in
    let long : length content ≡ end - found.start = length-drop found.start found.bytes.now in
    let left : length p.rest - 8 - length content ≡ length section - end = omega (arith, ap length place.rest, length-drop p.at section, long, h.starts, h.inside, h.within, place.inside) in
    let sizes : min (pad (length content)) (length p.rest - 8 - length content) ≡ size = ap (λ z. min (pad z) (length p.rest - 8 - length content)) long ∙ ap (λ z. min (pad (end - found.start)) z) left in
    let whole : Res ℕ Chunk → Res ℕ (List SymRec) = λ x. and_then x (λ c n s. and_then (read_inside (p.at + 8) c.content (read_symbols_in c) n s)
    (λ symbols n s. with_value (λ _. symbols) (read_bytes (min (pad (length c.content)) (length p.rest - 8 - length c.content)) n s))) in
    let padded : Res ℕ (List SymRec) → Res ℕ (List SymRec) = λ x. and_then (resume end (drop end section) x)
    (λ symbols n s. with_value (λ _. symbols) (read_bytes (min (pad (length content)) (length p.rest - 8 - length content)) n s)) in
    let few : size ≤ length (drop end section) = omega (arith, length-drop end section) in
    ap (λ z. whole (read_chunk p.at z)) place.rest ∙ ap whole h.reads
    ∙ ap (λ z. padded (read_symbols_in (chunk_in found) z content)) (sym h.starts) ∙ ap padded r
    ∙ ap (λ z. with_value (λ _. xs) (read_bytes z end (drop end section))) sizes
    ∙ rw (le-leb size (length (drop end section)) few) (ap (λ z. got xs (end + size) z) (drop-drop size end section))
    ∙ ap (λ (q : Place). got xs q.at q.rest) (sym e)

-- or it is invalid where they are
pub subsection_bad : (section : List ℕ) (p : Place) (found : Subsection) (r m : ℕ) → IsPlaceOf section p → IsSubsection section p.at found
    → read_symbols_in (chunk_in found) found.start (drop found.start found.bytes.now) ≡ bad r m → read_subsection (length p.rest) p.at p.rest ≡ bad r m
subsection_bad section p found r m place h e =
    let end = length found.bytes.now in
    let content = drop found.start found.bytes.now in
    let whole : Res ℕ Chunk → Res ℕ (List SymRec) = λ x. and_then x (λ c n s. and_then (read_inside (p.at + 8) c.content (read_symbols_in c) n s)
    (λ symbols n s. with_value (λ _. symbols) (read_bytes (min (pad (length c.content)) (length p.rest - 8 - length c.content)) n s))) in
    let padded : Res ℕ (List SymRec) → Res ℕ (List SymRec) = λ x. and_then (resume end (drop end section) x)
    (λ symbols n s. with_value (λ _. symbols) (read_bytes (min (pad (length content)) (length p.rest - 8 - length content)) n s)) in
    ap (λ z. whole (read_chunk p.at z)) place.rest ∙ ap whole h.reads ∙ ap (λ z. padded (read_symbols_in (chunk_in found) z content)) (sym h.starts) ∙ ap padded e

-- or no subsection is there
pub subsection_none : (section : List ℕ) (p : Place) (r m : ℕ) → IsPlaceOf section p → read_chunk p.at (drop p.at section) ≡ bad r m → read_subsection (length p.rest) p.at p.rest ≡ bad r m
subsection_none section p r m place e =
    let whole : Res ℕ Chunk → Res ℕ (List SymRec) = λ x. and_then x (λ c n s. and_then (read_inside (p.at + 8) c.content (read_symbols_in c) n s)
    (λ symbols n s. with_value (λ _. symbols) (read_bytes (min (pad (length c.content)) (length p.rest - 8 - length c.content)) n s))) in
    ap (λ z. whole (read_chunk p.at z)) place.rest ∙ ap whole e

-- what was read inside other bytes
inside_back : {A : Type 0} (x : Res ℕ A) (r m : ℕ) → resume 0 [] x ≡ bad r m → x ≡ bad r m
inside_back (got v j l) r m h = absurd (cc)
inside_back (bad q j) r m h = h

-- the same in the words of the calls: symbols were added to the old ones
pub subsection_onto : (section : List ℕ) (p new : Place) (found : Subsection) (old all : List SymRec) → IsPlaceOf section p → IsSubsection section p.at found
    → with_value (λ vs. old ++ vs) (resume 0 [] (read_symbols_in (chunk_in found) found.start (drop found.start found.bytes.now))) ≡ got all 0 []
    → new ≡ record { at = past section found.start (length found.bytes.now); rest = drop (past section found.start (length found.bytes.now)) section }
    → with_value (λ vs. old ++ vs) (read_subsection (length p.rest) p.at p.rest) ≡ got all new.at new.rest
subsection_onto section p new found old all place h r e = by_cases (read_symbols_in (chunk_in found) found.start (drop found.start found.bytes.now)) refl r
  where
    by_cases : (x : Res ℕ (List SymRec)) → read_symbols_in (chunk_in found) found.start (drop found.start found.bytes.now) ≡ x → with_value (λ vs. old ++ vs) (resume 0 [] x) ≡ got all 0 []
        → with_value (λ vs. old ++ vs) (read_subsection (length p.rest) p.at p.rest) ≡ got all new.at new.rest
    by_cases (got xs j l) q w = let same : old ++ xs ≡ all = cc in ap (with_value (λ vs. old ++ vs)) (subsection_got section p new found xs j l place h q e) ∙ ap (λ z. got z new.at new.rest) same
    by_cases (bad r m) q w = absurd (cc)

pub subsection_refused : (section : List ℕ) (p : Place) (found : Subsection) (r m : ℕ) → IsPlaceOf section p → IsSubsection section p.at found
    → resume 0 [] (read_symbols_in (chunk_in found) found.start (drop found.start found.bytes.now)) ≡ bad r m → read_subsection (length p.rest) p.at p.rest ≡ bad r m
subsection_refused section p found r m place h e = subsection_bad section p found r m place h (inside_back (read_symbols_in (chunk_in found) found.start (drop found.start found.bytes.now)) r m e)

-- what a call added is what was read
pub added : {A : Type 0} (old new : List A) (x : Res ℕ (List A)) (m : ℕ) (k : List ℕ) → with_value (λ vs. old ++ vs) x ≡ got new m k → (vs : List A) × ((x ≡ got vs m k) × (old ++ vs ≡ new))
added old new (got vs j l) m k h = let a : j ≡ m = cc in let b : l ≡ k = cc in let c : old ++ vs ≡ new = cc in (vs, (rw (a, b) refl, c))
added old new (bad r j) m k h = absurd (cc)

-- a refusal is handed on to a call that adds values
pub refusal_onto : {A C : Type 0} (B : Type 0) (x : Res ℕ A) (y : Res ℕ (List C)) (e : DwErr) (p q : Place) (old new : List C) → Reads x (Err e) p → ((r m : ℕ) → x ≡ bad r m → y ≡ bad r m) → ReadsOnto {B = B} old y (Err e) new q
refusal_onto B x y (DwErr.Refused m r) p q old new h f = f r m h
refusal_onto B x y DwErr.Memory p q old new h f = tt

-- and from one
pub refusal_from : {A C : Type 0} (B : Type 0) (x : Res ℕ (List A)) (y : Res ℕ C) (e : DwErr) (p q : Place) (old new : List A) → ReadsOnto {B = B} old x (Err e) new p → ((r m : ℕ) → x ≡ bad r m → y ≡ bad r m) → Reads y (Err e) q
refusal_from B x y (DwErr.Refused m r) p q old new h f = f r m h
refusal_from B x y DwErr.Memory p q old new h f = tt

-- where the place after the values doesn't matter
pub onto_inside : {A B : Type 0} (x : Res ℕ (List A)) (r : Result B DwErr) (old new : List A) (p : Place) → ReadsOnto old x r new p → ReadsInside old x r new
onto_inside (got vs j l) (Ok v) old new p h = let same : old ++ vs ≡ new = cc in ap (λ z. got z 0 []) same
onto_inside (bad q j) (Ok v) old new p h = absurd (cc)
onto_inside x (Err (DwErr.Refused m r)) old new p h = ap (resume 0 []) h
onto_inside x (Err DwErr.Memory) old new p h = tt
