-- A record's content as a cut of the section.
use Rattle.std.proofs.Common.{◌≡◌, ◌<◌, ◌≤◌, ℕ, suc, ◌+◌, ◌-◌, List, ◌++◌, length, take, drop, Option, Some, None, refl, sym, ap, subst, ◌∙◌, arith, length-append, length-drop}
use Rattle.std.proofs.lemmas.List.{drop-drop, drop-take, drop_at, length-take-le}
use Rattle.std.proofs.lemmas.Bool.{le-leb, lt-leb}
use Rattle.rv_bytes.specs.Places.{Place}
use Rattle.rv_bytes.specs.Numbers.{number}
use Rattle.rv_bytes.specs.Readers.{Res, got, bad, Reader, and_then, with_value, unless_broken, as_item}
use Rattle.rv_bytes.specs.NestedReaders.{resume}
use Rattle.rv_bytes.specs.NumberReaders.{read_bytes, read_number}
use Rattle.rv_bytes.proofs.Exact.{Right}
use Rattle.rv_bytes.proofs.ByteNumbers.{number_exact}
use Rattle.cv_parts.specs.Records.{content_breaks, signature_breaks}
use Rattle.cv_parts.specs.RecordReaders.{read_content, read_inside, read_kind_then, read_a_record, read_signature}
use Rattle.cv_parts.specs.Results.{IsContent, IsPlaceOf}

-- a number leaves the bytes past its own
pub number_leaves : (w n : ℕ) (s : List ℕ) (v m : ℕ) (k : List ℕ) → read_number w n s ≡ got v m k → (k ≡ drop w s) × (m ≡ n + w)
number_leaves w n s v m k h =
    let r = subst (Right (number w) n s) h ((number_exact w).right n s) in
    let long : length r.0 ≡ w = r.1.0.1.1.1 in
    (sym (drop_at r.0 k w long) ∙ ap (drop w) (sym r.1.1.0), omega (arith, long, r.1.1.1))

-- so many fewer
pub number_left : (w n : ℕ) (s : List ℕ) (v m : ℕ) (k : List ℕ) → read_number w n s ≡ got v m k → length k ≡ length s - w
number_left w n s v m k h = ap length (number_leaves w n s v m k h).0 ∙ length-drop w s

-- the content is read
content_read : (at size : ℕ) (s rest : List ℕ) (j : ℕ) → read_number 2 at s ≡ got size j rest → size ≤ length rest → 2 ≤ size → read_content at s ≡ got (take size rest) (j + size) (drop size rest)
content_read at size s rest j h l b =
    let long : length (take size rest) ≡ size = length-take-le size rest l in
    ap (λ x. as_item content_breaks at (and_then x read_bytes)) h
    ∙ rw (le-leb size (length rest) l, lt-leb (suc (length (take size rest))) 2 (omega (arith, b, long))) refl

-- and the cut has it
pub content_is : (section : List ℕ) (at size : ℕ) (p cut : Place) → read_number 2 at (drop at section) ≡ got size p.at p.rest → size ≤ length p.rest → 2 ≤ size
    → cut ≡ record { at = at + 2; rest = drop (at + 2) (take (at + 2 + size) section) } → IsContent section at cut
content_is section at size p cut h l b e =
    let left = number_leaves 2 at (drop at section) size p.at p.rest h in
    let rest : p.rest ≡ drop (at + 2) section = left.0 ∙ drop-drop 2 at section in
    let c : take size p.rest ≡ cut.rest = ap (take size) rest ∙ sym (drop-take (at + 2) size section) ∙ sym (ap (λ (q : Place). q.rest) e) in
    let long : length cut.rest ≡ size = ap length (sym c) ∙ length-take-le size p.rest l in
    let starts : cut.at ≡ at + 2 = ap (λ (q : Place). q.at) e in
    let end : p.at + size ≡ cut.at + length cut.rest = omega (arith, left.1, long, starts) in
    let past : drop size p.rest ≡ drop (cut.at + length cut.rest) section =
    ap (drop size) rest ∙ drop-drop size (at + 2) section ∙ ap (λ z. drop z section) (let y : at + 2 + size ≡ cut.at + length cut.rest = omega (arith, long, starts) in y) in
    record {
      starts = starts;
      kind_fits = omega (arith, long, b);
      inside = omega (arith, long, starts, l, b, ap length rest, length-drop (at + 2) section);
      reads =
          content_read at size (drop at section) p.rest p.at h l b ∙ ap (λ z. got z (p.at + size) (drop size p.rest)) c
          ∙ ap (λ z. got cut.rest z (drop size p.rest)) end ∙ ap (λ z. got cut.rest (cut.at + length cut.rest) z) past;
    }

-- a number that is read was there whole
pub number_fits : (w n : ℕ) (s : List ℕ) (v m : ℕ) (k : List ℕ) → read_number w n s ≡ got v m k → w ≤ length s
number_fits w n s v m k h =
    let r = subst (Right (number w) n s) h ((number_exact w).right n s) in
    omega (arith, r.1.0.1.1.1, ap length r.1.1.0, length-append r.0 k)

-- a record is read where its content is, and the kind and the fields in that
pub record_got : {A B : Type 0} (g : ℕ → A → B) (f : ℕ → ℕ → Reader ℕ A) (section : List ℕ) (p cut new : Place) (v : A) (m : ℕ) (k : List ℕ) → IsPlaceOf section p → IsContent section p.at cut
    → read_kind_then f (length cut.rest) cut.at cut.rest ≡ got v m k → new ≡ record { at = cut.at + length cut.rest; rest = drop (cut.at + length cut.rest) section }
    → read_a_record g f p.at p.rest ≡ got (g p.at v) new.at new.rest
record_got {A} {B} g f section p cut new v m k place h r e =
    let end = cut.at + length cut.rest in
    let whole : Res ℕ (List ℕ) → Res ℕ B = λ x. with_value (g p.at) (and_then x (λ c j l. read_inside (p.at + 2) c (read_kind_then f (length c)) j l)) in
    let part : Res ℕ A → Res ℕ B = λ x. with_value (g p.at) (resume end (drop end section) x) in
    ap (λ z. whole (read_content p.at z)) place.rest ∙ ap whole h.reads
    ∙ ap (λ z. part (read_kind_then f (length cut.rest) z cut.rest)) (sym h.starts) ∙ ap part r
    ∙ ap (λ (q : Place). got (g p.at v) q.at q.rest) (sym e)

-- it is invalid where they are
pub record_bad : {A B : Type 0} (g : ℕ → A → B) (f : ℕ → ℕ → Reader ℕ A) (section : List ℕ) (p cut : Place) (r m : ℕ) → IsPlaceOf section p → IsContent section p.at cut
    → read_kind_then f (length cut.rest) cut.at cut.rest ≡ bad r m → read_a_record g f p.at p.rest ≡ bad r m
record_bad {A} {B} g f section p cut r m place h e =
    let end = cut.at + length cut.rest in
    let whole : Res ℕ (List ℕ) → Res ℕ B = λ x. with_value (g p.at) (and_then x (λ c j l. read_inside (p.at + 2) c (read_kind_then f (length c)) j l)) in
    let part : Res ℕ A → Res ℕ B = λ x. with_value (g p.at) (resume end (drop end section) x) in
    ap (λ z. whole (read_content p.at z)) place.rest ∙ ap whole h.reads
    ∙ ap (λ z. part (read_kind_then f (length cut.rest) z cut.rest)) (sym h.starts) ∙ ap part e

-- or where no content is
pub record_none : {A B : Type 0} (g : ℕ → A → B) (f : ℕ → ℕ → Reader ℕ A) (section : List ℕ) (p : Place) (r m : ℕ) → IsPlaceOf section p → read_content p.at (drop p.at section) ≡ bad r m → read_a_record g f p.at p.rest ≡ bad r m
record_none {A} {B} g f section p r m place e =
    let whole : Res ℕ (List ℕ) → Res ℕ B = λ x. with_value (g p.at) (and_then x (λ c j l. read_inside (p.at + 2) c (read_kind_then f (length c)) j l)) in
    ap (λ z. whole (read_content p.at z)) place.rest ∙ ap whole e

-- a signature that is read is a number
pub signature_number : (n : ℕ) (s : List ℕ) (v m : ℕ) (k : List ℕ) → read_signature n s ≡ got v m k → read_number 4 n s ≡ got v m k
signature_number n s v m k h = by_cases (read_number 4 n s) h
  where
    decided : (w j : ℕ) (l : List ℕ) (o : Option ℕ) → ◌≡◌ {A = Res ℕ ℕ} (unless_broken o n (got w j l)) (got v m k) → ◌≡◌ {A = Res ℕ ℕ} (got w j l) (got v m k)
    decided w j l None h = h
    decided w j l (Some r) h = absurd (cc)

    by_cases : (x : Res ℕ ℕ) → as_item signature_breaks n x ≡ got v m k → x ≡ got v m k
    by_cases (got w j l) h = decided w j l (signature_breaks w) h
    by_cases (bad r j) h = absurd (cc)

-- after a section's signature its bytes go on
pub signature_place : (section : List ℕ) (v : ℕ) (p : Place) → read_signature 0 section ≡ got v p.at p.rest → IsPlaceOf section p × (length p.rest ≡ length section - 4)
signature_place section v p h =
    let n = signature_number 0 section v p.at p.rest h in
    let w = number_leaves 4 0 section v p.at p.rest n in
    let four : p.at ≡ 4 = omega (arith, w.1) in
    (record { inside = omega (arith, four, number_fits 4 0 section v p.at p.rest n); rest = w.0 ∙ ap (λ z. drop z section) (sym four) }, number_left 4 0 section v p.at p.rest n)
