-- What an index leads to is one thing, since the readers of offsets and texts are exact.
use Rattle.std.proofs.Common.{◌≡◌, ◌<◌, ◌≤◌, ℕ, ◌+◌, ◌*◌, List, length, drop, Option, Some, None, IfNone, Result, Ok, Err, IfOk, IfErr, inl, inr, refl, sym, subst, ◌∙◌, ◌⊎◌, arith}
use Rattle.std.proofs.lemmas.Bool.{cases_lt}
use Rattle.rv_bytes.specs.Forms.{IsDefinite}
use Rattle.rv_bytes.specs.Numbers.{number, text}
use Rattle.rv_bytes.specs.Rules.{outside}
use Rattle.rv_bytes.specs.NumberReaders.{read_number, read_text}
use Rattle.rv_bytes.specs.Places.{Place}
use Rattle.rv_bytes.specs.Readers.{Res, got, bad}
use Rattle.rv_bytes.specs.Results.{ReadsBy}
use Rattle.rv_bytes.specs.Sections.{BeginsAt, HasOneAnswer}
use Rattle.rv_bytes.specs.declared.err.DwErr.{DwErr}
use Rattle.rv_bytes.proofs.Exact.{Right, definite}
use Rattle.rv_bytes.proofs.ByteNumbers.{number_exact}
use Rattle.rv_bytes.proofs.CheckedTexts.{text_exact}
use Rattle.rv_bytes.proofs.Sections as sections
use Rattle.dwarf_lists.specs.Offsets.{HasOffset, offset_place}
use Rattle.dwarf_lists.specs.Texts.{LeadsTo, HasText, HasNoText, HasAnswer, IndexHasOneAnswer}
use Rattle.dwarf_lists.specs.Places.{HasList, IndexHasOneList}

text_definite : IsDefinite text
text_definite = definite text read_text text_exact

number_answer : HasOneAnswer outside (number 4)
number_answer = sections.one_answer outside (number 4) (definite (number 4) (read_number 4) (number_exact 4))

-- an index has at most one offset
pub one_offset : (offsets : List ℕ) (base index o p : ℕ) → HasOffset offsets base index o → HasOffset offsets base index p → o ≡ p
one_offset offsets base index o p a b =
    number_answer.one_value offsets (base + 4 * index) o p a b

-- an index with no offset leads nowhere
pub no_offset : (offsets : List ℕ) (base index : ℕ) (texts : List ℕ) → ((offset : ℕ) → ¬ HasOffset offsets base index offset) → HasNoText offsets base index texts (DwErr.Refused (offset_place base index) outside)
no_offset offsets base index texts h = inl ((λ o l. h o l.stands), (refl, refl))

-- what is read where the offset leads is the text
pub has_text : {B : Type 0} (view : B → List ℕ) (offsets : List ℕ) (base index : ℕ) (texts : List ℕ) (offset : ℕ) → HasOffset offsets base index offset → offset < length texts
    → (new : Place) (result : Result B DwErr) → ReadsBy view (read_text offset (drop offset texts)) result new → IfOk result (λ v. HasText offsets base index texts (view v))
has_text view offsets base index texts offset s i new (Ok v) h =
    let w = subst (Right text offset (drop offset texts)) h (text_exact.right offset (drop offset texts)) in
    record { offset = offset; stands = s; begins = record { inside = i; begins = record { front = w.0; back = new.rest; split = w.1.1.0; is_front = w.1.0; is_back = tt } } }
has_text view offsets base index texts offset s i new (Err d) h = tt

-- what is refused there is no text
pub has_no_text : {B : Type 0} (view : B → List ℕ) (offsets : List ℕ) (base index : ℕ) (texts : List ℕ) (offset : ℕ) → HasOffset offsets base index offset → offset < length texts
    → (new : Place) (result : Result B DwErr) → ReadsBy view (read_text offset (drop offset texts)) result new → IfErr result (HasNoText offsets base index texts)
has_no_text view offsets base index texts offset s i new (Ok v) h = tt
has_no_text view offsets base index texts offset s i new (Err (DwErr.Refused m r)) h =
    inr (offset, (record { stands = s; inside = i }, subst (Right text offset (drop offset texts)) h (text_exact.right offset (drop offset texts))))
has_no_text view offsets base index texts offset s i new (Err DwErr.Memory) h = tt

-- an index that leads nowhere is refused
nowhere : (offsets : List ℕ) (base index : ℕ) (texts : List ℕ) → ((offset : ℕ) → ¬ LeadsTo offsets base index texts offset) → HasAnswer offsets base index texts
nowhere offsets base index texts h = inr (offset_place base index, (outside, inl (h, (refl, refl))))

-- what an offset leads to is a text, or invalid as one
text_answered : (offsets : List ℕ) (base index : ℕ) (texts : List ℕ) (offset : ℕ) → HasOffset offsets base index offset → offset < length texts
    → (x : Res ℕ (List ℕ)) → Right text offset (drop offset texts) x → HasAnswer offsets base index texts
text_answered offsets base index texts offset s i (got v m k) h =
    inl (v, record { offset = offset; stands = s; begins = record { inside = i; begins = record { front = h.0; back = k; split = h.1.1.0; is_front = h.1.0; is_back = tt } } })
text_answered offsets base index texts offset s i (bad r m) h = inr (m, (r, inr (offset, (record { stands = s; inside = i }, h))))

-- an offset is inside the texts or outside
offset_answered : (offsets : List ℕ) (base index : ℕ) (texts : List ℕ) (offset : ℕ) → HasOffset offsets base index offset → (offset < length texts) ⊎ (length texts ≤ offset) → HasAnswer offsets base index texts
offset_answered offsets base index texts offset s (inl i) = text_answered offsets base index texts offset s i (read_text offset (drop offset texts)) (text_exact.right offset (drop offset texts))
offset_answered offsets base index texts offset s (inr i) = nowhere offsets base index texts (λ o l. omega (arith, i, l.inside, one_offset offsets base index o offset l.stands s))

-- the bytes at the index are an offset, or too few
bytes_answered : (offsets : List ℕ) (base index : ℕ) (texts : List ℕ) → base + 4 * index < length offsets
    → (x : Res ℕ ℕ) → Right (number 4) (base + 4 * index) (drop (base + 4 * index) offsets) x → HasAnswer offsets base index texts
bytes_answered offsets base index texts i (got v m k) h =
    offset_answered offsets base index texts v (record { inside = i; begins = record { front = h.0; back = k; split = h.1.1.0; is_front = h.1.0; is_back = tt } }) (cases_lt v (length texts))
bytes_answered offsets base index texts i (bad r m) h = nowhere offsets base index texts (λ o l. number_answer.never_both offsets (base + 4 * index) o m r l.stands (inr (i, h)))

-- the index is in its section or outside
index_answered : (offsets : List ℕ) (base index : ℕ) (texts : List ℕ) → (base + 4 * index < length offsets) ⊎ (length offsets ≤ base + 4 * index) → HasAnswer offsets base index texts
index_answered offsets base index texts (inl i) =
    bytes_answered offsets base index texts i (read_number 4 (base + 4 * index) (drop (base + 4 * index) offsets)) ((number_exact 4).right (base + 4 * index) (drop (base + 4 * index) offsets))
index_answered offsets base index texts (inr i) = nowhere offsets base index texts (λ o l. omega (arith, i, l.stands.inside))

-- an index has one text or one refusal
pub one_answer : IndexHasOneAnswer
one_answer = record {
  some_answer = λ offsets base index texts. index_answered offsets base index texts (cases_lt (base + 4 * index) (length offsets));
  one_text = λ offsets base index texts v w a b. texts_same offsets base index texts v w a b;
  one_refusal = λ offsets base index texts o r p q a b. refusals_same offsets base index texts o r p q a b;
  never_both = λ offsets base index texts v o r a b. never offsets base index texts v o r a b;
}
  where
    texts_same : (offsets : List ℕ) (base index : ℕ) (texts v w : List ℕ) → HasText offsets base index texts v → HasText offsets base index texts w → v ≡ w
    texts_same offsets base index texts v w a b =
        let same : a.offset ≡ b.offset = one_offset offsets base index a.offset b.offset a.stands b.stands in
        let one : HasOneAnswer outside text = sections.one_answer outside text text_definite in
        one.one_value texts b.offset v w (subst (λ o. BeginsAt text texts o v) same a.begins) b.begins

    refusals_same : (offsets : List ℕ) (base index : ℕ) (texts : List ℕ) (o r p q : ℕ) → HasNoText offsets base index texts (DwErr.Refused o r) → HasNoText offsets base index texts (DwErr.Refused p q) → (o ≡ p) × (r ≡ q)
    refusals_same offsets base index texts o r p q (inl h) (inl g) = (h.1.0 ∙ sym g.1.0, h.1.1 ∙ sym g.1.1)
    refusals_same offsets base index texts o r p q (inl h) (inr g) = absurd (h.0 g.0 g.1.0)
    refusals_same offsets base index texts o r p q (inr h) (inl g) = absurd (g.0 h.0 h.1.0)
    refusals_same offsets base index texts o r p q (inr h) (inr g) =
        let same : h.0 ≡ g.0 = one_offset offsets base index h.0 g.0 h.1.0.stands g.1.0.stands in
        let first : text.faults g.0 (drop g.0 texts) r o = subst (λ k. text.faults k (drop k texts) r o) same h.1.1 in
        let e = text_definite.one_fault g.0 (drop g.0 texts) r q o p first g.1.1 in (e.1, e.0)

    never : (offsets : List ℕ) (base index : ℕ) (texts v : List ℕ) (o r : ℕ) → HasText offsets base index texts v → HasNoText offsets base index texts (DwErr.Refused o r) → ⊥
    never offsets base index texts v o r a (inl h) = h.0 a.offset (record { stands = a.stands; inside = a.begins.inside })
    never offsets base index texts v o r a (inr h) =
        let same : h.0 ≡ a.offset = one_offset offsets base index h.0 a.offset h.1.0.stands a.stands in
        let first : text.faults a.offset (drop a.offset texts) r o = subst (λ k. text.faults k (drop k texts) r o) same h.1.1 in
        let s = a.begins.begins in
        text_definite.never_both a.offset v s.front s.back r o s.is_front (subst (λ z. text.faults a.offset z r o) s.split first)

-- an index leads to one list
pub one_list : IndexHasOneList
one_list section base index at other a b = omega (arith, a.counts, b.counts, one_offset section base index a.offset b.offset a.stands b.stands)

-- an offset that leads outside is that of no list
pub no_list : (section : List ℕ) (base index offset : ℕ) → HasOffset section base index offset → length section ≤ base + offset → (at : ℕ) → ¬ HasList section base index at
no_list section base index offset s g at l = absurd (omega (arith, l.counts, l.inside, g, one_offset section base index l.offset offset l.stands s))

-- an index without an offset leads to none
pub no_list_offset : {A : Type 0} (o : Option A) (section : List ℕ) (base index : ℕ) → ((offset : ℕ) → ¬ HasOffset section base index offset) → IfNone o ((at : ℕ) → ¬ HasList section base index at)
no_list_offset (Some x) section base index h = tt
no_list_offset None section base index h = λ at l. h l.offset l.stands
