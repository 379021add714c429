-- What an exact reader answers at a place of a section, in the words of forms.
use Rattle.std.proofs.Common.{◌≡◌, ◌<◌, ◌+◌, ℕ, List, length, drop, inl, inr, ap, ◌∙◌, Result, Ok, Err, IfOk, IfErr, subst, sym, arith}
use Rattle.rv_bytes.specs.Places.{Place}
use Rattle.rv_bytes.specs.Forms.{Form, IsDefinite}
use Rattle.rv_bytes.specs.Readers.{got, Reader}
use Rattle.rv_bytes.specs.Results.{Reads}
use Rattle.rv_bytes.specs.Sections.{BeginsAt, IsFaultAt, HasOneAnswer}
use Rattle.rv_bytes.specs.declared.err.DwErr.{DwErr}
use Rattle.rv_bytes.proofs.Exact.{Right, Exact}

-- what it gives begins there
pub begins_at : {A : Type 0} (F : Form ℕ A) (read : Reader ℕ A) → Exact F read → (section : List ℕ) (at : ℕ) → at < length section → (new : Place) (result : Result A DwErr)
    → Reads (read at (drop at section)) result new → IfOk result (BeginsAt F section at)
begins_at F read e section at i new (Ok v) h =
    let w = subst (Right F at (drop at section)) h (e.right at (drop at section)) in
    record { inside = i; begins = record { front = w.0; back = new.rest; split = w.1.1.0; is_front = w.1.0; is_back = tt } }
begins_at F read e section at i new (Err d) h = tt

-- what it refuses is invalid there
pub is_fault_at : {A : Type 0} (outside_rule : ℕ) (F : Form ℕ A) (read : Reader ℕ A) → Exact F read → (section : List ℕ) (at : ℕ) → at < length section → (new : Place) (result : Result A DwErr)
    → Reads (read at (drop at section)) result new → IfErr result (IsFaultAt outside_rule F section at)
is_fault_at outside_rule F read e section at i new (Ok v) h = tt
is_fault_at outside_rule F read e section at i new (Err (DwErr.Refused m r)) h = inr (i, subst (Right F at (drop at section)) h (e.right at (drop at section)))
is_fault_at outside_rule F read e section at i new (Err DwErr.Memory) h = tt

-- a value that begins at a place is what an exact reader gives there
pub begins_got : {A : Type 0} (F : Form ℕ A) (read : Reader ℕ A) → Exact F read → (section : List ℕ) (at : ℕ) (v : A) → (b : BeginsAt F section at v)
    → read at (drop at section) ≡ got v (at + length b.begins.front) b.begins.back
begins_got F read e section at v b = ap (read at) b.begins.split ∙ e.reads at v b.begins.front b.begins.back b.begins.is_front

-- a definite form has one answer at a place of a section
pub one_answer : {A : Type 0} (outside_rule : ℕ) (F : Form ℕ A) → IsDefinite F → HasOneAnswer outside_rule F
one_answer {A} outside_rule F d = record {
  one_value = λ section at v w a b. (d.one_value at v w a.begins.front b.begins.front a.begins.back b.begins.back a.begins.is_front b.begins.is_front (sym a.begins.split ∙ b.begins.split)).0;
  one_refusal = λ section at o r p q h g. refusals section at o r p q h g;
  never_both = λ section at v o r a h. never section at v o r a h;
}
  where
    refusals : (section : List ℕ) (at o r p q : ℕ) → IsFaultAt outside_rule F section at (DwErr.Refused o r) → IsFaultAt outside_rule F section at (DwErr.Refused p q) → (o ≡ p) × (r ≡ q)
    refusals section at o r p q (inl h) (inl g) = (h.1.0 ∙ sym g.1.0, h.1.1 ∙ sym g.1.1)
    refusals section at o r p q (inl h) (inr g) = absurd (omega (arith, h.0, g.0))
    refusals section at o r p q (inr h) (inl g) = absurd (omega (arith, h.0, g.0))
    refusals section at o r p q (inr h) (inr g) = let e = d.one_fault at (drop at section) r q o p h.1 g.1 in (e.1, e.0)

    never : (section : List ℕ) (at : ℕ) (v : A) (o r : ℕ) → BeginsAt F section at v → IsFaultAt outside_rule F section at (DwErr.Refused o r) → ⊥
    never section at v o r a (inl h) = absurd (omega (arith, h.0, a.inside))
    never section at v o r a (inr h) = d.never_both at v a.begins.front a.begins.back r o a.begins.is_front (subst (λ s. F.faults at s r o) a.begins.split h.1)
