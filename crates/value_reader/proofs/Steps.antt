-- One more turn of a loop that reads and counts.
use Rattle.std.proofs.Common.{◌≡◌, ℕ, suc, ◌+◌, ◌-◌, ◌<◌, List, [], ◌∷◌, map, drop, sym, ap, ◌∙◌, refl, append_assoc, arith, Result, Ok, Err}
use Rattle.std.specs.List.{range_with_len}
use Rattle.rust_value.specs.declared.value.Val.{Val}
use Rattle.rust_value.specs.declared.value.Part.{Part}
use Rattle.layout_set.specs.declared.set.Field.{Field}
use Rattle.layout_values.specs.Reached.{total, named_total}
use Rattle.value_reader.specs.declared.checked.Checked.{Checked}
use Rattle.value_reader.specs.declared.checked.Checked.TheVariants.{Valid, Invalid, Missing}
use Rattle.value_reader.specs.declared.checked.WalkErr.{WalkErr}
use Rattle.value_reader.specs.declared.checked.WalkErr.TheVariants.{TooLarge, Memory}
use Rattle.value_reader.specs.declared.walk.Walk.{Walk}
use Rattle.value_reader.specs.Reads.{named, all_checked, checked_parts}
use Rattle.value_reader.specs.Walking.{Reads}
use Rattle.value_reader.specs.Checking.{both, append_checked, push_checked, map_checked}

pub range_step : (i k : ℕ) → i < k → range_with_len i (k - i) ≡ i ∷ range_with_len (i + 1) (k - (i + 1))
range_step i k h = ap (range_with_len i) (let e : k - i ≡ suc (k - (i + 1)) = omega arith in e)

pub assoc_push : {A : Type 0} (vs : Checked (List A)) (x : Checked A) (r : Checked (List A)) →
    append_checked (push_checked vs x) r ≡ append_checked vs (both (λ y ys. y ∷ ys) x r)
assoc_push (Valid vs) (Valid x) (Valid r) = ap Valid (append_assoc vs (x ∷ []) r)
assoc_push (Valid vs) (Valid x) Invalid = refl
assoc_push (Valid vs) (Valid x) Missing = refl
assoc_push (Valid vs) Invalid (Valid r) = refl
assoc_push (Valid vs) Invalid Invalid = refl
assoc_push (Valid vs) Invalid Missing = refl
assoc_push (Valid vs) Missing r = refl
assoc_push Invalid (Valid x) (Valid r) = refl
assoc_push Invalid (Valid x) Invalid = refl
assoc_push Invalid (Valid x) Missing = refl
assoc_push Invalid Invalid (Valid r) = refl
assoc_push Invalid Invalid Invalid = refl
assoc_push Invalid Invalid Missing = refl
assoc_push Invalid Missing r = refl
assoc_push Missing x r = refl

pub read_step : {A : Type 0} (go : ℕ → Checked A) (i k : ℕ) (vs ws : Checked (List A)) (x : Checked A) (all : Checked (List A)) → i < k →
    ws ≡ push_checked vs x → x ≡ go i → append_checked vs (all_checked (map go (range_with_len i (k - i)))) ≡ all →
    append_checked ws (all_checked (map go (range_with_len (i + 1) (k - (i + 1))))) ≡ all
read_step go i k vs ws x all h e f g =
    rw (e, assoc_push vs x (all_checked (map go (range_with_len (i + 1) (k - (i + 1))))), f)
    (ap (λ l. append_checked vs (all_checked (map go l))) (sym (range_step i k h)) ∙ g)

pub count_step : (count : ℕ → ℕ) (i k l m n x all : ℕ) → i < k → m + x ≡ l → x ≡ count i →
    l + all ≡ n + total (map count (range_with_len i (k - i))) → m + all ≡ n + total (map count (range_with_len (i + 1) (k - (i + 1))))
count_step count i k l m n x all h e f g =
    let r : total (map count (range_with_len i (k - i))) ≡ count i + total (map count (range_with_len (i + 1) (k - (i + 1)))) =
    ap (λ l. total (map count l)) (range_step i k h) in
    omega arith

pub Reads_more : {A : Type 0} (s : Checked A) (n : ℕ) (old mid new : Walk) (r : Result (Checked A) WalkErr) → mid.context ≡ old.context →
    mid.left + 1 ≡ old.left → Reads s n mid new r → Reads s (1 + n) old new r
Reads_more s n old mid new (Ok x) k e h = (h.0, h.1 ∙ k, omega (arith, e, h.2))
Reads_more s n old mid new (Err TooLarge) k e h = omega (arith, e, h)
Reads_more s n old mid new (Err Memory) k e h = tt

pub field_step :
    (go : Field → List ℕ × Checked Val) (fields : List Field) (i : ℕ) (f : Field) (vs ws : Checked (List Part)) (x : Checked Val) (all : Checked (List Part)) →
    drop i fields ≡ f ∷ drop (i + 1) fields → ws ≡ push_checked vs (map_checked (named (go f).0) x) → x ≡ (go f).1 →
    append_checked vs (checked_parts (map go (drop i fields))) ≡ all → append_checked ws (checked_parts (map go (drop (i + 1) fields))) ≡ all
field_step go fields i f vs ws x all d e g h =
    rw (e, assoc_push vs (map_checked (named (go f).0) x) (checked_parts (map go (drop (i + 1) fields))), g)
    (ap (λ l. append_checked vs (checked_parts (map go l))) (sym d) ∙ h)

pub field_count : (count : Field → List ℕ × ℕ) (fields : List Field) (i : ℕ) (f : Field) (l m n x all : ℕ) → drop i fields ≡ f ∷ drop (i + 1) fields →
    m + x ≡ l → x ≡ (count f).1 → l + all ≡ n + named_total (map count (drop i fields)) → m + all ≡ n + named_total (map count (drop (i + 1) fields))
field_count count fields i f l m n x all d e g h =
    let r : named_total (map count (drop i fields)) ≡ (count f).1 + named_total (map count (drop (i + 1) fields)) = ap (λ k. named_total (map count k)) d in
    omega arith

-- too many nodes in one element are too many in all
pub Reads_stop : {A B : Type 0} (s : Checked A) (t : Checked B) (count : ℕ → ℕ) (i k n all whole : ℕ) (old mid new last : Walk) (e : WalkErr) → whole ≡ all → i < k →
    mid.left + all ≡ old.left + total (map count (range_with_len i (k - i))) → n ≡ count i → Reads t n mid new (Err e) → Reads s whole old last (Err e)
Reads_stop s t count i k n all whole old mid new last Memory w h g is f = tt
Reads_stop s t count i k n all whole old mid new last TooLarge w h g is f =
    let r : total (map count (range_with_len i (k - i))) ≡ count i + total (map count (range_with_len (i + 1) (k - (i + 1)))) =
    ap (λ l. total (map count l)) (range_step i k h) in
    omega (arith, w, f, g, is, r)
