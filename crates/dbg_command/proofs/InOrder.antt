use Rattle.std.proofs.Common.{◌≡◌, Bool, true, false, ◌∙◌, sym, ap, refl, subst, ℕ, ◌+◌, ◌<◌, ◌≤◌, length, take, drop, get_or, List, [], ◌∷◌, ◌++◌, append_assoc, arith, add-one}
use Rattle.std.specs.List.{HoldsAt, filter}
use Rattle.std.proofs.lemmas.List.{append-nil}
use Rattle.std.proofs.lemmas.Grind.{common_steps}
use Rattle.std.proofs.Math.ListN.{drop_of_length-le}
use Rattle.std.proofs.Math.Seq.{drop-cons}
use Rattle.dbg_command.specs.Lines.{AreEach}

-- with whatever texts stand for the items to come, the text so far completes those of all items
abbrev pub Completes : {A : Type 0} → (A → List ℕ → Type 0) → List ℕ → List ℕ → List A → List A → Type 0
Completes Is start out todo whole = (rest : List ℕ) → AreEach Is todo rest → (text : List ℕ) × (out ++ rest ≡ start ++ text) × AreEach Is whole text

-- the first text stands at the front of the second
abbrev pub IsFront : List ℕ → List ℕ → Type 0
IsFront start out = take (length start) out ≡ start

-- a front of a front
pub front_of : (start mid out : List ℕ) → IsFront start mid → IsFront mid out → IsFront start out
front_of start mid out a b = grind (arith, common_steps)

-- more is put behind it
pub front_put : (start mid out line : List ℕ) → IsFront start mid → out ≡ mid ++ line → IsFront start out
front_put start mid out line a b = grind (arith, common_steps)

-- the text of the next item is put
pub next : {A : Type 0} (Is : A → List ℕ → Type 0) (start out new line : List ℕ) (a : A) (todo more whole : List A)
    → todo ≡ a ∷ more → Is a line → new ≡ out ++ line
    → Completes Is start out todo whole → Completes Is start new more whole
next Is start out new line a todo more whole step is written before rest lines =
    let longer : AreEach Is (a ∷ more) (line ++ rest) = (line, rest, is, refl, lines) in
    let whole_text = before (line ++ rest) (rw step longer) in
    (whole_text.0, ap (λ t. t ++ rest) written ∙ append_assoc out line rest ∙ whole_text.1, whole_text.2)

-- no item is left
pub ends : {A : Type 0} (Is : A → List ℕ → Type 0) (start out : List ℕ) (todo whole : List A)
    → todo ≡ [] → Completes Is start out todo whole
    → (text : List ℕ) × (out ≡ start ++ text) × AreEach Is whole text
ends Is start out todo whole none before =
    let empty : AreEach Is [] [] = refl in
    let whole_text = before [] (rw none empty) in
    (whole_text.0, sym (append-nil out) ∙ whole_text.1, whole_text.2)

-- the items from a place on are that one and those behind it
pub step_at : {A : Type 0} (items : List A) (i : ℕ) (d : A) → i < length items → drop i items ≡ get_or items i d ∷ drop (i + 1) items
step_at items i d below = drop-cons items i d below ∙ ap (λ n. get_or items i d ∷ drop n items) (sym (add-one i))

-- the text of the item at a place is put
pub next_at : {A : Type 0} (Is : A → List ℕ → Type 0) (items : List A) (i : ℕ) (start out new : List ℕ)
    → i < length items
    → Completes Is start out (drop i items) items
    → (line : List ℕ) × (new ≡ out ++ line) × HoldsAt (λ a. Is a line) items i
    → Completes Is start new (drop (i + 1) items) items
next_at Is [] i start out new below before put = absurd (omega (arith, below))
next_at Is (d ∷ ds) i start out new below before put =
    let items = d ∷ ds in
    next Is start out new put.0 (get_or items i d) (drop i items) (drop (i + 1) items) items (step_at items i d below) (put.2 d) put.1 before

-- no place is left
pub ends_at : {A : Type 0} (Is : A → List ℕ → Type 0) (items : List A) (i : ℕ) (start out : List ℕ)
    → length items ≤ i
    → Completes Is start out (drop i items) items
    → (text : List ℕ) × (out ≡ start ++ text) × AreEach Is items text
ends_at Is items i start out past before = ends Is start out (drop i items) items (drop_of_length-le items past) before

-- the items from the place of an item on begin with it
step_of : {A : Type 0} (items : List A) (i : ℕ) (a : A) → i < length items → a ≡ get_or items i a → drop i items ≡ a ∷ drop (i + 1) items
step_of items i a below is = step_at items i a below ∙ ap (λ x. x ∷ drop (i + 1) items) (sym is)

-- the text of the item at a place is put
pub next_of : {A : Type 0} (Is : A → List ℕ → Type 0) (items whole : List A) (i : ℕ) (start out new line : List ℕ) (a : A)
    → i < length items → a ≡ get_or items i a → Is a line → new ≡ out ++ line
    → Completes Is start out (drop i items) whole → Completes Is start new (drop (i + 1) items) whole
next_of Is items whole i start out new line a below at is written before =
    next Is start out new line a (drop i items) (drop (i + 1) items) whole (step_of items i a below at) is written before

kept : {A : Type 0} (keep : A → Bool) (a : A) (more : List A) → keep a ≡ true → filter keep (a ∷ more) ≡ a ∷ filter keep more
kept keep a more keeps = rw keeps refl

passed : {A : Type 0} (keep : A → Bool) (a : A) (more : List A) → keep a ≡ false → filter keep (a ∷ more) ≡ filter keep more
passed keep a more drops = rw drops refl

-- the same where only some items have a text, of which this is one
pub next_kept : {A : Type 0} (Is : A → List ℕ → Type 0) (keep : A → Bool) (items whole : List A) (i : ℕ) (start out new line : List ℕ) (a : A)
    → i < length items → a ≡ get_or items i a → keep a ≡ true → Is a line → new ≡ out ++ line
    → Completes Is start out (filter keep (drop i items)) whole → Completes Is start new (filter keep (drop (i + 1) items)) whole
next_kept Is keep items whole i start out new line a below at keeps is written before =
    next Is start out new line a (filter keep (drop i items)) (filter keep (drop (i + 1) items)) whole
    (ap (filter keep) (step_of items i a below at) ∙ kept keep a (drop (i + 1) items) keeps) is written before

-- the same where the item has none
pub next_passed : {A : Type 0} (Is : A → List ℕ → Type 0) (keep : A → Bool) (items whole : List A) (i : ℕ) (start out : List ℕ) (a : A)
    → i < length items → a ≡ get_or items i a → keep a ≡ false
    → Completes Is start out (filter keep (drop i items)) whole → Completes Is start out (filter keep (drop (i + 1) items)) whole
next_passed Is keep items whole i start out a below at drops before =
    subst (λ todo. Completes Is start out todo whole) (ap (filter keep) (step_of items i a below at) ∙ passed keep a (drop (i + 1) items) drops) before

-- no place is left
pub ends_kept : {A : Type 0} (Is : A → List ℕ → Type 0) (keep : A → Bool) (items whole : List A) (i : ℕ) (start out : List ℕ)
    → length items ≤ i
    → Completes Is start out (filter keep (drop i items)) whole
    → (text : List ℕ) × (out ≡ start ++ text) × AreEach Is whole text
ends_kept Is keep items whole i start out past before = ends Is start out (filter keep (drop i items)) whole (ap (filter keep) (drop_of_length-le items past)) before
