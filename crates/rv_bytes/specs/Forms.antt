-- Forms: what bytes a value may have, and where the first error of bytes that have no value stands.
use Rattle.std.specs.Prelude.{◌≡◌, ℕ, ◌+◌, Bool, true, false, List, [], ◌∷◌, ◌++◌, length, Option, Some, None, ◌⊎◌}

-- the values are of type A; M says where a fault stands, mostly the place of the item's first byte
pub record Form (M A : Type 0) : Type 1 where
  -- at this place, the value may have these bytes
  pub spells : ℕ → A → List ℕ → Type 0
  -- where these bytes follow this place, the first invalid item breaks this rule, and stands there
  pub faults : ℕ → List ℕ → ℕ → M → Type 0

-- the bytes, from place n on, are a front and a back, which is told its own place
pub record Splits (Front : List ℕ → Type 0) (Back : ℕ → List ℕ → Type 0) (n : ℕ) (s : List ℕ) : Type 0 where
  pub front : List ℕ
  pub back : List ℕ
  pub split : s ≡ front ++ back
  pub is_front : Front front
  pub is_back : Back (n + length front) back

-- this value, in no bytes
abbrev pub nothing : {M A : Type 0} → A → Form M A
nothing a = record {
  spells = λ n v t. (v ≡ a) × (t ≡ []);
  faults = λ n s r m. ⊥;
}

-- a value, then what it asks for: the first is invalid, or it is there and what follows is invalid
abbrev pub follow : {M A B : Type 0} → Form M A → (A → Form M B) → Form M B
follow {A = A} F G = record {
  spells = λ n w t. (v : A) × Splits (F.spells n v) (λ m. (G v).spells m w) n t;
  faults = λ n s r m. F.faults n s r m ⊎ ((v : A) × Splits (F.spells n v) (λ k b. (G v).faults k b r m) n s);
}

-- the value that f makes of one
abbrev pub made : {M A B : Type 0} → (A → B) → Form M A → Form M B
made {A = A} f F = record {
  spells = λ n w t. (v : A) × ((w ≡ f v) × F.spells n v t);
  faults = F.faults;
}

-- for each of a list a value
abbrev pub each : {M X A : Type 0} → (X → Form M A) → List X → Form M (List A)
each F [] = nothing []
each F (x ∷ xs) = follow (F x) (λ a. made (λ more. a ∷ more) (each F xs))

-- what may stand at this place, which the form is told
abbrev pub here : {M A : Type 0} → (ℕ → Form M A) → Form M A
here F = record {
  spells = λ n v t. (F n).spells n v t;
  faults = λ n s r m. (F n).faults n s r m;
}

-- one item: whatever is invalid in it stands at its first byte; then, the rule that its value breaks
abbrev pub item : {A : Type 0} → Form ℕ A → (A → Option ℕ) → Form ℕ A
item {A = A} F breaks = record {
  spells = λ n v t. F.spells n v t × (breaks v ≡ None);
  faults = λ n s r m. (m ≡ n) × (((k : ℕ) × F.faults n s r k) ⊎ ((v : A) × ((breaks v ≡ Some r) × Splits (F.spells n v) (λ _ _. Unit {0}) n s)));
}

-- one of two
abbrev pub choose : {M A : Type 0} → Bool → Form M A → Form M A → Form M A
choose true F G = F
choose false F G = G

-- what breaks a rule whatever follows
abbrev pub fails : {A : Type 0} → ℕ → Form ℕ A
fails rule = record {
  spells = λ n v t. ⊥;
  faults = λ n s r m. (r ≡ rule) × (m ≡ n);
}

-- how a row of values goes on: in each state the form that is due, and the state that a value leads to, until it is over
pub record Steps (S A : Type 0) (M : Type 0) : Type 1 where
  pub over : S → Bool
  pub due : S → Form M A
  pub next : S → A → S

-- the bytes are these values, one after the other, and then the row is over
abbrev pub RowSpells : {S A M : Type 0} → Steps S A M → S → ℕ → List A → List ℕ → Type 0
RowSpells P s n [] t = (P.over s ≡ true) × (t ≡ [])
RowSpells P s n (v ∷ vs) t = (P.over s ≡ false) × Splits ((P.due s).spells n v) (λ m. RowSpells P (P.next s v) m vs) n t

-- after these values the next item is invalid
abbrev pub RowFaults : {S A M : Type 0} → Steps S A M → S → ℕ → List A → List ℕ → ℕ → M → Type 0
RowFaults P s n [] t r m = (P.over s ≡ false) × (P.due s).faults n t r m
RowFaults P s n (v ∷ vs) t r m = (P.over s ≡ false) × Splits ((P.due s).spells n v) (λ k b. RowFaults P (P.next s v) k vs b r m) n t

-- values one after the other, from this state on
abbrev pub row : {S A M : Type 0} → Steps S A M → S → Form M (List A)
row {A = A} P s = record {
  spells = λ n vs t. RowSpells P s n vs t;
  faults = λ n t r m. (vs : List A) × RowFaults P s n vs t r m;
}

-- bytes begin with at most one value, have a first error in at most one way, and never both
pub record IsDefinite {M A : Type 0} (F : Form M A) : Type 0 where
  pub one_value : (n : ℕ) (v w : A) (t u k l : List ℕ) → F.spells n v t → F.spells n w u → t ++ k ≡ u ++ l → (v ≡ w) × (k ≡ l)
  pub one_fault : (n : ℕ) (s : List ℕ) (r q : ℕ) (m k : M) → F.faults n s r m → F.faults n s q k → (r ≡ q) × (m ≡ k)
  pub never_both : (n : ℕ) (v : A) (t k : List ℕ) (r : ℕ) (m : M) → F.spells n v t → F.faults n (t ++ k) r m → ⊥
