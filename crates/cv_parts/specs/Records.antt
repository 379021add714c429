-- Records of CodeView: a length in two bytes, which doesn't count itself, and as many bytes, which begin with a kind.
use Rattle.std.specs.Prelude.{ℕ, ◌+◌, ◌-◌, ◌≡◌, ◌==◌, nat_lt, if◌then◌else◌, List, [], length, Option, Some, None}
use Rattle.rv_bytes.specs.Forms.{Form, Splits, follow, made, item, here}
use Rattle.rv_bytes.specs.Numbers.{bytes, number}
use Rattle.cv_parts.specs.Rules.{wrong_signature, no_kind}

-- no bytes of these: a value that begins these other bytes, whose first is at this place
abbrev pub inside : {A : Type 0} → ℕ → List ℕ → Form ℕ A → Form ℕ A
inside at other F = record {
  spells = λ n v t. (t ≡ []) × Splits (F.spells at v) (λ _ _. Unit {0}) at other;
  faults = λ n s r m. F.faults at other r m;
}

-- the rule that a content breaks: it has no room for a kind
abbrev pub content_breaks : List ℕ → Option ℕ
content_breaks c = if nat_lt (length c) 2 then Some no_kind else None

-- a length and as many bytes, which are one item at the place of the length
abbrev pub content : Form ℕ (List ℕ)
content = item (follow (number 2) bytes) content_breaks

-- a kind in two bytes, and contents by it, which are told how many bytes follow the kind
abbrev pub kind_then : {A : Type 0} → (ℕ → ℕ → Form ℕ A) → ℕ → Form ℕ A
kind_then contents size = follow (number 2) (λ kind. contents kind (size - 2))

-- a record, which f makes of its place and its contents; bytes after its last field are passed over
abbrev pub a_record : {A B : Type 0} → (ℕ → A → B) → (ℕ → ℕ → Form ℕ A) → Form ℕ B
a_record f contents = here (λ n. made (f n) (follow content (λ c. inside (n + 2) c (kind_then contents (length c)))))

-- the rule that a section's first number breaks: it isn't 4
abbrev pub signature_breaks : ℕ → Option ℕ
signature_breaks n = if n == 4 then None else Some wrong_signature

-- the number 4 with which a section begins
abbrev pub signature : Form ℕ ℕ
signature = item (number 4) signature_breaks
