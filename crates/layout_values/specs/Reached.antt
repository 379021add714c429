-- How many nodes a type reaches in a part, and whether some of it is missing.
use Rattle.std.specs.Prelude.{◌≡◌, ℕ, ◌+◌, ◌||◌, Bool, true, false, List, [], ◌∷◌, Option, Some, None}
use Rattle.layout_set.specs.declared.set.TypeRef.{TypeRef}
use Rattle.layout_values.specs.Contexts.{Items, Context}
use Rattle.layout_values.specs.Images.{levels}
use Rattle.layout_values.specs.Walk.{Doing, walk}

abbrev pub named_total : List (List ℕ × ℕ) → ℕ
named_total [] = 0
named_total (x ∷ xs) = x.1 + named_total xs

abbrev pub total : List ℕ → ℕ
total [] = 0
total (x ∷ xs) = x + total xs

abbrev pub content_total : Option ℕ → ℕ
content_total None = 0
content_total (Some n) = n

abbrev pub text_total : ℕ → Option (Option (List ℕ)) → ℕ
text_total len None = 0
text_total len (Some text) = len

-- one for each node, and one for each byte of bytes and of a text that is followed
abbrev pub counting : Doing ℕ
counting = record {
  node = λ n. 1 + n;
  nothing = 0;
  gone = 0;
  bad = 0;
  scalar = λ x. 0;
  fields = λ ns. named_total ns;
  variant = λ name ns. named_total ns;
  seq = λ count ns. total ns;
  pointer = λ kind at content. content_total content;
  slice = λ kind at len content. content_total content;
  text = λ kind at len content. text_total len content;
  bytes = λ count all. count;
}

abbrev pub is_missing : {A : Type 0} → Option A → Bool
is_missing None = true
is_missing (Some x) = false

abbrev pub some_of : List Bool → Bool
some_of [] = false
some_of (x ∷ xs) = x || some_of xs

abbrev pub named_some : List (List ℕ × Bool) → Bool
named_some [] = false
named_some (x ∷ xs) = x.1 || named_some xs

abbrev pub content_lacks : Option Bool → Bool
content_lacks None = false
content_lacks (Some b) = b

abbrev pub text_lacks : Option (Option (List ℕ)) → Bool
text_lacks None = false
text_lacks (Some text) = is_missing text

-- a number or bytes are missing; an invalid part lacks nothing, and its neighbours are still needed
abbrev pub lacking : Doing Bool
lacking = record {
  node = λ b. b;
  nothing = false;
  gone = true;
  bad = false;
  scalar = λ x. false;
  fields = λ bs. named_some bs;
  variant = λ name bs. named_some bs;
  seq = λ count bs. some_of bs;
  pointer = λ kind at content. content_lacks content;
  slice = λ kind at len content. content_lacks content;
  text = λ kind at len content. text_lacks content;
  bytes = λ count all. is_missing all;
}

-- how many nodes are reached, whether their bytes are there or not
abbrev pub Nodes : Context → ℕ → TypeRef → Items → ℕ
Nodes c depth ty p = walk counting c (levels depth) depth ty p

-- a needed item is missing
abbrev pub Lacks : Context → ℕ → TypeRef → Items → Type 0
Lacks c depth ty p = walk lacking c (levels depth) depth ty p ≡ true
