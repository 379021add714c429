-- A text is read as the item that has it.
use Rattle.std.proofs.Common.{◌≡◌, ◌∙◌, sym, ap, subst, refl, ℕ, ◌≤◌, Bool, true, false, cond, ◌==◌, List, [], ◌∷◌, drop, Option, Some, None, codes, arith, lit≤, lit<, inl, inr}
use Rattle.std.proofs.lemmas.Bool.{eqb-true}
use Rattle.std.proofs.lemmas.Option.{same_Some, cond_some}
use Rattle.std.proofs.lemmas.Slice.Eq.{bytes_eq-Decides}
use Rattle.std.specs.Fmt.{decimal}
use Rattle.std.specs.Option.{option_map}
use Rattle.std.specs.Str.{bytes_eq}
use Rattle.readers.specs.Lines.{Lacks}
use Rattle.readers.specs.Hex.{hex_text, hex_of}
use Rattle.readers.proofs.HexWords.{hex_some, spelling_of, hex_lacks_space}
use Rattle.names.specs.declared.name.Name.{Name, out-Name}
use Rattle.names.specs.declared.name.Name.TheOpen.{Name-F}
use Rattle.names.specs.declared.name.Name.TheVariants.{Raw, outs-Path, outs-Pointer, outs-Slice, outs-Array, outs-Tuple, outs-Str, outs-Dyn, outs-Fn, outs-Number, outs-Bind, outs-Raw}
use Rattle.names.specs.declared.name.Seg.{Seg}
use Rattle.names.specs.Names.{whole, IsLayer, Stands, IsProper}
use Rattle.rust_names.specs.RustText.{rust_text}
use Rattle.rust_names.specs.RustGrammar.{rust}
use Rattle.names.proofs.Cases.{Name-cases}
use Rattle.layout_set.specs.declared.set.TypeRef.{TypeRef}
use Rattle.layout_set.specs.declared.set.TypeRef.TheVariants.{Prim, User}
use Rattle.layout_words.specs.Kinds.{primitive_of, primitive_word}
use Rattle.layout_words.specs.Spellings.{Spelling, number, number_of, the_next, next_of, address, address_of, address_text, IsAddress, reference, reference_of, reference_text, IsReference, begins_with, pointer, primitive, type_kind, selector_kind, word, name, name_of, name_text, name_layer_text, IsName, IsRawLayer, raw_of, raw_text, rust_name_of}
use Rattle.layout_words.proofs.Decimals.{number_some, number_says}
use Rattle.layout_words.proofs.Spelled.{word_some, word_says, rust_name_some, rust_name_says}
use Rattle.layout_words.proofs.RawTexts.{raw_some, raw_says}
use Rattle.layout_words.proofs.Lacking.{free_lacks, lacks_cons, decimal_lacks, word_lacks, no_space}
use Rattle.layout_words.proofs.KindWords.{type_kind_found, type_kind_says, selector_kind_found, selector_kind_says, pointer_found, pointer_says, primitive_found, primitive_says}

-- the item of a text is the one item that has the text
pub record Law {A : Type 0} (S : Spelling A) : Type 0 where
  pub says : (text : List ℕ) (a : A) → S.of text ≡ Some a → (text ≡ S.text a) × S.Is a
  pub some : (a : A) → S.Is a → S.of (S.text a) ≡ Some a

-- and the texts of items are words
pub record WordLaw {A : Type 0} (S : Spelling A) : Type 0 where
  pub law : Law S
  pub lacks : (a : A) → S.Is a → Lacks 32 (S.text a)

pub map_says : {A B : Type 0} (f : A → B) (o : Option A) (b : B) → option_map f o ≡ Some b → (a : A) × (o ≡ Some a) × (f a ≡ b)
map_says f None b e = absurd (cc)
map_says f (Some a) b e = (a, refl, same_Some (f a) b e)

pub by_test : {P : Type 0} (t : Bool) → (t ≡ true → P) → (t ≡ false → P) → P
by_test true f g = f refl
by_test false f g = g refl

pub cond_true : {A : Type 0} (t : Bool) (x y : A) → t ≡ true → cond t x y ≡ x
cond_true true x y e = refl
cond_true false x y e = absurd (cc)

pub cond_false : {A : Type 0} (t : Bool) (x y : A) → t ≡ false → cond t x y ≡ y
cond_false true x y e = absurd (cc)
cond_false false x y e = refl

-- numbers

pub number_law : (bits : ℕ) → bits ≤ 128 → WordLaw (number bits)
number_law bits h = record {
  law = record {
    says = λ text n e. let known = number_says bits text n e in (known.1, known.0);
    some = λ n l. number_some bits (decimal n) n h l refl;
  };
  lacks = λ n l. decimal_lacks 32 bits n (lit≤ tt) h l;
}

next_by : (next : ℕ) (o : Option ℕ) (u : Unit {0}) → next_of next o ≡ Some u → o ≡ Some next
next_by next None u e = absurd (cc)
next_by next (Some n) u e = ap Some (eqb-true n next (cond_some (n == next) tt u e).0)

pub eqb_same : (n : ℕ) → (n == n) ≡ true
eqb_same n = grind arith

pub next_law : (next : ℕ) → WordLaw (the_next next)
next_law next = record {
  law = record {
    says = λ text u e. let known = number_says 32 text next (next_by next (number_of 32 text) u e) in (known.1, known.0);
    some = λ u l. ap (next_of next) (number_some 32 (decimal next) next (lit≤ tt) l refl) ∙ cond_true (next == next) (Some tt) None (eqb_same next);
  };
  lacks = λ u l. decimal_lacks 32 32 next (lit≤ tt) (lit≤ tt) l;
}

-- items by their words

pub type_kind_law : WordLaw type_kind
type_kind_law = record { law = record { says = λ text k e. (type_kind_says text k e, tt); some = λ k u. (type_kind_found k).0 }; lacks = λ k u. free_lacks 32 (type_kind.text k) (type_kind_found k).1.0 }

pub selector_kind_law : WordLaw selector_kind
selector_kind_law = record { law = record { says = λ text k e. (selector_kind_says text k e, tt); some = λ k u. (selector_kind_found k).0 }; lacks = λ k u. free_lacks 32 (selector_kind.text k) (selector_kind_found k).1.0 }

pub pointer_law : WordLaw pointer
pointer_law = record { law = record { says = λ text k e. (pointer_says text k e, tt); some = λ k u. (pointer_found k).0 }; lacks = λ k u. free_lacks 32 (pointer.text k) (pointer_found k).1.0 }

pub primitive_law : WordLaw primitive
primitive_law = record { law = record { says = λ text k e. (primitive_says text k e, tt); some = λ k u. (primitive_found k).0 }; lacks = λ k u. free_lacks 32 (primitive.text k) (primitive_found k).1.0 }

-- addresses

no_hex : (a : ℕ) → bytes_eq (hex_text a) (codes "none") ≡ false
no_hex a = by_test (bytes_eq (hex_text a) (codes "none")) (λ e. let same = (bytes_eq-Decides (hex_text a) (codes "none")).0 e in absurd (cc)) (λ e. e)

address_some : (a : Option ℕ) → IsAddress a → address_of (address_text a) ≡ Some a
address_some None h = refl
address_some (Some a) h = cond_false (bytes_eq (hex_text a) (codes "none")) (Some None) (option_map (λ a. Some a) (hex_of (hex_text a))) (no_hex a) ∙ ap (option_map (λ a. Some a)) (hex_some (hex_text a) a h refl)

address_says : (text : List ℕ) (a : Option ℕ) → address_of text ≡ Some a → (text ≡ address_text a) × IsAddress a
address_says text a e = by_test (bytes_eq text (codes "none"))
    (λ t.
    let is : None ≡ a = same_Some None a (sym (cond_true (bytes_eq text (codes "none")) (Some None) _ t) ∙ e) in
    subst (λ x. (text ≡ address_text x) × IsAddress x) is ((bytes_eq-Decides text (codes "none")).0 t, tt))
    (λ t.
    let found = map_says (λ a. Some a) (hex_of text) a (sym (cond_false (bytes_eq text (codes "none")) (Some None) _ t) ∙ e) in
    let known = spelling_of text found.0 found.1 in
    subst (λ x. (text ≡ address_text x) × IsAddress x) found.2 (known.1, known.0))

address_lacks : (a : Option ℕ) → IsAddress a → Lacks 32 (address_text a)
address_lacks None h = free_lacks 32 (codes "none") refl
address_lacks (Some a) h = hex_lacks_space a h

pub address_law : WordLaw address
address_law = record { law = record { says = address_says; some = address_some }; lacks = address_lacks }

-- references

pub begun : (b : ℕ) (text : List ℕ) → begins_with b text ≡ true → text ≡ b ∷ drop 1 text
begun b [] e = absurd (cc)
begun b (c ∷ text) e = ap (λ x. x ∷ text) (eqb-true c b e)

reference_some : (r : TypeRef) → IsReference r → reference_of (reference_text r) ≡ Some r
reference_some (Prim p) h =
    cond_false (begins_with 35 (primitive_word p)) _ (option_map (λ p. Prim p) (primitive_of (primitive_word p))) (primitive_found p).1.2
    ∙ ap (option_map (λ p. Prim p)) (primitive_found p).0
reference_some (User n) h = ap (option_map (λ n. User n)) (number_some 32 (decimal n) n (lit≤ tt) h refl)

reference_says : (text : List ℕ) (r : TypeRef) → reference_of text ≡ Some r → (text ≡ reference_text r) × IsReference r
reference_says text r e = by_test (begins_with 35 text)
    (λ t.
    let found = map_says (λ n. User n) (number_of 32 (drop 1 text)) r (sym (cond_true (begins_with 35 text) (option_map (λ n. User n) (number_of 32 (drop 1 text))) _ t) ∙ e) in
    let known = number_says 32 (drop 1 text) found.0 found.1 in
    subst (λ x. (text ≡ reference_text x) × IsReference x) found.2 (begun 35 text t ∙ ap (λ d. 35 ∷ d) known.1, known.0))
    (λ t.
    let found = map_says (λ p. Prim p) (primitive_of text) r (sym (cond_false (begins_with 35 text) _ (option_map (λ p. Prim p) (primitive_of text)) t) ∙ e) in
    subst (λ x. (text ≡ reference_text x) × IsReference x) found.2 (primitive_says text found.0 found.1, tt))

reference_lacks : (r : TypeRef) → IsReference r → Lacks 32 (reference_text r)
reference_lacks (Prim p) h = free_lacks 32 (primitive_word p) (primitive_found p).1.0
reference_lacks (User n) h = lacks_cons 32 35 (decimal n) (λ e. omega arith) (decimal_lacks 32 32 n (lit≤ tt) (lit≤ tt) h)

pub reference_law : WordLaw reference
reference_law = record { law = record { says = reference_says; some = reference_some }; lacks = reference_lacks }

-- words

pub word_law : WordLaw word
word_law = record {
  law = record { says = λ text w e. let known = word_says w text e in (known.1, known.0); some = λ w h. word_some w w (h, refl) };
  lacks = λ w h. word_lacks 32 (lit< tt) no_space w h;
}

-- names

layer_text : (n : Name) (l : Name-F Name Seg) → IsLayer (Stands 63) whole l → name_layer_text n l ≡ rust_text n
layer_text n (Name-F.Raw t) h = absurd h
layer_text n (Name-F.Path segs) h = refl
layer_text n (Name-F.Pointer kind x) h = refl
layer_text n (Name-F.Slice x) h = refl
layer_text n (Name-F.Array x k) h = refl
layer_text n (Name-F.Tuple xs) h = refl
layer_text n Name-F.Str h = refl
layer_text n (Name-F.Dyn xs) h = refl
layer_text n (Name-F.Fn xs x) h = refl
layer_text n (Name-F.Number minus k) h = refl
layer_text n (Name-F.Bind w x) h = refl

-- a proper name is written in Rust's spelling
pub proper_text : (n : Name) → IsProper n → name_text n ≡ rust_text n
unfolding Stands
proper_text n h = layer_text n (out-Name n) h

-- which begins with no quote
no_quote : (text : List ℕ) → rust_name_of (34 ∷ text) ≡ None
unfolding rust_name_of rust
no_quote text = refl

proper_begins : (n : Name) (text : List ℕ) → rust_name_of text ≡ Some n → begins_with 34 text ≡ false
proper_begins n text e = by_test (begins_with 34 text)
    (λ t. let no : None ≡ Some n = sym (no_quote (drop 1 text)) ∙ ap rust_name_of (sym (begun 34 text t)) ∙ e in absurd (cc))
    (λ t. t)

-- a raw text has its name
abbrev IsRead : Name → Type 0
IsRead n = IsRawLayer (out-Name n) → name_of (name_text n) ≡ Some n

not_raw : (n : Name) (l : Name-F Name Seg) → out-Name n ≡ l → (IsRawLayer l → ⊥) → IsRead n
not_raw n l e h = λ k. absurd (h (subst IsRawLayer e k))

raw_read : (t : List ℕ) → IsRead (Raw t)
raw_read t k =
    let small = subst IsRawLayer (outs-Raw t) k in
    let text : name_text (Raw t) ≡ raw_text t = ap (name_layer_text (Raw t)) (outs-Raw t) in
    ap name_of text ∙ ap (option_map (λ bytes. Raw bytes)) (raw_some t small)

raw_name_some : (n : Name) → IsRead n
raw_name_some = Name-cases IsRead
    (λ segs. not_raw _ _ (outs-Path segs) (λ h. h)) (λ kind x. not_raw _ _ (outs-Pointer kind x) (λ h. h)) (λ x. not_raw _ _ (outs-Slice x) (λ h. h)) (λ x k. not_raw _ _ (outs-Array x k) (λ h. h))
    (λ xs. not_raw _ _ (outs-Tuple xs) (λ h. h)) (not_raw _ _ outs-Str (λ h. h)) (λ xs. not_raw _ _ (outs-Dyn xs) (λ h. h)) (λ xs x. not_raw _ _ (outs-Fn xs x) (λ h. h))
    (λ minus k. not_raw _ _ (outs-Number minus k) (λ h. h)) (λ w x. not_raw _ _ (outs-Bind w x) (λ h. h)) raw_read

name_some : (n : Name) → IsName n → name_of (name_text n) ≡ Some n
name_some n (inl proper) =
    let is = rust_name_some n (rust_text n) (proper, refl) in
    ap name_of (proper_text n proper) ∙ cond_false (begins_with 34 (rust_text n)) _ (rust_name_of (rust_text n)) (proper_begins n (rust_text n) is) ∙ is
name_some n (inr raw) = raw_name_some n raw

name_says : (text : List ℕ) (n : Name) → name_of text ≡ Some n → (text ≡ name_text n) × IsName n
name_says text n e = by_test (begins_with 34 text)
    (λ t.
    let found = map_says (λ bytes. Raw bytes) (raw_of text) n (sym (cond_true (begins_with 34 text) (option_map (λ bytes. Raw bytes) (raw_of text)) _ t) ∙ e) in
    let known = raw_says text found.0 found.1 in
    let raw : name_text (Raw found.0) ≡ raw_text found.0 = ap (name_layer_text (Raw found.0)) (outs-Raw found.0) in
    subst (λ x. (text ≡ name_text x) × IsName x) found.2 (known.0 ∙ sym raw, inr (subst IsRawLayer (sym (outs-Raw found.0)) known.1)))
    (λ t.
    let known = rust_name_says n text (sym (cond_false (begins_with 34 text) _ (rust_name_of text) t) ∙ e) in
    (known.1 ∙ sym (proper_text n known.0), inl known.0))

pub name_law : Law name
name_law = record { says = name_says; some = name_some }
