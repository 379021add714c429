-- The text of a name is one line of UTF-8.
use Rattle.std.proofs.Common.{◌≡◌, ◌≢◌, sym, ap, subst, refl, ℕ, zero, suc, ◌<◌, ◌≤◌, ◌^◌, ◌/◌, ◌%◌, Bool, true, false, cond, not, ◌==◌, ◌&&◌, ◌||◌, nat_le, List, [], ◌∷◌, ◌++◌, map, Option, Some, None, IfSome, codes, arith, lit≤, lit<, ◌⊎◌, inl, inr, ⊎_elim, slice_index}
use Rattle.std.proofs.lemmas.Bool.{eqb-true, leb-true}
use Rattle.std.proofs.lemmas.List.Elements.{All-nil, All-cons, All-head, All-tail}
use Rattle.std.specs.Fmt.{decimal}
use Rattle.std.specs.List.{AllByRecursion, flat_map, All}
use Rattle.hex.specs.Hex.{encode_lower}
use Rattle.names.specs.declared.name.Name.{Name, out-Name}
use Rattle.names.specs.declared.name.Name.TheOpen.{Name-F}
use Rattle.names.specs.declared.name.Name.TheVariants.{Path, Pointer, Slice, Array, Tuple, Str, Dyn, Fn, Number, Bind, Raw, outs-Path, outs-Pointer, outs-Slice, outs-Array, outs-Tuple, outs-Str, outs-Dyn, outs-Fn, outs-Number, outs-Bind, outs-Raw}
use Rattle.names.specs.declared.name.Seg.{Seg}
use Rattle.names.specs.declared.name.PtrKind.{PtrKind}
use Rattle.names.specs.declared.name.PtrKind.TheVariants.{Ref, RefMut, Const, Mut, Boxed}
use Rattle.names.specs.Words.{IsWord}
use Rattle.names.specs.Names.{Role, whole, arg, member, IsSeg, IsLayer, Stands}
use Rattle.rust_names.specs.RustText.{rust_text, seg_text, word_text, args_text, dyn_text, result_text, is_empty_tuple}
use Rattle.names.specs.Pointers.{kind_text}
use Rattle.names.specs.Joined.{joined}
use Rattle.names.specs.Signs.{sign_text}
use Rattle.names.proofs.Cases.{Name-cases}
use Rattle.names.proofs.Joined.{joined_cons, joined_one}
use Rattle.rust_names.proofs.RustLevels.{text-Path, text-Pointer, text-Slice, text-Array, text-Tuple, text-Str, text-Dyn, text-Fn, text-Number, text-Bind, text-Seg}
use Rattle.layout_words.specs.Spellings.{escape, raw_text, name_text, name_layer_text, IsName, IsRawLayer}
use Rattle.layout_words.proofs.Visible.{is_from, from_test, from_nil, from_cons, from_decimal, from_pairs}
use Rattle.layout_words.proofs.Utf8Words.{IsOneLine, line_nil, line_append, line_visible, line_word}
use Rattle.layout_words.proofs.ItemLaws.{proper_text}

literal : (bytes : List ℕ) → is_from 32 bytes ≡ true → IsOneLine bytes
literal bytes e = line_visible 32 bytes (lit< tt) (from_test 32 bytes e)

both : (xs ys : List ℕ) → IsOneLine xs → IsOneLine ys → IsOneLine (xs ++ ys)
both xs ys h k = line_append xs ys h k

open_decimal : (bits n : ℕ) → bits ≤ 128 → n < 2 ^ bits → IsOneLine (decimal n)
open_decimal bits n h l = line_visible 48 (decimal n) (lit< tt) (from_decimal bits n h l)

open_word : (w : List ℕ) → IsWord w → IsOneLine w
open_word w h = line_word w h

open_joined : {A : Type 0} (P : A → Type 0) (text : A → List ℕ) (sep : List ℕ) → IsOneLine sep → ((x : A) → P x → IsOneLine (text x)) → (xs : List A) → AllByRecursion P xs → IsOneLine (joined sep (map text xs))
open_joined P text sep s each [] h = line_nil
open_joined P text sep s each (x ∷ []) h = subst IsOneLine (sym (joined_one sep (text x))) (each x h.0)
open_joined P text sep s each (x ∷ y ∷ rest) h =
    let more = joined sep (map text (y ∷ rest)) in
    subst IsOneLine (sym (joined_cons sep (text x) (text y) (map text rest))) (both (text x) (sep ++ more) (each x h.0) (both sep more s (open_joined P text sep s each (y ∷ rest) h.1)))

open_kind : (kind : PtrKind) → IsOneLine (kind_text kind)
open_kind Ref = literal (codes "&") refl
open_kind RefMut = literal (codes "&mut ") refl
open_kind Const = literal (codes "*const ") refl
open_kind Mut = literal (codes "*mut ") refl
open_kind Boxed = literal (codes "box ") refl

open_numbered : (w : List ℕ) (number : Option ℕ) → IsWord w → IfSome number (λ n. n < 2 ^ 32) → IsOneLine (word_text w number)
open_numbered w None h l = open_word w h
open_numbered w (Some n) h l =
    both (codes "{" ++ w ++ codes "#" ++ decimal n) (codes "}")
    (both (codes "{" ++ w ++ codes "#") (decimal n) (both (codes "{" ++ w) (codes "#") (both (codes "{") w (literal (codes "{") refl) (open_word w h)) (literal (codes "#") refl)) (open_decimal 32 n (lit≤ tt) l))
    (literal (codes "}") refl)

open_result : (b : Bool) (text : List ℕ) → IsOneLine text → IsOneLine (cond b [] (codes " -> " ++ text))
open_result true text h = line_nil
open_result false text h = both (codes " -> ") text (literal (codes " -> ") refl) h

open_sign : (minus : Bool) → IsOneLine (sign_text minus)
open_sign true = literal (codes "-") refl
open_sign false = line_nil

module _ (d : ℕ) (each : (role : Role) (x : Name) → Stands d role x → IsOneLine (rust_text x)) where
  open_names : (role : Role) (sep : List ℕ) → IsOneLine sep → (xs : List Name) → AllByRecursion (Stands d role) xs → IsOneLine (joined sep (map rust_text xs))
  open_names role sep s xs h = open_joined (Stands d role) rust_text sep s (each role) xs h

  open_args : (xs : List Name) → AllByRecursion (Stands d arg) xs → IsOneLine (args_text (map rust_text xs))
  open_args [] h = line_nil
  open_args (x ∷ xs) h =
      let inner = joined (codes ", ") (map rust_text (x ∷ xs)) in
      both (codes "<" ++ inner) (codes ">") (both (codes "<") inner (literal (codes "<") refl) (open_names arg (codes ", ") (literal (codes ", ") refl) (x ∷ xs) h)) (literal (codes ">") refl)

  open_seg : (s : Seg) → IsSeg (Stands d) s → IsOneLine (seg_text s)
  open_seg s h = subst IsOneLine (sym (text-Seg s)) (both (word_text s.word s.number) (args_text (map rust_text s.args)) (open_numbered s.word s.number h.0 h.1.0) (open_args s.args h.1.1))

  open_members : (xs : List Name) → AllByRecursion (Stands d member) xs → IsOneLine (dyn_text (map rust_text xs))
  open_members [] h = literal (codes "dyn ") refl
  open_members (x ∷ []) h =
      both (codes "dyn ") (joined (codes " + ") (map rust_text (x ∷ []))) (literal (codes "dyn ") refl) (open_names member (codes " + ") (literal (codes " + ") refl) (x ∷ []) h)
  open_members (x ∷ y ∷ rest) h =
      let inner = joined (codes " + ") (map rust_text (x ∷ y ∷ rest)) in
      both (codes "(dyn " ++ inner) (codes ")") (both (codes "(dyn ") inner (literal (codes "(dyn ") refl) (open_names member (codes " + ") (literal (codes " + ") refl) (x ∷ y ∷ rest) h)) (literal (codes ")") refl)

  abbrev IsOneLineAt : Role → Name → Type 0
  IsOneLineAt role n = IsLayer (Stands d) role (out-Name n) → IsOneLine (rust_text n)

  layer_of : (role : Role) (n : Name) (l : Name-F Name Seg) → out-Name n ≡ l → IsLayer (Stands d) role (out-Name n) → IsLayer (Stands d) role l
  layer_of role n l e h = subst (IsLayer (Stands d) role) e h

  open_path : (role : Role) (segs : List Seg) → IsOneLineAt role (Path segs)
  open_path role segs h =
      let p = layer_of role (Path segs) _ (outs-Path segs) h in
      subst IsOneLine (sym (text-Path segs)) (open_joined (IsSeg (Stands d)) seg_text (codes "::") (literal (codes "::") refl) open_seg segs p.1.1)

  open_pointer : (role : Role) (kind : PtrKind) (x : Name) → IsOneLineAt role (Pointer kind x)
  open_pointer role kind x h =
      let p = layer_of role (Pointer kind x) _ (outs-Pointer kind x) h in
      subst IsOneLine (sym (text-Pointer kind x)) (both (kind_text kind) (rust_text x) (open_kind kind) (each whole x p.1.1))

  open_slice : (role : Role) (x : Name) → IsOneLineAt role (Slice x)
  open_slice role x h =
      let p = layer_of role (Slice x) _ (outs-Slice x) h in
      subst IsOneLine (sym (text-Slice x)) (both (codes "[" ++ rust_text x) (codes "]") (both (codes "[") (rust_text x) (literal (codes "[") refl) (each whole x p.1)) (literal (codes "]") refl))

  open_array : (role : Role) (x : Name) (n : ℕ) → IsOneLineAt role (Array x n)
  open_array role x n h =
      let p = layer_of role (Array x n) _ (outs-Array x n) h in
      subst IsOneLine (sym (text-Array x n))
      (both (codes "[" ++ rust_text x ++ codes "; " ++ decimal n) (codes "]")
      (both (codes "[" ++ rust_text x ++ codes "; ") (decimal n) (both (codes "[" ++ rust_text x) (codes "; ") (both (codes "[") (rust_text x) (literal (codes "[") refl) (each whole x p.1.0)) (literal (codes "; ") refl)) (open_decimal 64 n (lit≤ tt) p.1.1))
      (literal (codes "]") refl))

  open_tuple : (role : Role) (xs : List Name) → IsOneLineAt role (Tuple xs)
  open_tuple role xs h =
      let p = layer_of role (Tuple xs) _ (outs-Tuple xs) h in
      let inner = joined (codes ", ") (map rust_text xs) in
      subst IsOneLine (sym (text-Tuple xs)) (both (codes "(" ++ inner) (codes ")") (both (codes "(") inner (literal (codes "(") refl) (open_names whole (codes ", ") (literal (codes ", ") refl) xs p.1)) (literal (codes ")") refl))

  open_str : (role : Role) → IsOneLineAt role Str
  open_str role h = subst IsOneLine (sym text-Str) (literal (codes "str") refl)

  open_dyn : (role : Role) (xs : List Name) → IsOneLineAt role (Dyn xs)
  open_dyn role xs h = let p = layer_of role (Dyn xs) _ (outs-Dyn xs) h in subst IsOneLine (sym (text-Dyn xs)) (open_members xs p.1.1)

  open_fn : (role : Role) (xs : List Name) (x : Name) → IsOneLineAt role (Fn xs x)
  open_fn role xs x h =
      let p = layer_of role (Fn xs x) _ (outs-Fn xs x) h in
      let inner = joined (codes ", ") (map rust_text xs) in
      subst IsOneLine (sym (text-Fn xs x))
      (both (codes "fn(" ++ inner ++ codes ")") (result_text x (rust_text x))
      (both (codes "fn(" ++ inner) (codes ")") (both (codes "fn(") inner (literal (codes "fn(") refl) (open_names whole (codes ", ") (literal (codes ", ") refl) xs p.1.0)) (literal (codes ")") refl))
      (open_result (is_empty_tuple x) (rust_text x) (each whole x p.1.1)))

  open_number : (role : Role) (minus : Bool) (n : ℕ) → IsOneLineAt role (Number minus n)
  open_number role minus n h =
      let p = layer_of role (Number minus n) _ (outs-Number minus n) h in
      subst IsOneLine (sym (text-Number minus n)) (both (sign_text minus) (decimal n) (open_sign minus) (open_decimal 128 n (lit≤ tt) p.1.0))

  open_bind : (role : Role) (w : List ℕ) (x : Name) → IsOneLineAt role (Bind w x)
  open_bind role w x h =
      let p = layer_of role (Bind w x) _ (outs-Bind w x) h in
      subst IsOneLine (sym (text-Bind w x)) (both (w ++ codes "=") (rust_text x) (both w (codes "=") (open_word w p.1.0) (literal (codes "=") refl)) (each whole x p.1.1))

  open_raw : (role : Role) (t : List ℕ) → IsOneLineAt role (Raw t)
  open_raw role t h = absurd (layer_of role (Raw t) _ (outs-Raw t) h)

  open_layer : (role : Role) (n : Name) → IsOneLineAt role n
  open_layer role =
      Name-cases (IsOneLineAt role) (open_path role) (open_pointer role) (open_slice role) (open_array role) (open_tuple role) (open_str role) (open_dyn role) (open_fn role) (open_number role) (open_bind role) (open_raw role)

-- the Rust text of a name that stands somewhere
open_rust : (d : ℕ) (role : Role) (n : Name) → Stands d role n → IsOneLine (rust_text n)
unfolding Stands
open_rust zero role n h = absurd h
open_rust (suc d) role n h = open_layer d (open_rust d) role n h

-- raw texts

or_cases : (a b : Bool) → (a || b) ≡ true → (a ≡ true) ⊎ (b ≡ true)
or_cases true b e = inl refl
or_cases false b e = inr e

and_parts : (a b : Bool) → (a && b) ≡ true → (a ≡ true) × (b ≡ true)
and_parts true b e = (refl, e)
and_parts false b e = absurd (cc)

-- a quote and `\`
quote_is : (c : ℕ) → (c == 34 || c == 92) ≡ true → (32 ≤ c) × (c < 128)
quote_is c e =
    ⊎_elim (λ (h : (c == 34) ≡ true). let is = eqb-true c 34 h in (omega (arith, is), omega (arith, is))) (λ (h : (c == 92) ≡ true). let is = eqb-true c 92 h in (omega (arith, is), omega (arith, is)))
    (or_cases (c == 34) (c == 92) e)

print_is : (c : ℕ) → (nat_le 32 c && nat_le c 126) ≡ true → (32 ≤ c) × (c < 128)
print_is c e =
    let parts = and_parts (nat_le 32 c) (nat_le c 126) e in
    let most = leb-true c 126 parts.1 in
    (leb-true 32 c parts.0, omega (arith, most))

open_one : (c : ℕ) → (32 ≤ c) × (c < 128) → IsOneLine (c ∷ [])
open_one c h = line_visible 32 (c ∷ []) (lit< tt) (from_cons 32 c [] h (from_nil 32))

open_escape : (c : ℕ) → c < 256 → IsOneLine (escape c)
open_escape c l = quoted (c == 34 || c == 92) refl
  where
    plain : (p : Bool) → (nat_le 32 c && nat_le c 126) ≡ p → IsOneLine (cond p (c ∷ []) (codes "\\x" ++ encode_lower (c ∷ [])))
    plain true e = open_one c (print_is c e)
    plain false e = both (codes "\\x") (encode_lower (c ∷ [])) (literal (codes "\\x") refl) (line_visible 48 (encode_lower (c ∷ [])) (lit< tt) (from_pairs (c ∷ []) (All-cons (λ b. b < 256) c [] l (All-nil (λ b. b < 256)))))

    quoted : (q : Bool) → (c == 34 || c == 92) ≡ q → IsOneLine (cond q (92 ∷ c ∷ []) (cond (nat_le 32 c && nat_le c 126) (c ∷ []) (codes "\\x" ++ encode_lower (c ∷ []))))
    quoted true e = both (92 ∷ []) (c ∷ []) (literal (92 ∷ []) refl) (open_one c (quote_is c e))
    quoted false e = plain (nat_le 32 c && nat_le c 126) refl

open_escapes : (bytes : List ℕ) → All (λ b. b < 256) bytes → IsOneLine (flat_map escape bytes)
open_escapes [] h = line_nil
open_escapes (c ∷ bytes) h = both (escape c) (flat_map escape bytes) (open_escape c (All-head (λ b. b < 256) c bytes h)) (open_escapes bytes (All-tail (λ b. b < 256) c bytes h))

open_raw_text : (bytes : List ℕ) → All (λ b. b < 256) bytes → IsOneLine (raw_text bytes)
open_raw_text bytes h =
    both (codes "\"" ++ flat_map escape bytes) (codes "\"") (both (codes "\"") (flat_map escape bytes) (literal (codes "\"") refl) (open_escapes bytes h)) (literal (codes "\"") refl)

abbrev IsOneLineRaw : Name → Type 0
IsOneLineRaw n = IsRawLayer (out-Name n) → IsOneLine (name_text n)

not_raw : (n : Name) (l : Name-F Name Seg) → out-Name n ≡ l → (IsRawLayer l → ⊥) → IsOneLineRaw n
not_raw n l e h = λ k. absurd (h (subst IsRawLayer e k))

open_raw_name : (t : List ℕ) → IsOneLineRaw (Raw t)
open_raw_name t k =
    let small = subst IsRawLayer (outs-Raw t) k in
    let text : name_text (Raw t) ≡ raw_text t = ap (name_layer_text (Raw t)) (outs-Raw t) in
    subst IsOneLine (sym text) (open_raw_text t small)

open_raw_names : (n : Name) → IsOneLineRaw n
open_raw_names = Name-cases IsOneLineRaw
    (λ segs. not_raw _ _ (outs-Path segs) (λ h. h)) (λ kind x. not_raw _ _ (outs-Pointer kind x) (λ h. h)) (λ x. not_raw _ _ (outs-Slice x) (λ h. h)) (λ x k. not_raw _ _ (outs-Array x k) (λ h. h))
    (λ xs. not_raw _ _ (outs-Tuple xs) (λ h. h)) (not_raw _ _ outs-Str (λ h. h)) (λ xs. not_raw _ _ (outs-Dyn xs) (λ h. h)) (λ xs x. not_raw _ _ (outs-Fn xs x) (λ h. h))
    (λ minus k. not_raw _ _ (outs-Number minus k) (λ h. h)) (λ w x. not_raw _ _ (outs-Bind w x) (λ h. h)) open_raw_name

pub open_name : (n : Name) → IsName n → IsOneLine (name_text n)
open_name n (inl proper) = subst IsOneLine (sym (proper_text n proper)) (open_rust 64 whole n proper)
open_name n (inr raw) = open_raw_names n raw
