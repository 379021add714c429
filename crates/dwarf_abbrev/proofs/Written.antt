-- What is written of pairs, declarations and tables is spelled.
use Rattle.std.proofs.Common.{◌≡◌, ◌≢◌, ◌<◌, ◌≤◌, ℕ, zero, suc, ◌+◌, ◌==◌, ◌&&◌, All, is_some, get_or, take, add-one, nat_eq, Bool, true, false, if◌then◌else◌, List, [], ◌∷◌, ◌++◌, length, Some, None, pos, refl, sym, ap, subst, ◌∙◌, arith, eq-eqb}
use Rattle.std.proofs.Math.Seq.{take-suc}
use Rattle.std.specs.List.{list_any}
use Rattle.std.proofs.lemmas.List.{take_all, length-map, length-take-le, get_or-take, get_or-map}
use Rattle.std.proofs.lemmas.List.Folds.{list_any_none}
use Rattle.std.proofs.lemmas.Map.Keys.{apart_from_distinct}
use Rattle.std.proofs.lemmas.Bool.{ne_eqb}
use Rattle.rv_bytes.specs.Forms.{nothing, made, item, choose, row}
use Rattle.rv_bytes.specs.Numbers.{number, uleb, sleb}
use Rattle.rv_bytes.specs.Writers.{IsPut, AppendsShortest}
use Rattle.rv_bytes.proofs.Puts.{put_then, put_made, put_item, put_nothing, put_first, put_second, put_shortest, IsPart, part_push, part_whole}
use Rattle.dwarf_abbrev.specs.FormCodes.{implicit_const}
use Rattle.dwarf_abbrev.specs.Rules.{unknown_form}
use Rattle.dwarf_abbrev.specs.Encodings.{encoding_of}
use Rattle.dwarf_abbrev.specs.Tables.{is_end, end, form_breaks, pair_of, pair, pairs, but_last, code_breaks, tag_breaks, child_breaks, abbrev_of, decl_rest, decl, SoFar, decls, fresh, kept, table}
use Rattle.dwarf_abbrev.specs.Declarations.{codes_of, AreCodes, IsFresh}
use Rattle.dwarf_abbrev.specs.Declarations.{IsSpec, IsDeclaration}
use Rattle.dwarf_abbrev.proofs.Loops.{but_last_push, map_push, somes, behind, kept_end}
use Rattle.dwarf_abbrev.specs.declared.attr.Spec.{Spec}
use Rattle.dwarf_abbrev.specs.declared.decl.Abbrev.{Abbrev}

-- an attribute and a form that breaks no rule, and what follows them
head_put : (spec : Spec) (old one two new : List ℕ) → form_breaks spec.attr spec.form ≡ None → AppendsShortest uleb spec.attr old one → AppendsShortest uleb spec.form one two
    → IsPut (choose (spec.form == implicit_const) (made (pair_of spec.attr spec.form) sleb) (nothing (pair_of spec.attr spec.form (pos 0)))) spec two new → IsPut pair spec old new
head_put spec old one two new e a b c =
    put_then uleb (λ attr. _) spec.attr spec old one new (put_shortest uleb spec.attr old one a)
    (put_then (item uleb (form_breaks spec.attr)) (λ form. _) spec.form spec one two new (put_item uleb (form_breaks spec.attr) spec.form one two e (put_shortest uleb spec.form one two b)) c)

form_holds : (spec : Spec) → IsSpec spec → form_breaks spec.attr spec.form ≡ None
form_holds spec h = rw h.form refl

-- a pair with a number after it
pub implicit_put : (spec : Spec) (old one two new : List ℕ) → IsSpec spec → spec.form ≡ implicit_const → AppendsShortest uleb spec.attr old one → AppendsShortest uleb spec.form one two → AppendsShortest sleb spec.fixed two new → IsPut pair spec old new
implicit_put spec old one two new h e a b c =
    head_put spec old one two new (form_holds spec h) a b
    (put_first (spec.form == implicit_const) _ _ spec two new (eq-eqb spec.form implicit_const e) (put_made (pair_of spec.attr spec.form) sleb spec.fixed two new (put_shortest sleb spec.fixed two new c)))

-- a pair with none
pub pair_put : (spec : Spec) (old one two : List ℕ) → IsSpec spec → spec.form ≢ implicit_const → AppendsShortest uleb spec.attr old one → AppendsShortest uleb spec.form one two → IsPut pair spec old two
pair_put spec old one two h e a b =
    head_put spec old one two two (form_holds spec h) a b
    (put_second (spec.form == implicit_const) _ _ spec two two (ne_eqb spec.form implicit_const e)
    (subst (λ z. IsPut (nothing (pair_of spec.attr spec.form (pos 0))) (pair_of spec.attr spec.form z) two two) (sym (h.fixed e)) (put_nothing (pair_of spec.attr spec.form (pos 0)) two)))

-- the pair 0, 0
pub end_put : (old one new : List ℕ) → AppendsShortest uleb 0 old one → AppendsShortest uleb 0 one new → IsPut pair end old new
end_put old one new a b =
    let e : form_breaks 0 0 ≡ None = (elim (is_some (encoding_of 0)) as (λ z. (if z then None else (if true then None else Some unknown_form)) ≡ None) [ true ↦ refl | false ↦ refl ]) in
    head_put end old one new new e a b (put_nothing end new)

-- a form of the table is not 0
form_not_zero : (form : ℕ) → is_some (encoding_of form) ≡ true → (form == 0) ≡ false
unfolding encoding_of
form_not_zero zero h = absurd (cc)
form_not_zero (suc f) h = ne_eqb (suc f) 0 (λ e. absurd (omega (arith, e)))

-- so the pairs go on after it
pub goes_on : (spec : Spec) → IsSpec spec → is_end spec ≡ false
goes_on spec h = ap (λ b. spec.attr == 0 && b) (form_not_zero spec.form h.form) ∙ (elim (spec.attr == 0) as (λ b. (b && false) ≡ false) [ true ↦ refl | false ↦ refl ])

-- one pair more
pub pairs_more : (specs : List Spec) (i : ℕ) (d : Spec) (old mid new : List ℕ) → All IsSpec specs → i < length specs → IsPart pairs false false (take i specs) old mid → IsPut pair (get_or specs i d) mid new → IsPart pairs false false (take (i + 1) specs) old new
pairs_more specs i d old mid new all l a b =
    subst (λ vs. IsPart pairs false false vs old new) (sym (ap (λ n. take n specs) (add-one i) ∙ take-suc specs i d l))
    (part_push pairs false false false (take i specs) (get_or specs i d) old mid new a refl b (goes_on (get_or specs i d) (all i d l)))

-- the pair 0, 0 after them
pub pairs_whole : (specs : List Spec) (i : ℕ) (old mid one new : List ℕ) → length specs ≤ i → IsPart pairs false false (take i specs) old mid → AppendsShortest uleb 0 mid one → AppendsShortest uleb 0 one new → IsPut (row pairs false) (specs ++ end ∷ []) old new
pairs_whole specs i old mid one new l a b d =
    part_whole pairs false true (specs ++ end ∷ []) old new
    (part_push pairs false false true specs end old mid new (subst (λ vs. IsPart pairs false false vs old mid) (take_all i specs l) a) refl (end_put mid one new b d) refl) refl

-- what follows the code of a declaration
rest_put : (a : Abbrev) (one two three new : List ℕ) → IsDeclaration a → AppendsShortest uleb a.tag one two → IsPut (number 1) (if a.children then 1 else 0) two three → IsPut (row pairs false) (a.specs ++ end ∷ []) three new
    → IsPut (decl_rest a.code) a one new
rest_put a one two three new h t b p =
    let e : tag_breaks a.tag ≡ None = rw (ne_eqb a.tag 0 h.tag) refl in
    put_then (item uleb tag_breaks) (λ tag. _) a.tag a one two new (put_item uleb tag_breaks a.tag one two e (put_shortest uleb a.tag one two t))
    (put_then (item (number 1) child_breaks) (λ child. _) (child a.children) a two three new (put_item (number 1) child_breaks (child a.children) two three (child_holds a.children) b)
    (subst (λ v. IsPut (made (abbrev_of a.code a.tag (child a.children)) (row pairs false)) v three new) (same_decl a)
    (put_made (abbrev_of a.code a.tag (child a.children)) (row pairs false) (a.specs ++ end ∷ []) three new p)))
  where
    child : Bool → ℕ
    child b = if b then 1 else 0

    child_holds : (b : Bool) → child_breaks (child b) ≡ None
    child_holds true = refl
    child_holds false = refl

    child_back : (b : Bool) → (child b == 1) ≡ b
    child_back true = refl
    child_back false = refl

    made_of : ℕ → ℕ → Bool → List Spec → Abbrev
    made_of code tag b specs = record { code = code; tag = tag; children = b; specs = specs }

    same_decl : (a : Abbrev) → abbrev_of a.code a.tag (child a.children) (a.specs ++ end ∷ []) ≡ a
    same_decl a = ap (λ b. made_of a.code a.tag b (but_last (a.specs ++ end ∷ []))) (child_back a.children) ∙ ap (made_of a.code a.tag a.children) (but_last_push a.specs end)

-- a declaration
pub decl_put : (a : Abbrev) (codes : List ℕ) (old one two three new : List ℕ) → IsDeclaration a → IsFresh codes a.code → AppendsShortest uleb a.code old one → AppendsShortest uleb a.tag one two → IsPut (number 1) (if a.children then 1 else 0) two three
    → IsPut (row pairs false) (a.specs ++ end ∷ []) three new → IsPut (decl codes) (Some a) old new
decl_put a codes old one two three new h f c t b p =
    let e : code_breaks codes a.code ≡ None = rw f.0 refl in
    put_then (item uleb (code_breaks codes)) (λ code. _) a.code (Some a) old one new (put_item uleb (code_breaks codes) a.code old one e (put_shortest uleb a.code old one c))
    (put_second (a.code == 0) _ _ (Some a) one new (ne_eqb a.code 0 f.1) (put_made (λ a. Some a) (decl_rest a.code) a one new (rest_put a one two three new h t b p)))

-- the code 0, which ends the table
stop_put : (codes : List ℕ) (old new : List ℕ) → All (λ code. code ≢ 0) codes → AppendsShortest uleb 0 old new → IsPut (decl codes) None old new
stop_put codes old new all a =
    let f : list_any (nat_eq 0) codes ≡ false = list_any_none (nat_eq 0) codes (λ i d l. ne_eqb 0 (get_or codes i d) (λ e. all i d l (sym e))) in
    let e : code_breaks codes 0 ≡ None = rw f refl in
    put_then (item uleb (code_breaks codes)) (λ code. _) 0 None old new new (put_item uleb (code_breaks codes) 0 old new e (put_shortest uleb 0 old new a)) (put_nothing None new)

-- two numbers differ either way
flipped : (n m : ℕ) → nat_eq n m ≡ false → nat_eq m n ≡ false
flipped n m h = ne_eqb m n (λ e. let t : nat_eq n m ≡ true = eq-eqb n m (sym e) in let u : true ≡ false = sym t ∙ h in absurd (cc))

-- the code of a declaration is none of those before it
pub fresh_at : (list : List Abbrev) (i : ℕ) (a : Abbrev) → AreCodes (codes_of list) → i < length list → a ≡ get_or list i a → IsFresh (codes_of (take i list)) a.code
fresh_at list i a h l e = (list_any_none (nat_eq a.code) (codes_of (take i list)) apart, subst (λ n. n ≢ 0) (here a.code) (h.1 i a.code inside))
  where
    inside : i < length (codes_of list)
    inside = omega (arith, length-map list (λ a. a.code))

    here : (d : ℕ) → get_or (codes_of list) i d ≡ a.code
    here d = get_or-map (λ a. a.code) list i a d l ∙ ap (λ a. a.code) (sym e)

    apart : (k d : ℕ) → k < length (codes_of (take i list)) → nat_eq a.code (get_or (codes_of (take i list)) k d) ≡ false
    apart k d m =
        let few : k < i = omega (arith, length-map (take i list) (λ a. a.code), length-take-le i list (omega arith)) in
        let before : get_or (codes_of (take i list)) k d ≡ get_or (codes_of list) k d =
        get_or-map (λ a. a.code) (take i list) k a d (omega (arith, length-map (take i list) (λ a. a.code))) ∙ ap (λ a. a.code) (get_or-take i list k a few) ∙ sym (get_or-map (λ a. a.code) list k a d (omega arith)) in
        ap (nat_eq a.code) before ∙ flipped (get_or (codes_of list) k d) a.code (ap (nat_eq (get_or (codes_of list) k d)) (sym (here d)) ∙ apart_from_distinct nat_eq (codes_of list) k i d h.0 few inside)

-- one declaration more
pub decls_more : (list : List Abbrev) (i : ℕ) (a : Abbrev) (old mid new : List ℕ) → i < length list → a ≡ get_or list i a → IsPart decls fresh (behind (take i list)) (somes (take i list)) old mid → IsPut (decl (codes_of (take i list))) (Some a) mid new
    → IsPart decls fresh (behind (take (i + 1) list)) (somes (take (i + 1) list)) old new
decls_more list i a old mid new l e h p =
    let t : take (i + 1) list ≡ take i list ++ a ∷ [] = ap (λ n. take n list) (add-one i) ∙ take-suc list i a l ∙ ap (λ x. take i list ++ x ∷ []) (sym e) in
    subst (λ xs. IsPart decls fresh (behind xs) (somes xs) old new) (sym t)
    (subst (λ vs. IsPart decls fresh (behind (take i list ++ a ∷ [])) vs old new) (map_push (λ a. Some a) (take i list) a)
    (part_push decls fresh (behind (take i list)) (behind (take i list ++ a ∷ [])) (somes (take i list)) (Some a) old mid new h refl p
    (ap (λ c. so_far c) (map_push (λ a. a.code) (take i list) a))))
  where
    so_far : List ℕ → SoFar
    so_far c = record { codes = c; ended = false }

-- the code 0 after them
pub decls_whole : (list : List Abbrev) (i : ℕ) (old mid new : List ℕ) → length list ≤ i → All (λ code. code ≢ 0) (codes_of list) → IsPart decls fresh (behind (take i list)) (somes (take i list)) old mid → AppendsShortest uleb 0 mid new → IsPut table list old new
decls_whole list i old mid new l all h a =
    let p : IsPart decls fresh (behind list) (somes list) old mid = subst (λ xs. IsPart decls fresh (behind xs) (somes xs) old mid) (take_all i list l) h in
    subst (λ vs. IsPut table vs old new) (kept_end list)
    (put_made kept (row decls fresh) (somes list ++ None ∷ []) old new
    (part_whole decls fresh (record { codes = codes_of list; ended = true }) (somes list ++ None ∷ []) old new
    (part_push decls fresh (behind list) (record { codes = codes_of list; ended = true }) (somes list) None old mid new p refl (stop_put (codes_of list) mid new all a) refl) refl))
