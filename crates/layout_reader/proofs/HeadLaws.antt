-- The first two lines: what they say, and that they break a rule where they don't.
use Rattle.std.proofs.Common.{◌≡◌, ◌≢◌, ◌∙◌, sym, ap, subst, refl, ℕ, ◌<◌, ◌^◌, Bool, true, false, cond, List, ◌++◌, Option, Some, None, Ok, codes}
use Rattle.std.proofs.Common.{append-nil, lit≤, lit<}
use Rattle.std.proofs.lemmas.Option.{cond_some}
use Rattle.std.proofs.lemmas.Slice.Eq.{bytes_eq-Decides}
use Rattle.std.specs.Fmt.{decimal}
use Rattle.std.specs.Option.{option_map}
use Rattle.std.specs.Str.{bytes_eq, is_utf8}
use Rattle.std.proofs.lemmas.Str.{is_utf8-from_IsUtf8}
use Rattle.layout_words.specs.declared.kinds.LineKind.{LineKind}
use Rattle.layout_words.specs.declared.kinds.LineKind.TheVariants as firsts
use Rattle.layout_words.specs.Kinds.{line_kind_of}
use Rattle.layout_words.specs.Spellings.{number}
use Rattle.layout_words.specs.Forms.{Left, Form, cut, behind, nothing}
use Rattle.layout_lines.specs.Sets.{version_text, target_text}
use Rattle.layout_rules.specs.Faults.{first, second, fits, BreaksLine}
use Rattle.layout_rules.specs.LineRules.{lowest_broken, rule_of_words, rule_of_kind, rule_of}
use Rattle.layout_reader.specs.Heads.{version, version_form, target_form, behind_word, version_of, target_of}
use Rattle.layout_words.proofs.Cuts.{cut_joins, cut_behind}
use Rattle.layout_words.proofs.Lacking.{free_lacks}
use Rattle.layout_words.proofs.ItemLaws.{WordLaw, number_law, map_says}
use Rattle.layout_words.proofs.FormLaws.{FormLaw, nothing_law, then_law}
use Rattle.layout_words.proofs.KindWords.{line_kind_says}
use Rattle.layout_words.proofs.Visible.{from_test, from_decimal}
use Rattle.layout_words.proofs.Utf8Words.{IsOneLine, line_append, line_visible}
use Rattle.layout_rules.proofs.ItemRules.{IsBroken, WordFault, Faulty, number_fault, nothing_fault, then_fault}
use Rattle.layout_rules.proofs.Fit.{if_true, kept_rule}
use Rattle.layout_rules.proofs.LowestItems.{Finds}
use Rattle.layout_rules.proofs.LowestLines.{line_finds_lowest}

version_law : WordLaw version
version_law = record {
  law = record { says = λ text u e. ((bytes_eq-Decides text (codes "1")).0 (cond_some (bytes_eq text (codes "1")) tt u e).0, tt); some = λ u h. refl };
  lacks = λ u h. free_lacks 32 (codes "1") refl;
}

version_form_law : FormLaw version_form
version_form_law = then_law version nothing version_law nothing_law

target_form_law : FormLaw target_form
target_form_law = then_law (number 8) nothing (number_law 8 (lit≤ tt)) nothing_law

version_broken : (b : Bool) → ◌≡◌ {A = Option (Unit {0})} (cond b (Some tt) None) None → IsBroken (cond b None (Some 4))
version_broken true e = absurd (cc)
version_broken false e = (4, refl)

version_keeps : (b : Bool) (u : Unit {0}) → ◌≡◌ {A = Option (Unit {0})} (cond b (Some tt) None) (Some u) → ◌≡◌ {A = Option ℕ} (cond b None (Some 4)) None
version_keeps true u e = refl
version_keeps false u e = absurd (cc)

version_fault : WordFault 0 version
version_fault = record {
  broke = λ text e. version_broken (bytes_eq text (codes "1")) e;
  lowest = λ more line. refl;
  fit = λ more line. refl;
  needed = refl;
  keeps = λ text u e. version_keeps (bytes_eq text (codes "1")) u e;
}

version_words : Faulty 0 version_form
version_words = then_fault 0 version nothing version_fault (nothing_fault 0)

target_words : Faulty 0 target_form
target_words = then_fault 0 (number 8) nothing (number_fault 0 8 (lit≤ tt)) (nothing_fault 0)

broken_words : {A : Type 0} (F : Form A) → Faulty 0 F → (left : Left) → F.of left ≡ None → (b : Bool) → fits F.slots left ≡ b
    → cond b (lowest_broken 0 F.slots left) (Some 3) ≢ None
broken_words F fault left e true h n = let r = (fault.broke left e h).1 in cc
broken_words F fault left e false h n = cc

version_unfit : (left : Left) → version_form.of left ≡ None → rule_of_words 0 left (Ok version_form.slots) ≢ None
version_unfit left e = broken_words version_form version_words left e (fits version_form.slots left) refl

target_unfit : (left : Left) → target_form.of left ≡ None → rule_of_words 0 left (Ok target_form.slots) ≢ None
target_unfit left e = broken_words target_form target_words left e (fits target_form.slots left) refl

-- a line that begins with a word, and what it says behind it
behind_says : {A : Type 0} (word : List ℕ) (F : Form A) → FormLaw F → (line : List ℕ) (a : A) (b : Bool) → bytes_eq (cut line).0 word ≡ b
    → cond b (F.of (cut line).1) None ≡ Some a
    → (line ≡ word ++ behind (F.text a)) × F.Is a
behind_says word F law line a true t e =
    let known = law.says (cut line).1 a e in
    (cut_joins line ∙ ap (λ w. w ++ behind (cut line).1) ((bytes_eq-Decides (cut line).0 word).0 t) ∙ ap (λ l. word ++ behind l) known.0, known.1)
behind_says word F law line a false t e = absurd (cc)

pub version_says : (line : List ℕ) → version_of line ≡ Some tt → line ≡ version_text
unfolding version_of
version_says line e =
    let found = map_says (λ _. tt) (behind_word (codes "rdbg-layout") version_form line) tt e in
    (behind_says (codes "rdbg-layout") version_form version_form_law line found.0 (bytes_eq (cut line).0 (codes "rdbg-layout")) refl found.1).0

pub target_says : (line : List ℕ) (n : ℕ) → target_of line ≡ Some n → (line ≡ target_text n) × (n < 2 ^ 8)
unfolding target_of
target_says line n e =
    let found = map_says (λ p. p.0) (behind_word (codes "target") target_form line) n e in
    let known = behind_says (codes "target") target_form target_form_law line found.0 (bytes_eq (cut line).0 (codes "target")) refl found.1 in
    subst (λ m. (line ≡ target_text m) × (m < 2 ^ 8)) found.2 (known.0 ∙ ap (λ t. codes "target " ++ t) (append-nil (decimal found.0.0)), known.1.0)

none_of_map : {A B : Type 0} (f : A → B) (o : Option A) → option_map f o ≡ None → o ≡ None
none_of_map f None e = refl
none_of_map f (Some a) e = absurd (cc)

behind_none : {A : Type 0} (word : List ℕ) (F : Form A) (line : List ℕ) → (cut line).0 ≡ word → behind_word word F line ≡ None → F.of (cut line).1 ≡ None
behind_none word F line w e = sym (ap (λ b. cond b (F.of (cut line).1) None) ((bytes_eq-Decides (cut line).0 word).1 w)) ∙ e

version_kind : (line : List ℕ) (o : Option LineKind) → line_kind_of (cut line).0 ≡ o → behind_word (codes "rdbg-layout") version_form line ≡ None
    → rule_of_kind first (cut line).1 o ≢ None
version_kind line None k e n = cc
version_kind line (Some firsts.Version) k e n = version_unfit (cut line).1
    (behind_none (codes "rdbg-layout") version_form line (line_kind_says (cut line).0 firsts.Version k) e) n
version_kind line (Some firsts.Target) k e n = cc
version_kind line (Some firsts.Type) k e n = cc
version_kind line (Some firsts.Param) k e n = cc
version_kind line (Some firsts.Field) k e n = cc
version_kind line (Some firsts.Case) k e n = cc
version_kind line (Some firsts.Tag) k e n = cc
version_kind line (Some firsts.Variant) k e n = cc
version_kind line (Some firsts.Static) k e n = cc
version_kind line (Some firsts.Func) k e n = cc
version_kind line (Some firsts.Scope) k e n = cc
version_kind line (Some firsts.Var) k e n = cc
version_kind line (Some firsts.Arg) k e n = cc
version_kind line (Some firsts.At) k e n = cc
version_kind line (Some firsts.Piece) k e n = cc

target_kind : (line : List ℕ) (o : Option LineKind) → line_kind_of (cut line).0 ≡ o → behind_word (codes "target") target_form line ≡ None
    → rule_of_kind second (cut line).1 o ≢ None
target_kind line None k e n = cc
target_kind line (Some firsts.Version) k e n = cc
target_kind line (Some firsts.Target) k e n = target_unfit (cut line).1
    (behind_none (codes "target") target_form line (line_kind_says (cut line).0 firsts.Target k) e) n
target_kind line (Some firsts.Type) k e n = cc
target_kind line (Some firsts.Param) k e n = cc
target_kind line (Some firsts.Field) k e n = cc
target_kind line (Some firsts.Case) k e n = cc
target_kind line (Some firsts.Tag) k e n = cc
target_kind line (Some firsts.Variant) k e n = cc
target_kind line (Some firsts.Static) k e n = cc
target_kind line (Some firsts.Func) k e n = cc
target_kind line (Some firsts.Scope) k e n = cc
target_kind line (Some firsts.Var) k e n = cc
target_kind line (Some firsts.Arg) k e n = cc
target_kind line (Some firsts.At) k e n = cc
target_kind line (Some firsts.Piece) k e n = cc

unless_utf8 : (b : Bool) (o : Option ℕ) → o ≢ None → cond b o (Some 1) ≢ None
unless_utf8 true o h = h
unless_utf8 false o h = λ e. cc

pub version_breaks : (line : List ℕ) → version_of line ≡ None → rule_of first line ≢ None
unfolding version_of rule_of
version_breaks line e = unless_utf8 (is_utf8 line) (rule_of_kind first (cut line).1 (line_kind_of (cut line).0))
    (version_kind line (line_kind_of (cut line).0) refl (none_of_map (λ _. tt) (behind_word (codes "rdbg-layout") version_form line) e))

pub target_breaks : (line : List ℕ) → target_of line ≡ None → rule_of second line ≢ None
unfolding target_of rule_of
target_breaks line e = unless_utf8 (is_utf8 line) (rule_of_kind second (cut line).1 (line_kind_of (cut line).0))
    (target_kind line (line_kind_of (cut line).0) refl (none_of_map (λ p. p.0) (behind_word (codes "target") target_form line) e))

pub version_is_read : version_of version_text ≡ Some tt
unfolding version_of cut
version_is_read = refl

target_cut : (ptr : ℕ) → cut (target_text ptr) ≡ (codes "target", target_form.text (ptr, tt))
target_cut ptr =
    let left : Left = target_form.text (ptr, tt) in
    let text : target_text ptr ≡ codes "target" ++ behind left = ap (λ t. codes "target " ++ t) (sym (append-nil (decimal ptr))) in
    ap cut text ∙ cut_behind (codes "target") left (free_lacks 32 (codes "target") refl)

pub target_is_read : (ptr : ℕ) → ptr < 256 → target_of (target_text ptr) ≡ Some ptr
unfolding target_of
target_is_read ptr h =
    ap (λ p. option_map (λ q. q.0) (cond (bytes_eq p.0 (codes "target")) (target_form.of p.1) None)) (target_cut ptr)
    ∙ ap (option_map (λ q. q.0)) (target_form_law.some (ptr, tt) (h, tt))

-- the first two lines break no rule

version_rule : rule_of first version_text ≡ None
unfolding rule_of cut
version_rule =
    let utf8 = is_utf8-from_IsUtf8 version_text (line_visible 32 version_text (lit< tt) (from_test 32 version_text refl)).1 in
    let kept = version_words.keeps (Some (codes "1")) (tt, tt) refl in
    if_true (is_utf8 version_text) (rule_of_kind first (cut version_text).1 (line_kind_of (cut version_text).0)) (Some 1) utf8
    ∙ kept_rule 0 (Some (codes "1")) version_form.slots kept

pub version_breaks_none : (rule : ℕ) → BreaksLine first version_text rule → ⊥
version_breaks_none rule b = subst (Finds (BreaksLine first version_text)) version_rule (line_finds_lowest first version_text) rule b

target_rule : (ptr : ℕ) → ptr < 256 → rule_of second (target_text ptr) ≡ None
unfolding rule_of
target_rule ptr h =
    let text = target_text ptr in
    let left : Left = target_form.text (ptr, tt) in
    let digits = line_visible 48 (decimal ptr) (lit< tt) (from_decimal 8 ptr (lit≤ tt) h) in
    let utf8 = is_utf8-from_IsUtf8 text (line_append (codes "target ") (decimal ptr)
    (line_visible 32 (codes "target ") (lit< tt) (from_test 32 (codes "target ") refl)) digits).1 in
    if_true (is_utf8 text) (rule_of_kind second (cut text).1 (line_kind_of (cut text).0)) (Some 1) utf8
    ∙ ap (λ p. rule_of_kind second p.1 (line_kind_of p.0)) (target_cut ptr)
    ∙ kept_rule 0 left target_form.slots (target_words.keeps left (ptr, tt) (target_form_law.some (ptr, tt) (h, tt)))

pub target_breaks_none : (ptr : ℕ) → ptr < 256 → (rule : ℕ) → BreaksLine second (target_text ptr) rule → ⊥
target_breaks_none ptr h rule b = subst (Finds (BreaksLine second (target_text ptr))) (target_rule ptr h) (line_finds_lowest second (target_text ptr)) rule b
