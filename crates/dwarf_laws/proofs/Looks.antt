-- The items of an attribute that is looked at.
use Rattle.std.proofs.Common.{◌≡◌, ◌<◌, ◌^◌, ◌==◌, ◌&&◌, ◌||◌, ℕ, List, [], ◌∷◌, ◌++◌, find, flat_map, cond, if◌then◌else◌, not, nat_eq, nat_lt, Bool, true, false, is_some, Option, Some, None, option_and_then, unwrap_or, refl, sym, ap, ◌∙◌, arith}
use Rattle.std.specs.Option.{option_map}
use Rattle.std.specs.List.{list_any}
use Rattle.std.proofs.lemmas.Bool.{eq-eqb, eqb-true, ltb-true, ne_eqb}
use Rattle.rv_bytes.specs.Rules.{outside}
use Rattle.dwarf_entries.specs.AttributeItems.{firsts, firsts_after, found_items, lead_rule, name_items, own_item, role_rule, text_items, unless_there}
use Rattle.dwarf_entries.specs.ClassRules.{class_rule, is_below, is_wanted, kind_of}
use Rattle.dwarf_entries.specs.Codes.{at_name}
use Rattle.dwarf_entries.specs.Dies.{Die, Info, what}
use Rattle.dwarf_entries.specs.Items.{Item, first_fault, in_info, item_at}
use Rattle.dwarf_entries.specs.Lookups.{attribute_of, has, natural_in, number_of}
use Rattle.dwarf_entries.specs.NameRoles.{Role, is_beside_part, role_of}
use Rattle.dwarf_entries.specs.Names.{is_word}
use Rattle.dwarf_entries.specs.PassB.{attribute_items, class_items, entry_items, further_items, pass_b, row_class}
use Rattle.dwarf_entries.specs.PassC.{pass_c}
use Rattle.dwarf_entries.specs.PassedOver.{is_function}
use Rattle.dwarf_entries.specs.Rules.{no_word, not_yet}
use Rattle.dwarf_entries.specs.Shapes.{Attribute}
use Rattle.dwarf_entries.specs.Structures.{is_member}
use Rattle.dwarf_entries.specs.Tags.{passes}
use Rattle.dwarf_entries.specs.Texts.{Found, own_text, text_found}
use Rattle.dwarf_entries.specs.declared.class.Class.{Class}
use Rattle.dwarf_laws.specs.Unbroken.{BreaksNone, IsLookedAt}
use Rattle.dwarf_laws.proofs.Faults.{after_item, back, front, none_first, none_second, of_each, of_item}

abbrev Step : (Attribute → List Item) → ℕ → List Attribute → Attribute → Type 0
Step f code l a = (seen : List ℕ) → list_any (nat_eq code) seen ≡ false → find (λ (x : Attribute). x.code == code) l ≡ Some a → first_fault (flat_map f (firsts_after seen l)) ≡ None → first_fault (f a) ≡ None

one_more : (f : Attribute → List Item) (code : ℕ) (b : Attribute) (l : List Attribute) (a : Attribute) → Step f code l a → Step f code (b ∷ l) a
one_more f code b l a next seen none found h = by_code (b.code == code) refl
  where
    rest : List Attribute
    rest = firsts_after (b.code ∷ seen) l

    by_seen : (t : Bool) → list_any (nat_eq b.code) seen ≡ t → (b.code == code) ≡ false → find (λ (x : Attribute). x.code == code) l ≡ Some a → first_fault (f a) ≡ None
    by_seen true s e g = next seen none g (ap (λ (t : Bool). first_fault (flat_map f (cond t (firsts_after seen l) (b ∷ rest)))) (sym s) ∙ h)
    by_seen false s e g =
        let other : nat_eq code b.code ≡ false = ne_eqb code b.code (λ q. let z : (b.code == code) ≡ true = eq-eqb b.code code (sym q) in absurd (cc)) in
        let all : first_fault (f b ++ flat_map f rest) ≡ None = ap (λ (t : Bool). first_fault (flat_map f (cond t (firsts_after seen l) (b ∷ rest)))) (sym s) ∙ h in
        next (b.code ∷ seen) (ap (λ (t : Bool). t || list_any (nat_eq code) seen) other ∙ none) g (back (f b) (flat_map f rest) all)

    by_code : (t : Bool) → (b.code == code) ≡ t → first_fault (f a) ≡ None
    by_code true e =
        let at : b.code ≡ code = eqb-true b.code code e in
        let g : Some b ≡ Some a = ap (λ (t : Bool). cond t (Some b) (find (λ (x : Attribute). x.code == code) l)) (sym e) ∙ found in
        let same : b ≡ a = cc in
        let s : list_any (nat_eq b.code) seen ≡ false = ap (λ n. list_any (nat_eq n) seen) at ∙ none in
        let all : first_fault (f b ++ flat_map f rest) ≡ None = ap (λ (t : Bool). first_fault (flat_map f (cond t (firsts_after seen l) (b ∷ rest)))) (sym s) ∙ h in
        ap (λ x. first_fault (f x)) (sym same) ∙ front (f b) (flat_map f rest) all
    by_code false e = by_seen (list_any (nat_eq b.code) seen) refl e (ap (λ (t : Bool). cond t (Some b) (find (λ (x : Attribute). x.code == code) l)) (sym e) ∙ found)

-- the first attribute of a code is one of those that are looked at
in_firsts : (f : Attribute → List Item) (code : ℕ) (l : List Attribute) (a : Attribute) → Step f code l a
in_firsts f code [] a seen none found h = absurd (cc)
in_firsts f code (b ∷ l) a seen none found h = one_more f code b l a (in_firsts f code l a) seen none found h

code_of : (code : ℕ) (l : List Attribute) (a : Attribute) → find (λ (x : Attribute). x.code == code) l ≡ Some a → a.code ≡ code
code_of code [] a h = absurd (cc)
code_of code (b ∷ l) a h = by_code (b.code == code) refl (code_of code l a) h
  where
    by_code : (t : Bool) → (b.code == code) ≡ t → (find (λ (x : Attribute). x.code == code) l ≡ Some a → a.code ≡ code) → cond t (Some b) (find (λ (x : Attribute). x.code == code) l) ≡ Some a → a.code ≡ code
    by_code true e next g = let same : b ≡ a = cc in ap (λ (x : Attribute). x.code) (sym same) ∙ eqb-true b.code code e
    by_code false e next g = next g

-- the items of an entry whose attributes are looked at
abbrev items_by : Info → Die → Bool → Bool → Bool → List Item
items_by info d read member function =
    if not read || member then []
    else if function then item_at (in_info d.entry.offset) (Some not_yet) ∷ []
    else flat_map (attribute_items info d) (firsts d.entry)

looked : (info : Info) (d : Die) → IsLookedAt info d → entry_items info d ≡ flat_map (attribute_items info d) (firsts d.entry)
looked info d l =
    ap (λ b. items_by info d b (passes is_member (what d) && is_beside_part info d) (passes is_function (what d))) l.read
    ∙ ap (λ b. items_by info d true b (passes is_function (what d))) l.member
    ∙ ap (λ b. items_by info d true false b) l.no_function

-- no item of an attribute that is looked at breaks a rule
of_attribute : (info : Info) → BreaksNone info → (d : Die) → IsLookedAt info d → (code : ℕ) (a : Attribute) → attribute_of code d.entry ≡ Some a → first_fault (attribute_items info d a) ≡ None
of_attribute info h d l code a found =
    let here = of_each (entry_items info) info.dies (front (pass_b info) (pass_c info) h) l.is_of.0 d l.is_of.1 in
    in_firsts (attribute_items info d) code d.entry.attributes a [] refl found (ap first_fault (sym (looked info d l)) ∙ here)

-- the same with its class
of_class : (info : Info) → BreaksNone info → (d : Die) → IsLookedAt info d → (code : ℕ) (a : Attribute) → attribute_of code d.entry ≡ Some a → (class : Class) → row_class code (what d) ≡ Some class
    → first_fault (class_items info d a (Some class)) ≡ None
of_class info h d l code a found class row =
    let at = code_of code d.entry.attributes a found in
    ap (λ o. first_fault (class_items info d a o)) (sym (ap (λ n. row_class n (what d)) at ∙ row)) ∙ of_attribute info h d l code a found

word_there : (f : Found) → first_fault (found_items (Some f)) ≡ None → (if is_some f.rule then None else if is_word f.text then None else Some no_word) ≡ None → is_word f.text ≡ true
word_there f h g = by_rule f.rule (of_item (item_at f.spot f.rule) [] h) g
  where
    by_word : (b : Bool) → (if b then None else Some no_word) ≡ None → b ≡ true
    by_word true k = refl
    by_word false k = absurd (cc)

    by_rule : (o : Option ℕ) → o ≡ None → (if is_some o then None else if is_word f.text then None else Some no_word) ≡ None → is_word f.text ≡ true
    by_rule None e k = by_word (is_word f.text) k
    by_rule (Some r) e k = absurd (cc)

abbrev word_by : Option Found → Option ℕ
word_by None = None
word_by (Some f) = if is_some f.rule then None else if is_word f.text then None else Some no_word

-- a name that must be a word is one
name_is_word : (info : Info) (d : Die) (a : Attribute) → first_fault (name_items info d a Role.word) ≡ None → is_word (unwrap_or (option_map (λ (f : Found). f.text) (text_found info.sections d.bases a)) []) ≡ true
name_is_word info d a h =
    by_text (text_found info.sections d.bases a) (none_second (class_rule Class.Text a.value) (lead_rule info d a Class.Text) (of_item (own_item info d a Class.Text) (found_items (text_found info.sections d.bases a)) texts))
    (after_item (own_item info d a Class.Text) (found_items (text_found info.sections d.bases a)) texts) (of_item (item_at (in_info a.offset) (role_rule info d a Role.word)) [] (back (text_items info d a) (item_at (in_info a.offset) (role_rule info d a Role.word) ∷ []) h))
  where
    texts : first_fault (text_items info d a) ≡ None
    texts = front (text_items info d a) (item_at (in_info a.offset) (role_rule info d a Role.word) ∷ []) h

    by_text : (o : Option Found) → unless_there outside o ≡ None → first_fault (found_items o) ≡ None → word_by o ≡ None → is_word (unwrap_or (option_map (λ (f : Found). f.text) o) []) ≡ true
    by_text None e k g = absurd (cc)
    by_text (Some f) e k g = word_there f k g

pub words : (info : Info) → BreaksNone info → (d : Die) → IsLookedAt info d → role_of info d ≡ Role.word → row_class at_name (what d) ≡ Some Class.Text → has at_name d.entry ≡ true → is_word (own_text info d) ≡ true
words info h d l role row there = by_name (attribute_of at_name d.entry) refl there
  where
    by_name : (o : Option Attribute) → attribute_of at_name d.entry ≡ o → is_some o ≡ true
        → is_word (unwrap_or (option_map (λ (f : Found). f.text) (option_and_then (text_found info.sections d.bases) o)) []) ≡ true
    by_name None e s = absurd (cc)
    by_name (Some a) e s =
        let at = code_of at_name d.entry.attributes a e in
        let all : first_fault (class_items info d a (Some Class.Text)) ≡ None = of_class info h d l at_name a e Class.Text row in
        let named : first_fault (name_items info d a (role_of info d)) ≡ None =
        ap (λ (n : ℕ). first_fault (if n == at_name then name_items info d a (role_of info d) else own_item info d a Class.Text ∷ further_items info d a)) (sym at) ∙ all in
        name_is_word info d a (ap (λ r. first_fault (name_items info d a r)) (sym role) ∙ named)

-- an attribute other than a name breaks no rule of its class
of_number : (info : Info) → BreaksNone info → (d : Die) → IsLookedAt info d → (code : ℕ) → (code == at_name) ≡ false → (class : Class) → row_class code (what d) ≡ Some class
    → (a : Attribute) → attribute_of code d.entry ≡ Some a → class_rule class a.value ≡ None
of_number info h d l code other class row a e =
    let at = code_of code d.entry.attributes a e in
    let all = of_class info h d l code a e class row in
    let own : first_fault (own_item info d a class ∷ further_items info d a) ≡ None =
    ap (λ (b : Bool). first_fault (if b then name_items info d a (role_of info d) else own_item info d a class ∷ further_items info d a)) (sym (ap (λ n. n == at_name) at ∙ other)) ∙ all in
    none_first (class_rule class a.value) (lead_rule info d a class) (of_item (own_item info d a class) (further_items info d a) own)

below_by : (limit : ℕ) → 0 < limit → (b : Bool) (o : Option ℕ) (wrong : ℕ) (fit : ℕ) → (if b then (if is_below limit o then None else Some fit) else Some wrong) ≡ None → unwrap_or o 0 < limit
below_by limit more false o wrong fit h = absurd (cc)
below_by limit more true None wrong fit h = more
below_by limit more true (Some n) wrong fit h = by_test (nat_lt n limit) refl h
  where
    by_test : (t : Bool) → nat_lt n limit ≡ t → (if t then None else Some fit) ≡ None → n < limit
    by_test true e k = ltb-true n limit e
    by_test false e k = absurd (cc)

pub sizes : (info : Info) → BreaksNone info → (d : Die) → IsLookedAt info d → (code : ℕ) → (code == at_name) ≡ false → row_class code (what d) ≡ Some Class.Size → unwrap_or (number_of code d.entry) 0 < 2 ^ 32
sizes info h d l code other row = by_value (attribute_of code d.entry) refl
  where
    by_value : (o : Option Attribute) → attribute_of code d.entry ≡ o → unwrap_or (option_and_then natural_in (option_and_then (λ (a : Attribute). Some a.value) o)) 0 < 2 ^ 32
    by_value None e = omega arith
    by_value (Some a) e = below_by (2 ^ 32) (omega arith) (is_wanted Class.Size (kind_of a.value)) (natural_in a.value) _ _ (of_number info h d l code other Class.Size row a e)

pub counts : (info : Info) → BreaksNone info → (d : Die) → IsLookedAt info d → (code : ℕ) → (code == at_name) ≡ false → row_class code (what d) ≡ Some Class.Count → unwrap_or (number_of code d.entry) 0 < 2 ^ 64
counts info h d l code other row = by_value (attribute_of code d.entry) refl
  where
    by_value : (o : Option Attribute) → attribute_of code d.entry ≡ o → unwrap_or (option_and_then natural_in (option_and_then (λ (a : Attribute). Some a.value) o)) 0 < 2 ^ 64
    by_value None e = omega arith
    by_value (Some a) e = below_by (2 ^ 64) (omega arith) (is_wanted Class.Count (kind_of a.value)) (natural_in a.value) _ _ (of_number info h d l code other Class.Count row a e)
