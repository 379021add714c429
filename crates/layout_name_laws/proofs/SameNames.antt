-- Names of types are told apart by their Rust texts.
use Rattle.std.proofs.Common.{◌≡◌, ◌≢◌, ℕ, ◌<◌, inl, inr, Bool, true, false, List, length, map, Option, Some, None, IfSome, get_or, refl, sym, ap, subst, ◌∙◌, arith}
use Rattle.std.specs.List.{HoldsAt}
use Rattle.std.proofs.lemmas.List.{get_or-map, length-map}
use Rattle.names.specs.declared.name.Name.{Name}
use Rattle.type_names.specs.Names.{IsProper}
use Rattle.type_names.specs.RustText.{rust_text, RustSpells}
use Rattle.type_names.specs.Claims.{IsOfOne}
use Rattle.layout_set.specs.declared.set.TypeDef.{TypeDef}
use Rattle.layout_set.specs.declared.set.TypeDef.TheVariants.{FnPtr}
use Rattle.layout_set.specs.NameShapes.{is_raw}
use Rattle.layout_set.specs.DerivedNames.{name_of}
use Rattle.layout_set.specs.Found.{IsFirst, earlier}
use Rattle.layout_set.specs.Law10.{IsGoodName, HasGoodName, NamedApart, IsNewName}
use Rattle.layout_set.specs.IsSet.{IsNamed, AreNamed}
use Rattle.layout_name_laws.specs.RustTexts.{rust_text_of, text_of_name, text_unless, TextsApart, IsNewText}
use Rattle.layout_set.proofs.Firsts.{first_of_both}

-- a name that is no raw text
abbrev Spoken : Option Name → Type 0
Spoken o = IfSome o (λ n. is_raw n ≡ false)

clash_bool : {A : Type 0} (b : Bool) → b ≡ true → b ≡ false → A
clash_bool b e f = elim (let g : true ≡ false = sym e ∙ f in let z : ⊥ = grind (arith, g) in z) [ ]

proper : (n : Name) → IsNamed n → is_raw n ≡ false → IsProper n
proper n (inl p) e = p
proper n (inr r) e = clash_bool (is_raw n) r e

texts_apart_none : (o : Option (List ℕ)) → TextsApart o None
texts_apart_none None = tt
texts_apart_none (Some a) = tt

-- names that differ have texts that differ
forth_unless : IsOfOne RustSpells → (a b : Name) → IsNamed a → IsNamed b → is_raw b ≡ false → (r : Bool) → is_raw a ≡ r → a ≢ b → TextsApart (text_unless r a) (Some (rust_text b))
forth_unless one a b p q e true f n = tt
forth_unless one a b p q e false f n = λ same. n (one a b (rust_text b) (proper a p f, sym same) (proper b q e, refl))

forth : IsOfOne RustSpells → (a b : Option Name) → IfSome a IsNamed → IfSome b IsNamed → Spoken b → NamedApart a b → TextsApart (text_of_name a) (text_of_name b)
forth one None b p q s n = tt
forth one (Some a) None p q s n = texts_apart_none (text_of_name (Some a))
forth one (Some a) (Some b) p q s n = subst (λ (r : Bool). TextsApart (text_unless (is_raw a) a) (text_unless r b)) (sym s) (forth_unless one a b p q s (is_raw a) refl n)

-- and texts that differ are those of names that differ
back : (a b : Option Name) → Spoken b → TextsApart (text_of_name a) (text_of_name b) → NamedApart a b
back None b s d = tt
back (Some a) None s d = tt
back (Some a) (Some b) s d = λ e.
    let f : is_raw a ≡ false = ap is_raw e ∙ s in
    let g : TextsApart (text_unless false a) (text_unless false b) = subst (λ (r : Bool). TextsApart (text_unless false a) (text_unless r b)) s (subst (λ (r : Bool). TextsApart (text_unless r a) (text_unless (is_raw b) b)) f d) in
    g (ap rust_text e)

spoken_if : (o : Option Name) → IfSome o IsGoodName → Spoken o
spoken_if None g = tt
spoken_if (Some n) g = g.spoken

spoken : (t : TypeDef) → HasGoodName t → Spoken (name_of t)
unfolding HasGoodName
spoken t g = spoken_if (name_of t) g.0

text_at : (types : List TypeDef) (i : ℕ) (d : TypeDef) (a : Option (List ℕ)) → i < length types → get_or (map rust_text_of types) i a ≡ rust_text_of (get_or types i d)
text_at types i d a h = get_or-map rust_text_of types i d a h

to_names : (types : List TypeDef) (i : ℕ) → i < length types → HoldsAt HasGoodName types i → IsNewText (map rust_text_of types) i → IsNewName types i
unfolding IsNewText IsNewName
to_names types i h good new = λ j a b k.
    let l : j < length types = omega (arith, h, k) in
    back (name_of (get_or types j a)) (name_of (get_or types i b)) (spoken (get_or types i b) (good b))
    (subst (λ o. TextsApart o (rust_text_of (get_or types i b))) (text_at types j a None l) (subst (λ o. TextsApart (get_or (map rust_text_of types) j None) o) (text_at types i b None h) (new j None None k)))

to_texts : IsOfOne RustSpells → (types : List TypeDef) → AreNamed types → (i : ℕ) → i < length types → HoldsAt HasGoodName types i → IsNewName types i → IsNewText (map rust_text_of types) i
unfolding IsNewText IsNewName
to_texts one types named i h good new = λ j a b k.
    let l : j < length types = omega (arith, h, k) in
    let d = FnPtr in
    subst (λ o. TextsApart o (get_or (map rust_text_of types) i b)) (sym (text_at types j d a l)) (subst (λ o. TextsApart (rust_text_of (get_or types j d)) o) (sym (text_at types i d b h))
    (forth one (name_of (get_or types j d)) (name_of (get_or types i d)) (named j d l) (named i d h) (spoken (get_or types i d) (good d)) (new j d d k)))

alike : (P Q : ℕ → Type 0) (n : ℕ) (r : Option ℕ) → ((i : ℕ) → i < n → P i → Q i) → ((i : ℕ) → i < n → Q i → P i) → IsFirst P n r → IsFirst Q n r
alike P Q n None to from f = λ i h. to i h (f i h)
alike P Q n (Some i) to from f = (f.0, ((λ q. f.1.0 (from i f.0 q)), λ j h. let l = f.0 in to j (omega (arith, h, l)) (f.1.1 j h)))

-- The first type without a good name, and the first text that is an earlier one, give the first that
-- has no good name or an earlier one's.
pub first_named : IsOfOne RustSpells → (types : List TypeDef) (texts : List (Option (List ℕ))) (a b : Option ℕ) → AreNamed types → texts ≡ map rust_text_of types → IsFirst (HoldsAt HasGoodName types) (length types) a → IsFirst (IsNewText texts) (length texts) b → IsFirst (λ i. HoldsAt HasGoodName types i × IsNewName types i) (length types) (earlier a b)
first_named one types texts a b named is f g =
    let long : length texts ≡ length types = ap length is ∙ length-map types rust_text_of in
    let g' : IsFirst (IsNewText (map rust_text_of types)) (length types) b = subst (λ n. IsFirst (IsNewText (map rust_text_of types)) n b) long (subst (λ (t : List (Option (List ℕ))). IsFirst (IsNewText t) (length texts) b) is g) in
    alike (λ i. HoldsAt HasGoodName types i × IsNewText (map rust_text_of types) i) (λ i. HoldsAt HasGoodName types i × IsNewName types i) (length types) (earlier a b)
    (λ i h s. (s.0, to_names types i h s.0 s.1)) (λ i h s. (s.0, to_texts one types named i h s.0 s.1))
    (first_of_both (HoldsAt HasGoodName types) (IsNewText (map rust_text_of types)) (length types) a b f g')
