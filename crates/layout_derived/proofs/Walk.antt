-- The walk from a type to what its name is made over.
use Rattle.std.proofs.Common.{◌≡◌, ◌∙◌, refl, sym, ap, subst, ℕ, suc, ◌<◌, List, [], ◌++◌, length, take, drop, get_or, slice_get, Option, Some, None, option_map, IsSomeAnd, append_assoc, arith}
use Rattle.std.specs.Prelude.{IfSome}
use Rattle.std.proofs.lemmas.List.{take-append-drop}
use Rattle.std.proofs.lemmas.List.Elements.{All-head}
use Rattle.std.proofs.Math.Seq.{take-append_seam}
use Rattle.std.proofs.lemmas.Option.{slice_get_within, slice_get_read, get_or_from_slice_get}
use Rattle.names.specs.declared.name.Name.{Name}
use Rattle.type_names.specs.RustText.{rust_text}
use Rattle.layout_set.specs.declared.primitive.Primitive.{Primitive}
use Rattle.layout_set.specs.declared.set.TypeDef.{TypeDef}
use Rattle.layout_set.specs.declared.set.TypeDef.TheVariants.{Struct, Array, Thin, Slice, Str, Dyn, FnPtr, CLike, Enum, Bytes}
use Rattle.layout_set.specs.declared.set.TypeRef.{TypeRef}
use Rattle.layout_set.specs.declared.set.TypeRef.TheVariants.{Prim, User}
use Rattle.layout_set.specs.DerivedNames.{prim_name, own_name, function_name, Link, link, Derived, of_prim, of_type, of_link}
use Rattle.layout_set.specs.Law1.{IsWithin}
use Rattle.layout_set.specs.Law11.{IsNameless, StandsBefore, StandsAfterNameless}
use Rattle.layout_name_laws.proofs.NameLengths.{clash, link_only}
use Rattle.layout_derived.specs.declared.step.Step.{Step}
use Rattle.layout_derived.specs.DerivedTexts.{HasDerived, AppendsDerived, StandInOrder, prim_word, before, after, step_of_def, step_at, step_of}
use Rattle.layout_derived.proofs.Texts.{prim_texts, over, around_text}

-- a step as a link
abbrev pub link_by : Step → Link
link_by s = record { to = s.to; over = over s.around }

is_link : (t : TypeDef) → link t ≡ option_map link_by (step_of_def t)
is_link (Struct name n align params fields) = refl
is_link (Array elem count) = refl
is_link (Thin kind to) = refl
is_link (Slice name kind first) = refl
is_link (Str name kind first) = refl
is_link (Dyn name kind first vtable) = refl
is_link FnPtr = refl
is_link (CLike name tag cases) = refl
is_link (Enum name n align params tag variants) = refl
is_link (Bytes name n align) = refl

-- the type from which a step leads
record Leads (types : List TypeDef) (i : ℕ) (s : Step) : Type 0 where
  t : TypeDef
  at : slice_get types i ≡ Some t
  is : step_of_def t ≡ Some s

leads : (types : List TypeDef) (i : ℕ) (o : Option TypeDef) (s : Step) → slice_get types i ≡ o → step_at o ≡ Some s → Leads types i s
leads types i None s at e = clash s e
leads types i (Some t) s at e = record { t = t; at = at; is = e }

leads_from : (types : List TypeDef) (i : ℕ) (s : Step) → step_of types (User i) ≡ Some s → Leads types i s
leads_from types i s e = leads types i (slice_get types i) s refl e

links : (types : List TypeDef) (i : ℕ) (s : Step) (l : Leads types i s) → link l.t ≡ Some (link_by s)
links types i s l = is_link l.t ∙ ap (option_map link_by) l.is

-- three texts, one after the other
three : (old a b c x y z : List ℕ) → a ≡ old ++ x → b ≡ a ++ y → c ≡ b ++ z → c ≡ old ++ (x ++ (y ++ z))
three old a b c x y z p q r =
    r ∙ ap (λ t. t ++ z) q ∙ ap (λ t. (t ++ y) ++ z) p
    ∙ append_assoc (old ++ x) y z ∙ append_assoc old x (y ++ z)

-- what keeps a longer front keeps a shorter one
shorter_front : (old mid new rest : List ℕ) → mid ≡ old ++ rest → take (length mid) new ≡ mid → take (length old) new ≡ old
shorter_front old mid new rest e h =
    let whole : new ≡ old ++ (rest ++ drop (length mid) new) =
    sym (take-append-drop (length mid) new) ∙ ap (λ t. t ++ drop (length mid) new) (h ∙ e) ∙ append_assoc old rest (drop (length mid) new) in
    ap (take (length old)) whole ∙ take-append_seam old (rest ++ drop (length mid) new)

-- the same for what a name has been appended to
pub front_before : (types : List TypeDef) (ty : TypeRef) (old mid long new rest : List ℕ) → mid ≡ old ++ rest → AppendsDerived types ty mid long
    → take (length long) new ≡ long → take (length old) new ≡ old
front_before types ty old mid long new rest e a h = shorter_front old mid new rest e (shorter_front mid long new (rust_text a.name) a.appended h)

-- the name that a step leads to, between its two texts
pub of_step : (types : List TypeDef) (ty : TypeRef) (s : Step) (old a b c : List ℕ) → step_of types ty ≡ Some s → a ≡ old ++ before s.around
    → AppendsDerived types s.to a b → c ≡ b ++ after s.around → AppendsDerived types ty old c
of_step types (Prim prim) s old a b c e p h r = clash s e
of_step types (User i) s old a b c e p h r = let l = leads_from types i s e in record {
  name = over s.around h.name;
  derived = of_link i l.t (link_by s) h.name l.at (links types i s l) h.derived;
  appended = three old a b c (before s.around) (rust_text h.name) (after s.around) p h.appended r ∙ ap (λ t. old ++ t) (sym (around_text s.around h.name));
}

pub of_primitive : (types : List TypeDef) (prim : Primitive) (old new : List ℕ) → new ≡ old ++ prim_word prim → AppendsDerived types (Prim prim) old new
of_primitive types prim old new e = record { name = prim_name prim; derived = of_prim prim; appended = e ∙ ap (λ t. old ++ t) (sym (prim_texts prim)) }

-- a name of its own
named : (types : List TypeDef) (i : ℕ) (t : TypeDef) (name : Name) (old new : List ℕ) → slice_get types i ≡ Some t → own_name t ≡ Some name
    → new ≡ old ++ rust_text name → AppendsDerived types (User i) old new
named types i t name old new at is e = record { name = name; derived = of_type i t name at is; appended = e }

own : (types : List TypeDef) (i : ℕ) (t : TypeDef) (old new : List ℕ) → slice_get types i ≡ Some t → step_of_def t ≡ None
    → IfSome (own_name t) (λ name. new ≡ old ++ rust_text name) → AppendsDerived types (User i) old new
own types i (Struct name n align params fields) old new at e h = named types i _ name old new at refl h
own types i (Array elem count) old new at e h = clash _ (sym e)
own types i (Thin kind to) old new at e h = clash _ (sym e)
own types i (Slice name kind first) old new at e h = named types i _ name old new at refl h
own types i (Str name kind first) old new at e h = named types i _ name old new at refl h
own types i (Dyn name kind first vtable) old new at e h = named types i _ name old new at refl h
own types i FnPtr old new at e h = named types i _ function_name old new at refl h
own types i (CLike name tag cases) old new at e h = named types i _ name old new at refl h
own types i (Enum name n align params tag variants) old new at e h = named types i _ name old new at refl h
own types i (Bytes name n align) old new at e h = named types i _ name old new at refl h

-- the name of a type that leads no further
pub of_own : (types : List TypeDef) (i : ℕ) (t : TypeDef) (old new : List ℕ) → i < length types → t ≡ get_or types i t → step_of types (User i) ≡ None
    → IfSome (own_name t) (λ name. new ≡ old ++ rust_text name) → AppendsDerived types (User i) old new
of_own types i t old new l is e h =
    let at : slice_get types i ≡ Some t = slice_get_read types (length types) i t refl l is in
    own types i t old new at (sym (ap step_at at) ∙ e) h

-- from where a step leads: one more than the place, and 0 from where none does
abbrev pub height : ℕ → Option Step → ℕ
height i None = 0
height i (Some s) = suc i

abbrev pub rank : List TypeDef → TypeRef → ℕ
rank types (Prim prim) = 0
rank types (User i) = height i (step_of types (User i))

lower : (i j : ℕ) (o : Option TypeDef) → (IsSomeAnd o IsNameless → j < i) → height j (step_at o) < suc i
lower i j None h = omega arith
lower i j (Some (Struct name n align params fields)) h = omega arith
lower i j (Some (Array elem count)) h = let l : j < i = h tt in omega (arith, l)
lower i j (Some (Thin kind to)) h = let l : j < i = h tt in omega (arith, l)
lower i j (Some (Slice name kind first)) h = omega arith
lower i j (Some (Str name kind first)) h = omega arith
lower i j (Some (Dyn name kind first vtable)) h = omega arith
lower i j (Some FnPtr) h = omega arith
lower i j (Some (CLike name tag cases)) h = omega arith
lower i j (Some (Enum name n align params tag variants)) h = omega arith
lower i j (Some (Bytes name n align)) h = omega arith

before_is_lower : (types : List TypeDef) (i : ℕ) (to : TypeRef) → StandsBefore types i to → rank types to < suc i
before_is_lower types i (Prim prim) h = omega arith
before_is_lower types i (User j) h = lower i j (slice_get types j) h

-- what a type leads to is a type that it refers to
refers : (types : List TypeDef) (i : ℕ) (t : TypeDef) → StandsAfterNameless types i t → IfSome (step_of_def t) (λ s. StandsBefore types i s.to)
refers types i (Struct name n align params fields) h = tt
refers types i (Array elem count) h = All-head (StandsBefore types i) elem [] h
refers types i (Thin kind to) h = All-head (StandsBefore types i) to [] h
refers types i (Slice name kind first) h = tt
refers types i (Str name kind first) h = tt
refers types i (Dyn name kind first vtable) h = tt
refers types i FnPtr h = tt
refers types i (CLike name tag cases) h = tt
refers types i (Enum name n align params tag variants) h = tt
refers types i (Bytes name n align) h = tt

stands : (types : List TypeDef) (i : ℕ) (t : TypeDef) → StandInOrder types → slice_get types i ≡ Some t → StandsAfterNameless types i t
stands types i t h at = subst (StandsAfterNameless types i) (get_or_from_slice_get types i t t at) (h i (slice_get_within types i t at) t)

-- a step leads lower
pub falls : (types : List TypeDef) (ty : TypeRef) (s : Step) → StandInOrder types → step_of types ty ≡ Some s → rank types s.to < rank types ty
falls types (Prim prim) s h e = clash s e
falls types (User i) s h e =
    let l = leads_from types i s e in
    let b : StandsBefore types i s.to = subst (λ o. IfSome o (λ x. StandsBefore types i x.to)) l.is (refers types i l.t (stands types i l.t h l.at)) in
    subst (λ o. rank types s.to < height i o) (sym e) (before_is_lower types i s.to b)

-- what a step leads to has a derived name
pub inner : (types : List TypeDef) (ty : TypeRef) (s : Step) → step_of types ty ≡ Some s → HasDerived types ty → HasDerived types s.to
inner types (Prim prim) s e h = clash s e
inner types (User i) s e h =
    let l = leads_from types i s e in
    let x = link_only types i l.t (link_by s) h.0 l.at (links types i s l) h.1 in
    (x.0, x.1.0)

derived_within : (types : List TypeDef) (ty : TypeRef) (name : Name) → Derived types ty name → IsWithin (length types) ty
derived_within types _ _ (of_prim prim) = tt
derived_within types _ _ (of_type i t name at is) = slice_get_within types i t at
derived_within types _ _ (of_link i t l name at is d) = slice_get_within types i t at

-- what has a derived name is there
pub within : (types : List TypeDef) (ty : TypeRef) → HasDerived types ty → IsWithin (length types) ty
within types ty h = derived_within types ty h.0 h.1
