-- What holds of all that a type contains holds of its fields, variant by variant.
use Rattle.std.proofs.Common.{ℕ, zero, suc, ◌<◌, Bool, true, false, cond, List, [], ◌∷◌, ◌++◌, length, Option, Some, None, refl, arith}
use Rattle.std.specs.List.{All, AllByRecursion, Contains}
use Rattle.std.proofs.lemmas.List.Elements.{All-contains}
use Rattle.layout_set.specs.declared.set.Field.{Field}
use Rattle.layout_set.specs.declared.set.TypeRef.{TypeRef}
use Rattle.layout_set.specs.declared.set.Variant.{Variant}
use Rattle.layout_values.specs.Choice.{chosen, is_chosen_by}
use Rattle.layout_set.specs.References.{field_types, variant_types}

member_head : {X : Type 0} (x : X) (xs : List X) → Contains (x ∷ xs) x
member_head x xs = (zero, (let z : zero < suc (length xs) = omega arith in z), refl)

member_tail : {X : Type 0} (y x : X) (xs : List X) → Contains xs x → Contains (y ∷ xs) x
member_tail y x xs c = (suc c.0, (let h = c.1 in let z : suc c.0 < suc (length xs) = omega (arith, h) in z), c.2)

pub each_of : {X : Type 0} (P : X → Type 0) (xs : List X) → ((x : X) → Contains xs x → P x) → AllByRecursion P xs
each_of P [] h = tt
each_of P (x ∷ xs) h = (h x (member_head x xs), each_of P xs (λ y m. h y (member_tail x y xs m)))

pub of_all : {X : Type 0} (P : X → Type 0) (xs : List X) → All P xs → AllByRecursion P xs
of_all P xs h = each_of P xs (λ x m. All-contains P xs x h m)

pub more_of : {X : Type 0} (P Q : X → Type 0) (xs : List X) → ((x : X) → P x → Q x) → AllByRecursion P xs → AllByRecursion Q xs
more_of P Q [] h a = tt
more_of P Q (x ∷ xs) h a = (h x a.0, more_of P Q xs h a.1)

split : {X : Type 0} (P : X → Type 0) (xs ys : List X) → AllByRecursion P (xs ++ ys) → AllByRecursion P xs × AllByRecursion P ys
split P [] ys a = (tt, a)
split P (x ∷ xs) ys a = let r = split P xs ys a.1 in ((a.0, r.0), r.1)

-- the types of all fields
abbrev pub OfFields : (TypeRef → Type 0) → List Field → Type 0
OfFields P fields = AllByRecursion (λ f. P f.ty) fields

pub of_fields : (P : TypeRef → Type 0) (fields : List Field) → AllByRecursion P (field_types fields) → OfFields P fields
of_fields P [] a = tt
of_fields P (f ∷ fields) a = (a.0, of_fields P fields a.1)

pub of_variants : (P : TypeRef → Type 0) (variants : List Variant) → AllByRecursion P (variant_types variants) →
    AllByRecursion (λ v. OfFields P v.fields) variants
of_variants P [] a = tt
of_variants P (v ∷ variants) a = let r = split P (field_types v.fields) (variant_types variants) a in (of_fields P v.fields r.0, of_variants P variants r.1)

-- P holds of what is there
abbrev pub OfSome : {A : Type 0} → (A → Type 0) → Option A → Type 0
OfSome P None = Unit {0}
OfSome P (Some a) = P a

of_cond : {A : Type 0} (P : A → Type 0) (b : Bool) (a : A) (o : Option A) → P a → OfSome P o → OfSome P (cond b (Some a) o)
of_cond P true a o h g = h
of_cond P false a o h g = g

-- the chosen variant is one of them
pub of_chosen : (P : Variant → Type 0) (variants : List Variant) (n : ℕ) → AllByRecursion P variants → OfSome P (chosen variants n)
of_chosen P [] n a = tt
of_chosen P (v ∷ variants) n a = of_cond P (is_chosen_by n v) v (chosen variants n) a.0 (of_chosen P variants n a.1)
