-- Field lists of two members.
use Rattle.std.proofs.Common.{◌≡◌, ℕ, Bool, true, false, List, [], ◌∷◌, Option, Some, None, refl, ap, ◌∙◌, if◌then◌else◌}
use Rattle.layout_set.specs.NameShapes.{fat_of}
use Rattle.layout_set.specs.declared.shapes.FatContent.{FatContent}
use Rattle.names.specs.declared.name.PtrKind.{PtrKind}
use Rattle.cv_type_defs.specs.FatPointers.{Fat, fat_pointer, is_fat_pair}
use Rattle.cv_type_defs.specs.FieldLists.{Members, Placed}
use Rattle.cv_type_defs.specs.Fields.{CvField}
use Rattle.cv_type_defs.specs.Texts.{name_of_text}
use Rattle.cv_type_records.specs.declared.kinds.TypeRec.{TypeRec}
use Rattle.cv_fields.specs.Members.{field_in, fields_among, two_fields}
use Rattle.cv_fields.specs.Pairs.{fat_by}

abbrev has_two : List Placed → Bool
has_two (a ∷ b ∷ []) = true
has_two _ = false

abbrev fat_with : List TypeRec → Option (PtrKind × FatContent) → List CvField → Option Fat
fat_with records (Some fat) (a ∷ b ∷ []) =
    if is_fat_pair records fat.1 a b then Some (record { kind = fat.0; content = fat.1; first = a; second = b }) else None
fat_with records _ _ = None

-- the fat pointer with these members
abbrev fat_among : List TypeRec → Option (PtrKind × FatContent) → List Placed → Option Fat
fat_among records fat items = if has_two items then fat_with records fat (fields_among items) else None

abbrev with_one : Option CvField → List CvField → List CvField
with_one None l = l
with_one (Some f) l = f ∷ l

abbrev both : Option CvField → Option CvField → Option (CvField × CvField)
both (Some a) (Some b) = Some (a, b)
both _ _ = None

with_fat : (records : List TypeRec) (fat : Option (PtrKind × FatContent)) (a b : CvField) → fat_with records fat (a ∷ b ∷ []) ≡ fat_by records fat a b
with_fat records None a b = refl
with_fat records (Some fat) a b = refl

less_fat : (records : List TypeRec) (fat : Option (PtrKind × FatContent)) (x y : Option CvField) → both x y ≡ None → fat_with records fat (with_one x (with_one y [])) ≡ None
less_fat records None x y h = refl
less_fat records (Some fat) None None h = refl
less_fat records (Some fat) None (Some b) h = refl
less_fat records (Some fat) (Some a) None h = refl
less_fat records (Some fat) (Some a) (Some b) h = absurd (cc)

both_are : (records : List TypeRec) (fat : Option (PtrKind × FatContent)) (x y : Option CvField) (a b : CvField) → both x y ≡ Some (a, b)
    → fat_with records fat (with_one x (with_one y [])) ≡ fat_by records fat a b
both_are records fat None y a b h = absurd (cc)
both_are records fat (Some c) None a b h = absurd (cc)
both_are records fat (Some c) (Some d) a b h =
    let pair : ◌≡◌ {A = CvField × CvField} (c, d) (a, b) = cc in
    let fst : CvField × CvField → CvField = λ p. p.0 in
    let snd : CvField × CvField → CvField = λ p. p.1 in
    let first : c ≡ a = ap fst pair in
    let second : d ≡ b = ap snd pair in
    with_fat records fat c d ∙ ap (λ x. fat_by records fat x d) first ∙ ap (λ x. fat_by records fat a x) second

of_two : (records : List TypeRec) (fat : Option (PtrKind × FatContent)) (items : List Placed) (a b : CvField) → two_fields items ≡ Some (a, b)
    → fat_among records fat items ≡ fat_by records fat a b
of_two records fat [] a b h = absurd (cc)
of_two records fat (x ∷ []) a b h = absurd (cc)
of_two records fat (x ∷ y ∷ []) a b h = both_are records fat (field_in x) (field_in y) a b h
of_two records fat (x ∷ y ∷ z ∷ items) a b h = absurd (cc)

of_others : (records : List TypeRec) (fat : Option (PtrKind × FatContent)) (items : List Placed) → two_fields items ≡ None → fat_among records fat items ≡ None
of_others records fat [] h = refl
of_others records fat (x ∷ []) h = refl
of_others records fat (x ∷ y ∷ []) h = less_fat records fat (field_in x) (field_in y) h
of_others records fat (x ∷ y ∷ z ∷ items) h = refl

-- a structure with two fields is a fat pointer where these are as its name wants them
pub fat_is : (records : List TypeRec) (name : List ℕ) (members : Members) (a b : CvField) → two_fields members.items ≡ Some (a, b)
    → fat_pointer records name members ≡ fat_by records (fat_of (name_of_text name)) a b
fat_is records name members a b h = of_two records (fat_of (name_of_text name)) members.items a b h

-- a structure with other members is none
pub no_fat : (records : List TypeRec) (name : List ℕ) (members : Members) → two_fields members.items ≡ None → fat_pointer records name members ≡ None
no_fat records name members h = of_others records (fat_of (name_of_text name)) members.items h
