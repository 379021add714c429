-- The names of a set that sections describe are Rust's, or raw texts.
use Rattle.std.proofs.Common.{◌≡◌, ℕ, nat_le, ◌&&◌, Bool, true, false, if◌then◌else◌, List, [], ◌∷◌, length, map, Option, Some, None, IfSome, inl, inr, refl, sym, ap, ◌∙◌, subst, unwrap_or}
use Rattle.std.specs.List.{All, filter}
use Rattle.std.proofs.lemmas.List.Elements.{All-nil, All-cons}
use Rattle.names.specs.declared.name.Name.{Name, out-Name, roll-Name, out-roll-Name, roll-out-Name}
use Rattle.names.specs.declared.name.Name.TheOpen.{Name-F}
use Rattle.names.specs.declared.name.Name.TheVariants.{Raw, rolls-Raw}
use Rattle.names.specs.declared.name.PtrKind.{PtrKind}
use Rattle.bundle_file.specs.declared.sections.DwarfSections.{DwarfSections}
use Rattle.layout_set.specs.IsSet.{IsNamed, IsSet}
use Rattle.layout_set.specs.DerivedNames.{name_of as name_in}
use Rattle.layout_set.specs.NameShapes.{fat_of}
use Rattle.layout_set.specs.declared.shapes.FatContent.{FatContent}
use Rattle.layout_set.specs.declared.func.Func.{Func}
use Rattle.layout_set.specs.declared.set.Set.{Set}
use Rattle.layout_set.specs.declared.set.TypeRef.{TypeRef}
use Rattle.layout_set.specs.declared.set.Static.{Static}
use Rattle.layout_set.specs.declared.set.TypeDef.{TypeDef}
use Rattle.dwarf_entries.specs.Dies.{Die, Info, info_of, what}
use Rattle.dwarf_entries.specs.Enums.{part_of}
use Rattle.dwarf_entries.specs.Names.{joined_text, name_of, name_of_text, named_or_raw, proper_name}
use Rattle.dwarf_entries.specs.Codes.{at_name}
use Rattle.dwarf_entries.specs.Origins.{bearer_of}
use Rattle.dwarf_entries.specs.Pointers.{fat_pair, fat_pointer, kind_of_name, pointee_of, pointer_def}
use Rattle.dwarf_entries.specs.Said.{Said, set_of, type_dies}
use Rattle.dwarf_entries.specs.TypeLinks.{or_unit, type_of}
use Rattle.dwarf_entries.specs.Statics.{static_of}
use Rattle.dwarf_entries.specs.Structures.{fields_of, members_of, params_of}
use Rattle.dwarf_entries.specs.Types.{alignment_of, count_of, enum_def, enumeration_def, size_of, structure_def, type_def}
use Rattle.dwarf_entries.specs.declared.tag.Tag.{Tag}
use Rattle.dwarf_entries.proofs.ProperNames.{names_read}
use Rattle.dwarf_info.specs.Reads.{DescribeSet, bytes_in}

raw_layer : (text : List ℕ) → out-Name (Raw text) ≡ Name-F.Raw text
raw_layer text = ap out-Name (sym (rolls-Raw text)) ∙ out-roll-Name (Name-F.Raw text)

raw_named : (text : List ℕ) → IsNamed (Raw text)
raw_named text = inr (rw (raw_layer text) refl)

proper_or_raw : (text : List ℕ) (o : Option Name) → proper_name text ≡ o → IsNamed (named_or_raw text o)
proper_or_raw text None h = raw_named text
proper_or_raw text (Some name) h = inl (names_read.spelled name text h).0

short_or_long : (text : List ℕ) (b : Bool) → IsNamed (if b then named_or_raw text (proper_name text) else Raw text)
short_or_long text true = proper_or_raw text (proper_name text) refl
short_or_long text false = raw_named text

pub named : (info : Info) (d : Die) → IsNamed (name_of info d)
named info d = short_or_long (joined_text info d) (nat_le (length (joined_text info d)) 1000)

-- a type is named where it has a name
abbrev IsNamedType : TypeDef → Type 0
IsNamedType t = IfSome (name_in t) IsNamed

abbrev AreNamedIf : Option TypeDef → Type 0
AreNamedIf o = IfSome o IsNamedType

if_named : (b : Bool) (t : TypeDef) → IsNamedType t → AreNamedIf (if b then Some t else None)
if_named true t h = h
if_named false t h = tt

pair_named : (info : Info) (name : Name) (kind : PtrKind) (content : FatContent) (a b : Die) → IsNamed name → AreNamedIf (fat_pair info name kind content a b)
pair_named info name kind FatContent.OfSlice a b h = if_named _ (TypeDef.Slice name kind _) h
pair_named info name kind FatContent.OfStr a b h = if_named _ (TypeDef.Str name kind _) h
pair_named info name kind FatContent.OfDyn a b h = if_named _ (TypeDef.Dyn name kind _ _) h

abbrev fat_with : Info → Name → Option (PtrKind × FatContent) → List Die → Option TypeDef
fat_with info name (Some fat) (a ∷ b ∷ []) = fat_pair info name fat.0 fat.1 a b
fat_with info name _ _ = None

with_named : (info : Info) (name : Name) (fat : Option (PtrKind × FatContent)) (members : List Die) → IsNamed name → AreNamedIf (fat_with info name fat members)
with_named info name None members h = tt
with_named info name (Some fat) [] h = tt
with_named info name (Some fat) (a ∷ []) h = tt
with_named info name (Some fat) (a ∷ b ∷ []) h = pair_named info name fat.0 fat.1 a b h
with_named info name (Some fat) (a ∷ b ∷ c ∷ members) h = tt

fat_named : (info : Info) (d : Die) → AreNamedIf (fat_pointer info d)
fat_named info d = with_named info (name_of info d) (fat_of (name_of info d)) (members_of info d) (named info d)

abbrev structure_from : Info → Die → Option Die → Option TypeDef → TypeDef
structure_from info d (Some part) fat = enum_def info d part
structure_from info d None (Some fat) = fat
structure_from info d None None = TypeDef.Struct (name_of info d) (size_of d) (alignment_of d) (params_of info d) (fields_of info d)

structure_named : (info : Info) (d : Die) → IsNamedType (structure_def info d)
structure_named info d = by_part (part_of info d)
  where
    by_fat : (fat : Option TypeDef) → AreNamedIf fat → IsNamedType (structure_from info d None fat)
    by_fat (Some fat) h = h
    by_fat None h = named info d

    by_part : (part : Option Die) → IsNamedType (structure_from info d part (fat_pointer info d))
    by_part (Some part) = named info d
    by_part None = by_fat (fat_pointer info d) (fat_named info d)

-- a pointer has no name of its own
abbrev thin_or_function : PtrKind → Option TypeRef → TypeDef
thin_or_function kind None = TypeDef.FnPtr
thin_or_function kind (Some to) = TypeDef.Thin kind to

either_unnamed : (kind : PtrKind) (to : Option TypeRef) → IsNamedType (thin_or_function kind to)
either_unnamed kind None = tt
either_unnamed kind (Some to) = tt

pointer_named : (info : Info) (d : Die) → IsNamedType (pointer_def info d)
pointer_named info d = either_unnamed (kind_of_name (joined_text info d)) (pointee_of info d)

abbrev def_by : Info → Die → Option Tag → TypeDef
def_by info d (Some Tag.StructureType) = structure_def info d
def_by info d (Some Tag.PointerType) = pointer_def info d
def_by info d (Some Tag.ArrayType) = TypeDef.Array (or_unit (type_of info d)) (unwrap_or (count_of info d) 0)
def_by info d (Some Tag.EnumerationType) = enumeration_def info d
def_by info d _ = TypeDef.Bytes (name_of info d) (size_of d) (alignment_of d)

by_tag : (info : Info) (d : Die) (t : Option Tag) → IsNamedType (def_by info d t)
by_tag info d None = named info d
by_tag info d (Some Tag.CompileUnit) = named info d
by_tag info d (Some Tag.Namespace) = named info d
by_tag info d (Some Tag.BaseType) = named info d
by_tag info d (Some Tag.StructureType) = structure_named info d
by_tag info d (Some Tag.UnionType) = named info d
by_tag info d (Some Tag.Member) = named info d
by_tag info d (Some Tag.TemplateTypeParameter) = named info d
by_tag info d (Some Tag.VariantPart) = named info d
by_tag info d (Some Tag.Variant) = named info d
by_tag info d (Some Tag.PointerType) = pointer_named info d
by_tag info d (Some Tag.ArrayType) = tt
by_tag info d (Some Tag.SubrangeType) = named info d
by_tag info d (Some Tag.EnumerationType) = named info d
by_tag info d (Some Tag.Enumerator) = named info d
by_tag info d (Some Tag.SubroutineType) = named info d
by_tag info d (Some Tag.Typedef) = named info d
by_tag info d (Some Tag.Subprogram) = named info d
by_tag info d (Some Tag.LexicalBlock) = named info d
by_tag info d (Some Tag.Variable) = named info d
by_tag info d (Some Tag.FormalParameter) = named info d

pub type_named : (info : Info) (d : Die) → IsNamedType (type_def info d)
type_named info d = by_tag info d (what d)

types_named : (info : Info) (l : List Die) → All IsNamedType (map (type_def info) l)
types_named info [] = All-nil IsNamedType
types_named info (d ∷ l) = All-cons IsNamedType (type_def info d) (map (type_def info) l) (type_named info d) (types_named info l)

abbrev IsNamedStatic : Static → Type 0
IsNamedStatic s = IsNamed s.name

statics_named : (info : Info) (l : List Die) → All IsNamedStatic (map (static_of info) l)
statics_named info [] = All-nil IsNamedStatic
statics_named info (d ∷ l) = All-cons IsNamedStatic (static_of info d) (map (static_of info) l) (named info (unwrap_or (bearer_of at_name info d) d)) (statics_named info l)

-- what entries say is a set of names
said_is_set : (info : Info) → IsSet (set_of info)
said_is_set info = record { types = types_named info _; statics = statics_named info _; funcs = All-nil (λ (f : Func). IsNamed f.name) }

pub described_is_set : (s : DwarfSections) (set : Set) → DescribeSet s set → IsSet set
described_is_set s set h = subst IsSet (sym (h.is ∙ ap (λ (x : Said). x.set) h.says.1.1.1)) (said_is_set (info_of (bytes_in s) h.says.0))
