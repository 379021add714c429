-- The fields of type records that were appended, by the record's kind.
use Rattle.std.proofs.Common.{◌≡◌, ◌<◌, ◌≤◌, ℕ, ◌+◌, ◌-◌, ◌^◌, ℤ, List, [], ◌∷◌, ◌++◌, length, Option, is_some, refl, ap, subst, ◌∙◌, arith, length-append}
use Rattle.byteorder.specs.Endian.{little_bytes}
use Rattle.byteorder.specs.Numbers.{length-bytes_low_first}
use Rattle.rv_bytes.specs.Forms.{made}
use Rattle.rv_bytes.specs.Numbers.{number}
use Rattle.cv_parts.specs.Puts.{Puts, pads, pad_size}
use Rattle.cv_parts.specs.Series.{so_many}
use Rattle.cv_parts.proofs.PutForms.{puts_made}
use Rattle.cv_type_records.specs.Leaves.{leaf_of}
use Rattle.cv_type_records.specs.Contents.{modifier, pointer, procedure, fieldlist, array, has_unique, unique, structure, union, enum, contents}
use Rattle.cv_type_records.specs.Types.{type_rec}
use Rattle.cv_type_records.specs.declared.kinds.Member.{Member}
use Rattle.cv_type_records.specs.declared.kinds.TypeKind.{TypeKind}
use Rattle.cv_record_writer.specs.Contents.{all_bytes, record_bytes}
use Rattle.cv_record_writer.proofs.Fields.{number_then}
use Rattle.cv_record_writer.proofs.RecordSpelled.{record_spelled, after_kind}
use Rattle.cv_type_writer.specs.TypeBytes.{type_number, arglist_bytes, fieldlist_bytes, unique_bytes, fields_bytes}
use Rattle.cv_type_writer.specs.TypeRecords.{type_content}
use Rattle.cv_type_writer.specs.Appended.{PutsMembers, PutsUnique, PutsFields, PutsType}
use Rattle.cv_type_writer.proofs.PadSizes.{pads_long}
use Rattle.cv_type_writer.proofs.MemberLists.{members_aligned}

-- a unique name, where the property says that it is there
pub unique_puts : (property : ℕ) (name : Option (List ℕ)) (old new : List ℕ) → PutsUnique name old new → has_unique property ≡ is_some name → Puts (unique property) name (unique_bytes name) old new
unique_puts property name old new p e = record { appended = p.appended; spells = p.spells property e }

-- records whose fields don't depend on how many bytes they have
pub modifier_fields : (ty modifiers : ℕ) (bytes old new : List ℕ) → Puts modifier (TypeKind.Modifier ty modifiers) bytes old new → PutsFields (TypeKind.Modifier ty modifiers) bytes old new
unfolding leaf_of
modifier_fields ty modifiers bytes old new p = record { appended = p.appended; spells = p.spells }

pub pointer_fields : (ty attributes : ℕ) (bytes old new : List ℕ) → Puts pointer (TypeKind.Pointer ty attributes) bytes old new → PutsFields (TypeKind.Pointer ty attributes) bytes old new
unfolding leaf_of
pointer_fields ty attributes bytes old new p = record { appended = p.appended; spells = p.spells }

pub procedure_fields : (returned call options count args : ℕ) (bytes old new : List ℕ) → Puts procedure (TypeKind.Procedure returned call options count args) bytes old new
    → PutsFields (TypeKind.Procedure returned call options count args) bytes old new
unfolding leaf_of
procedure_fields returned call options count args bytes old new p = record { appended = p.appended; spells = p.spells }

pub array_fields : (elem index : ℕ) (size : ℤ) (name : List ℕ) (bytes old new : List ℕ) → Puts array (TypeKind.Array elem index size name) bytes old new → PutsFields (TypeKind.Array elem index size name) bytes old new
unfolding leaf_of
array_fields elem index size name bytes old new p = record { appended = p.appended; spells = p.spells }

pub structure_fields : (count property fields derived vshape : ℕ) (size : ℤ) (name : List ℕ) (again : Option (List ℕ)) (bytes old new : List ℕ)
    → Puts structure (TypeKind.Structure count property fields derived vshape size name again) bytes old new → PutsFields (TypeKind.Structure count property fields derived vshape size name again) bytes old new
unfolding leaf_of
structure_fields count property fields derived vshape size name again bytes old new p = record { appended = p.appended; spells = p.spells }

pub union_fields : (count property fields : ℕ) (size : ℤ) (name : List ℕ) (again : Option (List ℕ)) (bytes old new : List ℕ)
    → Puts union (TypeKind.Union count property fields size name again) bytes old new → PutsFields (TypeKind.Union count property fields size name again) bytes old new
unfolding leaf_of
union_fields count property fields size name again bytes old new p = record { appended = p.appended; spells = p.spells }

pub enum_fields : (count property ty fields : ℕ) (name : List ℕ) (again : Option (List ℕ)) (bytes old new : List ℕ)
    → Puts enum (TypeKind.Enum count property ty fields name again) bytes old new → PutsFields (TypeKind.Enum count property ty fields name again) bytes old new
unfolding leaf_of
enum_fields count property ty fields name again bytes old new p = record { appended = p.appended; spells = p.spells }

-- a count, and as many types
pub arglist_fields : (types : List ℕ) (count : ℕ) (old mid new : List ℕ) → count ≡ length types → length types < 256 ^ 4 → mid ≡ old ++ little_bytes 4 count
    → Puts (so_many (number 4) (length types)) types (all_bytes (little_bytes 4) types) mid new → PutsFields (TypeKind.ArgList types) (arglist_bytes types) old new
unfolding leaf_of
arglist_fields types count old mid new c h e p =
    let both = number_then 4 (length types) (λ size. made TypeKind.ArgList (so_many (number 4) size)) (TypeKind.ArgList types) _ old mid new h (e ∙ ap (λ z. old ++ little_bytes 4 z) c) (puts_made TypeKind.ArgList (so_many (number 4) (length types)) types (all_bytes (little_bytes 4) types) mid new p) in
    record { appended = both.appended; spells = both.spells }

-- there are at most as many types as bytes
pub arglist_long : (types : List ℕ) → length types ≤ length (arglist_bytes types)
arglist_long types = omega (arith, indices_long types, length-append (little_bytes 4 (length types)) (all_bytes (little_bytes 4) types))
  where
    indices_long : (ts : List ℕ) → length ts ≤ length (all_bytes (little_bytes 4) ts)
    indices_long [] = omega arith
    indices_long (t ∷ ts) = omega (arith, indices_long ts, length-append (little_bytes 4 t) (all_bytes (little_bytes 4) ts), length-bytes_low_first 0 4 t)

-- members, after which no pad follows
pub fieldlist_fields : (ms : List Member) (old new : List ℕ) → PutsMembers ms old new → PutsFields (TypeKind.FieldList ms) (fieldlist_bytes ms) old new
unfolding leaf_of
fieldlist_fields ms old new p =
    let long = length (fieldlist_bytes ms) in
    let size : long ≡ long + pad_size long = omega (arith, members_aligned ms) in
    record { appended = p.appended; spells = λ n. subst (λ z. (fieldlist z).spells n (TypeKind.FieldList ms) (fieldlist_bytes ms)) size (ms, (refl, p.spells n)) }

-- what is put together for a record is its content
pub content_is : (kind : TypeKind) (number size : ℕ) (none one two three : List ℕ) → none ≡ [] → number ≡ type_number kind → one ≡ none ++ little_bytes 2 number → PutsFields kind (fields_bytes kind) one two
    → size ≡ 2 + length two → three ≡ two ++ pads (pad_size size) → three ≡ type_content kind
content_is kind number size none one two three a b c d s e =
    let start : one ≡ little_bytes 2 (type_number kind) = c ∙ ap (λ l. l ++ little_bytes 2 number) a ∙ ap (little_bytes 2) b in
    let both : two ≡ little_bytes 2 (type_number kind) ++ fields_bytes kind = d.appended ∙ ap (λ l. l ++ fields_bytes kind) start in
    e ∙ ap (λ z. two ++ pads (pad_size z)) s ∙ ap (λ l. l ++ pads (pad_size (2 + length l))) both

-- a whole record
pub type_puts : (kind : TypeKind) (content old new : List ℕ) → type_number kind < 256 ^ 2 → content ≡ type_content kind → length (type_content kind) ≤ 65535 → new ≡ old ++ record_bytes content → (l m : List ℕ)
    → PutsFields kind (fields_bytes kind) l m → PutsType kind old new
type_puts kind content old new k c b e l m p =
    let fields = fields_bytes kind in
    let start = little_bytes 2 (type_number kind) ++ fields in
    let pad = pads (pad_size (2 + length start)) in
    let left : length (start ++ pad) - 2 ≡ length fields + length pad = after_kind (type_number kind) fields pad in
    let long : length start ≡ 2 + length fields = omega (arith, length-append (little_bytes 2 (type_number kind)) fields, length-bytes_low_first 0 2 (type_number kind)) in
    let size : length fields + pad_size (length fields) ≡ length (start ++ pad) - 2 = omega (arith, left, long, pads_long (pad_size (2 + length start))) in
    record {
      appended = e ∙ ap (λ z. old ++ record_bytes z) c;
      spells = record_spelled type_rec contents (type_number kind) kind fields pad k b (λ n. subst (λ z. (contents (type_number kind) z).spells n kind fields) size (p.spells n));
    }
