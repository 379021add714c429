-- The readers of the contents of type records, for proofs.
use Rattle.std.specs.Prelude.{ℕ, if◌then◌else◌, List, Option, Some, None}
use Rattle.rv_bytes.specs.Readers.{got, Reader, and_then, with_value}
use Rattle.rv_bytes.specs.NumberReaders.{read_number, read_text, read_numeric}
use Rattle.cv_parts.specs.RecordReaders.{read_to_end, read_so_many}
use Rattle.cv_type_records.specs.Members.{kept}
use Rattle.cv_type_records.specs.MemberReaders.{read_member}
use Rattle.cv_type_records.specs.Contents.{has_unique}
use Rattle.cv_type_records.specs.declared.leaves.TypeLeaf.{TypeLeaf}
use Rattle.cv_type_records.specs.declared.kinds.TypeKind.{TypeKind}

abbrev pub read_modifier : Reader ℕ TypeKind
read_modifier n s = and_then (read_number 4 n s) (λ ty m k. with_value (TypeKind.Modifier ty) (read_number 2 m k))

abbrev pub read_pointer : Reader ℕ TypeKind
read_pointer n s = and_then (read_number 4 n s) (λ ty m k. with_value (TypeKind.Pointer ty) (read_number 4 m k))

abbrev pub read_procedure : Reader ℕ TypeKind
read_procedure n s =
    and_then (read_number 4 n s) (λ returned m k. and_then (read_number 1 m k) (λ call j l. and_then (read_number 1 j l) (λ options i h. and_then (read_number 2 i h)
    (λ count g f. with_value (TypeKind.Procedure returned call options count) (read_number 4 g f)))))

abbrev pub read_arglist : Reader ℕ TypeKind
read_arglist n s = and_then (read_number 4 n s) (λ count m k. with_value TypeKind.ArgList (read_so_many (read_number 4) count m k))

abbrev pub read_fieldlist : ℕ → Reader ℕ TypeKind
read_fieldlist size n s = with_value TypeKind.FieldList (with_value kept (read_to_end (λ _. read_member) size n s))

abbrev pub read_array : Reader ℕ TypeKind
read_array n s =
    and_then (read_number 4 n s) (λ elem m k. and_then (read_number 4 m k) (λ index j l. and_then (read_numeric j l) (λ size i h. with_value (TypeKind.Array elem index size) (read_text i h))))

abbrev pub read_unique : ℕ → Reader ℕ (Option (List ℕ))
read_unique property n s = if has_unique property then with_value (λ t. Some t) (read_text n s) else got None n s

abbrev pub read_structure : Reader ℕ TypeKind
read_structure n s =
    and_then (read_number 2 n s) (λ count n s. and_then (read_number 2 n s) (λ property n s. and_then (read_number 4 n s) (λ fields n s. and_then (read_number 4 n s) (λ derived n s.
    and_then (read_number 4 n s) (λ vshape n s. and_then (read_numeric n s) (λ size n s. and_then (read_text n s) (λ name n s.
    with_value (TypeKind.Structure count property fields derived vshape size name) (read_unique property n s))))))))

abbrev pub read_union : Reader ℕ TypeKind
read_union n s =
    and_then (read_number 2 n s) (λ count n s. and_then (read_number 2 n s) (λ property n s. and_then (read_number 4 n s) (λ fields n s. and_then (read_numeric n s) (λ size n s.
    and_then (read_text n s) (λ name n s. with_value (TypeKind.Union count property fields size name) (read_unique property n s))))))

abbrev pub read_enum : Reader ℕ TypeKind
read_enum n s =
    and_then (read_number 2 n s) (λ count n s. and_then (read_number 2 n s) (λ property n s. and_then (read_number 4 n s) (λ ty n s. and_then (read_number 4 n s) (λ fields n s.
    and_then (read_text n s) (λ name n s. with_value (TypeKind.Enum count property ty fields name) (read_unique property n s))))))

-- the reader of `by_kind`
abbrev pub read_by_kind : TypeLeaf → ℕ → Reader ℕ TypeKind
read_by_kind TypeLeaf.Modifier size n s = read_modifier n s
read_by_kind TypeLeaf.Pointer size n s = read_pointer n s
read_by_kind TypeLeaf.Procedure size n s = read_procedure n s
read_by_kind TypeLeaf.ArgList size n s = read_arglist n s
read_by_kind TypeLeaf.FieldList size n s = read_fieldlist size n s
read_by_kind TypeLeaf.Array size n s = read_array n s
read_by_kind TypeLeaf.Structure size n s = read_structure n s
read_by_kind TypeLeaf.Union size n s = read_union n s
read_by_kind TypeLeaf.Enum size n s = read_enum n s

-- the reader of `by_leaf`
abbrev pub read_by_leaf : Option TypeLeaf → ℕ → ℕ → Reader ℕ TypeKind
read_by_leaf None kind size n s = got (TypeKind.Other kind) n s
read_by_leaf (Some leaf) kind size n s = read_by_kind leaf size n s
