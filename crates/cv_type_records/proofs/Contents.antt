-- The readers of the contents of type records are exact.
use Rattle.std.proofs.Common.{ℕ, List, Option, Some, None, lit<}
use Rattle.rv_bytes.specs.Forms.{nothing, made, choose}
use Rattle.rv_bytes.specs.Readers.{got, with_value}
use Rattle.rv_bytes.specs.Numbers.{number, text}
use Rattle.rv_bytes.specs.NumberReaders.{read_number, read_text}
use Rattle.rv_bytes.proofs.Exact.{Exact, nothing_exact, made_exact, choose_exact}
use Rattle.rv_bytes.proofs.ByteNumbers.{number_exact}
use Rattle.rv_bytes.proofs.CheckedTexts.{text_exact}
use Rattle.cv_parts.specs.Series.{to_end, so_many}
use Rattle.cv_parts.specs.RecordReaders.{read_to_end, read_so_many}
use Rattle.cv_parts.proofs.Fields.{number_then, numeric_then, text_then, number_byte}
use Rattle.cv_parts.proofs.Series.{to_end_exact, so_many_exact}
use Rattle.cv_type_records.specs.Leaves.{leaf_of}
use Rattle.cv_type_records.specs.Members.{member, kept}
use Rattle.cv_type_records.specs.MemberReaders.{read_member}
use Rattle.cv_type_records.specs.Contents.{has_unique, unique, by_kind, by_leaf, contents}
use Rattle.cv_type_records.specs.ContentReaders.{read_unique, read_by_kind, read_by_leaf}
use Rattle.cv_type_records.specs.TypeReaders.{read_contents}
use Rattle.cv_type_records.proofs.MemberForms.{member_exact, member_byte}
use Rattle.cv_type_records.specs.declared.leaves.TypeLeaf.{TypeLeaf}
use Rattle.cv_type_records.specs.declared.kinds.TypeKind.{TypeKind}

unique_exact : (property : ℕ) → Exact (unique property) (read_unique property)
unique_exact property = choose_exact (has_unique property) (made (λ t. Some t) text) (nothing None) (λ n s. with_value (λ t. Some t) (read_text n s)) (λ n s. got None n s) (made_exact (λ t. Some t) text read_text text_exact) (nothing_exact None)

-- of a unique name that ends a record
with_unique : {A : Type 0} (f : Option (List ℕ) → A) (property : ℕ) → Exact (made f (unique property)) (λ n s. with_value f (read_unique property n s))
with_unique f property = made_exact f (unique property) (read_unique property) (unique_exact property)

by_kind_exact : (leaf : TypeLeaf) (size : ℕ) → Exact (by_kind leaf size) (read_by_kind leaf size)
by_kind_exact TypeLeaf.Modifier size = number_then 4 _ _ (λ ty. made_exact (TypeKind.Modifier ty) (number 2) (read_number 2) (number_exact 2))
by_kind_exact TypeLeaf.Pointer size = number_then 4 _ _ (λ ty. made_exact (TypeKind.Pointer ty) (number 4) (read_number 4) (number_exact 4))
by_kind_exact TypeLeaf.Procedure size =
    number_then 4 _ _ (λ returned. number_then 1 _ _ (λ call. number_then 1 _ _ (λ options. number_then 2 _ _ (λ count.
    made_exact (TypeKind.Procedure returned call options count) (number 4) (read_number 4) (number_exact 4)))))
by_kind_exact TypeLeaf.ArgList size =
    number_then 4 _ _ (λ count. made_exact TypeKind.ArgList (so_many (number 4) count) (read_so_many (read_number 4) count) (so_many_exact (number 4) (read_number 4) (number_byte 4 (lit< tt)) (number_exact 4) count))
by_kind_exact TypeLeaf.FieldList size =
    made_exact TypeKind.FieldList (made kept (to_end (λ _. member) size)) (λ n s. with_value kept (read_to_end (λ _. read_member) size n s))
    (made_exact kept (to_end (λ _. member) size) (read_to_end (λ _. read_member) size) (to_end_exact (λ _. member) (λ _. read_member) (λ _. member_byte) (λ _. member_exact) size))
by_kind_exact TypeLeaf.Array size =
    number_then 4 _ _ (λ elem. number_then 4 _ _ (λ index. numeric_then _ _ (λ length. made_exact (TypeKind.Array elem index length) text read_text text_exact)))
by_kind_exact TypeLeaf.Structure size =
    number_then 2 _ _ (λ count. number_then 2 _ _ (λ property. number_then 4 _ _ (λ fields. number_then 4 _ _ (λ derived. number_then 4 _ _ (λ vshape.
    numeric_then _ _ (λ length. text_then _ _ (λ name. with_unique (TypeKind.Structure count property fields derived vshape length name) property)))))))
by_kind_exact TypeLeaf.Union size =
    number_then 2 _ _ (λ count. number_then 2 _ _ (λ property. number_then 4 _ _ (λ fields.
    numeric_then _ _ (λ length. text_then _ _ (λ name. with_unique (TypeKind.Union count property fields length name) property)))))
by_kind_exact TypeLeaf.Enum size =
    number_then 2 _ _ (λ count. number_then 2 _ _ (λ property. number_then 4 _ _ (λ ty. number_then 4 _ _ (λ fields.
    text_then _ _ (λ name. with_unique (TypeKind.Enum count property ty fields name) property)))))

by_leaf_exact : (o : Option TypeLeaf) (kind size : ℕ) → Exact (by_leaf o kind size) (read_by_leaf o kind size)
by_leaf_exact None kind size = nothing_exact (TypeKind.Other kind)
by_leaf_exact (Some leaf) kind size = by_kind_exact leaf size

pub contents_exact : (kind size : ℕ) → Exact (contents kind size) (read_contents kind size)
contents_exact kind size = by_leaf_exact (leaf_of kind) kind size
