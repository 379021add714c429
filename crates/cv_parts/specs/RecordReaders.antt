-- The readers of records and of series, for proofs.
use Rattle.std.specs.Prelude.{ℕ, ◌+◌, ◌-◌, ◌==◌, List, length}
use Rattle.rv_bytes.specs.Readers.{Res, got, bad, Reader, and_then, with_value, as_item, read_row}
use Rattle.rv_bytes.specs.NestedReaders.{resume}
use Rattle.rv_bytes.specs.NumberReaders.{read_bytes, read_number}
use Rattle.cv_parts.specs.Records.{content_breaks, signature_breaks}
use Rattle.cv_parts.specs.Series.{Sized, values}

-- the reader of `inside`
abbrev pub read_inside : {A : Type 0} → ℕ → List ℕ → Reader ℕ A → Reader ℕ A
read_inside at other f n s = resume n s (f at other)

-- the reader of `content`
abbrev pub read_content : Reader ℕ (List ℕ)
read_content n s = as_item content_breaks n (and_then (read_number 2 n s) read_bytes)

-- the reader of `kind_then`
abbrev pub read_kind_then : {A : Type 0} → (ℕ → ℕ → Reader ℕ A) → ℕ → Reader ℕ A
read_kind_then f size n s = and_then (read_number 2 n s) (λ kind m k. f kind (size - 2) m k)

-- the reader of `a_record`
abbrev pub read_a_record : {A B : Type 0} → (ℕ → A → B) → (ℕ → ℕ → Reader ℕ A) → Reader ℕ B
read_a_record g f n s = with_value (g n) (and_then (read_content n s) (λ c m k. read_inside (n + 2) c (read_kind_then f (length c)) m k))

-- the reader of `signature`
abbrev pub read_signature : Reader ℕ ℕ
read_signature n s = as_item signature_breaks n (read_number 4 n s)

-- what was read from place n on, with the count of its bytes
abbrev pub measured : {A : Type 0} → ℕ → Res ℕ A → Res ℕ (Sized A)
measured n (got v m k) = got (record { value = v; size = m - n }) m k
measured n (bad r m) = bad r m

-- the reader of `sized`
abbrev pub read_sized : {A : Type 0} → Reader ℕ A → Reader ℕ (Sized A)
read_sized f n s = measured n (f n s)

-- the reader of the row of `series`
abbrev pub read_series : {A : Type 0} → (ℕ → Reader ℕ A) → ℕ → Reader ℕ (List (Sized A))
read_series f size n s = read_row (λ left. left == 0) (λ left. read_sized (f left)) (λ left w. left - w.size) 0 size n s

-- the reader of `to_end`
abbrev pub read_to_end : {A : Type 0} → (ℕ → Reader ℕ A) → ℕ → Reader ℕ (List A)
read_to_end f size n s = with_value values (read_series f size n s)

-- the same to the end of the bytes
abbrev pub read_all : {A : Type 0} → (ℕ → Reader ℕ A) → Reader ℕ (List A)
read_all f n s = read_to_end f (length s) n s

-- the reader of `so_many`
abbrev pub read_so_many : {A : Type 0} → Reader ℕ A → ℕ → Reader ℕ (List A)
read_so_many f count n s = read_row (λ left. left == 0) (λ _. f) (λ left _. left - 1) 0 count n s
