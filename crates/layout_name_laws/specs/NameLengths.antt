-- Lengths of derived names found along links. Private: `DerivedNames` says what they mean.
use Rattle.std.specs.Prelude.{Bool, true, false, not, is_some, nat_lt, ◌&&◌, ◌≡◌, ℕ, zero, suc, ◌+◌, ◌≤◌, min, List, [], ◌∷◌, length, map, Option, Some, None, slice_get, if◌then◌else◌}
use Rattle.std.specs.Fmt.{decimal}
use Rattle.names.specs.declared.name.Name.{Name}
use Rattle.names.specs.declared.name.PtrKind.{PtrKind}
use Rattle.names.specs.declared.name.PtrKind.TheVariants.{Ref, RefMut, Const, Mut, Boxed}
use Rattle.type_names.specs.RustText.{rust_text}
use Rattle.type_names.specs.CvText.{cv_text, ends_closed}
use Rattle.layout_set.specs.declared.set.TypeRef.{TypeRef}
use Rattle.layout_set.specs.declared.set.TypeRef.TheVariants.{Prim, User}
use Rattle.layout_set.specs.declared.set.TypeDef.{TypeDef}
use Rattle.layout_set.specs.declared.set.TypeDef.TheVariants.{Array, Thin}
use Rattle.layout_name_laws.specs.declared.name_lengths.NameLength.{NameLength}
use Rattle.layout_set.specs.DerivedNames.{prim_name, own_name}

-- the text of the name, if there is one
abbrev pub text_or_none : (Name → List ℕ) → Option Name → List ℕ
text_or_none text None = []
text_or_none text (Some name) = text name

-- the text of the name that a type has without another's
abbrev pub own_text : (Name → List ℕ) → TypeDef → List ℕ
own_text text t = text_or_none text (own_name t)

abbrev pub user_of : TypeRef → Option ℕ
user_of (Prim prim) = None
user_of (User i) = Some i

abbrev pub prim_len : (Name → List ℕ) → TypeRef → ℕ
prim_len text (Prim prim) = length (text (prim_name prim))
prim_len text (User i) = 0

-- an own name, whose length is counted up to 1,001
abbrev pub ended : List ℕ → NameLength
ended text = record { to = None; len = min 1001 (length text) }

-- so many bytes more than the name of what is led to
abbrev pub over : (Name → List ℕ) → TypeRef → ℕ → NameLength
over text to more = record { to = user_of to; len = min 1001 (more + prim_len text to) }

-- how many bytes a pointer of a kind has more than what it leads to, in the spelling of Rust
abbrev pub rust_mark : PtrKind → ℕ
rust_mark Ref = 1
rust_mark RefMut = 5
rust_mark Const = 7
rust_mark Mut = 5
rust_mark Boxed = 41

-- the same in the spelling of CodeView, where what it leads to ends with `>` or not
abbrev pub cv_mark : Bool → PtrKind → ℕ
cv_mark closed Ref = 6 + (if closed then 1 else 0)
cv_mark closed RefMut = 10 + (if closed then 1 else 0)
cv_mark closed Const = 12 + (if closed then 1 else 0)
cv_mark closed Mut = 10 + (if closed then 1 else 0)
cv_mark closed Boxed = 40

-- the first length of a type, with the text of its own name
abbrev pub rust_first : List ℕ → TypeDef → NameLength
rust_first text (Array elem count) = over rust_text elem (4 + length (decimal count))
rust_first text (Thin kind to) = over rust_text to (rust_mark kind)
rust_first text _ = ended text

abbrev pub cv_first : List ℕ → (TypeRef → Bool) → TypeDef → NameLength
cv_first text closes (Array elem count) = over cv_text elem (9 + length (decimal count))
cv_first text closes (Thin kind to) = over cv_text to (cv_mark (closes to) kind)
cv_first text closes _ = ended text

-- whether the CodeView text of a type's derived name ends with `>`
abbrev pub closes_def : TypeDef → Bool
closes_def (Array elem count) = true
closes_def (Thin kind to) = true
closes_def t = ends_closed (own_text cv_text t)

abbrev pub closes_at : Option TypeDef → Bool
closes_at None = false
closes_at (Some t) = closes_def t

abbrev pub closes : List TypeDef → TypeRef → Bool
closes types (Prim prim) = ends_closed (cv_text (prim_name prim))
closes types (User i) = closes_at (slice_get types i)

abbrev pub rust_firsts : List TypeDef → List NameLength
rust_firsts types = map (λ t. rust_first (own_text rust_text t) t) types

abbrev pub cv_firsts : List TypeDef → List NameLength
cv_firsts types = map (λ t. cv_first (own_text cv_text t) (closes types) t) types

abbrev pub join : NameLength → Option NameLength → NameLength
join e None = e
join e (Some f) = record { to = f.to; len = min 1001 (e.len + f.len) }

abbrev pub doubled_on : List NameLength → NameLength → Option ℕ → NameLength
doubled_on table e None = e
doubled_on table e (Some j) = join e (slice_get table j)

-- a length over the name that its link leads to, one link further on
abbrev pub doubled : List NameLength → NameLength → NameLength
doubled table e = doubled_on table e e.to

-- the table after so many rounds, in each of which links lead twice as far
unfoldable pub after_rounds : ℕ → List NameLength → List NameLength
after_rounds zero table = table
after_rounds (suc k) table = map (doubled (after_rounds k table)) (after_rounds k table)

abbrev pub unended_to : Option ℕ → ℕ
unended_to None = 0
unended_to (Some j) = 1

-- 1 where it has not ended
abbrev pub unended : NameLength → ℕ
unended e = unended_to e.to

abbrev pub total : {X : Type 0} → (X → ℕ) → List X → ℕ
total f [] = 0
total f (x ∷ xs) = f x + total f xs

-- a table after some rounds, in which no more lengths end
pub record IsSettled (table settled : List NameLength) : Type 0 where
  pub rounds : ℕ
  pub is : settled ≡ after_rounds rounds table
  pub still : total unended settled ≤ total unended (map (doubled settled) settled)

abbrev pub fits_by : Option ℕ → ℕ → Bool
fits_by None len = nat_lt len 1001
fits_by (Some j) len = false

-- whether the entries of a type are those that its kind may have
abbrev pub name_fits : TypeDef → NameLength → NameLength → Bool
name_fits (Array elem count) rust cv = not (is_some rust.to)
name_fits (Thin kind to) rust cv = fits_by rust.to rust.len && fits_by cv.to cv.len
name_fits _ rust cv = true
