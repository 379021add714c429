-- What the kinds of pointers promise, and how they are spelled.
use Rattle.std.specs.Prelude.{ℕ, Bool, true, false, List, codes}
use Rattle.names.specs.declared.name.PtrKind.{PtrKind}
use Rattle.names.specs.declared.name.PtrKind.TheVariants.{Ref, RefMut, Const, Mut, Boxed}

-- references and boxes are never null; raw pointers may be anything
abbrev pub is_non_null : PtrKind → Bool
is_non_null Ref = true
is_non_null RefMut = true
is_non_null Boxed = true
is_non_null Const = false
is_non_null Mut = false

-- a pointer of the kind up to what it points to; no name has the kind of boxes
abbrev pub kind_text : PtrKind → List ℕ
kind_text Ref = codes "&"
kind_text RefMut = codes "&mut "
kind_text Const = codes "*const "
kind_text Mut = codes "*mut "
kind_text Boxed = codes "box "
