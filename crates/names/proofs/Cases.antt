-- All variants of a name.
use Rattle.std.proofs.Common.{ℕ, Bool, List, sym, subst}
use Rattle.names.specs.declared.name.Name.{Name, out-Name, roll-Name, roll-out-Name}
use Rattle.names.specs.declared.name.Name.TheOpen.{Name-F}
use Rattle.names.specs.declared.name.Name.TheVariants.{Path, Pointer, Slice, Array, Tuple, Str, Dyn, Fn, Number, Bind, Raw, rolls-Path}
use Rattle.names.specs.declared.name.Name.TheVariants.{rolls-Pointer, rolls-Slice, rolls-Array, rolls-Tuple, rolls-Str, rolls-Dyn, rolls-Fn}
use Rattle.names.specs.declared.name.Name.TheVariants.{rolls-Number, rolls-Bind, rolls-Raw}
use Rattle.names.specs.declared.name.Seg.{Seg}
use Rattle.names.specs.declared.name.PtrKind.{PtrKind}

-- a name is one of the variants
pub Name-cases : (P : Name → Type 0) → ((segs : List Seg) → P (Path segs)) → ((kind : PtrKind) (x : Name) → P (Pointer kind x)) →
    ((x : Name) → P (Slice x)) → ((x : Name) (n : ℕ) → P (Array x n))
    → ((xs : List Name) → P (Tuple xs)) → P Str → ((xs : List Name) → P (Dyn xs)) → ((xs : List Name) (x : Name) → P (Fn xs x)) →
    ((minus : Bool) (n : ℕ) → P (Number minus n)) → ((w : List ℕ) (x : Name) → P (Bind w x))
    → ((t : List ℕ) → P (Raw t)) → (n : Name) → P n
Name-cases P path pointer slice array tuple str dyn fn number bound raw n = subst P (roll-out-Name n) (each (out-Name n))
  where
    each : (l : Name-F Name Seg) → P (roll-Name l)
    each (Name-F.Path segs) = subst P (sym (rolls-Path segs)) (path segs)
    each (Name-F.Pointer kind x) = subst P (sym (rolls-Pointer kind x)) (pointer kind x)
    each (Name-F.Slice x) = subst P (sym (rolls-Slice x)) (slice x)
    each (Name-F.Array x n) = subst P (sym (rolls-Array x n)) (array x n)
    each (Name-F.Tuple xs) = subst P (sym (rolls-Tuple xs)) (tuple xs)
    each Name-F.Str = subst P (sym rolls-Str) str
    each (Name-F.Dyn xs) = subst P (sym (rolls-Dyn xs)) (dyn xs)
    each (Name-F.Fn xs x) = subst P (sym (rolls-Fn xs x)) (fn xs x)
    each (Name-F.Number minus n) = subst P (sym (rolls-Number minus n)) (number minus n)
    each (Name-F.Bind w x) = subst P (sym (rolls-Bind w x)) (bound w x)
    each (Name-F.Raw t) = subst P (sym (rolls-Raw t)) (raw t)
