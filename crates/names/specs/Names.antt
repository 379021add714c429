-- Which names are proper.
use Rattle.std.specs.Prelude.{◌≡◌, ◌≢◌, ℕ, zero, suc, ◌<◌, ◌^◌, true, List, [], ◌∷◌, None, IfSome, codes}
use Rattle.std.specs.List.{AllByRecursion}
use Rattle.names.specs.declared.name.Name.{Name, out-Name}
use Rattle.names.specs.declared.name.Name.TheOpen.{Name-F}
use Rattle.names.specs.declared.name.Seg.{Seg}
use Rattle.names.specs.declared.name.PtrKind.TheVariants.{Boxed}
use Rattle.names.specs.Words.{IsWord}

-- where a name stands: in its own right or as a part of most others, among args, or as a member of a `Dyn`
pub data Role : Type 0 where
  whole : Role
  arg : Role
  member : Role

-- the place is not that of a member of a `Dyn`
abbrev pub IsNoMember : Role → Type 0
IsNoMember whole = Unit {0}
IsNoMember arg = Unit {0}
IsNoMember member = ⊥

-- the place is among args
abbrev pub IsArg : Role → Type 0
IsArg whole = ⊥
IsArg arg = Unit {0}
IsArg member = ⊥

-- the one segment `str` without a number and without args
abbrev pub plain_str : List Seg
plain_str = record { word = codes "str"; number = None; args = [] } ∷ []

-- a segment of a path, whose args have P in their place
abbrev pub IsSeg : (Role → Name → Type 0) → Seg → Type 0
IsSeg P s = IsWord s.word × (IfSome s.number (λ n. n < 2 ^ 32) × AllByRecursion (P arg) s.args)

-- one level of a name in such a place, whose parts have P in theirs
abbrev pub IsLayer : (Role → Name → Type 0) → Role → Name-F Name Seg → Type 0
IsLayer P role (Name-F.Path segs) = (segs ≢ []) × ((segs ≢ plain_str) × AllByRecursion (IsSeg P) segs)
IsLayer P role (Name-F.Pointer kind x) = IsNoMember role × ((kind ≢ Boxed) × P whole x)
IsLayer P role (Name-F.Slice x) = IsNoMember role × P whole x
IsLayer P role (Name-F.Array x n) = IsNoMember role × (P whole x × (n < 2 ^ 64))
IsLayer P role (Name-F.Tuple xs) = IsNoMember role × AllByRecursion (P whole) xs
IsLayer P role Name-F.Str = IsNoMember role
IsLayer P role (Name-F.Dyn xs) = IsNoMember role × ((xs ≢ []) × AllByRecursion (P member) xs)
IsLayer P role (Name-F.Fn xs x) = IsNoMember role × (AllByRecursion (P whole) xs × P whole x)
IsLayer P role (Name-F.Number minus n) = IsArg role × ((n < 2 ^ 128) × (minus ≡ true → n ≢ 0))
IsLayer P role (Name-F.Bind word x) = IsArg role × (IsWord word × P whole x)
IsLayer P role (Name-F.Raw t) = ⊥

-- a name that may stand in such a place, and whose names nest at most d deep
unfoldable pub Stands : ℕ → Role → Name → Type 0
Stands zero role n = ⊥
Stands (suc d) role n = IsLayer (Stands d) role (out-Name n)

-- a name of Rust's grammar that nests at most 64 deep
abbrev pub IsProper : Name → Type 0
IsProper n = Stands 64 whole n
