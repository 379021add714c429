-- The printed lines.
use Rattle.std.specs.Prelude.{◌≡◌, ℕ, nat_le, nat_lt, ◌&&◌, Bool, false, List, [], ◌∷◌, ◌++◌, codes}
use Rattle.std.specs.List.{filter, list_any}
use Rattle.readers.specs.Hex.{hex_text}
use Rattle.snapshot_file.specs.declared.snapshot.Snapshot.{Snapshot}
use Rattle.rust_value.specs.Texts.{text_of}
use Rattle.layout_set.specs.declared.func.Func.{Func}
use Rattle.layout_set.specs.declared.func.Scope.{Scope}
use Rattle.layout_set.specs.declared.func.Var.{Var}
use Rattle.layout_set.specs.declared.func.Zone.{Zone}
use Rattle.layout_set.specs.declared.set.Set.{Set}
use Rattle.layout_set.specs.declared.set.Static.{Static}
use Rattle.layout_values.specs.declared.outcome.Outcome.{Outcome}
use Rattle.layout_values.specs.declared.outcome.Outcome.TheVariants.{Value, Unavailable, Invalid, TooLarge}
use Rattle.layout_values.specs.Contexts.{Context, context_of}
use Rattle.layout_values.specs.Shown.{IsStaticShown, IsVarShown}
use Rattle.layout_file.specs.Spellings.{name_text}

-- what stands behind the ` = `
abbrev pub outcome_text : Outcome → List ℕ
outcome_text Unavailable = codes "<unavailable>"
outcome_text Invalid = codes "<invalid>"
outcome_text TooLarge = codes "<too large>"
outcome_text (Value v) = text_of v

-- names stand as in a layout file: a proper name in Rust's spelling, a raw one in quotes
abbrev pub static_line : Static → Outcome → List ℕ
static_line s o = codes "static " ++ name_text s.name ++ codes " = " ++ outcome_text o ++ 10 ∷ []

-- the line of the static, with the outcome of the bytes at its address
abbrev pub IsStaticLine : Context → ℕ → Static → List ℕ → Type 0
IsStaticLine c depth s line = (o : Outcome) × IsStaticShown c depth s o × (line ≡ static_line s o)

abbrev pub var_line : Var → Outcome → List ℕ
var_line v o = codes "  " ++ v.name ++ codes " = " ++ outcome_text o ++ 10 ∷ []

-- the line of the variable, with the outcome of what its first entry for the program counter gives
abbrev pub IsVarLine : Context → Snapshot → ℕ → Var → List ℕ → Type 0
IsVarLine c snap depth v line = (o : Outcome) × IsVarShown c snap depth v o × (line ≡ var_line v o)

-- a text for each item, in order
abbrev pub AreEach : {A : Type 0} → (A → List ℕ → Type 0) → List A → List ℕ → Type 0
AreEach Is [] text = text ≡ []
AreEach Is (a ∷ items) text = (first rest : List ℕ) × Is a first × (text ≡ first ++ rest) × AreEach Is items rest

-- a zone has the program counter
abbrev pub is_in : ℕ → Zone → Bool
is_in pc zone = nat_le zone.lo pc && nat_lt pc zone.hi

-- a zone of the scope has it
abbrev pub is_entered : ℕ → Scope → Bool
is_entered pc scope = list_any (is_in pc) scope.zones

-- the body of a function, its first scope, has it
abbrev pub first_is_entered : ℕ → List Scope → Bool
first_is_entered pc [] = false
first_is_entered pc (scope ∷ scopes) = is_entered pc scope

abbrev pub is_called : ℕ → Func → Bool
is_called pc f = first_is_entered pc f.scopes

-- a line for each variable of the scope, in order
abbrev pub AreVarLines : Context → Snapshot → ℕ → Scope → List ℕ → Type 0
AreVarLines c snap depth scope text = AreEach (IsVarLine c snap depth) scope.vars text

abbrev pub func_line : Func → List ℕ
func_line f = codes "fn " ++ name_text f.name ++ 10 ∷ []

-- the line of the function, and those of each of its scopes that has the program counter, in order
abbrev pub IsFuncText : Context → Snapshot → ℕ → Func → List ℕ → Type 0
IsFuncText c snap depth f text =
    (rest : List ℕ) × (text ≡ func_line f ++ rest) × AreEach (AreVarLines c snap depth) (filter (is_entered snap.pc) f.scopes) rest

abbrev pub pc_line : ℕ → List ℕ
pc_line pc = codes "pc " ++ hex_text pc ++ 10 ∷ []

-- All that is printed, where pointers are followed so deep and of each sequence so many elements are shown: the program
-- counter, the statics, and the functions whose body has it.
pub record Prints (set : Set) (depth width : ℕ) (snap : Snapshot) (text : List ℕ) : Type 0 where
  pub statics : List ℕ
  pub funcs : List ℕ
  pub text_is : text ≡ pc_line snap.pc ++ statics ++ funcs
  pub of_statics : AreEach (IsStaticLine (context_of set snap.mem width) depth) set.statics statics
  pub of_funcs : AreEach (IsFuncText (context_of set snap.mem width) snap depth) (filter (is_called snap.pc) set.funcs) funcs
