-- What is carried is no larger, and lies where the set lies: law 14.
use Rattle.std.proofs.Common.{◌≡◌, ◌∙◌, refl, sym, ap, subst, ℕ, ◌+◌, ◌<◌, ◌≤◌, List, [], ◌∷◌, ◌++◌, map, length, filter, arith}
use Rattle.std.specs.List.{flat_map, sum_by}
use Rattle.std.proofs.lemmas.List.{length-map}
use Rattle.layout_set.specs.declared.breach.Item.TheVariants.{Whole, Def, Static, Func as OfFunc}
use Rattle.layout_set.specs.declared.func.Func.{Func}
use Rattle.layout_set.specs.declared.func.Scope.{Scope}
use Rattle.layout_set.specs.declared.func.Var.{Var}
use Rattle.layout_set.specs.declared.set.Field.{Field}
use Rattle.layout_set.specs.declared.set.Set.{Set}
use Rattle.layout_set.specs.declared.set.Static.{Static as FixedValue}
use Rattle.layout_set.specs.declared.set.TypeDef.{TypeDef}
use Rattle.layout_set.specs.declared.set.TypeDef.TheVariants as defs
use Rattle.layout_set.specs.declared.set.Variant.{Variant}
use Rattle.layout_set.specs.Counts.{variant_parts, parts_of, entry_parts, var_parts, scope_parts, func_parts, scope_vars, func_vars, entry_ranges, var_ranges, scope_ranges, func_ranges}
use Rattle.layout_set.specs.FirstBreach.{Holds}
use Rattle.layout_set.specs.Law14.{addresses, AreClose, zones_of, IsCompact, IsBounded, HasFewRanges, IsSmall, HasAddress, Law14}
use Rattle.layout_carried.specs.Carried.{entry_carries, carried_field, carried_variant, carried_type, carried_static, carried_var, carried_scope, carried_func, carried}
use Rattle.layout_carried.proofs.Mapped.{place_of_map, holds_map, no_more, at_most, sum_at_most, sum_map, sum_filter}

fewer_of_struct : (a b c : ℕ) → c ≤ b → 0 + c ≤ a + b
fewer_of_struct a b c h = omega (arith, h)

fewer_of_scope : (a b c : ℕ) → c ≤ b → 1 + (a + c) ≤ 1 + (a + b)
fewer_of_scope a b c h = omega (arith, h)

module _ (ptr : ℕ) where
  no_more_fields : (fields : List Field) → length (map (carried_field ptr) fields) ≤ length fields
  no_more_fields fields = no_more (length (map (carried_field ptr) fields)) (length fields) (length-map fields (carried_field ptr))

  fewer_in_variant : (v : Variant) → variant_parts (carried_variant ptr v) ≤ variant_parts v
  fewer_in_variant v = no_more (1 + length (map (carried_field ptr) v.fields)) (1 + length v.fields) (ap (λ n. 1 + n) (length-map v.fields (carried_field ptr)))

  fewer_in_variants : (variants : List Variant) → sum_by variant_parts (map (carried_variant ptr) variants) ≤ sum_by variant_parts variants
  fewer_in_variants variants = sum_map (carried_variant ptr) variant_parts variant_parts fewer_in_variant variants

  fewer_parts : (t : TypeDef) → parts_of (carried_type ptr t) ≤ parts_of t
  fewer_parts (defs.Struct name n align params fields) =
      fewer_of_struct (length params) (length fields) (length (map (carried_field ptr) fields)) (no_more_fields fields)
  fewer_parts (defs.Array elem count) = omega arith
  fewer_parts (defs.Thin kind to) = omega arith
  fewer_parts (defs.Slice name kind first) = omega arith
  fewer_parts (defs.Str name kind first) = omega arith
  fewer_parts (defs.Dyn name kind first vtable) = omega arith
  fewer_parts defs.FnPtr = omega arith
  fewer_parts (defs.CLike name tag cases) = omega arith
  fewer_parts (defs.Enum name n align params tag variants) =
      fewer_of_struct (length params) (sum_by variant_parts variants) (sum_by variant_parts (map (carried_variant ptr) variants)) (fewer_in_variants variants)
  fewer_parts (defs.Bytes name n align) = omega arith

  fewer_var_parts : (v : Var) → var_parts (carried_var ptr v) ≤ var_parts v
  fewer_var_parts v = sum_filter entry_carries entry_parts v.entries

  fewer_scope_parts : (s : Scope) → scope_parts (carried_scope ptr s) ≤ scope_parts s
  fewer_scope_parts s =
      fewer_of_scope (length s.zones) (sum_by var_parts s.vars) (sum_by var_parts (map (carried_var ptr) s.vars))
      (sum_map (carried_var ptr) var_parts var_parts fewer_var_parts s.vars)

  fewer_func_parts : (f : Func) → func_parts (carried_func ptr f) ≤ func_parts f
  fewer_func_parts f = sum_map (carried_scope ptr) scope_parts scope_parts fewer_scope_parts f.scopes

  no_more_vars : (s : Scope) → scope_vars (carried_scope ptr s) ≤ scope_vars s
  no_more_vars s = no_more (length (map (carried_var ptr) s.vars)) (length s.vars) (length-map s.vars (carried_var ptr))

  no_more_func_vars : (f : Func) → func_vars (carried_func ptr f) ≤ func_vars f
  no_more_func_vars f = sum_map (carried_scope ptr) scope_vars scope_vars no_more_vars f.scopes

  fewer_var_ranges : (v : Var) → var_ranges (carried_var ptr v) ≤ var_ranges v
  fewer_var_ranges v = sum_filter entry_carries entry_ranges v.entries

  fewer_scope_ranges : (s : Scope) → scope_ranges (carried_scope ptr s) ≤ scope_ranges s
  fewer_scope_ranges s = sum_map (carried_var ptr) var_ranges var_ranges fewer_var_ranges s.vars

  fewer_func_ranges : (f : Func) → func_ranges (carried_func ptr f) ≤ func_ranges f
  fewer_func_ranges f = sum_map (carried_scope ptr) scope_ranges scope_ranges fewer_scope_ranges f.scopes

  same_addresses : (statics : List FixedValue) → addresses (map (carried_static ptr) statics) ≡ addresses statics
  same_addresses [] = refl
  same_addresses (s ∷ statics) = rw (same_addresses statics) refl

  same_zones : (scopes : List Scope) → flat_map (λ (s : Scope). s.zones) (map (carried_scope ptr) scopes) ≡ flat_map (λ (s : Scope). s.zones) scopes
  same_zones [] = refl
  same_zones (s ∷ scopes) = ap (λ zs. s.zones ++ zs) (same_zones scopes)

  same_code : (funcs : List Func) → flat_map zones_of (map (carried_func ptr) funcs) ≡ flat_map zones_of funcs
  same_code [] = refl
  same_code (f ∷ funcs) =
      ap (λ zs. zs ++ flat_map zones_of (map (carried_func ptr) funcs)) (same_zones f.scopes)
      ∙ ap (λ zs. zones_of f ++ zs) (same_code funcs)

-- at most as many parts, variables and ranges
bounded : (set : Set) → IsBounded set → IsBounded (carried set)
bounded set h =
    let p = set.target.ptr in
    record {
      types = subst (λ n. n ≤ 20000) (sym (length-map set.types (carried_type p))) h.types;
      parts =
          sum_at_most (sum_by parts_of (map (carried_type p) set.types)) (sum_by func_parts (map (carried_func p) set.funcs))
          (sum_by parts_of set.types) (sum_by func_parts set.funcs) 40000
          (sum_map (carried_type p) parts_of parts_of (fewer_parts p) set.types)
          (sum_map (carried_func p) func_parts func_parts (fewer_func_parts p) set.funcs)
          h.parts;
      variables =
          sum_at_most (length (map (carried_static p) set.statics)) (sum_by func_vars (map (carried_func p) set.funcs))
          (length set.statics) (sum_by func_vars set.funcs) 20000
          (no_more (length (map (carried_static p) set.statics)) (length set.statics) (length-map set.statics (carried_static p)))
          (sum_map (carried_func p) func_vars func_vars (no_more_func_vars p) set.funcs)
          h.variables;
    }

few_ranges : (set : Set) → HasFewRanges set → HasFewRanges (carried set)
few_ranges set h =
    let p = set.target.ptr in
    at_most (sum_by func_ranges (map (carried_func p) set.funcs)) (sum_by func_ranges set.funcs) 1000000
    (sum_map (carried_func p) func_ranges func_ranges (fewer_func_ranges p) set.funcs) h

small : (set : Set) → IsSmall set → IsSmall (carried set)
small set h = record {
  counts = bounded set h.counts;
  ranges = few_ranges set h.ranges;
  statics = subst AreClose (sym (same_addresses set.target.ptr set.statics)) h.statics;
  code = subst IsCompact (sym (same_code set.target.ptr set.funcs)) h.code;
}

pub law_14 : (set : Set) → Holds set (Law14 set) → Holds (carried set) (Law14 (carried set))
law_14 set h Whole is = small set (h Whole tt)
law_14 set h (Def i) is = tt
law_14 set h (Static i) is =
    let p = set.target.ptr in
    let l : i < length set.statics = place_of_map (carried_static p) set.statics i is in
    holds_map (carried_static p) HasAddress HasAddress set.statics i l (λ s a. a) (h (Static i) l)
law_14 set h (OfFunc i) is = tt
