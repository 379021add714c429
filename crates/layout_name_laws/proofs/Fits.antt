-- What the last lengths say of derived names.
use Rattle.std.proofs.Common.{not, true, false, is_some, nat_lt, ◌&&◌, Option, Some, None, ◌≡◌, ℕ, ◌<◌, List, length, get_or, refl, sym, ap, subst, ◌∙◌, arith}
use Rattle.std.proofs.lemmas.Grind.{common_steps}
use Rattle.std.specs.Bool.{Decides}
use Rattle.std.proofs.lemmas.List.Elements.{at_read}
use Rattle.layout_set.specs.declared.set.TypeRef.TheVariants.{User}
use Rattle.layout_set.specs.declared.set.TypeDef.{TypeDef}
use Rattle.layout_set.specs.declared.set.TypeDef.TheVariants.{Struct, Array, Thin, Slice, Str, Dyn, FnPtr, CLike, Enum, Bytes}
use Rattle.layout_name_laws.specs.declared.name_lengths.NameLength.{NameLength}
use Rattle.layout_set.specs.DerivedNames.{Derived, Ends, EndsShort, OwnDerivedName}
use Rattle.layout_name_laws.specs.NameLengths.{IsSettled, fits_by, name_fits, rust_firsts, cv_firsts}
use Rattle.layout_set.specs.Law10.{HasDerivedName}
use Rattle.layout_name_laws.proofs.NameLengths.{Spelled, IsTable, EndsBy, leaps_table, last_tells}
use Rattle.layout_name_laws.proofs.RustLinks.{in_rust, rust_table}
use Rattle.layout_name_laws.proofs.CvLinks.{in_cv, cv_table}

settled_long : (s : Spelled) (first table : List NameLength) → IsTable s first → IsSettled first table → length table ≡ length s.types
settled_long s first table is settled = ap length settled.is ∙ (leaps_table s settled.rounds first is).long

pub rust_long : (types : List TypeDef) (table : List NameLength) → IsSettled (rust_firsts types) table → length table ≡ length types
rust_long types table settled = settled_long (in_rust types) (rust_firsts types) table (rust_table types) settled

pub cv_long : (types : List TypeDef) (table : List NameLength) → IsSettled (cv_firsts types) table → length table ≡ length types
cv_long types table settled = settled_long (in_cv types) (cv_firsts types) table (cv_table types) settled

no : {P : Type 0} → (P → ⊥) → Decides false P
no n = ((λ f. elim (let z : ⊥ = grind (arith, f) in z) [ ]), λ p. elim (n p) [ ])

yes : {P : Type 0} → P → Decides true P
yes p = ((λ _. p), λ _. refl)

array_decides : (types : List TypeDef) (i len : ℕ) (o : Option ℕ) → EndsBy (in_rust types) i len o → Decides (not (is_some o)) (Ends types i)
array_decides types i len None e = yes e.0
array_decides types i len (Some j) e = no e

both_decide : (types : List TypeDef) (i a b : ℕ) → EndsBy (in_rust types) i a None → EndsBy (in_cv types) i b None → Decides (nat_lt a 1001 && nat_lt b 1001) (EndsShort types i)
both_decide types i a b e f = (forth, back)
  where
    forth : (nat_lt a 1001 && nat_lt b 1001) ≡ true → EndsShort types i
    forth y =
        let n = e.0.0 in
        let d : Derived types (User i) n = e.0.1 in
        let p = e.1 n d in
        let q = f.1 n d in
        let l : a < 1001 = grind (arith, common_steps, y) in
        let m : b < 1001 = grind (arith, common_steps, y) in
        (n, (d, record { rust = omega (arith, p, l); cv = omega (arith, q, m) }))

    back : EndsShort types i → (nat_lt a 1001 && nat_lt b 1001) ≡ true
    back s =
        let p = e.1 s.0 s.1.0 in
        let q = f.1 s.0 s.1.0 in
        let u = s.1.1.rust in
        let v = s.1.1.cv in
        let l : a < 1001 = omega (arith, p, u) in
        let m : b < 1001 = omega (arith, q, v) in
        grind (arith, common_steps, l, m)

thin_decides : (types : List TypeDef) (i a b : ℕ) (o p : Option ℕ) → EndsBy (in_rust types) i a o → EndsBy (in_cv types) i b p → Decides (fits_by o a && fits_by p b) (EndsShort types i)
thin_decides types i a b (Some j) p e f = no (λ s. e (s.0, s.1.0))
thin_decides types i a b None (Some j) e f = elim (f e.0) [ ]
thin_decides types i a b None None e f = both_decide types i a b e f

own_decides : (types : List TypeDef) (i : ℕ) (e f : NameLength) → EndsBy (in_rust types) i e.len e.to → EndsBy (in_cv types) i f.len f.to → (t : TypeDef) → Decides (name_fits t e f) (OwnDerivedName types i t)
own_decides types i e f p q (Array elem count) = array_decides types i e.len e.to p
own_decides types i e f p q (Thin kind to) = thin_decides types i e.len f.len e.to f.to p q
own_decides types i e f p q (Struct name size align params fields) = yes tt
own_decides types i e f p q (Slice name kind ptr) = yes tt
own_decides types i e f p q (Str name kind ptr) = yes tt
own_decides types i e f p q (Dyn name kind ptr vtable) = yes tt
own_decides types i e f p q FnPtr = yes tt
own_decides types i e f p q (CLike name tag cases) = yes tt
own_decides types i e f p q (Enum name size align params tag variants) = yes tt
own_decides types i e f p q (Bytes name size align) = yes tt

-- Whether the type at i has a derived name as it should is what its two entries say.
pub fits_decide : (types : List TypeDef) (rust cv : List NameLength) → IsSettled (rust_firsts types) rust → IsSettled (cv_firsts types) cv → (i : ℕ) (t : TypeDef) (d : NameLength) → i < length types → t ≡ get_or types i t → Decides (name_fits t (get_or rust i d) (get_or cv i d)) (HasDerivedName types i)
unfolding HasDerivedName
fits_decide types rust cv r c i t d h is =
    let own = own_decides types i (get_or rust i d) (get_or cv i d) (last_tells (in_rust types) (rust_firsts types) rust (rust_table types) r i d h) (last_tells (in_cv types) (cv_firsts types) cv (cv_table types) c i d h) t in
    ((λ y. at_read types (OwnDerivedName types i) i t h is (own.0 y)), λ s. own.1 (subst (OwnDerivedName types i) (sym is) (s t)))
