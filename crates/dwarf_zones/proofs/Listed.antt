-- The range list at a place, as it is read.
use Rattle.std.proofs.Common.{◌≡◌, ◌<◌, ℕ, List, length, drop, None, Err, inl, inr, sym, ap, subst, arith}
use Rattle.rv_bytes.specs.Rules.{outside}
use Rattle.rv_bytes.specs.Sections.{BeginsAt, IsFaultAt}
use Rattle.rv_bytes.specs.declared.err.DwErr.{DwErr}
use Rattle.rv_bytes.proofs.Sections.{begins_got}
use Rattle.dwarf_entries.specs.Dies.{Die, Info}
use Rattle.dwarf_lists.specs.Ranges.{range_list}
use Rattle.dwarf_lists.specs.Readers.{read_range_list}
use Rattle.dwarf_lists.proofs.ListsExact.{range_list_exact}
use Rattle.dwarf_zones.specs.Units.{addresses_of, base_address}
use Rattle.dwarf_zones.specs.Zones.{AnswersZones, fault_read, in_section, list_at, zones_read}
use Rattle.expr_eval.specs.Addresses.{Addresses}
use Rattle.layout_set.specs.declared.func.Zone.{Zone}
use Rattle.layout_set.specs.declared.refusal.ReadErr.{ReadErr}

-- the same section, unit and addresses
moved : (P : Addresses → ℕ → List ℕ → Type 0) (info : Info) (d : Die) (addrs : Addresses) (base : ℕ) (section : List ℕ) → addrs ≡ addresses_of info d → base ≡ base_address info d
    → section ≡ info.sections.ranges → P addrs base section → P (addresses_of info d) (base_address info d) info.sections.ranges
moved P info d addrs base section a b s p =
    subst (λ l. P (addresses_of info d) (base_address info d) l) s (subst (λ n. P (addresses_of info d) n section) b (subst (λ x. P x base section) a p))

pub listed_ok : (info : Info) (d : Die) (at : ℕ) (zones : List Zone) (addrs : Addresses) (base : ℕ) (section : List ℕ) → addrs ≡ addresses_of info d → base ≡ base_address info d
    → section ≡ info.sections.ranges → BeginsAt (range_list addrs base) section at zones → (zones ≡ zones_read (list_at info d at)) × (fault_read (list_at info d at) ≡ None)
listed_ok info d at zones addrs base section a b s begins =
    let there = moved (λ x n l. BeginsAt (range_list x n) l at zones) info d addrs base section a b s begins in
    let x = addresses_of info d in
    let n = base_address info d in
    let read = begins_got (range_list x n) (read_range_list x n) (range_list_exact x n) info.sections.ranges at zones there in
    (sym (ap zones_read read), ap fault_read read)

pub listed_err : (info : Info) (d : Die) (at : ℕ) (addrs : Addresses) (base : ℕ) (section : List ℕ) (zones : List Zone) (e : DwErr) (r : ReadErr) → r ≡ in_section e → at < length info.sections.ranges
    → addrs ≡ addresses_of info d → base ≡ base_address info d → section ≡ info.sections.ranges → IsFaultAt outside (range_list addrs base) section at e
    → AnswersZones zones (fault_read (list_at info d at)) (Err r)
listed_err info d at addrs base section zones (DwErr.Refused m q) r is i a b s fault = subst (λ y. AnswersZones zones (fault_read (list_at info d at)) (Err y)) (sym is) (by_place there)
  where
    x : Addresses
    x = addresses_of info d

    n : ℕ
    n = base_address info d

    there : IsFaultAt outside (range_list x n) info.sections.ranges at (DwErr.Refused m q)
    there = moved (λ y k l. IsFaultAt outside (range_list y k) l at (DwErr.Refused m q)) info d addrs base section a b s fault

    by_place : IsFaultAt outside (range_list x n) info.sections.ranges at (DwErr.Refused m q) → AnswersZones zones (fault_read (list_at info d at)) (Err (in_section (DwErr.Refused m q)))
    by_place (inl w) = absurd (let z : ⊥ = omega (arith, i, w.0) in z)
    by_place (inr w) = ap fault_read ((range_list_exact x n).refuses at (drop at info.sections.ranges) q m w.1)
listed_err info d at addrs base section zones DwErr.Memory r is i a b s fault = subst (λ y. AnswersZones zones (fault_read (list_at info d at)) (Err y)) (sym is) tt
