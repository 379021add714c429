-- What is written of ranges is spelled.
use Rattle.std.proofs.Common.{◌≡◌, ◌<◌, ◌≤◌, ℕ, ◌+◌, ◌^◌, Bool, if◌then◌else◌, filter, get_or, take, map, add-one, false, true, List, [], ◌∷◌, ◌++◌, length, Some, refl, sym, ap, subst, ◌∙◌, lit<}
use Rattle.std.proofs.Math.Seq.{take-suc}
use Rattle.std.proofs.lemmas.List.{take_all}
use Rattle.byteorder.specs.Endian.{little_bytes}
use Rattle.expr_eval.specs.Addresses.{Addresses}
use Rattle.layout_set.specs.declared.func.Zone.{Zone}
use Rattle.rv_bytes.specs.Forms.{follow, made, row}
use Rattle.rv_bytes.specs.Numbers.{number}
use Rattle.rv_bytes.specs.Writers.{IsPut}
use Rattle.rv_bytes.proofs.Puts.{put_then, put_made, put_item, put_nothing, put_number, IsPart, part_push, part_whole}
use Rattle.dwarf_list_entries.specs.Rle as rle
use Rattle.dwarf_list_entries.specs.Kinds.{range_kind}
use Rattle.dwarf_list_entries.specs.Operands.{address, operands}
use Rattle.dwarf_list_entries.specs.Entries.{looked_up, found, range_rest, any_value, range_entry}
use Rattle.dwarf_list_entries.specs.declared.kind.Kind.{Kind}
use Rattle.dwarf_list_entries.specs.declared.operands.RawEntry.TheVariants as raw
use Rattle.dwarf_list_entries.specs.declared.entry.ListEntry.{ListEntry}
use Rattle.dwarf_list_entries.specs.declared.entry.ListEntry.TheVariants as says
use Rattle.dwarf_lists.specs.Ranges.{range_entries, ranges, range_list}
use Rattle.dwarf_lists.specs.Written.{has_address, PutsRanges}

-- the entry of a zone
abbrev pub entry_of : Zone → ListEntry
entry_of zone = says.StartEnd zone.lo zone.hi

start_end_kind : range_kind rle.start_end ≡ Some Kind.StartEnd
unfolding range_kind
start_end_kind = refl

end_kind : range_kind rle.end_of_list ≡ Some Kind.EndOfList
unfolding range_kind
end_kind = refl

-- an entry of two addresses
pub start_end_put : (addrs : Addresses) (lo hi : ℕ) (old one two new : List ℕ) → lo < 256 ^ 8 → hi < 256 ^ 8 → one ≡ old ++ little_bytes 1 rle.start_end → two ≡ one ++ little_bytes 8 lo → new ≡ two ++ little_bytes 8 hi → IsPut (range_entry addrs) (says.StartEnd lo hi) old new
start_end_put addrs lo hi old one two new l h a b c =
    let e = says.StartEnd lo hi in
    let numbers : IsPut (operands Kind.StartEnd) (raw.StartEnd lo hi) one new =
    put_then address (λ x. made (raw.StartEnd x) address) lo (raw.StartEnd lo hi) one two new (put_number 8 lo one two l b) (put_made (raw.StartEnd lo) address hi two new (put_number 8 hi two new h c)) in
    put_item (follow (number 1) (λ code. range_rest addrs (range_kind code))) any_value e old new refl
    (put_then (number 1) (λ code. range_rest addrs (range_kind code)) rle.start_end e old one new (put_number 1 rle.start_end old one (lit< tt) a)
    (subst (λ k. IsPut (range_rest addrs k) e one new) (sym start_end_kind)
    (put_then (operands Kind.StartEnd) (λ x. found (looked_up addrs x)) (raw.StartEnd lo hi) e one new new numbers (put_nothing e new))))

-- the end of a list
end_put : (addrs : Addresses) (old new : List ℕ) → new ≡ old ++ little_bytes 1 rle.end_of_list → IsPut (range_entry addrs) says.EndOfList old new
end_put addrs old new a =
    put_item (follow (number 1) (λ code. range_rest addrs (range_kind code))) any_value says.EndOfList old new refl
    (put_then (number 1) (λ code. range_rest addrs (range_kind code)) rle.end_of_list says.EndOfList old new new (put_number 1 rle.end_of_list old new (lit< tt) a)
    (subst (λ k. IsPut (range_rest addrs k) says.EndOfList new new) (sym end_kind)
    (put_then (operands Kind.EndOfList) (λ x. found (looked_up addrs x)) raw.EndOfList says.EndOfList new new new (put_nothing raw.EndOfList new) (put_nothing says.EndOfList new))))

-- the entries of the first zones were appended
abbrev pub ArePut : List Zone → ℕ → List ℕ → List ℕ → Type 0
ArePut zones i old new = (addrs : Addresses) → IsPart (range_entries addrs) false false (map entry_of (take i zones)) old new

map_push : (zones : List Zone) (zone : Zone) → map entry_of (zones ++ zone ∷ []) ≡ map entry_of zones ++ entry_of zone ∷ []
map_push [] zone = refl
map_push (z ∷ zones) zone = ap (λ l. entry_of z ∷ l) (map_push zones zone)

-- one entry more
pub entries_more : (zones : List Zone) (i : ℕ) (d : Zone) (old mid new : List ℕ) → i < length zones → ArePut zones i old mid → ((addrs : Addresses) → IsPut (range_entry addrs) (entry_of (get_or zones i d)) mid new) → ArePut zones (i + 1) old new
entries_more zones i d old mid new l a b addrs =
    let t : take (i + 1) zones ≡ take i zones ++ get_or zones i d ∷ [] = ap (λ n. take n zones) (add-one i) ∙ take-suc zones i d l in
    subst (λ es. IsPart (range_entries addrs) false false es old new) (sym (ap (map entry_of) t ∙ map_push (take i zones) (get_or zones i d)))
    (part_push (range_entries addrs) false false false (map entry_of (take i zones)) (entry_of (get_or zones i d)) old mid new (a addrs) refl (b addrs) refl)

-- a zone that has an address comes before the others, and no other zone does
first_said : (b : Bool) (z : Zone) (said kept : List Zone) → said ≡ kept → (if b then z ∷ [] else []) ++ said ≡ (if b then z ∷ kept else kept)
first_said true z said kept e = ap (λ l. z ∷ l) e
first_said false z said kept e = e

-- the entries of zones say those that have an address
said_back : (base : ℕ) (zones : List Zone) → ranges base (map entry_of zones ++ says.EndOfList ∷ []) ≡ filter has_address zones
said_back base [] = refl
said_back base (z ∷ zones) = first_said (has_address z) z (ranges base (map entry_of zones ++ says.EndOfList ∷ [])) (filter has_address zones) (said_back base zones)

-- the end of the list after them
pub entries_whole : (zones : List Zone) (i : ℕ) (old mid new : List ℕ) → length zones ≤ i → ArePut zones i old mid → new ≡ mid ++ little_bytes 1 rle.end_of_list → PutsRanges zones old new
entries_whole zones i old mid new l a e addrs base =
    let es = map entry_of zones ++ says.EndOfList ∷ [] in
    let p : IsPart (range_entries addrs) false false (map entry_of zones) old mid = subst (λ zs. IsPart (range_entries addrs) false false (map entry_of zs) old mid) (take_all i zones l) (a addrs) in
    subst (λ zs. IsPut (range_list addrs base) zs old new) (said_back base zones)
    (put_made (ranges base) (row (range_entries addrs) false) es old new
    (part_whole (range_entries addrs) false true es old new (part_push (range_entries addrs) false false true (map entry_of zones) says.EndOfList old mid new p refl (end_put addrs mid new e) refl) refl))
