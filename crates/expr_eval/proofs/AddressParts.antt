-- The address at a place of the section is the number of its bytes.
use Rattle.std.proofs.Common.{◌≡◌, ◌∙◌, sym, ap, ℕ, ◌+◌, ◌≤◌, List, length, Some, None, if◌then◌else◌, le-leb}
use Rattle.std.specs.List.{slice_range}
use Rattle.expr_eval.specs.Results.{little_endian}
use Rattle.expr_eval.specs.Addresses.{address_from}

-- the number of the eight bytes from a place on
pub address_is : (section bytes : List ℕ) (at n : ℕ) → at + 8 ≤ length section → bytes ≡ slice_range section at (at + 8) → n ≡ little_endian bytes → Some n ≡ address_from 8 section at
address_is section bytes at n within part is =
    ap Some (is ∙ ap little_endian part)
    ∙ ap (λ t. if t then Some (little_endian (slice_range section at (at + 8))) else None) (sym (le-leb (at + 8) (length section) within))
