-- What a chunk gives, by what it takes from.
use Rattle.std.proofs.Common.{◌≡◌, ℤ, ◌∙◌, sym, ap, ℕ, zero, suc, ◌+◌, ◌*◌, ◌%◌, ◌^◌, List, [], ◌∷◌, length, replicate, Some, None, refl, add-zero}
use Rattle.std.specs.Option.{option_map}
use Rattle.std.specs.Int.{cast_unsigned, w64}
use Rattle.std.proofs.Math.Nat.{mod-add-mod}
use Rattle.snapshot_file.specs.Memory.{Run, items_at}
use Rattle.snapshot_file.specs.Registers.{register}
use Rattle.snapshot_file.specs.declared.registers.Reg.{Reg}
use Rattle.snapshot_file.specs.declared.snapshot.Snapshot.{Snapshot}
use Rattle.byteorder.specs.Endian.{little_number}
use Rattle.byteorder.specs.Numbers.{little_from-cons}
use Rattle.expr_eval.specs.Results.{little_endian}
use Rattle.image_view.specs.declared.chunk.Src.TheVariants as src
use Rattle.image_view.specs.Places.{items_from}
use Rattle.image_view.proofs.OneChunk.{memory_items}
use Rattle.layout_values.specs.Places.{address_by}

-- a chunk of missing bytes
missing_from : (mem : List Run) (o n : ℕ) → items_from mem src.Missing o n ≡ replicate n None
missing_from mem o zero = refl
missing_from mem o (suc n) = ap (λ items. None ∷ items) (missing_from mem (o + 1) n)

pub of_missing : (mem : List Run) (n : ℕ) → items_from mem src.Missing 0 n ≡ replicate n None
of_missing mem n = missing_from mem 0 n

-- a chunk of memory
pub of_memory : (mem : List Run) (at n : ℕ) → items_from mem (src.Mem at) 0 n ≡ items_at mem at n
of_memory mem at n = memory_items mem at 0 n ∙ ap (λ a. items_at mem a n) (add-zero at)

-- the number of bytes, in the words of two crates
same_number : (bytes : List ℕ) → little_endian bytes ≡ little_number (length bytes) bytes
same_number [] = refl
same_number (b ∷ bytes) = ap (λ n. b + 256 * n) (same_number bytes ∙ sym (little_from-cons 0 (length bytes) b bytes))

-- an address past the number in a register
pub past_register : (snap : Snapshot) (reg : Reg) (n : ℤ) (bytes : List ℕ) (low : ℕ) → register snap.regs reg ≡ Some bytes →
    low ≡ little_number (length bytes) bytes % 2 ^ 64
    → Some ((low + cast_unsigned w64 n) % 2 ^ 64) ≡ address_by 8 snap reg n
past_register snap reg n bytes low e f =
    ap (λ l. Some ((l + cast_unsigned w64 n) % 2 ^ 64)) f
    ∙ ap Some (mod-add-mod (little_number (length bytes) bytes) (2 ^ 64) (cast_unsigned w64 n))
    ∙ ap (λ m. Some ((m + cast_unsigned w64 n) % 2 ^ 64)) (sym (same_number bytes))
    ∙ sym (ap (λ found. option_map (λ a. (a + cast_unsigned w64 n) % 2 ^ 64) (option_map little_endian found)) e)
