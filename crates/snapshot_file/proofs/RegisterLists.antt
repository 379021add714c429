-- A register put among the others.
use Rattle.std.proofs.Common.{◌≡◌, ◌∙◌, sym, ap, refl, ℕ, ◌<◌, ◌≤◌, ◌-◌, true, false, cond, List, [], ◌∷◌, ◌++◌, length, set, Option, Some, nat_lt, arith}
use Rattle.std.proofs.lemmas.List.{set-append_left, set-append_right}
use Rattle.std.proofs.lemmas.Bool.{lt-ltb, le-ltb}
use Rattle.std.proofs.lemmas.Option.{same_Some}
use Rattle.std.proofs.lemmas.Slice.Eq.{bytes_eq-Decides}
use Rattle.std.specs.Str.{bytes_eq}
use Rattle.std.specs.Int.{to_le_bytes, w64, w128}
use Rattle.snapshot_file.specs.declared.registers.Reg.{Reg}
use Rattle.snapshot_file.specs.declared.registers.Reg.TheVariants as regs
use Rattle.snapshot_file.specs.Registers.{number_of, name_of, named_in, all_regs, reg_of, with_register}

pub set_general : (general vector values : List (Option (List ℕ))) (reg : Reg) (n i : ℕ) (bytes : List ℕ) → length general ≡ 16 → general ++ vector ≡ values → i ≡ number_of reg → i < 16 → bytes ≡ to_le_bytes w64 n
    → set general i (Some bytes) ++ vector ≡ with_register values reg n
set_general general vector values reg n i bytes size whole place low is =
    let test : nat_lt (number_of reg) 16 ≡ true = lt-ltb (number_of reg) 16 (omega (arith, place)) in
    sym (set-append_left general vector i (Some bytes) (omega (arith, size)))
    ∙ ap (λ xs. set xs i (Some bytes)) whole ∙ ap (λ k. set values k (Some bytes)) place
    ∙ ap (λ b. set values (number_of reg) (Some b)) (is ∙ ap (λ t. cond t (to_le_bytes w64 n) (to_le_bytes w128 n)) (sym test))

pub set_vector : (general vector values : List (Option (List ℕ))) (reg : Reg) (n i : ℕ) (bytes : List ℕ) → length general ≡ 16 → general ++ vector ≡ values → i ≡ number_of reg → 16 ≤ i → bytes ≡ to_le_bytes w128 n
    → general ++ set vector (i - 16) (Some bytes) ≡ with_register values reg n
set_vector general vector values reg n i bytes size whole place high is =
    let test : nat_lt (number_of reg) 16 ≡ false = le-ltb (number_of reg) 16 (omega (arith, place)) in
    sym (set-append_right general vector 16 i (Some bytes) size high)
    ∙ ap (λ xs. set xs i (Some bytes)) whole ∙ ap (λ k. set values k (Some bytes)) place
    ∙ ap (λ b. set values (number_of reg) (Some b)) (is ∙ ap (λ t. cond t (to_le_bytes w64 n) (to_le_bytes w128 n)) (sym test))

named_is : (rs : List Reg) (word : List ℕ) (reg : Reg) → named_in rs word ≡ Some reg → word ≡ name_of reg
named_is [] word reg e = absurd (cc)
named_is (r ∷ rs) word reg e =
    let test = bytes_eq word (name_of r) in
    elim test as (λ b. test ≡ b → cond b (Some r) (named_in rs word) ≡ Some reg → word ≡ name_of reg) [
      | true ↦ λ t f. (bytes_eq-Decides word (name_of r)).0 t ∙ ap name_of (same_Some r reg f)
      | false ↦ λ t f. named_is rs word reg f
    ] refl e

-- a word that names a register is its name
pub word_of : (word : List ℕ) (reg : Reg) → reg_of word ≡ Some reg → word ≡ name_of reg
word_of word reg e = named_is all_regs word reg e

-- the name of a register names it
pub named : (reg : Reg) → reg_of (name_of reg) ≡ Some reg
named regs.Rax = refl
named regs.Rdx = refl
named regs.Rcx = refl
named regs.Rbx = refl
named regs.Rsi = refl
named regs.Rdi = refl
named regs.Rbp = refl
named regs.Rsp = refl
named regs.R8 = refl
named regs.R9 = refl
named regs.R10 = refl
named regs.R11 = refl
named regs.R12 = refl
named regs.R13 = refl
named regs.R14 = refl
named regs.R15 = refl
named regs.Xmm0 = refl
named regs.Xmm1 = refl
named regs.Xmm2 = refl
named regs.Xmm3 = refl
named regs.Xmm4 = refl
named regs.Xmm5 = refl
named regs.Xmm6 = refl
named regs.Xmm7 = refl
named regs.Xmm8 = refl
named regs.Xmm9 = refl
named regs.Xmm10 = refl
named regs.Xmm11 = refl
named regs.Xmm12 = refl
named regs.Xmm13 = refl
named regs.Xmm14 = refl
named regs.Xmm15 = refl
