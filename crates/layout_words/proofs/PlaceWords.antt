-- The words of places, registers and operations.
use Rattle.std.proofs.Common.{◌≡◌, ◌≢◌, ◌∙◌, subst, refl, ℕ, Bool, true, false, cond, List, [], ◌∷◌, Option, Some}
use Rattle.std.proofs.lemmas.Option.{same_Some}
use Rattle.std.specs.Str.{bytes_eq}
use Rattle.snapshot_file.specs.declared.registers.Reg.{Reg}
use Rattle.snapshot_file.specs.declared.registers.Reg.TheVariants as regs
use Rattle.snapshot_file.specs.Registers.{name_of}
use Rattle.expr_eval.specs.declared.operation.Op.{Op}
use Rattle.layout_words.specs.declared.kinds.PlaceKind.{PlaceKind}
use Rattle.layout_words.specs.declared.kinds.PlaceKind.TheVariants as places
use Rattle.layout_words.specs.declared.kinds.NumberedOp.{NumberedOp}
use Rattle.layout_words.specs.Kinds.{named_in, place_word, all_entry_kinds, entry_kind_of, all_piece_kinds, piece_kind_of, numbered_word, all_numbered_ops, numbered_of, plain_word, all_plain_ops, plain_of}
use Rattle.layout_words.specs.PlaceSpellings.{op_text, IsOp}
use Rattle.layout_words.proofs.Lacking.{is_free}
use Rattle.layout_words.proofs.Visible.{is_from}
use Rattle.layout_words.proofs.KindWords.{named_says}

-- each item of a list has the property
abbrev Each : {A : Type 0} → (A → Type 0) → List A → Type 0
Each P [] = Unit {0}
Each P (x ∷ xs) = P x × Each P xs

each_by : {A : Type 0} (P : A → Type 0) (x : A) (o : Option A) (a : A) (t : Bool) → P x → (o ≡ Some a → P a) → cond t (Some x) o ≡ Some a → P a
each_by P x o a true h k e = subst P (same_Some x a e) h
each_by P x o a false h k e = k e

-- and so has the one that is found
named_each : {A : Type 0} (P : A → Type 0) (name : A → List ℕ) (xs : List A) (word : List ℕ) (a : A) → Each P xs → named_in name xs word ≡ Some a → P a
named_each P name [] word a h e = absurd (cc)
named_each P name (x ∷ xs) word a h e = each_by P x (named_in name xs word) a (bytes_eq word (name x)) h.0 (named_each P name xs word a h.1) e

-- the kinds of entries

abbrev pub IsEntryKind : PlaceKind → Type 0
IsEntryKind kind = kind ≢ places.Nowhere

entry_kinds : Each IsEntryKind all_entry_kinds
entry_kinds = (λ e. cc, (λ e. cc, (λ e. cc, (λ e. cc, (λ e. cc, (λ e. cc, tt))))))

pub entry_kind_says : (word : List ℕ) (kind : PlaceKind) → entry_kind_of word ≡ Some kind → (word ≡ place_word kind) × IsEntryKind kind
entry_kind_says word kind e = (named_says place_word all_entry_kinds word kind e, named_each IsEntryKind place_word all_entry_kinds word kind entry_kinds e)

pub entry_kind_some : (kind : PlaceKind) → IsEntryKind kind → entry_kind_of (place_word kind) ≡ Some kind
entry_kind_some places.Reg h = refl
entry_kind_some places.Mem h = refl
entry_kind_some places.Fixed h = refl
entry_kind_some places.Value h = refl
entry_kind_some places.Expr h = refl
entry_kind_some places.Pieces h = refl
entry_kind_some places.Nowhere h = absurd (h refl)

-- the kinds of pieces

abbrev pub IsPieceKind : PlaceKind → Type 0
IsPieceKind kind = kind ≢ places.Pieces

piece_kinds : Each IsPieceKind all_piece_kinds
piece_kinds = (λ e. cc, (λ e. cc, (λ e. cc, (λ e. cc, (λ e. cc, (λ e. cc, tt))))))

pub piece_kind_says : (word : List ℕ) (kind : PlaceKind) → piece_kind_of word ≡ Some kind → (word ≡ place_word kind) × IsPieceKind kind
piece_kind_says word kind e = (named_says place_word all_piece_kinds word kind e, named_each IsPieceKind place_word all_piece_kinds word kind piece_kinds e)

pub piece_kind_some : (kind : PlaceKind) → IsPieceKind kind → piece_kind_of (place_word kind) ≡ Some kind
piece_kind_some places.Reg h = refl
piece_kind_some places.Mem h = refl
piece_kind_some places.Fixed h = refl
piece_kind_some places.Value h = refl
piece_kind_some places.Expr h = refl
piece_kind_some places.Pieces h = absurd (h refl)
piece_kind_some places.Nowhere h = refl

pub place_word_visible : (kind : PlaceKind) → is_from 45 (place_word kind) ≡ true
place_word_visible places.Reg = refl
place_word_visible places.Mem = refl
place_word_visible places.Fixed = refl
place_word_visible places.Value = refl
place_word_visible places.Expr = refl
place_word_visible places.Pieces = refl
place_word_visible places.Nowhere = refl

-- operations

pub numbered_says : (word : List ℕ) (kind : NumberedOp) → numbered_of word ≡ Some kind → word ≡ numbered_word kind
numbered_says word kind e = named_says numbered_word all_numbered_ops word kind e

-- an operation whose word is all its text
abbrev IsPlain : Op → Type 0
IsPlain op = (plain_word op ≡ op_text op) × IsOp op

plain_ops : Each IsPlain all_plain_ops
plain_ops = (
  (refl, tt),
  (
    (refl, tt),
    (
      (refl, tt),
      (
        (refl, tt),
        (
          (refl, tt),
          (
            (refl, tt),
            (
              (refl, tt),
              (
                (refl, tt),
                (
                  (refl, tt),
                  (
                    (refl, tt),
                    ((refl, tt), ((refl, tt), ((refl, tt), ((refl, tt), ((refl, tt), ((refl, tt), ((refl, tt), ((refl, tt), ((refl, tt), tt))))))))),
                  ),
                ),
              ),
            ),
          ),
        ),
      ),
    ),
  ),
)

pub plain_says : (word : List ℕ) (op : Op) → plain_of word ≡ Some op → (word ≡ op_text op) × IsOp op
plain_says word op e =
    let known = named_each IsPlain plain_word all_plain_ops word op plain_ops e in
    (named_says plain_word all_plain_ops word op e ∙ known.0, known.1)

-- no colon stands in the name of a register, and each of its characters is visible
pub register_clear : (reg : Reg) → (is_free 58 (name_of reg) ≡ true) × (is_from 45 (name_of reg) ≡ true)
register_clear regs.Rax = (refl, refl)
register_clear regs.Rdx = (refl, refl)
register_clear regs.Rcx = (refl, refl)
register_clear regs.Rbx = (refl, refl)
register_clear regs.Rsi = (refl, refl)
register_clear regs.Rdi = (refl, refl)
register_clear regs.Rbp = (refl, refl)
register_clear regs.Rsp = (refl, refl)
register_clear regs.R8 = (refl, refl)
register_clear regs.R9 = (refl, refl)
register_clear regs.R10 = (refl, refl)
register_clear regs.R11 = (refl, refl)
register_clear regs.R12 = (refl, refl)
register_clear regs.R13 = (refl, refl)
register_clear regs.R14 = (refl, refl)
register_clear regs.R15 = (refl, refl)
register_clear regs.Xmm0 = (refl, refl)
register_clear regs.Xmm1 = (refl, refl)
register_clear regs.Xmm2 = (refl, refl)
register_clear regs.Xmm3 = (refl, refl)
register_clear regs.Xmm4 = (refl, refl)
register_clear regs.Xmm5 = (refl, refl)
register_clear regs.Xmm6 = (refl, refl)
register_clear regs.Xmm7 = (refl, refl)
register_clear regs.Xmm8 = (refl, refl)
register_clear regs.Xmm9 = (refl, refl)
register_clear regs.Xmm10 = (refl, refl)
register_clear regs.Xmm11 = (refl, refl)
register_clear regs.Xmm12 = (refl, refl)
register_clear regs.Xmm13 = (refl, refl)
register_clear regs.Xmm14 = (refl, refl)
register_clear regs.Xmm15 = (refl, refl)
