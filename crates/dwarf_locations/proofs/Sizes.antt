-- The reader of the operation that ends a piece is exact.
use Rattle.std.proofs.Common.{◌≡◌, ◌<◌, ℕ, ◌==◌, length, Ok, Err, ap, arith, length-append}
use Rattle.rv_bytes.specs.Places.{Place}
use Rattle.rv_bytes.specs.Forms.{choose, fails}
use Rattle.rv_bytes.specs.Numbers.{number, uleb}
use Rattle.rv_bytes.specs.NumberReaders.{read_number, read_uleb}
use Rattle.rv_bytes.specs.Readers.{bad}
use Rattle.rv_bytes.specs.Reads.{Takes}
use Rattle.rv_bytes.specs.Results.{Reads}
use Rattle.rv_bytes.specs.declared.err.DwErr.{DwErr}
use Rattle.rv_bytes.proofs.Exact.{Exact, follow_exact, item_exact, choose_exact, fails_exact}
use Rattle.rv_bytes.proofs.ByteNumbers.{number_exact}
use Rattle.rv_bytes.proofs.Lebs.{uleb_exact}
use Rattle.rv_bytes.proofs.Calls.{taken_by, refused_by}
use Rattle.expr_bytes.specs.Codes as code
use Rattle.expr_bytes.specs.Readers.{in_cut}
use Rattle.expr_bytes.specs.Rules.{bad_operation}
use Rattle.expr_bytes.specs.declared.place.OpsErr.{OpsErr}
use Rattle.dwarf_locations.specs.Pieces.{piece_size, size_rule}
use Rattle.dwarf_locations.specs.Steps.{read_coded_size, read_piece_size, IsRefusedSize}

pub size_exact : Exact piece_size read_piece_size
size_exact =
    item_exact _ read_coded_size size_rule
    (follow_exact (number 1) (λ op. choose (op == code.piece) uleb (fails bad_operation)) (read_number 1) _ (number_exact 1)
    (λ op. choose_exact (op == code.piece) uleb (fails bad_operation) read_uleb (λ m k. bad bad_operation m) uleb_exact (fails_exact bad_operation)))

pub size_taken : (old new : Place) (size : ℕ) → Reads (read_piece_size old.at old.rest) (Ok size) new → Takes piece_size old new size
size_taken old new size h = taken_by piece_size read_piece_size size_exact (λ v. v) old new (Ok size) h

pub size_refused : (old new : Place) (e : DwErr) (d : OpsErr) → Reads (read_piece_size old.at old.rest) (Err e) new → d ≡ in_cut e → IsRefusedSize old d
size_refused old new (DwErr.Refused at rule) d h r = rw r (refused_by piece_size read_piece_size size_exact (λ (v : ℕ). v) old new (Err (DwErr.Refused at rule)) h)
size_refused old new DwErr.Memory d h r = rw r tt

-- it has a byte
pub size_shorter : (old new : Place) (size : ℕ) → Takes piece_size old new size → length new.rest < length old.rest
size_shorter old new size w =
    let s = w.spells.0.1 in
    omega (arith, ap length w.bytes, length-append w.spelling new.rest, ap length s.split, length-append s.front s.back, s.is_front.1.1.1)
