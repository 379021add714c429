use Rattle.rv_bytes.specs.Numbers.{bytes, number, uleb, sleb, zero_text, text}
use Rattle.rv_bytes.specs.Leaves.{numeric}
use Rattle.rv_bytes.specs.NumberReaders.{read_bytes, read_number, read_uleb, read_sleb, read_zero_text, read_text, read_numeric}
use Rattle.rv_bytes.proofs.Exact.{definite}
use Rattle.rv_bytes.proofs.ByteNumbers.{bytes_exact, number_exact}
use Rattle.rv_bytes.proofs.Lebs.{uleb_exact, sleb_exact}
use Rattle.rv_bytes.proofs.ZeroTexts.{zero_text_exact}
use Rattle.rv_bytes.proofs.CheckedTexts.{text_exact}
use Rattle.rv_bytes.proofs.Leaves.{numeric_exact}
use Rattle.rv_bytes.proofs.laws.numbers_have_one_reading.Goals as goal

-- each form has an exact reader
pub returns : goal.returns
returns c = record {
  bytes = λ n. definite (bytes n) (read_bytes n) (bytes_exact n);
  number = λ w. definite (number w) (read_number w) (number_exact w);
  uleb = definite uleb read_uleb uleb_exact;
  sleb = definite sleb read_sleb sleb_exact;
  zero_text = definite zero_text read_zero_text zero_text_exact;
  text = definite text read_text text_exact;
  numeric = definite numeric read_numeric numeric_exact;
}
