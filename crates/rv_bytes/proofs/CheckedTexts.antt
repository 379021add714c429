-- The reader of texts is exact, as that of bytes before a zero byte is.
use Rattle.rv_bytes.specs.Numbers.{zero_text, text_breaks, text}
use Rattle.rv_bytes.specs.NumberReaders.{read_zero_text, read_text}
use Rattle.rv_bytes.proofs.Exact.{Exact, item_exact}
use Rattle.rv_bytes.proofs.ZeroTexts.{zero_text_exact}

pub text_exact : Exact text read_text
text_exact = item_exact zero_text read_zero_text text_breaks zero_text_exact
