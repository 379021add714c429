use Rattle.rust_names.proofs.RustWhole as rust
use Rattle.rust_names.proofs.read.one_rust_name.Goals as goal

pub returns : goal.returns
returns c = rust.one_rust_name
