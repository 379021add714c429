-- The reader of Rust's spelling reads proper names.
use Rattle.std.proofs.Common.{sym, subst}
use Rattle.names.specs.declared.name.Name.{Name}
use Rattle.rust_names.specs.RustText.{RustSpells}
use Rattle.names.specs.Claims.{IsOfOne}
use Rattle.names.specs.Reading.{Reader}
use Rattle.rust_names.specs.RustGrammar.{rust}
use Rattle.names.proofs.Readers.{IsReader, Inhabited, as_reader}
use Rattle.rust_names.proofs.RustLaws.{NameStops, rust_law}
use Rattle.rust_names.proofs.RustMeaning.{rust_means}
use Rattle.rust_names.proofs.RustSpelled.{rust_spells}
use Rattle.names.proofs.Whole as whole

abbrev pub rust_names : Reader Name
rust_names = record { read = (rust 64).whole.read; Spells = RustSpells }

pub rust_names_reader : IsReader NameStops rust_names
rust_names_reader =
    as_reader (rust 64).whole RustSpells (rust_law 63).whole (λ n t h. (rust_means 64).of_whole n t h)
    (λ n t h. subst ((rust 64).whole.Spells n) (sym h.1) ((rust_spells 64).to_whole n h.0))

pub rust_names_some : Inhabited rust_names
rust_names_some = let some = (rust_law 63).some_whole in (some.0, (some.1.0, (rust_means 64).of_whole some.0 some.1.0 some.1.1))

pub one_rust_name : IsOfOne RustSpells
one_rust_name = whole.of_one rust_names rust_names_reader tt rust_names_some
