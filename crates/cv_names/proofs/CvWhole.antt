-- The reader of CodeView's spelling reads the names with a text in it.
use Rattle.cv_names.specs.CvText.{CvSpells}
use Rattle.names.specs.Claims.{IsOfOne}
use Rattle.names.specs.declared.name.Name.{Name}
use Rattle.names.specs.Reading.{Reader}
use Rattle.cv_names.specs.CvGrammar.{cv}
use Rattle.names.proofs.Readers.{IsReader, Inhabited, as_reader}
use Rattle.cv_names.proofs.CvLaws.{NameStops, cv_law}
use Rattle.cv_names.proofs.CvMeaning.{cv_means}
use Rattle.names.proofs.Whole as whole_text

abbrev pub cv_names : Reader Name
cv_names = record { read = (cv 64).whole.read; Spells = CvSpells }

pub cv_names_reader : IsReader NameStops cv_names
cv_names_reader = as_reader (cv 64).whole CvSpells (cv_law 63).whole (λ n t h. (cv_means 64).of_whole n t h) (λ n t h. (cv_means 64).to_whole n t h)

pub cv_names_some : Inhabited cv_names
cv_names_some = let some = (cv_law 63).some_whole in (some.0, (some.1.0, (cv_means 64).of_whole some.0 some.1.0 some.1.1))

pub one_cv_name : IsOfOne CvSpells
one_cv_name = whole_text.of_one cv_names cv_names_reader tt cv_names_some
