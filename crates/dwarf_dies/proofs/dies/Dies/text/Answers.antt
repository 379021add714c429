use Rattle.std.proofs.Common.{subst, sym}
use Rattle.std.specs.Prelude.{MatchResult}
use Rattle.dwarf_entries.specs.Shapes.{Sections}
use Rattle.dwarf_entries.specs.TextResults.{IsText, IsNoText, bytes_of}
use Rattle.dwarf_entries.specs.Texts.{text_found}
use Rattle.dwarf_dies.specs.Attributes.{attribute_kept}
use Rattle.dwarf_dies.proofs.Targets.{sections_are}
use Rattle.dwarf_dies.proofs.dies.Dies.text.Goals as goal

pub returns : goal.returns
returns c =
    let same = sections_are c.self.inside.abbrevs.now (bytes_of c.self.inside.sections) c.self.inside.units c.self.inside.count c.args.self.now c.self.invariant c.self.view_is in
    subst
    (λ (x : Sections). MatchResult c.text_of.result (λ t. IsText (text_found x c.args.bases (attribute_kept c.args.attribute)) t.now) (IsNoText (text_found x c.args.bases (attribute_kept c.args.attribute))))
    (sym same) c.text_of.ensures
