use Rattle.std.proofs.Common.{◌∙◌, ap, ℕ, Option, Some, None, option_and_then}
use Rattle.std.specs.Option.{option_map}
use Rattle.dwarf_entries.specs.Dies.{die_at}
use Rattle.dwarf_dies.specs.Views.{die_of, number_of_die}
use Rattle.dwarf_dies.proofs.Targets.{link_is, no_start}
use Rattle.dwarf_dies.proofs.dies.Dies.linked.Goals as goal

pub returns-in_err-start : goal.returns-in_err-start
returns-in_err-start c = c.from_residual.ensures ∙ no_start c.args.self.now c.args.code (die_of c.args.self.now c.args.number) c.in_err-start.ensures

pub returns-in_err-value : goal.returns-in_err-value
returns-in_err-value c = c.from_residual-in_err-value.ensures ∙ link_is c.args.self.now c.args.code c.in_ok-start.start None (die_of c.args.self.now c.args.number) c.in_ok-start.ensures c.in_err-value.ensures

pub returns-in_err-target : goal.returns-in_err-target
returns-in_err-target c =
    c.from_residual-in_err-target.ensures ∙ ap (λ (o : Option ℕ). option_map number_of_die (option_and_then (die_at c.args.self.now) o)) c.in_err-target.ensures
    ∙ link_is c.args.self.now c.args.code c.in_ok-start.start (Some c.in_ok-value.value) (die_of c.args.self.now c.args.number) c.in_ok-start.ensures c.in_ok-value.ensures

pub returns : goal.returns
returns c =
    c.at_target.ensures ∙ ap (λ (o : Option ℕ). option_map number_of_die (option_and_then (die_at c.args.self.now) o)) c.in_ok-target.ensures
    ∙ link_is c.args.self.now c.args.code c.in_ok-start.start (Some c.in_ok-value.value) (die_of c.args.self.now c.args.number) c.in_ok-start.ensures c.in_ok-value.ensures
