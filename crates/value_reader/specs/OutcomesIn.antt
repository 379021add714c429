-- What is told of a variable, in an arena.
use Rattle.rust_value.specs.Held.{value_of}
use Rattle.rust_value.specs.Named.{HasWords}
use Rattle.layout_values.specs.declared.outcome.Outcome.{Outcome}
use Rattle.layout_values.specs.declared.outcome.Outcome.TheVariants as outcomes
use Rattle.value_reader.specs.declared.outcome_in.OutcomeIn.{OutcomeIn}
use Rattle.value_reader.specs.declared.outcome_in.OutcomeIn.TheVariants.{Value, Unavailable, Invalid, TooLarge}

-- what is told, with the value that one in an arena stands for
abbrev pub outcome_of : OutcomeIn → Outcome
outcome_of (Value x) = outcomes.Value (value_of x)
outcome_of Unavailable = outcomes.Unavailable
outcome_of Invalid = outcomes.Invalid
outcome_of TooLarge = outcomes.TooLarge

-- each name of a value is a word
abbrev pub HasNames : Outcome → Type 0
HasNames (outcomes.Value x) = HasWords x
HasNames outcomes.Unavailable = Unit {0}
HasNames outcomes.Invalid = Unit {0}
HasNames outcomes.TooLarge = Unit {0}
