use Rattle.layout_set.specs.declared.breach.Item.TheVariants.{Func}
use Rattle.dbg_command.proofs.view.View.put_funcs.Goals as goal

-- the types of all variables are types of the set
pub put_called-requires-clause-within : goal.put_called-requires-clause-within
put_called-requires-clause-within c = rw c.as_slice.ensures (λ i d l. c.requires.sizes.within (Func i) l d)
