use Rattle.dbg_command.proofs.stop.tell_breach.Goals as goal

pub returns-in-Whole : goal.returns-in-Whole
returns-in-Whole g c = rw c.in-Whole.is c.tell_number.ensures

pub returns-in-Def : goal.returns-in-Def
returns-in-Def g c = rw c.in-Def.is c.tell_numbers.ensures

pub returns-in-Static : goal.returns-in-Static
returns-in-Static g c = rw c.in-Static.is c.tell_numbers-in-Static.ensures

pub returns-in-Func : goal.returns-in-Func
returns-in-Func g c = rw c.in-Func.is c.tell_numbers-in-Func.ensures
