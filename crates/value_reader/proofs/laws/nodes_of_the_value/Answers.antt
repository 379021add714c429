use Rattle.layout_values.specs.Contexts.{context_of}
use Rattle.layout_values.specs.Images.{levels}
use Rattle.value_reader.proofs.Filled.{fits, nodes_agree}
use Rattle.value_reader.proofs.laws.nodes_of_the_value.Goals as goal

pub returns : goal.returns
returns x = λ set memory width depth ty p y shallow ends long h. nodes_agree (context_of set memory width) (fits set shallow ends) (levels depth)
    depth ty p y long h
