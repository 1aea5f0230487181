use Rattle.graph_text.proofs.GraphIsSaid.{lines_say}
use Rattle.graph_text.proofs.laws.lines_say_the_graph.Goals as goal

pub returns : goal.returns
returns c = λ bytes g read. lines_say bytes g read
