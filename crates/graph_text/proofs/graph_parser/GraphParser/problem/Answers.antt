use Rattle.graph_text.proofs.Words.{arith, common_steps, gr_problem}
use Rattle.graph_text.proofs.graph_parser.GraphParser.problem.Goals as goal

pub returns-then-slots-ne4 : goal.returns-then-slots-ne4
unfolding gr_problem
returns-then-slots-ne4 c = grind (arith, common_steps)
