use Rattle.question_solvers.proofs.QuestionKinds.{pair_asked, pair_within}
use Rattle.question_solvers.proofs.pair_search.pair_at.Goals as goal

pub returns-clause-asked : goal.returns-clause-asked
returns-clause-asked g c = let over = c.args.over.now in pair_asked over.task.now.questions.now c.args.place c.in-Pairs.pairs c.index.result.now c.in-Pairs.is c.requires.place c.index.ensures

pub returns-clause-source : goal.returns-clause-source
returns-clause-source g c = let over = c.args.over.now in (pair_within over.graph.now.vertices over.task.now.questions.now c.args.place c.in-Pairs.pairs c.index.result.now over.within c.in-Pairs.is c.requires.place c.index.ensures).0

pub returns-clause-target : goal.returns-clause-target
returns-clause-target g c = let over = c.args.over.now in (pair_within over.graph.now.vertices over.task.now.questions.now c.args.place c.in-Pairs.pairs c.index.result.now over.within c.in-Pairs.is c.requires.place c.index.ensures).1
