use Rattle.graph_text.proofs.Words.{gives_taken, gr_rules, taken_of}
use Rattle.graph_text.proofs.graph_maker.GraphMakerLineParser.short_line.Goals as goal

pub returns-clause-taken : goal.returns-clause-taken
returns-clause-taken g c = λ yes cut at l rest r shown more. gives_taken gr_rules g.G.FromArcs.roads (taken_of c.args.self.now.parser)
    (taken_of c.short.new.self) cut at l rest r (c.short.ensures.taken yes l shown) more
