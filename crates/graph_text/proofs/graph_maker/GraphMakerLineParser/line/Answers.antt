use Rattle.graph_text.proofs.Words.{◌∙◌, gr_rules, taken_of}
use Rattle.text_lines.proofs.ParserLaws.{on_ok, gives_taken, gives_broken}
use Rattle.graph_text.proofs.GraphParserLaws.{line_rule}
use Rattle.graph_text.proofs.graph_maker.GraphMakerLineParser.line.Goals as goal

pub returns-clause-ok : goal.returns-clause-ok
returns-clause-ok g c = on_ok c.parse_line.result _ _ c.parse_line.ensures.line
    (λ e cut at l rest r shown _ h. gives_taken gr_rules g.G.FromArcs.roads (taken_of c.args.self.now.parser) (taken_of c.parse_line.new.self) cut at l rest r
    (line_rule c.args.self.now.parser c.args.slots.now l shown ∙ e) h)

pub returns-clause-broken : goal.returns-clause-broken
returns-clause-broken g c = λ rule is cut at l rest shown _.
    gives_broken gr_rules g.G.FromArcs.roads (taken_of c.args.self.now.parser) cut at l rest rule.number (line_rule c.args.self.now.parser c.args.slots.now l shown ∙ (rw is at c.parse_line.ensures.line))
