use Rattle.order_files.proofs.OrderLines.{line_ok, line_broken}
use Rattle.order_files.proofs.order_parser.OrderParserLineParser.line.Goals as goal

pub returns-clause-ok : goal.returns-clause-ok
returns-clause-ok c = line_ok c.args.self.now c.parse_line.new.self c.args.slots.now c.parse_line.ensures.vertices c.parse_line.result c.parse_line.ensures.taken

pub returns-clause-broken : goal.returns-clause-broken
returns-clause-broken c = line_broken c.args.self.now c.parse_line.new.self c.args.slots.now c.parse_line.ensures.vertices c.parse_line.result c.parse_line.ensures.taken
