use Rattle.graph_text.proofs.Words.{map, word_of, gr_rules}
use Rattle.text_lines.proofs.ParserLaws.{reads_text}
use Rattle.graph_text.specs.GraphTakes.{graph_meaning}
use Rattle.graph_text.proofs.GraphParserLaws.{by_value, by_fault}
use Rattle.graph_text.proofs.RuleLaws.{graph_line, graph_end}
use Rattle.graph_text.proofs.graph_files.read_gr_as.Goals as goal

pub returns : goal.returns
returns g c = let s = c.new.result in
    reads_text gr_rules g.G.FromArcs.roads (graph_meaning (λ s. s.parser) g.G.FromArcs.roads) s (by_value g.G.FromArcs.roads s.parser c.new.ensures)
    (by_fault g.G.FromArcs.roads s.parser c.new.ensures)
    (g.R.RoadRead.seen c.args.from.now) (g.R.RoadRead.seen c.read_whole.new.from) 10 19 (λ t fs. graph_line t (map word_of fs)) graph_end
    c.read_whole.result c.read_whole.ensures
