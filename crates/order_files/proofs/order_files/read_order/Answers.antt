use Rattle.std.proofs.Common.{◌≡◌, length, map}
use Rattle.text_lines.specs.Words.{word_of}
use Rattle.text_lines.proofs.ParserLaws.{reads_text, reads_sure}
use Rattle.order_files.specs.OrderFiles.{order_rules}
use Rattle.order_files.specs.OrderTakes.{order_meaning}
use Rattle.order_files.proofs.OrderFaults.{line_faults, end_faults, by_value, by_fault, by_each, no_memory}
use Rattle.order_files.proofs.order_files.read_order.Goals as goal

pub returns-in-Ok-clause-reads : goal.returns-in-Ok-clause-reads
returns-in-Ok-clause-reads g c = let n = c.args.vertices in let s = c.in-Ok.parser in let none = c.in-Ok.ensures.none in let same = c.in-Ok.ensures.vertices in
    reads_text (order_rules n) (λ order. order.vertices.items) order_meaning s (by_value s none n same) (by_fault s none n same)
    (g.R.RoadRead.seen c.args.from.now) (g.R.RoadRead.seen c.read_whole.new.from) 10 20 (λ places fs. line_faults n places (map word_of fs)) (end_faults n)
    c.read_whole.result c.read_whole.ensures

pub returns-in-Ok-clause-each : goal.returns-in-Ok-clause-each
returns-in-Ok-clause-each g c = let n = c.args.vertices in
    reads_sure order_meaning c.in-Ok.parser (λ order. length order.vertices.items ≡ n) (by_each c.in-Ok.parser c.in-Ok.ensures.none n c.in-Ok.ensures.vertices)
    c.read_whole.result c.read_whole.ensures.some_text

pub returns-in-Err-clause-reads : goal.returns-in-Err-clause-reads
returns-in-Err-clause-reads g c = no_memory (g.R.RoadRead.seen c.args.from.now) c.args.vertices (λ order. order.vertices.items)
