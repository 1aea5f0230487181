use Rattle.road_files.proofs.Words.{map, word_of, reads_text, reads_sure, AreQuestionsOf, bundle_with, bundle_rules}
use Rattle.road_files.specs.BundleTakes.{bundle_meaning}
use Rattle.road_files.proofs.BundleParserLaws.{by_value, by_fault, by_fit}
use Rattle.road_files.proofs.RoadNumbers.{bundles_line, bundles_end}
use Rattle.road_files.proofs.bundle_files.read_bundle_as.Goals as goal

pub returns-clause-reads : goal.returns-clause-reads
returns-clause-reads g c = let s = c.new.result in let start = c.new.ensures.start in
    reads_text bundle_rules (bundle_with g.G.FromArcs.roads) (bundle_meaning (λ s. s.part) g.G.FromArcs.roads) s (by_value g.G.FromArcs.roads s.part start)
    (by_fault g.G.FromArcs.roads s.part start) (g.R.RoadRead.seen c.args.from.now) (g.R.RoadRead.seen c.read_whole.new.from) 10 19
    (λ t fs. bundles_line t (map word_of fs)) bundles_end
    c.read_whole.result c.read_whole.ensures

pub returns-clause-fit : goal.returns-clause-fit
returns-clause-fit g c = let s = c.new.result in let e = c.new.ensures.start in
    reads_sure (bundle_meaning (λ s. s.part) g.G.FromArcs.roads) s (λ b. AreQuestionsOf (g.G.FromArcs.roads b.0).vertices b.1)
    (by_fit g.G.FromArcs.roads s.part e) c.read_whole.result c.read_whole.ensures.some_text
