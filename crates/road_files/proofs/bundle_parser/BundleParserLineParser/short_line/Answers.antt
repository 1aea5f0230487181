use Rattle.std.proofs.Common.{rules, ◌≡◌}
use Rattle.road_files.proofs.Words.{gives_taken, taken_of, InGraph, bundle_with, bundle_rules, bundle_so_far}
use Rattle.road_files.proofs.BundleParserLaws.{short_rule}
use Rattle.road_files.proofs.bundle_parser.BundleParserLineParser.short_line.Goals as goal

pub returns-in-Graph-clause-taken : goal.returns-in-Graph-clause-taken
returns-in-Graph-clause-taken g c = λ yes cut at l rest r shown more.
    let was : bundle_so_far c.args.self.now.part ≡ InGraph (taken_of c.in-Graph.graph) = search rules in (
      gives_taken bundle_rules (bundle_with g.G.FromArcs.roads) (bundle_so_far c.args.self.now.part) (InGraph (taken_of c.short.new.self)) cut at l rest r
          (short_rule c.args.self.now.part c.in-Graph.graph c.short.new.self l c.args.letter c.args.numbers.0 c.args.numbers.1 c.args.numbers.2 was
          (c.short.ensures.letter yes) shown (c.short.ensures.taken yes l shown)) more.0,
      more.1,
    )
