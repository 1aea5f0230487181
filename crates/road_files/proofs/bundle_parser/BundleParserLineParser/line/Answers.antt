use Rattle.road_files.proofs.Words.{◌∙◌, bundle_with, bundle_rules, bundle_so_far}
use Rattle.text_lines.proofs.ParserLaws.{on_ok, gives_taken, gives_broken}
use Rattle.road_files.proofs.BundleParserLaws.{kept_rule}
use Rattle.road_files.proofs.bundle_parser.BundleParserLineParser.line.Goals as goal

pub returns-clause-ok : goal.returns-clause-ok
returns-clause-ok g c = on_ok c.parse_line.result _ _ c.parse_line.ensures.rule
    (λ e cut at l rest r shown so h. (
      gives_taken bundle_rules (bundle_with g.G.FromArcs.roads) (bundle_so_far c.args.self.now.part)
          (bundle_so_far c.parse_line.new.self.part) cut at l rest r (kept_rule c.args.self.now.part c.args.slots.now l shown so ∙ e) h.0,
      h.1,
    ))

pub returns-clause-broken : goal.returns-clause-broken
returns-clause-broken g c = λ rule is cut at l rest shown so. (
  gives_broken bundle_rules (bundle_with g.G.FromArcs.roads) (bundle_so_far c.args.self.now.part) cut at l rest rule.number
      (kept_rule c.args.self.now.part c.args.slots.now l shown so ∙ (rw is at c.parse_line.ensures.rule)),
  tt,
)
