use Rattle.answer_lists.proofs.Words.{◌≡◌, ◌+◌, ◌∙◌, ap, subst, length, Some, Under}
use Rattle.path_algebra.proofs.Chosen.{under_any}
use Rattle.route_tree.specs.Found.{IsPairFound, IsFoundIfNear, found_of}
use Rattle.route_tree.specs.declared.found.Nearby.{Nearby}
use Rattle.route_tree.specs.declared.found.Nearby.TheVariants.{Decided}
use Rattle.route_tree.proofs.Told.{route_count}
use Rattle.answer_lists.proofs.route.find.Goals as goal

pub returns-clause-count : goal.returns-clause-count
returns-clause-count c =
    let g = c.args.shared.now.roads in let s = c.args.pair.source in let t = c.args.pair.target in let found = c.in-Some.found in
    let near : Under c.args.chosen (λ V A. IsPairFound A g s t (Some found)) =
    subst (λ (n : Nearby). Under c.args.chosen (λ V A. IsFoundIfNear A g s t n)) (c.in-Decided.is ∙ ap Decided c.in-Some.is) c.in-Ok.ensures.found in
    under_any c.args.chosen (λ V A. IsPairFound A g s t (Some found)) (length found.route.items ≡ found.hops + 1)
    (λ V A p. route_count A g s t (found_of found) p) near
