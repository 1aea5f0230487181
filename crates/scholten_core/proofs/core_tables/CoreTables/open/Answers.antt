use Rattle.scholten_core.proofs.Words.{rules, ◌+◌, length, ap, ◌∙◌, refl, replicate, set, None, Message, Idle, network}
use Rattle.scholten_core.proofs.Opened.{opened_state, opened_sized}
use Rattle.scholten_core.proofs.core_tables.CoreTables.open.Goals as goal

pub invariant_of-result : goal.invariant_of-result
invariant_of-result g c =
    opened_sized _ c.in_ok-tokens.tokens.items (Message c.origin.result) c.in_ok-deficits.deficits.items (record { roads = c.vertices.ensures.roads; source = c.requires })
    (c.in_ok-labels.ensures.items_if_clones_equal (λ y e. search rules) ∙ ap (λ n. replicate (n + 1) None) c.vertices.ensures.count)
    (c.in_ok-engagers.ensures.items_if_clones_equal (λ y e. search rules) ∙ ap (λ n. replicate (n + 1) None) c.vertices.ensures.count)
    (c.in_ok-tokens.ensures.items_if_clones_equal (λ y e. search rules) ∙ ap (λ n. replicate (n + 1) Idle) c.arcs-arcs.ensures) refl refl
    (c.in_ok-told.ensures.items_if_clones_equal (λ y e. search rules) ∙ ap (λ n. replicate (n + 1) None) c.arcs-arcs.ensures)
    (c.in_ok-deficits.ensures.items_if_clones_equal (λ y e. search rules) ∙ ap (λ n. replicate (n + 1) 0) c.vertices.ensures.count) refl

pub returns-clause-state : goal.returns-clause-state
returns-clause-state g c =
    opened_state (g.A.PathAlgebra.meaning c.args.algebra) (network c.args.graph.now c.args.source) c.in_ok-labels.labels.items
    c.in_ok-engagers.engagers.items c.in_ok-tokens.tokens.items _ c.in_ok-told.told.items
    (c.args.graph.now.vertices + 1) (length c.args.graph.now.arcs)
    (c.in_ok-labels.ensures.items_if_clones_equal (λ y e. search rules) ∙ ap (λ n. replicate (n + 1) None) c.vertices.ensures.count)
    (c.in_ok-engagers.ensures.items_if_clones_equal (λ y e. search rules) ∙ ap (λ n. replicate (n + 1) None) c.vertices.ensures.count)
    (c.in_ok-tokens.ensures.items_if_clones_equal (λ y e. search rules) ∙ ap (λ n. replicate (n + 1) Idle) c.arcs-arcs.ensures)
    (ap (λ x. set c.in_ok-tokens.tokens.items 0 (Message x)) c.origin.ensures)
    (c.in_ok-told.ensures.items_if_clones_equal (λ y e. search rules) ∙ ap (λ n. replicate (n + 1) None) c.arcs-arcs.ensures)
