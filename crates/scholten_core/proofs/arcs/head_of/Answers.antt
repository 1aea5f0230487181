use Rattle.scholten_core.proofs.Words.{◌≤◌, ap, sym, ◌∙◌, arith, head_of}
use Rattle.scholten_core.proofs.GraphReads.{is_entry, not_entry}
use Rattle.scholten_core.proofs.Networks.{head-arc, head-entry}
use Rattle.scholten_core.proofs.arcs.head_of.Goals as goal

pub returns-then-eq-clause-head : goal.returns-then-eq-clause-head
returns-then-eq-clause-head c =
    sym (head-entry c.args.graph.now c.args.source) ∙ ap (head_of c.args.graph.now c.args.source) (sym (is_entry c.args.a c.eq.result c.eq.ensures c.if-eq.true))

pub returns-else-eq-clause-head : goal.returns-else-eq-clause-head
returns-else-eq-clause-head c =
    c.head.ensures ∙ sym (head-arc c.args.graph.now c.args.source c.args.a (not_entry c.args.a c.eq.result c.eq.ensures c.if-eq.false))

pub returns-else-eq-clause-low : goal.returns-else-eq-clause-low
returns-else-eq-clause-low c =
    let l : 1 ≤ c.args.a = not_entry c.args.a c.eq.result c.eq.ensures c.if-eq.false in
    let e = c.head.ensures in let h = (c.roads_hold.ensures.ends c.args.a (l, c.requires.arc)).1.0 in omega (arith, e, h)

pub returns-else-eq-clause-within : goal.returns-else-eq-clause-within
returns-else-eq-clause-within c =
    let l : 1 ≤ c.args.a = not_entry c.args.a c.eq.result c.eq.ensures c.if-eq.false in
    let e = c.head.ensures in let h = (c.roads_hold.ensures.ends c.args.a (l, c.requires.arc)).1.1 in omega (arith, e, h)
