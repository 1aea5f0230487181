use Rattle.scholten_core.proofs.Words.{◌≤◌, ap, sym, ◌∙◌, arith, tail-arc, tail-entry}
use Rattle.scholten_core.specs.Network.{tail_of}
use Rattle.scholten_core.proofs.GraphReads.{is_entry, not_entry}
use Rattle.scholten_core.proofs.arcs.tail_of.Goals as goal

pub returns-then-eq-clause-tail : goal.returns-then-eq-clause-tail
returns-then-eq-clause-tail c = sym (tail-entry c.args.graph.now) ∙ ap (tail_of c.args.graph.now) (sym (is_entry c.args.a c.eq.result c.eq.ensures c.if-eq.true))

pub returns-else-eq-clause-tail : goal.returns-else-eq-clause-tail
returns-else-eq-clause-tail c = c.tail.ensures ∙ sym (tail-arc c.args.graph.now c.args.a (not_entry c.args.a c.eq.result c.eq.ensures c.if-eq.false))

pub returns-else-eq-clause-within : goal.returns-else-eq-clause-within
returns-else-eq-clause-within c =
    let l : 1 ≤ c.args.a = not_entry c.args.a c.eq.result c.eq.ensures c.if-eq.false in
    let e = c.tail.ensures in let h = (c.roads_hold.ensures.ends c.args.a (l, c.requires)).0.1 in omega (arith, e, h)
