use Rattle.path_plain.proofs.Words.{◌≡◌, ℕ, ◌≤◌, sym, subst, take, arith, GraphData, IsGraph, offered, Between}
use Rattle.std.proofs.lemmas.List.{take_all}
use Rattle.path_plain.proofs.Known.{opening_more}
use Rattle.path_plain.proofs.Rounds.{starting}
use Rattle.path_plain.proofs.Running.{same_search}
use Rattle.path_plain.proofs.search.Search.start.Goals as goal

pub loop-source-preserved : goal.loop-source-preserved
loop-source-preserved g c =
    let order = g.A.PathAlgebra.order in
    let origin = (g.A.PathAlgebra.meaning c.self.inside.algebra).origin in
    let n = c.args.self.now.roads.vertices in
    let s = c.source-item.result in
    let inside = c.requires.sources c.loop-source.source-index s c.loop-source-test.true in
    let next : c.offer.new.self.labels ≡ offered order c.loop-source.self.labels s origin = rw (← c.origin.ensures) c.in_ok-offer.ensures.labels in
    record {
      same = same_search c.args.self.now c.loop-source.self c.offer.new.self c.loop-source.invariant.same c.in_ok-offer.ensures.same;
      opening = opening_more order origin n c.args.sources.now c.loop-source.source-index s c.loop-source.self.labels c.offer.new.self.labels c.loop-source.invariant.opening
          c.loop-source-test.true c.source-item.is
          (subst (λ (v : ℕ). 1 ≤ v) (sym c.source-item.is) inside.0) (subst (λ (v : ℕ). v ≤ n) (sym c.source-item.is) inside.1) next;
    }

pub returns-clause-between : goal.returns-clause-between
returns-clause-between g c =
    let meaning = g.A.PathAlgebra.meaning in
    let G = c.args.self.now.roads in
    let labels = c.loop-source.self.labels in
    let roads : IsGraph G = subst (λ (r : GraphData). IsGraph r) (λ i. (c.self.view_is i).roads) c.self.invariant.roads in
    let all : take c.loop-source.source-index c.args.sources.now ≡ c.args.sources.now = take_all c.loop-source.source-index c.args.sources.now (omega arith) in
    let start = starting (meaning c.self.inside.algebra) c.laws_hold.ensures.lawful G roads c.args.sources.now labels (rw all at c.loop-source.invariant.opening) in
    subst (λ (a : g.row.A.Denot). Between (meaning a) G c.args.sources.now labels c.loop-source.self.settled) (λ i. (c.self.view_is i).algebra)
    (rw (c.loop-source.invariant.same.settled, c.requires.blank.settled) start)
