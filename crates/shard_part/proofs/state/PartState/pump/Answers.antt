use Rattle.shard_part.proofs.Words.{◌≡◌, ◌≤◌, ◌+◌, suc, cond, take, [], refl, sym, ap, ◌∙◌, subst, arith, get_or_read, take_all, WellFormed, SetupData, network_of, arc_of, road_of, offered_all, VertexAt, IsFit, OfferedOrNoted, Owes, OwesMany}
use Rattle.std.proofs.lemmas.Bool.{ltb-true}
use Rattle.shard_part.proofs.ItemIsTaken.{stored_fit}
use Rattle.shard_part.proofs.RepayingOffers.{owes_none, owes_next}
use Rattle.shard_part.proofs.ToldKept.{stored_formed}
use Rattle.shard_part.proofs.Pumping.{vertex_at, offered_none, inside_of, arc_at, arc_out, listed_at}
use Rattle.shard_part.proofs.state.PartState.pump.Goals as goal
use Rattle.shard_part.proofs.state.PartState.pump.Goals.{then-offer, else-offer}

pub out-outgoing-requires : goal.out-outgoing-requires
out-outgoing-requires g c = rw (ap (λ (w : VertexAt). w.vertex) c.v.view_is)
    (vertex_at (g.A.PathAlgebra.meaning c.args.self.now.setup.diffusion.algebra) _ c.args.self.now _ _ _ c.args.v.vertex c.args.v.at c.self.view_is
    c.self.invariant c.requires.place c.requires.vertex)

pub loop-k-init : goal.loop-k-init
loop-k-init g c =
    let laws = g.met.A.PathAlgebra g.world.𝓛 g.world.𝓜 g.world.𝓡 ((λ s x. x), (λ x. x), (λ x. x), λ x. x) in
    let p = c.args.self.now in let A = g.A.PathAlgebra.meaning p.setup.diffusion.algebra in let v = c.args.v.vertex in (
      refl,
      refl,
      ([], refl, subst (λ u. Owes A v [] u p) (sym (offered_none A v p)) (owes_none A (laws.lawful p.setup.diffusion.algebra) v p (subst IsFit c.self.view_is (stored_fit _ _ _ _ c.self.invariant)))),
      omega arith,
    )

pub row-i-requires-clause-arc : goal.row-i-requires-clause-arc
row-i-requires-clause-arc g c = λ κs w.
    let listed = listed_at (g.A.PathAlgebra.meaning c.args.self.now.setup.diffusion.algebra) _ c.args.self.now _ _ _ c.args.v.vertex c.args.v.at c.out-outgoing.result.now
    c.self.view_is c.self.invariant c.requires.place c.requires.vertex (rw (ap (λ (w : VertexAt). w.vertex) c.v.view_is) at c.out-outgoing.ensures) in
    inside_of c.args.self.now c.loop-k.self c.args.v.vertex c.loop-k.k c.out-outgoing.result.now listed c.loop-k.invariant.0 (omega arith)

pub road_at-road-requires-clause-inside : goal.road_at-road-requires-clause-inside
road_at-road-requires-clause-inside g c = λ κs w.
    let listed = listed_at (g.A.PathAlgebra.meaning c.args.self.now.setup.diffusion.algebra) _ c.args.self.now _ _ _ c.args.v.vertex c.args.v.at c.out-outgoing.result.now
    c.self.view_is c.self.invariant c.requires.place c.requires.vertex (rw (ap (λ (w : VertexAt). w.vertex) c.v.view_is) at c.out-outgoing.ensures) in
    inside_of c.args.self.now c.loop-k.self c.args.v.vertex c.loop-k.k c.out-outgoing.result.now listed c.loop-k.invariant.0 (omega arith)

pub offer-requires-clause-road : goal.offer-requires-clause-road
offer-requires-clause-road g c = λ κs w.
    let listed = listed_at (g.A.PathAlgebra.meaning c.args.self.now.setup.diffusion.algebra) _ c.args.self.now _ _ _ c.args.v.vertex c.args.v.at c.out-outgoing.result.now
    c.self.view_is c.self.invariant c.requires.place c.requires.vertex (rw (ap (λ (w : VertexAt). w.vertex) c.v.view_is) at c.out-outgoing.ensures) in
    let found = sym (get_or_read c.out-outgoing.result.now c.loop-k.k c.index-outgoing-k.result (omega arith) c.index-outgoing-k.is 0) in
    c.road_at-road.ensures ∙ ap (λ b. road_of (arc_of c.loop-k.self.setup.diffusion.roads b))
    (arc_at c.args.self.now c.loop-k.self c.args.v.vertex c.loop-k.k c.index-outgoing-k.result c.out-outgoing.result.now listed c.loop-k.invariant.0 found)

pub offer-requires-clause-out : goal.offer-requires-clause-out
offer-requires-clause-out g c = λ κs w.
    let listed = listed_at (g.A.PathAlgebra.meaning c.args.self.now.setup.diffusion.algebra) _ c.args.self.now _ _ _ c.args.v.vertex c.args.v.at c.out-outgoing.result.now
    c.self.view_is c.self.invariant c.requires.place c.requires.vertex (rw (ap (λ (w : VertexAt). w.vertex) c.v.view_is) at c.out-outgoing.ensures) in
    let found = sym (get_or_read c.out-outgoing.result.now c.loop-k.k c.index-outgoing-k.result (omega arith) c.index-outgoing-k.is 0) in
    (arc_out _ c.args.self.now c.loop-k.self _ _ _ c.args.v.vertex c.loop-k.k c.index-outgoing-k.result c.row-i.result c.out-outgoing.result.now
    c.self.view_is c.self.invariant c.loop-k.invariant.0 c.requires.vertex listed (omega arith) found c.row-i.ensures).0

pub offer-requires-clause-graph : goal.offer-requires-clause-graph
offer-requires-clause-graph g c = λ κs w.
    let listed = listed_at (g.A.PathAlgebra.meaning c.args.self.now.setup.diffusion.algebra) _ c.args.self.now _ _ _ c.args.v.vertex c.args.v.at c.out-outgoing.result.now
    c.self.view_is c.self.invariant c.requires.place c.requires.vertex (rw (ap (λ (w : VertexAt). w.vertex) c.v.view_is) at c.out-outgoing.ensures) in
    let found = sym (get_or_read c.out-outgoing.result.now c.loop-k.k c.index-outgoing-k.result (omega arith) c.index-outgoing-k.is 0) in
    (arc_out _ c.args.self.now c.loop-k.self _ _ _ c.args.v.vertex c.loop-k.k c.index-outgoing-k.result c.row-i.result c.out-outgoing.result.now
    c.self.view_is c.self.invariant c.loop-k.invariant.0 c.requires.vertex listed (omega arith) found c.row-i.ensures).1

pub loop-k-preserved : goal.loop-k-preserved
loop-k-preserved g c =
    let laws = g.met.A.PathAlgebra g.world.𝓛 g.world.𝓜 g.world.𝓡 ((λ s x. x), (λ x. x), (λ x. x), λ x. x) in
    let p = c.args.self.now in let mid = c.loop-k.self in let v = c.args.v.vertex in let b = c.index-outgoing-k.result in let k = c.loop-k.k in let xs = c.out-outgoing.result.now in
    let A = g.A.PathAlgebra.meaning p.setup.diffusion.algebra in
    let listed = listed_at A _ p _ _ _ v c.args.v.at xs c.self.view_is c.self.invariant c.requires.place c.requires.vertex (rw (ap (λ (w : VertexAt). w.vertex) c.v.view_is) at c.out-outgoing.ensures) in
    let found = sym (get_or_read xs k b (omega arith) c.index-outgoing-k.is 0) in
    let out = (arc_out _ p mid _ _ _ v k b c.row-i.result xs c.self.view_is c.self.invariant c.loop-k.invariant.0 c.requires.vertex listed (omega arith) found c.row-i.ensures).0 in
    let formed = subst (λ (t : SetupData g.row.A.Denot). WellFormed (network_of t)) (sym c.loop-k.invariant.0) (stored_formed g.A.PathAlgebra.meaning _ p _ _ _ c.self.view_is c.self.invariant) in
    let R = owes_next A (laws.lawful p.setup.diffusion.algebra) v p mid c.offer.new.self b k c.loop-k.noted xs c.offer.result (omega arith) c.index-outgoing-k.is formed c.requires.vertex out.tail c.loop-k.invariant.2
    (subst (λ (t : SetupData g.row.A.Denot). OfferedOrNoted (g.A.PathAlgebra.meaning t.diffusion.algebra) v b c.offer.result mid c.offer.new.self) c.loop-k.invariant.0 c.offer.ensures.made) in
    let counted : (c.if-offer.noted ≡ cond c.offer.result (suc c.loop-k.noted) c.loop-k.noted) × (c.if-offer.noted ≤ c.args.most) = elim c.if-offer.branch [
      | then-offer w ↦ (
        (let e = w.noted-is in let one : c.if-offer.noted ≡ suc c.loop-k.noted = omega (arith, e) in one ∙ sym (ap (λ t. cond t (suc c.loop-k.noted) c.loop-k.noted) w.if-offer.true)),
        (let e = w.noted-is in let m = ltb-true c.loop-k.noted c.args.most (c.offer.ensures.may w.if-offer.true) in omega (arith, e, m)),
      )
      | else-offer w ↦ (w.noted-is ∙ sym (ap (λ t. cond t (suc c.loop-k.noted) c.loop-k.noted) w.if-offer.false), (let e = w.noted-is in let m = c.loop-k.invariant.3 in omega (arith, e, m)))
    ] in
    (R.0, R.1, subst (λ n. OwesMany A v n (offered_all A v (take (k + 1) xs) p) c.offer.new.self) (sym counted.0) R.2, counted.1)

pub returns-clause-owes : goal.returns-clause-owes
returns-clause-owes g c =
    let p = c.args.self.now in let A = g.A.PathAlgebra.meaning p.setup.diffusion.algebra in let v = c.args.v.vertex in let xs = c.out-outgoing.result.now in
    let listed = listed_at A _ p _ _ _ v c.args.v.at xs c.self.view_is c.self.invariant c.requires.place c.requires.vertex (rw (ap (λ (w : VertexAt). w.vertex) c.v.view_is) at c.out-outgoing.ensures) in
    subst (λ zs. OwesMany A v c.loop-k.noted (offered_all A v zs p) c.loop-k.self) (take_all c.loop-k.k xs (omega arith) ∙ listed) c.loop-k.invariant.2
