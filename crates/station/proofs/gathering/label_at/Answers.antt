use Rattle.station.proofs.Words.{◌<◌, ◌∷◌, [], length, get_or, sym, ap, subst, ◌∙◌, IsBestLabel, SetupData, HasPlanned, PlanData, shard_in, IsAtPlace}
use Rattle.station.proofs.Places.{at_place}
use Rattle.station.proofs.gathering.label_at.Goals as goal

pub bounds-stations-k : goal.bounds-stations-k
bounds-stations-k g c = subst (λ z. get_or c.args.places.now z 0 < length c.args.stations.now) (sym c.k.view_is) (c.requires.places c.shard_of.result c.shard_of.ensures.within).0

pub label-requires-clause-vertex : goal.label-requires-clause-vertex
label-requires-clause-vertex g c κs within =
    let q = c.args.floor.now.setup in let j = c.shard_of.result in let places = c.args.places.now in
    let at = subst (λ z. IsAtPlace c.args.stations.now j (get_or places z 0)) (sym c.k.view_is) (c.requires.places j c.shard_of.ensures.within) in
    let e = at_place q c.args.stations.now j (get_or places c.k.inside.0 0) c.index-stations-k.result c.index-stations-k.is c.requires.own at in
    subst (λ (t : SetupData _). HasPlanned t.plan c.args.v) (sym e.0) (subst (λ (P : PlanData). HasPlanned P c.args.v) c.requires.plan c.requires.vertex)

pub label-requires-clause-own : goal.label-requires-clause-own
label-requires-clause-own g c κs within =
    let q = c.args.floor.now.setup in let j = c.shard_of.result in let places = c.args.places.now in
    let at = subst (λ z. IsAtPlace c.args.stations.now j (get_or places z 0)) (sym c.k.view_is) (c.requires.places j c.shard_of.ensures.within) in
    let e = at_place q c.args.stations.now j (get_or places c.k.inside.0 0) c.index-stations-k.result c.index-stations-k.is c.requires.own at in
    ap (λ (t : SetupData _). shard_in t.plan c.args.v) e.0 ∙ ap (λ (P : PlanData). shard_in P c.args.v) (sym c.requires.plan) ∙ sym c.shard_of.ensures.shard ∙ sym e.1

pub returns : goal.returns
returns g c =
    let q = c.args.floor.now.setup in let j = c.shard_of.result in let places = c.args.places.now in
    let at = subst (λ z. IsAtPlace c.args.stations.now j (get_or places z 0)) (sym c.k.view_is) (c.requires.places j c.shard_of.ensures.within) in
    let e = at_place q c.args.stations.now j (get_or places c.k.inside.0 0) c.index-stations-k.result c.index-stations-k.is c.requires.own at in
    subst (λ t. IsBestLabel (g.A.PathAlgebra.meaning t.diffusion.algebra) t.diffusion.roads (t.diffusion.source ∷ []) c.args.v c.label.result) e.0 c.label.ensures
