use Rattle.station.proofs.Words.{◌≡◌, ◌∷◌, [], ◌∙◌, arith, IsBestLabel}
use Rattle.station.proofs.Places.{labels_more, label_before}
use Rattle.station.proofs.gathering.label_list.Goals as goal

pub loop-v-preserved : goal.loop-v-preserved
loop-v-preserved g c =
    let q = c.args.floor.now.setup in let i = c.loop-v.invariant in
    let m = labels_more (IsBestLabel (g.A.PathAlgebra.meaning q.diffusion.algebra) q.diffusion.roads (q.diffusion.source ∷ [])) c.loop-v.v
    c.loop-v.list.items c.push.new.list.items c.label_at.result i.long i.best c.label_at.ensures c.in_ok-push.ensures in
    record { long = m.0; best = m.1 }

pub returns : goal.returns
returns g c =
    let q = c.args.floor.now.setup in let i = c.loop-v.invariant in
    let low = c.loop-v-test.false in let high = c.loop-v.auto.v-end in let n = c.vertices-v-end.ensures.count in let k = c.requires.covers in
    let all : c.loop-v.v ≡ q.diffusion.roads.vertices = omega (arith, low, high, n, k) in
    record {
      count = i.long ∙ all;
      best = λ v h. let l = h.1 in
          label_before (IsBestLabel (g.A.PathAlgebra.meaning q.diffusion.algebra) q.diffusion.roads (q.diffusion.source ∷ [])) c.loop-v.v
          c.loop-v.list.items i.best v h.0 (omega (arith, l, all));
    }
