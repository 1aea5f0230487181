use Rattle.std.proofs.Common.{get_or, ◌∙◌, arith, length-set}
use Rattle.station.proofs.Places.{places_more}
use Rattle.station.proofs.gathering.places_of.Goals as goal

pub returns-in_default : goal.returns-in_default
returns-in_default g c =
    let t = c.loop-s-test.true in let n = c.shards-s-end.ensures.count in
    (omega (arith, t, n), c.in_default.ensures, λ i l. (get_or c.loop-s.places i 0, c.loop-s.invariant.places_are i l))

pub loop-s-preserved : goal.loop-s-preserved
loop-s-preserved g c =
    let i = c.loop-s.invariant in let t = c.loop-s-test.true in let w = c.shards-s-end.ensures.within in let l = i.long in
    record {
      places_are = places_more c.args.stations.now c.loop-s.places c.loop-s.s c.in-Some.k (omega (arith, t, w, l)) i.places_are c.in-Some.ensures;
      long = length-set c.loop-s.places c.loop-s.s c.in-Some.k ∙ l;
    }

pub returns : goal.returns
returns g c = λ j l. let t = c.loop-s-test.false in let n = c.shards-s-end.ensures.count in c.loop-s.invariant.places_are j (omega (arith, t, n, l))
