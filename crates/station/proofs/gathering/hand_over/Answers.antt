use Rattle.station.proofs.Words.{Some, true, ◌∷◌, ◌++◌, [], refl, sym, ap, subst, ◌∙◌, arith, together, BelongsTo, StationData, AreHanded}
use Rattle.std.proofs.lemmas.List.Elements.{All-pop}
use Rattle.station.proofs.Tallying.{handed_none, handed_more}
use Rattle.station.proofs.gathering.hand_over.Goals as goal

pub loop-station-init : goal.loop-station-init
loop-station-init g c = record {
  own = c.requires.own;
  handed = subst (λ t. AreHanded c.args.floor.now.id c.args.stations.items c.args.stations.items c.args.seats.items t) (sym c.new-tally.ensures)
      (subst (λ d. AreHanded c.args.floor.now.id c.args.stations.items c.args.stations.items d _) (sym c.requires.seats)
      (handed_none c.args.floor.now.id c.args.stations.items));
  room = c.requires.room;
}

pub loop-station-preserved : goal.loop-station-preserved
loop-station-preserved g c =
    let i = c.loop-station.invariant in let x = c.station.inside in let s : StationData _ _ = record { part = x.part; seat = x.seat; ended = true } in
    let v = c.station.invariant.0 in let f = c.args.floor.now in
    let e = c.in-Some.ensures.items ∙ ap (λ z. c.pop.new.self.items ++ z ∷ []) (sym c.station.view_is) in
    let own = All-pop (BelongsTo f) c.loop-station.stations.items c.pop.new.self.items (Some s) e i.own in
    record {
      own = own.0;
      handed = handed_more f.id c.args.stations.items c.loop-station.stations.items c.pop.new.self.items c.loop-station.seats.items
          c.push.new.self.items s c.loop-station.tally c.add.new.self i.handed e c.in-Ok.ensures.items
          own.1.floor (v.over refl).seen v.shard v.shows (c.add.ensures ∙ ap (λ z. together z c.loop-station.tally) c.tally.ensures);
      room = let a = c.in-Some.ensures.cases in let b = c.in-Ok.ensures.len in let d = c.in-Ok.ensures.capacity in let r = i.room in omega (arith, a, b, d, r);
    }
