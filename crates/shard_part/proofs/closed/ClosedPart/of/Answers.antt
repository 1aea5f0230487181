use Rattle.shard_part.proofs.Words.{map, refl, sym, ap, ◌∙◌, subst, PartData, RepInvariant, rows_of}
use Rattle.shard_part.specs.Readings.{tally_in}
use Rattle.shard_part.proofs.closed.ClosedPart.of.Goals as goal

pub invariant_of-result : goal.invariant_of-result
invariant_of-result g c =
    let s = c.state.inside in let same = c.state.view_is ∙ sym c.of-part.ensures in
    record {
      rows = rows_of s.tables;
      queue_room = s.queue.room;
      out_capacities = map (λ b. b.capacity) s.outs.items;
      stored = subst (λ (u : PartData _ _). RepInvariant u (rows_of s.tables) s.queue.room (map (λ b. b.capacity) s.outs.items)) same c.state.invariant;
      shard_is = ap (λ (u : PartData _ _). u.shard) same;
      own_are = refl;
      labels_are = refl;
      tally_is = c.tally-tally.ensures ∙ ap tally_in (sym c.of-part.ensures);
    }
