use Rattle.path_factors.proofs.Words.{◌∙◌, HasValue, arc_of}
use Rattle.path_factors.proofs.Joining.{at, JoinedTo, joined_more, joined_weaker}
use Rattle.path_factors.proofs.upward.upward_arcs.Goals as goal

pub loop-i-preserved : goal.loop-i-preserved
loop-i-preserved c =
    let g = c.args.graph.now in
    let places = c.args.places.now in
    let before = c.loop-i.arcs in
    let after = c.join_roads.new.arcs in
    let inv = c.loop-i.invariant in
    let more = c.in_ok-join_roads.ensures.more in
    let old : JoinedTo (HasValue after) places g c.loop-i.i = λ a has low. joined_weaker (HasValue before) (HasValue after) more.kept (at places (arc_of g a).tail) (at places (arc_of g a).head) (inv.joined a has low) in
    record {
      lists = more.lists ∙ inv.lists;
      joined = joined_more (HasValue after) places g c.loop-i.i old c.in_ok-join_roads.ensures.joined;
      below = more.below inv.below;
    }
