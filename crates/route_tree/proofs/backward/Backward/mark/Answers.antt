use Rattle.route_tree.proofs.Words.{length-set, sym, subst, GraphData, HasVertex}
use Rattle.std.proofs.lemmas.List.Elements.{All-push}
use Rattle.route_tree.proofs.Blank.{found_more, found_marked}
use Rattle.route_tree.proofs.backward.Backward.mark.Goals as goal

pub invariant_of-self-in_err-push-2 : goal.invariant_of-self-in_err-push-2
invariant_of-self-in_err-push-2 g c =
    let roads = c.self.inside.by_head.now in
    let in_graph : HasVertex roads c.args.v = subst (λ (g : GraphData). HasVertex g c.args.v) (sym (λ i. (c.self.view_is i).over.roads)) c.requires.in_graph in
    let known = c.self.invariant in
    record {
      roads = known.roads;
      labels_count = known.labels_count;
      marks_count = known.marks_count;
      noted = rw c.in_ok-push.ensures.longer (found_more roads c.self.inside.marks.items c.self.inside.found.items c.args.v in_graph known.noted);
      inside = rw c.in_err-push-2.ensures.kept known.inside;
    }

pub invariant_of-self-2 : goal.invariant_of-self-2
invariant_of-self-2 g c =
    let roads = c.self.inside.by_head.now in
    let in_graph : HasVertex roads c.args.v = subst (λ (g : GraphData). HasVertex g c.args.v) (sym (λ i. (c.self.view_is i).over.roads)) c.requires.in_graph in
    let known = c.self.invariant in
    record {
      roads = known.roads;
      labels_count = known.labels_count;
      marks_count = simp length-set known.marks_count;
      noted = rw (c.in_ok-push.ensures.longer, c.v.view_is) (found_marked roads c.self.inside.marks.items c.self.inside.found.items c.args.v in_graph known.noted);
      inside = rw c.in_ok-push-2.ensures.longer (All-push (HasVertex roads) c.self.inside.next.items c.args.v known.inside in_graph);
    }
