use Rattle.route_tree.proofs.Words.{◌-◌, [], ap, set, true, false, length, length-set, ◌∙◌, length-replicate, All-nil, All-cons, HasVertex}
use Rattle.route_tree.proofs.Blank.{found_first}
use Rattle.route_tree.proofs.backward.Backward.open.Goals as goal

pub invariant_of-result : goal.invariant_of-result
invariant_of-result g c =
    let roads = c.args.by_head.now in
    record {
      roads = c.holds.ensures;
      labels_count = c.requires.labels;
      marks_count = simp length-set (ap length c.requires.marks ∙ length-replicate roads.vertices false);
      noted = rw (c.in_ok-found.ensures, c.target.view_is)
          (found_first roads c.args.target (set c.args.marks.items (c.args.target - 1) true) c.requires.target (ap (λ m. set m (c.args.target - 1) true) c.requires.marks));
      inside = rw c.in_ok-next.ensures (All-cons (HasVertex roads) c.args.target [] c.requires.target (All-nil (HasVertex roads)));
    }
