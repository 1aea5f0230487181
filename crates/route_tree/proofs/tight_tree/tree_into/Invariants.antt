use Rattle.route_tree.proofs.Words.{CanHalt, ◌≡◌, ◌+◌, [], length, Visiting, unreached, is_tight_into}
use Rattle.route_tree.proofs.tight_tree.tree_into.Given as goal

abbrev pub invariant-loop-alloc : goal.invariant-loop-alloc
invariant-loop-alloc g l = record {
  over : l.search.over ≡ record { algebra = l.fn.algebra; roads = l.graph; labels = l.labels };
  region : l.search.region ≡ l.region;
  visiting : Visiting l.graph (is_tight_into (g.A.PathAlgebra.meaning l.fn.algebra) l.graph l.labels l.region) l.sources l.search.level l.search.hops l.search.parents l.search.next [] [];
  kind : CanHalt l.halt → CanHalt l.fn.halt;
}

abbrev pub decreases-loop-alloc : goal.decreases-loop-alloc
decreases-loop-alloc g l = unreached l.search.hops + length l.search.next
