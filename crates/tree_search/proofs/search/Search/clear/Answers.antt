use Rattle.std.proofs.Common.{◌≡◌, length}
use Rattle.tree_search.proofs.Steps.{search_opens}
use Rattle.tree_search.proofs.search.Search.clear.Goals as goal

pub invariant_of-self : goal.invariant_of-self
invariant_of-self g c =
    let n : length c.self.inside.marks ≡ c.self.inside.graph.value.vertices = c.self.invariant.marks_count in
    rw (c.put_back.ensures.marks, c.put_back.ensures.settled, n, c.clear.ensures) (search_opens c.self.inside.graph.value c.self.invariant.roads)
