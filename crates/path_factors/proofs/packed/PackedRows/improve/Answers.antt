use Rattle.path_factors.proofs.Words.{◌+◌, ◌<◌, ◌∙◌, length, set, arith, ap, sym, LinkRows, heads_in, heads_packed}
use Rattle.std.proofs.lemmas.List.{length-set}
use Rattle.path_factors.proofs.Packing.{row_inside, link_inside}
use Rattle.path_factors.proofs.Setting.{edge_improved}
use Rattle.path_factors.proofs.packed.PackedRows.improve.Goals as goal
use Rattle.path_factors.proofs.packed.PackedRows.improve.Goals.{After-index}

pub index-requires : goal.index-requires
index-requires g c = omega (arith, row_inside c.self.invariant c.self.view_is c.args.i c.requires.row, c.self.inside.starts.ok.0)

-- the link is in the lists
inside : (g : _) (c : After-index g) → c.index.result.now + c.args.j < length c.self.inside.places.items
inside g c = link_inside c.self.invariant c.self.view_is c.args.i c.requires.row c.index.result.now c.index.ensures c.self.inside.leaving.items c.self.invariant.fields.leaving_count (λ k. (c.self.view_is k).leaving) c.args.j c.requires.index

pub overflow_add-k : goal.overflow_add-k
overflow_add-k g c = omega (arith, inside g (goal.at.overflow_add-k g c).After-index, c.self.inside.places.ok.0, c.self.inside.places.ok.1, c.self.inside.places.small)

pub index-requires-2 : goal.index-requires-2
index-requires-2 g c = omega (arith, inside g (goal.at.index-requires-2 g c).After-index, c.self.invariant.fields.leaving_count, c.self.inside.leaving.ok.0)

pub index_mut-requires : goal.index_mut-requires
index_mut-requires g c = omega (arith, inside g (goal.at.index_mut-requires g c).After-index, c.self.invariant.fields.leaving_count, c.self.inside.leaving.ok.0)

pub index-requires-3 : goal.index-requires-3
index-requires-3 g c = omega (arith, inside g (goal.at.index-requires-3 g c).After-index, c.self.invariant.fields.entering_count, c.self.inside.entering.ok.0)

pub index_mut-requires-2 : goal.index_mut-requires-2
index_mut-requires-2 g c = omega (arith, inside g (goal.at.index_mut-requires-2 g c).After-index, c.self.invariant.fields.entering_count, c.self.inside.entering.ok.0)

pub invariant_of-self : goal.invariant_of-self
invariant_of-self g c =
    let s = c.self.inside in
    let k = c.index.result.now + c.args.j in
    record {
      fields = record {
        leaving_count = omega (arith, length-set s.leaving.items k c.better_of_walks.result, c.self.invariant.fields.leaving_count);
        entering_count = omega (arith, length-set s.entering.items k c.better_of_walks-2.result, c.self.invariant.fields.entering_count);
      };
      packed = c.self.invariant.packed;
    }

pub returns-clause-improved : goal.returns-clause-improved
returns-clause-improved g c =
    edge_improved c.self.invariant c.self.view_is c.args.i c.requires.row c.index.result.now c.index.ensures
    (g.A.ComposingAlgebra.walks c.args.algebra) c.composition_holds.ensures.ordered c.args.j c.requires.index c.args.edge c.requires.head
    c.index-2.result.now c.index-3.result.now c.index-2.ensures c.index-3.ensures
    c.better_of_walks.result c.better_of_walks-2.result c.better_of_walks.ensures c.better_of_walks-2.ensures

pub returns-clause-heads : goal.returns-clause-heads
returns-clause-heads g c =
    let s = c.self.inside in
    let l = c.self.invariant.fields.leaving_count in
    let n = length-set s.leaving.items (c.index.result.now + c.args.j) c.better_of_walks.result in
    heads_packed s.starts.items s.places.items (set s.leaving.items (c.index.result.now + c.args.j) c.better_of_walks.result) (omega (arith, n, l))
    ∙ sym (heads_packed s.starts.items s.places.items s.leaving.items l)
    ∙ ap (λ (r : LinkRows g.row.W.Denot). heads_in r.leaving) c.self.view_is
