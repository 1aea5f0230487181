use Rattle.std.proofs.Common.{arith, sym}
use Rattle.path_factors.proofs.Packing.{row_inside, link_inside, link_in_row}
use Rattle.path_factors.proofs.packed.PackedRows.riser.Goals as goal

pub index-requires : goal.index-requires
index-requires g c = omega (arith, row_inside c.self.invariant c.self.view_is c.args.i c.requires.place, c.self.inside.starts.ok.0)

pub overflow_add-k : goal.overflow_add-k
overflow_add-k g c =
    let k = link_inside c.self.invariant c.self.view_is c.args.i c.requires.place c.index.result.now c.index.ensures c.self.inside.leaving.items c.self.invariant.fields.leaving_count (λ k. (c.self.view_is k).leaving) c.args.j c.requires.link in
    omega (arith, k, c.self.inside.places.ok.0, c.self.inside.places.ok.1, c.self.inside.places.small)

pub index-requires-2 : goal.index-requires-2
index-requires-2 g c =
    let k = link_inside c.self.invariant c.self.view_is c.args.i c.requires.place c.index.result.now c.index.ensures c.self.inside.leaving.items c.self.invariant.fields.leaving_count (λ k. (c.self.view_is k).leaving) c.args.j c.requires.link in
    omega (arith, k, c.self.inside.places.ok.0)

pub index-requires-3 : goal.index-requires-3
index-requires-3 g c =
    let k = link_inside c.self.invariant c.self.view_is c.args.i c.requires.place c.index.result.now c.index.ensures c.self.inside.leaving.items c.self.invariant.fields.leaving_count (λ k. (c.self.view_is k).leaving) c.args.j c.requires.link in
    omega (arith, k, c.self.invariant.fields.leaving_count, c.self.inside.leaving.ok.0)

pub returns : goal.returns
returns g c =
    sym (link_in_row c.self.invariant c.self.view_is c.args.i c.requires.place c.index.result.now c.index.ensures
    c.self.inside.leaving.items c.self.invariant.fields.leaving_count (λ k. (c.self.view_is k).leaving) c.args.j c.requires.link
    c.index-2.result.now c.index-3.result.now (record { place = c.index-2.result.now; walk = c.index-3.result.now }) c.index-2.ensures c.index-3.ensures)
