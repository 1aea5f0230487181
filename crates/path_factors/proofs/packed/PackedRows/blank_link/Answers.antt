use Rattle.path_factors.proofs.Words.{◌+◌, arith}
use Rattle.std.proofs.lemmas.List.{length-set}
use Rattle.path_factors.proofs.Packing.{falls_too, link_inside, row_inside}
use Rattle.path_factors.proofs.Setting.{walk_replaced}
use Rattle.path_factors.proofs.packed.PackedRows.blank_link.Goals as goal

pub index-requires : goal.index-requires
index-requires g c = omega (arith, row_inside c.self.invariant c.self.view_is c.args.i c.requires.row, c.self.inside.starts.ok.0)

pub overflow_add-k : goal.overflow_add-k
overflow_add-k g c =
    let k = link_inside c.self.invariant c.self.view_is c.args.i c.requires.row c.index.result.now c.index.ensures c.self.inside.leaving.items c.self.invariant.fields.leaving_count (λ k. (c.self.view_is k).leaving) c.args.j c.requires.index in
    omega (arith, k, c.self.inside.places.ok.0, c.self.inside.places.ok.1, c.self.inside.places.small)

pub index_mut-requires : goal.index_mut-requires
index_mut-requires g c =
    let k = link_inside c.self.invariant c.self.view_is c.args.i c.requires.row c.index.result.now c.index.ensures c.self.inside.leaving.items c.self.invariant.fields.leaving_count (λ k. (c.self.view_is k).leaving) c.args.j c.requires.index in
    omega (arith, k, c.self.invariant.fields.leaving_count, c.self.inside.leaving.ok.0)

pub index_mut-requires-2 : goal.index_mut-requires-2
index_mut-requires-2 g c =
    let k = link_inside c.self.invariant c.self.view_is c.args.i c.requires.row c.index.result.now c.index.ensures c.self.inside.leaving.items c.self.invariant.fields.leaving_count (λ k. (c.self.view_is k).leaving) c.args.j c.requires.index in
    omega (arith, k, c.self.invariant.fields.entering_count, c.self.inside.entering.ok.0)

pub invariant_of-self : goal.invariant_of-self
invariant_of-self g c =
    let s = c.self.inside in
    let k = c.index.result.now + c.args.j in
    record {
      fields = record {
        leaving_count = omega (arith, length-set s.leaving.items k c.args.none, c.self.invariant.fields.leaving_count);
        entering_count = omega (arith, length-set s.entering.items k c.args.none, c.self.invariant.fields.entering_count);
      };
      packed = c.self.invariant.packed;
    }

pub returns-clause-leaving : goal.returns-clause-leaving
returns-clause-leaving g c =
    walk_replaced c.self.invariant c.self.view_is c.args.i c.requires.row c.index.result.now c.index.ensures c.self.inside.leaving.items c.self.invariant.fields.leaving_count
    (λ k. (c.self.view_is k).leaving) c.args.j c.requires.index c.args.none

pub returns-clause-entering : goal.returns-clause-entering
returns-clause-entering g c =
    walk_replaced c.self.invariant c.self.view_is c.args.i c.requires.row c.index.result.now c.index.ensures c.self.inside.entering.items c.self.invariant.fields.entering_count
    (λ k. (c.self.view_is k).entering) c.args.j (falls_too c.self.invariant c.self.view_is c.args.i c.requires.row c.args.j c.requires.index) c.args.none
