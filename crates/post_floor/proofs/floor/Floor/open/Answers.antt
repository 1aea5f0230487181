use Rattle.post_floor.proofs.Words.{rules, arith, ◌<◌, ◌+◌, [], length, map, ap, sym, ◌∙◌, subst, replicate, IsPlanned, opened_parts, box_count, FloorInvariant, knows, seat_of, length-replicate}
use Rattle.atomic_table.specs.Table.{opening}
use Rattle.post_floor.proofs.Opening.{opens}
use Rattle.post_floor.proofs.Opened.{opened_first, opened_long, all_opened}
use Rattle.post_floor.proofs.floor.Floor.open.Goals as goal

pub batches-requires-clause-parts : goal.batches-requires-clause-parts
batches-requires-clause-parts g c κs within = let f = c.requires.fresh in
    (opened_first g.A.PathAlgebra.meaning f.0 c.args.parts.now c.args.plan.now c.index-parts-0.result c.shards-shards.result f.1 f.2
    c.shards-shards.ensures.count c.shards-shards.ensures.within.0 c.index-parts-0.is).1

pub batches-requires-clause-shards : goal.batches-requires-clause-shards
batches-requires-clause-shards g c κs within = let f = c.requires.fresh in (
  (opened_first g.A.PathAlgebra.meaning f.0 c.args.parts.now c.args.plan.now c.index-parts-0.result c.shards-shards.result f.1 f.2
      c.shards-shards.ensures.count c.shards-shards.ensures.within.0 c.index-parts-0.is).2,
  c.shards-shards.ensures.within.1,
)

pub new-requires : goal.new-requires
new-requires g c = let f = c.requires.fresh in
    let o0 = opened_first g.A.PathAlgebra.meaning f.0 c.args.parts.now c.args.plan.now c.index-parts-0.result c.shards-shards.result f.1 f.2
    c.shards-shards.ensures.count c.shards-shards.ensures.within.0 c.index-parts-0.is in
    let q_is = c.setup-setup.ensures in
    let x = c.index-parts-0.result.setup in let n = o0.2 in
    subst (λ u. FloorInvariant g.A.PathAlgebra.meaning u
    (opening c.as_slice.result.now c.in_ok-slots.slots.items
    (knows u.plan.shards (opened_parts (g.A.PathAlgebra.meaning u.diffusion.algebra) u 0 u.plan.shards)))) (sym q_is)
    (opens g.A.PathAlgebra.meaning x (subst (IsPlanned x) o0.3 c.part_holds.ensures.planned) c.as_slice.result.now c.in_ok-slots.slots.items
    (c.as_slice.ensures.value ∙ c.in_ok-words.ensures.items_if_clones_equal (λ y e. search rules)
    ∙ ap (λ k. replicate (k + 1) 0) c.mailbox_count.ensures ∙ ap (λ k. replicate (box_count k + 1) 0) (sym n))
    (c.in_ok-slots.ensures.0 ∙ ap box_count (sym n))
    (λ k lt. c.in_ok-slots.ensures.1 k (subst (λ m. k < box_count m) n lt)))

pub seat_all-requires-clause-shards : goal.seat_all-requires-clause-shards
seat_all-requires-clause-shards g c κs within =
    let f = c.requires.fresh in
    let o0 = opened_first g.A.PathAlgebra.meaning f.0 c.args.parts.now c.args.plan.now c.index-parts-0.result c.shards-shards.result f.1 f.2
    c.shards-shards.ensures.count c.shards-shards.ensures.within.0 c.index-parts-0.is in
    let ok = c.in-Ok.ensures.ok in let key = ok.5 ∙ c.setup-setup.ensures in
    (ap (λ u. u.plan.shards) key ∙ o0.2, c.shards-shards.ensures.within.1)

pub seat_all-requires-clause-parts : goal.seat_all-requires-clause-parts
seat_all-requires-clause-parts g c κs within =
    let f = c.requires.fresh in
    let o0 = opened_first g.A.PathAlgebra.meaning f.0 c.args.parts.now c.args.plan.now c.index-parts-0.result c.shards-shards.result f.1 f.2
    c.shards-shards.ensures.count c.shards-shards.ensures.within.0 c.index-parts-0.is in
    let ok = c.in-Ok.ensures.ok in let key = ok.5 ∙ c.setup-setup.ensures in
    let sh = ap (λ u. u.plan.shards) c.setup-setup.ensures ∙ o0.2 in
    ok.4 ∙ (λ i. (knows (sh i) (opened_parts (g.A.PathAlgebra.meaning (sym ok.5 i).diffusion.algebra) (sym ok.5 i) 0 (sh i)), []))

pub invariant_of-result : goal.invariant_of-result
invariant_of-result g c =
    let f = c.requires.fresh in
    let o0 = opened_first g.A.PathAlgebra.meaning f.0 c.args.parts.now c.args.plan.now c.index-parts-0.result c.shards-shards.result f.1 f.2
    c.shards-shards.ensures.count c.shards-shards.ensures.within.0 c.index-parts-0.is in
    let ok = c.in-Ok.ensures.ok in let key = ok.5 ∙ c.setup-setup.ensures in
    let n = ap (λ u. u.plan.shards) key ∙ o0.2 in (
      record {
        words = ok.0 ∙ ap length (c.as_slice.ensures.value ∙ c.in_ok-words.ensures.items_if_clones_equal (λ y e. search rules)) ∙ length-replicate _ _
            ∙ ap (λ k. k + 1) c.mailbox_count.ensures ∙ ap (λ k. box_count k + 1) (sym n);
        slots = ok.1 ∙ c.in_ok-slots.ensures.0 ∙ ap box_count (sym n);
        planned = subst (λ u. IsPlanned u 0) (sym key) (subst (IsPlanned c.index-parts-0.result.setup) o0.3 c.part_holds.ensures.planned);
      },
      n,
      c.shards-shards.ensures.within.1,
    )

pub returns-clause-floor : goal.returns-clause-floor
returns-clause-floor g c =
    let f = c.requires.fresh in
    let o0 = opened_first g.A.PathAlgebra.meaning f.0 c.args.parts.now c.args.plan.now c.index-parts-0.result c.shards-shards.result f.1 f.2
    c.shards-shards.ensures.count c.shards-shards.ensures.within.0 c.index-parts-0.is in
    let ok = c.in-Ok.ensures.ok in let key = ok.5 ∙ c.setup-setup.ensures in
    let is = key ∙ o0.0 in
    (ap (λ u. u.plan) is ∙ f.2, all_opened g.A.PathAlgebra.meaning f.0 c.in-Ok.table.shared.key f.0.plan.shards c.args.parts.now f.1 is)

pub returns-clause-seats : goal.returns-clause-seats
returns-clause-seats g c =
    let f = c.requires.fresh in
    let o0 = opened_first g.A.PathAlgebra.meaning f.0 c.args.parts.now c.args.plan.now c.index-parts-0.result c.shards-shards.result f.1 f.2
    c.shards-shards.ensures.count c.shards-shards.ensures.within.0 c.index-parts-0.is in
    let ok = c.in-Ok.ensures.ok in let key = ok.5 ∙ c.setup-setup.ensures in
    c.in_ok-seats.ensures
    ∙ (λ i. map (seat_of c.in-Ok.table.shared.table_id (c.shards-shards.ensures.count i))
    (opened_parts (g.A.PathAlgebra.meaning (key i).diffusion.algebra) (key i) 0 c.shards-shards.result))
    ∙ ap (map (seat_of c.in-Ok.table.shared.table_id c.args.plan.now.shards)) (sym o0.1)

pub bounds-parts-0 : goal.bounds-parts-0
bounds-parts-0 g c = let f = c.requires.fresh in
    let l = ap length f.1 ∙ opened_long (g.A.PathAlgebra.meaning f.0.diffusion.algebra) f.0 0 f.0.plan.shards ∙ ap (λ p. p.shards) f.2 in
    omega (arith, l, c.shards-shards.ensures.count, c.shards-shards.ensures.within.0)
