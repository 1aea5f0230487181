use Rattle.batch_run.proofs.Words.{◌≡◌, ◌++◌, map, into_iter_items}
use Rattle.batch_run.proofs.solve.group.part_all.Given as goal

abbrev pub invariant-loop-diffusion : goal.invariant-loop-diffusion
invariant-loop-diffusion g l = record {
  next : (goal.iterator-loop-diffusion g).can_next l.diffusion-iterator × (goal.iterator-loop-diffusion g).is_finite l.diffusion-iterator;
  floors : l.floors.items ++ map (λ o. o.0) (into_iter_items l.diffusion-iterator) ≡ map (λ o. o.0) l.fn.opened.items;
  stations : l.lists.items ++ map (λ o. o.1) (into_iter_items l.diffusion-iterator) ≡ map (λ o. o.1) l.fn.opened.items;
}
