use Rattle.batch_run.proofs.Words.{rules, ◌≡◌, ◌∙◌, ap, length, map, refl, length-map, into_iter_items, moved_on, moved_all}
use Rattle.batch_run.proofs.solve.group.part_all.Goals as goal
use Rattle.batch_run.proofs.solve.group.part_all.Goals.{In-None}

pub loop-diffusion-init : goal.loop-diffusion-init
loop-diffusion-init g c =
    let gives = c.into_iter-diffusion-iterator.ensures.into_iter_gives in
    record { next = (tt, tt); floors = rw (c.new-floors.ensures.items, gives.0) refl; stations = rw (c.new-lists.ensures.items, gives.0) refl }

pub loop-diffusion-preserved : goal.loop-diffusion-preserved
loop-diffusion-preserved g c =
    let was = c.loop-diffusion.invariant in
    let step = c.in-Some.ensures.steps.0 in
    record {
      next = was.next;
      floors = moved_on _ _ _ was.floors _ _ c.in-Some.diffusion.0 c.in-Some.diffusion.0 c.in_ok-push.ensures.items refl (ap (map (λ o. o.0)) step);
      stations = moved_on _ _ _ was.stations _ _ c.in-Some.diffusion.1 c.in-Some.diffusion.1 c.in_ok-push-2.ensures.items refl (ap (map (λ o. o.1)) step);
    }

-- none is left
none : (g : _) (c : In-None g) → length (into_iter_items c.loop-diffusion.diffusion-iterator) ≡ 0
none g c = let e = c.in-None.ensures.steps in let o = c.loop-diffusion.diffusion-iterator.rest.ok in search rules

pub returns-clause-floors : goal.returns-clause-floors
returns-clause-floors g c = moved_all _ _ _ c.loop-diffusion.invariant.floors (length-map _ (λ o. o.0) ∙ none g (goal.at.returns-clause-floors g c).In-None)

pub returns-clause-stations : goal.returns-clause-stations
returns-clause-stations g c = moved_all _ _ _ c.loop-diffusion.invariant.stations (length-map _ (λ o. o.1) ∙ none g (goal.at.returns-clause-stations g c).In-None)
