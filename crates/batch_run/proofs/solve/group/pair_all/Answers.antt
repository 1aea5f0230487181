use Rattle.batch_run.proofs.Words.{◌∙◌, ◌∷◌, ◌++◌, [], ap, arith, length, map, refl, sym, map-append, take_all, take_more, EndedDiffusion, moved_on, moved_all}
use Rattle.batch_run.proofs.solve.group.pair_all.Goals as goal

pub loop-source-preserved : goal.loop-source-preserved
loop-source-preserved g c =
    let was = c.loop-source.invariant in
    let more = λ (X : Type 0) (at : EndedDiffusion g.row.A.Denot g.row.A-Value.Denot → X). ap (map at) c.in_ok-push.ensures.items ∙ map-append at c.loop-source.ended.items (_ ∷ []) in
    let f = ap (λ l. length l) c.in-Some.ensures.items in
    let v = ap (λ l. length l) c.in-Some-pop_front.ensures.items in
    record {
      more_floors = omega (arith, was.more_floors, f);
      more_lists = omega (arith, was.more_lists, v);
      sources = more _ (λ e. e.source) ∙ (λ i. was.sources i ++ c.source-item.is i ∷ []) ∙ sym (take_more c.args.sources.now c.loop-source.source-index _ c.loop-source-test.true);
      floors = moved_on _ _ _ was.floors _ _ c.in-Some.floor c.in-Some.floor (more _ (λ e. e.floor)) refl c.in-Some.ensures.items;
      stations = moved_on _ _ _ was.stations _ _ c.in-Some-pop_front.stations c.in-Some-pop_front.stations (more _ (λ e. e.stations)) refl c.in-Some-pop_front.ensures.items;
    }

pub returns-clause-sources : goal.returns-clause-sources
returns-clause-sources g c = c.loop-source.invariant.sources ∙ take_all c.loop-source.source-index c.args.sources.now (let over = c.loop-source-test.false in omega (arith, over))

pub returns-clause-floors : goal.returns-clause-floors
returns-clause-floors g c = moved_all _ _ _ c.loop-source.invariant.floors (let was = c.loop-source.invariant in let over = c.loop-source-test.false in omega (arith, was.more_floors, over))

pub returns-clause-stations : goal.returns-clause-stations
returns-clause-stations g c = moved_all _ _ _ c.loop-source.invariant.stations (let was = c.loop-source.invariant in let over = c.loop-source-test.false in omega (arith, was.more_lists, over))
