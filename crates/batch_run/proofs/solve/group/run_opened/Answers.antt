use Rattle.std.proofs.Common.{inl, inr, rules, vec_len, ℕ, ◌≡◌, ◌∙◌, ◌<◌, ap, refl, sym, get_or, length}
use Rattle.batch_run.proofs.Words.{All, length-map, err_from_is_err_and, IsEndedIn, SetupData, setup_of, AreOpened}
use Rattle.std.proofs.lemmas.Slice.Zip.{AllZip-long}
use Rattle.batch_run.specs.Cut.{ahead_of, order_of}
use Rattle.batch_run.proofs.Together.{CameTo, all_ended, came_to, opened_at, opened_placed, run_ended}
use Rattle.batch_run.proofs.solve.group.run_opened.Goals as goal
use Rattle.batch_run.proofs.solve.group.run_opened.Goals.{In_ok-floors, In_ok-ended, In_ok-gathered}

floors_are : (g : _) (c : In_ok-floors g) → length c.in_ok-floors.floors.items ≡ length c.args.sources.now
floors_are g c = ap (λ l. length l) c.in_ok-floors.ensures.floors ∙ length-map c.args.opened.items (λ o. o.0) ∙ AllZip-long _ _ _ c.requires.opened

lists_are : (g : _) (c : In_ok-floors g) → length c.in_ok-floors.opened.items ≡ length c.args.sources.now
lists_are g c = ap (λ l. length l) c.in_ok-floors.ensures.stations ∙ length-map c.args.opened.items (λ o. o.1) ∙ AllZip-long _ _ _ c.requires.opened

lens_are : (g : _) (c : In_ok-floors g) → vec_len c.in_ok-floors.opened ≡ length c.args.sources.now
lens_are g c = let l = lists_are g c in search rules

abbrev setup : (g : _) (c : In_ok-floors g) → ℕ → SetupData g.row.A.Denot
setup g c source = setup_of c.args.over.now.batch.now.task.algebra c.args.over.now.graph.now source c.args.plan.now (order_of c.args.over.now.batch.now.settings.now)

opened : (g : _) (c : In_ok-floors g) → (q s : ℕ) (f : _) (v : _) → q < length c.args.sources.now →
    AreOpened g.A.PathAlgebra.meaning (setup g c (get_or c.args.sources.now q s)) (ahead_of c.args.over.now.batch.now.settings.now c.args.over.now.graph.now) (get_or c.in_ok-floors.floors.items q f) (get_or c.in_ok-floors.opened.items q v).items
opened g c q s f v low = rw (c.in_ok-floors.ensures.floors, c.in_ok-floors.ensures.stations)
    (opened_at (λ source f v. AreOpened g.A.PathAlgebra.meaning (setup g c source) (ahead_of c.args.over.now.batch.now.settings.now c.args.over.now.graph.now) f v.items) c.args.sources.now c.args.opened.items c.requires.opened q s f v low)

pub run_group-requires-clause-width : goal.run_group-requires-clause-width
run_group-requires-clause-width g c κs within = let at = (goal.at.run_group-requires-clause-width g c).In_ok-floors in rw c.as_slice.ensures.value (floors_are g at ∙ sym (lens_are g at))

pub run_group-requires-clause-own : goal.run_group-requires-clause-own
run_group-requires-clause-own g c κs within =
    let at = (goal.at.run_group-requires-clause-own g c).In_ok-floors in
    λ q d low. rw c.as_slice.ensures.value
    (opened_placed g.A.PathAlgebra.meaning (λ q. setup g at (get_or c.args.sources.now q 0)) c.in_ok-floors.floors.items c.in_ok-floors.opened.items
    (length c.args.sources.now) (floors_are g at) (λ q f v low. opened g at q 0 f v low) q d (rw (lens_are g at) at low))

pub pair_all-requires-clause-floors : goal.pair_all-requires-clause-floors
pair_all-requires-clause-floors g c κs within = floors_are g (goal.at.pair_all-requires-clause-floors g c).In_ok-floors

pub pair_all-requires-clause-stations : goal.pair_all-requires-clause-stations
pair_all-requires-clause-stations g c κs within = let n = lens_are g (goal.at.pair_all-requires-clause-stations g c).In_ok-floors in let l = c.in_ok-lists.ensures.len in search rules

-- all ended
ended : (g : _) (c : In_ok-ended g) → length c.in_ok-floors.floors.items ≡ length c.args.sources.now → vec_len c.in_ok-floors.opened ≡ length c.args.sources.now
    → ((q s : ℕ) (f : _) (v : _) → q < length c.args.sources.now →
    AreOpened g.A.PathAlgebra.meaning (setup_of c.args.over.now.batch.now.task.algebra c.args.over.now.graph.now (get_or c.args.sources.now q s) c.args.plan.now (order_of c.args.over.now.batch.now.settings.now))
    (ahead_of c.args.over.now.batch.now.settings.now c.args.over.now.graph.now) (get_or c.in_ok-floors.floors.items q f) (get_or c.in_ok-floors.opened.items q v).items)
    → All (IsEndedIn c.args.over.now c.args.plan.now) c.in_ok-ended.ended.items
ended g c floors lens each =
    let over = c.args.over.now in
    let paired = c.in_ok-ended.ensures in
    all_ended c.args.over.now c.args.plan.now c.in_ok-ended.ended.items (λ q s f v low. rw (paired.sources, paired.floors, paired.stations)
    (run_ended g.A.PathAlgebra.meaning (λ q. setup_of over.batch.now.task.algebra over.graph.now (get_or c.args.sources.now q s) c.args.plan.now (order_of over.batch.now.settings.now)) c.in_ok-floors.floors.items c.in_ok-floors.opened.items
    (length c.args.sources.now) floors (λ q f v low. each q s f v low) c.in_ok-lists.lists.items
    (λ q k d e low. c.in_ok-lists.ensures.all q k d e (rw lens low))
    (λ q d low. rw c.as_slice.ensures.value at (c.in_ok-lists.ensures.done q d (rw lens low)))
    q f v (rw paired.sources at low)))

pub gather_each-requires-clause-ended : goal.gather_each-requires-clause-ended
gather_each-requires-clause-ended g c κs within =
    let at = goal.at.gather_each-requires-clause-ended g c in ended g at.In_ok-ended (floors_are g at.In_ok-floors) (lens_are g at.In_ok-floors) (opened g at.In_ok-floors)

-- what each came to
came : (g : _) (c : In_ok-gathered g) → All (IsEndedIn c.args.over.now c.args.plan.now) c.in_ok-ended.ended.items
    → CameTo g.A.PathAlgebra.meaning c.args.over.now c.args.plan.now c.in_ok-ended.ended.items c.in_ok-gathered.gathered.items
came g c all = came_to g.A.PathAlgebra.meaning c.args.over.now c.args.plan.now _ _ all c.in_ok-gathered.ensures

pub returns : goal.returns
returns g c =
    let at = goal.at.returns g c in
    let all = came g at.In_ok-gathered (ended g at.In_ok-ended (floors_are g at.In_ok-floors) (lens_are g at.In_ok-floors) (opened g at.In_ok-floors)) in
    record {
      gathered = all.0;
      sources = all.1 ∙ c.in_ok-ended.ensures.sources;
      counted = rw (c.in_ok-ended.ensures.floors, c.in_ok-floors.ensures.floors) at all.2;
      stops = tt;
    }

pub returns-in_err-lists-clause-stops : goal.returns-in_err-lists-clause-stops
returns-in_err-lists-clause-stops g c =
    let p = err_from_is_err_and c.from_residual-in_err-lists.result c.from_residual-in_err-lists.ensures.1 in
    let at = (goal.at.returns-in_err-lists-clause-stops g c).In_ok-floors in
    let over = c.args.over.now in
    rw (p.1, p.2) (elim c.in_err-lists.ensures.fault [
      | inl memory ↦ inl memory
      | inr stop ↦ inr (
        record {
          ahead = ahead_of over.batch.now.settings.now over.graph.now;
          count = length c.args.sources.now;
          few = c.requires.width;
          setup = λ q. setup g at (get_or c.args.sources.now q 0);
          each = λ q low. record {
            source = get_or c.args.sources.now q 0;
            is_vertex = c.requires.sources q 0 low;
            roads = c.roads_hold.ensures;
            plan = c.args.plan.now;
            is_plan = c.plan_holds.ensures.plan;
            cut = c.requires.plan;
            setup_is = refl;
          };
          floors = c.in_ok-floors.floors.items;
          floors_are = floors_are g at;
          diffusions = c.in_ok-floors.opened.items;
          diffusions_are = lists_are g at;
          opened = λ q f v low. opened g at q 0 f v low;
          stop = rw c.as_slice.ensures.value at stop;
        },
        refl,
      )
    ])
