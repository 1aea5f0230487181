-- A part that holds its share of an ended state.
use Rattle.station.proofs.Words.{◌≡◌, ℕ, suc, ◌+◌, false, [], ◌∷◌, get_or, refl, sym, ap, ◌∙◌, subst, arith, eq-eqb, nil_from_length, Algebra, IsLawful, IsBestLabel, Item, item_of, PartData, network_of, place_in, IsPlanned, total, in_flight, at_place, core_of, sum_zero, each_one, outs_member, HoldsEndedShare}
use Rattle.scholten_core.specs.declared.token.Token.{Token}
use Rattle.scholten_core.specs.Diffusion.{CoreState, is_idle}
use Rattle.scholten_core.proofs.EveryRun.{ended_is_best}
use Rattle.post_floor.proofs.Done.{idle_not}
use Rattle.station.specs.Station.{IsOverPart}

module _ {S V : Type 0} (meaning : S → Algebra V) where
  pub is_over : (p : PartData S V) (s : ℕ) → IsLawful (meaning p.setup.diffusion.algebra) → IsPlanned p.setup s → HoldsEndedShare meaning p → IsOverPart meaning p
  is_over p s L P (events, H, h, Q) =
      let A = meaning p.setup.diffusion.algebra in let N = network_of p.setup in let place = place_in p.setup in
      let c : CoreState V = core_of meaning p.setup events in
      let B = ended_is_best A p.setup.diffusion.roads p.setup.diffusion.source L P.roads P.source.0 events h in
      let one : ℕ → Item V → ℕ = λ _ _. 1 in
      let none' : in_flight N place c one ≡ 0 = sum_zero (λ b. total (at_place N place one) (item_of b (c.token b))) (suc N.arcs) (λ b. ap (λ (k : Token V). total (at_place N place one) (item_of b k)) (Q.0 b)) in
      let w = H.weighs one in record {
        best = λ v own. subst (IsBestLabel A p.setup.diffusion.roads (p.setup.diffusion.source ∷ []) v) (sym (H.tables.agree.label v (eq-eqb _ _ own.1))) (B v own.0);
        neutral = λ v own. H.tables.agree.engager v (eq-eqb _ _ own.1) ∙ Q.1 v;
        idle = λ b here. idle_not V (get_or p.busy b false) (H.tables.agree.idle b (eq-eqb _ _ here) ∙ ap is_idle (Q.0 b));
        queue = nil_from_length p.queue (let n = each_one (one p.shard) p.queue (λ i. refl) in omega (arith, w, n, none'));
        outs = λ j. nil_from_length (get_or p.outs j []) (let n = each_one (one (0 + j)) (get_or p.outs j []) (λ i. refl) in let m = outs_member one 0 j p.outs in omega (arith, w, n, m, none'));
      }
