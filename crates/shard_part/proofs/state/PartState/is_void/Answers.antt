use Rattle.shard_part.proofs.Words.{◌≡◌, ap, sym, subst, ◌∙◌, rules, eq-eqb, false≢true, extend_label, improves, OutRoad, network_of, place_in, state_in, AnswersAtOnce}
use Rattle.shard_part.proofs.Offers.{weight_told}
use Rattle.shard_part.proofs.RepaidRuns.{head_low}
use Rattle.shard_part.proofs.state.PartState.is_void.Goals as goal

pub shard_of-to-requires-after_bounds : goal.shard_of-to-requires-after_bounds
shard_of-to-requires-after_bounds g c κs within = (head_low _ c.args.self.now _ _ _ c.args.b.arc c.args.road.now.head c.self.view_is c.self.invariant c.requires.out.arc
    c.requires.graph (ap (λ (r : OutRoad). r.head) c.requires.road)).1

pub place-head-requires-clause-within : goal.place-head-requires-clause-within
place-head-requires-clause-within g c κs within = (head_low _ c.args.self.now _ _ _ c.args.b.arc c.args.road.now.head c.self.view_is c.self.invariant c.requires.out.arc
    c.requires.graph (ap (λ (r : OutRoad). r.head) c.requires.road)).1

pub returns : goal.returns
returns g c = λ once.
    let p = c.args.self.now in let A = g.A.PathAlgebra.meaning p.setup.diffusion.algebra in let b = c.args.b.arc in
    let head = (head_low _ p _ _ _ b c.args.road.now.head c.self.view_is c.self.invariant c.requires.out.arc c.requires.graph (ap (λ (r : OutRoad). r.head) c.requires.road)).0 in
    let weight = weight_told A _ p _ _ _ b c.args.road.now.weight c.self.view_is c.self.invariant c.requires.out.arc c.requires.graph (ap (λ (r : OutRoad). r.weight) c.requires.road) in
    let found = c.place-head.ensures.vertex ∙ head in
    record {
      value = c.in-Some.value;
      extended = (λ i. extend_label (g.A.PathAlgebra.meaning (sym c.self.view_is i).setup.diffusion.algebra) (sym c.label_at.ensures i) (sym weight i)) ∙ sym c.extended.ensures ∙ c.in-Some.is;
      here = ap (place_in p.setup) (sym head) ∙ sym c.shard_of-to.ensures
          ∙ (let same : c.shard_of-to.result ≡ c.self.inside.shard = (let e = c.ne.ensures in let f = c.if-ne.false in search rules) in same ∙ ap (λ u. u.shard) c.self.view_is);
      other = λ z. false≢true (sym c.if-eq.false ∙ c.eq.ensures ∙ eq-eqb _ _ (head ∙ z ∙ sym (ap (λ w. w.vertex) c.v.view_is)));
      nothing = (λ i. improves (g.A.PathAlgebra.meaning (sym c.self.view_is i).setup.diffusion.algebra) c.in-Some.value ((ap (state_in p).label (sym found) ∙ sym c.label_at-2.ensures) i))
          ∙ sym c.improves.ensures ∙ c.if-improves.false;
      at_once = subst (AnswersAtOnce (network_of p.setup) (state_in p)) found (c.answers_at_once.ensures once);
    }
