use Rattle.post_floor.proofs.Words.{◌≡◌, ◌+◌, ◌∙◌, ap, sym, subst, IfSome, IsTrue, better_label, IsBestShown}
use Rattle.shard_part.proofs.Ahead.{better_kept}
use Rattle.post_floor.proofs.Shown.{none_shown, past_own, past_other}
use Rattle.post_floor.proofs.hints.best_of_others.Goals.{then-shard-own, else-shard-own}
use Rattle.post_floor.proofs.hints.best_of_others.Goals as goal

pub loop-shard-init : goal.loop-shard-init
loop-shard-init g c =
    let laws = g.met.A.PathAlgebra g.world.𝓛 g.world.𝓜 g.world.𝓡 ((λ s x. x), (λ x. x), (λ x. x), λ x. x) in record {
      value = tt;
      best = none_shown (g.A.PathAlgebra.meaning c.args.algebra) (laws.lawful c.args.algebra).ordered (g.H.HintSource.may_show c.args.hints.now) c.args.own;
    }

pub loop-shard-preserved : goal.loop-shard-preserved
loop-shard-preserved g c =
    let laws = g.met.A.PathAlgebra g.world.𝓛 g.world.𝓜 g.world.𝓡 ((λ s x. x), (λ x. x), (λ x. x), λ x. x) in
    let A = g.A.PathAlgebra.meaning c.args.algebra in let ordered = (laws.lawful c.args.algebra).ordered in
    let shows = g.H.HintSource.may_show c.args.hints.now in let k = c.loop-shard.shard in let was = c.loop-shard.best in
    elim c.if-shard-own.branch [
      | then-shard-own w ↦ (
          let o = w.value_shown.result in
          let e : c.if-shard-own.best ≡ better_label A.no_worse was o = w.best-is ∙ w.better_label-best.ensures ∙ ap (λ n. better_label n was o) (sym (laws.one_order c.args.algebra)) in
          record {
            value = subst (λ r. IfSome r (λ x. IsTrue (A.is_value x))) (sym e) (better_kept (λ x. IsTrue (A.is_value x)) A.no_worse was o c.loop-shard.invariant.value w.value_shown.ensures.value);
            best = subst (λ r. IsBestShown A shows (k + 1) c.args.own r) (sym e)
                (past_other A ordered shows c.args.own k was o (λ x. w.if-shard-own.true (x ∙ sym c.own.view_is)) w.value_shown.ensures.shown c.loop-shard.invariant.best);
          })
      | else-shard-own w ↦ record {
        value = subst (λ r. IfSome r (λ x. IsTrue (A.is_value x))) (sym w.best-is) c.loop-shard.invariant.value;
        best = subst (λ r. IsBestShown A shows (k + 1) c.args.own r) (sym w.best-is)
            (past_own A ordered shows c.args.own k was (w.if-shard-own.false ∙ c.own.view_is) c.loop-shard.invariant.best);
      }
    ]
