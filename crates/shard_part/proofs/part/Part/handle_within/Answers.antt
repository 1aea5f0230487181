use Rattle.shard_part.proofs.Words.{arith, ◌∙◌, [], refl, sym, subst, inr}
use Rattle.shard_part.specs.Part.{HandledMany, HandledWithin, RunsAhead}
use Rattle.shard_part.proofs.TakenCounts.{handled_many_same, many_run}
use Rattle.shard_part.proofs.Within.{many_of, run_within}
use Rattle.shard_part.proofs.part.Part.handle_within.Goals as goal

pub loop-taken-init : goal.loop-taken-init
loop-taken-init g c = (([], refl, sym (c.note_outgoing.ensures ∙ c.self.view_is)), omega arith)

pub loop-taken-preserved : goal.loop-taken-preserved
loop-taken-preserved g c =
    let laws = g.met.A.PathAlgebra g.world.𝓛 g.world.𝓜 g.world.𝓡 ((λ s x. x), (λ x. x), (λ x. x), λ x. x) in
    let most = c.take_next-more.ensures.left in (
      run_within g.A.PathAlgebra.meaning g.A.PathAlgebra.order laws.one_order laws.lawful c.args.limit c.args.self.now c.loop-taken.self c.take_next-more.new.self c.loop-taken.taken c.take_next-more.result
          c.loop-taken.invariant.0 (c.take_next-more.ensures.taken (omega arith)) (λ o h. let free = c.if-is_held.ensures.all o h in cc),
      omega (arith, most),
    )

pub returns-then-is_held-clause-taken : goal.returns-then-is_held-clause-taken
returns-then-is_held-clause-taken g c = many_of g.A.PathAlgebra.meaning c.args.limit c.args.self.now c.loop-taken.self c.loop-taken.taken c.loop-taken.invariant.0

pub returns-then-more-eq0-clause-taken : goal.returns-then-more-eq0-clause-taken
returns-then-more-eq0-clause-taken g c = subst (HandledMany g.A.PathAlgebra.meaning c.args.self.now c.loop-taken.taken) (sym (c.take_next-more.ensures.none (omega arith)).1) (many_of g.A.PathAlgebra.meaning c.args.limit c.args.self.now c.loop-taken.self c.loop-taken.taken c.loop-taken.invariant.0)

pub returns-then-more-eq0-clause-within : goal.returns-then-more-eq0-clause-within
returns-then-more-eq0-clause-within g c = subst (HandledWithin g.A.PathAlgebra.meaning c.args.limit c.args.self.now c.loop-taken.taken) (sym (c.take_next-more.ensures.none (omega arith)).1) c.loop-taken.invariant.0

pub returns-clause-taken : goal.returns-clause-taken
returns-clause-taken g c = many_of g.A.PathAlgebra.meaning c.args.limit c.args.self.now c.loop-taken.self c.loop-taken.taken c.loop-taken.invariant.0

pub returns-then-is_held-clause-setup : goal.returns-then-is_held-clause-setup
returns-then-is_held-clause-setup g c = (handled_many_same g.A.PathAlgebra.meaning c.args.self.now c.loop-taken.self c.loop-taken.taken (returns-then-is_held-clause-taken g c)).0

pub returns-then-is_held-clause-shard : goal.returns-then-is_held-clause-shard
returns-then-is_held-clause-shard g c = (handled_many_same g.A.PathAlgebra.meaning c.args.self.now c.loop-taken.self c.loop-taken.taken (returns-then-is_held-clause-taken g c)).1

pub returns-then-is_held-clause-events : goal.returns-then-is_held-clause-events
returns-then-is_held-clause-events g c = many_run g.A.PathAlgebra.meaning c.self.inside.state c.args.self.now c.loop-taken.self c.algebra.result c.loop-taken.taken c.self.view_is
    c.algebra.ensures.algebra c.laws_hold.ensures.lawful c.algebra.ensures.formed c.algebra.ensures.tallied (returns-then-is_held-clause-taken g c)

pub returns-then-more-eq0-clause-setup : goal.returns-then-more-eq0-clause-setup
returns-then-more-eq0-clause-setup g c = (handled_many_same g.A.PathAlgebra.meaning c.args.self.now c.take_next-more.new.self c.loop-taken.taken (returns-then-more-eq0-clause-taken g c)).0

pub returns-then-more-eq0-clause-shard : goal.returns-then-more-eq0-clause-shard
returns-then-more-eq0-clause-shard g c = (handled_many_same g.A.PathAlgebra.meaning c.args.self.now c.take_next-more.new.self c.loop-taken.taken (returns-then-more-eq0-clause-taken g c)).1

pub returns-then-more-eq0-clause-events : goal.returns-then-more-eq0-clause-events
returns-then-more-eq0-clause-events g c = many_run g.A.PathAlgebra.meaning c.self.inside.state c.args.self.now c.take_next-more.new.self c.algebra.result c.loop-taken.taken c.self.view_is
    c.algebra.ensures.algebra c.laws_hold.ensures.lawful c.algebra.ensures.formed c.algebra.ensures.tallied (returns-then-more-eq0-clause-taken g c)

pub returns-clause-setup : goal.returns-clause-setup
returns-clause-setup g c = (handled_many_same g.A.PathAlgebra.meaning c.args.self.now c.loop-taken.self c.loop-taken.taken (returns-clause-taken g c)).0

pub returns-clause-shard : goal.returns-clause-shard
returns-clause-shard g c = (handled_many_same g.A.PathAlgebra.meaning c.args.self.now c.loop-taken.self c.loop-taken.taken (returns-clause-taken g c)).1

pub returns-clause-events : goal.returns-clause-events
returns-clause-events g c = many_run g.A.PathAlgebra.meaning c.self.inside.state c.args.self.now c.loop-taken.self c.algebra.result c.loop-taken.taken c.self.view_is
    c.algebra.ensures.algebra c.laws_hold.ensures.lawful c.algebra.ensures.formed c.algebra.ensures.tallied (returns-clause-taken g c)

pub returns-then-runs_ahead-clause-taken : goal.returns-then-runs_ahead-clause-taken
returns-then-runs_ahead-clause-taken g c = many_of g.A.PathAlgebra.meaning c.args.limit c.args.self.now c.loop-taken.self c.loop-taken.taken c.loop-taken.invariant.0

pub returns-then-runs_ahead-clause-setup : goal.returns-then-runs_ahead-clause-setup
returns-then-runs_ahead-clause-setup g c = (handled_many_same g.A.PathAlgebra.meaning c.args.self.now c.loop-taken.self c.loop-taken.taken (returns-then-runs_ahead-clause-taken g c)).0

pub returns-then-runs_ahead-clause-shard : goal.returns-then-runs_ahead-clause-shard
returns-then-runs_ahead-clause-shard g c = (handled_many_same g.A.PathAlgebra.meaning c.args.self.now c.loop-taken.self c.loop-taken.taken (returns-then-runs_ahead-clause-taken g c)).1

pub returns-then-runs_ahead-clause-events : goal.returns-then-runs_ahead-clause-events
returns-then-runs_ahead-clause-events g c = many_run g.A.PathAlgebra.meaning c.self.inside.state c.args.self.now c.loop-taken.self c.algebra.result c.loop-taken.taken c.self.view_is
    c.algebra.ensures.algebra c.laws_hold.ensures.lawful c.algebra.ensures.formed c.algebra.ensures.tallied (returns-then-runs_ahead-clause-taken g c)

pub returns-then-runs_ahead-clause-all : goal.returns-then-runs_ahead-clause-all
returns-then-runs_ahead-clause-all g c = inr (inr (inr (subst (λ t. RunsAhead (g.A.PathAlgebra.meaning t.diffusion.algebra) c.args.ahead c.loop-taken.self)
    (returns-then-runs_ahead-clause-setup g c) (c.if-runs_ahead.ensures refl))))
