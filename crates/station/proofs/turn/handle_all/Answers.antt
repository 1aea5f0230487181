use Rattle.station.proofs.Words.{◌≡◌, ◌⊎◌, ◌∙◌, ℕ, Bool, true, false, cond, Option, Some, None, inl, inr, sym, ap, subst, Algebra, PartData, IsHeldBack, RunsAhead}
use Rattle.station.proofs.Behind.{behind, settle}
use Rattle.station.proofs.turn.handle_all.Goals.{in-Some, in-None}
use Rattle.station.proofs.turn.handle_all.Goals as goal

-- what runs ahead by the weight that it is given runs ahead by that of the floor
by_weight : {S V : Type 0} (A : Algebra V) (p : PartData S V) (may_wait : Bool) (given ahead : Option ℕ) → given ≡ cond may_wait ahead None → RunsAhead A given p → RunsAhead A ahead p
by_weight A p true given ahead e h = subst (λ o. RunsAhead A o p) e h
by_weight A p false given ahead e h = absurd (subst (λ o. RunsAhead A o p) e h)

pub returns-clause-all : goal.returns-clause-all
returns-clause-all g c =
    let laws = g.met.A.PathAlgebra g.world.𝓛 g.world.𝓜 g.world.𝓡 ((λ s x. x), (λ x. x), (λ x. x), λ x. x) in
    let p = c.handle_within-handled.new.self in
    let limit = c.match-limit.value in let A = g.A.PathAlgebra.meaning c.args.part.now.setup.diffusion.algebra in let ahead = c.args.floor.now.ahead in (
      limit,
      c.handle_within-handled.ensures.within,
      settle A p c.handle_within-handled.result c.args.budget c.is_held_back-held.result limit ahead
          c.handle_within-handled.ensures.budget c.is_held_back-held.ensures.held
          (elim c.handle_within-handled.ensures.all [
            | inl e ↦ inl e
            | inr h ↦ inr (elim h [
              | inl z ↦ inl z
              | inr b ↦ inr (elim b [
                | inl b ↦ inl (elim c.match-limit.branch [
                  | in-Some w ↦ behind A g.A.PathAlgebra.order (laws.one_order c.args.part.now.setup.diffusion.algebra) laws.ordered c.args.part.now p
                      c.handle_within-handled.ensures.setup c.handle_within-handled.ensures.shard w.in-Some.limit limit w.value-is w.in-Some.ensures.order ahead w.in-Some.ensures.limit b
                  | in-None w ↦ absurd (subst (λ o. IsHeldBack g.A.PathAlgebra.order o p) w.value-is b)
                ])
                | inr a ↦ inr (by_weight A p c.may_be_held_back-may_wait.result c.ahead_of-ahead.result ahead c.ahead_of-ahead.ensures a)
              ])
            ])
          ]),
    )

-- a part that always goes on has no limit, and none has if that was not asked for
pub returns-clause-alone : goal.returns-clause-alone
returns-clause-alone g c = λ free.
    let p = c.handle_within-handled.new.self in
    let A = g.A.PathAlgebra.meaning c.args.part.now.setup.diffusion.algebra in
    let ahead = c.args.floor.now.ahead in
    let stops = IsHeldBack g.A.PathAlgebra.order c.match-limit.value p ⊎ RunsAhead A c.ahead_of-ahead.result p in
    let on : c.may_be_held_back-may_wait.result ≡ false → stops → ⊥ = λ no b. elim b [
      | inl b ↦ elim c.match-limit.branch [
        | in-Some w ↦ (let none = c.limit_of-limit.ensures.none no in let bad : Some w.in-Some.limit ≡ None = sym w.in-Some.is ∙ none in cc)
        | in-None w ↦ subst (λ o. IsHeldBack g.A.PathAlgebra.order o p) w.value-is b
      ]
      | inr a ↦ subst (λ o. RunsAhead A o p) (c.ahead_of-ahead.ensures ∙ ap (λ b. cond b ahead None) no) a
    ] in
    let unasked : ahead ≡ None → stops → ⊥ = λ none b. elim b [
      | inl b ↦ elim c.match-limit.branch [
        | in-Some w ↦ (let bad : Some w.in-Some.ensures.limit.0 ≡ None = sym w.in-Some.ensures.limit.1 ∙ none in cc)
        | in-None w ↦ subst (λ o. IsHeldBack g.A.PathAlgebra.order o p) w.value-is b
      ]
      | inr a ↦ subst (λ o. RunsAhead A o p) none (by_weight A p c.may_be_held_back-may_wait.result c.ahead_of-ahead.result ahead c.ahead_of-ahead.ensures a)
    ] in
    let same = sym c.requires.floor in
    elim c.handle_within-handled.ensures.all [
      | inl e ↦ inl e
      | inr h ↦ elim h [
        | inl z ↦ inr z
        | inr b ↦ absurd (elim free [
          | inl one ↦ on (c.may_be_held_back-may_wait.ensures (inl (ap (λ p. p.shards) c.requires.plan ∙ ap (λ t. t.plan.shards) same ∙ one))) b
          | inr other ↦ elim other [
            | inl arrival ↦ on (c.may_be_held_back-may_wait.ensures (inr (c.requires.order ∙ ap (λ t. t.order) same ∙ arrival))) b
            | inr none ↦ unasked none b
          ]
        ])
      ]
    ]
