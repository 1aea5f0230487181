-- With one shard, best first, a batch whose limit of turns is enough for its graph does not reach
-- it.
use Rattle.batch_run.proofs.Words.{◌≡◌, ◌≢◌, ℕ, ◌+◌, ◌*◌, ◌<◌, ◌≤◌, ◌∙◌, Bool, true, cond, Result, Ok, Err, length, refl, sym, ap, subst, inl, inr, arith, IfErr, cases_lt, GraphData, IsGraph, Asked, Algebra, Arrival, BestFirst, SetupData, Stalled, RunFault, Settings}
use Rattle.std.proofs.Math.Nat.{mul-le-mul_right}
use Rattle.batch_settings.specs.declared.dealing.Dealing.{Dealing}
use Rattle.worker_fleet.specs.OneShard.{IsBrief}
use Rattle.worker_fleet.specs.Stops.{StopsGroup}
use Rattle.batch_run.specs.Stopping.{IsDiffusionOf, IsEnoughFor, HasEnoughTurns, Stopped}

-- twice as many turns as a graph has arcs, and three
abbrev turns_for : GraphData → ℕ
turns_for g = 2 * (length g.arcs + 1) + 1

module _ {S V : Type 0} (meaning : S → Algebra V) (algebra : S) (how : Settings) (answers : ℕ → ℕ → Bool → Type 0) (one : how.shards ≡ 1) (best : how.best_first ≡ true) where
  -- they are enough for each diffusion over the graph
  brief : (g : GraphData) (t : SetupData S) → IsDiffusionOf algebra g how t → IsBrief algebra (turns_for g) t
  brief g t D = subst (IsBrief algebra (turns_for g)) (sym D.setup_is) (record {
    one = record {
      planned = record { roads = D.roads; source = D.is_vertex; plan = D.is_plan; covers = D.cut.vertices; shard = (let l = D.is_plan.some_shard in omega (arith, l)) };
      one = D.cut.shards ∙ one;
    };
    by = refl;
    enough = inr (ap (λ b. cond b BestFirst Arrival) best, omega arith);
  })

  -- so the group is one of such diffusions
  brief_group : (g : GraphData) (turns : ℕ) (s : StopsGroup meaning (IsDiffusionOf algebra g how) how.dealing how.workers how.width how.budget how.turns answers Stalled) → ((q : ℕ) → q < s.count → turns_for g ≡ turns)
      → StopsGroup meaning (IsBrief algebra turns) how.dealing how.workers how.width how.budget how.turns answers Stalled
  brief_group g turns s enough = record {
    count = s.count;
    few = s.few;
    setup = s.setup;
    each = λ q low. subst (λ n. IsBrief algebra n (s.setup q)) (enough q low) (brief g (s.setup q) (s.each q low));
    ahead = s.ahead;
    floors = s.floors;
    floors_are = s.floors_are;
    diffusions = s.diffusions;
    diffusions_are = s.diffusions_are;
    opened = s.opened;
    stop = s.stop;
  }

module _ {S V : Type 0} (meaning : S → Algebra V) (algebra : S) (how : Settings) (answers : ℕ → ℕ → Bool → Type 0) (IsRead : GraphData → Asked → Type 0) (working : 0 < how.budget)
    (none : (rule : Dealing) (workers width budget limit turns : ℕ) → 0 < budget → width * turns ≤ limit → StopsGroup meaning (IsBrief algebra turns) rule workers width budget limit answers Stalled → ⊥)
    (enough : HasEnoughTurns how IsRead) where
  -- a group of no diffusions does not stall either
  group_goes_on : (g : GraphData) (asked : Asked) → IsRead g asked → StopsGroup meaning (IsDiffusionOf algebra g how) how.dealing how.workers how.width how.budget how.turns answers Stalled → ⊥
  group_goes_on g asked read s = elim (cases_lt 0 s.count) [
    | inl some ↦ none how.dealing how.workers how.width how.budget how.turns (turns_for g) working (enough.enough g asked read (s.each 0 some).roads)
        (brief_group meaning algebra how answers enough.one enough.best_first g (turns_for g) s (λ q low. refl))
    | inr empty ↦ none how.dealing how.workers how.width how.budget how.turns 0 working (omega arith)
        (brief_group meaning algebra how answers enough.one enough.best_first g 0 s (λ q low. absurd (omega (arith, low, empty))))
  ]

  pub not_stalled : (outcome : Result (Unit {0}) RunFault) → Stopped meaning algebra how answers IsRead outcome → IfErr outcome (λ f. f.number ≢ 40)
  not_stalled (Ok u) stopped = tt
  not_stalled (Err f) stopped = λ e. (let read = stopped.stalled e in elim read.stops [
    | inl memory ↦ cc
    | inr group ↦ group_goes_on read.graph read.asked read.read group.0
  ])

-- so many turns are enough for every graph
pub usual_enough : (how : Settings) (g : GraphData) → IsGraph g → how.width ≤ 64 → 17179869376 ≤ how.turns → IsEnoughFor how g
usual_enough how g roads few turns = let m = mul-le-mul_right (turns_for g) few in let arcs = roads.few_arcs in omega (arith, m, arcs, turns)
