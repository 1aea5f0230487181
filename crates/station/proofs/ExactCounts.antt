-- What is counted where all walks have one value, and where one part takes its items best first.
use Rattle.station.proofs.Words.{◌≡◌, ℕ, suc, ◌+◌, ◌<◌, ◌≤◌, Bool, false, ◌||◌, leb, min, length, sym, ◌∙◌, arith, Algebra, IsLawful, one_if, SetupData, network_of, top, tally_of}
use Rattle.std.proofs.lemmas.Bool.{lt-leb}
use Rattle.path_algebra.specs.Given.{reach}
use Rattle.road_graph.specs.GraphData.{GraphData}
use Rattle.scholten_core.specs.Accounts.{Totals, totals_of, AreEqualTotals, AreMarksOfReached, count_marked}
use Rattle.scholten_core.specs.BestFirst.{AreMarksOfWalkEnds}
use Rattle.scholten_core.proofs.EveryRun.{best_first_ended, reach_sends_once}
use Rattle.scholten_core.proofs.Basics.{one_if-most, sum_most, sum_ones}
use Rattle.shard_part.specs.OnePart.{HasOneBestFirstPart}
use Rattle.station.specs.declared.gathering.Gathered.{Gathered}
use Rattle.station.specs.Gather.{IsGathered, each_shows}

-- totals that are all n, below the top, are shown as they are
shown : (T : Totals) (n : ℕ) → n < top → T.sent ≡ n → AreEqualTotals T → tally_of T ≡ each_shows n
shown T n l e (s, d, a) =
    let delivered_is = sym s ∙ e in let signalled_is = sym d ∙ delivered_is in let accepted_is = sym a ∙ signalled_is in
    let kept : (x : ℕ) → x ≡ n → min x top ≡ n = λ x q. omega (arith, q, l) in
    let below : (x : ℕ) → x ≡ n → leb top x ≡ false = λ x q. lt-leb top x (omega (arith, q, l)) in
    λ i. record {
      sent = kept T.sent e i;
      delivered = kept T.delivered delivered_is i;
      signalled = kept T.signalled signalled_is i;
      accepted = kept T.accepted accepted_is i;
      full = below T.sent e i || below T.delivered delivered_is i || below T.signalled signalled_is i || below T.accepted accepted_is i;
    }

-- no more arcs have a mark than there are
marked_at_most : (g : GraphData) (marked : ℕ → Bool) → count_marked g marked ≤ length g.arcs
marked_at_most g marked =
    let m = sum_most (λ b. one_if (marked (suc b))) (λ b. 1) (length g.arcs) (λ b. one_if-most (marked (suc b))) in
    let o = sum_ones (length g.arcs) in omega (arith, m, o)

-- a message along each marked arc, and one
counted : {S V : Type 0} (meaning : S → Algebra V) (t : SetupData S) (g : Gathered V) → (G : IsGathered meaning t g) → (marked : ℕ → Bool)
    → (totals_of (meaning t.diffusion.algebra) (network_of t) G.events).sent ≡ 1 + count_marked t.diffusion.roads marked → g.tally ≡ each_shows (1 + count_marked t.diffusion.roads marked)
counted meaning t g G marked sent =
    let most = marked_at_most t.diffusion.roads marked in let few = G.roads.few_arcs in
    G.tally ∙ shown (totals_of (meaning t.diffusion.algebra) (network_of t) G.events) (1 + count_marked t.diffusion.roads marked) (omega (arith, most, few)) sent G.equal

pub once_an_arc : {S : Type 0} (t : SetupData S) (g : Gathered (Unit {0})) → IsGathered (λ _. reach) t g → (marked : ℕ → Bool)
    → AreMarksOfReached reach t.diffusion.roads t.diffusion.source marked → g.tally ≡ each_shows (1 + count_marked t.diffusion.roads marked)
once_an_arc t g G marked M = counted (λ _. reach) t g G marked (reach_sends_once t.diffusion.roads t.diffusion.source G.roads G.source G.events G.ended marked M)

pub best_first_once_an_arc : {S V : Type 0} (meaning : S → Algebra V) (t : SetupData S) (g : Gathered V) → IsLawful (meaning t.diffusion.algebra) → HasOneBestFirstPart t → IsGathered meaning t g
    → (marked : ℕ → Bool) → AreMarksOfWalkEnds (meaning t.diffusion.algebra) t.diffusion.roads t.diffusion.source marked → g.tally ≡ each_shows (1 + count_marked t.diffusion.roads marked)
best_first_once_an_arc meaning t g L one G marked M = counted meaning t g G marked
    (best_first_ended (meaning t.diffusion.algebra) t.diffusion.roads t.diffusion.source L G.roads G.source G.events (G.best one) G.ended marked M)
