-- What the seats of an ended diffusion show when its floor is closed.
use Rattle.station.proofs.Words.{◌≡◌, ℕ, ◌+◌, ◌<◌, true, Option, List, [], ◌∷◌, ap, ◌∙◌, arith, Algebra, AreBest, totals_of, Tally, IsPlanned, SetupData, network_of, All, total, tally_of, AllLawful, View, SeatData, AreHanded, StationData, TableId}
use mathlib.Core.Option as opt
use Rattle.scholten_core.proofs.EveryRun.{totals_are_equal, ended_is_quiet}
use Rattle.post_floor.specs.Closing.{AllSeated, AreJoined}
use Rattle.post_floor.specs.Floor.{Slot, FinalView}
use Rattle.post_floor.specs.Seats.{spent}
use Rattle.station.specs.Gather.{counts_in, counts_of, IsGathered, IsThere}
use Rattle.station.proofs.Places.{counts_there}

module _ {S V : Type 0} where
  -- all shards have a seat where all stations were there
  pub all_seated : (id : TableId) (n : ℕ) (all : List (StationData S V)) (seats : List (SeatData S V)) (tally : Tally)
      → ((j : ℕ) → j < n → IsThere all j) → AreHanded id all [] seats tally → AllSeated n seats
  all_seated id n all seats tally there h j l = let t = there j l in let a = counts_there all j t.0 t.1 in let b = h.shards j in omega (arith, a, b)

  seen_there : (n : ℕ) (w v : View S V) (seats : List (SeatData S V)) → 0 < n → AllSeated n seats → All (λ d. d.knows.seen ≡ true) seats → AreJoined w v seats → w.seen ≡ true
  seen_there n w v [] l a s J = absurd (let k = a 0 l in omega (arith, k))
  seen_there n w v (d ∷ ds) l a s J = J.all_seen.0 s.0

module _ {S V : Type 0} where
  -- the tally is that of all stations
  pub all_counted : (id : TableId) (all : List (StationData S V)) (seats : List (SeatData S V)) (tally : Tally) → AreHanded id all [] seats tally → tally ≡ tally_of (counts_in all)
  all_counted id all seats tally h =
      let one : (x y : ℕ) → x + 0 ≡ y → x ≡ y = λ x y e. omega (arith, e) in
      let same : counts_of seats ≡ counts_in all = λ i. record {
        sent = one (total (λ d. d.knows.sent) seats) (total (λ s. s.seat.knows.sent) all) (h.sums (λ v. v.sent)) i;
        delivered = one (total (λ d. d.knows.delivered) seats) (total (λ s. s.seat.knows.delivered) all) (h.sums (λ v. v.delivered)) i;
        signalled = one (total (λ d. d.knows.signalled) seats) (total (λ s. s.seat.knows.signalled) all) (h.sums (λ v. v.signalled)) i;
        accepted = one (total (λ d. d.knows.accepted) seats) (total (λ s. s.seat.knows.accepted) all) (h.sums (λ v. v.accepted)) i;
      } in
      h.counted ∙ ap tally_of same

module _ {S V : Type 0} (meaning : S → Algebra V) (L : AllLawful meaning) where
  -- THE ANSWER
  pub gathered : (t : SetupData S) (s : ℕ) (id : TableId) (all : List (StationData S V)) (seats : List (SeatData S V)) (tally : Tally)
      (labels : List (Option V)) (w : View S V) (words : List ℕ) (homes : List (opt.Option (Slot V))) → IsPlanned t s
      → AreBest (meaning t.diffusion.algebra) t.diffusion.roads (t.diffusion.source ∷ []) labels
      → AllSeated t.plan.shards seats → AreHanded id all [] seats tally → AreJoined w spent seats → FinalView meaning t w words homes → IsGathered meaning t (record { labels = labels; tally = tally })
  gathered t s id all seats tally labels w words homes P best seated h J C =
      let A = meaning t.diffusion.algebra in let T = totals_of A (network_of t) C.events in
      let few : 0 < t.plan.shards = let l = P.shard in omega (arith, l) in
      let over = C.seen (seen_there t.plan.shards w spent seats few seated h.seen J) in
      let one : (x y z : ℕ) → x ≡ 0 + y → x + 0 ≡ z → y ≡ z = λ x y z e f. omega (arith, e, f) in
      let same : counts_of seats ≡ T = λ i. record {
        sent = one w.sent (total (λ d. d.knows.sent) seats) T.sent J.sent C.counts.sent i;
        delivered = one w.delivered (total (λ d. d.knows.delivered) seats) T.delivered J.delivered C.counts.delivered i;
        signalled = one w.signalled (total (λ d. d.knows.signalled) seats) T.signalled J.signalled C.counts.signalled i;
        accepted = one w.accepted (total (λ d. d.knows.accepted) seats) T.accepted J.accepted C.counts.accepted i;
      } in
      record {
        roads = P.roads;
        source = P.source;
        labels = best;
        events = C.events;
        ended = over;
        quiet = ended_is_quiet A t.diffusion.roads t.diffusion.source (L t.diffusion.algebra) P.roads P.source.0 C.events over;
        tally = h.counted ∙ ap tally_of same;
        equal = totals_are_equal A t.diffusion.roads t.diffusion.source (L t.diffusion.algebra) P.roads P.source.0 C.events over;
        best = C.best (record { roads = P.roads; source = P.source; plan = P.plan; covers = P.covers; shard = few });
      }
