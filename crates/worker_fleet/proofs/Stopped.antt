-- What the fault of a group says of its workers and their gate.
use Rattle.worker_fleet.proofs.Words.{ℕ, ◌<◌, Bool, List, get_or, subst, Vec, arith, Algebra, SetupData, FloorData, StationData, Dealing, GroupFault, LetsTurn}
use Rattle.worker_fleet.specs.declared.group.GroupFault.TheVariants.{Memory, Stalled, Gated}
use Rattle.worker_fleet.specs.Stops.{IsStop, StopsGroup, Says}
use Rattle.worker_fleet.proofs.Grouped.{one_of}

module _ {A V Z : Type 0} (meaning : A → Algebra V) (floors : List (FloorData A)) (rule : Dealing) (budget limit workers : ℕ) (answers : ℕ → ℕ → Bool → Type 0) (diffusions : List (Vec (StationData A V) Z)) where
  pub IsStop-says : (fault : GroupFault) → IsStop meaning floors rule budget limit workers answers diffusions fault → Says answers workers limit fault
  IsStop-says Memory s = tt
  IsStop-says Stalled s =
      let below : s.first.worker < workers = omega (arith, s.count, s.first.inside) in
      let d = one_of s.all (omega (arith, s.first.inside)) in
      let drove = s.drove s.first.worker d below in
      record {
        worker = s.first.worker;
        below = below;
        asked = subst (λ (n : ℕ). LetsTurn answers s.first.worker n) (drove.stalled (s.first.stopped d)) drove.asked;
      }
  IsStop-says Gated s =
      let below : s.first.worker < workers = omega (arith, s.count, s.first.inside) in
      let d = one_of s.all (omega (arith, s.first.inside)) in
      let drove = s.drove s.first.worker d below in
      let closed = drove.gated (s.first.stopped d) in
      record {
        worker = s.first.worker;
        turns = (get_or s.all s.first.worker d).turns;
        below = below;
        within = closed.0;
        asked = drove.asked;
        closed = closed.1;
      }

-- and so does that of diffusions that were run together
pub StopsGroup-says : {A V : Type 0} (meaning : A → Algebra V) (IsOne : SetupData A → Type 0) (rule : Dealing) (workers width budget limit : ℕ) (answers : ℕ → ℕ → Bool → Type 0) (fault : GroupFault)
    → StopsGroup meaning IsOne rule workers width budget limit answers fault → Says answers workers limit fault
StopsGroup-says meaning IsOne rule workers width budget limit answers fault s = IsStop-says meaning s.floors rule budget limit workers answers s.diffusions fault s.stop
