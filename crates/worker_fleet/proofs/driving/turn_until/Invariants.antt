use Rattle.worker_fleet.proofs.Words.{◌≤◌, length, All, LetsTurn, NextOn, IsOnItsFloor}
use Rattle.worker_fleet.proofs.Rounds.{MovedRound}
use Rattle.worker_fleet.proofs.driving.turn_until.Given as goal

abbrev pub invariant-loop-done : goal.invariant-loop-done
invariant-loop-done g l = record {
  place : l.at ≤ length l.stations.items;
  placed : All (IsOnItsFloor l.floors) l.stations.items;
  moved : MovedRound (NextOn g.A.PathAlgebra.meaning l.floors l.settings.budget) l.done l.at l.fn.stations.items l.stations.items;
  asked : LetsTurn (g.G.Gate.may_answer l.settings.gate.now) l.worker l.done;
  looked : LetsTurn (g.C.Gate.may_answer l.call_off) l.worker l.done;
}
