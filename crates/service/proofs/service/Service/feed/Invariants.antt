use Rattle.service.proofs.Words.{◌≡◌, ◌-◌, ◌≤◌, [], take, length, IsSameSolver, MayGive, Fed}
use Rattle.service.proofs.service.Service.feed.Given as goal

-- the bytes so far were taken, and just the requests that they make whole replied to
abbrev pub invariant-loop-at : goal.invariant-loop-at
invariant-loop-at g l = record {
  fed : Fed (MayGive g.A.PathAlgebra.meaning g.T.Gate.may_answer l.answers l.fn.solver) l.initial.self l.self
      (take l.at l.bytes) (g.W.RoadWrite.seen l.initial.out) (g.W.RoadWrite.seen l.out);
  same : IsSameSolver l.fn.solver l.solver;
  held : (g.W.RoadWrite.seen l.initial.out).held ≡ [] → (g.W.RoadWrite.seen l.out).held ≡ [];
  vertices : l.self.cutter.taker.questions.list.vertices ≡ l.initial.self.cutter.taker.questions.list.vertices;
  within : l.at ≤ length l.bytes;
}

abbrev pub decreases-loop-at : goal.decreases-loop-at
decreases-loop-at g l = length l.bytes - l.at
