use Rattle.service.proofs.Words.{ap, take-append-drop, ◌≡◌, ℕ, ◌+◌, ◌-◌, ◌≤◌, List, ◌++◌, length, take, drop, subst, sym, ◌∙◌, arith, refl, Result, Ok, Err, Asked, IsLine, EndsLine, StaysInLine, RequestSoFar, Service, MayGive, LineEnded, Fed}
use Rattle.service.specs.Replies.{held_line}
use Rattle.service.proofs.AnswerLaws.{stays}
use Rattle.std.proofs.lemmas.List.{take_all, length-take-le}
use Rattle.service.proofs.Pieces.{next_prefix, next_all, next_within, next_fits}
use Rattle.service.proofs.ServiceLaws.{fed_none, fed_stay, fed_line, fed_part, fed_long}
use Rattle.service.proofs.service.Service.feed.Goals as goal

pub loop-at-init : goal.loop-at-init
loop-at-init g c = record {
  fed = fed_none (MayGive g.A.PathAlgebra.meaning g.T.Gate.may_answer c.args.answers.now c.args.solver.now) c.args.self.now (g.W.RoadWrite.seen c.args.out.now);
  same = record { graph = refl; kind = refl };
  held = λ h. h;
  vertices = refl;
  within = omega arith;
}

pub loop-at-preserved-in-Ok : goal.loop-at-preserved-in-Ok
loop-at-preserved-in-Ok g c =
    let ok : Result (Unit {0}) (Unit {0}) = Ok tt in
    let texts = (MayGive g.A.PathAlgebra.meaning g.T.Gate.may_answer c.args.answers.now c.args.solver.now) in
    let xs : List ℕ = c.args.bytes.now in
    let at : ℕ = c.loop-at.at in
    let m : ℕ = at + c.min.result - at in
    let slice : List ℕ = take m (drop at xs) in
    let n : ℕ = c.to_line_end-taken.result.0 in
    let kept = c.to_line_end-taken.ensures.kept in
    let room : n ≤ 4294967296 - c.loop-at.self.count = next_fits xs at n m (4294967296 - c.loop-at.self.count) c.to_line_end-taken.ensures.bound (omega (arith, c.min.ensures)) in
    let v : Service = record { cutter = c.to_line_end-taken.new.self; line = c.loop-at.self.line; count = c.loop-at.self.count + n; few_bytes = omega (arith, room, c.loop-at.self.few_bytes); any = kept.2 ∙ c.loop-at.self.any } in
    let counted : c.loop-at.self.count + n ≡ c.loop-at.self.count + length (take n slice) = ap (λ k. c.loop-at.self.count + k) (sym (length-take-le n slice c.to_line_end-taken.ensures.bound)) in
    let cut : EndsLine RequestSoFar c.loop-at.self.cutter v.cutter (take n slice) = rw c.if-ended.true at c.to_line_end-taken.ensures.cut in
    let further = fed_line texts c.args.self.now c.loop-at.self v c.end_line.new.self (take at xs) (take n slice) (g.W.RoadWrite.seen c.args.out.now) (g.W.RoadWrite.seen c.loop-at.out) (g.W.RoadWrite.seen c.end_line.new.out)
    kept.1 kept.0 refl c.end_line.ensures.vertices c.end_line.ensures.line c.end_line.ensures.ready counted c.loop-at.invariant.fed cut
    (stays (g.A.PathAlgebra.meaning c.args.answers.now.algebra) c.args.answers.now.run.now.settings.now (g.T.Gate.may_answer c.args.answers.now.run.now.gate.now) c.args.solver.now c.loop-at.solver c.loop-at.invariant.same
    (λ (may : Asked → List ℕ → Type 0). (a : ℕ) (line : List ℕ) → v.line ≡ held_line a → IsLine RequestSoFar v.cutter line → LineEnded may a line v c.end_line.new.self
    (g.W.RoadWrite.seen c.loop-at.out) (g.W.RoadWrite.seen c.end_line.new.out) ok) c.in-Ok.ensures.ended) in
    record {
      fed = subst (λ (x : List ℕ). Fed texts c.args.self.now c.end_line.new.self x (g.W.RoadWrite.seen c.args.out.now) (g.W.RoadWrite.seen c.end_line.new.out)) (sym (next_prefix xs at n m c.to_line_end-taken.ensures.bound)) further;
      same = record { graph = c.end_line.ensures.same.graph ∙ c.loop-at.invariant.same.graph; kind = c.end_line.ensures.same.kind ∙ c.loop-at.invariant.same.kind };
      held = λ h. c.in-Ok.ensures.passed_on (c.loop-at.invariant.held h);
      vertices = c.end_line.ensures.vertices ∙ kept.1 ∙ c.loop-at.invariant.vertices;
      within = next_within xs at n m c.loop-at.invariant.within c.to_line_end-taken.ensures.bound;
    }

pub returns-in-Err-clause-fell : goal.returns-in-Err-clause-fell
returns-in-Err-clause-fell g c = λ is.
    let failed : Result (Unit {0}) (Unit {0}) = Err tt in
    let texts = (MayGive g.A.PathAlgebra.meaning g.T.Gate.may_answer c.args.answers.now c.args.solver.now) in
    let xs : List ℕ = c.args.bytes.now in
    let at : ℕ = c.loop-at.at in
    let m : ℕ = at + c.min.result - at in
    let slice : List ℕ = take m (drop at xs) in
    let n : ℕ = c.to_line_end-taken.result.0 in
    let kept = c.to_line_end-taken.ensures.kept in
    let room : n ≤ 4294967296 - c.loop-at.self.count = next_fits xs at n m (4294967296 - c.loop-at.self.count) c.to_line_end-taken.ensures.bound (omega (arith, c.min.ensures)) in
    let v : Service = record { cutter = c.to_line_end-taken.new.self; line = c.loop-at.self.line; count = c.loop-at.self.count + n; few_bytes = omega (arith, room, c.loop-at.self.few_bytes); any = kept.2 ∙ c.loop-at.self.any } in
    let counted : c.loop-at.self.count + n ≡ c.loop-at.self.count + length (take n slice) = ap (λ k. c.loop-at.self.count + k) (sym (length-take-le n slice c.to_line_end-taken.ensures.bound)) in
    let cut : EndsLine RequestSoFar c.loop-at.self.cutter v.cutter (take n slice) = rw c.if-ended.true at c.to_line_end-taken.ensures.cut in
    fed_part texts c.args.self.now c.loop-at.self v c.end_line.new.self (take at xs) (take n slice) (g.W.RoadWrite.seen c.args.out.now) (g.W.RoadWrite.seen c.loop-at.out) (g.W.RoadWrite.seen c.end_line.new.out)
    kept.1 kept.0 refl c.end_line.ensures.vertices c.end_line.ensures.line c.end_line.ensures.ready counted c.loop-at.invariant.fed cut
    xs (drop (at + n) xs) (sym (take-append-drop (at + n) xs) ∙ ap (λ x. x ++ drop (at + n) xs) (next_prefix xs at n m c.to_line_end-taken.ensures.bound))
    (stays (g.A.PathAlgebra.meaning c.args.answers.now.algebra) c.args.answers.now.run.now.settings.now (g.T.Gate.may_answer c.args.answers.now.run.now.gate.now) c.args.solver.now c.loop-at.solver c.loop-at.invariant.same
    (λ (may : Asked → List ℕ → Type 0). (a : ℕ) (line : List ℕ) → v.line ≡ held_line a → IsLine RequestSoFar v.cutter line → LineEnded may a line v c.end_line.new.self
    (g.W.RoadWrite.seen c.loop-at.out) (g.W.RoadWrite.seen c.end_line.new.out) failed) c.in-Err.ensures.ended)

pub loop-at-preserved : goal.loop-at-preserved
loop-at-preserved g c =
    let texts = (MayGive g.A.PathAlgebra.meaning g.T.Gate.may_answer c.args.answers.now c.args.solver.now) in
    let xs : List ℕ = c.args.bytes.now in
    let at : ℕ = c.loop-at.at in
    let m : ℕ = at + c.min.result - at in
    let slice : List ℕ = take m (drop at xs) in
    let n : ℕ = c.to_line_end-taken.result.0 in
    let kept = c.to_line_end-taken.ensures.kept in
    let room : n ≤ 4294967296 - c.loop-at.self.count = next_fits xs at n m (4294967296 - c.loop-at.self.count) c.to_line_end-taken.ensures.bound (omega (arith, c.min.ensures)) in
    let v : Service = record { cutter = c.to_line_end-taken.new.self; line = c.loop-at.self.line; count = c.loop-at.self.count + n; few_bytes = omega (arith, room, c.loop-at.self.few_bytes); any = kept.2 ∙ c.loop-at.self.any } in
    let counted : c.loop-at.self.count + n ≡ c.loop-at.self.count + length (take n slice) = ap (λ k. c.loop-at.self.count + k) (sym (length-take-le n slice c.to_line_end-taken.ensures.bound)) in
    let stay : StaysInLine RequestSoFar c.loop-at.self.cutter v.cutter slice n = rw c.if-ended.false at c.to_line_end-taken.ensures.cut in
    record {
      fed = fed_stay texts c.args.self.now c.loop-at.self _ (take (at + n) xs) (take at xs) slice n (g.W.RoadWrite.seen c.args.out.now) (g.W.RoadWrite.seen c.loop-at.out) kept.1 kept.0 refl (ap (λ k. c.loop-at.self.count + k) stay.all)
          (next_all xs at n m stay.all) c.loop-at.invariant.fed stay;
      same = c.loop-at.invariant.same;
      held = c.loop-at.invariant.held;
      vertices = kept.1 ∙ c.loop-at.invariant.vertices;
      within = next_within xs at n m c.loop-at.invariant.within c.to_line_end-taken.ensures.bound;
    }

pub returns-clause-fed : goal.returns-clause-fed
returns-clause-fed g c = subst (λ (x : List ℕ). Fed (MayGive g.A.PathAlgebra.meaning g.T.Gate.may_answer c.args.answers.now c.args.solver.now) c.args.self.now c.loop-at.self x (g.W.RoadWrite.seen c.args.out.now) (g.W.RoadWrite.seen c.loop-at.out))
    (take_all c.loop-at.at c.args.bytes.now c.loop-at-test.false) c.loop-at.invariant.fed

pub returns-then-room-eq0-clause-long : goal.returns-then-room-eq0-clause-long
returns-then-room-eq0-clause-long g c = λ is.
    fed_long (MayGive g.A.PathAlgebra.meaning g.T.Gate.may_answer c.args.answers.now c.args.solver.now) c.args.self.now c.loop-at.self c.args.bytes.now c.loop-at.at
    (g.W.RoadWrite.seen c.args.out.now) (g.W.RoadWrite.seen c.loop-at.out)
    c.loop-at-test.true (omega (arith, c.if-room-eq0.true, c.loop-at.self.few_bytes)) c.loop-at.invariant.fed
