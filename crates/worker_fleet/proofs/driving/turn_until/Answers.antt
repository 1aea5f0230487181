use Rattle.std.proofs.Common.{arith, ◌≡◌, rules, refl, ◌∙◌, ◌<◌, length, below_more}
use Rattle.std.proofs.lemmas.List.Elements.{All-set}
use Rattle.worker_fleet.specs.Turns.{NextOn, IsOnItsFloor, IsNextOpen}
use Rattle.worker_fleet.specs.declared.driving.Outcome.TheVariants.{Ended, Stalled, Gated}
use Rattle.worker_fleet.proofs.Rounds.{MovedRound-none, MovedRound-more, MovedRound-took_turns}
use Rattle.worker_fleet.proofs.Carried.{IsOnItsFloor-next, open_not_ended, set_place, fits_next}
use Rattle.worker_fleet.proofs.driving.turn_until.Goals as goal
use Rattle.worker_fleet.proofs.driving.turn_until.Goals.{In-Some}

-- the next station that has not ended
next : (g : _) (c : In-Some g) → IsNextOpen c.loop-done.stations.items c.loop-done.at c.in-Some.k
next g c = rw c.deref.ensures.value at c.in-Some.ensures.some

pub loop-done-init : goal.loop-done-init
loop-done-init g c = record { place = omega arith; placed = c.requires; moved = MovedRound-none _ c.args.stations.now.items; asked = λ k low. absurd (omega arith); looked = λ k low. absurd (omega arith) }

pub turn_one-busy-requires-after_bounds : goal.turn_one-busy-requires-after_bounds
turn_one-busy-requires-after_bounds g c κs within =
    rw c.index_mut.ensures.value (c.loop-done.invariant.placed c.in-Some.k c.index_mut.result.now (next g (goal.at.turn_one-busy-requires-after_bounds g c).In-Some).inside)

pub loop-done-preserved : goal.loop-done-preserved
loop-done-preserved g c =
    let following : IsNextOpen c.loop-done.stations.items c.loop-done.at c.in-Some.k = next g (goal.at.loop-done-preserved g c).In-Some in
    let low : c.in-Some.k < length c.loop-done.stations.items = following.inside in
    record {
      place = set_place c.loop-done.stations.items c.in-Some.k c.turn_one-busy.new.placed low;
      placed = All-set (IsOnItsFloor c.args.floors.now) c.loop-done.stations.items c.in-Some.k c.turn_one-busy.new.placed
          (IsOnItsFloor-next g.A.PathAlgebra.meaning c.args.floors.now c.args.settings.now.budget _ _
          (rw c.index_mut.ensures.value (c.loop-done.invariant.placed c.in-Some.k c.index_mut.result.now low)) c.turn_one-busy.ensures)
          c.loop-done.invariant.placed;
      moved = MovedRound-more (NextOn g.A.PathAlgebra.meaning c.args.floors.now c.args.settings.now.budget) c.loop-done.done c.loop-done.at c.args.stations.now.items c.loop-done.stations.items c.in-Some.k
          c.index_mut.result.now c.turn_one-busy.new.placed following c.index_mut.ensures.value c.turn_one-busy.ensures c.loop-done.invariant.moved;
      asked = below_more _ _ c.loop-done.invariant.asked c.if-not-before-2.ensures;
      looked = below_more _ _ c.loop-done.invariant.looked c.if-not-before.ensures;
    }

pub returns-then-not-before-2-clause-drives : goal.returns-then-not-before-2-clause-drives
returns-then-not-before-2-clause-drives g c =
    let m = c.loop-done.invariant.moved in
    let at = (goal.at.returns-then-not-before-2-clause-drives g c).In-Some in
    record {
      counts = m.0;
      moved = m.1;
      turns = m.2;
      took_turns = MovedRound-took_turns _ _ _ _ _ m;
      limited = search rules;
      asked = c.loop-done.invariant.asked;
      ended = (
        λ e. absurd (let x : Gated ≡ Ended = e in cc),
        λ all. absurd (open_not_ended c.loop-done.stations.items c.in-Some.k (next g at).inside (next g at).here all),
      );
      stalled = λ e. absurd (let x : Gated ≡ Stalled = e in cc);
      gated = λ e. (search rules, c.if-not-before-2.ensures);
    }

pub returns-in-Some-next_open-clause-drives : goal.returns-in-Some-next_open-clause-drives
returns-in-Some-next_open-clause-drives g c =
    let m = c.loop-done.invariant.moved in
    let here : IsNextOpen c.loop-done.stations.items c.loop-done.at c.in-Some-next_open.field-0 = rw c.deref-2.ensures.value at c.in-Some-next_open.ensures.some in
    record {
      counts = m.0;
      moved = m.1;
      turns = m.2 ∙ (omega arith);
      took_turns = MovedRound-took_turns _ _ _ _ _ m;
      limited = omega arith;
      asked = λ k low. c.loop-done.invariant.asked k (omega arith);
      ended = (
        λ e. absurd (let x : Stalled ≡ Ended = e in cc),
        λ all. absurd (open_not_ended c.loop-done.stations.items c.in-Some-next_open.field-0 here.inside here.here all),
      );
      stalled = λ e. refl;
      gated = λ e. absurd (let x : Stalled ≡ Gated = e in cc);
    }

pub overflow_add-at : goal.overflow_add-at
overflow_add-at g c = fits_next c.in-Some.k (length c.deref.result.now) c.in-Some.ensures.some.inside c.deref.type_inv.0

pub returns-in_default-clause-drives : goal.returns-in_default-clause-drives
returns-in_default-clause-drives g c =
    let m = c.loop-done.invariant.moved in
    record {
      counts = m.0;
      moved = m.1;
      turns = m.2;
      took_turns = MovedRound-took_turns _ _ _ _ _ m;
      limited = omega arith;
      asked = c.loop-done.invariant.asked;
      ended = (λ e. rw c.deref.ensures.value at c.in_default.ensures.none, λ all. refl);
      stalled = λ e. absurd (let x : Ended ≡ Stalled = e in cc);
      gated = λ e. absurd (let x : Ended ≡ Gated = e in cc);
    }

pub returns-in-None-clause-drives : goal.returns-in-None-clause-drives
returns-in-None-clause-drives g c =
    let m = c.loop-done.invariant.moved in
    record {
      counts = m.0;
      moved = m.1;
      turns = m.2 ∙ (omega arith);
      took_turns = MovedRound-took_turns _ _ _ _ _ m;
      limited = omega arith;
      asked = λ k low. c.loop-done.invariant.asked k (omega arith);
      ended = (λ e. rw c.deref-2.ensures.value at c.in-None.ensures.none, λ all. refl);
      stalled = λ e. absurd (let x : Ended ≡ Stalled = e in cc);
      gated = λ e. absurd (let x : Ended ≡ Gated = e in cc);
    }

pub returns-then-not-before-clause-called_off : goal.returns-then-not-before-clause-called_off
returns-then-not-before-clause-called_off g c = record {
  turns = c.loop-done.done;
  within = search rules;
  asked = c.loop-done.invariant.looked;
  closed = c.if-not-before.ensures;
}
