use Rattle.std.proofs.Common.{rules, arith, ◌≡◌, ℕ, ◌<◌, get_or, length, inl, inr, Vec, Global}
use Rattle.worker_fleet.proofs.Words.{All, StationData, Drives, IsOnItsFloor, Driven}
use Rattle.std.proofs.lemmas.Result.{IfErr-weaker, IfOk-weaker}
use Rattle.worker_fleet.proofs.Assigned.{IfOk_from}
use Rattle.worker_fleet.proofs.Grouped.{one_of, all_within, all_done, is_stop, shares_placed, none_lost}
use Rattle.worker_fleet.proofs.group.run_group.Goals as goal
use Rattle.worker_fleet.proofs.group.run_group.Goals.{In_ok-shares, In_ok-answers}

-- as many shares as workers
shares_are : (g : _) (c : In_ok-shares g) → length c.in_ok-shares.shares.items ≡ c.args.settings.now.workers
shares_are g c = search rules

placed : (g : _) (c : In_ok-shares g) → All (λ s. All (IsOnItsFloor c.args.floors.now) s.items) c.in_ok-shares.shares.items
placed g c = shares_placed c.args.floors.now c.args.settings.now.dealing c.args.settings.now.workers c.in_ok-shares.shares.items c.args.diffusions.items c.in_ok-shares.ensures.dealt
    (shares_are g c) (λ q d low. c.requires.own q d (search rules))

-- as many answers as shares
answers_are : (g : _) (c : In_ok-answers g) → length c.in_ok-answers.answers.items ≡ length c.in_ok-shares.shares.items
answers_are g c = search rules

each : (g : _) (c : In_ok-answers g) (k : ℕ) (s : Vec (ℕ × StationData g.row.A.Denot g.row.A-Value.Denot) Global)
    (r : Driven g.row.A.Denot g.row.A-Value.Denot) → k < length c.in_ok-shares.shares.items
    → Drives g.A.PathAlgebra.meaning c.args.floors.now c.args.settings.now.turns.budget c.args.settings.now.turns.limit (g.G.Gate.may_answer c.args.settings.now.turns.gate.now) k
    (get_or c.in_ok-shares.shares.items k s).items (get_or c.in_ok-answers.answers.items k r)
each g c k s r low = c.in_ok-answers.ensures.each k s r (search rules)

some : (g : _) (c : In_ok-shares g) → Vec (ℕ × StationData g.row.A.Denot g.row.A-Value.Denot) Global
some g c = one_of c.in_ok-shares.shares.items (let e = shares_are g c in let w = c.requires.some in omega arith)

pub drive_each-requires-after_bounds : goal.drive_each-requires-after_bounds
drive_each-requires-after_bounds g c κs within = placed g c

pub end_group-requires-after_bounds : goal.end_group-requires-after_bounds
end_group-requires-after_bounds g c κs within =
    let at = goal.at.end_group-requires-after_bounds g c in
    let wide : length c.args.floors.now ≡ c.len-width.result = search rules in
    rw (← wide) (all_within _ _ _ _ c.args.settings.now.workers _ _ _ (some g at.In_ok-shares) (answers_are g at.In_ok-answers) (each g at.In_ok-answers) (placed g at.In_ok-shares))

pub returns-clause-fault : goal.returns-clause-fault
returns-clause-fault g c =
    let at = goal.at.returns-clause-fault g c in
    IfErr-weaker c.end_group.result _ _ (λ f h. elim h [
      | inl memory ↦ inl memory.0
      | inr first ↦ inr (is_stop _ _ _ _ c.args.settings.now.workers _ _ _ (some g at.In_ok-shares) (answers_are g at.In_ok-answers)
          (each g at.In_ok-answers) c.args.settings.now.dealing c.args.diffusions.items c.in_ok-shares.ensures.dealt (shares_are g at.In_ok-shares) f first)
    ]) c.end_group.ensures.fault

pub returns-clause-all : goal.returns-clause-all
returns-clause-all g c =
    let at = goal.at.returns-clause-all g c in
    IfOk-weaker c.end_group.result _ _ (λ v put q k d e low h.
    rw (put q e (search rules))
    (none_lost _ _ _ _ c.args.settings.now.workers _ _ _ (some g at.In_ok-shares) (answers_are g at.In_ok-answers)
    (each g at.In_ok-answers) c.args.settings.now.dealing c.args.diffusions.items c.in_ok-shares.ensures.dealt (shares_are g at.In_ok-shares) c.requires.some q k d
    (search rules) h)) c.end_group.ensures.put

pub returns-clause-done : goal.returns-clause-done
returns-clause-done g c =
    let at = goal.at.returns-clause-done g c in
    IfOk_from c.end_group.result c.end_group.ensures.ended c.end_group.ensures.put c.end_group.ensures.put (λ v ended put same q d low.
    rw (put q d (search rules))
    (all_done _ _ _ _ c.args.settings.now.workers _ _ _ (some g at.In_ok-shares) (answers_are g at.In_ok-answers) (each g at.In_ok-answers) (placed g at.In_ok-shares) ended q))
