-- With one shard, best first, a limit of turns that is enough for every graph stops nothing.
use Rattle.std.proofs.Common.{◌≡◌, ◌≢◌, ◌≤◌, ℕ, Bool, Option, Result, true, sym, subst, inl, inr, arith}
use Rattle.program.proofs.Words.{IfErr, Asked, AlgebraChoice, Under, under_any, File, RunFault, Settings}
use Rattle.std.proofs.lemmas.Bool.{cases_lt}
use Rattle.road_graph.specs.GraphData.{GraphData, IsGraph}
use Rattle.path_algebra.specs.Algebra.{Algebra}
use Rattle.path_algebra.specs.declared.counted_sums.Cost.{Cost}
use Rattle.batch_run.specs.Runs.{Output, Ran}
use Rattle.batch_run.specs.Stopping.{IsEnoughFor}
use Rattle.batch_run.specs.Unsuited.{IsRefusedUnsuited}

module _ {W : Type 0} (how : Settings) (answers : ℕ → ℕ → Bool → Type 0) (IsRead : GraphData → Asked → Type 0) (inputs : File → Type 0) (out out_after : Output W) (r : Result (Unit {0}) RunFault)
    (suffices : (g : GraphData) → IsGraph g → how.width ≤ 64 → 17179869376 ≤ how.turns → IsEnoughFor how g) (one : how.shards ≡ 1) (best : how.best_first ≡ true) (turns : 17179869376 ≤ how.turns)
    (cost : Option Cost) (suited : IsRefusedUnsuited cost how r) where
  -- a wider batch is refused
  never_stalled : {V : Type 0} (A : Algebra V) → Ran A how answers IsRead inputs out out_after r → IfErr r (λ f. f.number ≢ 40)
  never_stalled A ran = elim (cases_lt 64 how.width) [
    | inl wide ↦ subst (λ (x : Result (Unit {0}) RunFault). IfErr x (λ f. f.number ≢ 40)) (sym (suited.1 (inl (λ range. let l = range.width.1 in omega (arith, l, wide))))) (λ e. omega (arith, e))
    | inr few ↦ ran.unstalled (record { one = one; best_first = best; enough = λ g asked read roads. suffices g roads (omega (arith, few)) turns })
  ]

  -- under the algebra that was chosen
  pub never_stalled_under : (c : AlgebraChoice) → Under c (λ V A. Ran A how answers IsRead inputs out out_after r) → IfErr r (λ f. f.number ≢ 40)
  never_stalled_under c ran = under_any c (λ V A. Ran A how answers IsRead inputs out out_after r) (IfErr r (λ f. f.number ≢ 40)) (λ V A it. never_stalled A it) ran
