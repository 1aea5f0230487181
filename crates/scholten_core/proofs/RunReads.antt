-- What a running core's tables say of walks, engagements and the end.
use Rattle.std.proofs.Common.{◌≡◌, ℕ, Option, Some, None, IfSome, [], ◌∷◌, sym, ap, ◌∙◌, subst}
use Rattle.scholten_core.proofs.Words.{Algebra, IsLawful, IsWalkValue, Idle, Message, Held, IsQuiet, IsRooted, CanGoOn, LabelsAreBest, CoreView, state_of, network_of, IsRun}
use Rattle.scholten_core.proofs.EveryRun.{labels_are_walk_values, messages_are_walk_values, runs_are_rooted, run_kept_at, ended_is_quiet, ended_is_best}
use Rattle.scholten_core.proofs.Ending.{run_goes_on}

module _ {S V : Type 0} (meaning : S → Algebra V) (t old : CoreView S V) (e : t ≡ old) (L : IsLawful (meaning t.diffusion.algebra)) (R : IsRun meaning t) where
  pub label_walk : (v : ℕ) (o : Option V) → o ≡ (state_of t).label v → IfSome o (λ x. IsWalkValue (meaning old.diffusion.algebra) old.diffusion.roads (old.diffusion.source ∷ []) v x)
  label_walk v None q = tt
  label_walk v (Some x) q = subst (λ u. IsWalkValue (meaning u.diffusion.algebra) u.diffusion.roads (u.diffusion.source ∷ []) v x) e
      (labels_are_walk_values (meaning t.diffusion.algebra) t.diffusion.roads t.diffusion.source L R.diffusion.roads R.diffusion.source.0 R.reached.0 v x
      (ap (λ c. c.label v) (sym R.reached.1) ∙ sym q))

  pub message_walk : (b : ℕ) (x : V) → (state_of t).token b ≡ Message x → IsWalkValue (meaning old.diffusion.algebra) old.diffusion.roads (old.diffusion.source ∷ []) ((network_of old).head b) x
  message_walk b x q = subst (λ u. IsWalkValue (meaning u.diffusion.algebra) u.diffusion.roads (u.diffusion.source ∷ []) ((network_of u).head b) x) e
      (messages_are_walk_values (meaning t.diffusion.algebra) t.diffusion.roads t.diffusion.source L R.diffusion.roads R.diffusion.source.0 R.reached.0 b x
      (ap (λ c. c.token b) (sym R.reached.1) ∙ q))

  pub engager_held : (v : ℕ) (o : Option ℕ) → o ≡ (state_of t).engager v → IfSome o (λ a. ((state_of old).token a ≡ Held) × ((network_of old).head a ≡ v))
  engager_held v None q = tt
  engager_held v (Some a) q =
      let h = (run_kept_at (meaning t.diffusion.algebra) t.diffusion.roads t.diffusion.source L R.diffusion.roads R.diffusion.source.0
      R.reached.0).engager_held v a (ap (λ c. c.engager v) (sym R.reached.1) ∙ sym q) in
      subst (λ u. ((state_of u).token a ≡ Held) × ((network_of u).head a ≡ v)) e (ap (λ c. c.token a) R.reached.1 ∙ h.0, h.1)

  pub rooted_at : IsRooted (meaning old.diffusion.algebra) (network_of old) (state_of old)
  rooted_at = subst (λ u. IsRooted (meaning u.diffusion.algebra) (network_of u) (state_of u)) e
      (subst (IsRooted (meaning t.diffusion.algebra) (network_of t)) (sym R.reached.1)
      (runs_are_rooted (meaning t.diffusion.algebra) t.diffusion.roads t.diffusion.source L R.diffusion.roads R.diffusion.source.0 R.reached.0))

  pub quiet_at : (state_of t).token 0 ≡ Idle → IsQuiet (state_of old)
  quiet_at q = subst (λ u. IsQuiet (state_of u)) e (subst IsQuiet (sym R.reached.1)
      (ended_is_quiet (meaning t.diffusion.algebra) t.diffusion.roads t.diffusion.source L R.diffusion.roads R.diffusion.source.0 R.reached.0 (ap (λ c. c.token 0) (sym R.reached.1) ∙ q)))

  pub best_at : (state_of t).token 0 ≡ Idle → LabelsAreBest (meaning old.diffusion.algebra) old.diffusion.roads old.diffusion.source (state_of old)
  best_at q = subst (λ u. LabelsAreBest (meaning u.diffusion.algebra) u.diffusion.roads u.diffusion.source (state_of u)) e
      (subst (LabelsAreBest (meaning t.diffusion.algebra) t.diffusion.roads t.diffusion.source) (sym R.reached.1)
      (ended_is_best (meaning t.diffusion.algebra) t.diffusion.roads t.diffusion.source L R.diffusion.roads R.diffusion.source.0 R.reached.0 (ap (λ c. c.token 0) (sym R.reached.1) ∙ q)))

  pub going_at : ((state_of t).token 0 ≡ Idle → ⊥) → CanGoOn (network_of old) (state_of old)
  going_at q = subst (λ u. CanGoOn (network_of u) (state_of u)) e
      (subst (CanGoOn (network_of t)) (sym R.reached.1)
      (run_goes_on (meaning t.diffusion.algebra) t.diffusion.roads t.diffusion.source L R.diffusion.roads R.diffusion.source.0 R.reached.0 (λ i. q (ap (λ c. c.token 0) R.reached.1 ∙ i))))
