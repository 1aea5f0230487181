-- What a batch wrote, as an answer of a service; and what may be one.
use Rattle.std.proofs.Common.{◌≡◌, ◌≢◌, ℕ, ◌+◌, inl, inr, Bool, true, List, [], ◌++◌, Result, refl, sym, append-nil, ◌*◌, ◌<◌, ◌≤◌, Err, subst}
use Rattle.service.proofs.Words.{GraphData, Asked, Algebra, Settings, IsSameSolver, graph_of, is_without_diffusions, Output}
use Rattle.text_lines.specs.Written.{WrotePrefix, FailedAfterPrefix, WritesText}
use Rattle.text_lines.proofs.WriteLaws.{wrote_then}
use Rattle.batch_run.proofs.Stopped.{stopped_for}
use Rattle.batch_run.specs.declared.cause.Cause.{Cause}
use Rattle.batch_run.specs.declared.cause.Cause.TheVariants.{Unsolved, Write}
use Rattle.batch_run.specs.Stopping.{IsEnoughFor, Stops}
use Rattle.worker_fleet.specs.Stops.{Says, StopsGroup}
use Rattle.batch_run.specs.Causes.{MayStop, number_of, fault_of}
use Rattle.path_algebra.specs.declared.algebra.PathAlgebra.{Ghosts}
use Rattle.batch_run.specs.declared.solve.Solver.{Solver}
use Rattle.batch_settings.specs.Choice.{without_diffusions}
use Rattle.answer_text.specs.AnswerText.{answers_text}
use Rattle.worker_fleet.specs.declared.group.GroupFault.TheVariants.{Memory, Stalled, Gated}
use Rattle.batch_run.specs.Answered.{WroteAnswers, WroteAnswersPrefix, WroteWhole, begun_text}
use Rattle.service.specs.Replies.{fault_text}
use Rattle.service.specs.Answering.{MayAnswerAs, MayAnswer, MayAnswerBy}
use Rattle.batch_settings.specs.declared.dealing.Dealing.{Dealing}
use Rattle.worker_fleet.specs.OneShard.{IsBrief}
use Rattle.batch_run.proofs.OneShard.{not_stalled}

module _ {V : Type 0} (A : Algebra V) (undiffused : Bool) (how : Settings) (gate : ℕ → ℕ → Bool → Type 0) (g : GraphData) (asked : Asked) {X : Type 0} (old : Output X) where
  -- the right answers were written, whole
  pub answered : (new : Output X) → WroteAnswers A g asked old new → new.failures ≡ old.failures → (text : List ℕ) × MayAnswerAs A undiffused how gate g asked text × WrotePrefix old new text []
  answered new w same =
      let text : List ℕ = answers_text w.answers in
      (text, inl (w.answers, w.right, refl), record { prefix = text; text_is = sym (append-nil text); bytes = w.bytes; sound = same })

  -- a prefix of them was, and then a write failed
  pub fell : (new : Output X) → WroteAnswersPrefix A g asked old new → new.failures ≡ old.failures + 1 → (text : List ℕ) × MayAnswerAs A undiffused how gate g asked text × FailedAfterPrefix old new text
  fell new w one = (answers_text w.answers, inl (w.answers, w.right, refl), record { prefix = w.prefix; rest = w.rest; text_is = w.text_is; bytes = w.bytes; failed = one })

  -- if none was asked, memory ran out
  memory : (cause : Cause) → cause ≢ Write → (cause ≢ Write → cause ≢ Unsolved Memory → asked.questions ≢ []) → asked.questions ≡ [] → number_of cause ≡ 3
  memory (Unsolved Memory) other some none = refl
  memory (Unsolved Stalled) other some none = absurd (some other (λ e. cc) none)
  memory (Unsolved Gated) other some none = absurd (some other (λ e. cc) none)
  memory Write other some none = absurd (other refl)

  -- the first of them were, each whole, and then the line of the fault that stopped it
  pub stopped : {R E : Type 0} (cause : Cause) (mid new : Output X) (res : Result R E) → MayStop undiffused (Says gate how.workers how.turns) cause → cause ≢ Write → (how.shards ≡ 1 → how.best_first ≡ true → IsEnoughFor how g → number_of cause ≢ 40) → (cause ≢ Write → cause ≢ Unsolved Memory → asked.questions ≢ []) → WroteWhole A g asked old mid → mid.failures ≡ old.failures →
      WritesText mid new (fault_text (number_of cause) 0) res
      → (text : List ℕ) × MayAnswerAs A undiffused how gate g asked text × WritesText old new text res
  stopped cause mid new res may other unstalled some w same line =
      let begun : List ℕ = begun_text A asked w.answers in
      let first : WrotePrefix old mid begun [] = record { prefix = begun; text_is = sym (append-nil begun); bytes = w.bytes; sound = same } in (
        begun ++ fault_text (number_of cause) 0,
        inr (record {
          count = w.count;
          answers = w.answers;
          right = w.right;
          cause = cause;
          fewer = elim w.fewer [ inl none ↦ inl (memory cause other some none, none) | inr fewer ↦ inr fewer ];
          may = may;
          other = other;
          unstalled = unstalled;
          text_is = refl;
        }),
        wrote_then old mid new begun (fault_text (number_of cause) 0) res first line,
      )

-- With one shard, best first, a limit of turns that is enough for the graph stops no answer of a
-- service.
module _ {S V : Type 0} (meaning : S → Algebra V) (algebra : S) (how : Settings) (answers : ℕ → ℕ → Bool → Type 0) (working : 0 < how.budget)
    (none : (rule : Dealing) (workers width budget limit turns : ℕ) → 0 < budget → width * turns ≤ limit → StopsGroup meaning (IsBrief algebra turns) rule workers width budget limit answers Stalled → ⊥) where
  pub never_stalls : (g : GraphData) (asked : Asked) (undiffused : Bool) (cause : Cause) → MayStop undiffused (Stops meaning algebra g how answers) cause
      → how.shards ≡ 1 → how.best_first ≡ true → IsEnoughFor how g → number_of cause ≢ 40
  never_stalls g asked undiffused cause may one best enough =
      not_stalled meaning algebra how answers (λ roads _. roads ≡ g) working none
      (record { one = one; best_first = best; enough = λ roads _ same graph. subst (IsEnoughFor how) (sym same) enough })
      (Err (fault_of cause)) (stopped_for meaning algebra g how answers undiffused cause may (λ roads _. roads ≡ g) asked refl)

-- What may reply stays the same while a solver answers.
module _ {S V : Type 0} {G : Ghosts S V} (A : Algebra V) (how : Settings) (gate : ℕ → ℕ → Bool → Type 0) (s t : Solver S V G) (same : IsSameSolver s t) where
  pub stays : (P : (Asked → List ℕ → Type 0) → Type 0) → P (MayAnswerBy A how gate t) → P (MayAnswerBy A how gate s)
  stays P h =
      subst (λ (b : Bool). P (MayAnswerAs A b how gate (graph_of s))) same.kind
      (subst (λ (g : GraphData). P (MayAnswerAs A (is_without_diffusions t) how gate g)) same.graph h)

  -- it is the solver that the settings choose
  pub stays_own : is_without_diffusions s ≡ without_diffusions how → (P : (Asked → List ℕ → Type 0) → Type 0) → P (MayAnswerBy A how gate t) → P (MayAnswer A how gate (graph_of s))
  stays_own kind P h = subst (λ (b : Bool). P (MayAnswerAs A b how gate (graph_of s))) kind (stays P h)
