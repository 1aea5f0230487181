-- The line of a diffusion, written in two parts.
use Rattle.std.specs.Prelude.{if◌then◌else◌}
use Rattle.std.proofs.Common.{◌≡◌, ℕ, List, [], ◌∷◌, ◌++◌, true, false, Result, ap, subst, ◌∙◌, decimal, codes, arith}
use Rattle.program.proofs.Words.{common_steps, spelled, Output}
use Rattle.text_lines.specs.Written.{WrotePrefix, FailedAfterPrefix, WritesText}
use Rattle.text_lines.proofs.WriteLaws.{wrote_then, fell_first}
use Rattle.shard_store.specs.declared.tally.Tally.{Tally}
use Rattle.program.specs.Accounts.{account_text, counts_text, full_words, owner_text}

-- both parts are the line
pub account_is : (question source : ℕ) (t : Tally) → owner_text question source ++ counts_text t ≡ account_text question source t
unfolding spelled
account_is question source t = elim t.full as (λ full. owner_text question source ++
    ((32 ∷ decimal t.sent) ++ (32 ∷ decimal t.delivered) ++ (32 ∷ decimal t.signalled) ++ (32 ∷ decimal t.accepted) ++ (if full then codes " full" else []) ++ 10 ∷ []) ≡ spelled
    (codes "t" ∷ decimal question ∷ decimal source ∷ decimal t.sent ∷ decimal t.delivered ∷ decimal t.signalled ∷ decimal t.accepted ∷ full_words full))
    [ true ↦ grind (arith, common_steps) | false ↦ grind (arith, common_steps) ]

-- both parts were written, whole, or the second was cut short
pub account_then : {R E X : Type 0} (old mid new : Output X) (question source : ℕ) (t : Tally) (first second : List ℕ) (r : Result R E) →
    first ≡ owner_text question source → second ≡ counts_text t →
    WrotePrefix old mid first [] → WritesText mid new second r → WritesText old new (account_text question source t) r
account_then old mid new question source t first second r e f was next =
    subst (λ text. WritesText old new text r) (ap (λ x. x ++ second) e ∙ ap (λ y. owner_text question source ++ y) f ∙ account_is question source t)
    (wrote_then old mid new first second r was next)

-- the first part was cut short
pub account_fell : {X : Type 0} (old new : Output X) (question source : ℕ) (t : Tally) (first : List ℕ) → first ≡ owner_text question source → FailedAfterPrefix old new first →
    FailedAfterPrefix old new (account_text question source t)
account_fell old new question source t first e was =
    subst (FailedAfterPrefix old new) (account_is question source t) (fell_first old new (owner_text question source) (counts_text t) (subst (FailedAfterPrefix old new) e was))
