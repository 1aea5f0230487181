-- What a watcher leaves to which all reports of a batch were made.
use Rattle.std.specs.Prelude.{◌≡◌, ℕ, List, [], ◌∷◌, ◌++◌, Bool, true, false, Result}
use Rattle.program.proofs.Words.{refl, sym, subst, ◌∙◌, Output, GraphData, Asked, RunFault, Settings, AlgebraChoice, Under, accounts_text, HasAccounts, IsAddedIf, Notes}
use Rattle.batch_run.specs.declared.watcher.Progress.{Progress}
use Rattle.batch_run.specs.Reports.{AreReports, FollowsReports, Watched}
use Rattle.path_algebra.proofs.Chosen.{under_some}
use Rattle.program.specs.declared.watch.watcher.CommandWatcher.{CommandWatcher}
use Rattle.program.specs.Progress.{all_after, left_after, progress_text, shown_at}
use Rattle.program.proofs.Adding.{added_none, added_then, has_none, has_then}

-- some reports were made to a watcher
abbrev pub WasTold : {S : Type 0} → (S → Progress → S → Type 0) → S → S → Type 0
WasTold may_become old new = (reports : List Progress) × FollowsReports may_become old reports new

-- a batch makes its reports to its watcher, under the algebra that was chosen
pub under_told : {S W : Type 0} (c : AlgebraChoice) (how : Settings) (IsRead : GraphData → Asked → Type 0) (may_become : S → Progress → S → Type 0) (old new : S) (out out_after : Output W) (outcome : Result (Unit {0}) RunFault) →
    Under c (λ V A. Watched A how IsRead may_become old new out out_after outcome) →
    (told : WasTold may_become old new) × Under c (λ V A. AreReports A how IsRead out out_after outcome told.0)
under_told c how IsRead may_become old new out out_after outcome w =
    under_some c (WasTold may_become old new) (λ V A. Watched A how IsRead may_become old new out out_after outcome) (λ told V A. AreReports A how IsRead out out_after outcome told.0)
    (λ V A it. ((it.reports, it.told), it.are)) w

-- what a watcher of a command leaves to which all these reports were made
pub record Noted {A E M : Type 0} (seen : A → Output A) (shown : E → Output E) (old : CommandWatcher A E M)
    (reports : List Progress) (new : CommandWatcher A E M) : Type 0 where
  pub same : (new.accounts.ghost_name ≡ old.accounts.ghost_name) × (new.errors.ghost_name ≡ old.errors.ghost_name)
  pub accounts : HasAccounts seen old.accounts.now new.accounts.now old.lost new.lost (accounts_text old.name reports)
  pub errors : IsAddedIf shown old.progress old.errors.now new.errors.now (progress_text old.all old.left reports)

module _ {E : Type 0} (shown : E → Output E) where
  shown_none : (progress : Bool) (errors : E) → IsAddedIf shown progress errors errors []
  shown_none true errors = added_none (shown errors)
  shown_none false errors = refl

  shown_then : (progress : Bool) (old mid new : E) (x y : List ℕ) → IsAddedIf shown progress old mid x → IsAddedIf shown progress mid new y →
      IsAddedIf shown progress old new (x ++ y)
  shown_then true old mid new x y p q = added_then (shown old) (shown mid) (shown new) x y p q
  shown_then false old mid new x y p q = q ∙ p

module _ {A E M : Type 0} (seen : A → Output A) (shown : E → Output E) where
  noted_none : (old new : CommandWatcher A E M) → new ≡ old → Noted seen shown old [] new
  noted_none old new e = subst (Noted seen shown old []) (sym e) (record {
    same = (refl, refl);
    accounts = has_none seen old.accounts.now old.lost;
    errors = shown_none shown old.progress old.errors.now;
  })

  errors_then : (old next new : CommandWatcher A E M) (r : Progress) (rs : List Progress) → Notes seen shown old r next → Noted seen shown next rs new →
      IsAddedIf shown old.progress old.errors.now new.errors.now (progress_text old.all old.left (r ∷ rs))
  errors_then old next new r rs first more =
      shown_then shown old.progress old.errors.now next.errors.now new.errors.now (shown_at old.all old.left r) (progress_text (all_after old.all r) (left_after old.left r) rs) first.errors
      (subst (λ p. IsAddedIf shown p next.errors.now new.errors.now (progress_text (all_after old.all r) (left_after old.left r) rs)) first.progress
      (subst (λ n. IsAddedIf shown next.progress next.errors.now new.errors.now (progress_text n (left_after old.left r) rs)) first.all
      (subst (λ n. IsAddedIf shown next.progress next.errors.now new.errors.now (progress_text next.all n rs)) first.left more.errors)))

  -- a watcher has noted all reports that were made to it
  pub noted_all : (rs : List Progress) (old new : CommandWatcher A E M) → FollowsReports (Notes seen shown) old rs new → Noted seen shown old rs new
  noted_all [] old new e = noted_none old new e
  noted_all (r ∷ rs) old new (next, first, rest) =
      let more = noted_all rs next new rest in record {
        same = (more.same.0 ∙ first.same.0, more.same.1 ∙ first.same.1);
        accounts = has_then seen _ _ _ _ _ _ _ _ first.accounts (subst
            (λ n. HasAccounts seen next.accounts.now new.accounts.now next.lost new.lost (accounts_text n rs)) first.name more.accounts);
        errors = errors_then old next new r rs first more;
      }
