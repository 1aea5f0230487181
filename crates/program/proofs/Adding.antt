-- Texts that are added where a watcher writes, one after the other.
use Rattle.std.specs.Prelude.{◌≡◌, ◌⊎◌, ℕ, ◌<◌, List, [], ◌++◌, Bool, true, false, Option, Some, None, Result, Ok, Err}
use Rattle.program.proofs.Words.{option_map, inl, inr, refl, sym, subst, ◌∙◌, arith, Output, RunFault}
use Rattle.std.proofs.KnownBytes.{Appends-nil, Appends-trans, Appends-kept}
use Rattle.command_files.specs.Added.{IsAdded}
use Rattle.program.specs.Watching.{Account, AreKept, AreLost, EndsAccounts, HasAccounts}

-- nothing was added
pub added_none : {X : Type 0} (old : Output X) → IsAdded old old []
added_none old = inl (Appends-nil old.written, refl)

-- one text was added after another
pub added_then : {X : Type 0} (old mid new : Output X) (x y : List ℕ) → IsAdded old mid x → IsAdded mid new y → IsAdded old new (x ++ y)
added_then old mid new x y (inl p) (inl q) = inl (Appends-trans old.written mid.written new.written x y p.0 q.0, q.1 ∙ p.1)
added_then old mid new x y (inl p) (inr q) = let e : mid.failures ≡ old.failures = p.1 in inr (omega arith)
added_then old mid new x y (inr p) (inl q) = let e : new.failures ≡ mid.failures = q.1 in inr (omega arith)
added_then old mid new x y (inr p) (inr q) = inr (omega arith)

module _ {A : Type 0} (seen : A → Output A) where
  -- accounts that are kept go on to be kept
  pub kept_then : (old mid new : Option A) (x y : List ℕ) → AreKept seen old mid x → AreKept seen mid new y → AreKept seen old new (x ++ y)
  kept_then None None new x y p q = q
  kept_then None (Some b) new x y p q = let e : Some b ≡ None = p in cc
  kept_then (Some a) None new x y p q = absurd p
  kept_then (Some a) (Some b) None x y p q = absurd q
  kept_then (Some a) (Some b) (Some c) x y p q = (Appends-trans (seen a).written (seen b).written (seen c).written x y p.0 q.0, q.1 ∙ p.1)

  -- or are lost
  pub kept_lost : (old mid new : Option A) (x : List ℕ) → AreKept seen old mid x → AreLost seen mid new → AreLost seen old new
  kept_lost None None new x p q = q
  kept_lost None (Some b) new x p q = let e : Some b ≡ None = p in cc
  kept_lost (Some a) None new x p q = absurd p
  kept_lost (Some a) (Some b) None x p q = q
  kept_lost (Some a) (Some b) (Some c) x p q = let e : (seen b).failures ≡ (seen a).failures = p.1 in omega arith

  -- accounts that stay as they are were not lost then
  pub lost_same : (a : Option A) → AreLost seen a a → ⊥
  lost_same None p = p
  lost_same (Some a) p = omega arith

  kept_none : (a : Option A) → AreKept seen a a []
  kept_none None = refl
  kept_none (Some a) = (Appends-nil (seen a).written, refl)

  -- nothing was added to accounts
  pub has_none : (old : Option A) (lost : Bool) → HasAccounts seen old old lost lost []
  has_none old lost = record { kept = λ e. (e, kept_none old); fell = λ e. inl e; stays = λ e. (e, refl) }

  fell_then : (old mid new : Option A) (l m : Bool) (x : List ℕ) → HasAccounts seen old mid l m x → AreLost seen mid new → (m ≡ true → new ≡ mid) → AreLost seen old new
  fell_then old mid new l false x first second stays = kept_lost old mid new x (first.kept refl).1 second
  fell_then old mid new l true x first second stays = absurd (lost_same mid (subst (AreLost seen mid) (stays refl) second))

  fell_first : (old mid new : Option A) (l m : Bool) → new ≡ mid → (l ≡ true) ⊎ AreLost seen old mid → (l ≡ true) ⊎ AreLost seen old new
  fell_first old mid new l m e (inl p) = inl p
  fell_first old mid new l m e (inr p) = inr (subst (AreLost seen old) (sym e) p)

  fell_second : (old mid new : Option A) (l m n : Bool) (x y : List ℕ) → HasAccounts seen old mid l m x → HasAccounts seen mid new m n y →
      (m ≡ true) ⊎ AreLost seen mid new → (l ≡ true) ⊎ AreLost seen old new
  fell_second old mid new l m n x y first second (inl e) = fell_first old mid new l m (second.stays e).1 (first.fell e)
  fell_second old mid new l m n x y first second (inr p) = inr (fell_then old mid new l m x first p (λ e. (second.stays e).1))

  -- one text was added to accounts after another
  pub has_then : (old mid new : Option A) (l m n : Bool) (x y : List ℕ) → HasAccounts seen old mid l m x → HasAccounts seen mid new m n y →
      HasAccounts seen old new l n (x ++ y)
  has_then old mid new l m n x y first second = record {
    kept = λ e. let q = second.kept e in let p = first.kept q.0 in (p.0, kept_then old mid new x y p.1 q.1);
    fell = λ e. fell_second old mid new l m n x y first second (second.fell e);
    stays = λ e. let p = first.stays e in let q = second.stays p.0 in (q.0, q.1 ∙ p.1);
  }

  some_lost : (a b c : A) (text : List ℕ) (lost : Bool) → HasAccounts seen (Some a) (Some b) false lost text → ((lost ≡ true) × (c ≡ b)) ⊎ ((seen b).failures < (seen c).failures) →
      (seen a).failures < (seen c).failures
  some_lost a b c text true had (inl p) = elim (had.fell refl) [ inl e ↦ cc | inr q ↦ subst (λ it. (seen a).failures < (seen it).failures) (sym p.1) q ]
  some_lost a b c text false had (inl p) = let e : false ≡ true = p.0 in cc
  some_lost a b c text true had (inr p) = elim (had.fell refl) [ inl e ↦ cc | inr q ↦ omega arith ]
  some_lost a b c text false had (inr p) = let e : (seen b).failures ≡ (seen a).failures = (had.kept refl).1.1 in omega arith

  none_first : (mid : Option A) (text : List ℕ) (lost : Bool) → HasAccounts seen None mid false lost text → mid ≡ None
  none_first mid text false had = (had.kept refl).1
  none_first mid text true had = elim (had.fell refl) [ inl e ↦ cc | inr q ↦ absurd q ]

  some_first : (a : A) (text : List ℕ) (lost : Bool) → HasAccounts seen (Some a) None false lost text → ⊥
  some_first a text false had = (had.kept refl).1
  some_first a text true had = elim (had.fell refl) [ inl e ↦ cc | inr q ↦ q ]

  -- accounts that were written, and then passed on or lost
  pub account : (old mid new : Option A) (lost : Bool) (text : List ℕ) (r : Result (Unit {0}) RunFault) → EndsAccounts seen mid new lost r →
      HasAccounts seen old mid false lost text → Account text (option_map seen old) (option_map seen new) r
  account None None None lost text r ends had = (refl, ends.1)
  account None None (Some c) lost text r ends had = let e : Some c ≡ None = ends.0 in cc
  account None (Some b) new lost text r ends had = let e : Some b ≡ None = none_first (Some b) text lost had in cc
  account (Some a) None new lost text r ends had = absurd (some_first a text lost had)
  account (Some a) (Some b) None lost text r ends had = ends
  account (Some a) (Some b) (Some c) lost text (Ok u) ends had =
      let kept = had.kept ends.0 in (Appends-kept (seen a).written (seen b).written (seen c).written text kept.1.0 ends.1, ends.2, ends.3 ∙ kept.1.1)
  account (Some a) (Some b) (Some c) lost text (Err f) ends had = (ends.0, some_lost a b c text lost had ends.1)
