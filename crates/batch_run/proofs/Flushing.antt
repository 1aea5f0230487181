-- What was answered and reported stays so when it is passed on, and the first fault stays.
use Rattle.batch_run.proofs.Words.{◌≡◌, ◌≢◌, ℕ, ◌+◌, ◌<◌, ◌≤◌, [], ◌++◌, length, Bool, Result, Ok, Err, inl, inr, ◌⊎◌, sym, ap, ◌∙◌, subst, append-nil, arith, take_all, Appends, Keeps, Appends-kept, Output, GraphData, Asked, Algebra, AreAnswers, blocks_text, header_text, answers_count, Cause, Unsolved, Write, Memory, Settings, Progress, AnsweredAll, WroteAnswers, WroteFirst, WroteWhole, WroteAllOrFirst, begun_text, Factoring, Preparation, ReportedFirst}
use Rattle.std.proofs.lemmas.Result.{IfErr-at_err, IfErr-weaker}
use Rattle.std.specs.Result.{OnOk, IfErr}
use Rattle.batch_run.proofs.AnsweredFirst.{no_fewer_failures}
use Rattle.batch_run.proofs.WrittenReports.{first_still, kept_at_least}

-- the cause is that of the answers; or there was none, and the flush failed
abbrev pub IsFirstCause : (answered : Result (Unit {0}) Cause) (before after : ℕ) → Cause → Type 0
IsFirstCause answered before after cause = (answered ≡ Err cause) ⊎ ((cause ≡ Write) × (answered ≡ Ok tt) × (before < after))

module _ {V : Type 0} (A : Algebra V) (g : GraphData) (asked : Asked) where
  module _ {X : Type 0} (old mid new : Output X) (keeps : Keeps mid.written new.written) where
    all_kept : WroteAnswers A g asked old mid → WroteAnswers A g asked old new
    all_kept w = record { answers = w.answers; right = w.right; bytes = Appends-kept old.written mid.written new.written _ w.bytes keeps }

    whole_kept : WroteWhole A g asked old mid → WroteWhole A g asked old new
    whole_kept w = record { count = w.count; fewer = w.fewer; answers = w.answers; right = w.right; bytes = Appends-kept old.written mid.written new.written _ w.bytes keeps }

    first_kept : WroteFirst A g asked old mid → WroteFirst A g asked old new
    first_kept w = record { count = w.count; answers = w.answers; right = w.right; prefix = w.prefix; rest = w.rest; text_is = w.text_is; bytes = Appends-kept old.written mid.written new.written w.prefix w.bytes keeps }

  first_of_all : {X : Type 0} (old new : Output X) → WroteAnswers A g asked old new → WroteFirst A g asked old new
  first_of_all old new w =
      let text = begun_text A asked w.answers.list in
      record {
        count = length asked.questions;
        answers = w.answers.list;
        right = subst (λ x. AreAnswers A g x w.answers.list) (sym (take_all (length asked.questions) asked.questions (omega arith))) w.right.answers;
        prefix = text;
        rest = [];
        text_is = sym (append-nil text);
        bytes = subst (Appends old.written new.written)
            (ap (λ k. header_text k (length w.answers.list) w.answers.name ++ blocks_text w.answers.list) w.right.kind_is
            ∙ ap (λ n. header_text asked.kind n w.answers.name ++ blocks_text w.answers.list) (answers_count A g asked.questions w.answers.list w.right.answers)
            ∙ ap (λ m. header_text asked.kind (length asked.questions) m ++ blocks_text w.answers.list) w.right.name_is)
            w.bytes;
      }

  -- what was written stays when it is passed on, and the first cause stays
  pub text_flushed : {X : Type 0} (old mid new : Output X) (before after : ℕ) (Y : Type 0) → Keeps mid.written new.written → (answered r : Result (Unit {0}) Cause) → WroteAllOrFirst A g asked old mid answered →
      OnOk r ((answered ≡ Ok tt) × Y) → IfErr r (IsFirstCause answered before after) → WroteAllOrFirst A g asked old new r
  text_flushed old mid new before after Y keeps answered (Ok u) was ok first = all_kept old mid new keeps (subst (WroteAllOrFirst A g asked old mid) ok.0 was)
  text_flushed old mid new before after Y keeps answered (Err f) was ok (inl e) = first_kept old mid new keeps (subst (WroteAllOrFirst A g asked old mid) e was)
  text_flushed old mid new before after Y keeps answered (Err f) was ok (inr (x, e, y)) = first_of_all old new (all_kept old mid new keeps (subst (WroteAllOrFirst A g asked old mid) e was))

module _ {V : Type 0} (A : Algebra V) (g : GraphData) (asked : Asked) (MayStop : Cause → Type 0) {X : Type 0} (old mid new : Output X)
    (answered : Result (Unit {0}) Cause) (was : AnsweredAll A g asked MayStop old mid answered)
    (r : Result (Unit {0}) Cause) (first : IfErr r (IsFirstCause answered mid.failures new.failures)) where
  -- a failed flush is a cause too
  pub kind_flushed : MayStop Write → IfErr r MayStop
  kind_flushed may = IfErr-weaker r _ _ (λ cause why. elim why [
    | inl e ↦ IfErr-at_err _ e was.kind
    | inr w ↦ subst MayStop (sym w.0) may
  ]) first

  -- and one more failure
  pub failed_flushed : mid.failures ≤ new.failures → IfErr r (λ cause. cause ≡ Write → old.failures < new.failures)
  failed_flushed more = IfErr-weaker r _ _ (λ cause why. elim why [
    | inl e ↦ λ write. let one = IfErr-at_err _ e was.failed write in omega (arith, one, more)
    | inr w ↦ λ _. let few = no_fewer_failures A g asked MayStop old mid answered was in let last = w.2 in omega (arith, few, last)
  ]) first

  -- a flush after another cause fails once at most
  pub once_flushed : new.failures ≤ mid.failures + 1 → IfErr r (λ cause. cause ≢ Write → new.failures ≤ old.failures + 1)
  once_flushed most = IfErr-weaker r _ _ (λ cause why. elim why [
    | inl e ↦ λ other. let same = IfErr-at_err _ e was.unfailed other in omega (arith, same, most)
    | inr w ↦ λ other. absurd (other w.0)
  ]) first

  -- the first answers stay whole
  pub whole_flushed : Keeps mid.written new.written → IfErr r (λ cause. cause ≢ Write → WroteWhole A g asked old new)
  whole_flushed keeps = IfErr-weaker r _ _ (λ cause why. elim why [
    | inl e ↦ λ other. whole_kept A g asked old mid new keeps (IfErr-at_err _ e was.whole other)
    | inr w ↦ λ other. absurd (other w.0)
  ]) first

  -- and there were questions, if memory was not refused
  pub some_flushed : IfErr r (λ cause. cause ≢ Write → cause ≢ Unsolved Memory → asked.questions ≢ [])
  some_flushed = IfErr-weaker r _ _ (λ cause why. elim why [
    | inl e ↦ IfErr-at_err _ e was.some
    | inr w ↦ λ other. absurd (other w.0)
  ]) first

-- what holds if all was answered holds if it was passed on
pub after_all : (P Y : Type 0) (answered r : Result (Unit {0}) Cause) → OnOk answered P → OnOk r ((answered ≡ Ok tt) × Y) → OnOk r P
after_all P Y answered (Ok u) all ok = subst (λ x. OnOk x P) ok.0 all
after_all P Y answered (Err f) all ok = tt

-- no write failed
pub sound_flushed : (b m a : ℕ) (Y : Type 0) (answered r : Result (Unit {0}) Cause) → OnOk answered (m ≡ b) → OnOk r ((answered ≡ Ok tt) × Y) → OnOk r (a ≡ m) → OnOk r (a ≡ b)
sound_flushed b m a Y answered (Ok u) was ok same = same ∙ subst (λ x. OnOk x (m ≡ b)) ok.0 was
sound_flushed b m a Y answered (Err f) was ok same = tt

-- a flush reports nothing, and what was written stays
pub reported_flushed : {V S W : Type 0} (A : Algebra V) (how : Settings) (g : GraphData) (asked : Asked) (undiffused : Bool) (Told : Preparation → Type 0) (MayTell : Factoring → Type 0)
    (may_become : S → Progress → S → Type 0) (old new : S) (out mid out_after : Output W) → Keeps mid.written out_after.written → (whole : Bool) → ReportedFirst A how g asked undiffused Told MayTell may_become old new out mid whole
    → ReportedFirst A how g asked undiffused Told MayTell may_become old new out out_after whole
reported_flushed A how g asked undiffused Told MayTell may_become old new out mid out_after keeps =
    first_still A how g asked undiffused Told Told (λ p told. told) MayTell MayTell (λ f may. may) may_become old new out mid out_after (kept_at_least A g asked out mid out_after keeps)
