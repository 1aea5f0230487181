-- What a run promises of inputs that were read, from what answering them promises.
use Rattle.batch_run.proofs.Words.{◌≢◌, inl, inr, [], ℕ, Ok, Err, Bool, refl, arith, GraphData, Asked, Algebra, Says, Cause, Settings, MayStop, fault_of, number_of, without_diffusions, Output, HasEnoughTurns}
use Rattle.batch_inputs.specs.declared.faults.File.{File}
use Rattle.batch_run.specs.Answered.{PassedOnAll}
use Rattle.batch_run.specs.Ran.{BegunUnfinished, BegunWhole}
use Rattle.batch_run.specs.Runs.{Ran}
use Rattle.batch_run.proofs.CauseCases.{gated_by_number, no_memory_by_number, no_setting, numbered, other_by_number, stalled_by_number, write_by_number}

module _ {V W : Type 0} (A : Algebra V) (how : Settings) (answers : ℕ → ℕ → Bool → Type 0) (IsRead : GraphData → Asked → Type 0) (inputs : File → Type 0) (out out_after : Output W)
    (g : GraphData) (asked : Asked) (read : IsRead g asked) where
  -- all was answered
  pub ran_whole : (Why : Cause → Type 0) → PassedOnAll A g asked Why out out_after (Ok tt) → Ran A how answers IsRead inputs out out_after (Ok tt)
  ran_whole Why leaves = record {
    done = record { graph = g; asked = asked; read = read; wrote = leaves.text };
    passed_on = leaves.passed_on;
    sound = leaves.sound;
    write = tt;
    kinds = tt;
    placed = tt;
    stalled = tt;
    unstalled = λ _. tt;
    gated = tt;
    nothing = tt;
    unwritten = tt;
    untouched = tt;
    begun = tt;
    whole = tt;
    flushed = tt;
    once = tt;
    stopped = tt;
  }

  module _ (Why : Cause → Type 0) (cause : Cause) (may : MayStop (without_diffusions how) (Says answers how.workers how.turns) cause)
      (leaves : PassedOnAll A g asked Why out out_after (Err cause)) (unstalled : HasEnoughTurns how IsRead → number_of cause ≢ 40) where
    begun_whole : number_of cause ≢ 42 → BegunWhole A IsRead out out_after
    begun_whole other = record { graph = g; asked = asked; read = read; wrote = leaves.whole (other_by_number cause other) }

    begun_unfinished : (other : number_of cause ≢ 42) → asked.questions ≢ [] → BegunUnfinished A IsRead out out_after
    unfolding begun_whole
    begun_unfinished other some = record {
      begun = begun_whole other;
      fewer = elim (leaves.whole (other_by_number cause other)).fewer [
        | inl none ↦ absurd (some none)
        | inr fewer ↦ fewer
      ];
    }

    -- it stopped
    pub ran_stopped : Ran A how answers IsRead inputs out out_after (Err (fault_of cause))
    ran_stopped = record {
      done = tt;
      passed_on = tt;
      sound = tt;
      write = λ e. leaves.failed (write_by_number cause e);
      kinds = inr (refl, refl, numbered cause);
      placed = λ _. refl;
      stalled = stalled_by_number (without_diffusions how) (Says answers how.workers how.turns) cause may;
      unstalled = unstalled;
      gated = gated_by_number (without_diffusions how) (Says answers how.workers how.turns) cause may;
      nothing = λ other. absurd (other refl);
      unwritten = λ other. absurd (other refl);
      untouched = λ e. absurd (no_setting cause e);
      begun = λ _ _. record { graph = g; asked = asked; read = read; wrote = leaves.text };
      whole = λ _ three. begun_whole (λ e. omega (arith, three, e));
      flushed = λ _ three. leaves.flushed (other_by_number cause (λ e. omega (arith, three, e)));
      once = λ _ three. leaves.once (other_by_number cause (λ e. omega (arith, three, e)));
      stopped = λ why.
          let other : number_of cause ≢ 42 = elim why [
            | inl e ↦ λ z. omega (arith, e, z)
            | inr e ↦ λ z. omega (arith, e, z)
          ] in
          let some = leaves.some (other_by_number cause other) (no_memory_by_number cause why) in
          (begun_unfinished other some, leaves.flushed (other_by_number cause other));
    }
