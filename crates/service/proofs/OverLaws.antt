-- What serving over a graph promises, by how it ends.
use Rattle.service.proofs.Words.{◌≡◌, ◌≢◌, inl, inr, Bool, true, ℕ, ◌+◌, [], Result, Ok, Err, refl, ap, arith, IsAtEnd, GraphData, Algebra, RunFault, Settings, Stopped, RanOver, fault_of_stop, Questions, NoFile, Input, Output, Served, ServedPart, ServedSoFar, ServedUntilTooLong, MayAnswer}
use Rattle.service.specs.declared.serving.Stopped.TheVariants.{Read, Write, TooLong}

-- an outcome is no other
other_number : (r : Result (Unit {0}) RunFault) (f h : RunFault) → f.number ≢ h.number → r ≡ Err f → r ≡ Err h → ⊥
other_number r f h ne p q =
    let same : f ≡ h = cc in ne (ap (λ (x : RunFault). x.number) same)

module _ {V Q W : Type 0} (A : Algebra V) (how : Settings) (gate : ℕ → ℕ → Bool → Type 0) (g : GraphData) (input input_after : Input Q) (out out_after : Output W) where
  -- all requests were replied to
  pub all_served : Served (MayAnswer A how gate g) g.vertices input.left out out_after → out_after.held ≡ [] → IsAtEnd input_after.left → input_after.failures ≡ input.failures
      → RanOver A how gate g input input_after out out_after (Ok tt)
  all_served served held end sound = record {
    done = served;
    passed_on = held;
    sound = let (text, rs, all, has, replied) = served in (sound, replied.sound);
    ends = end;
    stopped = tt;
    too_long = tt;
    nothing_held = tt;
    fell = tt;
    read_input = (λ e. absurd (cc), λ lost. absurd (lost sound));
    kinds = tt;
    unfactored = tt;
  }

  -- memory was refused while the graph was factored
  pub unfactored : how.factors ≡ true → input_after ≡ input → out_after ≡ out → RanOver A how gate g input input_after out out_after (Err (record { number = 3; file = NoFile; line = 0 }))
  unfactored chosen unread unwritten = record {
    done = tt;
    passed_on = tt;
    sound = tt;
    ends = tt;
    stopped = λ file one. absurd (omega (arith, one));
    too_long = λ file two. absurd (omega (arith, two));
    nothing_held = λ file. absurd (let bad : NoFile ≡ Questions = file in cc);
    fell = λ write. absurd (omega (arith, write));
    read_input = (λ e. absurd (other_number _ _ _ (λ n. omega (arith, n)) refl e), λ lost. absurd (lost (ap (λ (i : Input Q). i.failures) unread)));
    kinds = inr (refl, refl, inl refl);
    unfactored = λ file three. (chosen, unread, unwritten);
  }

  -- serving stopped for this reason
  pub stopped : (s : Stopped) (r : Result (Unit {0}) Stopped) → r ≡ Err s
      → (r ≡ Err Read → ServedSoFar (MayAnswer A how gate g) g.vertices input.left input_after.left out out_after × (input_after.failures ≡ input.failures + 1))
      → (r ≡ Err Write → ServedPart (MayAnswer A how gate g) g.vertices input.left out out_after)
      → (r ≡ Err TooLong → ServedUntilTooLong (MayAnswer A how gate g) g.vertices input.left input_after.left out out_after)
      → (r ≢ Err Write → out_after.held ≡ []) → (r ≢ Err Read → input_after.failures ≡ input.failures)
      → RanOver A how gate g input input_after out out_after (Err (fault_of_stop s))
  stopped Read r is read write long held sound = record {
    done = tt;
    passed_on = tt;
    sound = tt;
    ends = tt;
    stopped = λ file one. (read is).0;
    too_long = λ file two. absurd (omega (arith, two));
    nothing_held = λ file. held (λ e. cc);
    fell = λ write. absurd (omega (arith, write));
    read_input = (λ e. λ same. omega (arith, same, (read is).1), λ lost. refl);
    kinds = inl (refl, (inl refl, refl));
    unfactored = λ file three. absurd (omega (arith, three));
  }
  stopped TooLong r is read write long held sound = record {
    done = tt;
    passed_on = tt;
    sound = tt;
    ends = tt;
    stopped = λ file one. absurd (omega (arith, one));
    too_long = λ file two. long is;
    nothing_held = λ file. held (λ e. cc);
    fell = λ write. absurd (omega (arith, write));
    read_input = (λ e. absurd (other_number _ _ _ (λ n. omega (arith, n)) refl e), λ lost. absurd (lost (sound (λ e. cc))));
    kinds = inl (refl, (inr refl, refl));
    unfactored = λ file three. absurd (omega (arith, three));
  }
  stopped Write r is read write long held sound = record {
    done = tt;
    passed_on = tt;
    sound = tt;
    ends = tt;
    stopped = λ file one. absurd (omega (arith, one));
    too_long = λ file two. absurd (omega (arith, two));
    nothing_held = λ file. absurd (let bad : NoFile ≡ Questions = file in cc);
    fell = λ _. write is;
    read_input = (λ e. absurd (other_number _ _ _ (λ n. omega (arith, n)) refl e), λ lost. absurd (lost (sound (λ e. cc))));
    kinds = inr (refl, refl, inr refl);
    unfactored = λ file three. absurd (omega (arith, three));
  }
