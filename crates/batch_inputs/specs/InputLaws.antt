-- What a success says of the inputs stays true at a later fault, and what a fault of the settings
-- says is true of inputs that were not read.
use Rattle.std.proofs.Common.{◌≡◌, ◌≢◌, ◌↔◌, ◌∙◌, ℕ, Result, Ok, Err, refl, sym, ap, arith}
use Rattle.batch_inputs.specs.declared.faults.File.{File}
use Rattle.batch_inputs.specs.declared.faults.File.TheVariants.{Graph, Questions, Bundle, NoFile}
use Rattle.batch_inputs.specs.declared.faults.RunFault.{RunFault}
use Rattle.batch_inputs.specs.Inputs.{HasReadPair, HasReadBundle}
use Rattle.text_lines.specs.Streams.{Input}

file_of : Result (Unit {0}) RunFault → File
file_of (Ok u) = NoFile
file_of (Err f) = f.file

-- a fault of another file is none of an input, and no read of it failed
not_of : (f : RunFault) (input : File) (n l : ℕ) → f.file ≢ input → (r : Result (Unit {0}) RunFault) → r ≡ Err f → r ≡ Err (record { number = n; file = input; line = l }) → ⊥
unfolding file_of
not_of f input n l other r is e = other (sym (ap file_of is) ∙ ap file_of e)

pub not_failed : (f : RunFault) (input : File) (before after : ℕ) → f.file ≢ input → after ≡ before → (r : Result (Unit {0}) RunFault) → r ≡ Err f →
    (r ≡ Err (record { number = 1; file = input; line = 0 })) ↔ (after ≢ before)
not_failed f input before after other same r is = (λ e. absurd (not_of f input 1 0 other r is e), λ failed. absurd (failed same))

module _ {G Q : Type 0} (first first_after : Input G) (second second_after : Input Q) where
  pub pair_later : (f : RunFault) → f.file ≡ NoFile → f.number ≢ 43 → HasReadPair first first_after second second_after (Ok tt) → HasReadPair first first_after second second_after (Err f)
  pair_later f none other h = record {
    sound = tt;
    graph = λ e. let bad : Graph ≡ NoFile = sym e ∙ none in cc;
    questions = λ e. let bad : Questions ≡ NoFile = sym e ∙ none in cc;
    read_graph = not_failed f Graph first.failures first_after.failures (λ e. let bad : Graph ≡ NoFile = sym e ∙ none in cc) h.sound.0 (Err f) refl;
    read_questions = not_failed f Questions second.failures second_after.failures (λ e. let bad : Questions ≡ NoFile = sym e ∙ none in cc) h.sound.1 (Err f) refl;
    memory = λ e. let bad : Graph ≡ NoFile = sym e ∙ none in cc;
    memory_questions = λ e. let bad : Questions ≡ NoFile = sym e ∙ none in cc;
    untouched = λ e. absurd (other e);
    ends = tt;
    asked = h.asked;
    asked_questions = h.asked_questions;
  }

pub pair_unread : {G Q : Type 0} (first : Input G) (second : Input Q) → HasReadPair first first second second (Err (record { number = 43; file = NoFile; line = 0 }))
pair_unread first second = record {
  sound = tt;
  graph = λ e. cc;
  questions = λ e. cc;
  read_graph = not_failed (record { number = 43; file = NoFile; line = 0 }) Graph first.failures first.failures (λ e. cc) refl _ refl;
  read_questions = not_failed (record { number = 43; file = NoFile; line = 0 }) Questions second.failures second.failures (λ e. cc) refl _ refl;
  memory = λ e. cc;
  memory_questions = λ e. cc;
  untouched = λ e. (refl, refl);
  ends = tt;
  asked = omega arith;
  asked_questions = omega arith;
}

pub bundle_later : {B : Type 0} (text text_after : Input B) (f : RunFault) → f.file ≡ NoFile → f.number ≢ 43 → HasReadBundle text text_after (Ok tt) → HasReadBundle text text_after (Err f)
bundle_later text text_after f none other h = record {
  sound = tt;
  bundle = λ e. let bad : Bundle ≡ NoFile = sym e ∙ none in cc;
  read_bundle = not_failed f Bundle text.failures text_after.failures (λ e. let bad : Bundle ≡ NoFile = sym e ∙ none in cc) h.sound (Err f) refl;
  memory = λ e. let bad : Bundle ≡ NoFile = sym e ∙ none in cc;
  untouched = λ e. absurd (other e);
  end = tt;
  asked = h.asked;
}

pub bundle_unread : {B : Type 0} (text : Input B) → HasReadBundle text text (Err (record { number = 43; file = NoFile; line = 0 }))
bundle_unread text = record {
  sound = tt;
  bundle = λ e. cc;
  read_bundle = not_failed (record { number = 43; file = NoFile; line = 0 }) Bundle text.failures text.failures (λ e. cc) refl _ refl;
  memory = λ e. cc;
  untouched = λ e. refl;
  end = tt;
  asked = omega arith;
}
