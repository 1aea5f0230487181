-- How a command ends, where its input is seen otherwise.
use Rattle.std.specs.Prelude.{◌↔◌, ℕ, Bool, Option, Some, None, IsSome, Result, Ok, Err}
use Rattle.program.proofs.Words.{option_map, List, ap, true, false, inl, inr, GraphData, Asked, AlgebraChoice, File, RunFault, Settings, IsAddedIf}
use Rattle.batch_inputs.specs.Orders.{HasReadOrdered}
use Rattle.text_lines.specs.Streams.{Input, Output}
use Rattle.command_args.specs.declared.parsed.WatchOptions.{WatchOptions}
use Rattle.command_files.specs.Moments.{Moment}
use Rattle.command_files.specs.declared.files.FileSystem.{Ghosts}
use Rattle.program.specs.Commands.{Answers}
use Rattle.program.specs.Runs.{given_of}

-- what is made of something is there exactly if that is
pub wanted_made : {S T : Type 0} (f : S → T) (made : Option S) (W : Type 0) → IsSome made ↔ W → IsSome (option_map f made) ↔ W
wanted_made f None W is = is
wanted_made f (Some a) W is = is

-- what was shown of an error output was shown of it at its moments
pub shown_as : {E : Type 0} (shown : E → Output E) (progress : Bool) (old new : E) (text : List ℕ) →
    IsAddedIf shown progress old new text →
    IsAddedIf {E = Output E} (λ x. x) progress (shown old) (shown new) text
shown_as shown true old new text h = h
shown_as shown false old new text h = ap shown h

-- another promise of how the input was read
module _ {P F I N W E : Type 0} (G : Ghosts P F I N) (others : List (List ℕ)) (watching : WatchOptions) (chosen : AlgebraChoice) (settings : Settings) (is_read : GraphData → Asked → Type 0) (is_own : File → Type 0)
    (has_read has_read' : Result (Unit {0}) RunFault → Type 0) (old new : Moment P W E) (result : ℕ) where
  pub answers_as : Answers G others watching (given_of chosen settings is_read is_own has_read) old new result →
      ((o : Result (Unit {0}) RunFault) → has_read o → has_read' o) → Answers G others watching (given_of chosen settings is_read is_own has_read') old new result
  answers_as (inl refused) read = inl refused
  answers_as (inr it) read = inr (record {
    accounts = it.accounts;
    accounts_after = it.accounts_after;
    answered = it.answered;
    created = it.created;
    ends = record {
      outcome = it.ends.outcome;
      ran = record { run = it.ends.ran.run; suited = it.ends.ran.suited; stopped = it.ends.ran.stopped; read = read it.ends.outcome it.ends.ran.read; ungated = it.ends.ran.ungated; unstalled = it.ends.ran.unstalled };
      reports = it.ends.reports;
      reported = it.ends.reported;
      kept = it.ends.kept;
      accounted = it.ends.accounted;
      watched = it.ends.watched;
      shown = it.ends.shown;
      ends = it.ends.ends;
      finishes = it.ends.finishes;
    };
    timed = it.timed;
  })

-- an order was read after inputs of which less is said
module _ {O : Type 0} (IsRead : GraphData → Asked → Type 0) (inputs later : File → Type 0) (order order_after : Option (Input O)) where
  ordered_as : (HasRead HasRead' : Result (Unit {0}) RunFault → Type 0) → ((o : Result (Unit {0}) RunFault) → HasRead o → HasRead' o) → (o : Result (Unit {0}) RunFault) →
      HasReadOrdered IsRead inputs later HasRead order order_after o → HasReadOrdered IsRead inputs later HasRead' order order_after o
  ordered_as _ _ less (Ok x) h = (less (Ok tt) h.0, h.1)
  ordered_as _ _ less (Err f) (inl h) = inl (less (Err f) h.0, h.1, h.2)
  ordered_as _ _ less (Err f) (inr (inl h)) = inr (inl (less (Ok tt) h.0, h.1))
  ordered_as _ _ less (Err f) (inr (inr h)) = inr (inr (less (Err f) h.0, h.1, h.2, h.3))

  -- nothing is said of the names of a pair
  pub after_pair : (Same Same' : Type 0) (HasRead : Result (Unit {0}) RunFault → Type 0) → (o : Result (Unit {0}) RunFault) →
      HasReadOrdered IsRead inputs later (λ o. Same × Same' × HasRead o) order order_after o → HasReadOrdered IsRead inputs later HasRead order order_after o
  after_pair Same Same' HasRead = ordered_as (λ o. Same × Same' × HasRead o) HasRead (λ o h. h.2)

  -- nor of that of a bundle
  pub after_bundle : (Same : Type 0) (HasRead : Result (Unit {0}) RunFault → Type 0) → (o : Result (Unit {0}) RunFault) →
      HasReadOrdered IsRead inputs later (λ o. Same × HasRead o) order order_after o → HasReadOrdered IsRead inputs later HasRead order order_after o
  after_bundle Same HasRead = ordered_as (λ o. Same × HasRead o) HasRead (λ o h. h.1)
