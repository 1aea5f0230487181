-- Where the state that is shown has ended, all is over.
use Rattle.post_floor.proofs.Words.{ℕ, List, ◌∙◌, Algebra, Event, Item, HasEnded, well_formed, PartData, SetupData, network_of, place_in, IsPlanned, Represents, core_of, AllLawful, ended_empty}
use Rattle.scholten_core.proofs.EveryRun.{ended_is_quiet, ended_is_best}
use Rattle.post_floor.specs.Floor.{RepresentsQuiet}

module _ {S V : Type 0} (meaning : S → Algebra V) (t : SetupData S) (L : AllLawful meaning) (P : IsPlanned t 0) where
  pub all_over : (ps : List (PartData S V)) (mailed : (ℕ → Item V → ℕ) → ℕ) (events : List Event)
      → Represents meaning t ps mailed (core_of meaning t events) → HasEnded (core_of meaning t events) → RepresentsQuiet meaning t ps mailed events
  all_over ps mailed events shows h =
      let A = meaning t.diffusion.algebra in
      let W = well_formed t.diffusion.roads t.diffusion.source P.roads P.source.0 in record {
        shown = shows;
        ended = h;
        quiet = ended_is_quiet A t.diffusion.roads t.diffusion.source (L t.diffusion.algebra) P.roads P.source.0 events h;
        best = ended_is_best A t.diffusion.roads t.diffusion.source (L t.diffusion.algebra) P.roads P.source.0 events h;
        empty = shows.shown.weighs (λ _ _. 1) ∙ (ended_empty A (network_of t) (place_in t) (L t.diffusion.algebra) W events).0 h;
      }
