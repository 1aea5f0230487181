-- What whoever watches a service is told: how its input and its output are at each read, before it.
use Rattle.std.specs.Prelude.{◌≡◌, ◌⊎◌, ℕ, ◌+◌, Bool, List, [], ◌∷◌, length}
use Rattle.path_algebra.specs.Algebra.{Algebra}
use Rattle.batch_settings.specs.declared.settings.Settings.{Settings}
use Rattle.text_lines.specs.Streams.{Input, Output}
use Rattle.road_files.specs.Asked.{Asked}
use Rattle.service.specs.Answering.{MayAnswer}
use Rattle.service.specs.Fed.{ServedSoFar}
use Rattle.service.specs.Served.{OverGraph}

-- an input that is about to be read, and the output at that moment
pub record ReadMoment (Q W : Type 0) : Type 0 where
  pub input : Input Q
  pub out : Output W

-- it is the moment of the read before which so many were asked for: just the requests that the
-- bytes consumed make whole have been replied to, and nothing is left buffered in the output
pub record IsReadMoment {Q W : Type 0} (answers : Asked → List ℕ → Type 0) (n : ℕ) (input : Input Q) (out : Output W) (reads : ℕ) (moment : ReadMoment Q W) : Type 0 where
  pub asked : moment.input.asked ≡ input.asked + reads
  pub served : ServedSoFar answers n input.left moment.input.left out moment.out
  pub passed_on : moment.out.held ≡ []

-- these are the moments of reads, one after the other, before which so many were asked for
abbrev pub AreReadMoments : {Q W : Type 0} → (Asked → List ℕ → Type 0) → ℕ → Input Q → Output W → ℕ → List (ReadMoment Q W) → Type 0
AreReadMoments answers n input out reads [] = Unit {0}
AreReadMoments answers n input out reads (moment ∷ more) = IsReadMoment answers n input out reads moment × AreReadMoments answers n input out (reads + 1) more

-- told at these moments, one after the other, a watcher went from the one state to the other
abbrev pub FollowsReads : {S Q W : Type 0} → (S → Input Q → Output W → S → Type 0) → S → List (ReadMoment Q W) → S → Type 0
FollowsReads may_become old [] new = new ≡ old
FollowsReads {S} may_become old (moment ∷ more) new = (next : S) × may_become old moment.input moment.out next × FollowsReads may_become next more new

-- a watcher was told at each read of the input, before it, and at no other moment
pub record ToldReads {S Q W : Type 0} (answers : Asked → List ℕ → Type 0) (n : ℕ) (may_become : S → Input Q → Output W → S → Type 0) (old new : S) (input input_after : Input Q) (out : Output W) : Type 0 where
  pub moments : List (ReadMoment Q W)
  pub are_moments : AreReadMoments answers n input out 0 moments
  pub told : FollowsReads may_become old moments new
  pub each : input_after.asked ≡ input.asked + length moments

-- so it was over the graph that another input spells; or no read was asked for, and it was told
-- nothing
abbrev pub ToldOfService : {V S G Q W : Type 0} → Algebra V → Settings → (ℕ → ℕ → Bool → Type 0) → (S → Input Q → Output W → S → Type 0) → (old new : S) → Input G → (input input_after : Input Q) → Output W → Type 0
ToldOfService A how gate may_become old new graph input input_after out =
    ((input_after.asked ≡ input.asked) × (new ≡ old))
    ⊎ OverGraph graph.left (λ g. ToldReads (MayAnswer A how gate g) g.vertices may_become old new input input_after out)
