-- Questions by their places and their kind.
use Rattle.std.specs.Prelude.{◌≡◌, ◌<◌, ℕ, length}
use Rattle.road_files.specs.Asked.{asked_of}
use Rattle.road_files.specs.declared.questions.Kind.TheVariants.{Pairs}
use Rattle.road_files.specs.declared.questions.Questions.{Questions}

-- a question stands at this place
abbrev pub HasPlace : Questions → ℕ → Type 0
HasPlace questions i = i < length (asked_of questions).questions

-- the questions are pairs
abbrev pub ArePairs : Questions → Type 0
ArePairs questions = (asked_of questions).kind ≡ Pairs
