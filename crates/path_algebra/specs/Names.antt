-- The words for algebras, as bytes.
use Rattle.std.specs.Prelude.{ℕ, List, [], ◌∷◌, codes, find, Option}
use Rattle.std.specs.Str.{bytes_eq}
pub use Rattle.path_algebra.specs.declared.name.AlgebraName.{AlgebraName}
pub use Rattle.path_algebra.specs.declared.name.AlgebraName.TheVariants.{Shortest, Widest, Reach, Hops, Reliable, Within, Own}

-- the word for a name, as written in an answer text and on the command line
abbrev pub name_text : AlgebraName → List ℕ
name_text Shortest = codes "shortest"
name_text Widest = codes "widest"
name_text Reach = codes "reach"
name_text Hops = codes "hops"
name_text Reliable = codes "reliable"
name_text Within = codes "within"
name_text Own = codes "own"

-- all names
abbrev pub all_names : List AlgebraName
all_names = Shortest ∷ Widest ∷ Reach ∷ Hops ∷ Reliable ∷ Within ∷ Own ∷ []

-- the name that a word stands for: the one that is written as that word, or none
abbrev pub name_of_text : List ℕ → Option AlgebraName
name_of_text word = find (λ name. bytes_eq word (name_text name)) all_names
