-- The text of accounts: what the diffusions of a batch counted.
use Rattle.std.specs.Prelude.{ℕ, List, [], ◌∷◌, ◌++◌, Bool, codes, decimal, flat_map, if◌then◌else◌}
use Rattle.path_algebra.specs.Names.{name_text}
use Rattle.path_algebra.specs.declared.name.AlgebraName.{AlgebraName}
use Rattle.text_lines.specs.Texts.{spelled}
use Rattle.shard_store.specs.declared.tally.Tally.{Tally}
use Rattle.batch_run.specs.declared.watcher.Progress.{Progress}
use Rattle.batch_run.specs.declared.watcher.Progress.TheVariants.{Begun, Gathered}

-- the header before the accounts of so many diffusions
abbrev pub heading_text : ℕ → AlgebraName → List ℕ
heading_text diffusions name = spelled (codes "p" ∷ codes "tally" ∷ decimal diffusions ∷ name_text name ∷ [])

-- the word that follows if a counter has reached its top
abbrev pub full_words : Bool → List (List ℕ)
full_words full = if full then codes "full" ∷ [] else []

-- the line of a diffusion: its question, its source and what it counted
abbrev pub account_text : ℕ → ℕ → Tally → List ℕ
account_text question source t =
    spelled (codes "t" ∷ decimal question ∷ decimal source ∷ decimal t.sent ∷ decimal t.delivered ∷ decimal t.signalled ∷ decimal t.accepted ∷ full_words t.full)

-- the first words of that line, and the rest of it
abbrev pub owner_text : ℕ → ℕ → List ℕ
owner_text question source = codes "t" ++ (32 ∷ decimal question) ++ (32 ∷ decimal source)

abbrev pub counts_text : Tally → List ℕ
counts_text t = (32 ∷ decimal t.sent) ++ (32 ∷ decimal t.delivered) ++ (32 ∷ decimal t.signalled) ++ (32 ∷ decimal t.accepted) ++ (if t.full then codes " full" else []) ++ 10 ∷ []

-- what a report adds to the accounts of a batch under an algebra of this name: its beginning the
-- header, a diffusion that was gathered its line
abbrev pub account_of : AlgebraName → Progress → List ℕ
account_of name (Begun questions diffusions) = heading_text diffusions name
account_of name (Gathered question source tally) = account_text question source tally
account_of name _ = []

-- the accounts of all that was reported
abbrev pub accounts_text : AlgebraName → List Progress → List ℕ
accounts_text name reports = flat_map (account_of name) reports
