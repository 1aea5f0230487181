-- Where an answer list is wrong, and which of these places comes first.
use Rattle.std.specs.Prelude.{◌≡◌, ℕ, ◌-◌, ◌<◌, ◌≤◌, ◌⊎◌, [], ◌∷◌, length, slice_get, Some}
use Rattle.road_graph.specs.GraphData.{GraphData, HasVertex}
use Rattle.path_algebra.specs.Algebra.{Algebra}
use Rattle.road_files.specs.Asked.{Question, FromSource, BetweenPair, FromSources, Asked}
use Rattle.answer_text.specs.AnswerData.{AnswerData, SourceAnswer, PairAnswer, SourcesAnswer, AnswerList}
use Rattle.answer_text.specs.IsAnswer.{IsAnswerList}
use Rattle.answer_check.specs.declared.verdict.Reason.{Reason}
use Rattle.answer_check.specs.declared.verdict.Reason.TheVariants.{Mismatch}
use Rattle.answer_check.specs.declared.verdict.Verdict.{Verdict}
use Rattle.answer_check.specs.declared.verdict.Verdict.TheVariants.{Valid, Invalid}
use Rattle.answer_check.specs.Reasons.{reason_number, IsLineRefused, IsPairRefused}

-- the name, the kind, the number of vertices and the number of answers are those of algebra,
-- questions and graph
pub record HasHeader {V : Type 0} (A : Algebra V) (g : GraphData) (asked : Asked) (told : AnswerList) : Type 0 where
  pub name_is : told.name ≡ A.name
  pub kind_is : told.kind ≡ asked.kind
  pub n_is : told.n ≡ g.vertices
  pub count : length told.list ≡ length asked.questions

-- the answer names this question, and has a line for each vertex if it is for all vertices
abbrev pub Names : GraphData → Question → AnswerData → Type 0
Names g (FromSource s) (SourceAnswer r lines) = (r ≡ s) × (length lines ≡ g.vertices)
Names g (BetweenPair s t) (PairAnswer r u found) = (r ≡ s) × (u ≡ t)
Names g (FromSources ss) (SourcesAnswer rs lines) = (rs ≡ ss) × (length lines ≡ g.vertices)
Names g _ _ = ⊥

-- the reasons at the vertex v against an answer that names its question
abbrev pub IsRefusedAt : {V : Type 0} → Algebra V → GraphData → Question → AnswerData → ℕ → Reason → Type 0
IsRefusedAt A g (FromSource s) (SourceAnswer r lines) v reason = HasVertex g v × IsLineRefused A g (s ∷ []) lines v reason
IsRefusedAt A g (BetweenPair s t) (PairAnswer r u found) v reason = (v ≡ t) × IsPairRefused A g s t found reason
IsRefusedAt A g (FromSources ss) (SourcesAnswer rs lines) v reason = HasVertex g v × IsLineRefused A g ss lines v reason
IsRefusedAt A g _ _ v reason = ⊥

-- what is wrong with an answer: it does not name its question, which is reported at vertex 0, or
-- there is a reason against it at a vertex
abbrev pub IsWrongIn : {V : Type 0} → Algebra V → GraphData → Question → AnswerData → ℕ → Reason → Type 0
IsWrongIn A g q t v reason = ((v ≡ 0) × (reason ≡ Mismatch) × (Names g q t → ⊥)) ⊎ IsRefusedAt A g q t v reason

-- what is wrong with an answer list: the header, which is reported at question 0, or something in
-- the answer to a question, numbered from 1
abbrev pub IsWrong : {V : Type 0} → Algebra V → GraphData → Asked → AnswerList → ℕ → ℕ → Reason → Type 0
IsWrong A g asked told question v reason =
    ((question ≡ 0) × (v ≡ 0) × (reason ≡ Mismatch) × (HasHeader A g asked told → ⊥))
    ⊎ ((1 ≤ question) × ((q : Question) × (t : AnswerData) × (slice_get asked.questions (question - 1) ≡ Some q) × (slice_get told.list (question - 1) ≡ Some t) × IsWrongIn A g q t v reason))

-- places in one answer are ordered by vertex, then by reason
abbrev pub IsEarlier : ℕ → Reason → ℕ → Reason → Type 0
IsEarlier u r v s = (u < v) ⊎ ((u ≡ v) × (reason_number r < reason_number s))

-- places are ordered by question, then by vertex, then by reason
abbrev pub IsBefore : ℕ → ℕ → Reason → ℕ → ℕ → Reason → Type 0
IsBefore p u r q v s = (p < q) ⊎ ((p ≡ q) × IsEarlier u r v s)

-- the answer list is wrong there, and nowhere before
pub record IsFirstWrong {V : Type 0} (A : Algebra V) (g : GraphData) (asked : Asked) (told : AnswerList) (question vertex : ℕ) (reason : Reason) : Type 0 where
  pub wrong : IsWrong A g asked told question vertex reason
  pub first : (p u : ℕ) (r : Reason) → IsBefore p u r question vertex reason → IsWrong A g asked told p u r → ⊥

-- a verdict: these are the right answers, or the first place where they are not
abbrev pub IsVerdict : {V : Type 0} → Algebra V → GraphData → Asked → AnswerList → Verdict → Type 0
IsVerdict A g asked told Valid = IsAnswerList A g asked told
IsVerdict A g asked told (Invalid question vertex reason) = IsFirstWrong A g asked told question vertex reason
