-- Every question has a right answer: best values, their tree, and the line that both give each
-- vertex.
use Rattle.std.proofs.Common.{◌≡◌, ℕ, List, [], ◌∷◌, refl, subst, All, Option, Some, None}
use Rattle.batch_run.proofs.Words.{All-nil, All-cons, All-head, All-tail, GraphData, IsGraph, HasVertex, Algebra, Reached, written_lines, AsksWithin}
use Rattle.path_algebra.specs.Walks.{AreBest, IsBestLabel, label_of, IsParentChain}
use Rattle.route_tree.specs.Tree.{AreHopsAt, Branches, IsTree, IsLinked, IsRoute, hops_of}
use Rattle.route_tree.specs.Told.{IsParentRoute}
use Rattle.road_files.specs.Asked.{Question, FromSource, BetweenPair, FromSources, Asked}
use Rattle.answer_text.specs.AnswerData.{AnswerData, SourceAnswer, PairAnswer, SourcesAnswer, FoundData, AnswerList}
use Rattle.answer_text.specs.IsAnswer.{AreVertexLines, IsPairAnswer, IsAnswer, AreAnswers, IsAnswerList}
use Rattle.batch_run.proofs.WrittenLines.{lines_are_right}

module _ {V : Type 0} (A : Algebra V) (g : GraphData) (roads : IsGraph g)
    (labelled : (sources : List ℕ) → All (HasVertex g) sources → (labels : List (Option V)) × AreBest A g sources labels)
    (planted : (sources : List ℕ) → All (HasVertex g) sources → (labels : List (Option V)) → AreBest A g sources labels →
    (t : Branches) × IsTree A g sources t × IsLinked t × ((v k : ℕ) → HasVertex g v → hops_of t v ≡ Some k → (list : List ℕ) × IsRoute t v list))
    (follows : (sources : List ℕ) (t : Branches) → IsTree A g sources t → (v : ℕ) → HasVertex g v → (list : List ℕ) → IsRoute t v list → IsParentRoute A g sources v list)
    (from_one : (s v : ℕ) (list : List ℕ) → IsParentRoute A g (s ∷ []) v list → (rest : List ℕ) × (list ≡ s ∷ rest) × IsParentChain A g (s ∷ []) s rest v) where
  lines_exist : (sources : List ℕ) → All (HasVertex g) sources → (lines : List (Option Reached)) × AreVertexLines A g sources lines
  lines_exist sources inside =
      let labels = labelled sources inside in
      let tree = planted sources inside labels.0 labels.1 in
      (written_lines A labels.0 tree.0 g.vertices, lines_are_right A g sources labels.0 tree.0 g.vertices refl labels.1 tree.1)

  -- the answer to a pair, by the label and the hops of its target
  pair_by : (s v : ℕ) (labels : List (Option V)) (t : Branches) → HasVertex g v → AreBest A g (s ∷ []) labels → IsTree A g (s ∷ []) t →
      ((k : ℕ) → hops_of t v ≡ Some k → (list : List ℕ) × IsRoute t v list) → (label : Option V) (hops : Option ℕ) → label_of labels v ≡ label → hops_of t v ≡ hops →
      (found : Option FoundData) × IsPairAnswer A g s v found
  pair_by s v labels t in_v best tree routed None hops label_is hops_is = (None, subst (IsBestLabel A g (s ∷ []) v) label_is (best.best v in_v))
  pair_by s v labels t in_v best tree routed (Some x) None label_is hops_is = (None, subst (AreHopsAt A g (s ∷ []) v) hops_is (tree.hops v in_v))
  pair_by s v labels t in_v best tree routed (Some x) (Some k) label_is hops_is =
      let list = routed k hops_is in (
        Some (record { code = A.code x; hops = k; route = list.0 }),
        record {
          code = (x, subst (IsBestLabel A g (s ∷ []) v) label_is (best.best v in_v), refl);
          hops = subst (AreHopsAt A g (s ∷ []) v) hops_is (tree.hops v in_v);
          route = from_one s v list.0 (follows (s ∷ []) t tree v in_v list.0 list.1);
        },
      )

  pair_exists : (s v : ℕ) → HasVertex g s → HasVertex g v → (found : Option FoundData) × IsPairAnswer A g s v found
  pair_exists s v in_s in_v =
      let one = All-cons (HasVertex g) s [] in_s (All-nil (HasVertex g)) in
      let labels = labelled (s ∷ []) one in
      let tree = planted (s ∷ []) one labels.0 labels.1 in
      pair_by s v labels.0 tree.0 in_v labels.1 tree.1 (λ k is. tree.3 v k in_v is) (label_of labels.0 v) (hops_of tree.0 v) refl refl

  answer_exists : (q : Question) → AsksWithin g q → (t : AnswerData) × IsAnswer A g q t
  answer_exists (FromSource s) in_s =
      let lines = lines_exist (s ∷ []) (All-cons (HasVertex g) s [] in_s (All-nil (HasVertex g))) in
      (SourceAnswer s lines.0, (refl, lines.1))
  answer_exists (BetweenPair s v) in_both = let found = pair_exists s v in_both.0 in_both.1 in (PairAnswer s v found.0, (refl, refl, found.1))
  answer_exists (FromSources ss) inside = let lines = lines_exist ss inside in (SourcesAnswer ss lines.0, (refl, lines.1))

  answers_exist : (qs : List Question) → All (AsksWithin g) qs → (ts : List AnswerData) × AreAnswers A g qs ts
  answers_exist [] within = ([], tt)
  answers_exist (q ∷ qs) within =
      let first = answer_exists q (All-head (AsksWithin g) q qs within) in
      let more = answers_exist qs (All-tail (AsksWithin g) q qs within) in
      (first.0 ∷ more.0, (first.1, more.1))

  pub list_exists : (asked : Asked) → All (AsksWithin g) asked.questions → (told : AnswerList) × IsAnswerList A g asked told
  list_exists asked within =
      let answers = answers_exist asked.questions within in
      (record { name = A.name; kind = asked.kind; n = g.vertices; list = answers.0 }, record { name_is = refl; kind_is = refl; n_is = refl; answers = answers.1 })
