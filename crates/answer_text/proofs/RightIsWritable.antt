-- Right answers have the sizes of the format: they are written, and read again.
use Rattle.answer_text.proofs.Words.{◌≡◌, ℕ, ◌+◌, ◌-◌, ◌<◌, ◌≤◌, ◌^◌, List, [], ◌∷◌, length, Option, Some, None, Ok, inl, inr, sym, ap, subst, arith, AllByRecursion, GraphData, IsGraph, HasVertex, Algebra, IsLawful, AreHops, IsParent, IsParentChain, text_read, Kind, Sources, Pairs, Multi, Questions, Reached, answer_rules, answers_text, IsBestCode, IsParentOrZero, IsVertexLine, AreVertexLines, IsRouteBetween, IsPairAnswer, IsAnswer, AreAnswers, IsAnswerList, FoundData, AnswerData, SourceAnswer, PairAnswer, SourcesAnswer, AnswerList}
use Rattle.std.proofs.lemmas.List.{get_or_default}
use Rattle.std.proofs.lemmas.List.Elements.{recursion_from_All}
use Rattle.std.specs.Prelude.{All, get_or}
use Rattle.road_graph.proofs.Lists.{only_element}
use Rattle.path_algebra.proofs.Walks.{walk_value_is_value}
use Rattle.graph_text.specs.Vertices.{IsVertexOf}
use Rattle.road_files.specs.Asked.{Question, FromSource, BetweenPair, FromSources, asked_of, AreQuestionsOf}
use Rattle.road_files.proofs.QuestionLaws.{IsQuestionOf, questions_of}
use Rattle.answer_text.specs.Writable.{AreSmall, IsLineWritable, AreLinesWritable, IsFoundWritable, IsAnswerWritable, AreWritable}
use Rattle.answer_text.proofs.FewHops.{few_hops}
use Rattle.answer_text.proofs.OneAnswer.{answers_count}
use Rattle.answer_text.proofs.ReadAgain.{written_again}

small_vertices : (n : ℕ) (vs : List ℕ) → n ≤ 2 ^ 25 → AllByRecursion (IsVertexOf n) vs → AreSmall vs
small_vertices n [] small h = tt
small_vertices n (v ∷ vs) small h = ((let b = h.0.1 in omega (arith, b)), small_vertices n vs small h.1)

module _ {V : Type 0} (A : Algebra V) (lawful : IsLawful A) (g : GraphData) (roads : IsGraph g) where
  small_code : (sources : List ℕ) (v code : ℕ) → IsBestCode A g sources v code → code < 2 ^ 64
  small_code sources v code c =
      subst (λ k. k < 2 ^ 64) (sym c.2) (lawful.code_fits c.0 (walk_value_is_value A lawful g roads sources v c.0 c.1.attained))

  parent_in : (sources : List ℕ) (v u : ℕ) → IsParent A g sources v u → HasVertex g u × HasVertex g v
  parent_in sources v u p =
      let near = p.nearer in
      let ends = roads.ends near.0 near.1.arc in
      (subst (HasVertex g) near.2 ends.0, subst (HasVertex g) near.3 ends.1)

  small_parent : (sources : List ℕ) (v u : ℕ) → IsParentOrZero A g sources v u → u < 2 ^ 32
  small_parent sources v u (inl p) = let e = p.1 in omega (arith, e)
  small_parent sources v u (inr p) =
      let few = roads.few_vertices in
      let b = (parent_in sources v u p).0.1 in omega (arith, few, b)

  small_hops : (sources : List ℕ) → All (HasVertex g) sources → (v k : ℕ) → HasVertex g v → AreHops A g sources v k → k < 2 ^ 32
  small_hops sources inside v k in_g h =
      let few = roads.few_vertices in
      let b = few_hops A g roads sources inside v k in_g h in omega (arith, few, b)

  line_fits : (sources : List ℕ) → All (HasVertex g) sources → (v : ℕ) (x : Option Reached) → HasVertex g v → IsVertexLine A g sources v x → IsLineWritable x
  line_fits sources inside v None in_g h = tt
  line_fits sources inside v (Some r) in_g h =
      (small_code sources v r.code h.code, small_hops sources inside v r.hops in_g h.hops, small_parent sources v r.parent h.parent)

  lines_fit : (sources : List ℕ) → All (HasVertex g) sources → (lines : List (Option Reached)) → AreVertexLines A g sources lines → AreLinesWritable g.vertices lines
  lines_fit sources inside lines are = record {
    count = are.count;
    sizes = recursion_from_All IsLineWritable lines (λ k d lt.
        let count = are.count in
        let back : (k + 1) - 1 ≡ k = omega arith in
        let in_g : HasVertex g (k + 1) = (omega arith, omega (arith, count, lt)) in
        let line = subst (λ i. IsVertexLine A g sources (k + 1) (get_or lines i None)) back (are.each (k + 1) in_g) in
        subst IsLineWritable (get_or_default lines k None d lt) (line_fits sources inside (k + 1) (get_or lines k None) in_g line));
  }

  one_inside : (s : ℕ) → HasVertex g s → All (HasVertex g) (s ∷ [])
  one_inside s h = λ k d lt. subst (HasVertex g) (only_element s (get_or (s ∷ []) k d) (k, lt, get_or_default (s ∷ []) k (get_or (s ∷ []) k d) d lt)) h

  small_chain : (sources : List ℕ) (u : ℕ) (rest : List ℕ) (v : ℕ) → IsParentChain A g sources u rest v → AreSmall rest
  small_chain sources u [] v c = tt
  small_chain sources u (w ∷ rest) v c = (
    (let few = roads.few_vertices in let b = (parent_in sources w u c.0).1.1 in omega (arith, few, b)),
    small_chain sources w rest v c.1,
  )

  route_fits : (s t : ℕ) (route : List ℕ) → HasVertex g s → IsRouteBetween A g s t route → (1 ≤ length route) × AreSmall route
  route_fits s t route in_g h =
      let few = roads.few_vertices in
      let b = in_g.1 in
      subst (λ (l : List ℕ). (1 ≤ length l) × AreSmall l) (sym h.1) (omega arith, (omega (arith, few, b), small_chain (s ∷ []) s h.0 t h.2))

  found_fits : (s t : ℕ) (f : Option FoundData) → HasVertex g s → HasVertex g t → IsPairAnswer A g s t f → IsFoundWritable f
  found_fits s t None in_s in_t h = tt
  found_fits s t (Some f) in_s in_t h =
      let route = route_fits s t f.route in_s h.route in
      (small_code (s ∷ []) t f.code h.code, small_hops (s ∷ []) (one_inside s in_s) t f.hops in_t h.hops, route.0, route.1)

  answer_fits : (kind : Kind) (q : Question) (t : AnswerData) → IsQuestionOf g.vertices kind q → IsAnswer A g q t → IsAnswerWritable kind g.vertices t
  answer_fits Sources (FromSource s) (SourceAnswer r lines) q h =
      let few = roads.few_vertices in
      let b = q.1 in
      let e = h.0 in
      (omega (arith, few, b, e), lines_fit (s ∷ []) (one_inside s q) lines h.1)
  answer_fits Pairs (BetweenPair s t) (PairAnswer r u found) q h =
      let few = roads.few_vertices in
      let b = q.0.1 in
      let c = q.1.1 in
      let e = h.0 in
      let f = h.1 in
      (omega (arith, few, b, e), omega (arith, few, c, f), found_fits s t found q.0 q.1 h.2)
  answer_fits Multi (FromSources ss) (SourcesAnswer rs lines) q h =
      let few = q.few in
      let some = q.some in
      let long : length rs ≡ length ss = ap length h.0 in (
        omega (arith, some, long),
        omega (arith, few, long),
        subst AreSmall (sym h.0) (small_vertices g.vertices ss roads.few_vertices (recursion_from_All (IsVertexOf g.vertices) ss q.vertices)),
        lines_fit ss q.vertices lines h.1,
      )
  answer_fits kind (FromSource s) (PairAnswer r u f) q h = absurd h
  answer_fits kind (FromSource s) (SourcesAnswer rs l) q h = absurd h
  answer_fits kind (BetweenPair s t) (SourceAnswer r l) q h = absurd h
  answer_fits kind (BetweenPair s t) (SourcesAnswer rs l) q h = absurd h
  answer_fits kind (FromSources ss) (SourceAnswer r l) q h = absurd h
  answer_fits kind (FromSources ss) (PairAnswer r u f) q h = absurd h
  answer_fits Sources (BetweenPair s t) (PairAnswer r u f) q h = absurd q
  answer_fits Sources (FromSources ss) (SourcesAnswer rs l) q h = absurd q
  answer_fits Pairs (FromSource s) (SourceAnswer r l) q h = absurd q
  answer_fits Pairs (FromSources ss) (SourcesAnswer rs l) q h = absurd q
  answer_fits Multi (FromSource s) (SourceAnswer r l) q h = absurd q
  answer_fits Multi (BetweenPair s t) (PairAnswer r u f) q h = absurd q

  answers_fit : (kind : Kind) (qs : List Question) (ts : List AnswerData) → AllByRecursion (IsQuestionOf g.vertices kind) qs → AreAnswers A g qs ts →
      AllByRecursion (IsAnswerWritable kind g.vertices) ts
  answers_fit kind [] [] q h = tt
  answers_fit kind [] (t ∷ ts) q h = absurd h
  answers_fit kind (x ∷ qs) [] q h = absurd h
  answers_fit kind (x ∷ qs) (t ∷ ts) q h = (answer_fits kind x t q.0 h.0, answers_fit kind qs ts q.1 h.1)

  pub right_is_writable : (q : Questions) (t : AnswerList) → AreQuestionsOf g.vertices q → IsAnswerList A g (asked_of q) t → AreWritable t
  right_is_writable q t fit is =
      let few = fit.few in
      let small = roads.few_vertices in
      let count = answers_count A g (asked_of q).questions t.list is.answers in
      let n = is.n_is in
      let all = answers_fit (asked_of q).kind (asked_of q).questions t.list (questions_of g.vertices q fit.within) is.answers in
      record {
        few = omega (arith, few, count);
        vertices = omega (arith, small, n);
        answers = subst (λ kind. AllByRecursion (IsAnswerWritable kind t.n) t.list) (sym is.kind_is)
            (subst (λ k. AllByRecursion (IsAnswerWritable (asked_of q).kind k) t.list) (sym is.n_is) all);
      }

  -- the right answers to questions are read again
  pub right_again : (q : Questions) (t : AnswerList) → AreQuestionsOf g.vertices q → IsAnswerList A g (asked_of q) t → length (answers_text t) ≤ 4294967296 →
      text_read (answer_rules t.n) (answers_text t) ≡ Ok t
  right_again q t fit is short = written_again t (right_is_writable q t fit is) short
