-- There is one right answer at most: best values, hops, parents and routes are determined.
use Rattle.std.proofs.Common.{◌≡◌, ℕ, zero, suc, ◌+◌, ◌-◌, ◌<◌, ◌≤◌, List, [], ◌∷◌, ◌++◌, length, take, get_or, Option, Some, None, inl, inr, refl, sym, ap, ◌∙◌, subst, append_assoc, arith, drop, take-append-drop}
use Rattle.std.proofs.lemmas.List.{append_cancel_right, reverse-append, reverse-reverse}
use mathlib.Core.List.{reverse}
use Rattle.std.specs.Prelude.{Contains}
use Rattle.answer_text.proofs.Words.{GraphData, Algebra, IsLawful, AlgebraName, Kind, Reached, FoundData, AnswerData, SourceAnswer, PairAnswer, SourcesAnswer, AnswerList, IsBestCode, IsParentOrZero, IsVertexLine, AreVertexLines, IsRouteBetween, IsPairAnswer, IsAnswer, AreAnswers, IsAnswerList, answer_text, blocks_text, header_text, answers_text}
use Rattle.road_graph.proofs.Lists.{here}
use Rattle.path_algebra.specs.Walks.{IsBest, AreHops, IsParent, IsParentChain}
use Rattle.road_files.specs.Asked.{Question, FromSource, BetweenPair, FromSources, Asked}

-- the elements of a list in prefix of others, the last first
turned : List ℕ → List ℕ → List ℕ
turned acc [] = acc
turned acc (w ∷ rest) = turned (w ∷ acc) rest

turned_is : (acc rest : List ℕ) → turned acc rest ≡ reverse rest ++ acc
unfolding turned
turned_is acc [] = refl
turned_is acc (w ∷ rest) = turned_is (w ∷ acc) rest ∙ sym (append_assoc (reverse rest) (w ∷ []) acc) ∙ ap (λ z. z ++ acc) (sym (reverse-append (w ∷ []) rest))

turned_once : (acc xs ys : List ℕ) → turned acc xs ≡ turned acc ys → xs ≡ ys
turned_once acc xs ys e =
    let same : reverse xs ≡ reverse ys = append_cancel_right (reverse xs) (reverse ys) acc (sym (turned_is acc xs) ∙ e ∙ turned_is acc ys) in
    sym (reverse-reverse xs) ∙ ap (λ (zs : List ℕ). reverse zs) same ∙ reverse-reverse ys

-- the vertices before the last, the last of them first
before_last : ℕ → List ℕ → List ℕ → List ℕ
before_last u acc [] = acc
before_last u acc (w ∷ rest) = before_last w (u ∷ acc) rest

reached_once : (r t : Reached) → r.code ≡ t.code → r.hops ≡ t.hops → r.parent ≡ t.parent → r ≡ t
reached_once r t a b c =
    let f : ℕ → Reached = λ x. record { code = x; hops = r.hops; parent = r.parent } in
    let h : ℕ → Reached = λ x. record { code = t.code; hops = x; parent = r.parent } in
    let k : ℕ → Reached = λ x. record { code = t.code; hops = t.hops; parent = x } in
    ap f a ∙ ap h b ∙ ap k c

found_once : (r t : FoundData) → r.code ≡ t.code → r.hops ≡ t.hops → r.route ≡ t.route → r ≡ t
found_once r t a b c =
    let f : ℕ → FoundData = λ x. record { code = x; hops = r.hops; route = r.route } in
    let h : ℕ → FoundData = λ x. record { code = t.code; hops = x; route = r.route } in
    let k : List ℕ → FoundData = λ x. record { code = t.code; hops = t.hops; route = x } in
    ap f a ∙ ap h b ∙ ap k c

module _ {V : Type 0} (A : Algebra V) (lawful : IsLawful A) (g : GraphData) where
  best_once : (sources : List ℕ) (v : ℕ) (x y : V) → IsBest A g sources v x → IsBest A g sources v y → x ≡ y
  best_once sources v x y h k = lawful.ordered.antisymmetric x y (h.least y k.attained) (k.least x h.attained)

  pub code_once : (sources : List ℕ) (v c d : ℕ) → IsBestCode A g sources v c → IsBestCode A g sources v d → c ≡ d
  code_once sources v c d p q = p.2 ∙ ap A.code (best_once sources v p.0 q.0 p.1 q.1) ∙ sym q.2

  pub hops_once : (sources : List ℕ) (v k j : ℕ) → AreHops A g sources v k → AreHops A g sources v j → k ≡ j
  hops_once sources v k j p q = let a : k ≤ j = p.least j q.attained in let b : j ≤ k = q.least k p.attained in omega arith

  parent_once : (sources : List ℕ) (v u t : ℕ) → IsParent A g sources v u → IsParent A g sources v t → u ≡ t
  parent_once sources v u t p q = let a : u ≤ t = p.least t q.nearer in let b : t ≤ u = q.least u p.nearer in omega arith

  parent_or_zero_once : (sources : List ℕ) (v u t : ℕ) → IsParentOrZero A g sources v u → IsParentOrZero A g sources v t → u ≡ t
  parent_or_zero_once sources v u t (inl p) (inl q) = p.1 ∙ sym q.1
  parent_or_zero_once sources v u t (inl p) (inr q) = absurd (q.no_source p.0)
  parent_or_zero_once sources v u t (inr p) (inl q) = absurd (p.no_source q.0)
  parent_or_zero_once sources v u t (inr p) (inr q) = parent_once sources v u t p q

  line_once : (sources : List ℕ) (v : ℕ) (x y : Option Reached) → IsVertexLine A g sources v x → IsVertexLine A g sources v y → x ≡ y
  line_once sources v None None p q = refl
  line_once sources v None (Some r) p q = absurd (p q.code.0 q.code.1.attained)
  line_once sources v (Some r) None p q = absurd (q p.code.0 p.code.1.attained)
  line_once sources v (Some r) (Some t) p q = ap (λ (z : Reached). Some z) (reached_once r t (code_once sources v r.code t.code p.code q.code) (hops_once sources v r.hops t.hops p.hops q.hops)
      (parent_or_zero_once sources v r.parent t.parent p.parent q.parent))

  lines_from : (sources : List ℕ) (v : ℕ) (xs ys : List (Option Reached)) → length xs ≡ length ys → ((k : ℕ) → k < length xs → IsVertexLine A g sources (k + v) (get_or xs k None))
      → ((k : ℕ) → k < length ys → IsVertexLine A g sources (k + v) (get_or ys k None)) → xs ≡ ys
  lines_from sources v [] [] e p q = refl
  lines_from sources v [] (y ∷ ys) e p q = absurd (omega arith)
  lines_from sources v (x ∷ xs) [] e p q = absurd (omega arith)
  lines_from sources v (x ∷ xs) (y ∷ ys) e p q =
      let shift : (k : ℕ) → suc k + v ≡ k + suc v = λ k. omega arith in
      let first : x ≡ y = line_once sources (0 + v) x y (p 0 (omega arith)) (q 0 (omega arith)) in
      let more : xs ≡ ys = lines_from sources (suc v) xs ys (omega arith) (λ k lt. subst (λ n. IsVertexLine A g sources n (get_or xs k None)) (shift k) (p (suc k) (omega arith)))
      (λ k lt. subst (λ n. IsVertexLine A g sources n (get_or ys k None)) (shift k) (q (suc k) (omega arith))) in
      ap (λ z. z ∷ xs) first ∙ ap (λ zs. y ∷ zs) more

  line_at : (sources : List ℕ) (lines : List (Option Reached)) → AreVertexLines A g sources lines → (k : ℕ) → k < length lines → IsVertexLine A g sources (k + 1) (get_or lines k None)
  line_at sources lines are k lt =
      let count : length lines ≡ g.vertices = are.count in
      let back : (k + 1) - 1 ≡ k = omega arith in
      subst (λ i. IsVertexLine A g sources (k + 1) (get_or lines i None)) back (are.each (k + 1) (omega arith, omega arith))

  lines_once : (sources : List ℕ) (xs ys : List (Option Reached)) → AreVertexLines A g sources xs → AreVertexLines A g sources ys → xs ≡ ys
  lines_once sources xs ys p q = lines_from sources 1 xs ys (p.count ∙ sym q.count) (line_at sources xs p) (line_at sources ys q)

  module _ (s : ℕ) (sources : List ℕ) (source : Contains sources s) where
    -- each vertex of a list is the parent of the one before it, from v back to s
    abbrev IsBack : ℕ → List ℕ → Type 0
    IsBack v [] = v ≡ s
    IsBack v (u ∷ more) = IsParent A g sources v u × IsBack u more

    chain_back : (u : ℕ) (acc rest : List ℕ) (v : ℕ) → IsBack u acc → IsParentChain A g sources u rest v → IsBack v (before_last u acc rest)
    unfolding before_last
    chain_back u acc [] v h e = subst (λ k. IsBack k acc) e h
    chain_back u acc (w ∷ rest) v h c = chain_back w (u ∷ acc) rest v (c.0, h) c.1

    back_once : (v : ℕ) (xs ys : List ℕ) → IsBack v xs → IsBack v ys → xs ≡ ys
    back_once v [] [] p q = refl
    back_once v [] (t ∷ ys) p q = absurd (q.0.no_source (subst (Contains sources) (sym p) source))
    back_once v (u ∷ xs) [] p q = absurd (p.0.no_source (subst (Contains sources) (sym q) source))
    back_once v (u ∷ xs) (t ∷ ys) p q =
        let same : u ≡ t = parent_once sources v u t p.0 q.0 in
        let more : xs ≡ ys = back_once u xs ys p.1 (subst (λ k. IsBack k ys) (sym same) q.1) in
        ap (λ k. k ∷ xs) same ∙ ap (λ zs. t ∷ zs) more

    ends_turned : (u : ℕ) (acc rest : List ℕ) (v : ℕ) → IsParentChain A g sources u rest v → v ∷ before_last u acc rest ≡ turned (u ∷ acc) rest
    unfolding before_last turned
    ends_turned u acc [] v e = ap (λ k. k ∷ acc) (sym e)
    ends_turned u acc (w ∷ rest) v c = ends_turned w (u ∷ acc) rest v c.1

    -- a chain from s to v is one alone
    chain_once : (v : ℕ) (xs ys : List ℕ) → IsParentChain A g sources s xs v → IsParentChain A g sources s ys v → xs ≡ ys
    chain_once v xs ys p q =
        let same : before_last s [] xs ≡ before_last s [] ys = back_once v (before_last s [] xs) (before_last s [] ys) (chain_back s [] xs v refl p) (chain_back s [] ys v refl q) in
        turned_once (s ∷ []) xs ys (sym (ends_turned s [] xs v p) ∙ ap (λ zs. v ∷ zs) same ∙ ends_turned s [] ys v q)

  pub route_once : (s t : ℕ) (xs ys : List ℕ) → IsRouteBetween A g s t xs → IsRouteBetween A g s t ys → xs ≡ ys
  route_once s t xs ys p q = p.1 ∙ ap (λ zs. s ∷ zs) (chain_once s (s ∷ []) (here s []) t p.0 q.0 p.2 q.2) ∙ sym q.1

  pair_once : (s t : ℕ) (x y : Option FoundData) → IsPairAnswer A g s t x → IsPairAnswer A g s t y → x ≡ y
  pair_once s t None None p q = refl
  pair_once s t None (Some f) p q = absurd (p q.code.0 q.code.1.attained)
  pair_once s t (Some f) None p q = absurd (q p.code.0 p.code.1.attained)
  pair_once s t (Some f) (Some h) p q = ap (λ (z : FoundData). Some z) (found_once f h (code_once (s ∷ []) t f.code h.code p.code q.code) (hops_once (s ∷ []) t f.hops h.hops p.hops q.hops)
      (route_once s t f.route h.route p.route q.route))

  -- a question has one answer
  pub answer_once : (q : Question) (t u : AnswerData) → IsAnswer A g q t → IsAnswer A g q u → t ≡ u
  answer_once (FromSource s) (SourceAnswer r xs) (SourceAnswer o ys) p q =
      ap (λ k. SourceAnswer k xs) (p.0 ∙ sym q.0) ∙ ap (λ zs. SourceAnswer o zs) (lines_once (s ∷ []) xs ys p.1 q.1)
  answer_once (BetweenPair s t) (PairAnswer r u x) (PairAnswer o w y) p q =
      ap (λ k. PairAnswer k u x) (p.0 ∙ sym q.0) ∙ ap (λ k. PairAnswer o k x) (p.1 ∙ sym q.1) ∙ ap (λ z. PairAnswer o w z) (pair_once s t x y p.2 q.2)
  answer_once (FromSources ss) (SourcesAnswer rs xs) (SourcesAnswer os ys) p q =
      ap (λ ks. SourcesAnswer ks xs) (p.0 ∙ sym q.0) ∙ ap (λ zs. SourcesAnswer os zs) (lines_once ss xs ys p.1 q.1)
  answer_once (FromSource s) (PairAnswer r u x) t p q = absurd p
  answer_once (FromSource s) (SourcesAnswer rs xs) t p q = absurd p
  answer_once (FromSource s) (SourceAnswer r xs) (PairAnswer o w y) p q = absurd q
  answer_once (FromSource s) (SourceAnswer r xs) (SourcesAnswer os ys) p q = absurd q
  answer_once (BetweenPair s e) (SourceAnswer r xs) t p q = absurd p
  answer_once (BetweenPair s e) (SourcesAnswer rs xs) t p q = absurd p
  answer_once (BetweenPair s e) (PairAnswer r u x) (SourceAnswer o ys) p q = absurd q
  answer_once (BetweenPair s e) (PairAnswer r u x) (SourcesAnswer os ys) p q = absurd q
  answer_once (FromSources ss) (SourceAnswer r xs) t p q = absurd p
  answer_once (FromSources ss) (PairAnswer r u x) t p q = absurd p
  answer_once (FromSources ss) (SourcesAnswer rs xs) (SourceAnswer o ys) p q = absurd q
  answer_once (FromSources ss) (SourcesAnswer rs xs) (PairAnswer o w y) p q = absurd q

  -- questions have one list of answers
  pub answers_once : (qs : List Question) (ts us : List AnswerData) → AreAnswers A g qs ts → AreAnswers A g qs us → ts ≡ us
  answers_once [] [] [] p q = refl
  answers_once [] (t ∷ ts) us p q = absurd p
  answers_once [] [] (u ∷ us) p q = absurd q
  answers_once (x ∷ qs) [] us p q = absurd p
  answers_once (x ∷ qs) (t ∷ ts) [] p q = absurd q
  answers_once (x ∷ qs) (t ∷ ts) (u ∷ us) p q = ap (λ z. z ∷ ts) (answer_once x t u p.0 q.0) ∙ ap (λ zs. u ∷ zs) (answers_once qs ts us p.1 q.1)

  pub answer_list_once : (asked : Asked) (t u : AnswerList) → IsAnswerList A g asked t → IsAnswerList A g asked u → t ≡ u
  answer_list_once asked t u p q =
      let name : t.name ≡ u.name = p.name_is ∙ sym q.name_is in
      let kind : t.kind ≡ u.kind = p.kind_is ∙ sym q.kind_is in
      let n : t.n ≡ u.n = p.n_is ∙ sym q.n_is in
      let list : t.list ≡ u.list = answers_once asked.questions t.list u.list p.answers q.answers in
      let with_name : AlgebraName → AnswerList = λ x. record { name = x; kind = t.kind; n = t.n; list = t.list } in
      let with_kind : Kind → AnswerList = λ x. record { name = u.name; kind = x; n = t.n; list = t.list } in
      let with_n : ℕ → AnswerList = λ x. record { name = u.name; kind = u.kind; n = x; list = t.list } in
      let with_list : List AnswerData → AnswerList = λ x. record { name = u.name; kind = u.kind; n = u.n; list = x } in
      ap with_name name ∙ ap with_kind kind ∙ ap with_n n ∙ ap with_list list

module _ {V : Type 0} (A : Algebra V) (g : GraphData) where
  -- the first answers answer the first questions
  pub first_answers : (count : ℕ) (qs : List Question) (ts : List AnswerData) → AreAnswers A g qs ts → AreAnswers A g (take count qs) (take count ts)
  first_answers zero qs ts h = tt
  first_answers (suc k) [] [] h = tt
  first_answers (suc k) [] (t ∷ ts) h = absurd h
  first_answers (suc k) (q ∷ qs) [] h = absurd h
  first_answers (suc k) (q ∷ qs) (t ∷ ts) h = (h.0, first_answers k qs ts h.1)

  -- there are as many answers as questions
  pub answers_count : (qs : List Question) (ts : List AnswerData) → AreAnswers A g qs ts → length ts ≡ length qs
  answers_count [] [] h = refl
  answers_count [] (t ∷ ts) h = absurd h
  answers_count (q ∷ qs) [] h = absurd h
  answers_count (q ∷ qs) (t ∷ ts) h = ap suc (answers_count qs ts h.1)

pub blocks_split : (ts us : List AnswerData) → blocks_text (ts ++ us) ≡ blocks_text ts ++ blocks_text us
blocks_split [] us = refl
blocks_split (t ∷ ts) us = ap (λ y. answer_text t ++ y) (blocks_split ts us) ∙ sym (append_assoc (answer_text t) (blocks_text ts) (blocks_text us))

module _ {V : Type 0} (A : Algebra V) (lawful : IsLawful A) (g : GraphData) where
  pub first_answers_text : (asked : Asked) (count : ℕ) (ts : List AnswerData) (all : AnswerList) → AreAnswers A g (take count asked.questions) ts → IsAnswerList A g asked all
      → (rest : List ℕ) × (answers_text all ≡ (header_text asked.kind (length asked.questions) A.name ++ blocks_text ts) ++ rest)
  first_answers_text asked count ts all are is =
      let same : ts ≡ take count all.list = answers_once A lawful g (take count asked.questions) ts (take count all.list) are (first_answers A g count asked.questions all.list is.answers) in
      let head : header_text all.kind (length all.list) all.name ≡ header_text asked.kind (length asked.questions) A.name =
      ap (λ k. header_text k (length all.list) all.name) is.kind_is ∙ ap (λ n. header_text asked.kind n all.name) (answers_count A g asked.questions all.list is.answers)
      ∙ ap (λ x. header_text asked.kind (length asked.questions) x) is.name_is in
      let rest : List ℕ = blocks_text (drop count all.list) in
      let blocks : blocks_text all.list ≡ blocks_text ts ++ rest =
      ap blocks_text (sym (take-append-drop count all.list)) ∙ blocks_split (take count all.list) (drop count all.list) ∙ ap (λ xs. blocks_text xs ++ rest) (sym same) in (
        rest,
        ap (λ x. x ++ blocks_text all.list) head ∙ ap (λ y. header_text asked.kind (length asked.questions) A.name ++ y) blocks
            ∙ sym (append_assoc (header_text asked.kind (length asked.questions) A.name) (blocks_text ts) rest),
      )
