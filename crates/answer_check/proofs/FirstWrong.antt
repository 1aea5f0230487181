-- The first place of the first answer that is wrong is the first place of the list; a list that is
-- wrong nowhere is right.
use Rattle.std.proofs.Common.{◌≡◌, ℕ, zero, suc, ◌+◌, ◌-◌, ◌<◌, ◌≤◌, ◌⊎◌, inl, inr, List, [], ◌∷◌, length, map, get_or, refl, ap, sym, ◌∙◌, subst, arith, Option, Some, None, ◌↔◌, All, slice_get, option_map}
use Rattle.answer_check.proofs.Words.{common_steps, length-map, GraphData, IsGraph, HasVertex, same_some, Algebra, IsLawful, all_inside, asked_of, of_source, of_pair, of_list, Place, Reason, Reached, IsJudgedAt, Mismatch, NotBest, NoParent, OtherHops, LesserParent, HasWalk, OtherRoute, reason_number, IsLineRefused}
use Rattle.road_files.specs.Asked.{Question}
use Rattle.answer_text.specs.AnswerData.{AnswerData}
use Rattle.answer_text.proofs.OneAnswer.{answers_count}
use Rattle.answer_check.specs.declared.verdict.Verdict.TheVariants.{Valid, Invalid}
use Rattle.answer_check.proofs.Words.{FromSource, BetweenPair, FromSources, Asked}
use Rattle.road_files.specs.Asked.{AskWithin}
use Rattle.answer_check.proofs.Words.{AnswerList}
use Rattle.answer_text.specs.AnswerData.{SourceAnswer, PairAnswer, SourcesAnswer}
use Rattle.std.proofs.lemmas.List.Elements.{All-cons, All-nil, All-map, All-contains}
use Rattle.std.proofs.lemmas.Option.{slice_get_within, slice_get-get_or, slice_get-map, slice_get_read, get_or_from_slice_get}
use Rattle.road_files.specs.declared.questions.Questions.{Questions}
use Rattle.road_files.specs.declared.questions.Questions.TheVariants as variants
use Rattle.answer_text.specs.IsAnswer.{AreVertexLines, IsAnswer, AreAnswers, IsAnswerList}
use Rattle.answer_check.specs.declared.verdict.Verdict.{Verdict}
use Rattle.answer_check.specs.Verdicts.{HasHeader, Names, IsRefusedAt, IsWrongIn, IsWrong, IsEarlier, IsFirstWrong, IsVerdict}
use Rattle.answer_check.proofs.Certified.{lines_are_certified}
use Rattle.answer_check.proofs.FirstPlaces.{certified_not_refused}
use Rattle.answer_check.proofs.PairsJudged.{pair_not_refused}

number_above : (r : Reason) → 1 ≤ reason_number r
number_above Mismatch = omega arith
number_above NotBest = omega arith
number_above NoParent = omega arith
number_above OtherHops = omega arith
number_above LesserParent = omega arith
number_above HasWalk = omega arith
number_above OtherRoute = omega arith

none_earlier : (v : ℕ) (r : Reason) → IsEarlier v r 0 Mismatch → ⊥
none_earlier v r (inl h) = omega (arith, h)
none_earlier v r (inr h) = omega (arith, number_above r, h.1)

-- the question asks of the graph's vertices
abbrev pub AsksOf : GraphData → Question → Type 0
AsksOf g (FromSource s) = HasVertex g s
AsksOf g (BetweenPair s t) = HasVertex g s × HasVertex g t
AsksOf g (FromSources ss) = All (HasVertex g) ss

mapped_at : {X Y : Type 0} (P : Y → Type 0) (f : X → Y) (xs : List X) → All (λ x. P (f x)) xs → (k : ℕ) (y : Y) → slice_get (map f xs) k ≡ Some y → P y
mapped_at P f xs all k y e =
    All-contains P (map f xs) y (All-map P f xs all) (k, slice_get_within (map f xs) k y e, get_or_from_slice_get (map f xs) k y y e)

pub question_at : (qs : List Question) (i : ℕ) → i < length qs → (q : Question) × (slice_get qs i ≡ Some q)
question_at qs i lt = (get_or qs i (FromSource 0), slice_get-get_or qs i (FromSource 0) lt)

pub mapped_read : {X Y : Type 0} (f : X → Y) (xs : List X) (i : ℕ) (x : X) → x ≡ get_or xs i x → i < length xs → slice_get (map f xs) i ≡ Some (f x)
mapped_read f xs i x is lt = slice_get-map f xs i ∙ ap (option_map f) (slice_get_read xs (length xs) i x refl lt is)

-- what is at a place of a list that was mapped
pub mapped_is : {X Y : Type 0} (f : X → Y) (xs : List X) (k : ℕ) (x : X) (y : Y) → x ≡ get_or xs k x → slice_get (map f xs) k ≡ Some y → f x ≡ y
mapped_is f xs k x y is e =
    same_some (slice_get (map f xs) k) (f x) y (mapped_read f xs k x is (omega (arith, slice_get_within (map f xs) k y e, length-map xs f))) e

pub asks_of : (g : GraphData) (questions : Questions) → AskWithin g.vertices questions → (k : ℕ) (q : Question) → slice_get (asked_of questions).questions k ≡ Some q → AsksOf g q
asks_of g (variants.Sources vs) within k q e = mapped_at (AsksOf g) of_source vs.items within k q e
asks_of g (variants.Pairs ps) within k q e = mapped_at (AsksOf g) of_pair ps.items within k q e
asks_of g (variants.Multi ls) within k q e = mapped_at (AsksOf g) of_list ls.items (λ i d lt. (within i d lt).vertices) k q e

module _ {V : Type 0} (A : Algebra V) (g : GraphData) where
  -- in an answer that names its question, only vertices are wrong
  pub named_judged : (q : Question) (t : AnswerData) → Names g q t → (o : Option Place) → IsJudgedAt (IsAnswer A g q t) (IsRefusedAt A g q t) o → IsJudgedAt (IsAnswer A g q t) (IsWrongIn A g q t) o
  named_judged q t named None right = right
  named_judged q t named (Some p) h = (inr h.0, λ v r earlier w. elim w [ inl k ↦ k.2 named | inr k ↦ h.1 v r earlier k ])

  pub source_judged : (s r : ℕ) (lines : List (Option Reached)) → r ≡ s → length lines ≡ g.vertices → (o : Option Place) →
      IsJudgedAt (AreVertexLines A g (s ∷ []) lines) (λ v reason. HasVertex g v × IsLineRefused A g (s ∷ []) lines v reason) o →
      IsJudgedAt (IsAnswer A g (FromSource s) (SourceAnswer r lines)) (IsWrongIn A g (FromSource s) (SourceAnswer r lines)) o
  source_judged s r lines e n None h = (e, h)
  source_judged s r lines e n (Some p) h = named_judged (FromSource s) (SourceAnswer r lines) (e, n) (Some p) h

  pub sources_judged : (ss rs : List ℕ) (lines : List (Option Reached)) → rs ≡ ss → length lines ≡ g.vertices → (o : Option Place) →
      IsJudgedAt (AreVertexLines A g ss lines) (λ v reason. HasVertex g v × IsLineRefused A g ss lines v reason) o →
      IsJudgedAt (IsAnswer A g (FromSources ss) (SourcesAnswer rs lines)) (IsWrongIn A g (FromSources ss) (SourcesAnswer rs lines)) o
  sources_judged ss rs lines e n None h = (e, h)
  sources_judged ss rs lines e n (Some p) h = named_judged (FromSources ss) (SourcesAnswer rs lines) (e, n) (Some p) h

  names_answer : (q : Question) (t : AnswerData) → IsAnswer A g q t → Names g q t
  names_answer (FromSource s) (SourceAnswer r lines) h = (h.0, h.1.count)
  names_answer (BetweenPair s u) (PairAnswer r v found) h = (h.0, h.1)
  names_answer (FromSources ss) (SourcesAnswer rs lines) h = (h.0, h.1.count)
  names_answer q t h = h

  -- the right answers to the questions up to a number
  abbrev pub AreRightUpTo : List Question → List AnswerData → ℕ → Type 0
  AreRightUpTo qs ts n = (k : ℕ) → k < n → (q : Question) (t : AnswerData) → slice_get qs k ≡ Some q → slice_get ts k ≡ Some t → IsAnswer A g q t

  module _ (lawful : IsLawful A) (roads : IsGraph g) where
    not_refused_at : (q : Question) (t : AnswerData) → AsksOf g q → IsAnswer A g q t → (v : ℕ) (r : Reason) → IsRefusedAt A g q t v r → ⊥
    not_refused_at (FromSource s) (SourceAnswer k lines) asks right v r h =
        let in_s = all_inside g (s ∷ []) (All-cons (HasVertex g) s [] asks (All-nil (HasVertex g))) in
        certified_not_refused A lawful g lines (s ∷ []) v ((lines_are_certified A lawful g roads (s ∷ []) in_s lines right.1).each v h.0) r h.1
    not_refused_at (BetweenPair s u) (PairAnswer k w found) asks right v r h = pair_not_refused A lawful g s u found r right.2 h.1
    not_refused_at (FromSources ss) (SourcesAnswer rs lines) asks right v r h =
        certified_not_refused A lawful g lines ss v ((lines_are_certified A lawful g roads ss (all_inside g ss asks) lines right.1).each v h.0) r h.1
    not_refused_at q t asks right v r h = h

    -- nothing is wrong in the right answer
    not_wrong : (q : Question) (t : AnswerData) → AsksOf g q → IsAnswer A g q t → (v : ℕ) (r : Reason) → IsWrongIn A g q t v r → ⊥
    not_wrong q t asks right v r (inl h) = h.2 (names_answer q t right)
    not_wrong q t asks right v r (inr h) = not_refused_at q t asks right v r h

    right_more : (qs : List Question) (ts : List AnswerData) (n : ℕ) → AreRightUpTo qs ts n →
        ((q : Question) (t : AnswerData) → slice_get qs n ≡ Some q → slice_get ts n ≡ Some t → IsAnswer A g q t) → (k : ℕ) → k < n + 1 → k ≤ n →
        (k ≡ n) ⊎ (k < n) → (q : Question) (t : AnswerData) → slice_get qs k ≡ Some q → slice_get ts k ≡ Some t → IsAnswer A g q t
    right_more qs ts n before here k lt le (inl same) q t e f = here q t (subst (λ (j : ℕ). slice_get qs j ≡ Some q) same e) (subst (λ (j : ℕ). slice_get ts j ≡ Some t) same f)
    right_more qs ts n before here k lt le (inr less) q t e f = before k less q t e f

    pub one_right_more : (qs : List Question) (ts : List AnswerData) (n : ℕ) (q : Question) (t : AnswerData) → AreRightUpTo qs ts n → slice_get qs n ≡ Some q →
        slice_get ts n ≡ Some t → IsAnswer A g q t → AreRightUpTo qs ts (n + 1)
    one_right_more qs ts n q t before e f right k lt = grind (arith, common_steps, right_more, same_some)

    are_answers : (qs : List Question) (ts : List AnswerData) → length ts ≡ length qs →
        ((k : ℕ) (q : Question) (t : AnswerData) → slice_get qs k ≡ Some q → slice_get ts k ≡ Some t → IsAnswer A g q t) → AreAnswers A g qs ts
    are_answers [] [] n each = tt
    are_answers [] (t ∷ ts) n each = absurd (omega (arith, n))
    are_answers (q ∷ qs) [] n each = absurd (omega (arith, n))
    are_answers (q ∷ qs) (t ∷ ts) n each = (each 0 q t refl refl, are_answers qs ts (omega (arith, n)) (λ k p u e f. each (suc k) p u e f))

    -- all answers are right, and the header is
    pub list_is_right : (asked : Asked) (told : AnswerList) → HasHeader A g asked told → AreRightUpTo asked.questions told.list (length told.list) → IsAnswerList A g asked told
    list_is_right asked told header all = grind (arith, common_steps, are_answers, slice_get_within)

    answer_at : (qs : List Question) (ts : List AnswerData) → AreAnswers A g qs ts → (k : ℕ) (q : Question) (t : AnswerData) → slice_get qs k ≡ Some q → slice_get ts k ≡ Some t → IsAnswer A g q t
    answer_at [] ts h k q t e f = let bad : None ≡ Some q = e in absurd (cc)
    answer_at (p ∷ qs) [] h k q t e f = let bad : None ≡ Some t = f in absurd (cc)
    answer_at (p ∷ qs) (u ∷ ts) h zero q t e f =
        let a : p ≡ q = cc in
        let b : u ≡ t = cc in
        subst (λ (z : AnswerData). IsAnswer A g q z) b (subst (λ (z : Question). IsAnswer A g z u) a h.0)
    answer_at (p ∷ qs) (u ∷ ts) h (suc k) q t e f = answer_at qs ts h.1 k q t e f

    header_of : (asked : Asked) (told : AnswerList) → IsAnswerList A g asked told → HasHeader A g asked told
    header_of asked told right = record { name_is = right.name_is; kind_is = right.kind_is; n_is = right.n_is; count = answers_count A g asked.questions told.list right.answers }

    module _ (asked : Asked) (told : AnswerList) (asks : (k : ℕ) (q : Question) → slice_get asked.questions k ≡ Some q → AsksOf g q) where
      -- a right list is wrong nowhere
      right_not_wrong : IsAnswerList A g asked told → (question v : ℕ) (r : Reason) → IsWrong A g asked told question v r → ⊥
      right_not_wrong right question v r (inl h) = h.3 (header_of asked told right)
      right_not_wrong right question v r (inr h) =
          let w = h.1 in
          not_wrong w.0 w.1 (asks (question - 1) w.0 w.2) (answer_at asked.questions told.list right.answers (question - 1) w.0 w.1 w.2 w.3) v r w.4

      -- only a right list is called valid
      pub valid_exactly : (verdict : Verdict) → IsVerdict A g asked told verdict → IsAnswerList A g asked told → verdict ≡ Valid
      valid_exactly Valid h right = refl
      valid_exactly (Invalid question v r) h right = absurd (right_not_wrong right question v r h.wrong)

      -- a verdict is valid exactly where the list is right
      pub both_clauses : (verdict : Verdict) → IsVerdict A g asked told verdict → verdict ≡ Valid ↔ IsAnswerList A g asked told
      both_clauses verdict h = (λ e. subst (IsVerdict A g asked told) e h, valid_exactly verdict h)

      -- a wrong header comes first
      pub header_first : (HasHeader A g asked told → ⊥) → IsFirstWrong A g asked told 0 0 Mismatch
      header_first other = record {
        wrong = inl (refl, refl, refl, other);
        first = λ p u r before h. elim before [ inl lt ↦ omega (arith, lt) | inr same ↦ none_earlier u r same.1 ];
      }

      -- the first place in the first wrong answer
      pub answer_first : HasHeader A g asked told → (i : ℕ) (q : Question) (t : AnswerData) → AreRightUpTo asked.questions told.list i → slice_get asked.questions i ≡ Some q →
          slice_get told.list i ≡ Some t →
          (p : Place) → IsJudgedAt (IsAnswer A g q t) (IsWrongIn A g q t) (Some p) → IsFirstWrong A g asked told (i + 1) p.vertex p.reason
      answer_first header i q t before e f p h =
          let back : (i + 1) - 1 ≡ i = omega arith in
          record {
            wrong = inr (
              omega arith,
              (q, t, subst (λ (j : ℕ). slice_get asked.questions j ≡ Some q) (sym back) e, subst (λ (j : ℕ). slice_get told.list j ≡ Some t) (sym back) f, h.0),
            );
            first = λ n u r earlier w. elim w [
              | inl k ↦ k.3 header
              | inr k ↦ elim earlier [
                | inl less ↦
                    let x = k.1 in
                    not_wrong x.0 x.1 (asks (n - 1) x.0 x.2) (before (n - 1) (omega (arith, k.0, less)) x.0 x.1 x.2 x.3) u r x.4
                | inr same ↦
                    let x = k.1 in
                    let at : n - 1 ≡ i = omega (arith, same.0) in
                    let qs : q ≡ x.0 = same_some (slice_get asked.questions i) q x.0 e (subst (λ (j : ℕ). slice_get asked.questions j ≡ Some x.0) at x.2) in
                    let ts : t ≡ x.1 = same_some (slice_get told.list i) t x.1 f (subst (λ (j : ℕ). slice_get told.list j ≡ Some x.1) at x.3) in
                    h.1 u r same.1 (subst (λ (z : Question). IsWrongIn A g z t u r) (sym qs) (subst (λ (z : AnswerData). IsWrongIn A g x.0 z u r) (sym ts) x.4))
              ]
            ];
          }
