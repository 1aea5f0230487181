-- The sources that are still to come, and how many questions have.
use Rattle.batch_run.proofs.Words.{zero, suc, ◌≡◌, ℕ, ◌<◌, ◌≤◌, ◌+◌, ◌-◌, List, [], ◌∷◌, ◌++◌, length, get_or, take, drop, refl, sym, ap, ◌∙◌, subst, append_assoc, arith, min, All, flat_map, flat_map-cons, Questions}
use Rattle.std.proofs.Math.Seq.{drop-cons, drop-append_seam, take-append-add}
use Rattle.std.proofs.lemmas.Grind.{common_steps}
use Rattle.std.proofs.lemmas.List.{take_more, take_all, take_min, length-take, drop-append-le, flat_map_more, length-append, get_or-map}
use Rattle.std.proofs.lemmas.List.Elements.{All-nil, All-append, All-drop, All-head, All-tail}
use Rattle.road_files.specs.Asked.{AskWithin, IsVertexOf, Question, FromSource, asked_of, of_source, of_pair, of_list, sources_of}
use Rattle.road_files.specs.declared.questions.Questions.TheVariants as variants
use Rattle.road_files.proofs.QuestionLaws.{any_of, asked_within, in_sources, in_pairs, in_lists}
use Rattle.batch_run.specs.Diffusions.{HasSource, IsNextSource, sources_to_come}

-- the sources of question i
abbrev pub sources_at : List Question → ℕ → List ℕ
sources_at qs i = sources_of (get_or qs i (FromSource 0))

-- the rest of a list from an element of its prefix on
drop_next : (xs ys zs : List ℕ) (j x : ℕ) → xs ≡ ys ++ zs → j < length ys → x ≡ get_or ys j x → drop j xs ≡ x ∷ drop (j + 1) xs
drop_next xs ys zs j x e low is =
    let inside : j < length xs = grind (arith, common_steps) in
    let here : get_or xs j x ≡ x = grind (arith, common_steps) in
    let next : suc j ≡ j + 1 = omega arith in
    drop-cons xs j x inside ∙ ap (λ (y : ℕ). y ∷ drop (suc j) xs) here ∙ ap (λ (n : ℕ). x ∷ drop n xs) next

-- of a list of which only so much is kept, only so much need be kept before more is added
take_again : (w : ℕ) (xs ys : List ℕ) → take w (take w xs ++ ys) ≡ take w (xs ++ ys)
take_again zero xs ys = refl
take_again (suc w) [] ys = refl
take_again (suc w) (x ∷ xs) ys = ap (λ (l : List ℕ). x ∷ l) (take_again w xs ys)

-- a list that was filled up
pub filled : (xs ys : List ℕ) (w few : ℕ) → length xs ≤ w → few ≡ min (w - length xs) (length ys) → xs ++ take few ys ≡ take w (xs ++ ys)
filled xs ys w few low is =
    let all : length xs + (w - length xs) ≡ w = omega arith in
    ap (λ (n : ℕ). xs ++ take n ys) is ∙ ap (λ (l : List ℕ). xs ++ l) (take_min (w - length xs) ys) ∙ sym (take-append-add xs ys (w - length xs)) ∙ ap (λ (n : ℕ). take n (xs ++ ys)) all

pub kept_few : (xs ys : List ℕ) (w : ℕ) → xs ≡ take w ys → length xs ≤ w
kept_few xs ys w e = let many = ap (λ (l : List ℕ). length l) e in omega (arith, many, length-take {A = ℕ})

-- of the sources that are to come from source j of question i on, so many at most, these are the
-- first, and those from question k on follow
abbrev pub AreCollected : List Question → (w i j k : ℕ) → List ℕ → Type 0
AreCollected qs w i j k xs = take w (xs ++ flat_map sources_of (drop k qs)) ≡ take w (sources_to_come qs i j)

module _ (qs : List Question) where
  -- those from a question on are its own, and those from the next question on
  from_question : (i : ℕ) (d : Question) → i < length qs → flat_map sources_of (drop i qs) ≡ sources_of (get_or qs i d) ++ flat_map sources_of (drop (i + 1) qs)
  from_question i d low =
      let next : suc i ≡ i + 1 = omega arith in
      ap (flat_map sources_of) (drop-cons qs i d low) ∙ flat_map-cons sources_of (get_or qs i d) (drop (suc i) qs) ∙ ap (λ (n : ℕ). sources_of (get_or qs i d) ++ flat_map sources_of (drop n qs)) next

  -- the next is the source at this place
  pub next_to_come : (i j source : ℕ) (d : Question) → HasSource qs i j → source ≡ get_or (sources_of (get_or qs i d)) j source → IsNextSource qs i j source
  unfolding sources_to_come
  next_to_come i j source d has is =
      drop_next (flat_map sources_of (drop i qs)) (sources_of (get_or qs i d)) (flat_map sources_of (drop (i + 1) qs)) j source (from_question i d has.question) (has.source d) is

  -- after the last source of a question comes the next question
  pub question_over : (i j : ℕ) (d : Question) → i < length qs → j ≡ length (sources_of (get_or qs i d)) → sources_to_come qs i j ≡ sources_to_come qs (i + 1) 0
  unfolding sources_to_come
  question_over i j d low is =
      ap (λ (n : ℕ). drop n (flat_map sources_of (drop i qs))) is ∙ ap (drop (length (sources_of (get_or qs i d)))) (from_question i d low)
      ∙ drop-append_seam (sources_of (get_or qs i d)) (flat_map sources_of (drop (i + 1) qs))

  -- by a list of the sources of a question
  module _ (i : ℕ) (place : i < length qs) (xs : List ℕ) (are : (d : Question) → xs ≡ sources_of (get_or qs i d)) where
    pub has_source : (j : ℕ) → j < length xs → HasSource qs i j
    has_source j low = record { question = place; source = λ d. subst (λ (l : List ℕ). j < length l) (are d) low }

    pub next_source : (j source : ℕ) → j < length xs → source ≡ get_or xs j source → IsNextSource qs i j source
    next_source j source low is = next_to_come i j source (FromSource 0) (has_source j low) (is ∙ ap (λ (l : List ℕ). get_or l j source) (are (FromSource 0)))

    pub sources_over : (j : ℕ) → j ≡ length xs → sources_to_come qs i j ≡ sources_to_come qs (i + 1) 0
    sources_over j is = question_over i j (FromSource 0) place (is ∙ ap (λ (l : List ℕ). length l) (are (FromSource 0)))

  -- there is a next one
  pub has_next : (i j : ℕ) (d : Question) → HasSource qs i j → (source : ℕ) × IsNextSource qs i j source
  has_next i j d has =
      let s = any_of (sources_of (get_or qs i d)) j (has.source d) in
      let x = get_or (sources_of (get_or qs i d)) j s in
      let is : x ≡ get_or (sources_of (get_or qs i d)) j x = grind (arith, common_steps) in
      (x, next_to_come i j x d has is)

  pub some_to_come : (i j : ℕ) (d : Question) → HasSource qs i j → 1 ≤ length (sources_to_come qs i j)
  some_to_come i j d has = let e = ap (λ (l : List ℕ). length l) (has_next i j d has).1 in omega (arith, e)

  module _ (w i j : ℕ) where
    -- those of the first question
    pub first_collected : (d : Question) → HasSource qs i j → (xs : List ℕ) → xs ≡ take w (drop j (sources_of (get_or qs i d))) → AreCollected qs w i j (i + 1) xs
    unfolding sources_to_come
    first_collected d has xs is =
        let own = sources_of (get_or qs i d) in
        let after = flat_map sources_of (drop (i + 1) qs) in
        let low : j ≤ length own = let h = has.source d in omega (arith, h) in
        ap (λ (l : List ℕ). take w (l ++ after)) is ∙ take_again w (drop j own) after ∙ ap (take w) (sym (drop-append-le j own after low) ∙ ap (drop j) (sym (from_question i d has.question)))

    module _ (k : ℕ) (xs : List ℕ) (were : AreCollected qs w i j k xs) where
      -- those of one question more
      pub more_collected : (d : Question) → k < length qs → (ys : List ℕ) → ys ≡ take w (xs ++ sources_of (get_or qs k d)) → AreCollected qs w i j (k + 1) ys
      more_collected d low ys is =
          let own = sources_of (get_or qs k d) in
          let after = flat_map sources_of (drop (k + 1) qs) in
          ap (λ (l : List ℕ). take w (l ++ after)) is ∙ take_again w (xs ++ own) after ∙ ap (take w) (append_assoc xs own after ∙ ap (λ (l : List ℕ). xs ++ l) (sym (from_question k d low))) ∙ were

  -- how many the first questions have, with one question more
  pub counted_more : (i n m : ℕ) (d : Question) → i < length qs → n ≡ length (flat_map sources_of (take i qs)) → m ≡ n + length (sources_of (get_or qs i d)) →
      m ≡ length (flat_map sources_of (take (i + 1) qs))
  counted_more i n m d low was is =
      let own = sources_of (get_or qs i d) in
      let before = flat_map sources_of (take i qs) in
      is ∙ ap (λ (c : ℕ). c + length own) was ∙ sym (length-append before own) ∙ ap (λ (l : List ℕ). length l)
      (flat_map_more sources_of [] (take i qs) (get_or qs i d) ∙ ap (flat_map sources_of) (sym (take_more qs i d low)))

  pub counted_all : (i n : ℕ) → length qs ≤ i → n ≡ length (flat_map sources_of (take i qs)) → n ≡ length (flat_map sources_of qs)
  counted_all i n over was = was ∙ ap (λ (l : List Question). length (flat_map sources_of l)) (take_all i qs over)

all_flat : {X : Type 0} (P : ℕ → Type 0) (f : X → List ℕ) (xs : List X) → All (λ x. All P (f x)) xs → All P (flat_map f xs)
all_flat P f [] h = All-nil P
all_flat P f (x ∷ xs) h = rw flat_map-cons (All-append P (f x) (flat_map f xs) (All-head (λ y. All P (f y)) x xs h) (all_flat P f xs (All-tail (λ y. All P (f y)) x xs h)))

-- all that are to come are vertices of the graph
pub to_come_within : (n : ℕ) (q : Questions) (i j : ℕ) → AskWithin n q → All (IsVertexOf n) (sources_to_come (asked_of q).questions i j)
unfolding sources_to_come
to_come_within n q i j w =
    let qs = (asked_of q).questions in
    All-drop (IsVertexOf n) j (flat_map sources_of (drop i qs))
    (all_flat (IsVertexOf n) sources_of (drop i qs) (All-drop (λ (x : Question). All (IsVertexOf n) (sources_of x)) i qs (λ k d low. (asked_within n q k w low d).1)))

-- a question has some sources
pub some_sources : (n : ℕ) (q : Questions) (i : ℕ) → AskWithin n q → i < length (asked_of q).questions → (xs : List ℕ) →
    ((d : Question) → xs ≡ sources_of (get_or (asked_of q).questions i d)) → 1 ≤ length xs
some_sources n q i w low xs are = subst (λ (l : List ℕ). 1 ≤ length l) (sym (are (FromSource 0))) (asked_within n q i w low (FromSource 0)).0

-- and at most 1,024
pub few_sources : (n : ℕ) (q : Questions) (i : ℕ) → AskWithin n q → i < length (asked_of q).questions → (d : Question) → length (sources_of (get_or (asked_of q).questions i d)) ≤ 1024
few_sources n (variants.Sources vs) i w low d =
    subst (λ (y : Question). length (sources_of y) ≤ 1024) (sym (get_or-map of_source vs.items i 0 d (in_sources (variants.Sources vs) i vs refl low))) (omega arith)
few_sources n (variants.Pairs ps) i w low d =
    subst (λ (y : Question). length (sources_of y) ≤ 1024) (sym (get_or-map of_pair ps.items i (0, 0) d (in_pairs (variants.Pairs ps) i ps refl low))) (omega arith)
few_sources n (variants.Multi ls) i w low d =
    let at = in_lists (variants.Multi ls) i ls refl low in
    let one = any_of ls.items i at in
    subst (λ (y : Question). length (sources_of y) ≤ 1024) (sym (get_or-map of_list ls.items i one d at)) (w i one at).few
