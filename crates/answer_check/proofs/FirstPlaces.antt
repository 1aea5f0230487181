-- The first place that a pass over marked lines finds is the first where the answer is wrong; where
-- it finds none, the answer is right.
use Rattle.std.proofs.Common.{◌≡◌, ℕ, ◌+◌, inl, inr, List, ap, ◌∙◌, subst, arith, Option, Some, None, zero, suc, ◌-◌, ◌<◌, ◌≤◌, ◌^◌, min, Bool, true, false, [], ◌∷◌, length, refl, sym, IsTrue, Contains, ◌↔◌, option_map}
use Rattle.answer_check.proofs.Words.{common_steps, GraphData, IsGraph, HasVertex, same_some, Algebra, IsLawful, label_of, is_marked, Reached, Reason, first_true, Place, IsMarkedRight, TellsRefused, IsJudgedAt, IsFirstNumber, Mismatch, NotBest, NoParent, OtherHops, LesserParent, HasWalk, Offers, Gives, IsRefuted, IsLineRefused, reason_number, IsSupported, IsRightLine, IsCertifiedAt, AreVertexLines, IsEarlier}
use Rattle.std.specs.List.{range_with_len, AllZip}
use Rattle.answer_check.specs.Marked.{IsMarkedRefused}
use Rattle.answer_check.proofs.Certified.{code_of_one, lines_are_right}

module _ {V : Type 0} (A : Algebra V) (lawful : IsLawful A) (g : GraphData) (lines : List (Option Reached)) where
  -- what gives the line's value offers the value that supports it
  gives_support : (u v : ℕ) (near r : Reached) (sup : IsSupported A g lines v r) → Gives A g lines u v near r → Offers A g lines u v near sup.value
  gives_support u v near r sup gives = subst (λ (y : V). Offers A g lines u v near y) (code_of_one A lawful r.code gives.0 sup.value gives.1 sup.code_is) gives.2

  pub not_refused : (v : ℕ) (l : Option Reached) (reason : Reason) → IsRightLine A g lines v l → IsRefuted A g lines v l reason → ⊥
  not_refused v None HasWalk right h = right h.0 h.1 h.2 h.3
  not_refused v (Some r) NotBest sup h =
      let b = h.2 in
      let same = code_of_one A lawful r.code sup.value h.0 sup.code_is h.1 in
      b.4 (subst (λ (y : V). IsTrue (A.no_worse y b.2)) same (sup.not_beaten b.0 b.1 b.2 b.3))
  not_refused v (Some r) NoParent sup h = h sup.near (sup.value, sup.code_is, sup.from_parent)
  not_refused v (Some r) OtherHops sup (inl h) =
      let same : h.0 ≡ sup.near = same_some (label_of lines r.parent) h.0 sup.near h.1.2.line_is sup.from_parent.line_is in
      h.2 (ap (λ (q : Reached). q.hops + 1) same ∙ sup.hops_are)
  not_refused v (Some r) OtherHops sup (inr h) =
      omega (arith, sup.not_nearer h.0 h.1 (gives_support h.0 v h.1 r sup h.2), h.3)
  not_refused v (Some r) LesserParent sup h =
      omega (arith, sup.not_lesser h.0 h.1 (gives_support h.0 v h.1 r sup h.2) h.4, h.3)
  not_refused v l reason right h = h

  module _ (sources : List ℕ) (v : ℕ) where
    pub certified_not_refused : IsCertifiedAt A g sources lines v → (reason : Reason) → IsLineRefused A g sources lines v reason → ⊥
    certified_not_refused (inl s) Mismatch h = h.1 s.1
    certified_not_refused (inl s) reason h = h.0 s.0
    certified_not_refused (inr n) Mismatch h = n.0 h.0
    certified_not_refused (inr n) reason h = not_refused v (label_of lines v) reason n.1 h.1

module _ (R : ℕ → Bool → Type 0) where
  -- the first of the numbers from a on
  abbrev IsFirstFrom : ℕ → ℕ → Option ℕ → Type 0
  IsFirstFrom a n = IsFirstNumber n (λ k. R (a + k))

  moved : (m k : ℕ) (b : Bool) → m ≡ k → R m b → R k b
  moved m k b same h = subst (λ (x : ℕ). R x b) same h

  none_from : (a n k : ℕ) → R a false → ((j : ℕ) → j < n → R ((a + 1) + j) false) → k < suc n → R (a + k) false
  none_from a n zero h rest lt = moved a (a + 0) false (omega arith) h
  none_from a n (suc k) h rest lt = moved ((a + 1) + k) (a + suc k) false (omega arith) (rest k (omega (arith, lt)))

  one_later : (a n : ℕ) (o : Option ℕ) → n < 2 ^ 64 - 1 → R a false → IsFirstFrom (a + 1) n o → IsFirstFrom a (suc n) (option_map (λ k. min (k + 1) (2 ^ 64 - 1)) o)
  one_later a n None short h rest = λ k lt. none_from a n k h rest lt
  one_later a n (Some i) short h rest =
      let low = rest.0 in
      let next : suc i ≡ min (i + 1) (2 ^ 64 - 1) = omega (arith, low, short) in
      let found : IsFirstFrom a (suc n) (Some (suc i)) = (omega (arith, low), moved ((a + 1) + i) (a + suc i) true (omega arith) rest.1, λ k lt. none_from a i k h rest.2 lt) in
      subst (λ (j : ℕ). IsFirstFrom a (suc n) (Some j)) next found

  first_from : (a n : ℕ) (bs : List Bool) → n < 2 ^ 64 → AllZip R (range_with_len a n) bs → IsFirstNumber n (λ k. R (a + k)) (first_true bs)
  first_from a zero [] short z = λ k lt. absurd (omega (arith, lt))
  first_from a (suc n) (true ∷ bs) short z = (omega arith, moved a (a + 0) true (omega arith) z.0, λ k lt. absurd (omega (arith, lt)))
  first_from a (suc n) (false ∷ bs) short z = one_later a n (first_true bs) (omega (arith, short)) z.0 (first_from (a + 1) n bs (omega (arith, short)) z.1)
  first_from a n bs short z = absurd z

  first_of : (n : ℕ) (o : Option ℕ) → IsFirstFrom 0 n o → IsFirstNumber n R o
  first_of n None h = λ k lt. moved (0 + k) k false (omega arith) (h k lt)
  first_of n (Some i) h = (h.0, moved (0 + i) i true (omega arith) h.1, λ k lt. moved (0 + k) k false (omega arith) (h.2 k lt))

  pub first_number : (n : ℕ) (xs : List ℕ) (bs : List Bool) → n < 2 ^ 64 → xs ≡ range_with_len 0 (n - 0) → AllZip R xs bs → IsFirstNumber n R (first_true bs)
  first_number n xs bs short is z =
      let whole : n - 0 ≡ n = omega arith in
      first_of n (first_true bs) (first_from 0 n bs short (subst (λ (ys : List ℕ). AllZip R ys bs) (is ∙ ap (range_with_len 0) whole) z))

module _ {V : Type 0} (A : Algebra V) (lawful : IsLawful A) (g : GraphData) (lines : List (Option Reached)) where
  pub marked_not_refused : (v : ℕ) (b : Bool) (r : Reason) → IsMarkedRight A g lines v b → IsMarkedRefused A g lines v b r → ⊥
  marked_not_refused v true Mismatch e h = h e
  marked_not_refused v false r right h = not_refused A lawful g lines v (label_of lines v) r right h
  marked_not_refused v b r e h = h

  module _ (marks : List Bool) (i : ℕ) (before : (k : ℕ) → k < i → TellsRefused A g lines marks (k + 1) false) where
    -- the first reason at the first vertex is the first place
    pub first_there : (v : ℕ) (reason : Reason) → v ≡ i + 1 →
        ((s : Reason) → reason_number s < reason_number reason → IsMarkedRefused A g lines v (is_marked marks v) s → ⊥) →
        (u : ℕ) (r : Reason) → IsEarlier u r v reason → HasVertex g u × IsMarkedRefused A g lines u (is_marked marks u) r → ⊥
    first_there v reason is first u r (inl less) h = grind (arith, common_steps, marked_not_refused)
    first_there v reason is first u r (inr same) h =
        first r same.1 (subst (λ (w : ℕ). IsMarkedRefused A g lines w (is_marked marks w) r) same.0 h.1)

    pub first_place_is : i < g.vertices → (reason : Reason) → (IsMarkedRefused A g lines (i + 1) (is_marked marks (i + 1)) reason
        × ((s : Reason) → reason_number s < reason_number reason → IsMarkedRefused A g lines (i + 1) (is_marked marks (i + 1)) s → ⊥)) → (v : ℕ) → v ≡ i + 1 →
        (HasVertex g v × IsMarkedRefused A g lines v (is_marked marks v) reason)
        × ((u : ℕ) (r : Reason) → IsEarlier u r v reason → HasVertex g u × IsMarkedRefused A g lines u (is_marked marks u) r → ⊥)
    first_place_is lt reason h v is =
        let first : (s : Reason) → reason_number s < reason_number reason → IsMarkedRefused A g lines v (is_marked marks v) s → ⊥ =
        λ s low k. h.1 s low (subst (λ (w : ℕ). IsMarkedRefused A g lines w (is_marked marks w) s) is k) in (
          ((omega (arith, is), omega (arith, is, lt)), subst (λ (w : ℕ). IsMarkedRefused A g lines w (is_marked marks w) reason) (sym is) h.0),
          first_there v reason is first,
        )

  no_mismatch : (v : ℕ) (l : Option Reached) → IsRefuted A g lines v l Mismatch → ⊥
  no_mismatch v None h = h
  no_mismatch v (Some r) h = h

  module _ (sources : List ℕ) (v : ℕ) where
    refused_by_mark : (b : Bool) (r : Reason) → (b ≡ true → Contains sources v) → (Contains sources v → b ≡ true) → IsMarkedRefused A g lines v b r → IsLineRefused A g sources lines v r
    refused_by_mark true Mismatch is of h = (is refl, h)
    refused_by_mark false Mismatch is of h = absurd (no_mismatch v (label_of lines v) h)
    refused_by_mark true reason is of h = absurd h
    refused_by_mark false reason is of h = (λ s. let bad : false ≡ true = of s in cc, h)

    marked_by_refused : (b : Bool) (r : Reason) → (b ≡ true → Contains sources v) → (Contains sources v → b ≡ true) → IsLineRefused A g sources lines v r → IsMarkedRefused A g lines v b r
    marked_by_refused true Mismatch is of h = h.1
    marked_by_refused false Mismatch is of h = let bad : false ≡ true = of h.0 in absurd (cc)
    marked_by_refused true reason is of h = h.0 (is refl)
    marked_by_refused false reason is of h = h.1

    certified_by_mark : (b : Bool) → (b ≡ true → Contains sources v) → (Contains sources v → b ≡ true) → IsMarkedRight A g lines v b → IsCertifiedAt A g sources lines v
    certified_by_mark true is of h = inl (is refl, h)
    certified_by_mark false is of h = inr (λ s. let bad : false ≡ true = of s in cc, h)

  module _ (roads : IsGraph g) (sources : List ℕ) (in_s : (s : ℕ) → Contains sources s → HasVertex g s) (count : length lines ≡ g.vertices) (marks : List Bool)
      (marked : (v : ℕ) → 1 ≤ v → v ≤ g.vertices → IsTrue (is_marked marks v) ↔ Contains sources v) where
    -- a verdict on marked lines is one on the lines from these sources
    pub lines_judged : (o : Option Place) → IsJudgedAt ((v : ℕ) → HasVertex g v → IsMarkedRight A g lines v (is_marked marks v))
        (λ v r. HasVertex g v × IsMarkedRefused A g lines v (is_marked marks v) r) o →
        IsJudgedAt (AreVertexLines A g sources lines) (λ v r. HasVertex g v × IsLineRefused A g sources lines v r) o
    lines_judged None right = lines_are_right A lawful g roads sources in_s lines (record {
      count = count;
      each = λ v in_v. let m = marked v in_v.0 in_v.1 in certified_by_mark sources v (is_marked marks v) m.0 m.1 (right v in_v);
    })
    lines_judged (Some p) h =
        let in_p = h.0.0 in
        let m = marked p.vertex in_p.0 in_p.1 in (
          (in_p, refused_by_mark sources p.vertex (is_marked marks p.vertex) p.reason m.0 m.1 h.0.1),
          λ v r earlier k.
              let in_v = k.0 in
              let n = marked v in_v.0 in_v.1 in
              h.1 v r earlier (in_v, marked_by_refused sources v (is_marked marks v) r n.0 n.1 k.1),
        )
