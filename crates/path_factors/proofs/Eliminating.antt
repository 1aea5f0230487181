-- The elimination of a place, edge by edge.
use Rattle.path_factors.proofs.Words.{◌≡◌, ℕ, ◌+◌, ◌<◌, ◌≤◌, inl, inr, Bool, true, is_on, List, length, get_or, refl, ap, sym, ◌∙◌, subst, arith, Contains, cases_eq, cases_lt, get_or_default, get_or-map, length-map, IsOrder, Composition, Link, Edge, FactorData, IsStrictlyIncreasing, heads_in, head_at, row_heads_count, Rises, Falls, LeadsNoWorse, IsClosedOn, KeepsRest, row_of, Improves, rising, falling, AreAligned, IsEdgeAt, AreJoined, Algebra, AreHeads, GraphData, IsBegun, IsComposition, IsLinkUnder, vertex_at}
use Rattle.path_factors.proofs.Connecting.{still_leads, improves_none, improves_more, improves_lower, rest_more, stays_closed, worth_above, worth_of_both}
use Rattle.path_factors.proofs.HeadRows.{head_of_link, rises_between}

-- the edge at index i was joined with those after it, up to index j, and only such rows were changed
pub record Passed {V W : Type 0} (C : Composition V W) (Is : ℕ → Type 0) (v i : ℕ) (F G : FactorData W) (j : ℕ) : Type 0 where
  pub improves : Improves C (v + 1) F G
  pub rest : KeepsRest Is F G
  pub joined : (q : ℕ) (e f : Edge W) → i < q → q < j → IsEdgeAt F v i e → IsEdgeAt F v q f → AreJoined C G e f

-- those of the first i edges of v whose heads are marked were joined with each after them
pub record Eliminated {V W : Type 0} (C : Composition V W) (marks : List Bool) (v : ℕ) (F G : FactorData W) (i : ℕ) : Type 0 where
  pub improves : Improves C (v + 1) F G
  pub rest : KeepsRest (λ z. is_on marks z ≡ true) F G
  pub joined : (p q : ℕ) (e f : Edge W) → p < i → p < q → IsEdgeAt F v p e → IsEdgeAt F v q f → is_on marks e.place ≡ true → AreJoined C G e f

-- each place below k was eliminated
pub record EliminatedTo {V W : Type 0} (C : Composition V W) (marks : List Bool) (F G : FactorData W) (k : ℕ) : Type 0 where
  pub improves : Improves C 0 F G
  pub rest : KeepsRest (λ z. is_on marks z ≡ true) F G
  pub closed : (v : ℕ) → v < k → IsClosedOn C marks G v

module _ {W : Type 0} where
  -- the same edge in the same rows
  pub edge_same : (F G : FactorData W) (v j : ℕ) (e : Edge W) → row_of G.leaving v ≡ row_of F.leaving v →
      row_of G.entering v ≡ row_of F.entering v → IsEdgeAt F v j e → IsEdgeAt G v j e
  edge_same F G v j e up down at = record {
    leaving_inside = let lt = at.leaving_inside in let n = ap length up in omega (arith, lt, n);
    entering_inside = let lt = at.entering_inside in let n = ap length down in omega (arith, lt, n);
    rises = ap (λ (r : List (Link W)). get_or r j (rising e)) up ∙ at.rises;
    falls = ap (λ (r : List (Link W)). get_or r j (falling e)) down ∙ at.falls;
  }

  -- the links of an edge
  pub edge_rises : (F : FactorData W) (v j : ℕ) (e : Edge W) → IsEdgeAt F v j e → Rises F v e.place e.leaving
  edge_rises F v j e at = (j, at.leaving_inside, at.rises)

  pub edge_falls : (F : FactorData W) (v j : ℕ) (e : Edge W) → IsEdgeAt F v j e → Falls F e.place v e.entering
  edge_falls F v j e at = (j, at.entering_inside, at.falls)

  -- one index has one edge
  pub edge_unique : (F : FactorData W) (v j : ℕ) (e f : Edge W) → IsEdgeAt F v j e → IsEdgeAt F v j f → e ≡ f
  edge_unique F v j e f at also =
      let up : rising e ≡ rising f =
      sym at.rises ∙ get_or_default (row_of F.leaving v) j (rising e) (rising f) at.leaving_inside ∙ also.rises in
      let down : falling e ≡ falling f =
      sym at.falls ∙ get_or_default (row_of F.entering v) j (falling e) (falling f) at.entering_inside ∙ also.falls in
      λ i. record { place = (up i).place; leaving = (up i).walk; entering = (down i).walk }

  -- rows that are aligned have the same place at an index
  module _ (F : FactorData W) (aligned : AreAligned F.leaving F.entering) (v : ℕ) where
    pub aligned_count : length (row_of F.leaving v) ≡ length (row_of F.entering v)
    aligned_count =
        let n = length-map (row_of F.leaving v) (λ k. k.place) in
        let m = length-map (row_of F.entering v) (λ k. k.place) in
        omega (arith, n, m, ap length (aligned v))

    pub aligned_place : (j : ℕ) (d c : Link W) → j < length (row_of F.leaving v) →
        (get_or (row_of F.leaving v) j d).place ≡ (get_or (row_of F.entering v) j c).place
    aligned_place j d c lt =
        sym (get_or-map (λ k. k.place) (row_of F.leaving v) j d 0 lt)
        ∙ ap (λ (r : List ℕ). get_or r j 0) (aligned v)
        ∙ get_or-map (λ k. k.place) (row_of F.entering v) j c 0 (omega (arith, lt, aligned_count))

    edge_at : (j : ℕ) (d : Link W) → j < length (row_of F.leaving v) → (e : Edge W) × IsEdgeAt F v j e
    edge_at j d lt =
        let k = get_or (row_of F.leaving v) j d in
        let l = get_or (row_of F.entering v) j d in
        let low : j < length (row_of F.entering v) = omega (arith, lt, aligned_count) in
        let link : record { place = k.place; walk = l.walk } ≡ l = λ i. record { place = (aligned_place j d d lt) i; walk = l.walk } in (
          record { place = k.place; leaving = k.walk; entering = l.walk },
          record {
            leaving_inside = lt;
            entering_inside = low;
            rises = get_or_default (row_of F.leaving v) j k d lt;
            falls = get_or_default (row_of F.entering v) j (record { place = k.place; walk = l.walk }) d low ∙ sym link;
          },
        )

    -- the edge of a link
    pub edge_of_riser : (y : ℕ) (b : W) (h : Rises F v y b) → (e : Edge W) × IsEdgeAt F v h.0 e × (rising e ≡ record { place = y; walk = b })
    edge_of_riser y b h =
        let k : Link W = record { place = y; walk = b } in
        let e = edge_at h.0 k h.1 in
        (e.0, e.1, sym e.1.rises ∙ get_or_default (row_of F.leaving v) h.0 (rising e.0) k h.1 ∙ h.2)

    pub edge_of_faller : (x : ℕ) (a : W) (h : Falls F x v a) → (e : Edge W) × IsEdgeAt F v h.0 e × (falling e ≡ record { place = x; walk = a })
    edge_of_faller x a h =
        let k : Link W = record { place = x; walk = a } in
        let e = edge_at h.0 k (omega (arith, h.1, aligned_count)) in
        (e.0, e.1, sym e.1.falls ∙ get_or_default (row_of F.entering v) h.0 (falling e.0) k h.1 ∙ h.2)

-- what two edges of a place make at their ends is worth walks under the first of these
pub joined_worth : {V W : Type 0} (A : Algebra V) (C : Composition V W) → IsComposition A C → (g : GraphData) (F : FactorData W) →
    AreHeads g.vertices (heads_in F.leaving) → IsBegun A C g F → (v : ℕ) (e f : Edge W) → (i : ℕ) × IsEdgeAt F v i e → (j : ℕ) × IsEdgeAt F v j f →
    IsLinkUnder A C g F e.place e.place f.place (C.compose e.entering f.leaving) × IsLinkUnder A C g F e.place f.place e.place (C.compose f.entering e.leaving)
joined_worth {W = W} A C composes g F are begun v e f first second =
    let H = heads_in F.leaving in
    let head = head_of_link F.leaving v (rising e) (edge_rises F v first.0 e first.1) in
    let up : (x y : ℕ) (a : W) → IsLinkUnder A C g F v x y a → IsLinkUnder A C g F e.place x y a =
    λ x y a worth. worth_above A C g H F.places are v e.place (vertex_at F x) (vertex_at F y) a head worth in
    let both : (x y : ℕ) (a b : W) → IsLinkUnder A C g F v x v a → IsLinkUnder A C g F v v y b → IsLinkUnder A C g F e.place x y (C.compose a b) =
    λ x y a b one two. worth_of_both A C g H F.places composes e.place (vertex_at F x) (vertex_at F v) (vertex_at F y) a b (up x v a one) (up v y b two) in (
      both e.place f.place e.entering f.leaving (begun.falling e.place v e.entering (edge_falls F v first.0 e first.1)) (begun.rising v f.place f.leaving (edge_rises F v second.0 f second.1)),
      both f.place e.place f.entering e.leaving (begun.falling f.place v f.entering (edge_falls F v second.0 f second.1)) (begun.rising v e.place e.leaving (edge_rises F v first.0 e first.1)),
    )

module _ {V W : Type 0} (C : Composition V W) (ordered : IsOrder C.no_worse) where
  still_joined : (low : ℕ) (F G : FactorData W) → Improves C low F G → (e f : Edge W) → AreJoined C F e f → AreJoined C G e f
  still_joined low F G improves e f joined = λ other. (
    still_leads C ordered low F G improves e.place f.place (C.compose e.entering f.leaving) (joined other).0,
    still_leads C ordered low F G improves f.place e.place (C.compose f.entering e.leaving) (joined other).1,
  )

  module _ (v : ℕ) where
    pub passed_none : (Is : ℕ → Type 0) (i : ℕ) (F : FactorData W) → Passed C Is v i F F (i + 1)
    passed_none Is i F = record {
      improves = improves_none C ordered (v + 1) F;
      rest = λ z other. (refl, refl);
      joined = λ q e f less low at also. absurd (omega (arith, less, low));
    }

    -- the row of v stays the same
    pub edge_kept : (F G : FactorData W) → Improves C (v + 1) F G → (j : ℕ) (e : Edge W) → IsEdgeAt F v j e → IsEdgeAt G v j e
    edge_kept F G improves j e at =
        edge_same F G v j e (improves.leaving v (omega arith)) (improves.entering v (omega arith)) at

    pub edge_back : (F G : FactorData W) → Improves C (v + 1) F G → (j : ℕ) (e : Edge W) → IsEdgeAt G v j e → IsEdgeAt F v j e
    edge_back F G improves j e at =
        edge_same G F v j e (sym (improves.leaving v (omega arith))) (sym (improves.entering v (omega arith))) at

    pub passed_more : (Is : ℕ → Type 0) (i : ℕ) (F G H : FactorData W) (j : ℕ) (first second : Edge W) → Passed C Is v i F G j →
        IsEdgeAt F v i first → IsEdgeAt G v j second → Improves C (v + 1) G H → KeepsRest Is G H → AreJoined C H first second →
        Passed C Is v i F H (j + 1)
    passed_more Is i F G H j first second done at_i at_j improves rest joined = record {
      improves = improves_more C ordered (v + 1) F G H done.improves improves;
      rest = rest_more Is F G H done.rest rest;
      joined = λ q e f less low at also. elim (cases_lt q j) [
        | inl before ↦ still_joined (v + 1) G H improves e f (done.joined q e f less before at also)
        | inr not_before ↦
            let is : q ≡ j = omega (arith, not_before, low) in
            let here : IsEdgeAt F v j f = subst (λ (k : ℕ). IsEdgeAt F v k f) is also in
            let two = edge_unique F v j second f (edge_back F G done.improves j second at_j) here in
            subst (λ (k : Edge W). AreJoined C H k f) (edge_unique F v i first e at_i at) (subst (λ (k : Edge W). AreJoined C H first k) two joined)
      ];
    }

    pub eliminated_more : (marks : List Bool) (F G H : FactorData W) (i : ℕ) → Eliminated C marks v F G i → Improves C (v + 1) G H →
        KeepsRest (λ z. is_on marks z ≡ true) G H →
        ((j : ℕ) (e f : Edge W) → i < j → IsEdgeAt G v i e → IsEdgeAt G v j f → is_on marks e.place ≡ true → AreJoined C H e f) →
        Eliminated C marks v F H (i + 1)
    eliminated_more marks F G H i done improves rest passed = record {
      improves = improves_more C ordered (v + 1) F G H done.improves improves;
      rest = rest_more (λ z. is_on marks z ≡ true) F G H done.rest rest;
      joined = λ p q e f low less at also on. elim (cases_lt p i) [
        | inl before ↦ still_joined (v + 1) G H improves e f (done.joined p q e f before less at also on)
        | inr not_before ↦
            let is : p ≡ i = omega (arith, not_before, low) in
            let here : IsEdgeAt F v i e = subst (λ (k : ℕ). IsEdgeAt F v k e) is at in
            passed q e f (omega (arith, is, less)) (edge_kept F G done.improves i e here) (edge_kept F G done.improves q f also) on
      ];
    }

    pub eliminated_all : (marks : List Bool) (F G : FactorData W) → AreAligned F.leaving F.entering → IsStrictlyIncreasing (row_of (heads_in F.leaving) v) → (i : ℕ) →
        Eliminated C marks v F G i → length (row_of F.leaving v) ≤ i → IsClosedOn C marks G v
    eliminated_all marks F G aligned up i done all = λ x y a b falls rises other on.
        let before : Falls F x v a = subst (λ (r : List (Link W)). Contains r (record { place = x; walk = a })) (done.improves.entering v (omega arith)) falls in
        let onward : Rises F v y b = subst (λ (r : List (Link W)). Contains r (record { place = y; walk = b })) (done.improves.leaving v (omega arith)) rises in
        let e = edge_of_faller F aligned v x a before in
        let f = edge_of_riser F aligned v y b onward in
        let from : e.0.place ≡ x = ap (λ (l : Link W). l.place) e.2 in
        let to : f.0.place ≡ y = ap (λ (l : Link W). l.place) f.2 in
        let apart : e.0.place ≡ f.0.place → ⊥ = λ is. other (sym from ∙ is ∙ to) in
        let ascends : (p q : ℕ) (c d : Edge W) → p < q → IsEdgeAt F v p c → IsEdgeAt F v q d → c.place < d.place =
        λ p q c d less at also.
        let n = row_heads_count F.leaving v in
        let one = head_at F.leaving v p (rising c) at.leaving_inside at.rises in
        let two = head_at F.leaving v q (rising d) also.leaving_inside also.rises in
        let h = rises_between (row_of (heads_in F.leaving) v) up p q less (omega (arith, n, also.leaving_inside)) in
        omega (arith, h, one, two) in
        let leads : LeadsNoWorse C G e.0.place f.0.place (C.compose e.0.entering f.0.leaving) =
        elim (cases_lt before.0 onward.0) [
          | inl less ↦
              let lesser = ascends before.0 onward.0 e.0 f.0 less e.1 f.1 in
              let marked = subst (λ (z : ℕ). is_on marks z ≡ true) (sym from) (on.0 (omega (arith, lesser, from, to))) in
              (done.joined before.0 onward.0 e.0 f.0 (omega (arith, e.1.leaving_inside, all)) less e.1 f.1 marked apart).0
          | inr not_less ↦ elim (cases_eq before.0 onward.0) [
            | inl is ↦
                let here : IsEdgeAt F v onward.0 e.0 = subst (λ (k : ℕ). IsEdgeAt F v k e.0) is e.1 in
                absurd (apart (ap (λ (k : Edge W). k.place) (edge_unique F v onward.0 e.0 f.0 here f.1)))
            | inr differ ↦
                let less : onward.0 < before.0 = omega (arith, not_less, differ) in
                let lesser = ascends onward.0 before.0 f.0 e.0 less f.1 e.1 in
                let marked = subst (λ (z : ℕ). is_on marks z ≡ true) (sym to) (on.1 (omega (arith, lesser, from, to))) in
                (done.joined onward.0 before.0 f.0 e.0 (omega (arith, f.1.leaving_inside, all)) less f.1 e.1 marked (λ is. apart (sym is))).1
          ]
        ] in
        subst (λ (l : Link W). LeadsNoWorse C G l.place y (C.compose l.walk b)) e.2
        (subst (λ (l : Link W). LeadsNoWorse C G e.0.place l.place (C.compose e.0.entering l.walk)) f.2 leads)

  pub eliminated_to_more : (marks : List Bool) (F G H : FactorData W) (k : ℕ) → EliminatedTo C marks F G k → Improves C (k + 1) G H →
      KeepsRest (λ z. is_on marks z ≡ true) G H → IsClosedOn C marks H k → EliminatedTo C marks F H (k + 1)
  eliminated_to_more marks F G H k done improves rest closed = record {
    improves = improves_more C ordered 0 F G H done.improves (improves_lower C ordered (k + 1) 0 G H (omega arith) improves);
    rest = rest_more (λ z. is_on marks z ≡ true) F G H done.rest rest;
    closed = λ v low. elim (cases_lt v k) [
      | inl before ↦ stays_closed C ordered marks (k + 1) G H improves v low (done.closed v before)
      | inr not_before ↦
          let at_k : v ≡ k = omega (arith, not_before, low) in
          subst (λ (u : ℕ). IsClosedOn C marks H u) (sym at_k) closed
    ];
  }
