-- One arc of the vertex that is being settled, and then all of them.
use Rattle.path_plain.proofs.Words.{◌≡◌, ℕ, ◌<◌, ◌≤◌, List, [], ◌∷◌, length, get_or, refl, ap, sym, subst, ◌∙◌, arith, Option, suc, ◌-◌, ◌⊎◌, inl, inr, Bool, Some, None, get_or-set_same, get_or-set_other, length-set, Algebra, IsOrder, IsLawful, cases_eq, cases_Bool, IsTrue, All, head_or_tail, same_no_worse, other_no_worse}
use Rattle.std.proofs.lemmas.List.{get_or-map, length-map, get_or_default}
use Rattle.road_graph.specs.GraphData.{GraphData, IsGraph, HasVertex, ListsRoadsFrom, arc_of, road_of, roads_of, HasArc}
use Rattle.path_algebra.specs.Walks.{offered_if, relaxed, IsWalkValue, IsNotImproving, label_of, improved, offered}
use Rattle.road_graph.specs.declared.OutRoad.{OutRoad}
use Rattle.path_plain.proofs.Waiting.{out_short}
use Rattle.path_algebra.proofs.Walks.{IsWalkValue-extend, walk_value_is_value, all_inside}
use Rattle.path_plain.proofs.Known.{IsSettled, Search}

-- the labels after x was extended along each road of a list
abbrev pub relaxed_by_roads : {V : Type 0} → Algebra V → V → List (Option V) → List OutRoad → List (Option V)
relaxed_by_roads A x labels [] = labels
relaxed_by_roads A x labels (r ∷ roads) = relaxed_by_roads A x (offered_if A.no_worse labels r.head (A.extend x r.weight)) roads

pub relaxed_is : {V : Type 0} (A : Algebra V) (g : GraphData) (x : V) (labels : List (Option V)) (numbers : List ℕ) → relaxed A g x labels numbers ≡ relaxed_by_roads A x labels (roads_of g numbers)
relaxed_is A g x labels [] = refl
relaxed_is A g x labels (a ∷ numbers) = relaxed_is A g x (offered_if A.no_worse labels (arc_of g a).head (A.extend x (arc_of g a).weight)) numbers

-- heads are vertices
pub head_in : (g : GraphData) → IsGraph g → (v : ℕ) (out : List OutRoad) → ListsRoadsFrom g v out → (i : ℕ) (r : OutRoad) → i < length out → r ≡ get_or out i r → HasVertex g r.head
head_in g roads v out lists i r lt is =
    let n : length out ≡ length lists.0 = rw (lists.2) (simp length-map) in
    let in_numbers : i < length lists.0 = omega (arith, n) in
    let at : get_or out i r ≡ road_of (arc_of g (get_or lists.0 i 0)) = ap (λ (o : List OutRoad). get_or o i r) lists.2 ∙ get_or-map (λ a. road_of (arc_of g a)) lists.0 i 0 r in_numbers in
    let has = ((lists.1.complete (get_or lists.0 i 0)).0 (i, in_numbers, get_or_default lists.0 i (get_or lists.0 i 0) 0 in_numbers)).0 in
    subst (λ (q : OutRoad). HasVertex g q.head) (sym (is ∙ at)) ((roads.ends (get_or lists.0 i 0) has).1)

-- no more roads leave a vertex than there are arcs
pub roads_short : (g : GraphData) (v : ℕ) (out : List OutRoad) → ListsRoadsFrom g v out → length out ≤ length g.arcs
roads_short g v out lists =
    let n : length out ≡ length lists.0 = rw (lists.2) (simp length-map) in
    omega (arith, n, out_short g v lists.0 lists.1)

-- what an offer leaves is no worse than what was offered, and than what was there
module _ {V : Type 0} (no_worse : V → V → Bool) (ordered : IsOrder no_worse) (z : V) where
  pub left_by_offer : (old : Option V) → (y : V) × (improved no_worse old z ≡ Some y) × IsTrue (no_worse y z)
  left_by_offer None = (z, refl, same_no_worse no_worse ordered z)
  left_by_offer (Some y) = elim (cases_Bool (no_worse y z)) [
    | inr worse ↦ (z, rw worse refl, same_no_worse no_worse ordered z)
    | inl kept ↦ (y, rw kept refl, kept)
  ]

  pub improves : (y : V) → (w : V) × (improved no_worse (Some y) z ≡ Some w) × IsTrue (no_worse w y)
  improves y = elim (cases_Bool (no_worse y z)) [
    | inr worse ↦ (z, rw worse refl, other_no_worse no_worse ordered y z worse)
    | inl kept ↦ (y, rw kept refl, same_no_worse no_worse ordered y)
  ]

  pub old_or_offered : (old : Option V) (y : V) → improved no_worse old z ≡ Some y → (old ≡ Some y) ⊎ (z ≡ y)
  old_or_offered None y e = inr (cc)
  old_or_offered (Some w) y e = elim (cases_Bool (no_worse w z)) [
    | inr worse ↦ let f : improved no_worse (Some w) z ≡ Some z = rw worse refl in let k : Some z ≡ Some y = sym f ∙ e in inr (cc)
    | inl kept ↦ let f : improved no_worse (Some w) z ≡ Some w = rw kept refl in inl (sym f ∙ e)
  ]

  pub kept_label : (w : V) → IsTrue (no_worse w z) → improved no_worse (Some w) z ≡ Some w
  kept_label w h = rw h refl

module _ {V : Type 0} (A : Algebra V) (lawful : IsLawful A) (g : GraphData) (roads : IsGraph g) (sources : List ℕ) (inside : All (HasVertex g) sources) (settled : List Bool) (x : V)
    (labels : List (Option V)) (a : ℕ) (rest : List ℕ) (known : Search A g sources labels settled x (a ∷ rest)) (z : V) (ex : A.extend x (arc_of g a).weight ≡ Some z) where
  abbrev after : List (Option V)
  after = offered A.no_worse labels (arc_of g a).head z

  after_count : length after ≡ g.vertices
  after_count = simp length-set known.labels_count

  this : HasArc g a × IsSettled settled (arc_of g a).tail × (label_of labels (arc_of g a).tail ≡ Some x)
  this = known.current a (0, omega arith, refl)

  tail_in : HasVertex g (arc_of g a).tail
  tail_in = (roads.ends a this.0).0

  own_head : HasVertex g (arc_of g a).head
  own_head = (roads.ends a this.0).1

  x_is_value : IsTrue (A.is_value x)
  x_is_value = walk_value_is_value A lawful g roads sources (arc_of g a).tail x (known.values (arc_of g a).tail x tail_in this.2)

  x_before_offer : IsTrue (A.no_worse x z)
  x_before_offer = lawful.never_better x (arc_of g a).weight z x_is_value (roads.weights a this.0) ex

  at_head : (v : ℕ) → HasVertex g v → v ≡ (arc_of g a).head → label_of after v ≡ improved A.no_worse (label_of labels v) z
  at_head v in_v e =
      let lt : (arc_of g a).head - 1 < length labels = omega (arith, own_head.0, own_head.1, known.labels_count) in
      rw e (get_or-set_same labels ((arc_of g a).head - 1) (improved A.no_worse (label_of labels (arc_of g a).head) z) None lt)

  elsewhere : (v : ℕ) → HasVertex g v → (v ≡ (arc_of g a).head → ⊥) → label_of after v ≡ label_of labels v
  elsewhere v in_v ne =
      let other : v - 1 ≡ (arc_of g a).head - 1 → ⊥ = λ e. ne (omega (arith, in_v.0, own_head.0)) in
      get_or-set_other labels ((arc_of g a).head - 1) (v - 1) (improved A.no_worse (label_of labels (arc_of g a).head) z) None other

  never_worse : (v : ℕ) (y : V) → HasVertex g v → label_of labels v ≡ Some y → (w : V) × (label_of after v ≡ Some w) × IsTrue (A.no_worse w y)
  never_worse v y in_v e = elim (cases_eq v (arc_of g a).head) [
    | inl same ↦ let i = improves A.no_worse lawful.ordered z y in
        (i.0, at_head v in_v same ∙ ap (λ (o : Option V). improved A.no_worse o z) e ∙ i.1, i.2)
    | inr other ↦ (y, elsewhere v in_v other ∙ e, same_no_worse A.no_worse lawful.ordered y)
  ]

  settled_kept : (v : ℕ) → HasVertex g v → IsSettled settled v → label_of after v ≡ label_of labels v
  settled_kept v in_v h = elim (cases_eq v (arc_of g a).head) [
    | inl same ↦ let found = known.labelled v in_v h in
        let k = kept_label A.no_worse lawful.ordered z found.0
        (lawful.ordered.transitive found.0 x z found.2 x_before_offer) in
        at_head v in_v same ∙ ap (λ (o : Option V). improved A.no_worse o z) found.1 ∙ k ∙ sym found.1
    | inr other ↦ elsewhere v in_v other
  ]

  old_or_new : (v : ℕ) (y : V) → HasVertex g v → label_of after v ≡ Some y → (label_of labels v ≡ Some y) ⊎ (((arc_of g a).head ≡ v) × (z ≡ y))
  old_or_new v y in_v e = elim (cases_eq v (arc_of g a).head) [
    | inl same ↦ elim (old_or_offered A.no_worse lawful.ordered z (label_of labels v) y (sym (at_head v in_v same) ∙ e)) [
      | inl old ↦ inl old
      | inr new ↦ inr (sym same, new)
    ]
    | inr other ↦ inl (sym (elsewhere v in_v other) ∙ e)
  ]

  not_improving_now : IsNotImproving A g after a
  not_improving_now y t e f =
      let same : Some x ≡ Some y = sym this.2 ∙ sym (settled_kept (arc_of g a).tail tail_in this.1) ∙ e in
      let is : x ≡ y = cc in
      let both : Some z ≡ Some t = sym ex ∙ ap (λ (v : V). A.extend v (arc_of g a).weight) is ∙ f in
      let gives : z ≡ t = cc in
      let l = left_by_offer A.no_worse lawful.ordered z (label_of labels (arc_of g a).head) in
      (l.0, at_head (arc_of g a).head own_head refl ∙ l.1, subst (λ (v : V). IsTrue (A.no_worse l.0 v)) gives l.2)

  still_not_improving : (b : ℕ) → HasArc g b → IsSettled settled (arc_of g b).tail → IsNotImproving A g labels b → IsNotImproving A g after b
  still_not_improving b h t old y u e f =
      let ends = roads.ends b h in
      let found = old y u (sym (settled_kept (arc_of g b).tail ends.0 t) ∙ e) f in
      let now = never_worse (arc_of g b).head found.0 ends.1 found.1 in
      (now.0, now.1, lawful.ordered.transitive now.0 found.0 u now.2 found.2)

  pub search_offer : Search A g sources after settled x rest
  search_offer = record {
    labels_count = after_count;
    settled_count = known.settled_count;
    values = λ v y in_v e. elim (old_or_new v y in_v e) [
      | inl old ↦ known.values v y in_v old
      | inr new ↦ let w = IsWalkValue-extend A g sources (arc_of g a).tail a x z (known.values (arc_of g a).tail x tail_in this.2) this.0 refl ex in
          subst (λ (u : ℕ). IsWalkValue A g sources u y) new.0 (subst (λ (q : V). IsWalkValue A g sources (arc_of g a).head q) new.1 w)
    ];
    at_sources = λ s h.
        let was = known.at_sources s h in
        let w = never_worse s was.0 (all_inside g sources inside s h) was.1 in
        (w.0, w.1, lawful.ordered.transitive w.0 was.0 A.origin w.2 was.2);
    labelled = λ v in_v h. let found = known.labelled v in_v h in (found.0, settled_kept v in_v h ∙ found.1, found.2);
    above = λ v y in_v o e. elim (old_or_new v y in_v e) [
      | inl old ↦ known.above v y in_v o old
      | inr new ↦ subst (λ (q : V). IsTrue (A.no_worse x q)) new.1 x_before_offer
    ];
    closed = λ b h t. elim (known.closed b h t) [
      | inl waits ↦ elim (head_or_tail a b rest waits) [
        | inl same ↦ inr (subst (λ (c : ℕ). IsNotImproving A g after c) same not_improving_now)
        | inr later ↦ inl later
      ]
      | inr done ↦ inr (still_not_improving b h t done)
    ];
    current = λ b h. let found = known.current b (suc h.0, omega (arith, h.1), h.2) in
        (found.0, found.1, settled_kept (arc_of g b).tail ((roads.ends b found.0).0) found.1 ∙ found.2);
  }

module _ {V : Type 0} (A : Algebra V) (lawful : IsLawful A) (g : GraphData) (roads : IsGraph g) (sources : List ℕ) (inside : All (HasVertex g) sources) (settled : List Bool) (x : V) where
  -- an arc whose extension is refused changes nothing
  search_refused : (labels : List (Option V)) (a : ℕ) (rest : List ℕ) → Search A g sources labels settled x (a ∷ rest) → A.extend x (arc_of g a).weight ≡ None →
      Search A g sources labels settled x rest
  search_refused labels a rest known ex = record {
    labels_count = known.labels_count;
    settled_count = known.settled_count;
    values = known.values;
    at_sources = known.at_sources;
    labelled = known.labelled;
    above = known.above;
    closed = λ b h t. elim (known.closed b h t) [
      | inl waits ↦ elim (head_or_tail a b rest waits) [
        | inl same ↦ inr (subst (λ (c : ℕ). IsNotImproving A g labels c) same (λ y u e f.
            let this = known.current a (0, omega arith, refl) in
            let xy : Some x ≡ Some y = sym this.2 ∙ e in
            let is : x ≡ y = cc in
            let bad : None ≡ Some u = sym ex ∙ ap (λ (v : V). A.extend v (arc_of g a).weight) is ∙ f in
            cc))
        | inr later ↦ inl later
      ]
      | inr done ↦ inr done
    ];
    current = λ b h. known.current b (suc h.0, omega (arith, h.1), h.2);
  }

  pub search_arc : (labels : List (Option V)) (a : ℕ) (rest : List ℕ) → Search A g sources labels settled x (a ∷ rest) → (o : Option V) → A.extend x (arc_of g a).weight ≡ o →
      Search A g sources (offered_if A.no_worse labels (arc_of g a).head o) settled x rest
  search_arc labels a rest known None ex = search_refused labels a rest known ex
  search_arc labels a rest known (Some z) ex = search_offer A lawful g roads sources inside settled x labels a rest known z ex

  pub search_relaxed : (arcs : List ℕ) (labels : List (Option V)) → Search A g sources labels settled x arcs → Search A g sources (relaxed A g x labels arcs) settled x []
  search_relaxed [] labels known = known
  search_relaxed (a ∷ arcs) labels known =
      search_relaxed arcs (offered_if A.no_worse labels (arc_of g a).head (A.extend x (arc_of g a).weight)) (search_arc labels a arcs known (A.extend x (arc_of g a).weight) refl)
