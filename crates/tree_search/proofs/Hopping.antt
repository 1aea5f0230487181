-- The search with hops and parents: what holds between its steps, its start, one arc, all arcs of a
-- vertex, and the choice of a vertex.
use Rattle.tree_search.proofs.Words.{◌≡◌, ℕ, suc, ◌+◌, ◌-◌, ◌<◌, ◌≤◌, ◌⊎◌, inl, inr, Bool, false, List, [], ◌∷◌, length, get_or, refl, ap, sym, ◌∙◌, subst, arith, Option, Some, None, get_or-set_same, get_or-set_other, length-map, cases_eq, IsTrue, All, Contains, option_map, GraphData, IsGraph, HasArc, HasVertex, arc_of, Algebra, IsLawful, same_no_worse, key_of, values_in, marked, marked_if, relaxed_marks, by_number, told, tells, Mark}
use Rattle.road_graph.proofs.Lists.{head_or_tail, same_some}
use Rattle.path_algebra.specs.Walks.{IsNotImproving, label_of}
use Rattle.path_algebra.proofs.Walks.{walk_value_is_value, all_inside}
use Rattle.path_algebra.proofs.Tight.{never_better_along}
use Rattle.path_plain.proofs.Known.{IsSettled, Search}
use Rattle.path_plain.proofs.Offering.{search_arc}
use Rattle.tree_search.proofs.Reading.{read, found, IsKept, IsTaken, outcome, values_marked}

-- an arc from a settled vertex gave v its mark
pub record IsAdoption {V : Type 0} (A : Algebra V) (g : GraphData) (marks : List (Option (Mark V))) (settled : List Bool) (v : ℕ) (m : Mark V) : Type 0 where
  pub arc : ℕ
  pub has : HasArc g arc
  pub head : (arc_of g arc).head ≡ v
  pub tail : (arc_of g arc).tail ≡ m.parent
  pub done : IsSettled settled (arc_of g arc).tail
  pub near : Mark V
  pub at_tail : label_of marks (arc_of g arc).tail ≡ Some near
  pub extends : A.extend near.value (arc_of g arc).weight ≡ Some m.value
  pub hops : m.hops ≡ near.hops + 1

-- the same arc in other marks
pub again : {V : Type 0} {A : Algebra V} {g : GraphData} {marks marks' : List (Option (Mark V))} {settled settled' : List Bool} {v : ℕ} {m : Mark V} (by : IsAdoption A g marks settled v m) →
    IsSettled settled' (arc_of g by.arc).tail → label_of marks' (arc_of g by.arc).tail ≡ Some by.near → IsAdoption A g marks' settled' v m
again by done at = record { arc = by.arc; has = by.has; head = by.head; tail = by.tail; done = done; near = by.near; at_tail = at; extends = by.extends; hops = by.hops }

-- a mark is a source's, or some arc gave it
abbrev pub IsGiven : {V : Type 0} → Algebra V → GraphData → List ℕ → List (Option (Mark V)) → List Bool → ℕ → Mark V → Type 0
IsGiven A g sources marks settled v m =
    ((m.hops ≡ 0) × (m.parent ≡ 0) × Contains sources v) ⊎ IsAdoption A g marks settled v m

-- where an arc gives its head's value, the head has no more hops than by this arc, and where it has
-- as many no greater parent
abbrev pub IsPassed : {V : Type 0} → Algebra V → GraphData → List (Option (Mark V)) → ℕ → Type 0
IsPassed {V} A g marks a =
    (t m : Mark V) → label_of marks (arc_of g a).tail ≡ Some t → label_of marks (arc_of g a).head ≡ Some m → A.extend t.value (arc_of g a).weight ≡ Some m.value →
    (m.hops ≤ t.hops + 1) × (m.hops ≡ t.hops + 1 → m.parent ≤ (arc_of g a).tail)

-- (x, h) is a level: no settled key is worse, and no open one is better; pending arcs wait for
-- their turn
pub record Hopping {V : Type 0} (A : Algebra V) (g : GraphData) (sources : List ℕ) (marks : List (Option (Mark V))) (settled : List Bool) (x : V) (h : ℕ) (pending : List ℕ) : Type 0 where
  pub known : Search A g sources (values_in marks) settled x pending
  pub below : (v : ℕ) (m : Mark V) → HasVertex g v → IsSettled settled v → label_of marks v ≡ Some m → IsTrue (A.no_worse x m.value) → m.hops ≤ h
  pub above : (v : ℕ) (m : Mark V) → HasVertex g v → get_or settled (v - 1) false ≡ false → label_of marks v ≡ Some m → IsTrue (A.no_worse m.value x) → h ≤ m.hops
  pub at_sources : (s : ℕ) → Contains sources s → (m : Mark V) × (label_of marks s ≡ Some m) × (m.hops ≡ 0)
  pub given : (v : ℕ) (m : Mark V) → HasVertex g v → label_of marks v ≡ Some m → IsGiven A g sources marks settled v m
  pub passed : (a : ℕ) → HasArc g a → IsSettled settled (arc_of g a).tail → Contains pending a ⊎ IsPassed A g marks a
  pub current : (a : ℕ) → Contains pending a → (t : Mark V) × (label_of marks (arc_of g a).tail ≡ Some t) × (t.hops ≡ h)

module _ {V : Type 0} (A : Algebra V) (lawful : IsLawful A) (g : GraphData) (roads : IsGraph g) (sources : List ℕ) (inside : All (HasVertex g) sources) (settled : List Bool) (x : V) (h : ℕ)
    (marks : List (Option (Mark V))) (a : ℕ) (rest : List ℕ) (hopping : Hopping A g sources marks settled x h (a ∷ rest)) where
  a_waits : Contains (a ∷ rest) a
  a_waits = (0, omega arith, refl)

  has : HasArc g a
  has = (hopping.known.current a a_waits).0

  tail_done : IsSettled settled (arc_of g a).tail
  tail_done = (hopping.known.current a a_waits).1

  tail_in : HasVertex g (arc_of g a).tail
  tail_in = (roads.ends a has).0

  head_in : HasVertex g (arc_of g a).head
  head_in = (roads.ends a has).1

  near : Mark V
  near = (hopping.current a a_waits).0

  at_tail : label_of marks (arc_of g a).tail ≡ Some near
  unfolding near
  at_tail = (hopping.current a a_waits).1

  near_hops : near.hops ≡ h
  unfolding near
  near_hops = (hopping.current a a_waits).2

  near_value : near.value ≡ x
  near_value = same_some (label_of (values_in marks) (arc_of g a).tail) near.value x (read (λ (m : Mark V). m.value) marks (arc_of g a).tail near at_tail) (hopping.known.current a a_waits).2

  -- an arc whose turn is over
  waits_or_done : (b : ℕ) → HasArc g b → IsSettled settled (arc_of g b).tail → (a ≡ b) ⊎ (Contains rest b ⊎ (IsNotImproving A g (values_in marks) b × IsPassed A g marks b))
  waits_or_done b has_b t = elim (hopping.known.closed b has_b t) [
    | inl waits ↦ elim (head_or_tail a b rest waits) [ inl same ↦ inl same | inr later ↦ inr (inl later) ]
    | inr closed ↦ elim (hopping.passed b has_b t) [
      | inl waits ↦ elim (head_or_tail a b rest waits) [ inl same ↦ inl same | inr later ↦ inr (inl later) ]
      | inr passed ↦ inr (inr (closed, passed))
    ]
  ]

  -- the marks stay as they are, and the arc is passed
  kept : (known : Search A g sources (values_in marks) settled x rest) → IsPassed A g marks a → Hopping A g sources marks settled x h rest
  kept known this = record {
    known = known;
    below = hopping.below;
    above = hopping.above;
    at_sources = hopping.at_sources;
    given = hopping.given;
    passed = λ b has_b t. elim (waits_or_done b has_b t) [
      | inl same ↦ inr (subst (λ (c : ℕ). IsPassed A g marks c) same this)
      | inr other ↦ elim other [ inl later ↦ inl later | inr done ↦ inr done.1 ]
    ];
    current = λ b w. hopping.current b (suc w.0, (let l : w.0 < length rest = w.1 in omega (arith, l)), w.2);
  }

  refused : A.extend x (arc_of g a).weight ≡ None → Hopping A g sources marks settled x h rest
  refused ex = kept (search_arc A lawful g roads sources inside settled x (values_in marks) a rest hopping.known None ex) (λ t m e f extends.
      let is : t ≡ near = same_some (label_of marks (arc_of g a).tail) t near e at_tail in
      let value : t.value ≡ x = ap (λ (q : Mark V). q.value) is ∙ near_value in
      let bad : None ≡ Some m.value = sym ex ∙ ap (λ (y : V). A.extend y (arc_of g a).weight) (sym value) ∙ extends in cc)

  module _ (z : V) (ex : A.extend x (arc_of g a).weight ≡ Some z) where
    abbrev new : Mark V
    new = record { value = z; hops = h + 1; parent = (arc_of g a).tail }

    abbrev after : List (Option (Mark V))
    after = marked A.no_worse marks (arc_of g a).head new

    x_walk : IsTrue (A.is_value x)
    x_walk = walk_value_is_value A lawful g roads sources (arc_of g a).tail x (hopping.known.values (arc_of g a).tail x tail_in (hopping.known.current a a_waits).2)

    x_before : IsTrue (A.no_worse x z)
    x_before = lawful.never_better x (arc_of g a).weight z x_walk (roads.weights a has) ex

    origin_before : IsTrue (A.no_worse A.origin z)
    origin_before =
        let w = hopping.known.values (arc_of g a).tail x tail_in (hopping.known.current a a_waits).2 in
        lawful.ordered.transitive A.origin x z (never_better_along A lawful g roads w.1.0 w.0 (arc_of g a).tail A.origin x w.1.2 lawful.origin_is_value w.2) x_before

    known_after : Search A g sources (values_in after) settled x rest
    known_after =
        subst (λ (labels : List (Option V)). Search A g sources labels settled x rest) (sym (values_marked A.no_worse lawful.ordered marks (arc_of g a).head new))
        (search_arc A lawful g roads sources inside settled x (values_in marks) a rest hopping.known (Some z) ex)

    -- the offer leaves the marks as they are
    unchanged : IsKept A.no_worse marks (arc_of g a).head new → Hopping A g sources after settled x h rest
    unchanged k =
        subst (λ (l : List (Option (Mark V))). Hopping A g sources l settled x h rest) (sym k.same)
        (kept (subst (λ (l : List (Option (Mark V))). Search A g sources (values_in l) settled x rest) k.same known_after) (λ t m e f extends.
        let is : t ≡ near = same_some (label_of marks (arc_of g a).tail) t near e at_tail in
        let value : t.value ≡ x = ap (λ (q : Mark V). q.value) is ∙ near_value in
        let hops : t.hops ≡ h = ap (λ (q : Mark V). q.hops) is ∙ near_hops in
        let old : m ≡ k.old = same_some (label_of marks (arc_of g a).head) m k.old f k.at in
        let gives : z ≡ m.value = same_some (A.extend x (arc_of g a).weight) z m.value ex (ap (λ (y : V). A.extend y (arc_of g a).weight) (sym value) ∙ extends) in
        let fine : IsTrue (by_number A.no_worse (key_of m) (key_of new)) = subst (λ (q : Mark V). IsTrue (by_number A.no_worse (key_of q) (key_of new))) (sym old) k.fine in
        let back : IsTrue (A.no_worse z m.value) = subst (λ (y : V). IsTrue (A.no_worse z y)) gives (same_no_worse A.no_worse lawful.ordered z) in
        let few : m.hops ≤ h + 1 = (told A.no_worse (key_of m) (key_of new) fine).1 back in (
          omega (arith, few, hops),
          λ as_many.
              let both : IsTrue (by_number A.no_worse (key_of new) (key_of m)) = tells A.no_worse (key_of new) (key_of m) back (λ _. omega (arith, as_many, hops)) in
              let p : k.old.parent ≤ (arc_of g a).tail = k.parent (subst (λ (q : Mark V). IsTrue (by_number A.no_worse (key_of new) (key_of q))) old both) in
              subst (λ (q : Mark V). q.parent ≤ (arc_of g a).tail) (sym old) p,
        )))

    module _ (taken : IsTaken A.no_worse marks (arc_of g a).head new) where
      -- the head is open
      head_open : IsSettled settled (arc_of g a).head → ⊥
      head_open t =
          let l = hopping.known.labelled (arc_of g a).head head_in t in
          let f = found (λ (m : Mark V). m.value) marks (arc_of g a).head l.0 l.1 in
          let m = f.0 in
          let value : m.value ≡ l.0 = f.2 in
          let m_before : IsTrue (A.no_worse m.value x) = subst (λ (y : V). IsTrue (A.no_worse y x)) (sym value) l.2 in
          let over = told A.no_worse (key_of new) (key_of m) (taken.over m f.1).0 in
          let more : h + 1 ≤ m.hops = over.1 (lawful.ordered.transitive m.value x z m_before x_before) in
          let few : m.hops ≤ h = hopping.below (arc_of g a).head m head_in t f.1 (lawful.ordered.transitive x z m.value x_before over.0) in
          omega (arith, more, few)

      elsewhere : (v : ℕ) → HasVertex g v → (v ≡ (arc_of g a).head → ⊥) → label_of after v ≡ label_of marks v
      elsewhere v in_v ne =
          let other : v - 1 ≡ (arc_of g a).head - 1 → ⊥ = λ e. ne (let l = in_v.0 in let r = head_in.0 in omega (arith, e, l, r)) in
          ap (λ (l : List (Option (Mark V))). label_of l v) taken.is ∙ get_or-set_other marks ((arc_of g a).head - 1) (v - 1) (Some new) None other

      marks_count : length marks ≡ g.vertices
      marks_count = sym (length-map marks (option_map (λ (m : Mark V). m.value))) ∙ hopping.known.labels_count

      at_head : label_of after (arc_of g a).head ≡ Some new
      at_head =
          let lt : (arc_of g a).head - 1 < length marks = omega (arith, head_in.0, head_in.1, marks_count) in
          ap (λ (l : List (Option (Mark V))). label_of l (arc_of g a).head) taken.is ∙ get_or-set_same marks ((arc_of g a).head - 1) (Some new) None lt

      settled_stay : (v : ℕ) → HasVertex g v → IsSettled settled v → label_of after v ≡ label_of marks v
      settled_stay v in_v t = elsewhere v in_v (λ e. head_open (subst (λ (u : ℕ). IsSettled settled u) e t))

      old_or_new : (v : ℕ) (m : Mark V) → HasVertex g v → label_of after v ≡ Some m → (label_of marks v ≡ Some m) ⊎ (((arc_of g a).head ≡ v) × (new ≡ m))
      old_or_new v m in_v e = elim (cases_eq v (arc_of g a).head) [
        | inl same ↦ inr (sym same, same_some (label_of after (arc_of g a).head) new m at_head (ap (label_of after) (sym same) ∙ e))
        | inr other ↦ inl (sym (elsewhere v in_v other) ∙ e)
      ]

      no_source : Contains sources (arc_of g a).head → ⊥
      no_source s =
          let was = hopping.at_sources (arc_of g a).head s in
          let l = hopping.known.at_sources (arc_of g a).head s in
          let m = was.0 in
          let value : m.value ≡ l.0 = same_some (label_of (values_in marks) (arc_of g a).head) m.value l.0 (read (λ (q : Mark V). q.value) marks (arc_of g a).head m was.1) l.1 in
          let m_before : IsTrue (A.no_worse m.value z) = lawful.ordered.transitive m.value A.origin z (subst (λ (y : V). IsTrue (A.no_worse y A.origin)) (sym value) l.2) origin_before in
          let more : h + 1 ≤ m.hops = (told A.no_worse (key_of new) (key_of m) (taken.over m was.1).0).1 m_before in
          let none : m.hops ≡ 0 = was.2 in
          omega (arith, more, none)

      given_after : (v : ℕ) (m : Mark V) → HasVertex g v → label_of after v ≡ Some m → IsGiven A g sources after settled v m
      given_after v m in_v e = elim (old_or_new v m in_v e) [
        | inl old ↦ elim (hopping.given v m in_v old) [
          | inl source ↦ inl source
          | inr by ↦ inr (again by by.done (settled_stay (arc_of g by.arc).tail ((roads.ends by.arc by.has).0) by.done ∙ by.at_tail))
        ]
        | inr now ↦ inr (record {
          arc = a;
          has = has;
          head = now.0;
          tail = ap (λ (q : Mark V). q.parent) now.1;
          done = tail_done;
          near = near;
          at_tail = settled_stay (arc_of g a).tail tail_in tail_done ∙ at_tail;
          extends = ap (λ (y : V). A.extend y (arc_of g a).weight) near_value ∙ ex ∙ ap (λ (q : Mark V). Some q.value) now.1;
          hops = ap (λ (q : Mark V). q.hops) (sym now.1) ∙ ap (λ (k : ℕ). k + 1) (sym near_hops);
        })
      ]

      -- an arc whose turn is over, where its head has the new mark
      passed_by_new : (b : ℕ) → HasArc g b → IsNotImproving A g (values_in marks) b → IsPassed A g marks b → (t : Mark V) → label_of marks (arc_of g b).tail ≡ Some t →
          (arc_of g b).head ≡ (arc_of g a).head → A.extend t.value (arc_of g b).weight ≡ Some z → (h + 1 ≤ t.hops + 1) × (h + 1 ≡ t.hops + 1 → (arc_of g a).tail ≤ (arc_of g b).tail)
      passed_by_new b has_b closed was t e same extends =
          let l = closed t.value z (read (λ (q : Mark V). q.value) marks (arc_of g b).tail t e) extends in
          let f = found (λ (q : Mark V). q.value) marks (arc_of g b).head l.0 l.1 in
          let old = f.0 in
          let old_before : IsTrue (A.no_worse old.value z) = subst (λ (y : V). IsTrue (A.no_worse y z)) (sym f.2) l.2 in
          let at : label_of marks (arc_of g a).head ≡ Some old = ap (label_of marks) (sym same) ∙ f.1 in
          let over = taken.over old at in
          let first = told A.no_worse (key_of new) (key_of old) over.0 in
          let more : h + 1 ≤ old.hops = first.1 old_before in
          let value : z ≡ old.value = lawful.ordered.antisymmetric z old.value first.0 old_before in
          let p = was t old e f.1 (extends ∙ ap (λ (y : V). Some y) value) in
          let few : old.hops ≤ t.hops + 1 = p.0 in (
            omega (arith, more, few),
            λ as_many.
                let level : old.hops ≡ t.hops + 1 = omega (arith, more, few, as_many) in
                let u : old.parent ≤ (arc_of g b).tail = p.1 level in
                let lesser : (arc_of g a).tail ≤ old.parent = over.1 (tells A.no_worse (key_of old) (key_of new) old_before (λ _. omega (arith, level, as_many))) in
                omega (arith, u, lesser),
          )

      passed_after : (b : ℕ) → HasArc g b → IsSettled settled (arc_of g b).tail → Contains rest b ⊎ IsPassed A g after b
      passed_after b has_b done =
          let ends = roads.ends b has_b in
          elim (waits_or_done b has_b done) [
            | inl same ↦ inr (subst (λ (c : ℕ). IsPassed A g after c) same (λ t m e f extends.
                let is : t ≡ near = same_some (label_of marks (arc_of g a).tail) t near (sym (settled_stay (arc_of g a).tail tail_in tail_done) ∙ e) at_tail in
                let hops : t.hops ≡ h = ap (λ (q : Mark V). q.hops) is ∙ near_hops in
                let this : new ≡ m = same_some (label_of after (arc_of g a).head) new m at_head f in
                let m_hops : m.hops ≡ h + 1 = ap (λ (q : Mark V). q.hops) (sym this) in
                let m_parent : m.parent ≡ (arc_of g a).tail = ap (λ (q : Mark V). q.parent) (sym this) in
                (omega (arith, hops, m_hops), λ as_many. omega (arith, m_parent))))
            | inr other ↦ elim other [
              | inl later ↦ inl later
              | inr over ↦ inr (λ t m e f extends.
                  let e_was : label_of marks (arc_of g b).tail ≡ Some t = sym (settled_stay (arc_of g b).tail ends.0 done) ∙ e in
                  elim (old_or_new (arc_of g b).head m ends.1 f) [
                    | inl old ↦ over.1 t m e_was old extends
                    | inr now ↦
                        let value : z ≡ m.value = ap (λ (q : Mark V). q.value) now.1 in
                        let p = passed_by_new b has_b over.0 over.1 t e_was (sym now.0) (extends ∙ ap (λ (y : V). Some y) (sym value)) in
                        subst (λ (q : Mark V). (q.hops ≤ t.hops + 1) × (q.hops ≡ t.hops + 1 → q.parent ≤ (arc_of g b).tail)) now.1 p
                  ])
            ]
          ]

      changed : Hopping A g sources after settled x h rest
      changed = record {
        known = known_after;
        below = λ v m in_v t e. hopping.below v m in_v t (sym (settled_stay v in_v t) ∙ e);
        above = λ v m in_v o e back. elim (old_or_new v m in_v e) [
          | inl old ↦ hopping.above v m in_v o old back
          | inr now ↦ let m_hops : m.hops ≡ h + 1 = ap (λ (q : Mark V). q.hops) (sym now.1) in omega (arith, m_hops)
        ];
        at_sources = λ s c.
            let was = hopping.at_sources s c in
            (was.0, elsewhere s (all_inside g sources inside s c) (λ e. no_source (subst (λ (u : ℕ). Contains sources u) e c)) ∙ was.1, was.2);
        given = given_after;
        passed = passed_after;
        current = λ b w.
            let later : Contains (a ∷ rest) b = (suc w.0, (let l : w.0 < length rest = w.1 in omega (arith, l)), w.2) in
            let was = hopping.current b later in
            let k = hopping.known.current b later in
            (was.0, settled_stay (arc_of g b).tail ((roads.ends b k.0).0) k.1 ∙ was.1, was.2);
      }

    offered_mark : Hopping A g sources after settled x h rest
    offered_mark = elim (outcome A.no_worse lawful.ordered marks (arc_of g a).head new) [ inl k ↦ unchanged k | inr t ↦ changed t ]

module _ {V : Type 0} (A : Algebra V) (lawful : IsLawful A) (g : GraphData) (roads : IsGraph g) (sources : List ℕ) (inside : All (HasVertex g) sources) (settled : List Bool) (x : V) (h u : ℕ) where
  hopping_arc : (marks : List (Option (Mark V))) (a : ℕ) (rest : List ℕ) → (arc_of g a).tail ≡ u → Hopping A g sources marks settled x h (a ∷ rest) → (o : Option V) →
      A.extend x (arc_of g a).weight ≡ o →
      Hopping A g sources (marked_if A.no_worse marks (arc_of g a).head o (h + 1) u) settled x h rest
  hopping_arc marks a rest tail hopping None ex = refused A lawful g roads sources inside settled x h marks a rest hopping ex
  hopping_arc marks a rest tail hopping (Some z) ex =
      subst (λ (p : ℕ). Hopping A g sources (marked A.no_worse marks (arc_of g a).head (record { value = z; hops = h + 1; parent = p })) settled x h rest) tail
      (offered_mark A lawful g roads sources inside settled x h marks a rest hopping z ex)

  -- an offer to the head of an arc leaves the settled marks as they are
  stays_offered : (marks : List (Option (Mark V))) (a : ℕ) (rest : List ℕ) (hopping : Hopping A g sources marks settled x h (a ∷ rest)) (z : V) → A.extend x (arc_of g a).weight ≡ Some z → (v : ℕ) →
      HasVertex g v → IsSettled settled v → label_of (marked A.no_worse marks (arc_of g a).head (record { value = z; hops = h + 1; parent = (arc_of g a).tail })) v ≡ label_of marks v
  stays_offered marks a rest hopping z ex v in_v t =
      elim (outcome A.no_worse lawful.ordered marks (arc_of g a).head (record { value = z; hops = h + 1; parent = (arc_of g a).tail })) [
        | inl k ↦ ap (λ (l : List (Option (Mark V))). label_of l v) k.same
        | inr taken ↦ settled_stay A lawful g roads sources inside settled x h marks a rest hopping z ex taken v in_v t
      ]

  stays_arc : (marks : List (Option (Mark V))) (a : ℕ) (rest : List ℕ) → (arc_of g a).tail ≡ u → Hopping A g sources marks settled x h (a ∷ rest) → (o : Option V) →
      A.extend x (arc_of g a).weight ≡ o → (v : ℕ) → HasVertex g v → IsSettled settled v →
      label_of (marked_if A.no_worse marks (arc_of g a).head o (h + 1) u) v ≡ label_of marks v
  stays_arc marks a rest tail hopping None ex v in_v t = refl
  stays_arc marks a rest tail hopping (Some z) ex v in_v t =
      subst (λ (p : ℕ). label_of (marked A.no_worse marks (arc_of g a).head (record { value = z; hops = h + 1; parent = p })) v ≡ label_of marks v) tail
      (stays_offered marks a rest hopping z ex v in_v t)

  -- all arcs that leave u
  pub hopping_relaxed : (arcs : List ℕ) → ((a : ℕ) → Contains arcs a → (arc_of g a).tail ≡ u) → (marks : List (Option (Mark V))) → Hopping A g sources marks settled x h arcs →
      Hopping A g sources (relaxed_marks A g u x h marks arcs) settled x h []
  hopping_relaxed [] leave marks hopping = hopping
  hopping_relaxed (a ∷ arcs) leave marks hopping =
      hopping_relaxed arcs (λ b w. leave b (suc w.0, (let l : w.0 < length arcs = w.1 in omega (arith, l)), w.2))
      (marked_if A.no_worse marks (arc_of g a).head (A.extend x (arc_of g a).weight) (h + 1) u)
      (hopping_arc marks a arcs (leave a (0, omega arith, refl)) hopping (A.extend x (arc_of g a).weight) refl)

  pub stays_relaxed : (arcs : List ℕ) → ((a : ℕ) → Contains arcs a → (arc_of g a).tail ≡ u) → (marks : List (Option (Mark V))) → Hopping A g sources marks settled x h arcs → (v : ℕ) →
      HasVertex g v → IsSettled settled v → label_of (relaxed_marks A g u x h marks arcs) v ≡ label_of marks v
  stays_relaxed [] leave marks hopping v in_v t = refl
  stays_relaxed (a ∷ arcs) leave marks hopping v in_v t =
      let tail = leave a (0, omega arith, refl) in
      let o = A.extend x (arc_of g a).weight in
      let next = marked_if A.no_worse marks (arc_of g a).head o (h + 1) u in
      stays_relaxed arcs (λ b w. leave b (suc w.0, (let l : w.0 < length arcs = w.1 in omega (arith, l)), w.2)) next (hopping_arc marks a arcs tail hopping o refl) v in_v t
      ∙ stays_arc marks a arcs tail hopping o refl v in_v t
