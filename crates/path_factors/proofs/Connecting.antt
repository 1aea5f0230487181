-- A link is put between two places: it is worth a walk, no other got worse, and lesser rows are the
-- same.
use Rattle.path_factors.proofs.Words.{FactorState, IsSameState, ◌≡◌, ℕ, ◌-◌, ◌<◌, ◌≤◌, ◌⊎◌, inl, inr, Bool, List, [], ◌∷◌, ◌++◌, get_or, All-cons, All-nil, All-weaker, refl, ap, sym, ◌∙◌, subst, arith, Some, None, IsTrue, Contains, cases_eq, GraphData, IsGraph, HasArc, arc_of, Algebra, IsOrder, Composition, IsComposition, same_no_worse, Link, FactorData, LeadsNoWorse, IsWorthOfWalk, IsClosedOn, KeepsRest, row_of, vertex_at, AreHeads, AreImproved, Falls, IsBegun, IsHead, IsLinkUnder, IsUnder, IsWorthUnder, Improves, Leads, LinkRows, AreEdgesImproved, Rises, heads_in, Edge, rising, falling}
use Rattle.std.proofs.lemmas.List.Elements.{All-append}
use Rattle.path_factors.proofs.Offers.{applied_is}
use Rattle.path_factors.proofs.Substitution.{IsWalk-append, Extends-append}
use Rattle.path_factors.proofs.Trees.{ancestor_on, head_above}

module _ {V W : Type 0} (A : Algebra V) (C : Composition V W) (g : GraphData) (heads : List (List ℕ)) (places : List ℕ) where
  -- some walk is one of the graph
  pub worth_of_walk : (x u v : ℕ) (a : W) → IsWorthUnder A C g heads places x u v a → IsWorthOfWalk A C g u v a
  worth_of_walk x u v a worth = λ y z is e. let p = worth y z is e in (p.0, p.1, p.2)

  -- what is under a place is under its heads
  pub worth_above : AreHeads g.vertices heads → (x y u v : ℕ) (a : W) → IsHead heads x y → IsWorthUnder A C g heads places x u v a →
      IsWorthUnder A C g heads places y u v a
  worth_above are x y u v a head worth = λ z t is e.
      let p = worth z t is e in
      let up = head_above g.vertices heads are x y head in (
        p.0,
        p.1,
        p.2,
        All-weaker (IsUnder g heads places x) (IsUnder g heads places y) (λ b under. elim under [
          | inl tail ↦ inl (ancestor_on g.vertices heads are (get_or places ((arc_of g b).tail - 1) 0) x y tail up)
          | inr head ↦ inr (ancestor_on g.vertices heads are (get_or places ((arc_of g b).head - 1) 0) x y head up)
        ]) p.0 p.3,
      )

  module _ (composes : IsComposition A C) where
    -- the worth of an arc
    pub worth_of_arc : IsGraph g → (x a : ℕ) → HasArc g a → IsUnder g heads places x a →
        IsWorthUnder A C g heads places x (arc_of g a).tail (arc_of g a).head (C.of_arc (arc_of g a).weight)
    worth_of_arc roads x a has under = λ y z is e. (
      a ∷ [],
      (has, refl, refl),
      (z, sym (composes.apply_arc y (arc_of g a).weight is (roads.weights a has)) ∙ e, refl),
      All-cons (IsUnder g heads places x) a [] under (All-nil (IsUnder g heads places x)),
    )

    -- the worth of none
    pub worth_of_none : (x u v : ℕ) → IsWorthUnder A C g heads places x u v C.no_walk
    worth_of_none x u v = λ y z is e. let bad : None ≡ Some z = sym (composes.no_walk_refused y is) ∙ e in absurd (cc)

    -- the worth of two walks, one after the other
    pub worth_of_both : (x u v w : ℕ) (a b : W) → IsWorthUnder A C g heads places x u v a → IsWorthUnder A C g heads places x v w b →
        IsWorthUnder A C g heads places x u w (C.compose a b)
    worth_of_both x u v w a b first second = λ y z is e.
        let m = applied_is C (C.apply y a) b z (sym (composes.apply_composed y a b is) ∙ e) in
        let to = first y m.0 is m.1 in
        let on = second m.0 z (composes.apply_is_value y a m.0 is m.1) m.2 in (
          to.0 ++ on.0,
          IsWalk-append g u to.0 v on.0 w to.1 on.1,
          Extends-append A g y to.0 m.0 on.0 z to.2 on.2,
          All-append (IsUnder g heads places x) to.0 on.0 to.3 on.3,
        )

-- links that are worth walks under places are worth walks
pub sound_of : {V W : Type 0} (A : Algebra V) (C : Composition V W) (g : GraphData) (F : FactorData W) →
    ((x y : ℕ) (a : W) → Rises F x y a → IsLinkUnder A C g F x x y a) → ((x y : ℕ) (a : W) → Falls F x y a → IsLinkUnder A C g F y x y a) →
    (x y : ℕ) (a : W) → Leads F x y a → IsWorthOfWalk A C g (vertex_at F x) (vertex_at F y) a
sound_of A C g F rising falling x y a leads = elim leads [
  | inl rises ↦ worth_of_walk A C g (heads_in F.leaving) F.places x (vertex_at F x) (vertex_at F y) a (rising x y a rises)
  | inr falls ↦ worth_of_walk A C g (heads_in F.leaving) F.places y (vertex_at F x) (vertex_at F y) a (falling x y a falls)
]

-- what is kept twice is kept
pub rest_more : {W : Type 0} (Is : ℕ → Type 0) (F G H : FactorData W) → KeepsRest Is F G → KeepsRest Is G H → KeepsRest Is F H
rest_more Is F G H first second = λ i other. let a = first i other in let b = second i other in (b.0 ∙ a.0, b.1 ∙ a.1)

pub same_more : {T W : Type 0} (S U R : FactorState T W) → IsSameState S U → IsSameState U R → IsSameState S R
same_more S U R first second = record { algebra = second.algebra ∙ first.algebra; roads = second.roads ∙ first.roads; heads = second.heads ∙ first.heads }

-- what only such rows may change, others may not
pub rest_weaker : {W : Type 0} (Is More : ℕ → Type 0) (F G : FactorData W) → ((i : ℕ) → Is i → More i) → KeepsRest Is F G → KeepsRest More F G
rest_weaker Is More F G more kept = λ i other. kept i (λ is. other (more i is))

module _ {V W : Type 0} (C : Composition V W) (ordered : IsOrder C.no_worse) where
  same : (a : W) → IsTrue (C.no_worse a a)
  same a = same_no_worse C.no_worse ordered a

  module _ (before after : List (List (Link W))) (i : ℕ) (k : Link W) (improved : AreImproved C before i k after) where
    given_at : (j : ℕ) (l : Link W) → Contains (row_of after j) l → Contains (row_of before j) l ⊎ ((j ≡ i) × (l.place ≡ k.place) × (l.walk ≡ k.walk))
    given_at j l c = elim (cases_eq j i) [
      | inl is ↦
          let here : Contains (row_of after i) l = subst (λ (m : ℕ). Contains (row_of after m) l) is c in
          elim (improved.row.given l here) [
            | inl old ↦ inl (subst (λ (m : ℕ). Contains (row_of before m) l) (sym is) old)
            | inr new ↦ inr (is, ap (λ (q : Link W). q.place) new, ap (λ (q : Link W). q.walk) new)
          ]
      | inr other ↦ inl (subst (λ (r : List (Link W)). Contains r l) (improved.others j other) c)
    ]

    kept_at : (j p : ℕ) (a : W) → Contains (row_of before j) (record { place = p; walk = a }) →
        (b : W) × Contains (row_of after j) (record { place = p; walk = b }) × IsTrue (C.no_worse b a)
    kept_at j p a c = elim (cases_eq j i) [
      | inl is ↦
          let kept = improved.row.kept p a (subst (λ (m : ℕ). Contains (row_of before m) (record { place = p; walk = a })) is c) in
          (kept.0, subst (λ (m : ℕ). Contains (row_of after m) (record { place = p; walk = kept.0 })) (sym is) kept.1, kept.2)
      | inr other ↦
          (a, subst (λ (r : List (Link W)). Contains r (record { place = p; walk = a })) (sym (improved.others j other)) c, same a)
    ]

  -- no link gets worse over several steps
  pub no_worse_than : (F : FactorData W) (x y : ℕ) (a b : W) → LeadsNoWorse C F x y a → IsTrue (C.no_worse a b) → LeadsNoWorse C F x y b
  no_worse_than F x y a b l h = (l.0, l.1, ordered.transitive l.0 a b l.2 h)

  pub still_leads : (low : ℕ) (F G : FactorData W) → Improves C low F G → (x y : ℕ) (a : W) → LeadsNoWorse C F x y a → LeadsNoWorse C G x y a
  still_leads low F G improves x y a l = no_worse_than G x y l.0 a (improves.kept x y l.0 l.1) l.2

  pub improves_none : (low : ℕ) (F : FactorData W) → Improves C low F F
  improves_none low F = record {
    order = refl;
    places = refl;
    leaving = λ i h. refl;
    entering = λ i h. refl;
    kept = λ x y a l. (a, l, same a);
  }

  pub improves_more : (low : ℕ) (F G H : FactorData W) → Improves C low F G → Improves C low G H → Improves C low F H
  improves_more low F G H first second = record {
    order = second.order ∙ first.order;
    places = second.places ∙ first.places;
    leaving = λ i h. second.leaving i h ∙ first.leaving i h;
    entering = λ i h. second.entering i h ∙ first.entering i h;
    kept = λ x y a l. still_leads low G H second x y a (first.kept x y a l);
  }

  pub improves_lower : (low less : ℕ) (F G : FactorData W) → less ≤ low → Improves C low F G → Improves C less F G
  improves_lower low less F G h improves = record {
    order = improves.order;
    places = improves.places;
    leaving = λ i l. improves.leaving i (omega (arith, l, h));
    entering = λ i l. improves.entering i (omega (arith, l, h));
    kept = improves.kept;
  }

  -- links that are closed at a place stay so while its row is the same
  pub stays_closed : (marks : List Bool) (low : ℕ) (F G : FactorData W) → Improves C low F G → (v : ℕ) → v < low → IsClosedOn C marks F v → IsClosedOn C marks G v
  stays_closed marks low F G improves v h closed = λ x y a b falls rises other on.
      still_leads low F G improves x y (C.compose a b)
      (closed x y a b
      (subst (λ (r : List (Link W)). Contains r (record { place = x; walk = a })) (improves.entering v h) falls)
      (subst (λ (r : List (Link W)). Contains r (record { place = y; walk = b })) (improves.leaving v h) rises) other on)

  -- no link gets worse if both of an edge are made better
  pub both_improve : (F : FactorData W) (x : ℕ) (e : Edge W) (rows : LinkRows W) →
      AreEdgesImproved C (record { leaving = F.leaving; entering = F.entering }) x e rows → (least : ℕ) → least ≤ x →
      Improves C least F (record { order = F.order; places = F.places; leaving = rows.leaving; entering = rows.entering })
  both_improve F x e rows improved least h = record {
    order = refl;
    places = refl;
    leaving = λ i l. improved.leaving.others i (λ e. omega (arith, l, h, e));
    entering = λ i l. improved.entering.others i (λ e. omega (arith, l, h, e));
    kept = λ p q b l. elim l [
      | inl rises ↦ let k = kept_at F.leaving rows.leaving x (rising e) improved.leaving p q b rises in (k.0, inl k.1, k.2)
      | inr falls ↦ let k = kept_at F.entering rows.entering x (falling e) improved.entering q p b falls in (k.0, inr k.1, k.2)
    ];
  }

  -- both ways between a lesser place and a greater one
  module _ (A : Algebra V) (g : GraphData) (F : FactorData W) (begun : IsBegun A C g F) (x y : ℕ) (there back : W)
      (onward : IsLinkUnder A C g F x x y there) (homeward : IsLinkUnder A C g F x y x back)
      (less : x < y) (low : y < g.vertices) (rows : LinkRows W) (same_heads : heads_in rows.leaving ≡ heads_in F.leaving)
      (improved : AreEdgesImproved C (record { leaving = F.leaving; entering = F.entering }) x (record { place = y; leaving = there; entering = back }) rows) where
    is_worth : (l k p u q v : ℕ) (b a : W) → l ≡ k → p ≡ u → q ≡ v → b ≡ a → IsLinkUnder A C g F k u v a → IsLinkUnder A C g F l p q b
    is_worth l k p u q v b a under from to walk worth =
        subst (λ (w : W). IsLinkUnder A C g F l p q w) (sym walk)
        (subst (λ (j : ℕ). IsLinkUnder A C g F l p j a) (sym to)
        (subst (λ (j : ℕ). IsLinkUnder A C g F l j v a) (sym from)
        (subst (λ (j : ℕ). IsLinkUnder A C g F j u v a) (sym under) worth)))

    abbrev riser : Link W
    riser = record { place = y; walk = there }

    abbrev faller : Link W
    faller = record { place = y; walk = back }

    abbrev whole : FactorData W
    whole = record { order = F.order; places = F.places; leaving = rows.leaving; entering = rows.entering }

    still_under : (l p q : ℕ) (b : W) → IsLinkUnder A C g F l p q b → IsLinkUnder A C g whole l p q b
    still_under l p q b worth =
        subst (λ (h : List (List ℕ)). IsWorthUnder A C g h F.places l (vertex_at F p) (vertex_at F q) b) (sym same_heads) worth

    both_rising : (p q : ℕ) (b : W) → Rises whole p q b → IsLinkUnder A C g whole p p q b
    both_rising p q b c = still_under p p q b (elim (given_at F.leaving rows.leaving x riser improved.leaving p (record { place = q; walk = b }) c) [
      | inl old ↦ begun.rising p q b old
      | inr new ↦ is_worth p x p x q y b there new.0 new.0 new.1 new.2 onward
    ])

    both_falling : (p q : ℕ) (b : W) → Falls whole p q b → IsLinkUnder A C g whole q p q b
    both_falling p q b c = still_under q p q b (elim (given_at F.entering rows.entering x faller improved.entering q (record { place = p; walk = b }) c) [
      | inl old ↦ begun.falling p q b old
      | inr new ↦ is_worth q x p y q x b back new.0 new.1 new.0 new.2 homeward
    ])

    pub both_begun : IsBegun A C g whole
    both_begun = record {
      ordering = begun.ordering;
      links = record {
        leaving_count = improved.leaving.count ∙ begun.links.leaving_count;
        entering_count = improved.entering.count ∙ begun.links.entering_count;
        rising = λ p q b c. elim (given_at F.leaving rows.leaving x riser improved.leaving p (record { place = q; walk = b }) c) [
          | inl old ↦ begun.links.rising p q b old
          | inr new ↦ (omega (arith, new.0, new.1, less), omega (arith, new.1, low))
        ];
        falling = λ p q b c. elim (given_at F.entering rows.entering x faller improved.entering q (record { place = p; walk = b }) c) [
          | inl old ↦ begun.links.falling p q b old
          | inr new ↦ (omega (arith, new.0, new.1, less), omega (arith, new.1, low))
        ];
        sound = sound_of A C g whole both_rising both_falling;
      };
      rising = both_rising;
      falling = both_falling;
    }
