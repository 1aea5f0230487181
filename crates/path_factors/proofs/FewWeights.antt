-- What few other weights change: the links of places above the changed arcs.
use Rattle.path_factors.proofs.Words.{◌≡◌, ℕ, zero, suc, ◌+◌, ◌-◌, ◌<◌, ◌≤◌, ◌⊎◌, inl, inr, Bool, true, false, List, [], ◌∷◌, length, set, get_or, refl, ap, sym, ◌∙◌, subst, arith, All, Contains, cases_Bool, cases_eq, cases_lt, get_or-set_same, get_or-set_other, is_on, GraphData, HasArc, arc_of, Algebra, Composition, IsComposition, Link, FactorData, Rises, Falls, LeadsNoWorse, FactorState, AreArcsJoined, AreHeads, AreBlanked, ArePlaces, IsBegun, IsHead, IsJoined, IsAncestor, IsUp, IsTreeParent, IsKnownUpward, IsLesserOn, IsOutline, IsUnder, IsWhole, IsWholeBut, IsWorthUnder, heads_in, place_of, row_of, vertex_at, LinkRows, IsOpen}
use Rattle.std.proofs.lemmas.List.Elements.{All-cons, All-head, All-nil, All-tail}
use Rattle.road_graph.specs.declared.RoadArc.{RoadArc}
use Rattle.path_algebra.specs.Walks.{IsWalk, Extends}
use Rattle.path_factors.specs.Reweighing.{AreMarkedAt, DiffersAt, Fits}
use Rattle.path_factors.proofs.Connecting.{worth_of_none}
use Rattle.path_factors.proofs.Setting.{begun_of}

-- a place was marked, and those above it up to v
pub record IsMarkedTo (heads : List (List ℕ)) (before marks : List Bool) (place v : ℕ) : Type 0 where
  pub upward : (x y : ℕ) → is_on marks x ≡ true → IsHead heads x y → (is_on marks y ≡ true) ⊎ ((y ≡ v) ⊎ IsHead heads v y)
  pub on : (is_on marks place ≡ true) ⊎ (v ≡ place)
  pub kept : (i : ℕ) → is_on before i ≡ true → is_on marks i ≡ true

module _ (n : ℕ) (heads : List (List ℕ)) (are : AreHeads n heads) (before : List Bool) (place : ℕ) where
  pub marked_none : IsKnownUpward heads before → IsMarkedTo heads before before place place
  marked_none up = record { upward = λ x y on head. inl (up x y on head); on = inr refl; kept = λ i on. on }

  pub marked_on : (marks : List Bool) (v p : ℕ) → v < length marks → IsTreeParent heads n v p → IsMarkedTo heads before marks place v →
      IsMarkedTo heads before (set marks v true) place p
  marked_on marks v p lt parent done =
      let here : is_on (set marks v true) v ≡ true = get_or-set_same marks v true false lt in
      let still : (i : ℕ) → is_on marks i ≡ true → is_on (set marks v true) i ≡ true =
      λ i on. elim (cases_eq i v) [
        | inl is ↦ subst (λ (q : ℕ). is_on (set marks v true) q ≡ true) (sym is) here
        | inr other ↦ get_or-set_other marks v i true false other ∙ on
      ] in
      let above : (y : ℕ) → IsHead heads v y → (y ≡ p) ⊎ IsHead heads p y =
      λ y head. elim (cases_eq y p) [
        | inl is ↦ inl is
        | inr other ↦ elim parent.one [
          | inl none ↦ absurd (omega (arith, none, parent.least y head, (are.rising v y head).1))
          | inr up ↦ inr (are.nested v p y up head (omega (arith, parent.least y head, other)))
        ]
      ] in
      record {
        upward = λ x y on head. elim (cases_eq x v) [
          | inl is ↦ inr (above y (subst (λ (q : ℕ). IsHead heads q y) is head))
          | inr other ↦ elim (done.upward x y (sym (get_or-set_other marks v x true false other) ∙ on) head) [
            | inl was ↦ inl (still y was)
            | inr next ↦ elim next [
              | inl is ↦ inl (subst (λ (q : ℕ). is_on (set marks v true) q ≡ true) (sym is) here)
              | inr up ↦ inr (above y up)
            ]
          ]
        ];
        on = elim done.on [
          | inl was ↦ inl (still place was)
          | inr is ↦ inl (subst (λ (q : ℕ). is_on (set marks v true) q ≡ true) is here)
        ];
        kept = λ i on. still i (done.kept i on);
      }

  pub marked_upward : (marks : List Bool) (v : ℕ) → n ≤ v → IsMarkedTo heads before marks place v → IsKnownUpward heads marks
  marked_upward marks v past done = λ x y on head. elim (done.upward x y on head) [
    | inl was ↦ was
    | inr next ↦ elim next [
      | inl is ↦ absurd (omega (arith, is, past, (are.rising x y head).1))
      | inr up ↦ let r = are.rising v y up in absurd (omega (arith, r.0, r.1, past))
    ]
  ]

  pub marked_place : (marks : List Bool) (v : ℕ) → n ≤ v → place < n → IsMarkedTo heads before marks place v → is_on marks place ≡ true
  marked_place marks v past low done = elim done.on [
    | inl was ↦ was
    | inr is ↦ absurd (omega (arith, is, past, low))
  ]

-- the changes up to an index are marked
abbrev pub AreMarkedTo : List ℕ → List Bool → List RoadArc → ℕ → Type 0
AreMarkedTo places marks changes j =
    (d : RoadArc) (i z : ℕ) → i < j → get_or changes i d ≡ d → (z ≡ get_or places (d.tail - 1) 0) ⊎ (z ≡ get_or places (d.head - 1) 0) →
    z ≤ get_or places (d.tail - 1) 0 → z ≤ get_or places (d.head - 1) 0 → is_on marks z ≡ true

pub changes_more : (places : List ℕ) (before marks : List Bool) (changes : List RoadArc) (j : ℕ) (c : RoadArc) (place : ℕ) → AreMarkedTo places before changes j →
    ((d : RoadArc) → get_or changes j d ≡ d → c ≡ d) → place ≤ get_or places (c.tail - 1) 0 → place ≤ get_or places (c.head - 1) 0 →
    (place ≡ get_or places (c.tail - 1) 0) ⊎ (place ≡ get_or places (c.head - 1) 0) → is_on marks place ≡ true →
    ((i : ℕ) → is_on before i ≡ true → is_on marks i ≡ true) → AreMarkedTo places marks changes (j + 1)
changes_more places before marks changes j c place done same low also at on kept = λ d i z lt is ends under other. elim (cases_lt i j) [
  | inl less ↦ kept z (done d i z less is ends under other)
  | inr not_less ↦
      let at_j : i ≡ j = omega (arith, lt, not_less) in
      let one : c ≡ d = same d (ap (λ (q : ℕ). get_or changes q d) (sym at_j) ∙ is) in
      let tail : get_or places (c.tail - 1) 0 ≡ get_or places (d.tail - 1) 0 = ap (λ (q : RoadArc). get_or places (q.tail - 1) 0) one in
      let head : get_or places (c.head - 1) 0 ≡ get_or places (d.head - 1) 0 = ap (λ (q : RoadArc). get_or places (q.head - 1) 0) one in
      let both : z ≡ place = elim ends [
        | inl first ↦ elim at [
          | inl here ↦ omega (arith, first, here, tail)
          | inr here ↦ omega (arith, first, here, tail, head, under, other, low, also)
        ]
        | inr second ↦ elim at [
          | inl here ↦ omega (arith, second, here, tail, head, under, other, low, also)
          | inr here ↦ omega (arith, second, here, head)
        ]
      ] in
      subst (λ (q : ℕ). is_on marks q ≡ true) (sym both) on
]

-- above a marked place each is marked
pub up_is_on : (n : ℕ) (heads : List (List ℕ)) (marks : List Bool) → IsKnownUpward heads marks → (x y : ℕ) → y < n → is_on marks x ≡ true →
    IsAncestor heads n x y → is_on marks y ≡ true
up_is_on n heads marks upward x y low on up = walk up.0 x on up.1
  where
    walk : (k x : ℕ) → is_on marks x ≡ true → IsUp heads n k x y → is_on marks y ≡ true
    walk zero x on is = subst (λ (q : ℕ). is_on marks q ≡ true) is on
    walk (suc k) x on h = elim h.1.1.one [
      | inl none ↦ past k h.1.0 none h.1.2
      | inr head ↦ walk k h.1.0 (upward x h.1.0 on head) h.1.2
    ]
      where
        past : (k p : ℕ) → p ≡ n → IsUp heads n k p y → is_on marks y ≡ true
        past zero p none is = absurd (omega (arith, none, is, low))
        past (suc k) p none h = absurd (omega (arith, none, h.0))

-- a walk of arcs that two graphs share
module _ {V : Type 0} (A : Algebra V) (g h : GraphData) where
  abbrev pub IsShared : ℕ → Type 0
  IsShared b = HasArc g b × (arc_of g b ≡ arc_of h b)

  pub walk_shared : (p : List ℕ) (u v : ℕ) → All IsShared p → IsWalk h u p v → IsWalk g u p v
  walk_shared [] u v all is = is
  walk_shared (b ∷ p) u v all walk =
      let one = All-head IsShared b p all in (
        one.0,
        ap (λ (r : RoadArc). r.tail) one.1 ∙ walk.1,
        subst (λ (r : RoadArc). IsWalk g r.head p v) (sym one.1) (walk_shared p (arc_of h b).head v (All-tail IsShared b p all) walk.2),
      )

  pub extends_shared : (p : List ℕ) (x y : V) → All IsShared p → Extends A h x p y → Extends A g x p y
  extends_shared [] x y all is = is
  extends_shared (b ∷ p) x y all ext =
      let one = All-head IsShared b p all in (
        ext.0,
        ap (λ (r : RoadArc). A.extend x r.weight) one.1 ∙ ext.1,
        extends_shared p ext.0 y (All-tail IsShared b p all) ext.2,
      )

-- the arcs of the changed graph are joined as those before
pub still_joined : (changes : List RoadArc) (g h : GraphData) → DiffersAt changes g h → (places : List ℕ) (heads : List (List ℕ)) →
    AreArcsJoined (IsHead heads) h places → AreArcsJoined (IsHead heads) g places
still_joined changes g h differs places heads joined = λ a has.
    let n = differs.count in
    let before : HasArc h a = omega (arith, has, n) in
    subst (λ (u : ℕ). IsJoined (IsHead heads) (get_or places (u - 1) 0) (get_or places ((arc_of g a).head - 1) 0)) (sym (differs.tails a before))
    (subst (λ (u : ℕ). IsJoined (IsHead heads) (get_or places ((arc_of h a).tail - 1) 0) (get_or places (u - 1) 0)) (sym (differs.heads a before)) (joined a before))

-- so it fits
pub changed_fits : {T W : Type 0} (changes : List RoadArc) (g : GraphData) (f : FactorState T W) → DiffersAt changes g f.roads →
    IsOutline f.roads f.factor.places f.heads → Fits g f
changed_fits changes g f differs outline = record {
  vertices = differs.vertices;
  arcs = still_joined changes g f.roads differs f.factor.places f.heads outline.joined;
}

-- what holds of rows without walks at the links of marked places
pub record Changed {V W : Type 0} (A : Algebra V) (C : Composition V W) (g : GraphData) (marks : List Bool) (F : FactorData W) : Type 0 where
  pub links : IsOpen A C g F
  pub whole : IsWholeBut A C g marks F

module _ {V W : Type 0} (A : Algebra V) (C : Composition V W) (composes : IsComposition A C) (changes : List RoadArc) (g h : GraphData)
    (differs : DiffersAt changes g h) (F : FactorData W) (outline : IsOutline h F.places (heads_in F.leaving)) (whole : IsWhole A C h F)
    (marks : List Bool) (count : length marks ≡ h.vertices) (upward : IsKnownUpward (heads_in F.leaving) marks) (at : AreMarkedAt F.places marks changes)
    (rows : LinkRows W) (leaving : AreBlanked C.no_walk marks F.leaving rows.leaving) (entering : AreBlanked C.no_walk marks F.entering rows.entering)
    (aligned : heads_in F.entering ≡ heads_in F.leaving) where
  abbrev pub after : FactorData W
  after = record { order = F.order; places = F.places; leaving = rows.leaving; entering = rows.entering }

  has_still : (a : ℕ) → HasArc g a → HasArc h a
  has_still a has = let n = differs.count in omega (arith, has, n)

  has_too : (a : ℕ) → HasArc h a → HasArc g a
  has_too a has = let n = differs.count in omega (arith, has, n)

  -- the lesser place of an arc with another weight is marked
  lesser_on : (a z : ℕ) → HasArc h a → ((arc_of g a).weight ≡ (arc_of h a).weight → ⊥) →
      (z ≡ place_of F (arc_of h a).tail) ⊎ (z ≡ place_of F (arc_of h a).head) → z ≤ place_of F (arc_of h a).tail → z ≤ place_of F (arc_of h a).head →
      is_on marks z ≡ true
  lesser_on a z has other ends low also = elim (differs.weights a has) [
    | inl same ↦ absurd (other same)
    | inr c ↦
        let tail : place_of F c.0.tail ≡ place_of F (arc_of h a).tail = ap (place_of F) c.2 in
        let head : place_of F c.0.head ≡ place_of F (arc_of h a).head = ap (place_of F) c.3 in
        at c.0 z c.1 (elim ends [
          | inl first ↦ inl (first ∙ sym tail)
          | inr second ↦ inr (second ∙ sym head)
        ]) (omega (arith, low, tail)) (omega (arith, also, head))
  ]

  -- an arc under a place that is not marked is the same
  same_under : (x b : ℕ) → x < h.vertices → is_on marks x ≡ false → HasArc h b → IsUnder h (heads_in F.leaving) F.places x b → arc_of g b ≡ arc_of h b
  same_under x b low off has under = elim (cases_eq (arc_of g b).weight (arc_of h b).weight) [
    | inl same ↦ λ i. record { tail = (differs.tails b has) i; head = (differs.heads b has) i; weight = same i }
    | inr other ↦
        let t = place_of F (arc_of h b).tail in
        let d = place_of F (arc_of h b).head in
        let joined = outline.joined b has in
        let both : (is_on marks t ≡ true) × (is_on marks d ≡ true) = elim (cases_lt t d) [
          | inl less ↦
              let on = lesser_on b t has other (inl refl) (omega arith) (omega (arith, less)) in
              (on, upward t d on (joined.0 less))
          | inr not_less ↦
              let on = lesser_on b d has other (inr refl) (omega (arith, not_less)) (omega arith) in (
                elim (cases_lt d t) [
                  | inl more ↦ upward d t on (joined.1 more)
                  | inr not_more ↦ subst (λ (q : ℕ). is_on marks q ≡ true) (let is : d ≡ t = omega (arith, not_less, not_more) in is) on
                ],
                on,
              )
        ] in
        let bad : is_on marks x ≡ true = elim under [
          | inl up ↦ up_is_on h.vertices (heads_in F.leaving) marks upward t x low both.0 up
          | inr up ↦ up_is_on h.vertices (heads_in F.leaving) marks upward d x low both.1 up
        ] in
        let never : true ≡ false = sym bad ∙ off in absurd (cc)
  ]

  -- what a link of such a place is worth, it is worth in the changed graph
  worth_still : (x u v : ℕ) (a : W) → x < h.vertices → is_on marks x ≡ false → IsWorthUnder A C h (heads_in F.leaving) F.places x u v a →
      IsWorthUnder A C g (heads_in F.leaving) F.places x u v a
  worth_still x u v a low off worth = λ y z is e.
      let w = worth y z is e in
      let arcs = walk_arcs w.0 u v w.1 in
      let shared : All (IsShared A g h) w.0 =
      λ k d lt. let has = arcs k d lt in (has_too (get_or w.0 k d) has, same_under x (get_or w.0 k d) low off has (w.3 k d lt)) in (
        w.0,
        walk_shared A g h w.0 u v shared w.1,
        extends_shared A g h w.0 y z shared w.2,
        λ k d lt.
            let b = get_or w.0 k d in
            let same = (shared k d lt).1 in
            subst (λ (m : ℕ). IsUnder (record { vertices = m; arcs = g.arcs }) (heads_in F.leaving) F.places x b) (sym differs.vertices)
            (elim (w.3 k d lt) [
              | inl tail ↦ inl (subst (λ (r : RoadArc). IsAncestor (heads_in F.leaving) h.vertices (get_or F.places (r.tail - 1) 0) x) (sym same) tail)
              | inr head ↦ inr (subst (λ (r : RoadArc). IsAncestor (heads_in F.leaving) h.vertices (get_or F.places (r.head - 1) 0) x) (sym same) head)
            ]),
      )
    where
      walk_arcs : (p : List ℕ) (u v : ℕ) → IsWalk h u p v → All (HasArc h) p
      walk_arcs [] u v walk = All-nil (HasArc h)
      walk_arcs (b ∷ p) u v walk = All-cons (HasArc h) b p walk.0 (walk_arcs p (arc_of h b).head v walk.2)

  heads_after : heads_in rows.entering ≡ heads_in rows.leaving
  heads_after = entering.heads ∙ aligned ∙ sym leaving.heads

  still_heads : AreHeads g.vertices (heads_in rows.leaving)
  still_heads = subst (λ (m : ℕ). AreHeads m (heads_in rows.leaving)) (sym differs.vertices) (subst (λ (r : List (List ℕ)). AreHeads h.vertices r) (sym leaving.heads) outline.are)

  -- so it is in rows without walks at the links of marked places
  link_worth : (before now : List (List (Link W))) → AreBlanked C.no_walk marks before now → (z u v : ℕ) (k : Link W) →
      (Contains (row_of before z) k → (z < h.vertices) × IsWorthUnder A C h (heads_in F.leaving) F.places z u v k.walk) →
      Contains (row_of now z) k → IsWorthUnder A C g (heads_in rows.leaving) F.places z u v k.walk
  link_worth before now blanked z u v k was has = elim (cases_Bool (is_on marks z)) [
    | inl on ↦ subst (λ (w : W). IsWorthUnder A C g (heads_in rows.leaving) F.places z u v w) (sym (blanked.blank z k on has))
        (worth_of_none A C g (heads_in rows.leaving) F.places composes z u v)
    | inr off ↦
        let worth = was (subst (λ (r : List (Link W)). Contains r k) (blanked.rest z off) has) in
        subst (λ (r : List (List ℕ)). IsWorthUnder A C g r F.places z u v k.walk) (sym leaving.heads) (worth_still z u v k.walk worth.0 off worth.1)
  ]

  begun_after : IsBegun A C g after
  begun_after =
      begun_of A C g after (subst (λ (m : ℕ). ArePlaces m F.order F.places) (sym differs.vertices) whole.begun.ordering) still_heads heads_after
      (λ x y a. link_worth F.leaving rows.leaving leaving x (vertex_at F x) (vertex_at F y) (record { place = y; walk = a })
      (λ rises. let up = whole.begun.links.rising x y a rises in (omega (arith, up.0, up.1), whole.begun.rising x y a rises)))
      (λ x y a. link_worth F.entering rows.entering entering y (vertex_at F x) (vertex_at F y) (record { place = x; walk = a })
      (λ falls. let up = whole.begun.links.falling x y a falls in (omega (arith, up.0, up.1), whole.begun.falling x y a falls)))

  outline_after : IsOutline g F.places (heads_in rows.leaving)
  outline_after = record {
    are = still_heads;
    joined = subst (λ (r : List (List ℕ)). AreArcsJoined (IsHead r) g F.places) (sym leaving.heads)
        (still_joined changes g h differs F.places (heads_in F.leaving) outline.joined);
  }

  -- a link between two places of which the lesser is not marked is still there
  leads_still : (x y : ℕ) (a : W) → (IsLesserOn marks x y → ⊥) → LeadsNoWorse C F x y a → LeadsNoWorse C after x y a
  leads_still x y a off leads = (
    leads.0,
    (elim leads.1 [
      | inl rises ↦
          let up = whole.begun.links.rising x y leads.0 rises in
          let same = leaving.rest x (lesser_off x y x off (λ on. (λ less. on, λ more. absurd (omega (arith, more, up.0))))) in
          inl (subst (λ (r : List (Link W)). Contains r (record { place = y; walk = leads.0 })) (sym same) rises)
      | inr falls ↦
          let up = whole.begun.links.falling x y leads.0 falls in
          let same = entering.rest y (lesser_off x y y off (λ on. (λ less. absurd (omega (arith, less, up.0)), λ more. on))) in
          inr (subst (λ (r : List (Link W)). Contains r (record { place = x; walk = leads.0 })) (sym same) falls)
    ]),
    leads.2,
  )
    where
      lesser_off : (x y z : ℕ) → (IsLesserOn marks x y → ⊥) → (is_on marks z ≡ true → IsLesserOn marks x y) → is_on marks z ≡ false
      lesser_off x y z off was = elim (cases_Bool (is_on marks z)) [
        | inl on ↦ absurd (off (was on))
        | inr not ↦ not
      ]

  whole_after : IsWholeBut A C g marks after
  whole_after = record {
    marked = count ∙ sym differs.vertices;
    upward = subst (λ (r : List (List ℕ)). IsKnownUpward r marks) (sym leaving.heads) upward;
    covers = λ a has other off.
        let before = has_still a has in
        let tail = differs.tails a before in
        let head = differs.heads a before in
        let t = place_of F (arc_of h a).tail in
        let d = place_of F (arc_of h a).head in
        let off_h : IsLesserOn marks t d → ⊥ = λ on. off (subst (λ (u : ℕ). IsLesserOn marks (place_of F u) (place_of F (arc_of g a).head)) (sym tail)
        (subst (λ (u : ℕ). IsLesserOn marks t (place_of F u)) (sym head) on)) in
        let weight : (arc_of g a).weight ≡ (arc_of h a).weight = elim (cases_eq (arc_of g a).weight (arc_of h a).weight) [
          | inl same ↦ same
          | inr differ ↦ absurd (off_h (
            λ less. lesser_on a t before differ (inl refl) (omega arith) (omega (arith, less)),
            λ more. lesser_on a d before differ (inr refl) (omega (arith, more)) (omega arith),
          ))
        ] in
        let leads = leads_still t d (C.of_arc (arc_of h a).weight) off_h (whole.covers a before (λ e. other (tail ∙ e ∙ sym head))) in
        subst (λ (u : ℕ). LeadsNoWorse C after (place_of F u) (place_of F (arc_of g a).head) (C.of_arc (arc_of g a).weight)) (sym tail)
        (subst (λ (u : ℕ). LeadsNoWorse C after t (place_of F u) (C.of_arc (arc_of g a).weight)) (sym head)
        (subst (λ (w : ℕ). LeadsNoWorse C after t d (C.of_arc w)) (sym weight) leads));
    closed = λ v x y a b off falls rises other never.
        let down : Falls F x v a = subst (λ (r : List (Link W)). Contains r (record { place = x; walk = a })) (entering.rest v off) falls in
        let up : Rises F v y b = subst (λ (r : List (Link W)). Contains r (record { place = y; walk = b })) (leaving.rest v off) rises in
        let r = whole.begun.links.rising v y b up in
        leads_still x y (C.compose a b) never (whole.closed v (omega (arith, r.0, r.1)) x y a b down up other);
  }

  pub changed : Changed A C g marks after
  changed = record { links = (begun_after, outline_after); whole = whole_after }
