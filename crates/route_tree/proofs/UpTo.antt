-- Labels that are best up to a target: the search back from it goes along the same arcs as by best
-- labels.
use Rattle.route_tree.proofs.Words.{◌≡◌, ℕ, ◌+◌, inl, inr, Bool, true, false, cond, List, [], ◌∷◌, length, refl, ap, sym, ◌∙◌, subst, Option, Some, None, All-nil, All-cons, All-head, All-tail, IsTrue, Contains, All, GraphData, IsGraph, HasVertex, HasArc, arc_of, Algebra, IsLawful, IsWalkOf, IsLeastAt, AreLeast, IsTreeArc, IsLeastTail, AreLeastTails, IsParentRoute, IsRoute}
use Rattle.std.proofs.lemmas.Bool.{cases_Bool}
use Rattle.path_algebra.specs.Walks.{IsWalk, AreWalkValues, AreBest, AreHops, IsBestCode, IsUnreached, IsBestLabel, label_of, is_marked, is_tight, is_tight_between, is_reached_by}
use Rattle.path_algebra.proofs.Walks.{walk_value_is_value}
use Rattle.path_algebra.proofs.Tight.{best_at, labelled}
use Rattle.path_algebra.proofs.Least.{same_no_worse}
use Rattle.path_plain.specs.UpTo.{AreBestUpTo}
use Rattle.route_tree.specs.Regions.{Covers, LeadTo, VisitingBack, is_tight_into}
use Rattle.route_tree.specs.Found.{IsFoundIn, IsPairFound}
use Rattle.route_tree.specs.declared.found.Found.{Found}
use Rattle.route_tree.proofs.Told.{from_one}
use Rattle.route_tree.proofs.RegionTrees.{no_route, route_told}

-- the search back marks only vertices from which it came
pub back_leads : (g : GraphData) (test : ℕ → Bool) (target k : ℕ) (marks : List Bool) (level next : List ℕ) → VisitingBack g test target k marks level [] next → LeadTo g test target marks
back_leads g test target k marks level next known = λ v in_v m. elim (known.attained v in_v m) [
  | inl walk ↦ (k, walk)
  | inr waits ↦ (k + 1, (known.next_at v waits).1)
]

-- a test that agrees with another on each arc of a graph
module _ (g : GraphData) (one two : ℕ → Bool) (agree : (a : ℕ) → HasArc g a → one a ≡ two a) where
  all_agree : (u : ℕ) (p : List ℕ) (v : ℕ) → IsWalk g u p v → All (λ a. IsTrue (one a)) p → All (λ a. IsTrue (two a)) p
  all_agree u [] v w h = All-nil (λ a. IsTrue (two a))
  all_agree u (a ∷ p) v w h =
      All-cons (λ b. IsTrue (two b)) a p (sym (agree a w.0) ∙ All-head (λ b. IsTrue (one b)) a p h) (all_agree (arc_of g a).head p v w.2 (All-tail (λ b. IsTrue (one b)) a p h))

  walk_agrees : (sources : List ℕ) (v k : ℕ) → IsWalkOf g one sources v k → IsWalkOf g two sources v k
  walk_agrees sources v k w = (w.0, w.1, all_agree w.1.0 w.0 v w.1.2 w.2, w.3)

  tree_arc_agrees : (hops : List (Option ℕ)) (a : ℕ) → IsTreeArc g one hops a → IsTreeArc g two hops a
  tree_arc_agrees hops a t = record { arc = t.arc; passes = sym (agree a t.arc) ∙ t.passes; near = t.near; at_tail = t.at_tail; at_head = t.at_head }

-- has the same least hops and tails
module _ (g : GraphData) (one two : ℕ → Bool) (agree : (a : ℕ) → HasArc g a → one a ≡ two a) where
  back : (a : ℕ) → HasArc g a → two a ≡ one a
  back a h = sym (agree a h)

  least_at : (sources : List ℕ) (v : ℕ) (l : Option ℕ) → IsLeastAt g one sources v l → IsLeastAt g two sources v l
  least_at sources v None h = λ k w. h k (walk_agrees g two one back sources v k w)
  least_at sources v (Some k) h = (walk_agrees g one two agree sources v k h.0, λ j w. h.1 j (walk_agrees g two one back sources v j w))

  pub least_agree : (sources : List ℕ) (hops : List (Option ℕ)) → AreLeast g one sources hops → AreLeast g two sources hops
  least_agree sources hops h = record { count = h.count; least = λ v in_v. least_at sources v (label_of hops v) (h.least v in_v) }

  tail_of : (hops : List (Option ℕ)) (v : ℕ) (l : Option ℕ) → IsLeastTail g one hops v l → IsLeastTail g two hops v l
  tail_of hops v None h = λ a t e. h a (tree_arc_agrees g two one back hops a t) e
  tail_of hops v (Some u) h =
      ((h.0.0, tree_arc_agrees g one two agree hops h.0.0 h.0.1, h.0.2, h.0.3), λ a t e. h.1 a (tree_arc_agrees g two one back hops a t) e)

  pub tails_agree : (hops parents : List (Option ℕ)) → AreLeastTails g one hops parents → AreLeastTails g two hops parents
  tails_agree hops parents h = record { count = h.count; tails = λ v in_v. tail_of hops v (label_of parents v) (h.tails v in_v) }

module _ {V : Type 0} (A : Algebra V) where
  reached_by : (o : Option V) (y : V) → is_reached_by A.no_worse o y ≡ true → (z : V) × (o ≡ Some z) × IsTrue (A.no_worse z y)
  reached_by None y h = cc
  reached_by (Some z) y h = (z, refl, h)

  between : (l : Option V) (w : ℕ) (m : Option V) → is_tight_between A l w m ≡ true → (x y z : V) × (l ≡ Some x) × (m ≡ Some y) × (A.extend x w ≡ Some z) × IsTrue (A.no_worse z y)
  between None w m h = cc
  between (Some x) w None h = cc
  between (Some x) w (Some y) h = let r = reached_by (A.extend x w) y h in (x, y, r.0, refl, refl, r.1, r.2)

-- `whole` are best labels, t that of the target, and `labels` are best up to the target
module _ {V : Type 0} (A : Algebra V) (lawful : IsLawful A) (g : GraphData) (roads : IsGraph g) (sources : List ℕ) (target : ℕ) (in_target : HasVertex g target)
    (whole : List (Option V)) (best : AreBest A g sources whole) (t : V) (at_target : label_of whole target ≡ Some t) where
  -- the best value of v is no worse than the target's
  abbrev pub IsNear : ℕ → Type 0
  IsNear v = (x : V) × (label_of whole v ≡ Some x) × IsTrue (A.no_worse x t)

  target_near : IsNear target
  target_near = (t, at_target, same_no_worse A.no_worse lawful.ordered t)

  -- an arc that looks tight by values of walks, into a near vertex that has its best value, comes
  -- from a near one
  pub tail_is_near : (labels : List (Option V)) → AreWalkValues A g sources labels → (a : ℕ) → HasArc g a → label_of labels (arc_of g a).head ≡ label_of whole (arc_of g a).head →
      IsNear (arc_of g a).head → is_tight A g labels a ≡ true → IsNear (arc_of g a).tail
  tail_is_near labels values a h same near tight =
      let ends = roads.ends a h in
      let b = between A (label_of labels (arc_of g a).tail) (arc_of g a).weight (label_of labels (arc_of g a).head) tight in
      let walk = values (arc_of g a).tail b.0 ends.0 b.3 in
      let both : Some b.1 ≡ Some near.0 = sym b.4 ∙ same ∙ near.1 in
      let is : b.1 ≡ near.0 = cc in
      let on = lawful.never_better b.0 (arc_of g a).weight b.2 (walk_value_is_value A lawful g roads sources (arc_of g a).tail b.0 walk) (roads.weights a h) b.5 in
      let up = lawful.ordered.transitive b.0 b.2 b.1 on b.6 in
      let low : IsTrue (A.no_worse b.0 near.0) = subst (λ (q : V). IsTrue (A.no_worse b.0 q)) is up in
      let l = labelled A lawful g roads sources whole best (arc_of g a).tail (label_of whole (arc_of g a).tail) ends.0 refl b.0 walk in
      (l.0, l.1, lawful.ordered.transitive l.0 b.0 t l.2 (lawful.ordered.transitive b.0 near.0 t low near.2))

  module _ (labels : List (Option V)) (up : AreBestUpTo A g sources target labels) where
    near_label : (v : ℕ) → HasVertex g v → IsNear v → label_of labels v ≡ label_of whole v
    near_label v in_v n =
        up.near t (best_at A lawful g roads sources whole best target t in_target at_target) v n.0 in_v (best_at A lawful g roads sources whole best v n.0 in_v n.1) n.2 ∙ sym n.1

    whole_values : AreWalkValues A g sources whole
    whole_values v x in_v e = (best_at A lawful g roads sources whole best v x in_v e).attained

    of_near : (a : ℕ) → HasArc g a → IsNear (arc_of g a).head → IsNear (arc_of g a).tail → is_tight A g labels a ≡ is_tight A g whole a
    of_near a h head tail =
        let ends = roads.ends a h in
        rw (near_label (arc_of g a).tail ends.0 tail, near_label (arc_of g a).head ends.1 head) refl

    -- into near vertices the same arcs look tight
    pub same_test : (a : ℕ) → HasArc g a → IsNear (arc_of g a).head → is_tight A g labels a ≡ is_tight A g whole a
    same_test a h near =
        let ends = roads.ends a h in
        elim (cases_Bool (is_tight A g labels a)) [
          | inl looks ↦ of_near a h near (tail_is_near labels up.values a h (near_label (arc_of g a).head ends.1 near) near looks)
          | inr loose ↦ elim (cases_Bool (is_tight A g whole a)) [
            | inl looks ↦ of_near a h near (tail_is_near whole whole_values a h refl near looks)
            | inr also ↦ loose ∙ sym also
          ]
        ]

    -- a walk to the target that looks tight passes near vertices alone, and is one by best labels
    back_near : (v : ℕ) (p : List ℕ) → IsWalk g v p target → All (λ a. IsTrue (is_tight A g labels a)) p → IsNear v × All (λ a. IsTrue (is_tight A g whole a)) p
    back_near v [] w all = (subst (λ (u : ℕ). IsNear u) (sym w) target_near, All-nil (λ a. IsTrue (is_tight A g whole a)))
    back_near v (a ∷ p) w all =
        let ends = roads.ends a w.0 in
        let looks = All-head (λ b. IsTrue (is_tight A g labels b)) a p all in
        let rest = back_near (arc_of g a).head p w.2 (All-tail (λ b. IsTrue (is_tight A g labels b)) a p all) in (
          subst (λ (u : ℕ). IsNear u) w.1 (tail_is_near labels up.values a w.0 (near_label (arc_of g a).head ends.1 rest.0) rest.0 looks),
          All-cons (λ b. IsTrue (is_tight A g whole b)) a p (sym (same_test a w.0 rest.0) ∙ looks) rest.1,
        )

    -- and the other way round
    whole_near : (v : ℕ) (p : List ℕ) → IsWalk g v p target → All (λ a. IsTrue (is_tight A g whole a)) p → IsNear v × All (λ a. IsTrue (is_tight A g labels a)) p
    whole_near v [] w all = (subst (λ (u : ℕ). IsNear u) (sym w) target_near, All-nil (λ a. IsTrue (is_tight A g labels a)))
    whole_near v (a ∷ p) w all =
        let looks = All-head (λ b. IsTrue (is_tight A g whole b)) a p all in
        let rest = whole_near (arc_of g a).head p w.2 (All-tail (λ b. IsTrue (is_tight A g whole b)) a p all) in (
          subst (λ (u : ℕ). IsNear u) w.1 (tail_is_near whole whole_values a w.0 refl rest.0 looks),
          All-cons (λ b. IsTrue (is_tight A g labels b)) a p (same_test a w.0 rest.0 ∙ looks) rest.1,
        )

    module _ (source : ℕ) (marks : List Bool) where
      pub covers_whole : Covers g (is_tight A g labels) source target marks → Covers g (is_tight A g whole) source target marks
      covers_whole covers = λ v k within low.
          covers v k (within.0, within.1, (whole_near v within.0 within.1 within.2).1, within.3)
          (λ j w. low j (w.0, w.1, (back_near w.1.0 w.0 w.1.2 w.2).1, w.3))

      pub same_into : LeadTo g (is_tight A g labels) target marks → (a : ℕ) → HasArc g a → is_tight_into A g labels (Some marks) a ≡ is_tight_into A g whole (Some marks) a
      same_into lead a h = elim (cases_Bool (is_marked marks (arc_of g a).head)) [
        | inl m ↦
            let walk = (lead (arc_of g a).head ((roads.ends a h).1) m).1 in
            let near = (back_near (arc_of g a).head walk.0 walk.1 walk.2).0 in
            ap (λ (b : Bool). cond (is_marked marks (arc_of g a).head) b false) (same_test a h near)
        | inr none ↦ rw none refl
      ]

module _ {V : Type 0} (A : Algebra V) (lawful : IsLawful A) (g : GraphData) (roads : IsGraph g) (source target : ℕ) (in_source : All (HasVertex g) (source ∷ []))
    (in_s : (s : ℕ) → Contains (source ∷ []) s → HasVertex g s) (in_target : HasVertex g target)
    (whole : List (Option V)) (best : AreBest A g (source ∷ []) whole)
    (labels : List (Option V)) (up : AreBestUpTo A g (source ∷ []) target labels)
    (marks : List Bool) (covers : Covers g (is_tight A g labels) source target marks) (lead : LeadTo g (is_tight A g labels) target marks)
    (near adopted : List (Option ℕ)) (near_least : AreLeast g (is_tight_into A g labels (Some marks)) (source ∷ []) near)
    (near_tails : AreLeastTails g (is_tight_into A g labels (Some marks)) near adopted) where
  -- one of two: the target is unreached and all labels are best, or its best value is t
  no_route_by : (l : Option V) → label_of whole target ≡ l → label_of near target ≡ None → IsUnreached A g (source ∷ []) target
  no_route_by None e = λ f. subst (λ (l : Option V). IsBestLabel A g (source ∷ []) target l) e (best.best target in_target)
  no_route_by (Some t) e =
      let agree = same_into A lawful g roads (source ∷ []) target in_target whole best t e labels up source marks lead in
      let one = is_tight_into A g labels (Some marks) in
      let two = is_tight_into A g whole (Some marks) in
      no_route A lawful g roads source target in_source in_s in_target whole best marks
      (covers_whole A lawful g roads (source ∷ []) target in_target whole best t e labels up source marks covers) near adopted
      (least_agree g one two agree (source ∷ []) near near_least) (tails_agree g one two agree near adopted near_tails)

  pub no_route_up_to : label_of near target ≡ None → IsUnreached A g (source ∷ []) target
  no_route_up_to = no_route_by (label_of whole target) refl

  route_by : (l : Option V) → label_of whole target ≡ l → (k : ℕ) (list : List ℕ) → label_of near target ≡ Some k → IsRoute (record { hops = near; parents = adopted }) target list →
      AreHops A g (source ∷ []) target k × IsParentRoute A g (source ∷ []) target list
  route_by None e =
      let none : IsUnreached A g (source ∷ []) target = subst (λ (l : Option V). IsBestLabel A g (source ∷ []) target l) e (best.best target in_target) in
      route_told A lawful g roads source target in_source in_s in_target labels (up.all none) marks covers near adopted near_least near_tails
  route_by (Some t) e =
      let agree = same_into A lawful g roads (source ∷ []) target in_target whole best t e labels up source marks lead in
      let one = is_tight_into A g labels (Some marks) in
      let two = is_tight_into A g whole (Some marks) in
      route_told A lawful g roads source target in_source in_s in_target whole best marks
      (covers_whole A lawful g roads (source ∷ []) target in_target whole best t e labels up source marks covers) near adopted
      (least_agree g one two agree (source ∷ []) near near_least) (tails_agree g one two agree near adopted near_tails)

  pub route_told_up_to : (k : ℕ) (list : List ℕ) → label_of near target ≡ Some k → IsRoute (record { hops = near; parents = adopted }) target list →
      AreHops A g (source ∷ []) target k × IsParentRoute A g (source ∷ []) target list
  route_told_up_to = route_by (label_of whole target) refl

  -- what the held tree shows of the target is what is found of the pair
  pub pair_found_up_to : (code : ℕ) → IsBestCode A g (source ∷ []) target code → (found : Option Found) →
      IsFoundIn (record { hops = near; parents = adopted }) code target found → IsPairFound A g source target found
  pair_found_up_to code best_code None e = no_route_up_to e
  pair_found_up_to code best_code (Some f) e =
      let told = route_told_up_to f.hops f.route.items e.1 e.2 in
      record {
        code = subst (IsBestCode A g (source ∷ []) target) (sym e.0) best_code;
        hops = told.0;
        route = from_one A g source target f.route.items told.1;
      }
