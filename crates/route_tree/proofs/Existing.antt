-- Trees and routes exist: by visiting the levels in thought.
use Rattle.route_tree.proofs.Words.{add-one, ◌≡◌, ℕ, zero, suc, ◌+◌, ◌-◌, ◌<◌, ◌≤◌, Bool, true, false, cond, List, [], ◌∷◌, ◌++◌, length, get_or, set, replicate, reverse, take, refl, sym, ◌∙◌, subst, arith, Option, Some, None, length-append, get_or_default, All, GraphData, IsGraph, HasVertex, arc_of, Algebra, IsLawful, AreBest, is_tight, label_of, all_inside, Branches, hops_of, parent_of, IsTree, IsLinked, IsRoute}
use Rattle.std.proofs.Math.Seq.{take-length}
use Rattle.std.proofs.lemmas.List.Sums.{sum_by-set}
use Rattle.road_graph.specs.Making.{numbers_at}
use Rattle.road_graph.specs.declared.Side.TheVariants.{Tail}
use Rattle.road_graph.proofs.Numbers.{lists_from}
use Rattle.route_tree.specs.Levels.{AreLeast, AreLeastTails, IsMarked, Visiting, hops_if, parents_if, next_if, one_if_unreached, unreached}
use Rattle.route_tree.proofs.OneArc.{visit_arc}
use Rattle.route_tree.proofs.OneVertex.{visit_open, visit_level}
use Rattle.route_tree.proofs.Marking.{marked_start, marked_once, marked_visits}
use Rattle.route_tree.proofs.LevelsAreLeast.{hops_are_least, parents_are_least}
use Rattle.route_tree.proofs.Trees.{tree_is, linked}
use Rattle.route_tree.proofs.Chains.{Climbing, climb, climb_hops, climbed, climb_start}

-- reaching moves one vertex from the open ones to the next level
reach_size : (k v : ℕ) (hops : List (Option ℕ)) (next : List ℕ) (l : Option ℕ) → label_of hops v ≡ l → v - 1 < length hops →
    unreached (hops_if k hops v l) + length (next_if next v l) ≡ unreached hops + length next
reach_size k v hops next (Some j) e lt = refl
reach_size k v hops next None e lt =
    let f = sum_by-set one_if_unreached hops (v - 1) (Some k) None lt in
    let was : unreached (set hops (v - 1) (Some k)) + 1 ≡ unreached hops + 0 = rw e at f in
    let n = length-append next (v ∷ []) in
    omega (arith, was, n)

module _ (g : GraphData) (roads : IsGraph g) (test : ℕ → Bool) (sources : List ℕ) where
  -- a search that has gone on, with as many vertices unreached or waiting as before
  abbrev Visited : ℕ → List ℕ → ℕ → Type 0
  Visited k pending size = (hops parents : List (Option ℕ)) × (next : List ℕ) × Visiting g test sources k hops parents pending [] next × (unreached hops + length next ≡ size)

  step_size : (k v : ℕ) (b : Bool) (hops : List (Option ℕ)) (next : List ℕ) → v - 1 < length hops →
      unreached (cond b (hops_if k hops v (label_of hops v)) hops) + length (cond b (next_if next v (label_of hops v)) next) ≡ unreached hops + length next
  step_size k v true hops next lt = reach_size k v hops next (label_of hops v) refl lt
  step_size k v false hops next lt = refl

  through_arcs : (k : ℕ) (pending arcs : List ℕ) (hops parents : List (Option ℕ)) (next : List ℕ) → Visiting g test sources k hops parents pending arcs next →
      Visited k pending (unreached hops + length next)
  through_arcs k pending [] hops parents next known = (hops, parents, next, known, refl)
  through_arcs k pending (a ∷ arcs) hops parents next known =
      let head = (arc_of g a).head in
      let this = (known.arcs_at a (0, omega arith, refl)).0 in
      let in_head = (roads.ends a this).1 in
      let size = step_size (k + 1) (arc_of g a).head (test a) hops next (omega (arith, in_head.0, in_head.1, known.count)) in
      let rest = through_arcs k pending arcs (cond (test a) (hops_if (k + 1) hops head (label_of hops head)) hops)
      (cond (test a) (parents_if (k + 1) parents head (arc_of g a).tail (label_of hops head)) parents)
      (cond (test a) (next_if next head (label_of hops head)) next) (visit_arc g roads test sources k hops parents pending next arcs a known (test a) refl (label_of hops head) refl) in
      (rest.0, rest.1, rest.2, rest.3, rest.4 ∙ size)

  through_level : (k : ℕ) (pending : List ℕ) (hops parents : List (Option ℕ)) (next : List ℕ) → Visiting g test sources k hops parents pending [] next → Visited k [] (unreached hops + length next)
  through_level k [] hops parents next known = (hops, parents, next, known, refl)
  through_level k (v ∷ pending) hops parents next known =
      let arcs = numbers_at Tail v 0 g.arcs in
      let one = through_arcs k pending arcs hops parents next (visit_open g test sources k hops parents v pending next arcs (lists_from g v) known) in
      let rest = through_level k pending one.0 one.1 one.2 one.3 in
      (rest.0, rest.1, rest.2, rest.3, rest.4 ∙ one.4)

  through_all : (n k : ℕ) (hops parents : List (Option ℕ)) (level : List ℕ) → Visiting g test sources k hops parents level [] [] → unreached hops + length level ≤ n →
      (least parent : List (Option ℕ)) × AreLeast g test sources least × AreLeastTails g test least parent
  through_all n k hops parents [] known le = (hops, parents, hops_are_least g test sources k hops parents known, parents_are_least g test sources k hops parents known)
  through_all zero k hops parents (v ∷ level) known le = absurd (omega (arith, le))
  through_all (suc n) k hops parents (v ∷ level) known le =
      let next = through_level k (v ∷ level) hops parents [] known in
      let size = next.4 in
      through_all n (k + 1) next.0 next.1 next.2 (visit_level g test sources k next.0 next.1 next.2 next.3) (omega (arith, le, size))

  marked_upto : (i : ℕ) → i ≤ length sources → All (HasVertex g) sources → (hops : List (Option ℕ)) × (level : List ℕ) × IsMarked g.vertices sources (take i sources) hops level
  marked_upto zero le inside = (replicate g.vertices None, [], marked_start g.vertices sources)
  marked_upto (suc i) le inside =
      let before = marked_upto i (omega (arith, le)) inside in
      let v = get_or sources i 0 in
      let lt : i < length sources = omega (arith, le) in
      let in_v = inside i 0 lt in
      let l = label_of before.0 v in (
        hops_if 0 before.0 v l,
        next_if before.1 v l,
        rw (← add-one) (marked_once g.vertices sources i v before.0 before.1 (hops_if 0 before.0 v l) (next_if before.1 v l) lt
            (sym (get_or_default sources i v 0 lt)) in_v.0 in_v.1 refl refl before.2),
      )

  pub least_exist : All (HasVertex g) sources → (hops parents : List (Option ℕ)) × AreLeast g test sources hops × AreLeastTails g test hops parents
  least_exist inside =
      let first = marked_upto (length sources) (omega arith) inside in
      let marked = subst (λ (done : List ℕ). IsMarked g.vertices sources done first.0 first.1) (take-length sources) first.2 in
      through_all (unreached first.0 + length first.1) 0 first.0 (replicate g.vertices None) first.1 (marked_visits g roads test sources first.0 first.1 inside marked) (omega arith)

module _ (t : Branches) (linked : IsLinked t) (target : ℕ) where
  climb_on : (n at : ℕ) (items : List ℕ) (known : Climbing t target at items) → known.hops ≤ n → (l : Option ℕ) → parent_of t at ≡ l → (list : List ℕ) × IsRoute t target list
  climb_on n at items known le None e = (reverse items, climbed t linked target at items known e)
  climb_on zero at items known le (Some u) e = let one = climb_hops t linked target at items known u e in absurd (omega (arith, one, le))
  climb_on (suc n) at items known le (Some u) e =
      let one = climb_hops t linked target at items known u e in
      climb_on n u (items ++ u ∷ []) (climb t linked target at items known u e) (omega (arith, one, le)) (parent_of t u) refl

  -- each vertex with hops has a route
  route_exists : 1 ≤ target → target ≤ length t.hops → (k : ℕ) → hops_of t target ≡ Some k → (list : List ℕ) × IsRoute t target list
  route_exists low high k e =
      let start = climb_start t target (hops_of t target) low high refl (λ none. let bad : None ≡ Some k = sym none ∙ e in cc) in
      climb_on start.hops target (target ∷ []) start (omega arith) (parent_of t target) refl

pub tree_exists : {V : Type 0} (A : Algebra V) → IsLawful A → (g : GraphData) → IsGraph g → (sources : List ℕ) → All (HasVertex g) sources → (labels : List (Option V)) → AreBest A g sources labels →
    (t : Branches) × IsTree A g sources t × IsLinked t × ((v k : ℕ) → HasVertex g v → hops_of t v ≡ Some k → (list : List ℕ) × IsRoute t v list)
tree_exists A lawful g roads sources inside labels best =
    let least = least_exist g roads (is_tight A g labels) sources inside in
    let in_s = all_inside g sources inside in
    let t : Branches = record { hops = least.0; parents = least.1 } in
    let is_linked = linked g roads (is_tight A g labels) sources least.0 least.2 least.1 least.3 in (
      t,
      tree_is A lawful g roads sources in_s labels best least.0 least.2 least.1 least.3,
      is_linked,
      λ v k in_v e. route_exists t is_linked v in_v.0 (let n = least.2.count in omega (arith, in_v.1, n)) k e,
    )
