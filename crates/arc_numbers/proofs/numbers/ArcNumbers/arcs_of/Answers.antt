use Rattle.arc_numbers.proofs.Words.{◌≡◌, ◌∙◌, ◌-◌, ◌∷◌, [], ℕ, List, length, get_or, take, drop, sym, subst, ap, arith, take_all, GraphData, Algebra, IsBestCode, IsParentChain, AreRouteArcs}
use Rattle.route_tree.specs.Found.{IsRouteBetween}
use Rattle.arc_numbers.specs.Numbering.{Numbering}
use Rattle.arc_numbers.proofs.numbers.ArcNumbers.arcs_of.Goals as goal

module _ {V : Type 0} (A : Algebra V) (g h : GraphData) (arcs : List ℕ) where
  -- the arcs are those of the route from its first vertex along the others
  abbrev Answers : ℕ → List ℕ → Type 0
  Answers s rest = (t code : ℕ) → IsParentChain A g (s ∷ []) s rest t → IsBestCode A g (s ∷ []) t code → AreRouteArcs A h (s ∷ rest) arcs code

  of_whole : (route : List ℕ) → Answers (get_or route 0 0) (take (length route - 1) (drop 1 route)) → (s t code : ℕ) → IsRouteBetween A g s t route → IsBestCode A g (s ∷ []) t code → AreRouteArcs A h route arcs code
  of_whole route given s t code (rest, is, chain) best =
      let parted : Answers s (take (length (s ∷ rest) - 1) rest) = subst (λ (r : List ℕ). Answers (get_or r 0 0) (take (length r - 1) (drop 1 r))) is given in
      let whole : Answers s rest = subst (Answers s) (take_all (length (s ∷ rest) - 1) rest (omega arith)) parted in
      subst (λ (r : List ℕ). AreRouteArcs A h r arcs code) (sym is) (whole t code chain best)

pub returns : goal.returns
returns g c =
    let a = c.args in let A = g.A.PathAlgebra.meaning a.algebra in
    let given = subst (λ (n : Numbering). Answers A a.graph.now n.numbered c.write_arcs.new.arcs (get_or a.route.now 0 0) (take (length a.route.now - 1) (drop 1 a.route.now)))
    (c.deref.ensures ∙ c.self.view_is) c.write_arcs.ensures in
    λ s t code route best. of_whole A a.graph.now a.self.now.numbered c.write_arcs.new.arcs a.route.now given s t code route best
