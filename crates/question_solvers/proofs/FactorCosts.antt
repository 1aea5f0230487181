-- What is recorded of a cost.
use Rattle.question_solvers.proofs.Words.{◌≡◌, ℕ, length, Option, Some, None, ap, subst, sym, IfSome, ForSome, GraphData, cost_of, CountsFit}
use Rattle.path_algebra.specs.declared.counted_sums.Cost.{Cost}
use Rattle.elimination_order.specs.Bounds.{IsTooDense}
use Rattle.elimination_order.specs.declared.counts.Counts.{Counts}
use Rattle.elimination_order.specs.declared.order.Order.{Order}
use Rattle.question_solvers.specs.declared.factor_solver.NoFactors.{NoFactors}
use Rattle.question_solvers.specs.declared.factor_solver.NoFactors.TheVariants.{Dense, Heavy}

abbrev held : {X : Type 0} → X → Option X → X
held x None = x
held x (Some y) = y

-- what holds of what is recorded
pub recorded : {X : Type 0} (P : X → Type 0) (x : X) → P x → ForSome (Some x) P
recorded P x holds y e = subst P (ap (held x) e) holds

-- and of what may be
pub kept : {X : Type 0} (P : X → Type 0) (may : Option X) → IfSome may P → ForSome may P
kept P None h = λ x e. cc
kept P (Some x) h = recorded P x h

-- what is recorded of a graph holds of the same graph
module _ {g h : GraphData} (same : g ≡ h) where
  pub each_over : {order : Option Order} → ForSome order (λ o. length o.vertices.items ≡ h.vertices) → ForSome order (λ o. length o.vertices.items ≡ g.vertices)
  each_over {order} = subst (λ (x : GraphData). ForSome order (λ o. length o.vertices.items ≡ x.vertices)) (sym same)

  pub heavy_over : {refused : Option (Cost × NoFactors)} → ForSome refused (λ r. r.1 ≡ Heavy → (k : ℕ) → CountsFit h (cost_of r.0) k → ⊥) →
      ForSome refused (λ r. r.1 ≡ Heavy → (k : ℕ) → CountsFit g (cost_of r.0) k → ⊥)
  heavy_over {refused} = subst (λ (x : GraphData). ForSome refused (λ r. r.1 ≡ Heavy → (k : ℕ) → CountsFit x (cost_of r.0) k → ⊥)) (sym same)

  pub dense_over : {refused : Option (Cost × NoFactors)} → ForSome refused (λ r. (c : Counts) → r.1 ≡ Dense c → IsTooDense h.vertices (length h.arcs) c) →
      ForSome refused (λ r. (c : Counts) → r.1 ≡ Dense c → IsTooDense g.vertices (length g.arcs) c)
  dense_over {refused} = subst (λ (x : GraphData). ForSome refused (λ r. (c : Counts) → r.1 ≡ Dense c → IsTooDense x.vertices (length x.arcs) c)) (sym same)
