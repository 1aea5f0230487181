use Rattle.std.proofs.Common.{◌≡◌, true, sym, ◌∙◌, refl, subst, eqb, eqb-true, eq-eqb}
use Rattle.std.proofs.lemmas.Bool.{and_parts}
use lib.Pointwise.{pointwise_decides}
use Rattle.std.proofs.lemmas.Bool.Decides.{nat_tests}
use Rattle.arc_numbers.proofs.Words.{arith, OutRoad}
use Rattle.road_graph.specs.contracts.OutRoadPartialEq.TheImpl.{eq-value}
use Rattle.arc_numbers.proofs.same_roads.are_same.Goals as goal

decides : (x y : OutRoad) → (eq-value.it x y ≡ true → x ≡ y) × (x ≡ y → eq-value.it x y ≡ true)
decides x y = (
  λ h. let p = and_parts (eqb x.head y.head) (eqb x.weight y.weight) h in λ i. record { head = eqb-true x.head y.head p.0 i; weight = eqb-true x.weight y.weight p.1 i },
  λ e. subst (λ (z : OutRoad). eq-value.it x z ≡ true) e (rw (eq-eqb x.head x.head refl, eq-eqb x.weight x.weight refl) refl),
)

pub returns : goal.returns
returns c = let d = pointwise_decides decides c.args.first.now c.args.second.now in (λ h. d.0 (sym c.eq.ensures ∙ h), λ e. c.eq.ensures ∙ d.1 e)
