-- A route that is filled from its target back.
use Rattle.std.proofs.Common.{◌≡◌, ℕ, List, [], ◌∷◌, ◌++◌, reverse, ap, ◌∙◌, Option, Some, None}
use Rattle.std.proofs.lemmas.List.{reverse-append}
use Rattle.factor_routes.proofs.Words.{GraphData, IsGraph, arc_of, counted, AreBestInto, AreBestNumbers, IsCountedChain, IsCountedRoute, IsLeastTail}

pub best_into : (g : GraphData) → IsGraph g → (cost : ℕ → ℕ) (k : ℕ) (sources : List ℕ) (number : ℕ → Option ℕ) →
    AreBestNumbers (counted cost k) g sources number → (v : ℕ) → AreBestInto (counted cost k) g sources number v
best_into g roads cost k sources number best v a has e = best (arc_of g a).tail (roads.ends a has).0

-- reversed, the list leads from `at`, whose number is x, to the target
pub record Climbed (g : GraphData) (cost : ℕ → ℕ) (k : ℕ) (number : ℕ → Option ℕ) (target at x : ℕ) (items : List ℕ) : Type 0 where
  pub at_number : number at ≡ Some x
  pub rest : List ℕ
  pub is : reverse items ≡ at ∷ rest
  pub chain : IsCountedChain g cost k number at rest target

module _ (g : GraphData) (cost : ℕ → ℕ) (k : ℕ) (number : ℕ → Option ℕ) (target : ℕ) where
  module _ (at x : ℕ) (items : List ℕ) (known : Climbed g cost k number target at x items) where
    pub climb : (tail : ℕ × ℕ) → IsLeastTail g cost k number at x (Some tail) → Climbed g cost k number target tail.0 tail.1 (items ++ tail.0 ∷ [])
    climb tail least = record {
      at_number = least.0;
      rest = at ∷ known.rest;
      is = reverse-append items (tail.0 ∷ []) ∙ ap (λ (xs : List ℕ). tail.0 ∷ xs) known.is;
      chain = ((x, known.at_number, least.1), known.chain);
    }

    pub climbed : IsLeastTail g cost k number at x None → IsCountedRoute g cost k number target (reverse items)
    climbed none = record {
      first = at;
      rest = known.rest;
      is = known.is;
      begins = (x, known.at_number, none);
      chain = known.chain;
    }
