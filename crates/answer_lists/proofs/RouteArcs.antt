-- What is told of a route that was found and written, and of one that was not found.
use Rattle.answer_lists.proofs.Words.{rules, ◌≡◌, ℕ, ◌+◌, inl, inr, List, [], ◌∷◌, take, refl, sym, ◌∙◌, subst, of_z, to_z, w32, GraphData, Algebra, Under, AlgebraChoice, Shortest, Widest, Reach, Hops, Reliable, Within, AreRouteArcs}
use Rattle.std.specs.Prelude.{ℤ, pos}
use Rattle.path_algebra.specs.Walks.{IsBestCode, IsUnreached}
use Rattle.route_tree.specs.Found.{FoundData, IsFoundBetween, IsRouteBetween}
use Rattle.answer_lists.specs.Answers.{IsFound, IsOneOf, ReportsRoute}

-- what follows of each algebra from two facts follows of the one that was chosen
under_both : (chosen : AlgebraChoice) (P Q R : (V : Type 0) → Algebra V → Type 0) → ((V : Type 0) (A : Algebra V) → P V A → Q V A → R V A) → Under chosen P → Under chosen Q → Under chosen R
under_both Shortest P Q R follows p q = follows _ _ p q
under_both Widest P Q R follows p q = follows _ _ p q
under_both Reach P Q R follows p q = follows _ _ p q
under_both Hops P Q R follows p q = follows _ _ p q
under_both Reliable P Q R follows p q = follows _ _ p q
under_both (Within w) P Q R follows p q = follows _ _ p q

under_weaker : (chosen : AlgebraChoice) (P Q : (V : Type 0) → Algebra V → Type 0) → ((V : Type 0) (A : Algebra V) → P V A → Q V A) → Under chosen P → Under chosen Q
under_weaker chosen P Q follows p = under_both chosen P P Q (λ V A h _. follows V A h) p p

module _ (chosen : AlgebraChoice) (g : GraphData) (s t : ℕ) (f : FoundData) (found : Under chosen (λ V A. IsFoundBetween A g s t f)) (room : List ℕ) where
  module _ (written : take (f.hops + 1) room ≡ f.route) where
    pub route_there : Under chosen (λ V A. IsRouteBetween A g s t (take (f.hops + 1) room))
    route_there = under_weaker chosen (λ V A. IsFoundBetween A g s t f) (λ V A. IsRouteBetween A g s t (take (f.hops + 1) room))
        (λ V A h. subst (IsRouteBetween A g s t) (sym written) h.route) found

    -- and its arcs, if they are those of each route with the best code
    pub arcs_there : (n : GraphData) (arcs : List ℕ) →
        Under chosen (λ V A. (u v best : ℕ) → IsRouteBetween A g u v (take (f.hops + 1) room) → IsBestCode A g (u ∷ []) v best → AreRouteArcs A n (take (f.hops + 1) room) arcs best) →
        Under chosen (λ V A. AreRouteArcs A n (take (f.hops + 1) room) arcs f.code)
    arcs_there n arcs = under_both chosen (λ V A. IsFoundBetween A g s t f)
        (λ V A. (u v best : ℕ) → IsRouteBetween A g u v (take (f.hops + 1) room) → IsBestCode A g (u ∷ []) v best → AreRouteArcs A n (take (f.hops + 1) room) arcs best)
        (λ V A. AreRouteArcs A n (take (f.hops + 1) room) arcs f.code)
        (λ V A h each. each s t f.code (subst (IsRouteBetween A g s t) (sym written) h.route) h.code) found

-- a status of no route, as it is passed on
read_as_written : (n : ℤ) → IsOneOf (1 ∷ 3 ∷ 45 ∷ []) n → to_z w32 (of_z w32 n) ≡ n
read_as_written n (inl e) = subst (λ (m : ℤ). to_z w32 (of_z w32 m) ≡ m) (sym e) refl
read_as_written n (inr (inl e)) = subst (λ (m : ℤ). to_z w32 (of_z w32 m) ≡ m) (sym e) refl
read_as_written n (inr (inr (inl e))) = subst (λ (m : ℤ). to_z w32 (of_z w32 m) ≡ m) (sym e) refl
read_as_written n (inr (inr (inr none))) = absurd none

not_done : (n : ℤ) → IsOneOf (1 ∷ 3 ∷ 45 ∷ []) n → n ≡ pos 0 → ⊥
not_done n (inl e) done = let bad : pos 1 ≡ pos 0 → ⊥ = search rules in bad (sym e ∙ done)
not_done n (inr (inl e)) done = let bad : pos 3 ≡ pos 0 → ⊥ = search rules in bad (sym e ∙ done)
not_done n (inr (inr (inl e))) done = let bad : pos 45 ≡ pos 0 → ⊥ = search rules in bad (sym e ∙ done)
not_done n (inr (inr (inr none))) done = none

not_short : (n : ℤ) → IsOneOf (1 ∷ 3 ∷ 45 ∷ []) n → n ≡ pos 2 → ⊥
not_short n (inl e) short = let bad : pos 1 ≡ pos 2 → ⊥ = search rules in bad (sym e ∙ short)
not_short n (inr (inl e)) short = let bad : pos 3 ≡ pos 2 → ⊥ = search rules in bad (sym e ∙ short)
not_short n (inr (inr (inl e))) short = let bad : pos 45 ≡ pos 2 → ⊥ = search rules in bad (sym e ∙ short)
not_short n (inr (inr (inr none))) short = none

not_found : (n : ℤ) → IsOneOf (1 ∷ 3 ∷ 45 ∷ []) n → IsFound n → ⊥
not_found n one (inl done) = not_done n one done
not_found n one (inr short) = not_short n one short

-- of a route that was not found it is told whether there is none
pub told_else : (chosen : AlgebraChoice) (g : GraphData) (s t : ℕ) (status : ℤ) (code hops : ℕ) (room : List ℕ) → IsOneOf (1 ∷ 3 ∷ 45 ∷ []) status →
    Under chosen (λ V A. status ≡ pos 1 → IsUnreached A g (s ∷ []) t) →
    Under chosen (λ V A. ReportsRoute A g s t (to_z w32 (of_z w32 status)) code hops room)
told_else chosen g s t status code hops room one unreached =
    subst (λ (n : ℤ). Under chosen (λ V A. ReportsRoute A g s t n code hops room)) (sym (read_as_written status one))
    (under_weaker chosen (λ V A. status ≡ pos 1 → IsUnreached A g (s ∷ []) t) (λ V A. ReportsRoute A g s t status code hops room) (λ V A h. record {
      best = λ found. absurd (not_found status one found);
      near = λ found. absurd (not_found status one found);
      route = λ done. absurd (not_done status one done);
      none = h;
    }) unreached)
