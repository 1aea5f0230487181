-- What a kept searcher found, as the lists that are written.
use Rattle.std.proofs.Common.{◌≡◌, ℕ, zero, inl, inr, List, length, sym, subst, ℤ, w32, to_z, of_z}
use Rattle.answer_lists.proofs.Words.{map, pos, GraphData, Algebra, TreeSearcherState, IsFound}
use Rattle.answer_lists.specs.Near.{AreNearLists, BeginsOrNone, HasReached, code_at, hops_at, parent_at}

pub found_listed : {V : Type 0} (A : Algebra V) (g : GraphData) (sources : List ℕ) (t : TreeSearcherState V) → HasReached A g sources t →
    (count : ℕ) → count ≡ length t.reached → (vertices codes hops parents : List ℕ) →
    BeginsOrNone (length t.reached) vertices t.reached → BeginsOrNone (length t.reached) codes (map (code_at A t.labels) t.reached) →
    BeginsOrNone (length t.reached) hops (map (hops_at t.tree) t.reached) → BeginsOrNone (length t.reached) parents (map (parent_at t.tree) t.reached) →
    AreNearLists A g sources count vertices codes hops parents
found_listed A g sources t found count count_is vertices codes hops parents v c h p = record {
  all_vertices = t.reached;
  all_codes = map (code_at A t.labels) t.reached;
  all_hops = map (hops_at t.tree) t.reached;
  all_parents = map (parent_at t.tree) t.reached;
  near = found.near;
  count_is = count_is;
  vertices_are = subst (λ (n : ℕ). BeginsOrNone n vertices t.reached) (sym count_is) v;
  codes_are = subst (λ (n : ℕ). BeginsOrNone n codes (map (code_at A t.labels) t.reached)) (sym count_is) c;
  hops_are = subst (λ (n : ℕ). BeginsOrNone n hops (map (hops_at t.tree) t.reached)) (sym count_is) h;
  parents_are = subst (λ (n : ℕ). BeginsOrNone n parents (map (parent_at t.tree) t.reached)) (sym count_is) p;
}

-- a number but 0
abbrev nonzero : ℤ → Type 0
nonzero (pos zero) = ⊥
nonzero _ = Unit {0}

-- a status that says found, and that is 0 as it is passed on
pub done_is : (status : ℤ) → IsFound status → to_z w32 (of_z w32 status) ≡ pos 0 → status ≡ pos 0
done_is status (inl zero_is) done = zero_is
done_is status (inr two_is) done = absurd (subst nonzero (subst (λ (z : ℤ). to_z w32 (of_z w32 z) ≡ pos 0) two_is done) tt)
