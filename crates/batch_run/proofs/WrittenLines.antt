-- The lines of the vertices by best labels and their tree are right.
use Rattle.batch_run.proofs.Words.{◌≡◌, ℕ, ◌+◌, ◌-◌, ◌<◌, List, length, get_or, Option, Some, None, inl, inr, refl, ◌∙◌, arith, GraphData, Algebra, AreBest, IsBestLabel, label_of, Reached}
use Rattle.std.proofs.lemmas.List.FromFn.{get_or-map-range_with_len, length-map-range_with_len}
use Rattle.route_tree.specs.Tree.{AreHopsAt, Branches, IsParentAt, IsTree, hops_of, parent_of}
use Rattle.answer_text.specs.IsAnswer.{AreVertexLines, IsVertexLine}
use Rattle.batch_run.specs.WrittenLines.{written_line, written_lines}

module _ {V : Type 0} (A : Algebra V) (labels : List (Option V)) (t : Branches) (n : ℕ) where
  pub lines_count : length (written_lines A labels t n) ≡ n
  unfolding written_lines
  lines_count = length-map-range_with_len (λ v. written_line A (label_of labels v) (hops_of t v) (parent_of t v)) 1 n

  pub line_at : (i v : ℕ) → i < n → 1 + i ≡ v → get_or (written_lines A labels t n) i None ≡ written_line A (label_of labels v) (hops_of t v) (parent_of t v)
  unfolding written_lines
  line_at i v lt is = get_or-map-range_with_len (λ v. written_line A (label_of labels v) (hops_of t v) (parent_of t v)) 1 n i v None lt is

  -- the line that is written next
  pub line_is : (i v : ℕ) (line : Option Reached) (label : Option V) (hops parent : Option ℕ) → i < n → 1 + i ≡ v →
      line ≡ written_line A label hops parent → label ≡ label_of labels v → hops ≡ hops_of t v → parent ≡ parent_of t v → line ≡ get_or (written_lines A labels t n) i None
  line_is i v line label hops parent lt at is l h p = rw (line_at i v lt at, is, l, h, p) refl

-- the line of a vertex is right, and so are all lines
line_is_right : {V : Type 0} (A : Algebra V) (g : GraphData) (sources : List ℕ) (v : ℕ) (label : Option V) (hops parent : Option ℕ) → IsBestLabel A g sources v label → AreHopsAt A g sources v hops →
    IsParentAt A g sources v hops parent → IsVertexLine A g sources v (written_line A label hops parent)
line_is_right A g sources v None k u best hops parents = best
line_is_right A g sources v (Some x) None u best hops parents = absurd (hops x best.attained)
line_is_right A g sources v (Some x) (Some k) None best hops parents = record { code = (x, best, refl); hops = hops; parent = inl (parents, refl) }
line_is_right A g sources v (Some x) (Some k) (Some u) best hops parents = record { code = (x, best, refl); hops = hops; parent = inr parents }

pub lines_are_right : {V : Type 0} (A : Algebra V) (g : GraphData) (sources : List ℕ) (labels : List (Option V)) (t : Branches) (n : ℕ) → n ≡ g.vertices →
    AreBest A g sources labels → IsTree A g sources t →
    AreVertexLines A g sources (written_lines A labels t n)
lines_are_right A g sources labels t n all best tree = record {
  count = lines_count A labels t n ∙ all;
  each = λ v in_graph.
      let at : get_or (written_lines A labels t n) (v - 1) None ≡ written_line A (label_of labels v) (hops_of t v) (parent_of t v) =
      line_at A labels t n (v - 1) v (omega (arith, in_graph.0, in_graph.1, all)) (omega (arith, in_graph.0)) in
      rw at (line_is_right A g sources v (label_of labels v) (hops_of t v) (parent_of t v) (best.best v in_graph) (tree.hops v in_graph) (tree.parents v in_graph));
}
