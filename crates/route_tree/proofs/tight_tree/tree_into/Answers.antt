use Rattle.route_tree.proofs.Words.{◌≡◌, ℕ, List, [], length, eq-eqb, true, false, arith, sym, subst, ◌∙◌, Option, Visiting, is_tight_into}
use Rattle.route_tree.proofs.LevelsAreLeast.{search_ends}
use Rattle.route_tree.proofs.Trees.{linked}
use Rattle.route_tree.proofs.Marking.{marked_visits}
use Rattle.route_tree.proofs.tight_tree.tree_into.Goals as goal

pub loop-alloc-init : goal.loop-alloc-init
loop-alloc-init g c =
    let roads = c.args.graph.now in
    let test = is_tight_into (g.A.PathAlgebra.meaning c.args.algebra) roads c.args.labels.now c.args.region.now in
    let search = c.in_ok-search.search in
    let start = marked_visits roads c.holds.ensures test c.args.sources.now search.hops search.next c.requires.sources c.in_ok-search.ensures.marked in
    record {
      over = c.in_ok-search.ensures.over;
      region = c.in_ok-search.ensures.region;
      visiting = subst (λ (k : ℕ). Visiting roads test c.args.sources.now k search.hops search.parents search.next [] []) (sym c.in_ok-search.ensures.level)
          (subst (λ (parents : List (Option ℕ)). Visiting roads test c.args.sources.now 0 search.hops parents search.next [] []) (sym c.in_ok-search.ensures.parents) start);
      kind = λ can. can;
    }

pub loop-alloc-preserved : goal.loop-alloc-preserved
loop-alloc-preserved g c =
    let known = c.loop-alloc.invariant in
    record {
      over = c.in_ok-visit_level.ensures.over ∙ known.over;
      region = c.in_ok-visit_level.ensures.region ∙ known.region;
      visiting = (rw (known.over, known.region) at c.in_ok-visit_level.ensures.visits) c.args.sources.now known.visiting;
      kind = λ can. known.kind (c.visit_level.ensures.kind can);
    }

pub visit_level-requires-clause-waiting : goal.visit_level-requires-clause-waiting
visit_level-requires-clause-waiting g c κs within =
    let some : (length c.loop-alloc.search.next ≡ 0 → ⊥) = λ z. let t : true ≡ false = sym (eq-eqb (length c.loop-alloc.search.next) 0 z) ∙ sym c.is_done.ensures ∙ c.loop-alloc-test.true in cc in
    omega (arith, some)

pub returns-clause-hops : goal.returns-clause-hops
returns-clause-hops g c =
    let roads = c.args.graph.now in
    let search = c.loop-alloc.search in
    rw c.into_parts-hops.ensures.hops (search_ends roads (is_tight_into (g.A.PathAlgebra.meaning c.args.algebra) roads c.args.labels.now c.args.region.now) c.args.sources.now
    search.level search.hops search.parents search.next
    (sym c.is_done.ensures ∙ c.loop-alloc-test.false) c.loop-alloc.invariant.visiting).0

pub returns-clause-parents : goal.returns-clause-parents
returns-clause-parents g c =
    let roads = c.args.graph.now in
    let search = c.loop-alloc.search in
    rw (c.into_parts-hops.ensures.hops, c.into_parts-hops.ensures.parents) (search_ends roads
    (is_tight_into (g.A.PathAlgebra.meaning c.args.algebra) roads c.args.labels.now c.args.region.now) c.args.sources.now search.level search.hops search.parents search.next
    (sym c.is_done.ensures ∙ c.loop-alloc-test.false) c.loop-alloc.invariant.visiting).1

pub invariant_of-result : goal.invariant_of-result
invariant_of-result g c =
    let roads = c.args.graph.now in
    let search = c.loop-alloc.search in
    let test = is_tight_into (g.A.PathAlgebra.meaning c.args.algebra) roads c.args.labels.now c.args.region.now in
    let least = search_ends roads test c.args.sources.now search.level search.hops search.parents search.next (sym c.is_done.ensures ∙ c.loop-alloc-test.false) c.loop-alloc.invariant.visiting in
    rw (c.into_parts-hops.ensures.hops, c.into_parts-hops.ensures.parents) (linked roads c.holds.ensures test c.args.sources.now search.hops least.0 search.parents least.1)
