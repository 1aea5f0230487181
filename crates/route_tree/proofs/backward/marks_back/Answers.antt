use Rattle.route_tree.proofs.Words.{◌≡◌, ℕ, ◌+◌, List, [], length, true, false, eqb-true, eq-eqb, arith, sym, subst, ◌∙◌, refl, nil_from_length, Contains-push, is_tight, VisitingBack}
use Rattle.route_tree.proofs.VisitingBack.{back_start, covers_near, covers_all}
use Rattle.route_tree.proofs.Blank.{found_more}
use Rattle.route_tree.proofs.UpTo.{back_leads}
use Rattle.route_tree.proofs.backward.marks_back.Goals as goal
use Rattle.route_tree.proofs.backward.marks_back.Goals.{then-loop-search-test+else-not-has, else-loop-search-test}

pub loop-search-init : goal.loop-search-init
loop-search-init g c =
    let roads = c.args.by_head.now in
    let test = is_tight (g.A.PathAlgebra.meaning c.args.algebra) roads c.args.labels.now in
    let search = c.in_ok-search.search in
    let start = back_start roads c.holds.ensures test c.args.ends.1 roads.vertices search.marks refl c.requires.target c.in_ok-search.ensures.marks in
    record {
      over = c.in_ok-search.ensures.over;
      visiting = (0, subst (λ (list : List ℕ). VisitingBack roads test c.args.ends.1 0 search.marks list [] []) (sym c.in_ok-search.ensures.next) start);
      kind = λ can. can;
    }

pub visit_level-requires-clause-waiting : goal.visit_level-requires-clause-waiting
visit_level-requires-clause-waiting g c κs within =
    let some : (length c.loop-search.search.next ≡ 0 → ⊥) = λ z. let t : true ≡ false = sym (eq-eqb (length c.loop-search.search.next) 0 z) ∙ sym c.is_done.ensures ∙ c.loop-search-test.true in cc in
    omega (arith, some)

pub loop-search-preserved : goal.loop-search-preserved
loop-search-preserved g c =
    let known = c.loop-search.invariant in
    record {
      over = c.in_ok-visit_level.ensures.over ∙ known.over;
      visiting = (known.visiting.0 + 1, (rw known.over at c.in_ok-visit_level.ensures.visits) c.args.ends.1 known.visiting.0 known.visiting.1);
      kind = λ can. known.kind (c.visit_level.ensures.kind can);
    }

pub returns-clause-covers : goal.returns-clause-covers
returns-clause-covers g c =
    let roads = c.args.by_head.now in
    let test = is_tight (g.A.PathAlgebra.meaning c.args.algebra) roads c.args.labels.now in
    let search = c.loop-search.search in
    let k = c.loop-search.invariant.visiting.0 in
    let known = c.loop-search.invariant.visiting.1 in
    rw c.into_parts-marks.ensures.marks (elim c.loop-search-test.branch [
      | then-loop-search-test+else-not-has w ↦
          covers_near roads c.holds.ensures test c.args.ends.1 k search.marks c.args.ends.0 search.next known c.requires.source (sym w.has.ensures ∙ w.if-not-has.false)
      | else-loop-search-test w ↦
          let none = nil_from_length search.next (eqb-true (length search.next) 0 (sym c.is_done.ensures ∙ w.loop-search-test.false)) in
          covers_all roads c.holds.ensures test c.args.ends.1 k search.marks c.args.ends.0
          (subst (λ (list : List ℕ). VisitingBack roads test c.args.ends.1 k search.marks list [] []) none known)
    ])

pub returns-clause-lead : goal.returns-clause-lead
returns-clause-lead g c =
    let roads = c.args.by_head.now in
    let test = is_tight (g.A.PathAlgebra.meaning c.args.algebra) roads c.args.labels.now in
    let search = c.loop-search.search in
    rw c.into_parts-marks.ensures.marks (back_leads roads test c.args.ends.1 c.loop-search.invariant.visiting.0 search.marks search.next [] c.loop-search.invariant.visiting.1)

pub returns-clause-found : goal.returns-clause-found
returns-clause-found g c =
    let roads = c.args.by_head.now in
    let known = rw c.loop-search.invariant.over at c.into_parts-marks.ensures.found in
    rw (c.in_ok-push.ensures.longer) (found_more roads _ _ c.args.ends.0 c.requires.source known)

pub returns-clause-source : goal.returns-clause-source
returns-clause-source g c = rw (c.in_ok-push.ensures.longer) (Contains-push _ c.args.ends.0)

pub returns-clause-count : goal.returns-clause-count
returns-clause-count g c = rw c.loop-search.invariant.over at c.into_parts-marks.ensures.count
