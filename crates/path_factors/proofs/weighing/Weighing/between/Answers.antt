use Rattle.path_factors.proofs.Words.{◌≡◌, ℕ, ◌<◌, ◌∙◌, List, length, get_or, ap, arith, sym, subst, row_of, heads_in}
use Rattle.path_factors.proofs.HeadRows.{row_heads_count, near_inside, seek_between, ahead_more}
use Rattle.path_factors.proofs.weighing.Weighing.between.Goals as goal
use Rattle.path_factors.proofs.weighing.Weighing.between.Goals.{After-heads-row, After-heads}

-- the heads of the place
row : (g : _) (c : After-heads-row g) → c.heads-row.result.now ≡ row_of (heads_in c.args.self.now.factor.leaving) c.args.v
row g c = c.heads-row.ensures ∙ (λ k. row_of (heads_in (c.self.view_is k).factor.leaving) c.args.v)

edge_inside : (g : _) (c : After-heads-row g) → c.args.j < length (row_of (heads_in c.args.self.now.factor.leaving) c.args.v)
edge_inside g c = omega (arith, row_heads_count c.args.self.now.factor.leaving c.args.v, c.requires.edge)

-- the heads of the first end
near : (g : _) (c : After-heads g) → c.heads.result.now ≡ row_of (heads_in c.args.self.now.factor.leaving) (get_or (row_of (heads_in c.args.self.now.factor.leaving) c.args.v) c.args.i 0)
near g c =
    c.heads.ensures ∙ (λ k. row_of (heads_in (c.self.view_is k).factor.leaving) (get_or c.heads-row.result.now c.args.i 0))
    ∙ ap (λ (l : List ℕ). row_of (heads_in c.args.self.now.factor.leaving) (get_or l c.args.i 0)) (c.heads-row.ensures ∙ (λ k. row_of (heads_in (c.self.view_is k).factor.leaving) c.args.v))

pub bounds-row-i : goal.bounds-row-i
bounds-row-i g c = let at = (goal.at.bounds-row-i g c).After-heads-row in omega (arith, edge_inside g at, ap length (row g at), c.requires.after)

pub bounds-row-j : goal.bounds-row-j
bounds-row-j g c = let at = (goal.at.bounds-row-j g c).After-heads-row in omega (arith, edge_inside g at, ap length (row g at))

pub heads-requires : goal.heads-requires
heads-requires g c =
    let at = (goal.at.heads-requires g c).After-heads-row in
    let S = c.args.self.now in
    let x = ap (λ (l : List ℕ). get_or l c.args.i 0) (row g at) in
    let r = near_inside S.roads.vertices (heads_in S.factor.leaving) c.holds.ensures.outline.are c.args.v c.args.i c.args.j c.requires.after (edge_inside g at) in
    let same : c.self.inside.graph.now.vertices ≡ S.roads.vertices = (λ i. (c.self.view_is i).roads.vertices) in
    omega (arith, c.self.invariant.0.links.leaving_count, same, r, x)

pub seek-requires : goal.seek-requires
seek-requires g c =
    let at = goal.at.seek-requires g c in
    let S = c.args.self.now in
    let m = seek_between S.roads.vertices (heads_in S.factor.leaving) c.holds.ensures.outline.are c.args.v c.args.i c.args.j c.requires.after (edge_inside g at.After-heads-row) c.args.from c.requires.ahead in (
      m.0,
      m.1,
      subst (λ (l : List ℕ). m.0 < length l) (sym (near g at.After-heads)) m.2,
      ap (λ (l : List ℕ). get_or l m.0 0) (near g at.After-heads) ∙ m.3 ∙ sym (ap (λ (l : List ℕ). get_or l c.args.j 0) (row g at.After-heads-row)),
    )

pub returns-clause-index : goal.returns-clause-index
returns-clause-index g c = subst (λ (l : List ℕ). c.seek.result < length l) (near g (goal.at.returns-clause-index g c).After-heads) c.seek.ensures.inside

pub returns-clause-head : goal.returns-clause-head
returns-clause-head g c =
    let at = goal.at.returns-clause-head g c in
    sym (ap (λ (l : List ℕ). get_or l c.seek.result 0) (near g at.After-heads)) ∙ c.seek.ensures.found ∙ ap (λ (l : List ℕ). get_or l c.args.j 0) (row g at.After-heads-row)

pub returns-clause-ahead : goal.returns-clause-ahead
returns-clause-ahead g c =
    let at = goal.at.returns-clause-ahead g c in
    let S = c.args.self.now in
    ahead_more S.roads.vertices (heads_in S.factor.leaving) c.holds.ensures.outline.are c.args.v c.args.i c.args.j c.requires.after (edge_inside g at.After-heads-row) c.seek.result
    (subst (λ (l : List ℕ). c.seek.result < length l) (near g at.After-heads) c.seek.ensures.inside)
    (sym (ap (λ (l : List ℕ). get_or l c.seek.result 0) (near g at.After-heads)) ∙ c.seek.ensures.found ∙ ap (λ (l : List ℕ). get_or l c.args.j 0) (row g at.After-heads-row))
