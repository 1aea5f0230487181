use Rattle.std.proofs.Common.{rules, ◌≡◌, ℕ, ◌<◌, List, length, take, refl, ap, ◌∙◌, sym, subst, arith, false}
use Rattle.std.specs.Prelude.{IsTrue}
use Rattle.diffuse_c.proofs.Words.{All, IsGraph, DiffuseArc, lent}
use Rattle.std.proofs.Math.Seq.{take-length}
use Rattle.std.proofs.lemmas.List.Elements.{All-more}
use Rattle.diffuse_c.proofs.LentArcs.{FitsIn, graph_if_all_fit, joins_in_graph}
use Rattle.diffuse_c.proofs.joining.join_vertices.Goals as goal

pub loop-arc-preserved : goal.loop-arc-preserved
loop-arc-preserved c =
    let lt : c.loop-arc.arc-index < length c.args.arcs.now = search rules in
    All-more (FitsIn c.args.n) c.args.arcs.now c.loop-arc.arc-index _ lt c.loop-arc.invariant (c.joins.ensures.joins.0 c.if-not-joins.false, c.joins.ensures.fits)

pub returns-then-not-joins : goal.returns-then-not-joins
returns-then-not-joins c =
    let lt : c.loop-arc.arc-index < length c.args.arcs.now = search rules in
    (λ (no : IsTrue false). cc, λ (is : IsGraph (lent c.args.n c.args.arcs.now)). sym c.if-not-joins.true ∙ c.joins.ensures.joins.1 (joins_in_graph c.args.n c.loop-arc.arc-index c.args.arcs.now _ lt is))

pub returns : goal.returns
returns c =
    let end : c.loop-arc.arc-index ≡ length c.args.arcs.now = omega arith in
    let whole : take c.loop-arc.arc-index c.args.arcs.now ≡ c.args.arcs.now = ap (λ (k : ℕ). take k c.args.arcs.now) end ∙ take-length c.args.arcs.now in
    let all : All (FitsIn c.args.n) c.args.arcs.now = subst (λ (xs : List DiffuseArc). All (FitsIn c.args.n) xs) whole c.loop-arc.invariant in
    (λ _. graph_if_all_fit c.args.n c.args.arcs.now c.requires.few_vertices c.requires.few_arcs all, λ _. refl)
