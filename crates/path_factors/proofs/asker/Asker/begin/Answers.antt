use Rattle.path_factors.proofs.Words.{◌≡◌, ◌∙◌, ◌⊎◌, ℕ, List, [], ◌∷◌, ◌++◌, Option, None, length, take, drop, ap, arith, sym, subst, common_steps, at, sources_of, IsAboveSource}
use Rattle.std.proofs.lemmas.List.{take_at}
use Rattle.path_factors.proofs.Asking.{Holds, forgotten_up, asking_begun}
use Rattle.path_factors.proofs.asker.Asker.begin.Goals as goal

pub clear_from-requires-clause-up : goal.clear_from-requires-clause-up
clear_from-requires-clause-up g c κs within =
    let f = c.args.factors.now in
    let s = c.self.inside in
    let A = g.A.PathAlgebra.meaning in
    let C = g.A.ComposingAlgebra.walks in
    let holds = c.holds.ensures in
    let same : s.factors.value ≡ f = (λ i. (c.self.view_is i).factors) ∙ c.requires.same in
    let is = subst (λ t. Holds A C t (sources_of s.source) s.labels.items s.known.items s.asked.items) same c.self.invariant in
    let labels : c.deref_mut.result.now ≡ s.labels.items = grind (arith, common_steps) in
    let known : c.deref_mut-2.result.now ≡ s.known.items = grind (arith, common_steps) in
    let fewer : c.deref_mut-3.result.now ≡ c.forget.new.labels = grind (arith, common_steps) in
    let forgotten = rw (labels, known) at c.forget.ensures.labels in
    subst (λ (l : List (Option g.row.A-Value.Denot)). (j : ℕ) → (at l j ≡ None) ⊎ IsAboveSource f.roads.vertices f.factor f.heads (sources_of s.source) j) (sym fewer)
    (forgotten_up (A f.algebra) holds.lawful (C f.algebra) holds.composes f.roads holds.roads f.factor holds.factor f.heads holds.outline.are (sources_of s.source) s.labels.items s.known.items s.asked.items is
    c.forget.new.labels forgotten)

pub start-requires-clause-none : goal.start-requires-clause-none
start-requires-clause-none g c κs within =
    let fewer : c.deref_mut-4.result.now ≡ c.clear_from.new.labels = grind (arith, common_steps) in
    subst (λ (l : List (Option g.row.A-Value.Denot)). (j : ℕ) → at l j ≡ None) (sym fewer) c.clear_from.ensures.none

pub invariant_of-self : goal.invariant_of-self
invariant_of-self g c =
    let f = c.args.factors.now in
    let s = c.self.inside in
    let A = g.A.PathAlgebra.meaning in
    let C = g.A.ComposingAlgebra.walks in
    let holds = c.holds.ensures in
    let same : s.factors.value ≡ f = (λ i. (c.self.view_is i).factors) ∙ c.requires.same in
    let size : s.factors.value.roads.vertices ≡ f.roads.vertices = λ i. (same i).roads.vertices in
    let labels = c.start.new.labels in
    let known = c.forget.new.known in
    let kept : s.labels.len ≡ length labels =
    omega (arith, s.labels.ok.0, c.self.invariant.labels_count, size, c.start.ensures.count) in
    let noted : s.known.len ≡ length known =
    (let was : c.deref_mut-2.result.now ≡ s.known.items = grind (arith, common_steps) in omega (arith, s.known.ok.0, ap length was, c.forget.ensures.known_count)) in
    let oldest = take s.labels.len (c.forget.new.labels ++ drop (length c.forget.new.labels) s.labels.items) in
    let older = take s.labels.len (c.clear_from.new.labels ++ drop (length c.clear_from.new.labels) oldest) in
    let cleared : c.clear.new.self.items ≡ [] = grind (arith, common_steps) in
    let made = asking_begun (A f.algebra) holds.lawful (C f.algebra) holds.composes f.roads holds.roads f.factor holds.factor f.heads holds.outline.are c.args.source c.requires.source labels known
    c.start.ensures.count (omega (arith, noted, s.known.ok.0, c.self.invariant.known_count, size)) c.forget.ensures.unknown c.start.ensures.up c.start.ensures.forward in
    subst (λ t. Holds A C t (c.args.source ∷ []) (take s.labels.len (labels ++ drop (length labels) older)) (take s.known.len (known ++ drop (length known) s.known.items)) c.clear.new.self.items) (sym same)
    (rw (take_at labels (drop (length labels) older) s.labels.len (sym kept), take_at known (drop (length known) s.known.items) s.known.len (sym noted), cleared) made)
