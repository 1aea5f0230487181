use Rattle.path_factors.proofs.Words.{◌≡◌, ◌∙◌, ◌-◌, ◌<◌, ℕ, List, ◌++◌, Option, Bool, true, None, length, take, drop, get_or, ap, arith, sym, subst, common_steps, IsBestLabel, FactorState, at, place_of, is_on, sources_of, IsKnownUpward, AreAllUnknownUp}
use Rattle.std.proofs.lemmas.List.{drop_at, take_all, length-append, get_or_default}
use Rattle.path_factors.proofs.Asking.{Holds, asking_extended, asking_after, target_known, known_label_is_best}
use Rattle.path_factors.proofs.asker.Asker.label.Goals as goal
use Rattle.path_factors.proofs.asker.Asker.label.Goals.{After-get}

pub invariant_of-self : goal.invariant_of-self
invariant_of-self g c =
    let f = c.args.factors.now in
    let s = c.self.inside in
    let A = g.A.PathAlgebra.meaning in
    let C = g.A.ComposingAlgebra.walks in
    let holds = c.holds.ensures in
    let same : s.factors.value ≡ f = (λ i. (c.self.view_is i).factors) ∙ c.requires.same in
    let is = subst (λ t. Holds A C t (sources_of s.source) s.labels.items s.known.items s.asked.items) same c.self.invariant in
    subst (λ t. Holds A C t (sources_of s.source) s.labels.items s.known.items c.list_unknown.new.asked.items) (sym same)
    (asking_extended (A f.algebra) holds.lawful (C f.algebra) holds.composes f.roads holds.roads f.factor holds.factor f.heads holds.outline.are (sources_of s.source) s.labels.items s.known.items s.asked.items is
    c.list_unknown.new.asked.items c.in_err-list_unknown.ensures.kept)

-- what is listed after the first m
part_after : (asked listed all now : List ℕ) (m : ℕ) → m ≡ length asked → now ≡ all → all ≡ asked ++ listed → take (length now - m) (drop m now) ≡ listed
part_after asked listed all now m size is more =
    ap (λ (d : List ℕ). take (length d - m) (drop m d)) (is ∙ more)
    ∙ ap (λ (l : List ℕ). take (length (asked ++ listed) - m) l) (drop_at asked listed m (sym size))
    ∙ take_all (length (asked ++ listed) - m) listed (omega (arith, length-append asked listed, size))

pub find_listed-requires-clause-list : goal.find_listed-requires-clause-list
find_listed-requires-clause-list g c κs within =
    let f = c.args.factors.now in
    let listed = c.in_ok-list_unknown.ensures.listed in
    let part = part_after c.self.inside.asked.items listed.0 c.list_unknown.new.asked.items c.deref-2.result.now c.len-known.result
    (grind (arith, common_steps)) (grind (arith, common_steps)) listed.1 in
    let known : c.deref.result.now ≡ c.deref_mut-2.result.now = grind (arith, common_steps) in
    subst (λ (l : List ℕ). AreAllUnknownUp f.heads f.roads.vertices c.deref_mut-2.result.now c.place-t.result l) (sym part)
    (subst (λ (k : List Bool). AreAllUnknownUp f.heads f.roads.vertices k c.place-t.result listed.0) known listed.2)

pub find_listed-requires-clause-upward : goal.find_listed-requires-clause-upward
find_listed-requires-clause-upward g c κs within =
    let s = c.self.inside in
    let same : s.factors.value ≡ c.args.factors.now = (λ i. (c.self.view_is i).factors) ∙ c.requires.same in
    let known : s.known.items ≡ c.deref_mut-2.result.now = grind (arith, common_steps) in
    subst (λ (t : FactorState g.row.A.Denot g.row.A-Walk.Denot). IsKnownUpward t.heads c.deref_mut-2.result.now) same
    (subst (λ (k : List Bool). IsKnownUpward s.factors.value.heads k) known c.self.invariant.upward)

-- what holds of the labels that are found, and the target is among them
found : (g : _) (c : After-get g) →
    Holds g.A.PathAlgebra.meaning g.A.ComposingAlgebra.walks c.args.factors.now (sources_of c.self.inside.source) c.find_listed.new.labels c.find_listed.new.known c.list_unknown.new.asked.items
    × (is_on c.find_listed.new.known c.place-t.result ≡ true)
found g c =
    let f = c.args.factors.now in
    let s = c.self.inside in
    let A = g.A.PathAlgebra.meaning in
    let C = g.A.ComposingAlgebra.walks in
    let holds = c.holds.ensures in
    let t = c.place-t.result in
    let listed = c.in_ok-list_unknown.ensures.listed in
    let part = part_after s.asked.items listed.0 c.list_unknown.new.asked.items c.deref-2.result.now c.len-known.result (grind (arith, common_steps)) (grind (arith, common_steps)) listed.1 in
    let read : c.deref.result.now ≡ s.known.items = grind (arith, common_steps) in
    let labels : c.deref_mut.result.now ≡ s.labels.items = grind (arith, common_steps) in
    let known : c.deref_mut-2.result.now ≡ s.known.items = grind (arith, common_steps) in
    let unknown = subst (λ (k : List Bool). AreAllUnknownUp f.heads f.roads.vertices k t listed.0) read listed.2 in
    let same : s.factors.value ≡ f = (λ i. (c.self.view_is i).factors) ∙ c.requires.same in
    let is = subst (λ t. Holds A C t (sources_of s.source) s.labels.items s.known.items s.asked.items) same c.self.invariant in
    let made = rw (labels, known, part) at c.find_listed.ensures in (
      asking_after (A f.algebra) holds.lawful (C f.algebra) holds.composes f.roads holds.roads f.factor holds.factor f.heads holds.outline.are (sources_of s.source) s.labels.items s.known.items s.asked.items is
          t listed.0 unknown c.find_listed.new.labels c.find_listed.new.known made c.list_unknown.new.asked.items listed.1,
      target_known (A f.algebra) holds.lawful (C f.algebra) holds.composes f.roads holds.roads f.factor holds.factor f.heads holds.outline.are (sources_of s.source) s.labels.items s.known.items s.asked.items is
          t listed.0 unknown c.find_listed.new.labels c.find_listed.new.known made holds.at_heads c.place-t.ensures.inside,
    )

pub invariant_of-self-2 : goal.invariant_of-self-2
invariant_of-self-2 g c =
    let s = c.self.inside in
    let labels = c.find_listed.new.labels in
    let known = c.find_listed.new.known in
    let kept : take s.labels.len (labels ++ drop (length labels) s.labels.items) ≡ labels = grind (arith, common_steps) in
    let noted : take s.known.len (known ++ drop (length known) s.known.items) ≡ known = grind (arith, common_steps) in
    subst (λ t. Holds g.A.PathAlgebra.meaning g.A.ComposingAlgebra.walks t (sources_of s.source) (take s.labels.len (labels ++ drop (length labels) s.labels.items))
    (take s.known.len (known ++ drop (length known) s.known.items)) c.list_unknown.new.asked.items) (sym ((λ i. (c.self.view_is i).factors) ∙ c.requires.same))
    (rw (kept, noted) (found g (goal.at.invariant_of-self-2 g c).After-get).0)

pub returns-clause-best : goal.returns-clause-best
returns-clause-best g c =
    let f = c.args.factors.now in
    let s = c.self.inside in
    let A = g.A.PathAlgebra.meaning f.algebra in
    let holds = c.holds.ensures in
    let labels = c.find_listed.new.labels in
    let known = c.find_listed.new.known in
    let done = found g (goal.at.returns-clause-best g c).After-get in
    let kept : take s.labels.len (labels ++ drop (length labels) s.labels.items) ≡ labels = grind (arith, common_steps) in
    let t : c.place-t.result ≡ place_of f.factor c.args.v = c.place-t.ensures.place in
    let best = known_label_is_best A holds.lawful (g.A.ComposingAlgebra.walks f.algebra) holds.composes f.roads holds.roads f.factor holds.factor f.heads holds.outline.are (sources_of s.source) labels known
    c.list_unknown.new.asked.items done.0 c.args.v c.requires.vertex (subst (λ (i : ℕ). is_on known i ≡ true) t done.1) in
    let lt : c.place-t.result < length labels = omega (arith, c.place-t.ensures.inside, done.0.labels_count) in
    let value : c.index.result.now ≡ at labels (place_of f.factor c.args.v) =
    c.index.ensures ∙ ap (λ (l : List (Option g.row.A-Value.Denot)). get_or l c.place-t.result c.index.result.now) kept
    ∙ get_or_default labels c.place-t.result c.index.result.now None lt ∙ ap (at labels) t in
    subst (λ (l : List ℕ). IsBestLabel A f.roads l c.args.v c.get.result) (λ i. (c.self.view_is i).sources)
    (subst (λ (o : Option g.row.A-Value.Denot). IsBestLabel A f.roads (sources_of s.source) c.args.v o) (sym (c.get.ensures ∙ value)) best)
