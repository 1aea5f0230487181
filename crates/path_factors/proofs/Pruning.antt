-- Edges that others do for were left out: what is left is a factor.
use Rattle.path_factors.proofs.Words.{◌≡◌, ℕ, zero, suc, ◌+◌, ◌<◌, ◌≤◌, inl, inr, List, [], ◌∷◌, ◌++◌, Bool, true, false, take, length, get_or, set, refl, ap, sym, ◌∙◌, subst, arith, Option, Some, IsTrue, Contains, cases_eq, cases_lt, not_in_empty, head_or_tail, here, later, GraphData, IsGraph, arc_of, Algebra, IsLawful, Composition, IsComposition, Link, Edge, is_on, AreClosedTo, IsBegun, IsOutline, heads_in, LinkRows, IsEdgeAt, AreAligned, rising, IsFactored}
use Rattle.std.proofs.lemmas.List.{get_or_append_left, get_or_push, length-append, get_or-set_other}
use Rattle.path_factors.specs.Factors.{FactorData, IsCovered, Passes, CoversArcs, AreStable, Rises, Falls, Leads, LeadsNoWorse, at, row_of, place_of}
use Rattle.path_factors.specs.Pruning.{marked, PassesAlong, DoForAll, IsBypassed, AreThinTo}
use Rattle.path_factors.proofs.Eliminating.{edge_unique, edge_rises, edge_falls, edge_of_riser, edge_of_faller}
use Rattle.path_factors.proofs.HeadRows.{head_of_link, head_at, heads_row}
use Rattle.path_factors.proofs.Offers.{applied_is}
use Rattle.path_factors.proofs.Packing.{inside_rows}

-- one element more
module _ {X : Type 0} where
  marked-on : (items : List X) (marks : List Bool) (j : ℕ) (x : X) → j < length items → get_or items j x ≡ x → is_on marks j ≡ true →
      marked (take (suc j) items) marks ≡ marked (take j items) marks ++ x ∷ []
  marked-on [] marks j x lt is on = absurd (omega (arith, lt))
  marked-on (y ∷ items) [] j x lt is on = absurd (cc)
  marked-on (y ∷ items) (true ∷ marks) zero x lt is on = ap (λ (z : X). z ∷ []) is
  marked-on (y ∷ items) (false ∷ marks) zero x lt is on = absurd (cc)
  marked-on (y ∷ items) (true ∷ marks) (suc j) x lt is on =
      ap (λ (l : List X). y ∷ l) (marked-on items marks j x (omega (arith, lt)) is on)
  marked-on (y ∷ items) (false ∷ marks) (suc j) x lt is on = marked-on items marks j x (omega (arith, lt)) is on

  marked-off : (items : List X) (marks : List Bool) (j : ℕ) → is_on marks j ≡ false →
      marked (take (suc j) items) marks ≡ marked (take j items) marks
  marked-off [] marks zero off = refl
  marked-off [] marks (suc j) off = refl
  marked-off (y ∷ items) [] zero off = refl
  marked-off (y ∷ items) [] (suc j) off = refl
  marked-off (y ∷ items) (true ∷ marks) zero off = absurd (cc)
  marked-off (y ∷ items) (false ∷ marks) zero off = refl
  marked-off (y ∷ items) (true ∷ marks) (suc j) off = ap (λ (l : List X). y ∷ l) (marked-off items marks j off)
  marked-off (y ∷ items) (false ∷ marks) (suc j) off = marked-off items marks j off

  pub marked_more : (items : List X) (marks : List Bool) (j : ℕ) (x : X) → j < length items → get_or items j x ≡ x → is_on marks j ≡ true →
      marked (take (j + 1) items) marks ≡ marked (take j items) marks ++ x ∷ []
  marked_more items marks j x lt is on =
      let one : j + 1 ≡ suc j = omega arith in
      ap (λ (k : ℕ). marked (take k items) marks) one ∙ marked-on items marks j x lt is on

  pub marked_same : (items : List X) (marks : List Bool) (j : ℕ) → is_on marks j ≡ false → marked (take (j + 1) items) marks ≡ marked (take j items) marks
  marked_same items marks j off =
      let one : j + 1 ≡ suc j = omega arith in
      ap (λ (k : ℕ). marked (take k items) marks) one ∙ marked-off items marks j off

  -- what is marked is there
  marked_given : (items : List X) (marks : List Bool) (x : X) → Contains (marked items marks) x → Contains items x
  marked_given [] marks x c = absurd (not_in_empty x c)
  marked_given (y ∷ items) [] x c = absurd (not_in_empty x c)
  marked_given (y ∷ items) (true ∷ marks) x c = elim (head_or_tail y x (marked items marks) c) [
    | inl is ↦ subst (λ (z : X). Contains (y ∷ items) z) is (here y items)
    | inr rest ↦ later y x items (marked_given items marks x rest)
  ]
  marked_given (y ∷ items) (false ∷ marks) x c = later y x items (marked_given items marks x c)

  marked_kept : (items : List X) (marks : List Bool) (j : ℕ) (x : X) → j < length items → get_or items j x ≡ x → is_on marks j ≡ true →
      Contains (marked items marks) x
  marked_kept [] marks j x lt is on = absurd (omega (arith, lt))
  marked_kept (y ∷ items) [] j x lt is on = absurd (cc)
  marked_kept (y ∷ items) (true ∷ marks) zero x lt is on = subst (λ (z : X). Contains (y ∷ marked items marks) z) is (here y (marked items marks))
  marked_kept (y ∷ items) (false ∷ marks) zero x lt is on = absurd (cc)
  marked_kept (y ∷ items) (true ∷ marks) (suc j) x lt is on =
      later y x (marked items marks) (marked_kept items marks j x (omega (arith, lt)) is on)
  marked_kept (y ∷ items) (false ∷ marks) (suc j) x lt is on = marked_kept items marks j x (omega (arith, lt)) is on

-- the edge between the ends of two edges of a place, by their heads
pub ends_lead : {W : Type 0} (F : FactorData W) (v i j q : ℕ) (e end : Edge W) → IsEdgeAt F v i e → IsEdgeAt F e.place q end →
    get_or (row_of (heads_in F.leaving) (get_or (row_of (heads_in F.leaving) v) i 0)) q 0 ≡ get_or (row_of (heads_in F.leaving) v) j 0 →
    Rises F (get_or (row_of (heads_in F.leaving) v) i 0) (get_or (row_of (heads_in F.leaving) v) j 0) end.leaving
    × Falls F (get_or (row_of (heads_in F.leaving) v) j 0) (get_or (row_of (heads_in F.leaving) v) i 0) end.entering
ends_lead F v i j q e end at on head =
    let H = heads_in F.leaving in
    let x : get_or (row_of H v) i 0 ≡ e.place = head_at F.leaving v i (rising e) at.leaving_inside at.rises in
    let y : get_or (row_of H v) j 0 ≡ end.place =
    sym head ∙ ap (λ (z : ℕ). get_or (row_of H z) q 0) x ∙ head_at F.leaving e.place q (rising end) on.leaving_inside on.rises in
    let up : Rises F e.place end.place end.leaving = edge_rises F e.place q end on in
    let down : Falls F end.place e.place end.entering = edge_falls F e.place q end on in (
      subst (λ (p : ℕ). Rises F p (get_or (row_of H v) j 0) end.leaving) (sym x) (subst (λ (p : ℕ). Rises F e.place p end.leaving) (sym y) up),
      subst (λ (p : ℕ). Falls F (get_or (row_of H v) j 0) p end.entering) (sym x) (subst (λ (p : ℕ). Falls F p e.place end.entering) (sym y) down),
    )

module _ {V W : Type 0} (A : Algebra V) (lawful : IsLawful A) (C : Composition V W) (composes : IsComposition A C) (F : FactorData W) where
  -- a walk that is no better than one that improves nothing improves nothing
  passes_worse : (from to : Option V) (a b : W) → ((x : V) → from ≡ Some x → IsTrue (A.is_value x)) → IsTrue (C.no_worse a b) →
      Passes A C from a to → Passes A C from b to
  passes_worse from to a b values h passes = λ x z e f.
      let better = composes.better_walk x a b z (values x e) h f in
      let on = passes x better.0 e better.1 in
      (on.0, on.1, lawful.ordered.transitive on.0 better.0 z on.2 better.2)

  -- neither does one after the other of two that improve nothing
  passes_both : (from mid to : Option V) (a b : W) → ((x : V) → from ≡ Some x → IsTrue (A.is_value x)) →
      ((x : V) → mid ≡ Some x → IsTrue (A.is_value x)) →
      Passes A C from a mid → Passes A C mid b to → Passes A C from (C.compose a b) to
  passes_both from mid to a b values also first second = λ x z e f.
      let is = values x e in
      let m = applied_is C (C.apply x a) b z (sym (composes.apply_composed x a b is) ∙ f) in
      let to_mid = first x m.0 e m.1 in
      let more = composes.monotone to_mid.0 m.0 b z (also to_mid.0 to_mid.1) (composes.apply_is_value x a m.0 is m.1) to_mid.2 m.2 in
      let end = second to_mid.0 more.0 to_mid.1 more.1 in
      (end.0, end.1, lawful.ordered.transitive end.0 more.0 z end.2 more.2)

  module _ (v : ℕ) where
    -- an edge is left out for the way over the end of one that is kept
    pub do_without : (marks : List Bool) (i j : ℕ) (e f on : Edge W) → IsEdgeAt F v i e → IsEdgeAt F v j f → (j ≡ i → ⊥) →
        is_on marks j ≡ true → v < e.place → v < f.place → Leads F f.place e.place on.leaving → Leads F e.place f.place on.entering → IsBypassed C e f on →
        DoForAll A C F v marks → DoForAll A C F v (set marks i false)
    do_without marks i j e f on at_i at_j apart marked_j above also leads leads_back worse done = λ labels stable pass.
        let values : (p : ℕ) (x : V) → at labels p ≡ Some x → IsTrue (A.is_value x) = stable.values in
        let other : (k : ℕ) → (k ≡ i → ⊥) → is_on (set marks i false) k ≡ is_on marks k = λ k differ. get_or-set_other marks i k false false differ in
        let over = pass j f at_j (other j apart ∙ marked_j) in
        let here : PassesAlong A C labels v e = record {
          leaving = passes_worse (at labels v) (at labels e.place) (C.compose f.leaving on.leaving) e.leaving (values v) worse.leaving
              (passes_both (at labels v) (at labels f.place) (at labels e.place) f.leaving on.leaving (values v) (values f.place) over.leaving
              (stable.passes f.place e.place on.leaving (omega (arith, also)) (omega (arith, above)) leads));
          entering = passes_worse (at labels e.place) (at labels v) (C.compose on.entering f.entering) e.entering (values e.place) worse.entering
              (passes_both (at labels e.place) (at labels f.place) (at labels v) on.entering f.entering (values e.place) (values f.place)
              (stable.passes e.place f.place on.entering (omega (arith, above)) (omega (arith, also)) leads_back) over.entering);
        } in
        done labels stable (λ k d at_k was. elim (cases_eq k i) [
          | inl is ↦
              let same = edge_unique F v i e d at_i (subst (λ (q : ℕ). IsEdgeAt F v q d) is at_k) in
              subst (λ (q : Edge W). PassesAlong A C labels v q) same here
          | inr differ ↦ pass k d at_k (other k differ ∙ was)
        ])

  -- no rows yet, and one more
  pub thin_none : (rows : LinkRows W) → rows.leaving ≡ [] → rows.entering ≡ [] → AreThinTo A C F 0 rows
  thin_none rows up down = record {
    leaving_count = ap length up;
    entering_count = ap length down;
    marks = λ v less. absurd (omega (arith, less));
  }

  pub thin_more : (k : ℕ) (rows more : LinkRows W) (marks : List Bool) → AreThinTo A C F k rows → DoForAll A C F k marks →
      more.leaving ≡ rows.leaving ++ marked (row_of F.leaving k) marks ∷ [] → more.entering ≡ rows.entering ++ marked (row_of F.entering k) marks ∷ [] →
      AreThinTo A C F (k + 1) more
  thin_more k rows more marks done does up down =
      let n = done.leaving_count in
      let m = done.entering_count in
      record {
        leaving_count = omega (arith, n, ap length up ∙ length-append rows.leaving (marked (row_of F.leaving k) marks ∷ []));
        entering_count = omega (arith, m, ap length down ∙ length-append rows.entering (marked (row_of F.entering k) marks ∷ []));
        marks = λ v less. elim (cases_lt v k) [
          | inl low ↦
              let old = done.marks v low in (
                old.0,
                old.1,
                ap (λ (r : List (List (Link W))). row_of r v) up ∙ get_or_append_left rows.leaving (marked (row_of F.leaving k) marks ∷ []) [] v (omega (arith, low, n)) ∙ old.2,
                ap (λ (r : List (List (Link W))). row_of r v) down ∙ get_or_append_left rows.entering (marked (row_of F.entering k) marks ∷ []) [] v (omega (arith, low, m)) ∙ old.3,
              )
          | inr high ↦
              let is : v ≡ k = omega (arith, less, high) in (
                marks,
                subst (λ (q : ℕ). DoForAll A C F q marks) (sym is) does,
                ap (λ (r : List (List (Link W))). row_of r v) up ∙ get_or_push rows.leaving (marked (row_of F.leaving k) marks) [] v (n ∙ sym is)
                    ∙ ap (λ (q : ℕ). marked (row_of F.leaving q) marks) (sym is),
                ap (λ (r : List (List (Link W))). row_of r v) down ∙ get_or_push rows.entering (marked (row_of F.entering k) marks) [] v (m ∙ sym is)
                    ∙ ap (λ (q : ℕ). marked (row_of F.entering q) marks) (sym is),
              )
        ];
      }

  -- the factor with other links
  abbrev with_rows : LinkRows W → FactorData W
  with_rows rows = record { order = F.order; places = F.places; leaving = rows.leaving; entering = rows.entering }

  module _ (g : GraphData) (covers : CoversArcs C g F) (closed : AreClosedTo C F g.vertices) (begun : IsBegun A C g F)
      (aligned : AreAligned F.leaving F.entering) (roads : IsGraph g) (outline : IsOutline g F.places (heads_in F.leaving)) where
    -- links are a factor if they were there, and improve a label if some link does
    module _ (rows : LinkRows W) (counts : (length rows.leaving ≡ g.vertices) × (length rows.entering ≡ g.vertices))
        (rises_before : (x y : ℕ) (a : W) → Rises (with_rows rows) x y a → Rises F x y a)
        (falls_before : (x y : ℕ) (a : W) → Falls (with_rows rows) x y a → Falls F x y a)
        (all_stable : (low : ℕ) (labels : List (Option V)) → AreStable A C (with_rows rows) low labels → AreStable A C F low labels) where
      covered : (low x y : ℕ) (a : W) → low ≤ x → low ≤ y → LeadsNoWorse C F x y a → IsCovered A C (with_rows rows) low x y a
      covered low x y a one two l = λ labels stable.
          passes_worse (at labels x) (at labels y) l.0 a (stable.values x) l.2 ((all_stable low labels stable).passes x y l.0 one two l.1)

      left_is_factored : IsFactored A C g (with_rows rows) (heads_in F.leaving)
      left_is_factored = record {
        roads = roads;
        factor = record {
          ordering = begun.ordering;
          links = record {
            leaving_count = counts.0;
            entering_count = counts.1;
            rising = λ x y a r. begun.links.rising x y a (rises_before x y a r);
            falling = λ x y a f. begun.links.falling x y a (falls_before x y a f);
            sound = λ x y a l. elim l [
              | inl r ↦ begun.links.sound x y a (inl (rises_before x y a r))
              | inr f ↦ begun.links.sound x y a (inr (falls_before x y a f))
            ];
          };
          covers = λ a has other.
              covered 0 (place_of F (arc_of g a).tail) (place_of F (arc_of g a).head) (C.of_arc (arc_of g a).weight) (omega arith) (omega arith) (covers a has other);
          closed = λ v low x y a b f r other.
              let from = falls_before x v a f in
              let on = rises_before v y b r in
              let also = (begun.links.rising v y b on).0 in
              covered (v + 1) x y (C.compose a b) (omega (arith, (begun.links.falling x v a from).0)) (omega (arith, also)) (closed v low x y a b from on other);
        };
        outline = outline;
        at_heads = record {
          rising = λ x y a r. head_of_link F.leaving x (record { place = y; walk = a }) (rises_before x y a r);
          falling = λ x y a f.
              subst (λ (r : List ℕ). Contains r x) (heads_row F.entering y ∙ sym (aligned y) ∙ sym (heads_row F.leaving y))
              (head_of_link F.entering y (record { place = x; walk = a }) (falls_before x y a f));
        };
      }

    pub whole_is_factored : IsFactored A C g F (heads_in F.leaving)
    whole_is_factored =
        left_is_factored (record { leaving = F.leaving; entering = F.entering }) (begun.links.leaving_count, begun.links.entering_count)
        (λ x y a r. r) (λ x y a f. f) (λ low labels stable. stable)

    module _ (rows : LinkRows W) (thin : AreThinTo A C F g.vertices rows) where
      rises_before : (x y : ℕ) (a : W) → Rises (with_rows rows) x y a → Rises F x y a
      rises_before x y a r = elim (cases_lt x g.vertices) [
        | inl low ↦
            let k = thin.marks x low in
            marked_given (row_of F.leaving x) k.0 (record { place = y; walk = a }) (subst (λ (t : List (Link W)). Contains t (record { place = y; walk = a })) k.2 r)
        | inr past ↦ let low = inside_rows rows.leaving x (record { place = y; walk = a }) r in let n = thin.leaving_count in absurd (omega (arith, low, past, n))
      ]

      falls_before : (x y : ℕ) (a : W) → Falls (with_rows rows) x y a → Falls F x y a
      falls_before x y a f = elim (cases_lt y g.vertices) [
        | inl low ↦
            let k = thin.marks y low in
            marked_given (row_of F.entering y) k.0 (record { place = x; walk = a }) (subst (λ (t : List (Link W)). Contains t (record { place = x; walk = a })) k.3 f)
        | inr past ↦ let low = inside_rows rows.entering y (record { place = x; walk = a }) f in let n = thin.entering_count in absurd (omega (arith, low, past, n))
      ]

      -- where no link that is left improves a label, no edge of place v does
      along : (v : ℕ) (labels : List (Option V)) → v < g.vertices → AreStable A C F (v + 1) labels → AreStable A C (with_rows rows) v labels →
          (j : ℕ) (e : Edge W) → IsEdgeAt F v j e → v < e.place → PassesAlong A C labels v e
      along v labels low above stable =
          let k = thin.marks v low in
          λ j e at up. k.1 labels above (λ i d at_i on.
          let to = begun.links.rising v d.place d.leaving (i, at_i.leaving_inside, at_i.rises) in
          record {
            leaving = stable.passes v d.place d.leaving (omega arith) (omega (arith, to.0))
                (inl (subst (λ (t : List (Link W)). Contains t (record { place = d.place; walk = d.leaving })) (sym k.2)
                (marked_kept (row_of F.leaving v) k.0 i (record { place = d.place; walk = d.leaving }) at_i.leaving_inside at_i.rises on)));
            entering = stable.passes d.place v d.entering (omega (arith, to.0)) (omega arith)
                (inr (subst (λ (t : List (Link W)). Contains t (record { place = d.place; walk = d.entering })) (sym k.3)
                (marked_kept (row_of F.entering v) k.0 i (record { place = d.place; walk = d.entering }) at_i.entering_inside at_i.falls on)));
          }) j e at

      -- so no link does that there was: by induction on how many places are above
      all_stable : (d low : ℕ) (labels : List (Option V)) → g.vertices ≤ low + d → AreStable A C (with_rows rows) low labels → AreStable A C F low labels
      all_stable zero low labels far stable = record {
        values = stable.values;
        passes = λ x y a one two l. elim l [
          | inl r ↦ let inside = begun.links.rising x y a r in absurd (omega (arith, inside.0, inside.1, far, one))
          | inr f ↦ let inside = begun.links.falling x y a f in absurd (omega (arith, inside.0, inside.1, far, two))
        ];
      }
      all_stable (suc d) low labels far stable =
          let above : AreStable A C F (low + 1) labels = all_stable d (low + 1) labels (omega (arith, far))
          (record { values = stable.values; passes = λ x y a one two l. stable.passes x y a (omega (arith, one)) (omega (arith, two)) l }) in
          record {
            values = stable.values;
            passes = λ x y a one two l. elim l [
              | inl r ↦
                  let inside = begun.links.rising x y a r in
                  elim (cases_eq x low) [
                    | inl is ↦
                        let at_low : Rises F low y a = subst (λ (i : ℕ). Rises F i y a) is r in
                        let e = edge_of_riser F aligned low y a at_low in
                        let to : e.0.place ≡ y = ap (λ (k : Link W). k.place) e.2 in
                        let p = along low labels (omega (arith, is, inside.0, inside.1)) above stable at_low.0 e.0 e.1 (omega (arith, is, inside.0, to)) in
                        subst (λ (i : ℕ). Passes A C (at labels i) a (at labels y)) (sym is)
                        (subst (λ (k : Link W). Passes A C (at labels low) k.walk (at labels k.place)) e.2 p.leaving)
                    | inr other ↦ above.passes x y a (omega (arith, one, other)) (omega (arith, one, inside.0)) (inl r)
                  ]
              | inr f ↦
                  let inside = begun.links.falling x y a f in
                  elim (cases_eq y low) [
                    | inl is ↦
                        let at_low : Falls F x low a = subst (λ (i : ℕ). Falls F x i a) is f in
                        let e = edge_of_faller F aligned low x a at_low in
                        let to : e.0.place ≡ x = ap (λ (k : Link W). k.place) e.2 in
                        let p = along low labels (omega (arith, is, inside.0, inside.1)) above stable at_low.0 e.0 e.1 (omega (arith, is, inside.0, to)) in
                        subst (λ (i : ℕ). Passes A C (at labels x) a (at labels i)) (sym is)
                        (subst (λ (k : Link W). Passes A C (at labels k.place) k.walk (at labels low)) e.2 p.entering)
                    | inr other ↦ above.passes x y a (omega (arith, two, inside.0)) (omega (arith, two, other)) (inr f)
                  ]
            ];
          }

      pub pruned_is_factored : IsFactored A C g (with_rows rows) (heads_in F.leaving)
      pruned_is_factored =
          left_is_factored rows (thin.leaving_count, thin.entering_count) rises_before falls_before
          (λ low labels stable. all_stable g.vertices low labels (omega arith) stable)
