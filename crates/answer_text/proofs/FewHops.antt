-- A vertex has no more hops than its graph has vertices.
use Rattle.std.proofs.Common.{◌≡◌, ℕ, zero, suc, ◌<◌, ◌≤◌, inl, inr, List, [], ◌∷◌, ◌++◌, length, eqb, true, false, refl, sym, subst, arith, eqb-true, ne_eqb, length-append}
use Rattle.std.proofs.lemmas.Bool.{or_cases}
use Rattle.std.proofs.lemmas.List.Elements.{All-nil, All-cons, All-append, All-head, All-tail}
use Rattle.std.proofs.lemmas.Map.Keys.{IsDistinct-cons}
use Rattle.std.proofs.lemmas.Map.Steps.{length-le_from_distinct_below}
use Rattle.std.specs.List.{AllByRecursion, IsDistinct, list_any}
use Rattle.answer_text.proofs.Words.{All, Algebra}
use Rattle.road_graph.specs.GraphData.{GraphData, IsGraph, HasVertex, arc_of}
use Rattle.path_algebra.specs.Walks.{IsWalk, IsTight, IsTightWalk, AreHops}
use Rattle.path_algebra.proofs.Walks.{IsWalk-snoc}

none_twice : IsDistinct eqb []
unfolding IsDistinct
none_twice = tt

module _ {V : Type 0} (A : Algebra V) (g : GraphData) (roads : IsGraph g) (sources : List ℕ) (inside : All (HasVertex g) sources) where
  -- a walk of tight arcs, and one tight arc more, which leads to v
  record OneMore (u v k : ℕ) : Type 0 where
    before : List ℕ
    last : ℕ
    walk : IsWalk g u before (arc_of g last).tail
    tight : All (IsTight A g sources) before
    long : length before ≡ k
    more : IsTight A g sources last
    end : (arc_of g last).head ≡ v

  last_arc : (u : ℕ) (p : List ℕ) (v k : ℕ) → IsWalk g u p v → All (IsTight A g sources) p → length p ≡ suc k → OneMore u v k
  last_arc u [] v k w t e = absurd (omega (arith, e))
  last_arc u (a ∷ []) v k w t e =
      record { before = []; last = a; walk = sym w.1; tight = All-nil (IsTight A g sources); long = omega (arith, e); more = All-head (IsTight A g sources) a [] t; end = w.2 }
  last_arc u (a ∷ b ∷ p) v k w t e =
      let r = last_arc (arc_of g a).head (b ∷ p) v (length p) w.2 (All-tail (IsTight A g sources) a (b ∷ p) t) refl in
      let long = r.long in
      record {
        before = a ∷ r.before;
        last = r.last;
        walk = (w.0, w.1, r.walk);
        tight = All-cons (IsTight A g sources) a r.before (All-head (IsTight A g sources) a (b ∷ p) t) r.tight;
        long = omega (arith, e, long);
        more = r.more;
        end = r.end;
      }

  -- some vertex is one hop nearer
  nearer : (v k : ℕ) → AreHops A g sources v (suc k) → (u : ℕ) × HasVertex g u × AreHops A g sources u k
  nearer v k h =
      let w = h.attained in
      let r = last_arc w.1.0 w.0 v k w.1.2 w.2 w.3 in
      let on : (j : ℕ) → IsTightWalk A g sources (arc_of g r.last).tail j → IsTightWalk A g sources v (suc j) = (λ j q. (
        q.0 ++ r.last ∷ [],
        (q.1.0, q.1.1, subst (IsWalk g q.1.0 (q.0 ++ r.last ∷ [])) r.end (IsWalk-snoc g q.1.0 q.0 (arc_of g r.last).tail r.last q.1.2 r.more.arc refl)),
        All-append (IsTight A g sources) q.0 (r.last ∷ []) q.2 (All-cons (IsTight A g sources) r.last [] r.more (All-nil (IsTight A g sources))),
        (let e = q.3 in let l = length-append q.0 (r.last ∷ []) in omega (arith, e, l)),
      )) in (
        (arc_of g r.last).tail,
        (roads.ends r.last r.more.arc).0,
        record {
          attained = (r.before, (w.1.0, w.1.1, r.walk), r.tight, r.long);
          least = λ j q. let l = h.least (suc j) (on j q) in omega (arith, l);
        },
      )

  -- a vertex of at most k hops
  abbrev Near : ℕ → ℕ → Type 0
  Near k w = HasVertex g w × ((j : ℕ) × (j ≤ k) × AreHops A g sources w j)

  -- one vertex for each number of hops from 0 to k
  record Layers (k : ℕ) (ws : List ℕ) : Type 0 where
    count : length ws ≡ suc k
    distinct : IsDistinct eqb ws
    near : AllByRecursion (Near k) ws

  farther : (k : ℕ) (ws : List ℕ) → AllByRecursion (Near k) ws → AllByRecursion (Near (suc k)) ws
  farther k [] h = tt
  farther k (w ∷ ws) h = ((h.0.0, (h.0.1.0, (let l = h.0.1.1 in omega (arith, l)), h.0.1.2)), farther k ws h.1)

  none_is : (v k : ℕ) (ws : List ℕ) → AreHops A g sources v (suc k) → AllByRecursion (Near k) ws → AllByRecursion (λ w. eqb v w ≡ false) ws
  none_is v k [] h n = tt
  none_is v k (w ∷ ws) h n = (
    ne_eqb v w (λ e.
        let same : AreHops A g sources v n.0.1.0 = subst (λ u. AreHops A g sources u n.0.1.0) (sym e) n.0.1.2 in
        let a = h.least n.0.1.0 same.attained in
        let b = n.0.1.1 in omega (arith, a, b)),
    none_is v k ws h n.1,
  )

  layers : (k v : ℕ) → HasVertex g v → AreHops A g sources v k → (ws : List ℕ) × Layers k ws
  layers zero v in_g h = (v ∷ [], record { count = refl; distinct = IsDistinct-cons eqb v [] tt none_twice; near = ((in_g, (0, omega arith, h)), tt) })
  layers (suc k) v in_g h =
      let u = nearer v k h in
      let r = layers k u.0 u.1 u.2 in
      let count = r.1.count in (
        v ∷ r.0,
        record {
          count = omega (arith, count);
          distinct = IsDistinct-cons eqb v r.0 (none_is v k r.0 h r.1.near) r.1.distinct;
          near = ((in_g, (suc k, omega arith, h)), farther k r.0 r.1.near);
        },
      )

  below : (k q : ℕ) (ws : List ℕ) → AllByRecursion (Near k) ws → list_any (eqb q) ws ≡ true → q < suc g.vertices
  below k q [] h l = absurd cc
  below k q (w ∷ ws) h l = elim (or_cases (eqb q w) (list_any (eqb q) ws) l) [
    | inl e ↦ (let same = eqb-true q w e in let b = h.0.0.1 in omega (arith, same, b))
    | inr m ↦ below k q ws h.1 m
  ]

  pub few_hops : (v k : ℕ) → HasVertex g v → AreHops A g sources v k → k ≤ g.vertices
  few_hops v k in_g h =
      let r = layers k v in_g h in
      let count = r.1.count in
      let few = length-le_from_distinct_below r.0 (suc g.vertices) r.1.distinct (λ q l. below k q r.0 r.1.near l) in
      omega (arith, count, few)
