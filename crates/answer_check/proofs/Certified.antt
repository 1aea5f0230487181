-- Lines that are certified are the right answer, and the right answer is certified.
use Rattle.answer_check.proofs.Words.{◌≡◌, ℕ, zero, suc, ◌+◌, ◌-◌, ◌<◌, ◌≤◌, ◌⊎◌, inl, inr, List, [], ◌∷◌, ◌++◌, length, map, refl, ap, sym, ◌∙◌, subst, arith, Option, Some, None, IsTrue, Contains, All, GraphData, IsGraph, HasArc, HasVertex, arc_of, same_some, Algebra, IsLawful, same_no_worse, Reached}
use Rattle.path_algebra.proofs.Walks.{labels_are_best}
use Rattle.std.proofs.lemmas.List.{length-append, length-map}
use Rattle.path_algebra.specs.Walks.{IsWalk}
use Rattle.std.proofs.Math.ListN.{get_or-map}
use Rattle.answer_check.proofs.Words.{IsUnreached}
use Rattle.path_algebra.specs.Walks.{IsWalkValue, IsBest, IsBestLabel, AreBest}
use Rattle.answer_check.proofs.Words.{AreHops, label_of}
use Rattle.path_algebra.specs.Walks.{IsTight, IsTightWalk, IsParent}
use Rattle.path_algebra.proofs.Walks.{IsWalk-snoc, IsWalkValue-extend, walk_value_is_value}
use Rattle.std.proofs.lemmas.List.Elements.{All-nil, All-cons, All-head, All-tail, All-append}
use Rattle.path_algebra.proofs.Tight.{never_better_along, best_is_one}
use Rattle.answer_text.specs.IsAnswer.{IsReachedLine, IsVertexLine, AreVertexLines}
use Rattle.answer_check.specs.Reasons.{IsCodeOf, Offers, source_line}
use Rattle.answer_check.specs.Certificates.{IsSupported, IsRightLine, IsCertifiedAt, AreCertified}

-- the value that a line gives
abbrev value_told : {V : Type 0} → Algebra V → Option Reached → Option V
value_told A None = None
value_told A (Some r) = A.value_of r.code

-- what an arc offers to its head
pub arc_offers : {V : Type 0} (A : Algebra V) (g : GraphData) (lines : List (Option Reached)) (a : ℕ) (near : Reached) (x z : V) → HasArc g a → label_of lines (arc_of g a).tail ≡ Some near →
    IsCodeOf A near.code x → A.extend x (arc_of g a).weight ≡ Some z → Offers A g lines (arc_of g a).tail (arc_of g a).head near z
arc_offers A g lines a near x z h line code f = record { arc = a; is_arc = h; tail_is = refl; head_is = refl; value = x; line_is = line; code_is = code; extends = f }

module _ {V : Type 0} (A : Algebra V) (lawful : IsLawful A) where
  -- a number is the code of one value alone
  pub code_of_one : (c : ℕ) (x y : V) → IsCodeOf A c x → IsCodeOf A c y → x ≡ y
  code_of_one c x y h k = same_some (A.value_of c) x y (ap A.value_of h.1 ∙ lawful.value_of_code x h.0) (ap A.value_of k.1 ∙ lawful.value_of_code y k.0)

  value_of_code_of : (c : ℕ) (x : V) → IsCodeOf A c x → A.value_of c ≡ Some x
  value_of_code_of c x h = ap A.value_of h.1 ∙ lawful.value_of_code x h.0

  module _ (g : GraphData) (roads : IsGraph g) (sources : List ℕ) (in_s : (s : ℕ) → Contains sources s → HasVertex g s) (lines : List (Option Reached)) where
    walk_has_code : (v : ℕ) (c : ℕ) (x : V) → IsWalkValue A g sources v x → c ≡ A.code x → IsCodeOf A c x
    walk_has_code v c x w e = (walk_value_is_value A lawful g roads sources v x w, e)

    -- what an arc offers, where the line of its tail says the value of a walk
    offers_walk : (u v : ℕ) (near : Reached) (x z : V) → IsWalkValue A g sources u x → near.code ≡ A.code x → Offers A g lines u v near z → IsWalkValue A g sources v z
    offers_walk u v near x z w e b =
        let same : b.value ≡ x = code_of_one near.code b.value x b.code_is (walk_has_code u near.code x w e) in
        let from : IsWalkValue A g sources u b.value = subst (λ (y : V). IsWalkValue A g sources u y) (sym same) w in
        subst (λ (k : ℕ). IsWalkValue A g sources k z) b.head_is (IsWalkValue-extend A g sources u b.arc b.value z from b.is_arc b.tail_is b.extends)

    origin_walk : (s : ℕ) → Contains sources s → IsWalkValue A g sources s A.origin
    origin_walk s h = ([], (s, h, refl), refl)

    origin_best : (v : ℕ) (y : V) → IsWalkValue A g sources v y → IsTrue (A.no_worse A.origin y)
    origin_best v y w = never_better_along A lawful g roads w.1.0 w.0 v A.origin y w.1.2 lawful.origin_is_value w.2

    tail_in : (u v : ℕ) (near : Reached) (z : V) → Offers A g lines u v near z → HasVertex g u
    tail_in u v near z b = subst (λ (k : ℕ). HasVertex g k) b.tail_is (roads.ends b.arc b.is_arc).0

    -- a walk of tight arcs goes on by a tight arc
    tight_more : (u k a : ℕ) → IsTightWalk A g sources u k → IsTight A g sources a → (arc_of g a).tail ≡ u → IsTightWalk A g sources (arc_of g a).head (k + 1)
    tight_more u k a w t e = (
      w.0 ++ a ∷ [],
      (w.1.0, w.1.1, IsWalk-snoc g w.1.0 w.0 u a w.1.2 t.arc e),
      All-append (IsTight A g sources) w.0 (a ∷ []) w.2 (All-cons (IsTight A g sources) a [] t (All-nil (IsTight A g sources))),
      omega (arith, length-append w.0 (a ∷ []), w.3),
    )

    -- an arc that offers the best value of its head is tight, where its tail's line says the best
    -- value
    offers_tight : (u v : ℕ) (near : Reached) (x y : V) → IsBest A g sources u x → near.code ≡ A.code x → IsBest A g sources v y → (b : Offers A g lines u v near y) → IsTight A g sources b.arc
    offers_tight u v near x y best_u e best_v b =
        let same : b.value ≡ x = code_of_one near.code b.value x b.code_is (walk_has_code u near.code x best_u.attained e) in
        record {
          arc = b.is_arc;
          tail = x;
          head = y;
          tail_best = subst (λ (k : ℕ). IsBest A g sources k x) (sym b.tail_is) best_u;
          head_best = subst (λ (k : ℕ). IsBest A g sources k y) (sym b.head_is) best_v;
          extends = subst (λ (t : V). A.extend t (arc_of g b.arc).weight ≡ Some y) same b.extends;
        }

    -- a tight arc offers the best value of its head
    tight_offers : (a : ℕ) (near : Reached) (x y : V) → IsTight A g sources a → label_of lines (arc_of g a).tail ≡ Some near → near.code ≡ A.code x →
        IsBest A g sources (arc_of g a).tail x → IsBest A g sources (arc_of g a).head y → Offers A g lines (arc_of g a).tail (arc_of g a).head near y
    tight_offers a near x y t line e best_u best_v =
        let from : t.tail ≡ x = best_is_one A lawful g roads sources (arc_of g a).tail t.tail x t.tail_best best_u in
        let to : t.head ≡ y = best_is_one A lawful g roads sources (arc_of g a).head t.head y t.head_best best_v in
        arc_offers A g lines a near x y t.arc line (walk_has_code (arc_of g a).tail near.code x best_u.attained e)
        (ap (λ (q : V). A.extend q (arc_of g a).weight) (sym from) ∙ t.extends ∙ ap (λ (q : V). Some q) to)

    source_walk : (v k : ℕ) → Contains sources v → k ≡ 0 → IsTightWalk A g sources v k
    source_walk v k h e = ([], (v, h, refl), All-nil (IsTight A g sources), sym e)

    module _ (certified : AreCertified A g sources lines) where
      -- the line of v says the value of a walk
      abbrev TellsWalk : ℕ → Reached → Type 0
      TellsWalk v r = (x : V) × IsWalkValue A g sources v x × (r.code ≡ A.code x)

      source_tells : (v : ℕ) (r : Reached) → Contains sources v → label_of lines v ≡ Some r → label_of lines v ≡ source_line A → TellsWalk v r
      source_tells v r h e is =
          let same = same_some (label_of lines v) r (record { code = A.code A.origin; hops = 0; parent = 0 }) e is in
          (A.origin, origin_walk v h, ap (λ (q : Reached). q.code) same)

      support_at : (v : ℕ) (r : Reached) → label_of lines v ≡ Some r → IsCertifiedAt A g sources lines v →
          (Contains sources v × (label_of lines v ≡ source_line A)) ⊎ ((Contains sources v → ⊥) × IsSupported A g lines v r)
      support_at v r e h = elim h [ inl s ↦ inl s | inr n ↦ inr (n.0, subst (IsRightLine A g lines v) e n.1) ]

      -- along parents hops grow less, down to a source
      tells_by_hops : (n v : ℕ) (r : Reached) → HasVertex g v → label_of lines v ≡ Some r → r.hops < n → TellsWalk v r
      tells_by_hops zero v r in_v e few = absurd (omega (arith, few))
      tells_by_hops (suc n) v r in_v e few = elim (support_at v r e (certified.each v in_v)) [
        | inl s ↦ source_tells v r s.0 e s.1
        | inr h ↦
            let sup = h.1 in
            let from = sup.from_parent in
            let w = tells_by_hops n r.parent sup.near (tail_in r.parent v sup.near sup.value from) from.line_is (omega (arith, sup.hops_are, few)) in
            (sup.value, offers_walk r.parent v sup.near w.0 sup.value w.1 w.2 from, sup.code_is.1)
      ]

      tells : (v : ℕ) (r : Reached) → HasVertex g v → label_of lines v ≡ Some r → TellsWalk v r
      tells v r in_v e = tells_by_hops (r.hops + 1) v r in_v e (omega arith)

      -- the values that the lines tell, as labels
      abbrev labels : List (Option V)
      labels = map (value_told A) lines

      label_is : (v : ℕ) → label_of labels v ≡ value_told A (label_of lines v)
      label_is v = get_or-map (value_told A) lines (v - 1) None

      label_told : (v : ℕ) (r : Reached) (x : V) → label_of lines v ≡ Some r → IsCodeOf A r.code x → label_of labels v ≡ Some x
      label_told v r x e h = label_is v ∙ ap (value_told A) e ∙ value_of_code_of r.code x h

      unlabelled : (v : ℕ) → label_of lines v ≡ None → label_of labels v ≡ None
      unlabelled v e = label_is v ∙ ap (value_told A) e

      -- a label is on a line
      told_by : (v : ℕ) (x : V) → HasVertex g v → label_of labels v ≡ Some x → (l : Option Reached) → label_of lines v ≡ l →
          (r : Reached) × (label_of lines v ≡ Some r) × IsWalkValue A g sources v x × (r.code ≡ A.code x)
      told_by v x in_v e None f = let bad : None ≡ Some x = sym (unlabelled v f) ∙ e in cc
      told_by v x in_v e (Some r) f =
          let t = tells v r in_v f in
          let same : t.0 ≡ x = same_some (label_of labels v) t.0 x (label_told v r t.0 f (walk_has_code v r.code t.0 t.1 t.2)) e in
          (r, f, subst (λ (y : V). IsWalkValue A g sources v y) same t.1, t.2 ∙ ap A.code same)

      origin_label : (s : ℕ) → label_of lines s ≡ source_line A → label_of labels s ≡ Some A.origin
      origin_label s e = label_told s (record { code = A.code A.origin; hops = 0; parent = 0 }) A.origin e (lawful.origin_is_value, refl)

      source_is : (s : ℕ) → Contains sources s → label_of lines s ≡ source_line A
      source_is s h = elim (certified.each s (in_s s h)) [ inl k ↦ k.1 | inr n ↦ absurd (n.0 h) ]

      -- no arc improves the label of its head
      head_label : (v u : ℕ) (near : Reached) (x z : V) → HasVertex g v → Offers A g lines u v near z → IsWalkValue A g sources v z → (l : Option Reached) → label_of lines v ≡ l →
          IsCertifiedAt A g sources lines v →
          (y : V) × (label_of labels v ≡ Some y) × IsTrue (A.no_worse y z)
      head_label v u near x z in_v b w l e (inl s) = (A.origin, origin_label v s.1, origin_best v z w)
      head_label v u near x z in_v b w None e (inr n) = absurd (let none : IsRightLine A g lines v None = subst (IsRightLine A g lines v) e n.1 in none u near z b)
      head_label v u near x z in_v b w (Some r) e (inr n) =
          let sup : IsSupported A g lines v r = subst (IsRightLine A g lines v) e n.1 in
          (sup.value, label_told v r sup.value e sup.code_is, sup.not_beaten u near z b)

      not_improving : (a : ℕ) → HasArc g a → (x z : V) → label_of labels (arc_of g a).tail ≡ Some x → A.extend x (arc_of g a).weight ≡ Some z →
          (y : V) × (label_of labels (arc_of g a).head ≡ Some y) × IsTrue (A.no_worse y z)
      not_improving a h x z e f =
          let ends = roads.ends a h in
          let t = told_by (arc_of g a).tail x ends.0 e (label_of lines (arc_of g a).tail) refl in
          head_label (arc_of g a).head (arc_of g a).tail t.0 x z ends.1 (arc_offers A g lines a t.0 x z h t.1 (walk_has_code (arc_of g a).tail t.0.code x t.2 t.3) f)
          (IsWalkValue-extend A g sources (arc_of g a).tail a x z t.2 h refl f) (label_of lines (arc_of g a).head) refl (certified.each (arc_of g a).head ends.1)

      best : AreBest A g sources labels
      best = labels_are_best A lawful g roads sources labels (λ v x in_v e. (told_by v x in_v e (label_of lines v) refl).2) not_improving in_s
          (λ s h. (A.origin, origin_label s (source_is s h), same_no_worse A.no_worse lawful.ordered A.origin))
          (length-map lines (value_told A) ∙ certified.count)

      best_at : (v : ℕ) (x : V) → HasVertex g v → label_of labels v ≡ Some x → IsBest A g sources v x
      best_at v x in_v e = subst (λ (l : Option V). IsBestLabel A g sources v l) e (best.best v in_v)

      -- the line of a vertex says its best value
      tells_best : (v : ℕ) (r : Reached) → HasVertex g v → label_of lines v ≡ Some r → (x : V) × IsBest A g sources v x × (r.code ≡ A.code x)
      tells_best v r in_v e = let t = tells v r in_v e in (t.0, best_at v t.0 in_v (label_told v r t.0 e (walk_has_code v r.code t.0 t.1 t.2)), t.2)

      -- a vertex with a best value has a line that says it
      line_by : (v : ℕ) (x : V) → HasVertex g v → IsBest A g sources v x → (l : Option Reached) → label_of lines v ≡ l → (r : Reached) × (label_of lines v ≡ Some r) × (r.code ≡ A.code x)
      line_by v x in_v b None e =
          let none : IsBestLabel A g sources v None = subst (λ (l : Option V). IsBestLabel A g sources v l) (unlabelled v e) (best.best v in_v) in
          absurd (none x b.attained)
      line_by v x in_v b (Some r) e =
          let t = tells_best v r in_v e in
          (r, e, t.2 ∙ ap A.code (best_is_one A lawful g roads sources v t.0 x t.1 b))

      -- the value of a supported line is the best
      support_best : (v : ℕ) (r : Reached) → HasVertex g v → label_of lines v ≡ Some r → (sup : IsSupported A g lines v r) → IsBest A g sources v sup.value
      support_best v r in_v e sup = best_at v sup.value in_v (label_told v r sup.value e sup.code_is)

      -- the arc from the parent is tight
      parent_tight : (v : ℕ) (r : Reached) → HasVertex g v → label_of lines v ≡ Some r → (sup : IsSupported A g lines v r) → IsTight A g sources sup.from_parent.arc
      parent_tight v r in_v e sup =
          let from = sup.from_parent in
          let u = tells_best r.parent sup.near (tail_in r.parent v sup.near sup.value from) from.line_is in
          offers_tight r.parent v sup.near u.0 sup.value u.1 u.2 (support_best v r in_v e sup) from

      source_hops : (v : ℕ) (r : Reached) → label_of lines v ≡ Some r → label_of lines v ≡ source_line A → (r.hops ≡ 0) × (r.parent ≡ 0)
      source_hops v r e is =
          let same = same_some (label_of lines v) r (record { code = A.code A.origin; hops = 0; parent = 0 }) e is in
          (ap (λ (q : Reached). q.hops) same, ap (λ (q : Reached). q.parent) same)

      -- along parents leads a walk of tight arcs, as long as the hops tell
      tight_by_hops : (n v : ℕ) (r : Reached) → HasVertex g v → label_of lines v ≡ Some r → r.hops < n → IsTightWalk A g sources v r.hops
      tight_by_hops zero v r in_v e few = absurd (omega (arith, few))
      tight_by_hops (suc n) v r in_v e few = elim (support_at v r e (certified.each v in_v)) [
        | inl s ↦ source_walk v r.hops s.0 (source_hops v r e s.1).0
        | inr h ↦
            let sup = h.1 in
            let one = sup.hops_are in
            let from = sup.from_parent in
            let w = tight_by_hops n r.parent sup.near (tail_in r.parent v sup.near sup.value from) from.line_is (omega (arith, one, few)) in
            let more = tight_more r.parent sup.near.hops from.arc w (parent_tight v r in_v e sup) from.tail_is in
            subst (λ (k : ℕ). IsTightWalk A g sources v k) one (subst (λ (t : ℕ). IsTightWalk A g sources t (sup.near.hops + 1)) from.head_is more)
      ]

      -- a tight arc adds one hop at most
      one_more : (a : ℕ) (near : Reached) → IsTight A g sources a → label_of lines (arc_of g a).tail ≡ Some near →
          (r : Reached) × (label_of lines (arc_of g a).head ≡ Some r) × (r.hops ≤ near.hops + 1)
      one_more a near t e =
          let ends = roads.ends a t.arc in
          let v = (arc_of g a).head in
          let u = tells_best (arc_of g a).tail near ends.0 e in
          let line = line_by v t.head ends.1 t.head_best (label_of lines v) refl in
          let b = tight_offers a near u.0 t.head t e u.2 u.1 t.head_best in (
            line.0,
            line.1,
            elim (support_at v line.0 line.1 (certified.each v ends.1)) [
              | inl s ↦ omega (arith, (source_hops v line.0 line.1 s.1).0)
              | inr h ↦
                  let sup = h.1 in
                  let same = best_is_one A lawful g roads sources v t.head sup.value t.head_best (support_best v line.0 ends.1 line.1 sup) in
                  sup.not_nearer (arc_of g a).tail near (subst (λ (y : V). Offers A g lines (arc_of g a).tail v near y) same b)
            ],
          )

      hops_along : (u : ℕ) (p : List ℕ) (v : ℕ) (near r : Reached) → IsWalk g u p v → All (IsTight A g sources) p → label_of lines u ≡ Some near → label_of lines v ≡ Some r →
          r.hops ≤ near.hops + length p
      hops_along u [] v near r w all e f =
          let same = same_some (label_of lines v) near r (ap (label_of lines) (sym w) ∙ e) f in
          let hops = ap (λ (q : Reached). q.hops) same in omega (arith, hops)
      hops_along u (a ∷ p) v near r w all e f =
          let next = one_more a near (All-head (IsTight A g sources) a p all) (ap (label_of lines) w.1 ∙ e) in
          omega (arith, hops_along (arc_of g a).head p v next.0 r w.2 (All-tail (IsTight A g sources) a p all) next.1 f, next.2)

      hops_least : (v : ℕ) (r : Reached) → label_of lines v ≡ Some r → (j : ℕ) → IsTightWalk A g sources v j → r.hops ≤ j
      hops_least v r e j w =
          let s = w.1.0 in
          let b = hops_along s w.0 v (record { code = A.code A.origin; hops = 0; parent = 0 }) r w.1.2 w.2 (source_is s w.1.1) e in
          omega (arith, b, w.3)

      hops_are : (v : ℕ) (r : Reached) → HasVertex g v → label_of lines v ≡ Some r → AreHops A g sources v r.hops
      hops_are v r in_v e = record { attained = tight_by_hops (r.hops + 1) v r in_v e (omega arith); least = hops_least v r e }

      parent_is : (v : ℕ) (r : Reached) → HasVertex g v → label_of lines v ≡ Some r → (Contains sources v → ⊥) → IsSupported A g lines v r → IsParent A g sources v r.parent
      parent_is v r in_v e no_source sup = record {
        no_source = no_source;
        nearer =
            let from = sup.from_parent in
            let one = sup.hops_are in (
              from.arc,
              parent_tight v r in_v e sup,
              from.tail_is,
              from.head_is,
              (sup.near.hops, hops_are r.parent sup.near (tail_in r.parent v sup.near sup.value from) from.line_is, subst (λ (k : ℕ). AreHops A g sources v k) (sym one) (hops_are v r in_v e)),
            );
        least = λ t n.
            let (a, tight, at, to, k) = n in
            let ends = roads.ends a tight.arc in
            let line = line_by (arc_of g a).tail tight.tail ends.0 tight.tail_best (label_of lines (arc_of g a).tail) refl in
            let b : Offers A g lines (arc_of g a).tail (arc_of g a).head line.0 tight.head = tight_offers a line.0 tight.tail tight.head tight line.1 line.2 tight.tail_best tight.head_best in
            let c : Offers A g lines t v line.0 tight.head = subst (λ (u : ℕ). Offers A g lines t u line.0 tight.head) to
            (subst (λ (u : ℕ). Offers A g lines u (arc_of g a).head line.0 tight.head) at b) in
            let head_best : IsBest A g sources v tight.head = subst (λ (u : ℕ). IsBest A g sources u tight.head) to tight.head_best in
            let same = best_is_one A lawful g roads sources v tight.head sup.value head_best (support_best v r in_v e sup) in
            let at_tail : AreHops A g sources t line.0.hops = subst (λ (u : ℕ). AreHops A g sources u line.0.hops) at (hops_are (arc_of g a).tail line.0 ends.0 line.1) in
            let mine = hops_are v r in_v e in
            sup.not_lesser t line.0 (subst (λ (y : V). Offers A g lines t v line.0 y) same c)
            (omega (arith, k.1.least line.0.hops at_tail.attained, at_tail.least k.0 k.1.attained, k.2.least r.hops mine.attained, mine.least (k.0 + 1) k.2.attained));
      }

      line_is_right : (v : ℕ) → HasVertex g v → (l : Option Reached) → label_of lines v ≡ l → IsVertexLine A g sources v l
      line_is_right v in_v None e = subst (λ (l : Option V). IsBestLabel A g sources v l) (unlabelled v e) (best.best v in_v)
      line_is_right v in_v (Some r) e = record {
        code = let t = tells_best v r in_v e in (t.0, t.1, t.2);
        hops = hops_are v r in_v e;
        parent = elim (support_at v r e (certified.each v in_v)) [
          | inl s ↦ inl (s.0, (source_hops v r e s.1).1)
          | inr h ↦ inr (parent_is v r in_v e h.0 h.1)
        ];
      }

      -- lines that are certified are right
      pub lines_are_right : AreVertexLines A g sources lines
      lines_are_right = record { count = certified.count; each = λ v in_v. line_is_right v in_v (label_of lines v) refl }

    module _ (right : AreVertexLines A g sources lines) where
      line_at : (v : ℕ) (r : Reached) → HasVertex g v → label_of lines v ≡ Some r → IsReachedLine A g sources v r
      line_at v r in_v e = subst (λ (l : Option Reached). IsVertexLine A g sources v l) e (right.each v in_v)

      -- a vertex that a walk with a value reaches has a line
      line_reached : (v : ℕ) (x : V) → HasVertex g v → IsWalkValue A g sources v x → (l : Option Reached) → label_of lines v ≡ l →
          (r : Reached) × (label_of lines v ≡ Some r) × IsReachedLine A g sources v r
      line_reached v x in_v w None e = let none : IsUnreached A g sources v = subst (λ (l : Option Reached). IsVertexLine A g sources v l) e (right.each v in_v) in absurd (none x w)
      line_reached v x in_v w (Some r) e = (r, e, line_at v r in_v e)

      same_line : (r : Reached) (c h p : ℕ) → r.code ≡ c → r.hops ≡ h → r.parent ≡ p → r ≡ record { code = c; hops = h; parent = p }
      same_line r c h p a b d = λ i. record { code = a i; hops = b i; parent = d i }

      source_certified : (v : ℕ) → HasVertex g v → Contains sources v → label_of lines v ≡ source_line A
      source_certified v in_v h =
          let l = line_reached v A.origin in_v (origin_walk v h) (label_of lines v) refl in
          let r = l.0 in
          let best = l.2.code.1 in
          let value : l.2.code.0 ≡ A.origin = lawful.ordered.antisymmetric l.2.code.0 A.origin (best.least A.origin (origin_walk v h)) (origin_best v l.2.code.0 best.attained) in
          let none : r.parent ≡ 0 = elim l.2.parent [ inl p ↦ p.1 | inr p ↦ absurd (p.no_source h) ] in
          l.1 ∙ ap (λ (q : Reached). Some q) (same_line r (A.code A.origin) 0 0 (l.2.code.2 ∙ ap A.code value) (omega (arith, l.2.hops.least 0 (source_walk v 0 h refl))) none)

      -- the value of v is offered by the parent, with one hop less
      from_parent : (v : ℕ) (r : Reached) → IsReachedLine A g sources v r → (x : V) → IsBest A g sources v x → IsParent A g sources v r.parent →
          (near : Reached) × Offers A g lines r.parent v near x × (near.hops + 1 ≡ r.hops)
      from_parent v r line x best p =
          let (a, tight, at, to, k) = p.nearer in
          let ends = roads.ends a tight.arc in
          let l = line_reached (arc_of g a).tail tight.tail ends.0 tight.tail_best.attained (label_of lines (arc_of g a).tail) refl in
          let head_best : IsBest A g sources (arc_of g a).head x = subst (λ (k : ℕ). IsBest A g sources k x) (sym to) best in
          let b = tight_offers a l.0 l.2.code.0 x tight l.1 l.2.code.2 l.2.code.1 head_best in
          let c : Offers A g lines r.parent v l.0 x = subst (λ (u : ℕ). Offers A g lines r.parent u l.0 x) to (subst (λ (u : ℕ). Offers A g lines u (arc_of g a).head l.0 x) at b) in
          let at_tail : AreHops A g sources r.parent l.0.hops = subst (λ (u : ℕ). AreHops A g sources u l.0.hops) at l.2.hops in
          (l.0, c, omega (arith, k.1.least l.0.hops at_tail.attained, at_tail.least k.0 k.1.attained, k.2.least r.hops line.hops.attained, line.hops.least (k.0 + 1) k.2.attained))

      line_supported : (v : ℕ) (r : Reached) → HasVertex g v → label_of lines v ≡ Some r → IsParent A g sources v r.parent → IsSupported A g lines v r
      line_supported v r in_v e p =
          let line = line_at v r in_v e in
          let x = line.code.0 in
          let best = line.code.1 in
          let from = from_parent v r line x best p in
          record {
            value = x;
            code_is = walk_has_code v r.code x best.attained line.code.2;
            near = from.0;
            from_parent = from.1;
            hops_are = from.2;
            not_beaten = λ u other z b.
                let tail = line_at u other (tail_in u v other z b) b.line_is in
                best.least z (offers_walk u v other tail.code.0 z tail.code.1.attained tail.code.2 b);
            not_nearer = λ u other b.
                let tail = line_at u other (tail_in u v other x b) b.line_is in
                let tight = offers_tight u v other tail.code.0 x tail.code.1 tail.code.2 best b in
                let walk = tight_more u other.hops b.arc tail.hops.attained tight b.tail_is in
                line.hops.least (other.hops + 1) (subst (λ (k : ℕ). IsTightWalk A g sources k (other.hops + 1)) b.head_is walk);
            not_lesser = λ u other b one.
                let tail = line_at u other (tail_in u v other x b) b.line_is in
                let tight = offers_tight u v other tail.code.0 x tail.code.1 tail.code.2 best b in
                p.least u (b.arc, tight, b.tail_is, b.head_is, (other.hops, tail.hops, subst (λ (k : ℕ). AreHops A g sources v k) (sym one) line.hops));
          }

      -- right lines are certified
      certified_at : (v : ℕ) → HasVertex g v → (l : Option Reached) → label_of lines v ≡ l → IsCertifiedAt A g sources lines v
      certified_at v in_v None e =
          let none : IsUnreached A g sources v = subst (λ (l : Option Reached). IsVertexLine A g sources v l) e (right.each v in_v) in
          let right_none : IsRightLine A g lines v None = λ u near z b.
          let tail = line_at u near (tail_in u v near z b) b.line_is in
          none z (offers_walk u v near tail.code.0 z tail.code.1.attained tail.code.2 b)
          in
          inr (λ h. none A.origin (origin_walk v h), subst (IsRightLine A g lines v) (sym e) right_none)
      certified_at v in_v (Some r) e = elim (line_at v r in_v e).parent [
        | inl p ↦ inl (p.0, source_certified v in_v p.0)
        | inr p ↦ inr (p.no_source, subst (IsRightLine A g lines v) (sym e) (line_supported v r in_v e p))
      ]

      pub lines_are_certified : AreCertified A g sources lines
      lines_are_certified = record { count = right.count; each = λ v in_v. certified_at v in_v (label_of lines v) refl }
