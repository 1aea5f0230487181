-- What is routed adds its weight to the part's lists.
use Rattle.shard_part.proofs.Words.{◌≡◌, ℕ, zero, suc, ◌+◌, ◌<◌, Bool, cond, List, [], ◌∷◌, ◌++◌, length, set, get_or, refl, sym, ap, ◌∙◌, subst, inl, inr, arith, eq-eqb, ne_eqb, length-set, cases_eq, Item, Network, Channels, outs_weight, channels_weight, at_place, total, vertex_of, route, routes, total_append}

module _ {V : Type 0} where
  outs_push : (h : ℕ → Item V → ℕ) (i t : ℕ) (os : List (List (Item V))) (x : Item V) → t < length os → outs_weight h i (set os t (get_or os t [] ++ x ∷ [])) ≡ outs_weight h i os + h (i + t) x
  outs_push h i t [] x lt = absurd (omega arith)
  outs_push h i zero (o ∷ os) x lt = let p = total_append (h i) o (x ∷ []) in let q : h (i + 0) x ≡ h i x = ap (λ (z : ℕ). h z x) (let e : i + 0 ≡ i = omega arith in e) in omega arith
  outs_push h i (suc t) (o ∷ os) x lt = let p = outs_push h (suc i) t os x (omega arith) in
      let q : h (i + suc t) x ≡ h (suc i + t) x = ap (λ (z : ℕ). h z x) (let e : i + suc t ≡ suc i + t = omega arith in e) in omega arith

  pub outs_none : (h : ℕ → Item V → ℕ) (i t : ℕ) (os : List (List (Item V))) → outs_weight h i (set os t []) + total (h (i + t)) (get_or os t []) ≡ outs_weight h i os
  outs_none h i t [] = refl
  outs_none h i zero (o ∷ os) = let p : total (h (i + 0)) o ≡ total (h i) o = ap (λ (z : ℕ). total (h z) o) (let q : i + 0 ≡ i = omega arith in q) in omega arith
  outs_none h i (suc t) (o ∷ os) = let p = outs_none h (suc i) t os in
      let q : total (h (i + suc t)) (get_or os t []) ≡ total (h (suc i + t)) (get_or os t []) = ap (λ (z : ℕ). total (h z) (get_or os t []))
      (let q : i + suc t ≡ suc i + t = omega arith in q) in omega arith

  module _ (N : Network) (place : ℕ → ℕ) where
    pub record Routed (s : ℕ) (l m : Channels V) (is : List (Item V)) : Type 0 where
      pub long : length m.outs ≡ length l.outs
      pub weighs : (h : ℕ → Item V → ℕ) → channels_weight s h m ≡ channels_weight s h l + total (at_place N place h) is

    route_one : (s : ℕ) (i : Item V) (l : Channels V) → place (vertex_of N i) < length l.outs → Routed s l (route N place s i l) (i ∷ [])
    route_one s i l lt = elim (cases_eq (place (vertex_of N i)) s) [
      | inl same ↦ subst (λ (z : Bool). Routed s l (cond z (record { queue = l.queue ++ i ∷ []; outs = l.outs })
          (record { queue = l.queue; outs = set l.outs (place (vertex_of N i)) (get_or l.outs (place (vertex_of N i)) [] ++ i ∷ []) })) (i ∷ []))
          (sym (eq-eqb (place (vertex_of N i)) s same))
          (record { long = refl; weighs = λ h. let p = total_append (h s) l.queue (i ∷ []) in let q : h (place (vertex_of N i)) i ≡ h s i = ap (λ (z : ℕ). h z i) same in omega (arith, p, q) })
      | inr ne ↦ subst (λ (z : Bool). Routed s l (cond z (record { queue = l.queue ++ i ∷ []; outs = l.outs })
          (record { queue = l.queue; outs = set l.outs (place (vertex_of N i)) (get_or l.outs (place (vertex_of N i)) [] ++ i ∷ []) })) (i ∷ []))
          (sym (ne_eqb (place (vertex_of N i)) s ne))
          (record {
            long = length-set l.outs (place (vertex_of N i)) (get_or l.outs (place (vertex_of N i)) [] ++ i ∷ []);
            weighs = λ h. let p = outs_push h 0 (place (vertex_of N i)) l.outs i lt in
                let q : h (0 + place (vertex_of N i)) i ≡ h (place (vertex_of N i)) i = ap (λ (z : ℕ). h z i)
                (let o : 0 + place (vertex_of N i) ≡ place (vertex_of N i) = omega arith in o) in omega (arith, p, q);
          })
    ]

    pub routed : (s : ℕ) (is : List (Item V)) (l : Channels V) → ((v : ℕ) → place v < length l.outs) → Routed s l (routes N place s is l) is
    routed s [] l w = record { long = refl; weighs = λ h. omega arith }
    routed s (i ∷ is) l w =
        let r = route_one s i l (w (vertex_of N i)) in
        let q = routed s is (route N place s i l) (λ v. let a = w v in let b = r.long in omega (arith, a, b)) in record {
          long = q.long ∙ r.long;
          weighs = λ h. let x = q.weighs h in let y = r.weighs h in omega (arith, x, y);
        }

    pub routes-append : (s : ℕ) (is js : List (Item V)) (l : Channels V) → routes N place s (is ++ js) l ≡ routes N place s js (routes N place s is l)
    routes-append s [] js l = refl
    routes-append s (i ∷ is) js l = routes-append s is js (route N place s i l)
