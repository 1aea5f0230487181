-- The network of a graph is well formed, and its arcs are the graph's.
use Rattle.std.proofs.Common.{◌≡◌, ◌≢◌, ℕ, zero, suc, ◌-◌, ◌<◌, ◌≤◌, List, length, get_or, subst, refl, sym, ap, ◌∙◌, inl, inr, arith}
use Rattle.std.proofs.lemmas.Bool.{cases_eq, cases_lt}
use Rattle.std.proofs.lemmas.List.{get_or_past, get_or_default}
use Rattle.road_graph.specs.GraphData.{GraphData, IsGraph, HasArc, arc_of, ListsArcsFrom}
use Rattle.road_graph.proofs.Lists.{rises}
use Rattle.scholten_core.specs.CoreView.{CoreView, network_of}
use Rattle.scholten_core.specs.Network.{Network, WellFormed, network, tail_of, head_of, weight_of}

pub tail-arc : (g : GraphData) (b : ℕ) → 1 ≤ b → tail_of g b ≡ (arc_of g b).tail
unfolding tail_of
tail-arc g zero l = absurd (omega arith)
tail-arc g (suc b) l = refl

pub head-arc : (g : GraphData) (s b : ℕ) → 1 ≤ b → head_of g s b ≡ (arc_of g b).head
unfolding head_of
head-arc g s zero l = absurd (omega arith)
head-arc g s (suc b) l = refl

pub weight-arc : (g : GraphData) (b : ℕ) → 1 ≤ b → weight_of g b ≡ (arc_of g b).weight
unfolding weight_of
weight-arc g zero l = absurd (omega arith)
weight-arc g (suc b) l = refl

pub tail-entry : (g : GraphData) → tail_of g 0 ≡ 0
unfolding tail_of
tail-entry g = refl

pub head-entry : (g : GraphData) (s : ℕ) → head_of g s 0 ≡ s
unfolding head_of
head-entry g s = refl

tail-past : (g : GraphData) (b : ℕ) → length g.arcs < b → (arc_of g b).tail ≡ 0
tail-past g b l = λ i. (get_or_past g.arcs (b - 1) (record { tail = 0; head = 0; weight = 0 }) (omega (arith, l)) i).tail

-- an arc that leaves a vertex is one of the graph's
pub real_arc : (g : GraphData) (b : ℕ) → tail_of g b ≢ 0 → HasArc g b
real_arc g b n = elim (cases_eq b 0) [
  | inl e ↦ absurd (n (ap (tail_of g) e ∙ tail-entry g))
  | inr z ↦ elim (cases_lt (length g.arcs) b) [
    | inl l ↦ absurd (n (tail-arc g b (omega arith) ∙ tail-past g b l))
    | inr l ↦ ((let low : 1 ≤ b = omega arith in low), l)
  ]
]

pub well_formed : (g : GraphData) (s : ℕ) → IsGraph g → 1 ≤ s → WellFormed (network g s)
well_formed g s R l = record {
  source_in = λ e. omega arith;
  tail_zero = tail-entry g;
  head_zero = head-entry g s;
  real = λ b n. (real_arc g b n).1;
  head_in = λ b n e. let r = real_arc g b n in let h = (R.ends b r).1.0 in let q = head-arc g s b r.0 in omega (arith, h, q, e);
  weighs = λ b n. let r = real_arc g b n in let h = R.weights b r in let q = weight-arc g b r.0 in omega (arith, h, q);
}

-- a list of exactly the arcs out of v, each once, read by index
pub record OutOf (N : Network) (v : ℕ) (xs : List ℕ) : Type 0 where
  pub low : (j : ℕ) → j < length xs → 1 ≤ get_or xs j 0
  pub high : (j : ℕ) → j < length xs → get_or xs j 0 ≤ N.arcs
  pub tail : (j : ℕ) → j < length xs → N.tail (get_or xs j 0) ≡ v
  pub all : (b : ℕ) → N.tail b ≡ v → (j : ℕ) × (j < length xs) × (get_or xs j 0 ≡ b)
  pub apart : (j k : ℕ) → j < k → k < length xs → get_or xs j 0 ≢ get_or xs k 0

pub out_of : (g : GraphData) (s v : ℕ) (xs : List ℕ) → 1 ≤ v → ListsArcsFrom g v xs → OutOf (network g s) v xs
out_of g s v xs l o =
    let leads = λ (j : ℕ) (h : j < length xs). (o.complete (get_or xs j 0)).0 (j, h, get_or_default xs j (get_or xs j 0) 0 h) in
    record {
      low = λ j h. (leads j h).0.0;
      high = λ j h. (leads j h).0.1;
      tail = λ j h. let r = leads j h in tail-arc g (get_or xs j 0) r.0.0 ∙ r.1;
      all = λ b e. let r = real_arc g b (λ z. let w : v ≡ 0 = sym e ∙ z in omega arith) in
          let c = (o.complete b).1 (r, sym (tail-arc g b r.0) ∙ e) in
          (c.0, c.1, get_or_default xs c.0 0 b c.1 ∙ c.2);
      apart = λ j k h m e. let a = rises 0 xs j k o.ascending h m in omega (arith, a, e);
    }

pub out_at : {S V : Type 0} (t old : CoreView S V) (v : ℕ) (xs : List ℕ) → t ≡ old → 1 ≤ v → ListsArcsFrom t.diffusion.roads v xs → OutOf (network_of old) v xs
out_at t old v xs e l o = subst (λ u. OutOf (network_of u) v xs) e (out_of t.diffusion.roads t.diffusion.source v xs l o)
