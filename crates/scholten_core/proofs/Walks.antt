-- Walks of a network, their values, and labels that no arc improves.
use Rattle.std.proofs.Common.{◌≡◌, ◌≢◌, ℕ, true, Option, Some, None, List, [], ◌∷◌, ◌++◌, refl, sym, ap, ◌∙◌, subst}
use Rattle.path_algebra.specs.Algebra.{Algebra, IsLawful}
use Rattle.scholten_core.specs.Network.{Network, WellFormed}

module _ {V : Type 0} (A : Algebra V) (N : Network) where
  -- a list of arcs that leads from u to v
  abbrev pub Walk : ℕ → List ℕ → ℕ → Type 0
  Walk u [] v = u ≡ v
  Walk u (a ∷ p) v = (N.tail a ≢ 0) × (N.tail a ≡ u) × Walk (N.head a) p v

  abbrev pub extend_some : Option V → ℕ → Option V
  extend_some None w = None
  extend_some (Some x) w = A.extend x w

  -- extended along the arcs, from left to right; none where one of them is refused
  abbrev pub along : Option V → List ℕ → Option V
  along o [] = o
  along o (a ∷ p) = along (extend_some o (N.weight a)) p

  -- some walk from the source to v has the value x
  abbrev pub IsValueAt : ℕ → V → Type 0
  IsValueAt v x = (p : List ℕ) × Walk N.source p v × (along (Some A.origin) p ≡ Some x)

  pub walk_snoc : (u : ℕ) (p : List ℕ) (v b : ℕ) → Walk u p v → N.tail b ≢ 0 → N.tail b ≡ v → Walk u (p ++ b ∷ []) (N.head b)
  walk_snoc u [] v b w r e = (r, e ∙ sym w, refl)
  walk_snoc u (a ∷ p) v b w r e = (w.0, w.1, walk_snoc (N.head a) p v b w.2 r e)

  pub along-snoc : (o : Option V) (p : List ℕ) (b : ℕ) → along o (p ++ b ∷ []) ≡ extend_some (along o p) (N.weight b)
  along-snoc o [] b = refl
  along-snoc o (a ∷ p) b = along-snoc (extend_some o (N.weight a)) p b

  pub walk_value_more : (b : ℕ) (x y : V) → N.tail b ≢ 0 → IsValueAt (N.tail b) x → A.extend x (N.weight b) ≡ Some y → IsValueAt (N.head b) y
  walk_value_more b x y r h e = (
    h.0 ++ b ∷ [],
    walk_snoc N.source h.0 (N.tail b) b h.1 r refl,
    along-snoc (Some A.origin) h.0 b ∙ ap (λ o. extend_some o (N.weight b)) h.2 ∙ e,
  )

  pub origin_value : IsValueAt N.source A.origin
  origin_value = ([], refl, refl)

  pub along-none : (p : List ℕ) → along None p ≡ None
  along-none [] = refl
  along-none (a ∷ p) = along-none p

  -- the values of walks are values
  along_value : IsLawful A → WellFormed N → (p : List ℕ) (u v : ℕ) (x y : V) → Walk u p v → A.is_value x ≡ true → along (Some x) p ≡ Some y → A.is_value y ≡ true
  along_value L W [] u v x y w h e = let s : x ≡ y = cc in subst (λ z. A.is_value z ≡ true) s h
  along_value L W (a ∷ p) u v x y w h e = go (A.extend x (N.weight a)) refl e (λ z. along_value L W p (N.head a) v z y w.2)
    where
      go : (o : Option V) → A.extend x (N.weight a) ≡ o → along o p ≡ Some y →
          ((z : V) → A.is_value z ≡ true → along (Some z) p ≡ Some y → A.is_value y ≡ true) → A.is_value y ≡ true
      go None q e2 ih = cc (along-none p)
      go (Some z) q e2 ih = ih z (L.extend_is_value x (N.weight a) z h (W.weighs a w.0) q) e2

  pub walk_value_is_value : IsLawful A → WellFormed N → (v : ℕ) (x : V) → IsValueAt v x → A.is_value x ≡ true
  walk_value_is_value L W v x h = along_value L W h.0 N.source v A.origin x h.1 L.origin_is_value h.2

  -- a vertex has a label that is no worse than y
  abbrev pub AtMost : (ℕ → Option V) → ℕ → V → Type 0
  AtMost label v y = (z : V) × (label v ≡ Some z) × (A.no_worse z y ≡ true)

  -- no arc improves
  abbrev pub Closed : (ℕ → Option V) → Type 0
  Closed label = (b : ℕ) (x y : V) → N.tail b ≢ 0 → label (N.tail b) ≡ Some x → A.extend x (N.weight b) ≡ Some y → AtMost label (N.head b) y

  along_closed : IsLawful A → WellFormed N → (label : ℕ → Option V) → Closed label → ((v : ℕ) (x : V) → label v ≡ Some x → A.is_value x ≡ true) →
      (p : List ℕ) (u v : ℕ) (x y : V) → A.is_value x ≡ true → AtMost label u x → Walk u p v → along (Some x) p ≡ Some y → AtMost label v y
  along_closed L W label closed values [] u v x y xv m w e =
      let s : x ≡ y = cc in (m.0, ap label (sym w) ∙ m.1, subst (λ z. A.no_worse m.0 z ≡ true) s m.2)
  along_closed L W label closed values (a ∷ p) u v x y xv m w e = go (A.extend x (N.weight a)) refl e (λ x2. along_closed L W label closed values p (N.head a) v x2 y)
    where
      go : (o : Option V) → A.extend x (N.weight a) ≡ o → along o p ≡ Some y →
          ((x2 : V) → A.is_value x2 ≡ true → AtMost label (N.head a) x2 → Walk (N.head a) p v → along (Some x2) p ≡ Some y → AtMost label v y) → AtMost label v y
      go None q e2 ih = absurd (let n = along-none p in cc)
      go (Some x2) q e2 ih =
          let light = W.weighs a w.0 in
          let mono = L.monotone m.0 x (N.weight a) x2 (values u m.0 m.1) xv light m.2 q in
          let next = closed a m.0 mono.0 w.0 (ap label w.1 ∙ m.1) mono.1 in
          ih x2 (L.extend_is_value x (N.weight a) x2 xv light q) (next.0, next.1, L.ordered.transitive next.0 mono.0 x2 next.2 mono.2) w.2 e2

  -- labels that are values of walks, with the origin at the source and no improving arc, are best
  pub closed_best : IsLawful A → WellFormed N → (label : ℕ → Option V) → Closed label → ((v : ℕ) (x : V) → label v ≡ Some x → IsValueAt v x) →
      AtMost label N.source A.origin → (v : ℕ) (x : V) → IsValueAt v x → AtMost label v x
  closed_best L W label closed values m v x h =
      along_closed L W label closed (λ u y e. walk_value_is_value L W u y (values u y e)) h.0 N.source v A.origin x L.origin_is_value m h.1 h.2
