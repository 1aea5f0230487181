-- The places of stations, and the labels at them.
use Rattle.std.proofs.Common.{◌≡◌, ℕ, zero, suc, ◌+◌, ◌-◌, ◌<◌, ◌≤◌, Option, None, List, [], ◌∷◌, ◌++◌, length, get_or, set, refl, sym, ap, ◌∙◌, subst, inl, inr, arith, length-append, get_or-set_same, get_or-set_other}
use Rattle.station.proofs.Words.{cases_eq, IsPlanned, SetupData, PartData, total, is, HasPlanned, shard_in, IsOwn, is_self, StationData}
use Rattle.std.proofs.lemmas.List.{get_or_append_left, get_or_push}
use Rattle.shard_store.proofs.Graphs.{place_vertex}
use Rattle.station.specs.Gather.{IsAtPlace, ArePlaces, AreOf}

module _ {S V : Type 0} where
  -- a vertex is its shard's own
  pub own_of : (p : PartData S V) (s v : ℕ) → IsPlanned p.setup s → HasPlanned p.setup.plan v → shard_in p.setup.plan v ≡ p.shard → IsOwn p v
  own_of p s v P h e = ((h.0, (let l = h.1 in let c = P.covers in omega (arith, l, c))), place_vertex p.setup v h.0 ∙ e)

  -- one more place is known
  pub places_more : (stations : List (StationData S V)) (places : List ℕ) (s k : ℕ) → s < length places → ArePlaces s stations places
      → IsAtPlace stations s k → ArePlaces (s + 1) stations (set places s k)
  places_more stations places s k l h a j m = elim (cases_eq j s) [
    | inl e ↦ subst (IsAtPlace stations j) (sym (ap (λ i. get_or (set places s k) i 0) e ∙ get_or-set_same places s k 0 l)) (subst (λ i. IsAtPlace stations i k) (sym e) a)
    | inr ne ↦ subst (IsAtPlace stations j) (sym (get_or-set_other places s j k 0 ne)) (h j (omega (arith, m, ne)))
  ]

  -- the station at a place
  pub at_place : (t : SetupData S) (stations : List (StationData S V)) (j k : ℕ) (x : StationData S V) → x ≡ get_or stations k x → AreOf t stations
      → IsAtPlace stations j k → (x.part.setup ≡ t) × (x.part.shard ≡ j)
  at_place t stations j k x e own a = (ap (λ (s : StationData S V). s.part.setup) e ∙ own k x a.0, ap (λ (s : StationData S V). s.part.shard) e ∙ a.1 x)

-- a station that is there counts
pub counts_there : {S V : Type 0} (stations : List (StationData S V)) (j k : ℕ) → IsAtPlace stations j k → 0 < total (λ s. is j s.part.shard) stations
counts_there [] j k a = absurd (let l = a.0 in omega (arith, l))
counts_there (x ∷ xs) j zero a = let e : is j x.part.shard ≡ 1 = ap (is j) (a.1 x) ∙ is_self j in omega (arith, e)
counts_there (x ∷ xs) j (suc k) a = let l = a.0 in let h = counts_there xs j k (omega (arith, l), a.1) in omega (arith, h)

-- one more label
pub labels_more : {V : Type 0} (P : ℕ → Option V → Type 0) (n : ℕ) (xs ys : List (Option V)) (x : Option V) → length xs ≡ n
    → ((i : ℕ) → i < n → P (i + 1) (get_or xs i None)) → P (n + 1) x → ys ≡ xs ++ x ∷ []
    → (length ys ≡ n + 1) × ((i : ℕ) → i < n + 1 → P (i + 1) (get_or ys i None))
labels_more P n xs ys x l h p e = (
  ap length e ∙ length-append xs (x ∷ []) ∙ ap (λ m. m + 1) l,
  (λ i m. elim (cases_eq i n) [
    | inl q ↦ subst (λ j. P (j + 1) (get_or ys j None)) (sym q)
        (subst (P (n + 1)) (sym (ap (λ zs. get_or zs n None) e ∙ ap (λ j. get_or (xs ++ x ∷ []) j None) (sym l) ∙ get_or_push xs x None (length xs) refl)) p)
    | inr ne ↦ subst (P (i + 1)) (sym (ap (λ zs. get_or zs i None) e ∙ get_or_append_left xs (x ∷ []) None i (omega (arith, m, ne, l)))) (h i (omega (arith, m, ne)))
  ]),
)

-- the label of a vertex is one place before its number
pub label_before : {V : Type 0} (P : ℕ → Option V → Type 0) (n : ℕ) (xs : List (Option V)) → ((i : ℕ) → i < n → P (i + 1) (get_or xs i None)) → (v : ℕ) → 1 ≤ v → v ≤ n → P v (get_or xs (v - 1) None)
label_before P n xs h v l m = let e : v - 1 + 1 ≡ v = omega (arith, l) in subst (λ j. P j (get_or xs (v - 1) None)) e (h (v - 1) (omega (arith, l, m)))
