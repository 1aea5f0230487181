-- Parts and seats as they are opened, and the stations of both.
use Rattle.station.proofs.Words.{◌≡◌, None, ℕ, zero, suc, ◌+◌, ◌≤◌, List, [], ◌∷◌, ◌++◌, length, map, refl, sym, ap, ◌∙◌, subst, arith, Algebra, opened_part, opened_parts, PartData, SetupData, All, HoldsShare, core_of, FloorData, HoldsReachedShare, StationData, BelongsTo}
use Rattle.std.specs.List.{All as Each}
use Rattle.std.proofs.lemmas.List.{length-map, length_push}
use Rattle.std.proofs.lemmas.List.Elements.{All-map, All-weaker}
use Rattle.post_floor.proofs.Opened.{opened_shows}
use Rattle.station.specs.Opened.{IsFreshPart, station_of, AreOpened}

-- the next part is opened
pub one_more : {S V : Type 0} (A : Algebra V) (t : SetupData S) (k n : ℕ) → opened_parts A t k n ++ opened_part A t (k + n) ∷ [] ≡ opened_parts A t k (suc n)
one_more A t k zero = let a : k + 0 ≡ k = omega arith in ap (λ m. opened_part A t m ∷ []) a
one_more A t k (suc n) = ap (λ z. opened_part A t k ∷ z) (let a : k + suc n ≡ suc k + n = omega arith in ap (λ m. opened_parts A t (suc k) n ++ opened_part A t m ∷ []) a ∙ one_more A t (suc k) n)

-- and is after the others
pub opened_next : {S V : Type 0} (A : Algebra V) (t : SetupData S) (n : ℕ) (ps qs : List (PartData S V)) (p : PartData S V) → ps ≡ opened_parts A t 0 n
    → p ≡ opened_part A t n → qs ≡ ps ++ p ∷ [] → qs ≡ opened_parts A t 0 (n + 1)
opened_next A t n ps qs p e o h =
    let a : n ≡ 0 + n = omega arith in let b : suc n ≡ n + 1 = omega arith in
    h ∙ ap (λ z. z ++ p ∷ []) e ∙ ap (λ z. opened_parts A t 0 n ++ z ∷ []) (o ∙ ap (opened_part A t) a) ∙ one_more A t 0 n ∙ ap (opened_parts A t 0) b

-- a part as it is opened holds its share of the opening
pub known_opened : {S V : Type 0} (meaning : S → Algebra V) (t : SetupData S) (s : ℕ) (p : PartData S V)
    → p ≡ opened_part (meaning t.diffusion.algebra) t s → HoldsShare meaning (core_of meaning t []) p
    → HoldsReachedShare meaning p
known_opened meaning t s p e h = subst (λ z. HoldsReachedShare meaning z) (sym e) ([], subst (HoldsShare meaning (core_of meaning t [])) e h)

pub some_seat : {X Y : Type 0} (f : X → Y) (ps qs : List X) (p : X) (ds : List Y) → ps ≡ qs ++ p ∷ [] → ds ≡ map f ps → ds ≡ [] → ⊥
some_seat f ps qs p ds e m h = let a = ap length (sym h ∙ m) in let b = length-map ps f in let c = ap length e in let d = length_push qs p in omega (arith, a, b, c, d)

module _ {S V : Type 0} (meaning : S → Algebra V) where
  -- parts as they are opened are fresh
  pub all_fresh : (f : FloorData S) (t : SetupData S) (k n : ℕ) → f.setup ≡ t
      → All (HoldsReachedShare meaning) (opened_parts (meaning t.diffusion.algebra) t k n)
      → All (IsFreshPart meaning f) (opened_parts (meaning t.diffusion.algebra) t k n)
  all_fresh f t k zero e h = tt
  all_fresh f t k (suc n) e h = ((sym e, opened_shows (meaning t.diffusion.algebra) t k f.setup.plan.shards, h.0), all_fresh f t (suc k) n e h.1)

each : {X : Type 0} (P : X → Type 0) (xs : List X) → All P xs → Each P xs
each P (x ∷ xs) h zero d l = h.0
each P (x ∷ xs) h (suc i) d l = each P xs h.1 i d (omega (arith, l))
each P [] h i d l = absurd (omega (arith, l))

module _ {S V : Type 0} where
  first_setup : (A : Algebra V) (f : FloorData S) (t : SetupData S) (n : ℕ) → 1 ≤ n → All (λ p. p.setup ≡ f.setup) (opened_parts A t 0 n) → f.setup ≡ t
  first_setup A f t zero l h = absurd (omega (arith, l))
  first_setup A f t (suc n) l h = sym h.0

  -- the setup of the floor is the parts' own
  pub floor_setup : (A : Algebra V) (f : FloorData S) (t : SetupData S) (ps : List (PartData S V)) → 1 ≤ t.plan.shards
      → ps ≡ opened_parts A t 0 t.plan.shards → All (λ p. p.setup ≡ f.setup) ps → f.setup ≡ t
  floor_setup A f t ps l e h = first_setup A f t t.plan.shards l (subst (All (λ p. p.setup ≡ f.setup)) e h)

  -- a floor and stations of parts as they are opened
  pub are_opened : (meaning : S → Algebra V) (f : FloorData S) (t : SetupData S) (ps : List (PartData S V)) (stations : List (StationData S V))
      → 1 ≤ t.plan.shards → ps ≡ opened_parts (meaning t.diffusion.algebra) t 0 t.plan.shards
      → All (λ p. p.setup ≡ f.setup) ps → stations ≡ map (station_of f.id f.setup.plan.shards) ps → f.ahead ≡ None → AreOpened meaning t None f stations
  are_opened meaning f t ps stations l e h m a =
      let q : f.setup ≡ t = floor_setup (meaning t.diffusion.algebra) f t ps l e h in
      let station : PartData S V → StationData S V = station_of f.id f.setup.plan.shards in
      record {
        setup = q;
        ahead_is = a;
        stations_are = m ∙ ap (λ (u : SetupData S). map (station_of f.id u.plan.shards) ps) q ∙ ap (map (station_of f.id t.plan.shards)) e;
        own = subst (Each (BelongsTo f)) (sym m)
            (All-map (BelongsTo f) station ps
            (All-weaker (λ p. p.setup ≡ f.setup) (λ p. BelongsTo f (station p)) (λ p s. record { floor = refl; setup = s }) ps
            (each (λ p. p.setup ≡ f.setup) ps h)));
      }
