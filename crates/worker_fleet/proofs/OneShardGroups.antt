-- Diffusions with one shard each, dealt to workers: none of these stalls if its limit is enough.
use Rattle.worker_fleet.proofs.Words.{◌≡◌, Option, ℕ, suc, ◌+◌, ◌*◌, ◌<◌, ◌≤◌, Bool, true, false, List, [], ◌∷◌, map, length, get_or, refl, sym, ap, ◌∙◌, subst, arith, if◌then◌else◌, nat_eq, length-append, Vec, All, get_or_default, All-nil, All-cons, slice_get_read, Algebra, SetupData, opened_part, HasOneShard, StationData, Dealing, Driven, Stalled, begins_at, following, dealt, share_of, Drives, StopsGroup}
use Rattle.std.proofs.Math.Nat.{mul-le-mul_right}
use Rattle.post_floor.specs.Data.{FloorData, first_parts}
use Rattle.station.specs.Opened.{AreOpened, station_of}
use Rattle.worker_fleet.specs.declared.group.GroupFault.TheVariants as faults
use Rattle.worker_fleet.specs.OneShard.{IsBrief, IsWhole}
use Rattle.worker_fleet.proofs.Gathered.{share_all}
use Rattle.worker_fleet.proofs.Grouped.{one_of}

-- a worker is dealt no more things than there are
module _ {X : Type 0} where
  dealt_few : (n w at group : ℕ) (xs : List X) → length (dealt n w at group xs) ≤ length xs
  unfolding dealt
  dealt_few n w at group [] = omega arith
  dealt_few n w at group (x ∷ xs) = let rest = dealt_few n w (following n at) group xs in
      elim (nat_eq at w) as (λ b. length (if b then (group, x) ∷ dealt n w (following n at) group xs else dealt n w (following n at) group xs) ≤ suc (length xs)) [
        | true ↦ omega (arith, rest)
        | false ↦ omega (arith, rest)
      ]

  share_few : {Z : Type 0} (rule : Dealing) (n w first : ℕ) (groups : List (Vec X Z)) → ((q : ℕ) (d : Vec X Z) → q < length groups → length (get_or groups q d).items ≤ 1) → length (share_of rule n w first groups) ≤ length groups
  unfolding share_of
  share_few rule n w first [] h = omega arith
  share_few rule n w first (g ∷ gs) h =
      let rest = share_few rule n w (suc first) gs (λ q d low. h (suc q) d (omega (arith, low))) in
      let mine = dealt_few n w (begins_at rule n first) first g.items in let one = h 0 g (omega arith) in
      let all = length-append (dealt n w (begins_at rule n first) first g.items) (share_of rule n w (suc first) gs) in omega (arith, rest, mine, one, all)

module _ {A V : Type 0} (meaning : A → Algebra V) (algebra : A) (turns : ℕ) where
  -- the one station of a diffusion that was opened
  one_station : (t : SetupData A) → HasOneShard t → (f : FloorData A) (stations : List (StationData A V)) {ahead : Option ℕ} → AreOpened meaning t ahead f stations
      → stations ≡ station_of f.id f.setup.plan.shards (opened_part (meaning f.setup.diffusion.algebra) f.setup 0) ∷ []
  one_station t O f stations opened =
      opened.stations_are ∙ ap (λ n. map (station_of f.id t.plan.shards) (first_parts meaning t n)) O.one
      ∙ ap (λ (u : SetupData A). station_of f.id u.plan.shards (opened_part (meaning u.diffusion.algebra) u 0) ∷ []) (sym opened.setup)

  whole_station : (floors : List (FloorData A)) (q : ℕ) (f : FloorData A) → q < length floors → (t : SetupData A) → IsBrief algebra turns t → (stations : List (StationData A V))
      {ahead : Option ℕ} → AreOpened meaning t ahead (get_or floors q f) stations → All (λ s. IsWhole meaning algebra floors turns (q, s)) stations
  whole_station floors q f low t B stations opened =
      let floor : FloorData A = get_or floors q f in
      let s : StationData A V = station_of floor.id floor.setup.plan.shards (opened_part (meaning floor.setup.diffusion.algebra) floor.setup 0) in
      subst (λ (l : List (StationData A V)). All (λ s. IsWhole meaning algebra floors turns (q, s)) l) (sym (one_station t B.one floor stations opened))
      (All-cons (λ s. IsWhole meaning algebra floors turns (q, s)) s [] (record {
        floor = floor;
        is_floor = slice_get_read floors (length floors) q floor refl low (get_or_default floors q f floor low);
        brief = subst (λ (u : SetupData A). IsBrief algebra turns u) (sym opened.setup) B;
        fresh = refl;
      }) (All-nil (λ s. IsWhole meaning algebra floors turns (q, s))))

module _ {A V : Type 0} (meaning : A → Algebra V) (algebra : A) (rule : Dealing) (workers width budget limit turns : ℕ) (answers : ℕ → ℕ → Bool → Type 0)
    (most : width * turns ≤ limit)
    (drives : (floors : List (FloorData A)) (worker : ℕ) (before : List (ℕ × StationData A V)) (r : Driven A V) → All (IsWhole meaning algebra floors turns) before → length before * turns ≤ limit
    → Drives meaning floors budget limit answers worker before r → r.outcome ≡ Stalled → ⊥) where
  pub never_stall : StopsGroup meaning (IsBrief algebra turns) rule workers width budget limit answers faults.Stalled → ⊥
  never_stall S =
      let first = S.stop.first in
      let w = first.worker in
      let r = one_of S.stop.all (let l = first.inside in omega (arith, l)) in
      let low : w < workers = (let l = first.inside in let c = S.stop.count in omega (arith, l, c)) in
      let share = share_of rule workers w 0 S.diffusions in
      let inside : (q : ℕ) → q < length S.diffusions → q < S.count = λ q l. (let c = S.diffusions_are in omega (arith, l, c)) in
      let on : (q : ℕ) → q < length S.diffusions → q < length S.floors = λ q l. (let c = S.diffusions_are in let d = S.floors_are in omega (arith, l, c, d)) in
      let floor : (q : ℕ) → q < length S.diffusions → FloorData A = λ q l. one_of S.floors (let o = on q l in omega (arith, o)) in
      let whole : All (IsWhole meaning algebra S.floors turns) share = share_all (IsWhole meaning algebra S.floors turns) rule workers w 0 S.diffusions (λ q d l.
      let zero_more : 0 + q ≡ q = omega arith in
      rw zero_more (whole_station meaning algebra turns S.floors q (floor q l) (on q l) (S.setup q) (S.each q (inside q l)) (get_or S.diffusions q d).items (S.opened q (floor q l) d (inside q l)))) in
      let short = share_few rule workers w 0 S.diffusions (λ q d l.
      let e = ap length (one_station meaning algebra turns (S.setup q) (S.each q (inside q l)).one (get_or S.floors q (floor q l)) (get_or S.diffusions q d).items (S.opened q (floor q l) d (inside q l))) in
      omega (arith, e)) in
      let few : length share ≤ width = (let c = S.diffusions_are in let m = S.few in omega (arith, short, c, m)) in
      let enough : length share * turns ≤ limit = (let m = mul-le-mul_right turns few in omega (arith, m, most)) in
      drives S.floors w share (get_or S.stop.all w r) whole enough (S.stop.drove w r low) (first.stopped r)
