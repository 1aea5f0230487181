-- Stations that have their whole diffusion are not turned more often than it has events, and once.
use Rattle.worker_fleet.proofs.Words.{◌≡◌, ◌≢◌, ℕ, zero, suc, ◌+◌, ◌*◌, ◌<◌, ◌≤◌, Bool, true, false, List, [], ◌∷◌, ◌++◌, length, get_or, refl, sym, ap, ◌∙◌, subst, inl, inr, arith, length-append, All, HoldsAt, cases_eq, Algebra, SetupData, FloorData, opened_part, station_of, StationData, Driven, Ended, Stalled, Drives, Steps, still, then, MovesEach, IsWhole, NextOn, StationHasEnded, StationIsOpen}
use Rattle.std.specs.Prelude.{sum, slice_get, Some}
use Rattle.std.proofs.lemmas.List.Elements.{All-head, All-tail, All-cons, All-from_get_or}
use Rattle.std.proofs.lemmas.List.Sums.{sum_by-le}
use Rattle.scholten_core.specs.declared.event.Event.{Event}
use Rattle.shard_store.specs.declared.queue_order.QueueOrder.TheVariants.{BestFirst}
use Rattle.atomic_table.specs.Seated.{TableId}
use Rattle.station.specs.declared.turn.Report.{Report}
use Rattle.station.specs.OneShard.{HasOneShard, turns_suffice, best_first_turns_suffice, AreEnoughTurns, HasAll, WentOn}
use Rattle.station.specs.Turn.{Turned}
use Rattle.worker_fleet.proofs.Moved.{more_at, more-length, more-here, more-there, sum-more, MovesEach-length}

-- numbers of which none is above another, and one is below it
less_in_all : (ns : List ℕ) (most j : ℕ) → j < length ns → get_or ns j 0 + 1 ≤ most → ((i : ℕ) → get_or ns i 0 ≤ most) → sum ns + 1 ≤ length ns * most
less_in_all ns most j low less all =
    let h : All (λ n. n ≤ most) (more_at ns j) = All-from_get_or (λ n. n ≤ most) (more_at ns j) 0 (λ i inside. elim (cases_eq i j) as (λ _. get_or (more_at ns j) i 0 ≤ most) [
      | inl e ↦ rw e (let at = more-here ns j low in omega (arith, at, less))
      | inr ne ↦ (let at = more-there ns j i ne in let a = all i in omega (arith, at, a))
    ]) in
    let s = sum-more ns j low in let l = more-length ns j in
    let m = sum_by-le (λ (n : ℕ). n) most (more_at ns j) h in
    subst (λ k. sum ns + 1 ≤ k * most) l (omega (arith, s, m))

module _ {A V : Type 0} where
  -- one of the stations has not ended
  abbrev SomeOpen : List (ℕ × StationData A V) → Type 0
  SomeOpen ys = (j : ℕ) × (j < length ys) × HoldsAt StationIsOpen ys j

  open_here : (y : ℕ × StationData A V) (ys : List (ℕ × StationData A V)) (b : Bool) → y.1.ended ≡ b → ((All StationHasEnded ys → ⊥) → SomeOpen ys) → (All StationHasEnded (y ∷ ys) → ⊥) → SomeOpen (y ∷ ys)
  open_here y ys false e later closed = (0, omega arith, λ d. e)
  open_here y ys true e later closed = let r = later (λ a. closed (All-cons StationHasEnded y ys e a)) in (suc r.0, (let l = r.1 in omega (arith, l)), λ d. r.2 d)

  some_open : (ys : List (ℕ × StationData A V)) → (All StationHasEnded ys → ⊥) → SomeOpen ys
  some_open [] closed = absurd (closed (λ k d low. absurd (omega (arith, low))))
  some_open (y ∷ ys) closed = open_here y ys y.1.ended refl (some_open ys) closed

module _ {A V : Type 0} (meaning : A → Algebra V) (algebra : A) (floors : List (FloorData A)) (budget turns : ℕ) (enough : 0 < budget)
    (opens : (t : SetupData A) (id : TableId) → HasOneShard t → HasAll meaning t [] (station_of id t.plan.shards (opened_part (meaning t.diffusion.algebra) t 0)))
    (went : (f : FloorData A) (budget : ℕ) (events : List Event) (before after : StationData A V) (r : Report) → HasOneShard f.setup → HasAll meaning f.setup events before → before.ended ≡ false
    → Turned meaning f budget before r after → WentOn meaning f.setup budget events r after)
    (few : (t : SetupData A) (events : List Event) (s : StationData A V) → t.diffusion.algebra ≡ algebra → HasOneShard t → HasAll meaning t events s → length events < turns_suffice t)
    (few_best : (t : SetupData A) (events : List Event) (s : StationData A V) → HasOneShard t → t.order ≡ BestFirst → HasAll meaning t events s → length events < best_first_turns_suffice t) where
  -- by either number, so many turns are enough
  fewer : (t : SetupData A) (events : List Event) (s : StationData A V) → t.diffusion.algebra ≡ algebra → HasOneShard t → HasAll meaning t events s → AreEnoughTurns t turns → length events < turns
  fewer t events s is one all enough = elim enough [
    | inl any ↦ (let l = few t events s is one all in omega (arith, l, any))
    | inr best ↦ (let l = few_best t events s one best.0 all in let m = best.1 in omega (arith, l, m))
  ]

  -- after so many turns there were as many events
  record Going (f : FloorData A) (n : ℕ) (s : StationData A V) : Type 0 where
    events : List Event
    all : HasAll meaning f.setup events s
    as_many : n ≤ length events

  module _ (f : FloorData A) (one : HasOneShard f.setup) where
    open_before : (s z : StationData A V) (r : Report) (b : Bool) → s.ended ≡ b → Turned meaning f budget s r z → z.ended ≡ false → s.ended ≡ false
    open_before s z r false e T o = e
    open_before s z r true e T o = absurd (let same = (T.stays e).0 in let bad : true ≡ false = sym e ∙ ap (λ (y : StationData A V). y.ended) (sym same) ∙ o in cc)

    next_turn : (n : ℕ) (s z : StationData A V) (r : Report) → Turned meaning f budget s r z → ((s.ended ≡ false) → Going f n s) → z.ended ≡ false → Going f (suc n) z
    next_turn n s z r T before o =
        let going = open_before s z r s.ended refl T o in
        let g = before going in
        let w = went f budget g.events s z r one g.all going T in record {
          events = g.events ++ w.more;
          all = w.has_all;
          as_many = elim w.goes_on [
            | inl end ↦ absurd (let bad : true ≡ false = sym end ∙ o in cc)
            | inr all ↦ (let l = length-append g.events w.more in let c = w.count in let m = g.as_many in omega (arith, l, c, m, all, enough))
          ];
        }

  steps_reach : (f : FloorData A) (one : HasOneShard f.setup) (place : ℕ) → slice_get floors place ≡ Some f → (n : ℕ) (x y : ℕ × StationData A V) → Steps (NextOn meaning floors budget) n x y → x.0 ≡ place
      → Going f 0 x.1 → (y.0 ≡ place) × ((y.1.ended ≡ false) → Going f n y.1)
  steps_reach f one place is _ x y still p g = (p, λ _. g)
  steps_reach f one place is _ x z (then {n = n} {y = y} r s) p g =
      let before = steps_reach f one place is n x y r p g in
      let same : s.floor ≡ f = (let e : Some s.floor ≡ Some f = sym s.is_floor ∙ ap (slice_get floors) before.0 ∙ is in cc) in
      (s.place ∙ before.0, next_turn f one n y.1 z.1 s.report (subst (λ (u : FloorData A). Turned meaning u budget y.1 s.report z.1) same s.turned) before.1)

  start : (p : ℕ × StationData A V) (w : IsWhole meaning algebra floors turns p) → Going w.floor 0 p.1
  start p w = record { events = []; all = subst (HasAll meaning w.floor.setup []) (sym w.fresh) (opens w.floor.setup w.floor.id w.brief.one); as_many = omega arith }

  few_turns : (ns : List ℕ) (xs ys : List (ℕ × StationData A V)) → MovesEach (NextOn meaning floors budget) ns xs ys → All (IsWhole meaning algebra floors turns) xs
      → (j : ℕ) → j < length ys → HoldsAt StationIsOpen ys j → get_or ns j 0 + 1 ≤ turns
  unfolding MovesEach
  few_turns [] [] [] m h j low o = absurd (omega (arith, low))
  few_turns (n ∷ ns) (x ∷ xs) (y ∷ ys) m h zero low o =
      let w = All-head (IsWhole meaning algebra floors turns) x xs h in
      let r = steps_reach w.floor w.brief.one x.0 w.is_floor n x y m.0 refl (start x w) in
      let g = r.1 (o y) in
      let l = fewer w.floor.setup g.events y.1 w.brief.by w.brief.one g.all w.brief.enough in let a = g.as_many in omega (arith, l, a)
  few_turns (n ∷ ns) (x ∷ xs) (y ∷ ys) m h (suc j) low o = few_turns ns xs ys m.1 (All-tail (IsWhole meaning algebra floors turns) x xs h) j (omega (arith, low)) (λ d. o d)
  few_turns [] [] (y ∷ ys) m h j low o = absurd m
  few_turns [] (x ∷ xs) ys m h j low o = absurd m
  few_turns (n ∷ ns) [] ys m h j low o = absurd m
  few_turns (n ∷ ns) (x ∷ xs) [] m h j low o = absurd m

  pub never_stalls : (limit worker : ℕ) (answers : ℕ → ℕ → Bool → Type 0) (before : List (ℕ × StationData A V)) (r : Driven A V) → All (IsWhole meaning algebra floors turns) before → length before * turns ≤ limit
      → Drives meaning floors budget limit answers worker before r → r.outcome ≢ Stalled
  never_stalls limit worker answers before r whole most D stalled =
      let ys = r.stations.items in
      let o = some_open ys (λ all. let bad : Ended ≡ Stalled = sym (D.ended.1 all) ∙ stalled in cc) in
      let low = few_turns D.counts before ys D.moved whole o.0 o.1 o.2 in
      let long = MovesEach-length (NextOn meaning floors budget) D.counts before ys D.moved in
      let inside : o.0 < length D.counts = (let l = o.1 in let e = long.1 in omega (arith, l, e)) in
      let s = less_in_all D.counts turns o.0 inside low (λ i. let fair = D.took_turns.fair i o.0 o.1 o.2 in omega (arith, fair, low)) in
      let wide = subst (λ k. sum D.counts + 1 ≤ k * turns) long.0 s in
      let all = D.turns in let at = D.stalled stalled in absurd (omega (arith, wide, most, all, at))
