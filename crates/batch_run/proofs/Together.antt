-- Floors and stations of diffusions side by side: as they are opened, and when they have been run.
use Rattle.std.proofs.Common.{zero, suc, ◌≡◌, ◌≢◌, ℕ, ◌<◌, ◌≤◌, ◌+◌, List, [], ◌∷◌, length, get_or, map, refl, arith, inl, inr, Option, Some, Vec, Global}
use Rattle.batch_run.proofs.Words.{All, AllZip, cases_lt, All-cons, All-head, All-nil, All-tail, get_or-map, length-map, Ghosts, Algebra, SetupData, setup_of, StationData, PlanData, any_of, BatchOver, EndedDiffusion, order_of, GatheredDiffusion}
use Rattle.std.proofs.lemmas.Option.{slice_get-get_or, get_or_from_slice_get}
use Rattle.shard_part.specs.Opening.{opened_parts}
use Rattle.post_floor.specs.Data.{FloorData}
use Rattle.station.specs.Opened.{AreOpened, station_of}
use Rattle.worker_fleet.specs.Groups.{HasShard, IsDone, Some_of}
use Rattle.worker_fleet.specs.Turns.{IsOnItsFloor}
use Rattle.batch_run.specs.Batches.{IsCountedIn, IsEndedIn, IsGatheredFromIn, IsGatheredIn}
use Rattle.batch_run.specs.Diffusions.{AreEnded}

-- each of a list was opened, in order
pub opened_at : {X F L : Type 0} (R : X → F → L → Type 0) (xs : List X) (os : List (F × L)) → AllZip (λ x o. R x o.0 o.1) xs os → (q : ℕ) (x : X) (f : F) (l : L) → q < length xs →
    R (get_or xs q x) (get_or (map (λ (o : F × L). o.0) os) q f) (get_or (map (λ (o : F × L). o.1) os) q l)
opened_at R [] os h q x f l low = absurd (omega (arith, low))
opened_at R (y ∷ ys) [] h q x f l low = absurd h
opened_at R (y ∷ ys) (o ∷ os) h zero x f l low = h.0
opened_at R (y ∷ ys) (o ∷ os) h (suc q) x f l low = opened_at R ys os h.1 q x f l (omega (arith, low))

-- as they are opened there is a station for each shard
opened_shard : {S V : Type 0} (A : Algebra V) (t : SetupData S) (f : FloorData S) (m first n k : ℕ) → first ≤ k → k < first + n → HasShard k (map (station_of f.id m) (opened_parts A t first n))
unfolding Some_of
opened_shard A t f m first zero k low high = absurd (omega arith)
opened_shard A t f m first (suc n) k low high = elim (cases_lt first k) as (λ _. HasShard k (map (station_of f.id m) (opened_parts A t first (suc n)))) [
  | inl later ↦ inr (opened_shard A t f m (suc first) n k (omega arith) (omega arith))
  | inr here ↦ inl (omega arith)
]

pub shards_opened : {S V : Type 0} (meaning : S → Algebra V) (t : SetupData S) (f : FloorData S) (stations : List (StationData S V)) {ahead : Option ℕ} → AreOpened meaning t ahead f stations → (k : ℕ) →
    k < t.plan.shards → HasShard k stations
shards_opened meaning t f stations o k low = rw o.stations_are (opened_shard (meaning t.diffusion.algebra) t f t.plan.shards 0 t.plan.shards k (omega arith) (omega arith))

-- the same, once shards may run ahead by a weight
pub opened_held : {S V : Type 0} {meaning : S → Algebra V} {t : SetupData S} {was : Option ℕ} {f : FloorData S} {stations : List (StationData S V)} → AreOpened meaning t was f stations → (weight : ℕ)
    → AreOpened meaning t (Some weight) (record f { ahead = Some weight }) stations
opened_held o weight = record {
  setup = o.setup;
  ahead_is = refl;
  stations_are = o.stations_are;
  own = λ k s below. let own = o.own k s below in record { floor = own.floor; setup = own.setup };
}

module _ {S V W : Type 0} (meaning : S → Algebra V) (setup : ℕ → SetupData S) {ahead : Option ℕ} (floors : List (FloorData S)) (questions : List (Vec (StationData S V) W)) (n : ℕ) (same : length floors ≡ n)
    (opened : (q : ℕ) (f : FloorData S) (v : Vec (StationData S V) W) → q < n → AreOpened meaning (setup q) ahead (get_or floors q f) (get_or questions q v).items) where
  -- each station is beside its floor
  pub opened_placed : (q : ℕ) (v : Vec (StationData S V) W) → q < n → All (λ s. IsOnItsFloor floors (q, s)) (get_or questions q v).items
  opened_placed q v low = λ k s below.
      let inside : q < length floors = rw same low in
      let f = any_of floors q inside in
      record { floor = get_or floors q f; is_floor = slice_get-get_or floors q f inside; own = (opened q f v low).own k s below }

  -- what was run to its end
  pub run_ended : (lists : List (Vec (StationData S V) W))
      → ((q k : ℕ) (d e : Vec (StationData S V) W) → q < n → HasShard k (get_or questions q d).items → HasShard k (get_or lists q e).items)
      → ((q : ℕ) (d : Vec (StationData S V) W) → q < n → All (IsDone floors q) (get_or lists q d).items)
      → (q : ℕ) (f : FloorData S) (v : Vec (StationData S V) W) → q < n → AreEnded (setup q) (get_or floors q f) (get_or lists q v).items
  run_ended lists all done q f v low = record {
    setup = (opened q f v low).setup;
    own = λ k s below. let d = done q v low k s below in let e = get_or_from_slice_get floors q d.0.floor f d.0.is_floor in rw e d.0.own;
    ended = λ k s below. (done q v low k s below).1;
    all = λ k inside. all q k v v low (shards_opened meaning (setup q) (get_or floors q f) (get_or questions q v).items (opened q f v low) k inside);
  }

-- diffusions were run to their end if floors and stations are, place by place
pub all_ended : {S R T V : Type 0} {G : Ghosts S V} (over : BatchOver S R T V G) (plan : PlanData) (es : List (EndedDiffusion S V))
    → ((q s : ℕ) (f : FloorData S) (v : Vec (StationData S V) Global) → q < length (map (λ (e : EndedDiffusion S V). e.source) es) →
    AreEnded (setup_of over.batch.now.task.algebra over.graph.now (get_or (map (λ (e : EndedDiffusion S V). e.source) es) q s) plan (order_of over.batch.now.settings.now)) (get_or (map (λ (e : EndedDiffusion S V). e.floor) es) q f)
    (get_or (map (λ (e : EndedDiffusion S V). e.stations) es) q v).items) → All (IsEndedIn over plan) es
all_ended {S} {R} {T} {V} over plan es each = λ k d low.
    rw (get_or-map (λ (e : EndedDiffusion S V). e.source) es k d d.source low, get_or-map (λ (e : EndedDiffusion S V). e.floor) es k d d.floor low, get_or-map (λ (e : EndedDiffusion S V). e.stations) es k d d.stations low)
    at (each k d.source d.floor d.stations (rw (length-map es (λ (e : EndedDiffusion S V). e.source)) low))

-- the station of a shard is not missing if it is among them
pub not_missing : {S V : Type 0} (k : ℕ) (stations : List (StationData S V)) → HasShard k stations → All (λ s. s.part.shard ≢ k) stations → ⊥
unfolding Some_of
not_missing k [] h missing = absurd h
not_missing k (s ∷ ss) (inl h) missing = All-head (λ s. s.part.shard ≢ k) s ss missing h
not_missing k (s ∷ ss) (inr h) missing = not_missing k ss h (All-tail (λ s. s.part.shard ≢ k) s ss missing)

-- what ended diffusions came to, in order
module _ {S R T V : Type 0} {G : Ghosts S V} (meaning : S → Algebra V) (over : BatchOver S R T V G) (plan : PlanData) where
  abbrev pub CameTo : List (EndedDiffusion S V) → List (GatheredDiffusion V) → Type 0
  CameTo es ds = All (IsGatheredIn meaning over) ds × (map (λ d. d.source) ds ≡ map (λ (e : EndedDiffusion S V). e.source) es) × AllZip (IsCountedIn over plan) (map (λ (e : EndedDiffusion S V). e.floor) es) ds

  pub came_to : (es : List (EndedDiffusion S V)) (ds : List (GatheredDiffusion V)) → All (IsEndedIn over plan) es → AllZip (IsGatheredFromIn meaning over) es ds → CameTo es ds
  came_to [] [] ended h = (All-nil (IsGatheredIn meaning over), refl, tt)
  came_to [] (d ∷ ds) ended h = absurd h
  came_to (e ∷ es) [] ended h = absurd h
  came_to (e ∷ es) (d ∷ ds) ended h =
      let rest = came_to es ds (All-tail (IsEndedIn over plan) e es ended) h.1 in
      let here = All-head (IsEndedIn over plan) e es ended in
      (All-cons (IsGatheredIn meaning over) d ds h.0.0 rest.0, (λ i. h.0.1 i ∷ rest.1 i), ((e, refl, here, h.0.1, h.0.2), rest.2))
