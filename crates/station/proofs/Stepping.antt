-- A seat and its part through the steps of a turn.
use Rattle.station.proofs.Words.{◌≡◌, ℕ, Bool, true, false, cond, List, [], ◌∷◌, get_or, refl, sym, ap, ◌∙◌, eq-eqb, Algebra, PartData, HandledMany, View, mailbox, AreReady, AreBehind}
use Rattle.post_floor.specs.Data.{FloorData, SeatData, IsAt, IsSameSeat, fill_box}
use Rattle.post_floor.specs.Plays.{without, IsViewOf, StepsTo, at_word, end_fill, published_to, ViewLags, HoldsEndedShare, FillOutcome, ReadOutcome, LookOutcome}

without_own : (k : ℕ) → without k (k ∷ []) ≡ []
without_own k = ap (λ (b : Bool). cond b [] (k ∷ [])) (eq-eqb k k refl)

module _ {S V : Type 0} (meaning : S → Algebra V) where
  pub stays : (v : View S V) (p : PartData S V) → IsViewOf v p → ViewLags meaning v p
  stays v p s = (p, [], s, refl)

  pub is_at : (f : FloorData S) (d : SeatData S V) (p : PartData S V) → AreReady f d p → IsAt meaning f d p
  is_at f d p r = record { floor = r.floor; setup = r.setup; moved = stays d.knows p r.shows }

  -- the part has handled items
  pub went_on : (f : FloorData S) (a : SeatData S V) (p q : PartData S V) (n : ℕ) → q.setup ≡ p.setup → q.shard ≡ p.shard → HandledMany meaning p n q → AreReady f a p → AreBehind meaning f a q
  went_on f a p q n e s (items, l, T) r = record { at = record { floor = r.floor; setup = e ∙ r.setup; moved = (p, items, r.shows, T) }; shard = r.shard ∙ sym s; free = r.free }

  -- an outbox went into the mailbox, and that was given up
  pub fill_done : (f : FloorData S) (a b c : SeatData S V) (p q : PartData S V) (to : ℕ) → AreBehind meaning f a p → IsSameSeat a b
      → FillOutcome true p (fill_box f a to) a.knows b.knows → q ≡ published_to to p → IsSameSeat b c
      → StepsTo (at_word (fill_box f b to) 2 (end_fill to (fill_box f b to) b.knows)) q c.knows → AreBehind meaning f c q
  fill_done f a b c p q to r ab w e bc g =
      let k = fill_box f a to in
      let same : fill_box f b to ≡ k = ap (λ (s : ℕ). mailbox f.setup.plan.shards s to (get_or b.knows.next_fill to 0)) ab.1
      ∙ ap (λ (xs : List ℕ). mailbox f.setup.plan.shards a.shard to (get_or xs to 0)) w.next_fill in
      record {
        at = record { floor = bc.0 ∙ ab.0 ∙ r.at.floor; setup = ap (λ (z : PartData S V). z.setup) e ∙ r.at.setup; moved = stays c.knows q g.shows };
        shard = bc.1 ∙ ab.1 ∙ r.shard ∙ sym (ap (λ (z : PartData S V). z.shard) e);
        free = (g.fills ∙ ap (λ z. without z b.knows.fills) same ∙ ap (without k) (w.fills ∙ ap (λ z. k ∷ z) r.free.0) ∙ without_own k, g.reads ∙ w.reads ∙ r.free.1);
      }

  -- a mailbox is being filled
  pub fill_begun : (f : FloorData S) (a b : SeatData S V) (p : PartData S V) (k : ℕ) → AreBehind meaning f a p → IsSameSeat a b → FillOutcome true p k a.knows b.knows → IsAt meaning f b p
  fill_begun f a b p k r ab w = record { floor = ab.0 ∙ r.at.floor; setup = r.at.setup; moved = stays b.knows p w.shows }

  pub fill_missed : (f : FloorData S) (a b : SeatData S V) (p : PartData S V) (k : ℕ) → AreBehind meaning f a p → IsSameSeat a b → FillOutcome false p k a.knows b.knows → AreBehind meaning f b p
  fill_missed f a b p k r ab (x, n, w) = record {
    at = record { floor = ab.0 ∙ r.at.floor; setup = r.at.setup; moved = stays b.knows p w.shows };
    shard = ab.1 ∙ r.shard;
    free = (w.fills ∙ r.free.0, w.reads ∙ r.free.1);
  }

  -- a batch has been taken
  pub read_begun : (f : FloorData S) (a b : SeatData S V) (p q : PartData S V) (k : ℕ) → AreReady f a p → IsSameSeat a b → ReadOutcome meaning true p q k a.knows b.knows → IsAt meaning f b q
  read_begun f a b p q k r ab (x, w, K) = record { floor = ab.0 ∙ r.floor; setup = ap (λ (z : PartData S V). z.setup) x.1 ∙ r.setup; moved = stays b.knows q w.shows }

  -- the part has looked, and seen the end
  pub look_ended : (o : Bool) (p : PartData S V) (k : ℕ) (v w : View S V) → LookOutcome meaning o p k v w → o ≡ true → HoldsEndedShare meaning p
  look_ended true p k v w (x, e) q = e
  look_ended false p k v w t q = absurd cc
