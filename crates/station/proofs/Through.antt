-- The mailboxes of all other shards, one after the other.
use Rattle.std.proofs.Common.{◌≡◌, ◌≢◌, ℕ, suc, ◌+◌, Bool, true, false, List, [], ◌∷◌, ◌++◌, length, get_or, refl, sym, ap, ◌∙◌, subst, arith, length-append, ne_eqb}
use Rattle.station.proofs.Words.{from_bool, Algebra, Item, PartData, box_count, mailbox, FloorData, SeatData, fill_box, read_box, LookOutcome, if_found, IsTry, AreTries, used}
use Rattle.station.specs.Steps.{TriedFrom, AllTriedFrom, WentOff, TriedTo, AllTriedTo, Looked}
use Rattle.station.proofs.Batches.{went_off}
use Rattle.station.proofs.Trying.{used_more, used_other, sent_other, tries_below}

counted_more : (b : Bool) (j n : ℕ) (js : List ℕ) → length js ≡ n → length (js ++ if_found b j) ≡ n + from_bool b
counted_more true j n js e = let l = length-append js (j ∷ []) in omega (arith, e, l)
counted_more false j n js e = let l = length-append js [] in omega (arith, e, l)

module _ {S V : Type 0} where
  module _ (meaning : S → Algebra V) where
    -- the done word showed something
    pub looked : (f : FloorData S) (b : Bool) (p : PartData S V) (d e : SeatData S V) → LookOutcome meaning b p (box_count f.setup.plan.shards) d.knows e.knows → Looked f b d e
    looked f true p d e (w, E) = record { number = 1; step = w.steps; end_is = refl; next_read = w.next_read; next_fill = w.next_fill }
    looked f false p d e (x, n, w, K) = record { number = x; step = w.steps; end_is = sym (ne_eqb x 1 n); next_read = w.next_read; next_fill = w.next_fill }

  -- no shard has been gone to yet
  pub begin_from : (f : FloorData S) (d : SeatData S V) → AllTriedFrom f 0 0 d d
  begin_from f d = record { shard = refl; full = []; taken = refl; tries = (refl, refl); next_read = refl; next_fill = refl }

  pub begin_to : (f : FloorData S) (p : PartData S V) (d : SeatData S V) → AllTriedTo f 0 0 p p d d
  begin_to f p d = record { shard = refl; outboxes = []; published = refl; sent = refl; tries = (refl, refl); next_fill = refl; next_read = refl }

  -- one shard more
  pub from_more : (f : FloorData S) (from count : ℕ) (b : Bool) (c d e : SeatData S V) → AllTriedFrom f from count c d → TriedFrom f from b d e → AllTriedFrom f (from + 1) (count + from_bool b) c e
  from_more f from count b c d e r o =
      let n = f.setup.plan.shards in
      let below = tries_below 2 0 (λ j. j ≢ c.shard) (read_box f c) from r.full c.knows.steps d.knows.steps r.tries in
      let slot : get_or d.knows.next_read from 0 ≡ get_or c.knows.next_read from 0 = ap (λ xs. get_or xs from 0) r.next_read ∙ used_other from r.full c.knows.next_read below in
      let here = subst (λ (s : ℕ). IsTry 2 0 (from ≢ s) (mailbox n from s (get_or d.knows.next_read from 0)) b d.knows.steps e.knows.steps) r.shard o.try in
      let try = subst (λ (z : ℕ). IsTry 2 0 (from ≢ c.shard) (mailbox n from c.shard z) b d.knows.steps e.knows.steps) slot here in
      let next : suc from ≡ from + 1 = omega arith in
      record {
        shard = o.shard ∙ r.shard;
        full = r.full ++ if_found b from;
        taken = counted_more b from count r.full r.taken;
        tries = subst (λ (m : ℕ). AreTries 2 0 (λ j. j ≢ c.shard) (read_box f c) m (r.full ++ if_found b from) c.knows.steps e.knows.steps) next (b, r.full, d.knows.steps, r.tries, try, refl);
        next_read = o.next_read ∙ ap (used (if_found b from)) r.next_read ∙ sym (used_more b from r.full c.knows.next_read);
        next_fill = o.next_fill ∙ r.next_fill;
      }

  pub to_more : (f : FloorData S) (to count : ℕ) (b : Bool) (p q m : PartData S V) (c d e : SeatData S V) → AllTriedTo f to count p q c d
      → WentOff b to q m → TriedTo f to b q d e → AllTriedTo f (to + 1) (count + from_bool b) p m c e
  to_more f to count b p q m c d e r off o =
      let n = f.setup.plan.shards in
      let due : ℕ → Type 0 = λ j. (j ≢ c.shard) × (get_or p.outs j [] ≢ []) in
      let below = tries_below 0 2 due (fill_box f c) to r.outboxes c.knows.steps d.knows.steps r.tries in
      let slot : get_or d.knows.next_fill to 0 ≡ get_or c.knows.next_fill to 0 = ap (λ xs. get_or xs to 0) r.next_fill ∙ used_other to r.outboxes c.knows.next_fill below in
      let outs : get_or q.outs to [] ≡ get_or p.outs to [] = sent_other to r.outboxes p q r.sent below in
      let here = subst (λ (s : ℕ). IsTry 0 2 ((to ≢ s) × (get_or q.outs to [] ≢ [])) (mailbox n s to (get_or d.knows.next_fill to 0)) b d.knows.steps e.knows.steps) r.shard o.try in
      let there = subst (λ (z : ℕ). IsTry 0 2 ((to ≢ c.shard) × (get_or q.outs to [] ≢ [])) (mailbox n c.shard to z) b d.knows.steps e.knows.steps) slot here in
      let try = subst (λ (w : List (Item V)). IsTry 0 2 ((to ≢ c.shard) × (w ≢ [])) (fill_box f c to) b d.knows.steps e.knows.steps) outs there in
      let next : suc to ≡ to + 1 = omega arith in
      record {
        shard = o.shard ∙ r.shard;
        outboxes = r.outboxes ++ if_found b to;
        published = counted_more b to count r.outboxes r.published;
        sent = went_off b r.outboxes to p q m r.sent off;
        tries = subst (λ (k : ℕ). AreTries 0 2 due (fill_box f c) k (r.outboxes ++ if_found b to) c.knows.steps e.knows.steps) next (b, r.outboxes, d.knows.steps, r.tries, try, refl);
        next_fill = o.next_fill ∙ ap (used (if_found b to)) r.next_fill ∙ sym (used_more b to r.outboxes c.knows.next_fill);
        next_read = o.next_read ∙ r.next_read;
      }
