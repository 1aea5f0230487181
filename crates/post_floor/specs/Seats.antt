-- Seats that are split and joined.
use Rattle.std.specs.Prelude.{ℕ, ◌+◌, false, ◌||◌, List, [], ◌∷◌, ◌++◌, replicate}
use Rattle.atomic_table.specs.Table.{Me}
use Rattle.shard_part.specs.PartState.{PartData}
use Rattle.shard_store.specs.Totals.{total}
use Rattle.post_floor.specs.declared.view.View.{View}

abbrev pub tail : {A : Type 0} → List A → List A
tail [] = []
tail (x ∷ xs) = xs

abbrev pub first_alone : {A : Type 0} → List A → List A
first_alone [] = []
first_alone (x ∷ xs) = x ∷ []

module _ {S V : Type 0} where
  -- these parts, and nothing done except what they sent when they were opened
  abbrev pub with_parts : View S V → List (PartData S V) → View S V
  with_parts v ps = record v { parts = ps; sent = total (λ p. p.sent) ps }

  -- the seat that stays keeps all parts but the first, which the new seat has
  abbrev pub cut_left : View S V → View S V
  cut_left v = with_parts v (tail v.parts)

  abbrev pub cut_right : View S V → View S V
  cut_right v = with_parts v (first_alone v.parts)

  -- the claims stay, and the rest goes to a new seat
  abbrev pub aside_left : View S V → View S V
  aside_left v = record v { parts = []; next_fill = []; next_read = []; steps = []; sent = 0; delivered = 0; signalled = 0; accepted = 0 }

  abbrev pub aside_right : View S V → View S V
  aside_right v = record v { fills = []; reads = [] }

  -- what two seats know, as one; it fills and reads no mailbox any more
  abbrev pub both : View S V → View S V → View S V
  both v w = record {
    parts = v.parts ++ w.parts;
    fills = v.fills ++ w.fills;
    reads = v.reads ++ w.reads;
    next_fill = [];
    next_read = [];
    steps = v.steps ++ w.steps;
    seen = v.seen || w.seen;
    sent = v.sent + w.sent;
    delivered = v.delivered + w.delivered;
    signalled = v.signalled + w.signalled;
    accepted = v.accepted + w.accepted;
  }

  abbrev pub spent : View S V
  spent = record { parts = []; fills = []; reads = []; next_fill = []; next_read = []; steps = []; seen = false; sent = 0; delivered = 0; signalled = 0; accepted = 0 }

  -- parts of n shards as they are opened
  abbrev pub knows : ℕ → List (PartData S V) → View S V
  knows n ps = record { parts = ps; fills = []; reads = []; next_fill = replicate n 0; next_read = replicate n 0; steps = []; seen = false; sent = total (λ p. p.sent) ps; delivered = 0; signalled = 0; accepted = 0 }

  -- the seat of one part, as it is opened
  abbrev pub lone : {X : Type 0} → ℕ → PartData S V → Me X (View S V)
  lone n p = (knows n (p ∷ []), [])
