-- Seats and parts as they are opened, and a part that goes on.
use Rattle.std.proofs.Common.{◌≡◌, ℕ, zero, suc, List, [], ◌∷◌, ◌++◌, refl, sym, ◌∙◌, subst}
use Rattle.path_algebra.specs.Algebra.{Algebra}
use Rattle.scholten_core.specs.declared.item.Item.{Item}
use Rattle.shard_part.specs.PartState.{PartData}
use Rattle.engine_trials.proofs.Words.{SetupData, opened_part, opened_parts}
use Rattle.shard_part.specs.Handling.{HandledAll}
use Rattle.shard_part.specs.Weights.{All}
use Rattle.shard_part.specs.Part.{HandledMany}
use Rattle.post_floor.specs.Data.{FloorData, SeatData, IsAt, seat_of}
use Rattle.post_floor.proofs.Opened.{opened_shows}

-- the parts as they are opened are at the floor with their seats
pub opened_at : {S V : Type 0} (meaning : S → Algebra V) (f : FloorData S) (t : SetupData S) (n k m : ℕ) →
    All (λ (p : PartData S V). p.setup ≡ f.setup) (opened_parts (meaning t.diffusion.algebra) t k m) →
    All (λ (p : PartData S V). IsAt meaning f (seat_of f.id n p) p) (opened_parts (meaning t.diffusion.algebra) t k m)
opened_at meaning f t n k zero same = tt
opened_at meaning f t n k (suc m) same = (
  record {
    floor = refl;
    setup = same.0;
    moved = (opened_part (meaning t.diffusion.algebra) t k, [], opened_shows (meaning t.diffusion.algebra) t k n, refl);
  },
  opened_at meaning f t n (suc k) m same.1,
)

handled_append : {S V : Type 0} (meaning : S → Algebra V) (items more : List (Item V)) (b p q : PartData S V) → HandledAll meaning b items p → HandledAll meaning p more q →
    HandledAll meaning b (items ++ more) q
handled_append meaning [] more b p q e T = subst (λ (z : PartData _ _). HandledAll meaning z more q) (sym e) T
handled_append meaning (i ∷ items) more b p q (m, one, rest) T = (m, one, handled_append meaning items more m p q rest T)

-- a part that goes on by items of its own is still the seat's
pub works : {S V : Type 0} (meaning : S → Algebra V) (f : FloorData S) (d : SeatData S V) (p q : PartData S V) (n : ℕ) → IsAt meaning f d p → HandledMany meaning p n q →
    q.setup ≡ p.setup → IsAt meaning f d q
works meaning f d p q n at T e = record {
  floor = at.floor;
  setup = e ∙ at.setup;
  moved =
      (at.moved.0, at.moved.1 ++ T.0, at.moved.2, handled_append meaning at.moved.1 T.0 at.moved.0 p q at.moved.3 T.2);
}
