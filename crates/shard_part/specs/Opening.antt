-- What a part is when it is opened.
use Rattle.std.specs.Prelude.{ℕ, zero, suc, Bool, true, false, None, List, [], ◌∷◌, length, set, replicate}
use Rattle.scholten_core.specs.declared.item.Item.{Item}
use Rattle.scholten_core.specs.declared.item.Item.TheVariants.{Message as MessageOn}
use Rattle.path_algebra.specs.Algebra.{Algebra}
use Rattle.scholten_core.specs.Sums.{one_if}
use Rattle.shard_store.specs.Setup.{SetupData}
use Rattle.shard_part.specs.PartState.{PartData}
use Rattle.shard_store.specs.Layout.{is_first}

-- the message with which a diffusion begins, at the source's part
abbrev pub first_items : {V : Type 0} → Algebra V → Bool → List (Item V)
first_items A true = MessageOn 0 A.origin ∷ []
first_items A false = []

-- a part as it is opened: no label, no engager, no arc offered a label, every arc idle but arc 0,
-- and nothing on the way but its message
abbrev pub opened_part : {S V : Type 0} → Algebra V → SetupData S → ℕ → PartData S V
opened_part A t s = record {
  setup = t;
  shard = s;
  labels = replicate (suc t.diffusion.roads.vertices) None;
  engagers = replicate (suc t.diffusion.roads.vertices) None;
  busy = set (replicate (suc (length t.diffusion.roads.arcs)) false) 0 (is_first t s);
  told = replicate (suc (length t.diffusion.roads.arcs)) None;
  queue = first_items A (is_first t s);
  outs = replicate t.plan.shards [];
  sent = one_if (is_first t s);
  delivered = 0;
  signalled = 0;
  accepted = 0;
}

-- the parts of the shards k, k + 1, .., k + n - 1 as they are opened
abbrev pub opened_parts : {S V : Type 0} → Algebra V → SetupData S → ℕ → ℕ → List (PartData S V)
opened_parts A t k zero = []
opened_parts A t k (suc n) = opened_part A t k ∷ opened_parts A t (suc k) n
