-- What the calls know of their seat between two plain reads and writes of a slot, and what they ask
-- of a step.
use Rattle.post_floor.proofs.Words.{◌≡◌, ℕ, List, [], ◌∷◌, sym, ap, ◌∙◌, subst, get_or, Me, rest, Buffer, buffer, Algebra, Item, WellFormed, well_formed, IsPlanned, SetupData, network_of, place_in, All, MadeAt, View, dest, IsBetween, Slot, mailbox_capacity, empty_slot, HasEmpty, ViewLags, published_to}
use Rattle.std.proofs.lemmas.Option.{same_Some}
use Rattle.std.specs.Prelude as std
use Rattle.atomic_table.specs.declared.shared.Seat.{Seat}
use Rattle.atomic_table.specs.declared.shared.Shared.{Shared}
use Rattle.shard_part.specs.PartState.{PartData, vertex_of, maker_of, IsArc}
use Rattle.shard_part.specs.LocalInvariant.{LocalInvariant}
use Rattle.scholten_core.specs.Items.{item_arc}
use Rattle.post_floor.specs.Data.{AtTable, Publishing}

first_or : {S : Type 0} → S → List (ℕ × S) → S
first_or d [] = d
first_or d (x ∷ xs) = x.1

pub first_is : {S : Type 0} (l r : List (ℕ × S)) (x : ℕ × S) → l ≡ x ∷ r → l ≡ x ∷ rest l
first_is l r x e = e ∙ ap (λ (z : List (ℕ × _)). x ∷ z) (sym (ap rest e))

-- after an exchange the slot k has the value y
pub has_now : {S V : Type 0} (v : V) (k : ℕ) (y : S) (r : List (ℕ × S)) (m : Me S V) → m ≡ (v, (k, y) ∷ r) → m.1 ≡ (k, y) ∷ rest m.1
has_now v k y r m e = first_is m.1 r (k, y) (ap (λ (z : Me _ _). z.1) e)

-- what is in the slot is what was found in it
pub found_is : {S : Type 0} (k j : ℕ) (x y : S) (l : List (ℕ × S)) → l ≡ (k, x) ∷ rest l → l ≡ (j, y) ∷ rest l → x ≡ y
unfolding first_or
found_is k j x y l e f = ap (first_or x) (sym e ∙ f)

pub made_here : {S V : Type 0} (p : PartData S V) (xs : List (Item V)) (to : ℕ)
    → All (λ i. (place_in p.setup (vertex_of (network_of p.setup) i) ≡ to) × (place_in p.setup (maker_of (network_of p.setup) i) ≡ p.shard)
    × IsArc (network_of p.setup) (item_arc i)) xs → MadeAt p.setup p.shard xs
made_here p [] to a = tt
made_here p (i ∷ xs) to a = (a.0.1, made_here p xs to a.1)

-- the outbox of p is in the slot
pub publishing : {S V P : Type 0} {meaning : S → Algebra V} {table : Shared (Slot V) (View S V) (SetupData S) P} {k to : ℕ} {p q : PartData S V}
    (pass pass' : Seat (Slot V) (View S V)) {x : Slot V} {b b' : Buffer (Item V)}
    → AtTable meaning table.table_id table.key pass.table_id pass.me.0 p → p.setup ≡ table.key → IsBetween table.key.plan.shards p.shard to k
    → LocalInvariant (network_of p.setup) (place_in p.setup) p → HasEmpty table.key k pass.me → pass'.table_id ≡ pass.table_id
    → q ≡ published_to to p → pass.me.1 ≡ (k, x) ∷ rest pass.me.1 → x ≡ std.Some b → b' ≡ buffer (get_or p.outs to []) b.capacity
    → pass'.me.0 ≡ pass.me.0 → pass'.me.1 ≡ (k, std.Some b') ∷ rest pass'.me.1 → Publishing meaning table pass' k q
publishing {S} {V} {P} {meaning} {table} {k} {to} {p} {q} pass pass' {x} {b} {b'} at is between sound empty same left found some swapped view slot =
    let t = table.key in
    let was : std.Some b ≡ empty_slot t k = sym some ∙ found_is k k x (empty_slot t k) pass.me.1 found empty in
    let room : b.capacity ≡ mailbox_capacity t k = ap (λ (z : Buffer (Item V)). z.capacity) (same_Some b (buffer [] (mailbox_capacity t k)) was) in
    let to_is : to ≡ dest t.plan.shards k = sym between.leads_to in
    let b_is : b' ≡ buffer (get_or p.outs (dest t.plan.shards k) []) (mailbox_capacity t k) = swapped ∙ (λ i. buffer (get_or p.outs (to_is i) []) (room i)) in record {
      d = p;
      at = record { sized = at.sized; own = same ∙ at.own; moved = subst (λ (v : View S V). ViewLags meaning v p) (sym view) at.moved };
      left = left ∙ ap (λ z. published_to z p) to_is;
      slot = slot ∙ (λ i. (k, std.Some (b_is i)) ∷ rest pass'.me.1);
      made = subst (λ (z : ℕ × ℕ). MadeAt t z.0 (get_or p.outs z.1 [])) (λ i. (sym between.comes_from i, to_is i))
          (subst (λ (u : SetupData S). MadeAt u p.shard (get_or p.outs to [])) is (made_here p (get_or p.outs to []) to (sound.gone to)));
    }

pub formed : {S : Type 0} (t : SetupData S) → IsPlanned t 0 → WellFormed (network_of t)
formed t P = well_formed t.diffusion.roads t.diffusion.source P.roads P.source.0

-- what a step promises of the part d holds of each part of the list d ∷ []
pub all_told : {P : Type 0} (T : P → Type 0) {d : P} {ps : List P} → ps ≡ d ∷ [] → T d → All T ps
all_told {P} T told a = subst (λ (l : List P). All T l) (sym told) (a, tt)
