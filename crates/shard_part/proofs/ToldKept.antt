-- Each item that a part takes keeps what was offered on its idle arcs.
use Rattle.shard_part.proofs.Words.{◌≡◌, ℕ, suc, true, List, length, None, sym, ap, ◌∙◌, subst, eq-eqb, Item, Algebra, Lawful, WellFormed, is_idle, PartData, state_in, mine, SetupData, network_of, place_in, taken, HandledItemIn, Room, Rows, RepInvariant, OwnIdleIsTold, opened_part}
use Rattle.scholten_core.proofs.Basics.{idle-true}
use Rattle.shard_part.proofs.Quick.{taken_told}
use Rattle.shard_part.proofs.ItemIsTaken.{has_told}
use Rattle.shard_part.proofs.Moves.{formed}
use Rattle.shard_part.proofs.VertexSettles.{of_one_shard}
use Rattle.shard_part.proofs.Opened.{reads_same}

module _ {S V : Type 0} (A : Algebra V) where
  pub told_kept : Lawful A → (p : PartData S V) (i : Item V) (q : PartData S V) → WellFormed (network_of p.setup) → OwnIdleIsTold p
      → HandledItemIn A (network_of p.setup) (place_in p.setup) p i q → OwnIdleIsTold q
  told_kept L p i q W T R =
      let N = network_of p.setup in
      let H = taken_told A N L W (mine (place_in p.setup) p.shard) i (state_in p) (has_told A p T) in
      let here : OwnIdleIsTold (record q { setup = p.setup; shard = p.shard }) = (λ b h n idle.
      let m : mine (place_in p.setup) p.shard (N.tail b) ≡ true = eq-eqb _ _ h in
      R.tables.told b m ∙ H b m n n (idle-true ((taken A N i (state_in p)).token b) (sym (R.tables.idle b m) ∙ ap is_idle idle)) ∙ sym (R.tables.label (N.tail b) m)) in
      subst OwnIdleIsTold (sym (of_one_shard A p q R.setup R.shard)) here

-- if nothing has been offered yet and no vertex has a label
pub untold : {S V : Type 0} (p : PartData S V) → ((v : ℕ) → (state_in p).label v ≡ None) → ((b : ℕ) → (state_in p).told b ≡ None) → OwnIdleIsTold p
untold p labels told b h n i = told b ∙ sym (labels ((network_of p.setup).tail b))

-- so of every part that was opened
pub opened_told : {S V : Type 0} (A : Algebra V) (p : PartData S V) (t : SetupData S) (s : ℕ) → p ≡ opened_part A t s → OwnIdleIsTold p
opened_told A p t s e = subst OwnIdleIsTold (sym e) (untold (opened_part A t s) (λ v. reads_same (suc t.diffusion.roads.vertices) None v)
    (λ b. reads_same (suc (length t.diffusion.roads.arcs)) None b))

module _ {S V : Type 0} (meaning : S → Algebra V) where
  pub stored_formed : (p old : PartData S V) (r : Rows V) (n : Room) (ns : List ℕ) → p ≡ old → RepInvariant p r n ns → WellFormed (network_of old.setup)
  stored_formed p old r n ns e D = subst (λ (u : PartData S V). WellFormed (network_of u.setup)) e (formed p p.shard D.planned)
