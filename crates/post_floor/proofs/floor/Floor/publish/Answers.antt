use Rattle.post_floor.proofs.Words.{◌<◌, arith, ◌∙◌, ap, sym, subst, full, fill_claims, at_word, end_fill}
use Rattle.post_floor.proofs.Claiming.{first_empty}
use Rattle.post_floor.proofs.Seated.{seated, inside, slot_at, row_next, moved_on, fill_next, fill_between, fill_claim, fill_ring, fill_less, still_at, placed, released, renamed}
use Rattle.post_floor.proofs.floor.Floor.publish.Goals as goal

pub index-slot-requires : goal.index-slot-requires
index-slot-requires g c =
    let z = seated c.self.view_is c.seat.view_is c.self.invariant c.seat.invariant c.requires.at in
    omega (arith, z.fill_slots.long, c.seat.inside.next_fill.ok.0, c.requires.shard.1, z.asked, c.to.view_is)

pub word_of-word-requires : goal.word_of-word-requires
word_of-word-requires g c =
    let z = seated c.self.view_is c.seat.view_is c.self.invariant c.seat.invariant c.requires.at in
    let row = slot_at z.fill_slots c.to.view_is (inside z c.args.to c.requires.shard.1) c.index-slot.ensures in
    (c.self.invariant.2, z.below, inside z c.args.to c.requires.shard.1, row.1)

pub rotate_to-requires-clause-room : goal.rotate_to-requires-clause-room
rotate_to-requires-clause-room g c κs within = (seated c.self.view_is c.seat.view_is c.self.invariant c.seat.invariant c.requires.at).few

pub rotate_to-requires-clause-claim : goal.rotate_to-requires-clause-claim
rotate_to-requires-clause-claim g c κs within =
    let z = seated c.self.view_is c.seat.view_is c.self.invariant c.seat.invariant c.requires.at in
    let row = slot_at z.fill_slots c.to.view_is (inside z c.args.to c.requires.shard.1) c.index-slot.ensures in
    let box = c.word_of-word.ensures.number ∙ z.fills c.args.to c.index-slot.result.now row.0 in
    fill_ring z box c.requires.claim

pub publish_batch-requires-clause-at : goal.publish_batch-requires-clause-at
publish_batch-requires-clause-at g c κs within =
    still_at (seated c.self.view_is c.seat.view_is c.self.invariant c.seat.invariant c.requires.at) c.rotate_to.ensures.pass.0 c.rotate_to.ensures.pass.2

pub publish_batch-requires-clause-to : goal.publish_batch-requires-clause-to
publish_batch-requires-clause-to g c κs within =
    let z = seated c.self.view_is c.seat.view_is c.self.invariant c.seat.invariant c.requires.at in
    ((λ e. c.requires.shard.0 (e ∙ z.shard ∙ sym z.same)), omega (arith, c.requires.shard.1, z.asked, z.count))

pub publish_batch-requires-clause-between : goal.publish_batch-requires-clause-between
publish_batch-requires-clause-between g c κs within =
    fill_between (seated c.self.view_is c.seat.view_is c.self.invariant c.seat.invariant c.requires.at) c.word_of-word.ensures.between

pub publish_batch-requires-clause-claim : goal.publish_batch-requires-clause-claim
publish_batch-requires-clause-claim g c κs within =
    let z = seated c.self.view_is c.seat.view_is c.self.invariant c.seat.invariant c.requires.at in
    let row = slot_at z.fill_slots c.to.view_is (inside z c.args.to c.requires.shard.1) c.index-slot.ensures in
    let box = c.word_of-word.ensures.number ∙ z.fills c.args.to c.index-slot.result.now row.0 in
    subst (λ v. 0 < fill_claims c.word_of-word.result v) (sym c.rotate_to.ensures.pass.2) (fill_claim z box c.requires.claim)

pub publish_batch-requires-clause-held : goal.publish_batch-requires-clause-held
publish_batch-requires-clause-held g c κs within =
    first_empty _ _ _ _ _ _ _ (c.rotate_to.ensures.open _ _ _ (seated c.self.view_is c.seat.view_is c.self.invariant c.seat.invariant c.requires.at).out) c.rotate_to.ensures.first.1

pub publish_batch-requires-clause-next : goal.publish_batch-requires-clause-next
publish_batch-requires-clause-next g c κs within =
    let z = seated c.self.view_is c.seat.view_is c.self.invariant c.seat.invariant c.requires.at in
    let row = slot_at z.fill_slots c.to.view_is (inside z c.args.to c.requires.shard.1) c.index-slot.ensures in
    fill_next z c.word_of-word.ensures.between (inside z c.args.to c.requires.shard.1) c.word_of-word.ensures.number row.0 c.rotate_to.ensures.pass.2

pub next_slot-requires : goal.next_slot-requires
next_slot-requires g c =
    let z = seated c.self.view_is c.seat.view_is c.self.invariant c.seat.invariant c.requires.at in
    let row = slot_at z.fill_slots c.to.view_is (inside z c.args.to c.requires.shard.1) c.index-slot.ensures in
    row.1

pub index_mut-requires : goal.index_mut-requires
index_mut-requires g c =
    let z = seated c.self.view_is c.seat.view_is c.self.invariant c.seat.invariant c.requires.at in
    omega (arith, z.fill_slots.long, c.seat.inside.next_fill.ok.0, c.requires.shard.1, z.asked, c.to.view_is)

pub returns-clause-at : goal.returns-clause-at
returns-clause-at g c =
    let z = seated c.self.view_is c.seat.view_is c.self.invariant c.seat.invariant c.requires.at in
    placed z (c.publish_batch.ensures.pass.0 ∙ c.rotate_to.ensures.pass.0) (ap (λ p. p.setup) c.publish_batch.ensures.part ∙ z.setup) c.publish_batch.ensures.told.0

pub invariant_of-seat : goal.invariant_of-seat
invariant_of-seat g c =
    let z = seated c.self.view_is c.seat.view_is c.self.invariant c.seat.invariant c.requires.at in
    let row = slot_at z.fill_slots c.to.view_is (inside z c.args.to c.requires.shard.1) c.index-slot.ensures in
    let box = c.word_of-word.ensures.number ∙ z.fills c.args.to c.index-slot.result.now row.0 in
    let view = c.rotate_to.ensures.pass.2 in
    let claim = subst (λ v. 0 < fill_claims c.word_of-word.result v) (sym view) (fill_claim z box c.requires.claim) in
    released z (ap (λ p. p.setup) c.publish_batch.ensures.part ∙ z.setup) (ap (λ p. p.shard) c.publish_batch.ensures.part ∙ z.shard) view c.publish_batch.ensures.told.0
    (λ j. fill_less c.rotate_to.new.pass.me.0 c.word_of-word.result c.args.to full j claim)
    (c.rotate_to.ensures.open _ _ _ z.out) c.rotate_to.ensures.first.1 c.publish_batch.ensures.told.1 c.pop_front.ensures.items c.rotate_to.ensures.room.0
    (moved_on (ap (λ v. v.next_fill) view ∙ z.fill) c.to.view_is row.0 c.next_slot.ensures) (ap (λ v. v.next_read) view ∙ z.read)
    (row_next z.fill_slots c.to.view_is row.0 c.next_slot.ensures) z.read_slots

pub returns-clause-told : goal.returns-clause-told
returns-clause-told g c =
    let z = seated c.self.view_is c.seat.view_is c.self.invariant c.seat.invariant c.requires.at in
    let row = slot_at z.fill_slots c.to.view_is (inside z c.args.to c.requires.shard.1) c.index-slot.ensures in
    let box = c.word_of-word.ensures.number ∙ z.fills c.args.to c.index-slot.result.now row.0 in
    renamed (λ k u. at_word k full (end_fill c.args.to k u)) box (c.rotate_to.ensures.pass.2 ∙ sym z.knows) c.publish_batch.ensures.told.0
