use Rattle.post_floor.proofs.Words.{◌<◌, arith, ◌∙◌, ap, refl, sym, subst, empty, origin, read_claims}
use Rattle.post_floor.specs.Plays.{at_word, end_read, ClearOutcome}
use Rattle.post_floor.proofs.Claiming.{first_empty}
use Rattle.post_floor.proofs.Seated.{seated, inside, slot_at, row_next, moved_on, read_next_at, read_between, read_claim, read_ring, read_less, still_at, placed, released, renamed}
use Rattle.post_floor.proofs.floor.Floor.clear.Goals as goal

pub index-slot-requires : goal.index-slot-requires
index-slot-requires g c =
    let z = seated c.self.view_is c.seat.view_is c.self.invariant c.seat.invariant c.requires.at in
    omega (arith, z.read_slots.long, c.seat.inside.next_read.ok.0, c.requires.shard, z.asked, c.from.view_is)

pub word_of-word-requires : goal.word_of-word-requires
word_of-word-requires g c =
    let z = seated c.self.view_is c.seat.view_is c.self.invariant c.seat.invariant c.requires.at in
    let row = slot_at z.read_slots c.from.view_is (inside z c.args.from c.requires.shard) c.index-slot.ensures in
    (c.self.invariant.2, inside z c.args.from c.requires.shard, z.below, row.1)

pub rotate_to-requires-clause-room : goal.rotate_to-requires-clause-room
rotate_to-requires-clause-room g c κs within = (seated c.self.view_is c.seat.view_is c.self.invariant c.seat.invariant c.requires.at).few

pub rotate_to-requires-clause-claim : goal.rotate_to-requires-clause-claim
rotate_to-requires-clause-claim g c κs within =
    let z = seated c.self.view_is c.seat.view_is c.self.invariant c.seat.invariant c.requires.at in
    let row = slot_at z.read_slots c.from.view_is (inside z c.args.from c.requires.shard) c.index-slot.ensures in
    let box = c.word_of-word.ensures.number ∙ z.reads c.args.from c.index-slot.result.now row.0 in
    read_ring z box c.requires.claim

pub clear_word-requires-clause-step : goal.clear_word-requires-clause-step
clear_word-requires-clause-step g c κs within = record {
  told = refl;
  at = still_at (seated c.self.view_is c.seat.view_is c.self.invariant c.seat.invariant c.requires.at) c.rotate_to.ensures.pass.0 c.rotate_to.ensures.pass.2;
}

pub clear_word-requires-clause-slot : goal.clear_word-requires-clause-slot
clear_word-requires-clause-slot g c κs within =
    first_empty _ _ _ _ _ _ _ (c.rotate_to.ensures.open _ _ _ (seated c.self.view_is c.seat.view_is c.self.invariant c.seat.invariant c.requires.at).out) c.rotate_to.ensures.first.1

pub clear_word-requires-clause-claim : goal.clear_word-requires-clause-claim
clear_word-requires-clause-claim g c κs within =
    let z = seated c.self.view_is c.seat.view_is c.self.invariant c.seat.invariant c.requires.at in
    let row = slot_at z.read_slots c.from.view_is (inside z c.args.from c.requires.shard) c.index-slot.ensures in
    let box = c.word_of-word.ensures.number ∙ z.reads c.args.from c.index-slot.result.now row.0 in
    subst (λ v. 0 < read_claims c.word_of-word.result v) (sym c.rotate_to.ensures.pass.2) (read_claim z box c.requires.claim)

pub clear_word-requires-clause-next : goal.clear_word-requires-clause-next
clear_word-requires-clause-next g c κs within =
    let z = seated c.self.view_is c.seat.view_is c.self.invariant c.seat.invariant c.requires.at in
    let row = slot_at z.read_slots c.from.view_is (inside z c.args.from c.requires.shard) c.index-slot.ensures in
    read_next_at z c.word_of-word.ensures.between (inside z c.args.from c.requires.shard) c.word_of-word.ensures.number row.0 c.rotate_to.ensures.pass.2

pub next_slot-requires : goal.next_slot-requires
next_slot-requires g c =
    let z = seated c.self.view_is c.seat.view_is c.self.invariant c.seat.invariant c.requires.at in
    let row = slot_at z.read_slots c.from.view_is (inside z c.args.from c.requires.shard) c.index-slot.ensures in
    row.1

pub index_mut-requires : goal.index_mut-requires
index_mut-requires g c =
    let z = seated c.self.view_is c.seat.view_is c.self.invariant c.seat.invariant c.requires.at in
    omega (arith, z.read_slots.long, c.seat.inside.next_read.ok.0, c.requires.shard, z.asked, c.from.view_is)

pub returns-clause-at : goal.returns-clause-at
returns-clause-at g c =
    let z = seated c.self.view_is c.seat.view_is c.self.invariant c.seat.invariant c.requires.at in
    placed z (c.clear_word.ensures.pass.0 ∙ c.rotate_to.ensures.pass.0) z.setup c.clear_word.ensures.told.0

pub invariant_of-seat : goal.invariant_of-seat
invariant_of-seat g c =
    let z = seated c.self.view_is c.seat.view_is c.self.invariant c.seat.invariant c.requires.at in
    let row = slot_at z.read_slots c.from.view_is (inside z c.args.from c.requires.shard) c.index-slot.ensures in
    let box = c.word_of-word.ensures.number ∙ z.reads c.args.from c.index-slot.result.now row.0 in
    let told = subst (λ o. ClearOutcome o c.args.part.now c.word_of-word.result c.rotate_to.new.pass.me.0 c.clear_word.new.pass.me.0)
    (ap (λ u. origin u.plan.shards c.word_of-word.result) z.setup ∙ (read_between z c.word_of-word.ensures.between).comes_from) c.clear_word.ensures.told.0 in
    let view = c.rotate_to.ensures.pass.2 in
    let claim = subst (λ v. 0 < read_claims c.word_of-word.result v) (sym view) (read_claim z box c.requires.claim) in
    released z z.setup z.shard view told
    (λ j. read_less c.rotate_to.new.pass.me.0 c.word_of-word.result c.args.from empty j claim)
    (c.rotate_to.ensures.open _ _ _ z.out) c.rotate_to.ensures.first.1 c.clear_word.ensures.told.1 c.pop_front.ensures.items c.rotate_to.ensures.room.0
    (ap (λ v. v.next_fill) view ∙ z.fill) (moved_on (ap (λ v. v.next_read) view ∙ z.read) c.from.view_is row.0 c.next_slot.ensures)
    z.fill_slots (row_next z.read_slots c.from.view_is row.0 c.next_slot.ensures)

pub returns-clause-told : goal.returns-clause-told
returns-clause-told g c =
    let z = seated c.self.view_is c.seat.view_is c.self.invariant c.seat.invariant c.requires.at in
    let row = slot_at z.read_slots c.from.view_is (inside z c.args.from c.requires.shard) c.index-slot.ensures in
    let box = c.word_of-word.ensures.number ∙ z.reads c.args.from c.index-slot.result.now row.0 in
    let told = subst (λ o. ClearOutcome o c.args.part.now c.word_of-word.result c.rotate_to.new.pass.me.0 c.clear_word.new.pass.me.0)
    (ap (λ u. origin u.plan.shards c.word_of-word.result) z.setup ∙ (read_between z c.word_of-word.ensures.between).comes_from) c.clear_word.ensures.told.0 in
    renamed (λ k u. at_word k empty (end_read c.args.from k u)) box (c.rotate_to.ensures.pass.2 ∙ sym z.knows) told
