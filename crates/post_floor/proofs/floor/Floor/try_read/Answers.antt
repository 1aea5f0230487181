use Rattle.post_floor.proofs.Words.{rules, arith, ◌∙◌, ap, sym, refl, full, at_word, begin_read}
use Rattle.post_floor.proofs.Seated.{seated, inside, slot_at, read_next_at, read_between, read_end, still, placed, claimed, renamed}
use Rattle.post_floor.proofs.floor.Floor.try_read.Goals as goal

pub index-slot-requires : goal.index-slot-requires
index-slot-requires g c =
    let z = seated c.self.view_is c.seat.view_is c.self.invariant c.seat.invariant c.requires.at in
    omega (arith, z.read_slots.long, c.seat.inside.next_read.ok.0, c.requires.shard.1, z.asked, c.from.view_is)

pub word_of-word-requires : goal.word_of-word-requires
word_of-word-requires g c =
    let z = seated c.self.view_is c.seat.view_is c.self.invariant c.seat.invariant c.requires.at in
    let row = slot_at z.read_slots c.from.view_is (inside z c.args.from c.requires.shard.1) c.index-slot.ensures in
    (c.self.invariant.2, inside z c.args.from c.requires.shard.1, z.below, row.1)

pub read_batch-requires-clause-at : goal.read_batch-requires-clause-at
read_batch-requires-clause-at g c κs within = (seated c.self.view_is c.seat.view_is c.self.invariant c.seat.invariant c.requires.at).at

pub read_batch-requires-clause-to : goal.read_batch-requires-clause-to
read_batch-requires-clause-to g c κs within =
    (read_between (seated c.self.view_is c.seat.view_is c.self.invariant c.seat.invariant c.requires.at) c.word_of-word.ensures.between).leads_to

pub read_batch-requires-clause-from : goal.read_batch-requires-clause-from
read_batch-requires-clause-from g c κs within =
    let z = seated c.self.view_is c.seat.view_is c.self.invariant c.seat.invariant c.requires.at in
    λ e. c.requires.shard.0 (sym (read_between z c.word_of-word.ensures.between).comes_from ∙ e ∙ z.shard ∙ sym z.same)

pub read_batch-requires-clause-next : goal.read_batch-requires-clause-next
read_batch-requires-clause-next g c κs within =
    let z = seated c.self.view_is c.seat.view_is c.self.invariant c.seat.invariant c.requires.at in
    let row = slot_at z.read_slots c.from.view_is (inside z c.args.from c.requires.shard.1) c.index-slot.ensures in
    read_next_at z c.word_of-word.ensures.between (inside z c.args.from c.requires.shard.1) c.word_of-word.ensures.number row.0 refl

pub invariant_of-seat : goal.invariant_of-seat
invariant_of-seat g c =
    let z = seated c.self.view_is c.seat.view_is c.self.invariant c.seat.invariant c.requires.at in
    let t = c.if-read_batch.ensures.told in
    claimed z (ap (λ p. p.setup) t.0.0.1 ∙ z.setup) (ap (λ p. p.shard) t.0.0.1 ∙ z.shard) t.0.1 (λ j. omega arith) refl refl t.2
    (read_end z c.word_of-word.ensures.between) t.1 c.push_front.ensures.items

pub invariant_of-seat-else-read_batch : goal.invariant_of-seat-else-read_batch
invariant_of-seat-else-read_batch g c =
    let z = seated c.self.view_is c.seat.view_is c.self.invariant c.seat.invariant c.requires.at in
    let t = c.if-read_batch.ensures.told in
    still z (ap (λ p. p.setup) t.0.0 ∙ z.setup) (ap (λ p. p.shard) t.0.0 ∙ z.shard) t.0.3 refl refl refl refl t.1

pub returns-then-read_batch : goal.returns-then-read_batch
returns-then-read_batch g c =
    let z = seated c.self.view_is c.seat.view_is c.self.invariant c.seat.invariant c.requires.at in
    let row = slot_at z.read_slots c.from.view_is (inside z c.args.from c.requires.shard.1) c.index-slot.ensures in
    let box = c.word_of-word.ensures.number ∙ z.reads c.args.from c.index-slot.result.now row.0 in
    let t = c.if-read_batch.ensures.told in record {
      seat = search rules;
      at = placed z c.read_batch.ensures.pass.0 (ap (λ p. p.setup) t.0.0.1 ∙ z.setup) t.0.1;
      told = (t.0.0, renamed (λ k u. at_word k full (begin_read k u)) box (sym z.knows) t.0.1, t.0.2);
    }

pub returns-else-read_batch : goal.returns-else-read_batch
returns-else-read_batch g c =
    let z = seated c.self.view_is c.seat.view_is c.self.invariant c.seat.invariant c.requires.at in
    let row = slot_at z.read_slots c.from.view_is (inside z c.args.from c.requires.shard.1) c.index-slot.ensures in
    let box = c.word_of-word.ensures.number ∙ z.reads c.args.from c.index-slot.result.now row.0 in
    let t = c.if-read_batch.ensures.told in record {
      seat = search rules;
      at = placed z c.read_batch.ensures.pass.0 (ap (λ p. p.setup) t.0.0 ∙ z.setup) t.0.3;
      told = (t.0.0, t.0.1, t.0.2, renamed (λ k u. at_word k t.0.1 u) box (sym z.knows) t.0.3);
    }
