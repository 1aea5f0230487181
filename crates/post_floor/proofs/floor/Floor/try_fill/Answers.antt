use Rattle.post_floor.proofs.Words.{rules, arith, ◌∙◌, sym, refl, empty, at_word, begin_fill}
use Rattle.post_floor.proofs.Seated.{seated, inside, slot_at, fill_next_at, fill_end, still, placed, claimed, renamed}
use Rattle.post_floor.proofs.floor.Floor.try_fill.Goals as goal

pub index-slot-requires : goal.index-slot-requires
index-slot-requires g c =
    let z = seated c.self.view_is c.seat.view_is c.self.invariant c.seat.invariant c.requires.at in
    omega (arith, z.fill_slots.long, c.seat.inside.next_fill.ok.0, c.requires.shard, z.asked, c.to.view_is)

pub word_of-word-requires : goal.word_of-word-requires
word_of-word-requires g c =
    let z = seated c.self.view_is c.seat.view_is c.self.invariant c.seat.invariant c.requires.at in
    let row = slot_at z.fill_slots c.to.view_is (inside z c.args.to c.requires.shard) c.index-slot.ensures in
    (c.self.invariant.2, z.below, inside z c.args.to c.requires.shard, row.1)

pub fill_word-requires-clause-step : goal.fill_word-requires-clause-step
fill_word-requires-clause-step g c κs within = record { told = refl; at = (seated c.self.view_is c.seat.view_is c.self.invariant c.seat.invariant c.requires.at).at }

pub fill_word-requires-clause-next : goal.fill_word-requires-clause-next
fill_word-requires-clause-next g c κs within =
    let z = seated c.self.view_is c.seat.view_is c.self.invariant c.seat.invariant c.requires.at in
    let row = slot_at z.fill_slots c.to.view_is (inside z c.args.to c.requires.shard) c.index-slot.ensures in
    fill_next_at z c.word_of-word.ensures.between (inside z c.args.to c.requires.shard) c.word_of-word.ensures.number row.0 refl

pub invariant_of-seat : goal.invariant_of-seat
invariant_of-seat g c =
    let z = seated c.self.view_is c.seat.view_is c.self.invariant c.seat.invariant c.requires.at in
    let t = c.fill_word.ensures.told.1 c.if-fill_word-ne-EMPTY.true in
    still z z.setup z.shard t.0 refl refl refl refl t.1

pub returns-then-fill_word-ne-EMPTY : goal.returns-then-fill_word-ne-EMPTY
returns-then-fill_word-ne-EMPTY g c =
    let z = seated c.self.view_is c.seat.view_is c.self.invariant c.seat.invariant c.requires.at in
    let row = slot_at z.fill_slots c.to.view_is (inside z c.args.to c.requires.shard) c.index-slot.ensures in
    let box = c.word_of-word.ensures.number ∙ z.fills c.args.to c.index-slot.result.now row.0 in
    let t = c.fill_word.ensures.told.1 c.if-fill_word-ne-EMPTY.true in record {
      seat = search rules;
      at = placed z c.fill_word.ensures.pass.0 z.setup t.0;
      told = (c.fill_word.result, c.if-fill_word-ne-EMPTY.true, renamed (λ k u. at_word k c.fill_word.result u) box (sym z.knows) t.0);
    }

pub returns : goal.returns
returns g c =
    let z = seated c.self.view_is c.seat.view_is c.self.invariant c.seat.invariant c.requires.at in
    let row = slot_at z.fill_slots c.to.view_is (inside z c.args.to c.requires.shard) c.index-slot.ensures in
    let box = c.word_of-word.ensures.number ∙ z.fills c.args.to c.index-slot.result.now row.0 in
    let t = c.fill_word.ensures.told.0 c.if-fill_word-ne-EMPTY.false in record {
      seat = search rules;
      at = placed z c.fill_word.ensures.pass.0 z.setup t.0;
      told = renamed (λ k u. at_word k empty (begin_fill k u)) box (sym z.knows) t.0;
    }

pub invariant_of-seat-2 : goal.invariant_of-seat-2
invariant_of-seat-2 g c =
    let z = seated c.self.view_is c.seat.view_is c.self.invariant c.seat.invariant c.requires.at in
    let t = c.fill_word.ensures.told.0 c.if-fill_word-ne-EMPTY.false in
    claimed z z.setup z.shard t.0 (λ j. omega arith) refl refl t.2 (fill_end z c.word_of-word.ensures.between) t.1 c.push_front.ensures.items
