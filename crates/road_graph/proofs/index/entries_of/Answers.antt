use Rattle.road_graph.proofs.Words.{◌-◌, subst, arith, ◌∙◌, refl, get_or, length-set, IsEntry}
use Rattle.road_graph.proofs.Entries.{all_told, number_some, number_inside, tail_some, tail_inside, start_before, is_entry, told_more}
use Rattle.road_graph.proofs.index.entries_of.Goals as goal

pub overflow_sub-at : goal.overflow_sub-at
overflow_sub-at c =
    number_some c.args.graph.now c.holds.ensures c.starts-starts.result.now c.args.numbers.now c.args.tails.now (c.starts-starts.ensures.all c.args.numbers.now c.requires.numbers) c.requires.tails
    c.args.numbers.now refl c.loop-place.place c.loop-place-test.true c.number.inside.0 c.index-numbers-place.result (c.number.view_is ∙ c.index-numbers-place.is)

pub bounds-tails-at : goal.bounds-tails-at
bounds-tails-at c =
    number_inside c.args.graph.now c.holds.ensures c.starts-starts.result.now c.args.numbers.now c.args.tails.now (c.starts-starts.ensures.all c.args.numbers.now c.requires.numbers) c.requires.tails
    c.args.numbers.now refl c.loop-place.place c.loop-place-test.true c.number.inside.0 c.index-numbers-place.result (c.number.view_is ∙ c.index-numbers-place.is)

pub overflow_sub-tail-inside : goal.overflow_sub-tail-inside
overflow_sub-tail-inside c =
    tail_some c.args.graph.now c.holds.ensures c.starts-starts.result.now c.args.numbers.now c.args.tails.now (c.starts-starts.ensures.all c.args.numbers.now c.requires.numbers) c.requires.tails
    c.args.numbers.now refl c.loop-place.place c.loop-place-test.true c.number.inside.0 c.index-numbers-place.result (c.number.view_is ∙ c.index-numbers-place.is)
    c.tail.inside.0 c.index-tails-at.result (c.tail.view_is ∙ c.index-tails-at.is)

pub bounds-starts-tail-inside : goal.bounds-starts-tail-inside
bounds-starts-tail-inside c =
    let l = tail_inside c.args.graph.now c.holds.ensures c.starts-starts.result.now c.args.numbers.now c.args.tails.now
    (c.starts-starts.ensures.all c.args.numbers.now c.requires.numbers) c.requires.tails
    c.args.numbers.now refl c.loop-place.place c.loop-place-test.true c.number.inside.0 c.index-numbers-place.result (c.number.view_is ∙ c.index-numbers-place.is)
    c.tail.inside.0 c.index-tails-at.result (c.tail.view_is ∙ c.index-tails-at.is) in
    l

pub overflow_sub-place : goal.overflow_sub-place
overflow_sub-place c =
    start_before c.args.graph.now c.holds.ensures c.starts-starts.result.now c.args.numbers.now c.args.tails.now (c.starts-starts.ensures.all c.args.numbers.now c.requires.numbers) c.requires.tails
    c.args.numbers.now refl c.loop-place.place c.loop-place-test.true c.number.inside.0 c.index-numbers-place.result (c.number.view_is ∙ c.index-numbers-place.is)
    c.tail.inside.0 c.index-tails-at.result (c.tail.view_is ∙ c.index-tails-at.is)
    (get_or c.starts-starts.result.now (c.tail.inside.0 - 1) 0) 0 refl

pub index_mut-requires : goal.index_mut-requires
index_mut-requires c =
    let l = number_inside c.args.graph.now c.holds.ensures c.starts-starts.result.now c.args.numbers.now c.args.tails.now
    (c.starts-starts.ensures.all c.args.numbers.now c.requires.numbers) c.requires.tails
    c.args.numbers.now refl c.loop-place.place c.loop-place-test.true c.number.inside.0 c.index-numbers-place.result (c.number.view_is ∙ c.index-numbers-place.is) in
    omega (arith, l, c.loop-place.invariant.count, c.loop-place.entries.ok.0)

pub loop-place-preserved : goal.loop-place-preserved
loop-place-preserved c =
    let number = c.number.inside.0 in
    let rank = c.loop-place.place - get_or c.starts-starts.result.now (c.tail.inside.0 - 1) 0 in
    let new = subst (λ tail. IsEntry c.args.graph.now number (record { tail = tail; rank = rank })) c.tail.view_is
    (is_entry c.args.graph.now c.holds.ensures c.starts-starts.result.now c.args.numbers.now c.args.tails.now (c.starts-starts.ensures.all c.args.numbers.now c.requires.numbers) c.requires.tails
    c.args.numbers.now refl c.loop-place.place c.loop-place-test.true c.number.inside.0 c.index-numbers-place.result (c.number.view_is ∙ c.index-numbers-place.is)
    c.tail.inside.0 c.index-tails-at.result (c.tail.view_is ∙ c.index-tails-at.is)
    (get_or c.starts-starts.result.now (c.tail.inside.0 - 1) 0) 0 refl) in
    record {
      count = simp length-set c.loop-place.invariant.count;
      told = told_more c.args.graph.now c.holds.ensures c.starts-starts.result.now c.args.numbers.now c.args.tails.now
          (c.starts-starts.ensures.all c.args.numbers.now c.requires.numbers) c.requires.tails
          c.args.numbers.now refl c.loop-place.place c.loop-place-test.true c.number.inside.0 c.index-numbers-place.result (c.number.view_is ∙ c.index-numbers-place.is)
          c.loop-place.entries.items (record { tail = c.index-tails-at.result; rank = rank }) c.loop-place.invariant.count new c.loop-place.invariant.told;
    }

pub returns : goal.returns
returns c =
    all_told c.args.graph.now c.holds.ensures c.starts-starts.result.now c.args.numbers.now c.args.tails.now (c.starts-starts.ensures.all c.args.numbers.now c.requires.numbers) c.requires.tails
    c.loop-place.entries.items c.loop-place.place c.loop-place-test.false c.loop-place.invariant.count c.loop-place.invariant.told
