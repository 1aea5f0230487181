use Rattle.std.proofs.Common.{get_or, arith}
use Rattle.path_factors.proofs.Climbing.{forgotten_none, forgotten_more, all_forgotten}
use Rattle.path_factors.proofs.climb.forget.Goals as goal

pub loop-i-init : goal.loop-i-init
loop-i-init g c = forgotten_none c.args.asked.now c.args.labels.now c.args.known.now

pub loop-i-preserved : goal.loop-i-preserved
loop-i-preserved g c =
    let asked = c.args.asked.now in
    let k = c.loop-i.i-index in
    let i = get_or asked k 0 in
    let low = c.requires.inside k 0 c.loop-i-test.true in
    rw c.none.ensures
    (forgotten_more asked c.args.labels.now c.args.known.now k i c.loop-i.labels c.loop-i.known c.loop-i.invariant c.requires.count (λ j. i) low)

pub returns-clause-unknown : goal.returns-clause-unknown
returns-clause-unknown g c = λ j.
    (all_forgotten c.args.asked.now c.args.labels.now c.args.known.now c.loop-i.i-index (omega (arith, c.loop-i-test.false)) c.requires.listed
    c.loop-i.labels c.loop-i.known c.loop-i.invariant j).0

pub returns-clause-labels : goal.returns-clause-labels
returns-clause-labels g c = λ j.
    (all_forgotten c.args.asked.now c.args.labels.now c.args.known.now c.loop-i.i-index (omega (arith, c.loop-i-test.false)) c.requires.listed
    c.loop-i.labels c.loop-i.known c.loop-i.invariant j).1
