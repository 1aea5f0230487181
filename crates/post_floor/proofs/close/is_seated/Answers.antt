use Rattle.post_floor.proofs.Words.{rules, arith, ◌≡◌, ◌≢◌, ap, ◌∙◌, is, is_self}
use Rattle.post_floor.proofs.Totals.{is_else}
use Rattle.post_floor.proofs.Closing.{found, not_found}
use Rattle.post_floor.proofs.close.is_seated.Goals as goal

pub returns-then-eq : goal.returns-then-eq
returns-then-eq g c =
    let x = c.index-seats-index.result in
    let e : x.shard ≡ c.args.shard = search rules in
    let one : is c.args.shard x.shard ≡ 1 = ap (is c.args.shard) e ∙ is_self c.args.shard in
    let f = found (λ d. is c.args.shard d.shard) c.args.seats.now c.loop-index.index x c.loop-index-test.true c.index-seats-index.is in
    ((λ _. omega (arith, one, f)), λ _. search rules)

pub loop-index-preserved : goal.loop-index-preserved
loop-index-preserved g c =
    let x = c.index-seats-index.result in
    let ne : c.args.shard ≢ x.shard = search rules in
    not_found (λ d. is c.args.shard d.shard) c.args.seats.now c.loop-index.index x c.loop-index-test.true c.index-seats-index.is (is_else c.args.shard x.shard ne) c.loop-index.invariant
