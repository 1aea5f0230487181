use Rattle.shard_store.proofs.Words.{◌+◌, ◌++◌, [], ◌∷◌, ap, sym, ◌∙◌, refl, place_in}
use Rattle.shard_store.proofs.Counting.{placed_then, placed_else, placed_start}
use Rattle.shard_store.proofs.layout.ShardLayout.list_own.Goals as goal
use Rattle.shard_store.proofs.layout.ShardLayout.list_own.Goals.{then-has+in_ok-push-2, else-has}

pub loop-i-init : goal.loop-i-init
loop-i-init c = c.in_ok-push.ensures.items ∙ ap (λ xs. xs ++ 0 ∷ []) c.in_ok-own.ensures.items ∙ sym (ap (λ xs. 0 ∷ xs) (placed_start (place_in c.args.self.now.setup) c.args.self.now.shard))

pub loop-i-preserved : goal.loop-i-preserved
loop-i-preserved c = elim c.if-has.branch [
  | then-has+in_ok-push-2 w ↦ ap (λ v. v.items) w.own-is ∙ w.in_ok-push-2.ensures.items ∙ ap (λ xs. xs ++ (c.loop-i.i + 1) ∷ []) c.loop-i.invariant
      ∙ sym (ap (λ xs. 0 ∷ xs) (placed_then (place_in c.args.self.now.setup) c.args.self.now.shard c.loop-i.i (c.loop-i.i + 1) refl (sym c.has.ensures ∙ w.if-has.true)))
  | else-has w ↦ ap (λ v. v.items) w.own-is ∙ c.loop-i.invariant
      ∙ sym (ap (λ xs. 0 ∷ xs) (placed_else (place_in c.args.self.now.setup) c.args.self.now.shard c.loop-i.i (c.loop-i.i + 1) refl (sym c.has.ensures
      ∙ w.if-has.false)))
]
