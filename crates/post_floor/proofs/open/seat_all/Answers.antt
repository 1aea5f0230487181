use Rattle.post_floor.proofs.Words.{◌≡◌, ℕ, ◌+◌, ◌++◌, [], ◌∷◌, map, rules, arith, refl, ap, sym, ◌∙◌, length-append, map_push, knows, cut_left, cut_right, seat_of}
use Rattle.post_floor.proofs.Seats.{splits}
use Rattle.post_floor.proofs.Opened.{cut_opened, none_more, opened_long}
use Rattle.post_floor.proofs.open.seat_all.Goals as goal

pub split_seat-own-requires : goal.split_seat-own-requires
split_seat-own-requires g c = let inv = c.loop-shard.invariant in let k = inv.5 in (
  inv.6,
  c.requires.table.1,
  splits g.A.PathAlgebra.meaning c.args.table.now.key c.loop-shard.pass.id c.loop-shard.pass.me.0 (ap (λ v. v.sent) k) (ap (λ v. v.fills) k)
      (ap (λ v. v.reads) k) (ap (λ v. v.delivered) k) (ap (λ v. v.signalled) k) (ap (λ v. v.accepted) k),
)

pub seat_one-requires-clause-part : goal.seat_one-requires-clause-part
seat_one-requires-clause-part g c κs within =
    let inv = c.loop-shard.invariant in
    let t = cut_opened (g.A.PathAlgebra.meaning c.args.table.now.key.diffusion.algebra) c.args.table.now.key c.args.shards inv.0
    c.loop-shard.pass.me.0.parts c.args.pass.me.0.parts (ap (λ m. m.0.parts) c.requires.parts) inv.2 (omega (arith, inv.3, c.loop-shard-test.true)) in (
      t.0,
      c.split_seat-own.ensures.4 ∙ ap (λ v. (cut_right v, [])) inv.5 ∙ ap (λ z. (knows c.args.shards z, [])) t.1,
      ap (λ p. p.shard) t.3
          ∙ inv.3,
      ap (λ p. p.setup.plan.shards) t.3 ∙ c.requires.shards.0,
    )

pub loop-shard-preserved : goal.loop-shard-preserved
loop-shard-preserved g c =
    let inv = c.loop-shard.invariant in
    let t = cut_opened (g.A.PathAlgebra.meaning c.args.table.now.key.diffusion.algebra) c.args.table.now.key c.args.shards inv.0
    c.loop-shard.pass.me.0.parts c.args.pass.me.0.parts (ap (λ m. m.0.parts) c.requires.parts) inv.2 (omega (arith, inv.3, c.loop-shard-test.true)) in
    let p = t.0 in
    let here : c.split_seat-own.new.seat.me.0 ≡ cut_left c.loop-shard.pass.me.0 = ap (λ z. z.0) c.split_seat-own.ensures.2 in
    let own : c.split_seat-own.result.me.0 ≡ knows c.args.shards (p ∷ []) = ap (λ z. z.0)
    (c.split_seat-own.ensures.4 ∙ ap (λ v. (cut_right v, [])) inv.5 ∙ ap (λ z. (knows c.args.shards z, [])) t.1) in
    let id : c.split_seat-own.result.table_id ≡ c.args.table.now.table_id = c.split_seat-own.ensures.3 ∙ inv.6 in
    let shard : c.loop-shard.shard ≡ p.shard = sym (ap (λ p. p.shard) t.3 ∙ inv.3) in (
      inv.0 ++ p ∷ [],
      c.in_ok-push.ensures.items ∙ (λ i. inv.1 i ++ (c.in_ok-seat.ensures ∙ (λ j. record { floor = id j; shard = shard j; knows = own j })) i ∷ [])
          ∙ sym (map_push (seat_of c.args.table.now.table_id c.args.shards) inv.0 p),
      ap (λ z. (inv.0 ++ p ∷ []) ++ z.parts) here ∙ t.2,
      length-append inv.0 (p ∷ []) ∙ ap (λ (z : ℕ). z + 1) inv.3,
      ap (λ z. z.1) c.split_seat-own.ensures.2 ∙ inv.4,
      here ∙ ap cut_left inv.5 ∙ ap (λ z. knows c.args.shards z.parts) (sym here),
      c.split_seat-own.ensures.0 ∙ inv.6,
    )

pub loop-shard-init : goal.loop-shard-init
loop-shard-init g c = let p = ap (λ m. m.0) c.requires.parts in
    ([], (search rules), refl, refl, ap (λ m. m.1) c.requires.parts, p ∙ ap (knows c.args.shards) (sym (ap (λ v. v.parts) p)), c.requires.table.0)

pub returns : goal.returns
returns g c = let inv = c.loop-shard.invariant in
    inv.1 ∙ ap (map (seat_of c.args.table.now.table_id c.args.shards)) (none_more inv.0 c.loop-shard.pass.me.0.parts _ (inv.2 ∙ ap (λ m. m.0.parts) c.requires.parts)
    (omega (arith, opened_long (g.A.PathAlgebra.meaning c.args.table.now.key.diffusion.algebra) c.args.table.now.key 0 c.args.shards, inv.3)))
