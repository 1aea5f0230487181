use Rattle.post_floor.proofs.Words.{◌≡◌, ◌<◌, ℕ, List, length, map, ap, sym, ◌∙◌, subst, arith, Buffer, total, is, Slot, cycled, before, first_is, AreOpen}
use Rattle.post_floor.proofs.Turning.{cycled_total, cycled_length, cycled_before, turned_keys, turned_open, first_here}
use Rattle.post_floor.proofs.claims.rotate_to.Goals as goal

pub loop-claims-smaller : goal.loop-claims-smaller
loop-claims-smaller g c = let t : c.rotate.new.claims.items ≡ cycled c.loop-claims.claims.items = ap (λ (b : Buffer ℕ). b.items) c.rotate.ensures in let inv = c.loop-claims.invariant in
    subst (λ (z : List ℕ). before c.args.word z < before c.args.word c.loop-claims.claims.items) (sym t)
    (cycled_before c.args.word c.loop-claims.claims.items inv.claim (sym c.is_first.ensures ∙ c.loop-claims-test.true))

pub loop-claims-preserved : goal.loop-claims-preserved
loop-claims-preserved g c =
    let t : c.rotate.new.claims.items ≡ cycled c.loop-claims.claims.items = ap (λ (b : Buffer ℕ). b.items) c.rotate.ensures in
    let r : c.rotate.new.claims.capacity ≡ c.loop-claims.claims.capacity = ap (λ (b : Buffer ℕ). b.capacity) c.rotate.ensures in
    let inv = c.loop-claims.invariant in let m = c.turn.ensures in
    let long : length c.rotate.new.claims.items ≡ length c.loop-claims.claims.items = ap length t ∙ cycled_length c.loop-claims.claims.items in record {
      keys = ap (λ z. map (λ x. x.0) z.1) m.2 ∙ turned_keys c.loop-claims.pass.me.1 ∙ ap cycled inv.keys ∙ sym t;
      count = long ∙ inv.count;
      capacity = r ∙ inv.capacity;
      room = (omega (arith, inv.room, r, long));
      table = m.0 ∙ inv.table;
      id = m.1 ∙ inv.id;
      view = ap (λ z. z.0) m.2 ∙ inv.view;
      claim = subst (λ (z : ℕ). 0 < z) (sym (cycled_total (is c.args.word) c.loop-claims.claims.items) ∙ ap (total (is c.args.word)) (sym t)) inv.claim;
      open_still = λ u s v o. subst (λ (l : List ℕ). AreOpen u s v c.turn.new.self.me.1 l) (sym t)
          (subst (λ (l : List (ℕ × Slot g.row.A-Value.Denot)). AreOpen u s v l (cycled c.loop-claims.claims.items)) (sym (ap (λ z. z.1) m.2))
          (turned_open u s v c.loop-claims.pass.me.1 c.loop-claims.claims.items (inv.open_still u s v o)));
    }

pub returns-clause-first : goal.returns-clause-first
returns-clause-first g c = let inv = c.loop-claims.invariant in first_here c.args.word c.loop-claims.pass.me.1 (ap (first_is c.args.word) inv.keys ∙ sym c.is_first.ensures ∙ c.loop-claims-test.false)
