use Rattle.path_factors.proofs.Words.{◌≡◌, ◌<◌, ◌∙◌, ◌++◌, ◌∷◌, [], List, ℕ, true, false, length, get_or, take, append-nil, append_assoc, ap, arith, sym, common_steps, length-append, take_all, Link, is_on, row_of, links_of, marked, head_at, row_heads_count}
use Rattle.path_factors.proofs.Packing.{links_count, links-push, packed_as, packed_links, pushed}
use Rattle.path_factors.proofs.Pruning.{marked_more, marked_same}
use Rattle.path_factors.proofs.packed.PackedRows.push_marked.Goals as goal
use Rattle.path_factors.proofs.packed.PackedRows.push_marked.Goals.{then-is_marked+in_ok-put, else-is_marked}

pub loop-j-init : goal.loop-j-init
loop-j-init g c = record {
  fields = c.self.invariant.fields;
  rise = sym (append-nil (links_of c.self.inside.places.items c.self.inside.leaving.items));
  fall = sym (append-nil (links_of c.self.inside.places.items c.self.inside.entering.items));
}

pub faller-faller-requires-clause-link : goal.faller-faller-requires-clause-link
faller-faller-requires-clause-link g c =
    let same = ap (λ (h : List (List ℕ)). length (row_of h c.args.v)) c.len.ensures.heads in
    omega (arith, row_heads_count c.args.whole.now.leaving c.args.v, row_heads_count c.args.whole.now.entering c.args.v, same, c.requires.marks, c.loop-j-test.true)

pub loop-j-preserved : goal.loop-j-preserved
loop-j-preserved g c =
    let s = c.self.inside in
    let v = c.args.v in
    let j = c.loop-j.j in
    let marks = c.args.marks.now in
    let up = row_of c.args.whole.now.leaving v in
    let down = row_of c.args.whole.now.entering v in
    let l = c.riser-riser.result in
    let m = c.faller-faller.result in
    let old = c.loop-j in
    let now = c.if-is_marked in
    let inv = c.loop-j.invariant in
    let lt : j < length up = omega (arith, c.requires.marks, c.loop-j-test.true) in
    let same = ap (λ (h : List (List ℕ)). length (row_of h v)) c.len.ensures.heads in
    let also : j < length down = omega (arith, lt, row_heads_count c.args.whole.now.leaving v, row_heads_count c.args.whole.now.entering v, same) in
    elim c.if-is_marked.branch [
      | then-is_marked+in_ok-put w ↦
          let places : now.places.items ≡ old.places.items ++ l.place ∷ [] = grind (arith, common_steps) in
          let leaving : now.leaving.items ≡ old.leaving.items ++ l.walk ∷ [] = grind (arith, common_steps) in
          let entering : now.entering.items ≡ old.entering.items ++ m.walk ∷ [] = grind (arith, common_steps) in
          let on : is_on marks j ≡ true = w.if-is_marked.true in
          let place : l.place ≡ m.place =
          sym (head_at c.args.whole.now.leaving v j l lt (sym c.riser-riser.ensures)) ∙ ap (λ (h : List (List ℕ)). get_or (row_of h v) j 0) (sym c.len.ensures.heads)
          ∙ head_at c.args.whole.now.entering v j m also (sym c.faller-faller.ensures) in
          let link : record { place = l.place; walk = m.walk } ≡ m = λ i. record { place = place i; walk = m.walk } in
          let p = ap length places ∙ length-append old.places.items (l.place ∷ []) in
          let a = ap length leaving ∙ length-append old.leaving.items (l.walk ∷ []) in
          let b = ap length entering ∙ length-append old.entering.items (m.walk ∷ []) in
          let f = inv.fields.leaving_count in
          let h = inv.fields.entering_count in
          record {
            fields = record { leaving_count = omega (arith, p, a, f); entering_count = omega (arith, p, b, h) };
            rise = rw (places, leaving) (links-push old.places.items old.leaving.items l.place l.walk f
                ∙ ap (λ (r : List (Link g.row.W.Denot)). r ++ l ∷ []) inv.rise
                ∙ append_assoc (links_of s.places.items s.leaving.items) (marked (take j up) marks) (l ∷ [])
                ∙ ap (λ (r : List (Link g.row.W.Denot)). links_of s.places.items s.leaving.items ++ r) (sym (marked_more up marks j l lt (sym c.riser-riser.ensures) on)));
            fall = rw (places, entering) (links-push old.places.items old.entering.items l.place m.walk h
                ∙ ap (λ (q : Link g.row.W.Denot). links_of old.places.items old.entering.items ++ q ∷ []) link
                ∙ ap (λ (r : List (Link g.row.W.Denot)). r ++ m ∷ []) inv.fall
                ∙ append_assoc (links_of s.places.items s.entering.items) (marked (take j down) marks) (m ∷ [])
                ∙ ap (λ (r : List (Link g.row.W.Denot)). links_of s.places.items s.entering.items ++ r) (sym (marked_more down marks j m also (sym c.faller-faller.ensures) on)));
          }
      | else-is_marked w ↦
          let places : now.places.items ≡ old.places.items = grind (arith, common_steps) in
          let leaving : now.leaving.items ≡ old.leaving.items = grind (arith, common_steps) in
          let entering : now.entering.items ≡ old.entering.items = grind (arith, common_steps) in
          let off : is_on marks j ≡ false = w.if-is_marked.false in
          rw (places, leaving, entering) (record {
            fields = inv.fields;
            rise = inv.rise ∙ ap (λ (r : List (Link g.row.W.Denot)). links_of s.places.items s.leaving.items ++ r) (sym (marked_same up marks j off));
            fall = inv.fall ∙ ap (λ (r : List (Link g.row.W.Denot)). links_of s.places.items s.entering.items ++ r) (sym (marked_same down marks j off));
          })
    ]

pub invariant_of-result : goal.invariant_of-result
invariant_of-result g c =
    let s = c.self.inside in
    let places = c.loop-j.places.items in
    let row = marked (take c.loop-j.j (row_of c.args.whole.now.leaving c.args.v)) c.args.marks.now in
    let n = links_count places c.loop-j.leaving.items c.loop-j.invariant.fields.leaving_count in
    let whole : c.in-Ok.end ≡ length places = grind (arith, common_steps) in
    let ends : c.push.new.self.items ≡ s.starts.items ++ c.in-Ok.end ∷ [] = grind (arith, common_steps) in
    record {
      fields = c.loop-j.invariant.fields;
      packed = rw ends (packed_as _ _ places (sym n) (pushed s.starts.items (links_of s.places.items s.leaving.items) row (links_of places c.loop-j.leaving.items) c.in-Ok.end
          (packed_links s.starts.items s.places.items s.leaving.items c.self.invariant.fields.leaving_count c.self.invariant.packed) c.loop-j.invariant.rise (whole ∙ sym n)).0);
    }

pub returns-clause-leaving : goal.returns-clause-leaving
returns-clause-leaving g c =
    let s = c.self.inside in
    let places = c.loop-j.places.items in
    let up = row_of c.args.whole.now.leaving c.args.v in
    let n = links_count places c.loop-j.leaving.items c.loop-j.invariant.fields.leaving_count in
    let whole : c.in-Ok.end ≡ length places = grind (arith, common_steps) in
    let ends : c.push.new.self.items ≡ s.starts.items ++ c.in-Ok.end ∷ [] = grind (arith, common_steps) in
    let all : take c.loop-j.j up ≡ up = take_all c.loop-j.j up (omega (arith, c.requires.marks, c.loop-j-test.false)) in
    rw ends ((pushed s.starts.items (links_of s.places.items s.leaving.items) (marked (take c.loop-j.j up) c.args.marks.now) (links_of places c.loop-j.leaving.items) c.in-Ok.end
    (packed_links s.starts.items s.places.items s.leaving.items c.self.invariant.fields.leaving_count c.self.invariant.packed) c.loop-j.invariant.rise (whole ∙ sym n)).1
    ∙ (λ i. (c.self.view_is i).leaving ++ marked (all i) c.args.marks.now ∷ []))

pub returns-clause-entering : goal.returns-clause-entering
returns-clause-entering g c =
    let s = c.self.inside in
    let places = c.loop-j.places.items in
    let down = row_of c.args.whole.now.entering c.args.v in
    let whole : c.in-Ok.end ≡ length places = grind (arith, common_steps) in
    let ends : c.push.new.self.items ≡ s.starts.items ++ c.in-Ok.end ∷ [] = grind (arith, common_steps) in
    let up_count = row_heads_count c.args.whole.now.leaving c.args.v in
    let down_count = row_heads_count c.args.whole.now.entering c.args.v in
    let same = ap (λ (h : List (List ℕ)). length (row_of h c.args.v)) c.len.ensures.heads in
    let all : take c.loop-j.j down ≡ down = take_all c.loop-j.j down (omega (arith, c.requires.marks, c.loop-j-test.false, up_count, down_count, same)) in
    rw ends ((pushed s.starts.items (links_of s.places.items s.entering.items) (marked (take c.loop-j.j down) c.args.marks.now) (links_of places c.loop-j.entering.items) c.in-Ok.end
    (packed_links s.starts.items s.places.items s.entering.items c.self.invariant.fields.entering_count c.self.invariant.packed)
    c.loop-j.invariant.fall (whole ∙ sym (links_count places c.loop-j.entering.items c.loop-j.invariant.fields.entering_count))).1
    ∙ (λ i. (c.self.view_is i).entering ++ marked (all i) c.args.marks.now ∷ []))
