use Rattle.shard_store.proofs.Words.{◌≡◌, ◌+◌, length, get_or, set, length-set, arith, ap, ◌∙◌, sym, refl, VertexLists, network_of, arcs_out}
use Rattle.shard_store.proofs.ShardLayouts.{starts_few, own_within, starts_next, starts_more, some_arc}
use Rattle.shard_store.proofs.layout.ShardLayout.write_starts.Goals as goal

pub loop-j-init : goal.loop-j-init
unfolding arcs_out
loop-j-init g c = record { rest = refl; long = c.requires.long; count = refl; starts = λ j l. absurd (omega (arith, l)) }

pub overflow_cast-count : goal.overflow_cast-count
overflow_cast-count g c = let f = starts_few c.args.self.now c.args.own.now c.loop-j.j c.holds.ensures c.requires.own in let i = c.loop-j.invariant.count in omega (arith, f, i)

pub count_out-count-requires : goal.count_out-count-requires
count_out-count-requires g c = let t = c.loop-j-test.true in let n = c.len-j-end.ensures in
    own_within c.args.self.now c.vertex.result c.loop-j.j c.args.own.now c.requires.own (omega (arith, t, n)) c.vertex.ensures

pub overflow_add-count : goal.overflow_add-count
overflow_add-count g c = let t = c.loop-j-test.true in let m = c.len-j-end.ensures in
    let f = starts_few c.args.self.now c.args.own.now (c.loop-j.j + 1) c.holds.ensures c.requires.own in
    let n = starts_next (network_of c.args.self.now.setup) c.args.own.now c.vertex.result c.loop-j.j c.loop-j.count c.count_out-count.result
    (omega (arith, t, m)) c.vertex.ensures c.loop-j.invariant.count c.count_out-count.ensures in omega (arith, f, n)

pub loop-j-preserved : goal.loop-j-preserved
loop-j-preserved g c = let t = c.loop-j-test.true in let m = c.len-j-end.ensures in let l = c.loop-j.invariant.long in
    let new : c.set_offset.new.self ≡ record c.loop-j.vertices { offsets = set c.loop-j.vertices.offsets c.loop-j.j c.loop-j.count } = c.set_offset.ensures in
    record {
      rest = new ∙ (λ i. record (c.loop-j.invariant.rest i) { offsets = set c.loop-j.vertices.offsets c.loop-j.j c.loop-j.count })
          ∙ (λ i. record c.args.vertices.now { offsets = (sym (ap (λ (v : VertexLists g.row.V.Denot). v.offsets) new)) i });
      long = ap (λ (v : VertexLists g.row.V.Denot). length v.offsets) new ∙ length-set c.loop-j.vertices.offsets c.loop-j.j c.loop-j.count ∙ l;
      count = starts_next (network_of c.args.self.now.setup) c.args.own.now c.vertex.result c.loop-j.j c.loop-j.count c.count_out-count.result
          (omega (arith, t, m)) c.vertex.ensures c.loop-j.invariant.count c.count_out-count.ensures;
      starts = λ j k. ap (λ (v : VertexLists g.row.V.Denot). get_or v.offsets j 0) new
          ∙ starts_more (network_of c.args.self.now.setup) c.args.own.now c.loop-j.vertices.offsets c.loop-j.count c.loop-j.j
          (omega (arith, t, m, l)) c.loop-j.invariant.count c.loop-j.invariant.starts j k;
    }

pub returns-clause-some : goal.returns-clause-some
returns-clause-some g c = let t = c.loop-j-test.false in let n = c.len-j-end.ensures in
    some_arc c.args.self.now c.args.own.now c.loop-j.count c.loop-j.j c.holds.ensures c.requires.own (omega (arith, t, n)) c.loop-j.invariant.count
