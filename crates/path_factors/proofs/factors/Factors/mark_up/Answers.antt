use Rattle.path_factors.proofs.Words.{◌<◌, ◌∙◌, get_or, arith, true}
use Rattle.std.proofs.lemmas.List.{length-set}
use Rattle.path_factors.proofs.FewWeights.{marked_none, marked_on, marked_place, marked_upward}
use Rattle.path_factors.proofs.factors.Factors.mark_up.Goals as goal

pub loop-v-init : goal.loop-v-init
loop-v-init g c = record {
  count = c.requires.count;
  inside = omega (arith, c.requires.place);
  marked = marked_none c.args.self.now.roads.vertices c.args.self.now.heads c.holds.ensures.outline.are c.args.marks.now c.args.place c.requires.upward;
}

pub loop-v-preserved : goal.loop-v-preserved
loop-v-preserved g c =
    let v = c.loop-v.v in
    let n = c.args.self.now.roads.vertices in
    let count = c.loop-v.invariant.count in
    let low : v < n = omega (arith, c.loop-v-test.true, count) in
    record {
      count = length-set c.loop-v.marks v true ∙ count;
      inside = (c.parents-parents.ensures.above v low).1;
      marked = marked_on n c.args.self.now.heads c.holds.ensures.outline.are c.args.marks.now c.args.place c.loop-v.marks v (get_or c.parents-parents.result.now v 0)
          c.loop-v-test.true (c.parents-parents.ensures.parents.parent v low) c.loop-v.invariant.marked;
    }

pub returns-clause-upward : goal.returns-clause-upward
returns-clause-upward g c =
    marked_upward c.args.self.now.roads.vertices c.args.self.now.heads c.holds.ensures.outline.are c.args.marks.now c.args.place c.loop-v.marks c.loop-v.v
    (omega (arith, c.loop-v-test.false, c.loop-v.invariant.count)) c.loop-v.invariant.marked

pub returns-clause-on : goal.returns-clause-on
returns-clause-on g c =
    marked_place c.args.self.now.roads.vertices c.args.self.now.heads c.holds.ensures.outline.are c.args.marks.now c.args.place c.loop-v.marks c.loop-v.v
    (omega (arith, c.loop-v-test.false, c.loop-v.invariant.count)) c.requires.place c.loop-v.invariant.marked
