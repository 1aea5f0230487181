use Rattle.path_factors.proofs.Words.{◌≡◌, ℕ, ◌<◌, ◌∙◌, [], ◌∷◌, ◌++◌, List, false, get_or, append-nil, append_assoc, ap, arith, sym, common_steps, is_on}
use Rattle.path_factors.proofs.Finding.{unknown_none, unknown_more}
use Rattle.path_factors.proofs.factors.Factors.list_unknown.Goals as goal

pub loop-v-init : goal.loop-v-init
loop-v-init g c = record {
  inside = omega (arith, c.requires.place);
  listed = ([], sym (append-nil c.args.asked.now.items), unknown_none c.args.self.now.heads c.args.self.now.roads.vertices c.args.known.now c.args.t);
}

pub loop-v-preserved : goal.loop-v-preserved
loop-v-preserved g c =
    let n = c.args.self.now.roads.vertices in
    let v = c.loop-v.v in
    let p = get_or c.parents-parents.result.now v 0 in
    let done = c.loop-v.invariant.listed in
    let low : v < n = omega (arith, c.loop-v-test.true, c.requires.count) in
    let off : is_on c.args.known.now v ≡ false = grind (arith, common_steps) in
    let put : c.push.new.self.items ≡ c.loop-v.asked.items ++ v ∷ [] = grind (arith, common_steps) in
    let more = put ∙ ap (λ (l : List ℕ). l ++ v ∷ []) done.1 ∙ append_assoc c.args.asked.now.items done.0 (v ∷ []) in
    record {
      inside = (c.parents-parents.ensures.above v low).1;
      listed = (done.0 ++ v ∷ [], more, unknown_more c.args.self.now.heads n c.args.known.now c.args.t done.0 v p done.2 low off (c.parents-parents.ensures.parents.parent v low));
    }
