use Rattle.path_algebra.proofs.Words.{◌≡◌, ℕ, ◌<◌, ◌≤◌, length, get_or, None, better_label}
use Rattle.path_algebra.proofs.labels.Labels.merge.Given as goal

abbrev pub invariant-loop-i : goal.invariant-loop-i
invariant-loop-i g l = record {
  count : length l.self-inside.list.items ≡ length l.fn.self;
  done : (k : ℕ) → k < l.i →
      get_or l.self-inside.list.items k None
      ≡ better_label g.A.PathAlgebra.order (get_or l.fn.self k None) (get_or l.other k None);
  rest : (k : ℕ) → l.i ≤ k → get_or l.self-inside.list.items k None ≡ get_or l.fn.self k None;
}
