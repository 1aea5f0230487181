use Rattle.std.proofs.Common.{◌≡◌, ◌+◌, ◌++◌, length, map, take}
use Rattle.batch_run.proofs.solve.group.pair_all.Given as goal

abbrev pub invariant-loop-source : goal.invariant-loop-source
invariant-loop-source g l = record {
  more_floors : length l.floors.items + l.source-index ≡ length l.sources;
  more_lists : length l.lists.items + l.source-index ≡ length l.sources;
  sources : map (λ e. e.source) l.ended.items ≡ take l.source-index l.sources;
  floors : map (λ e. e.floor) l.ended.items ++ l.floors.items ≡ l.fn.floors.items;
  stations : map (λ e. e.stations) l.ended.items ++ l.lists.items ≡ l.fn.lists.items;
}
