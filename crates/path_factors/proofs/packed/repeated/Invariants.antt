use Rattle.path_factors.proofs.Words.{◌≡◌, length, All}
use Rattle.path_factors.proofs.packed.repeated.Given as goal

abbrev pub invariant-loop : goal.invariant-loop
invariant-loop g l = record {
  count : length l.walks.items ≡ l.counter;
  all : All (λ a. a ≡ l.walk) l.walks.items;
}
