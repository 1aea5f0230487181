-- What searches a graph by one algebra, kept from one question to the next.
use Rattle.std.specs.Prelude.{◌≡◌, ⊤, IfSome, IsSome}
use Rattle.road_graph.specs.GraphData.{GraphData}
use Rattle.path_algebra.specs.declared.choice.AlgebraChoice.{AlgebraChoice}
use Rattle.path_algebra.specs.declared.choice.AlgebraChoice.TheVariants as by
use Rattle.route_tree.specs.Searchers.{IsSearcherOf}
use Rattle.answer_lists.specs.declared.kept.Kept.{Kept}
use Rattle.answer_lists.specs.declared.kept.Kept.TheVariants.{Shortest, Widest, Reach, Hops, Reliable, Within}
use Rattle.answer_lists.specs.declared.kept.Searchers.{Searchers}
use Rattle.answer_lists.specs.declared.kept.Until.{Until}
use Rattle.answer_lists.specs.declared.kept.Until.TheVariants.{Far, Stopped}

-- those of them that are made search this graph, pairs by their algebra
pub record AreSearchersOf {S V : Type 0} (g : GraphData) (s : Searchers S V) : Type 0 where
  pub pairs : IfSome s.pairs (IsSearcherOf s.algebra g)
  pub trees : IfSome s.trees (λ t. t.roads ≡ g)

-- the algebra by which it searches
abbrev pub algebra_of : Kept → AlgebraChoice
algebra_of (Shortest s) = by.Shortest
algebra_of (Widest s) = by.Widest
algebra_of (Reach s) = by.Reach
algebra_of (Hops s) = by.Hops
algebra_of (Reliable s) = by.Reliable
algebra_of (Within s) = by.Within s.algebra

-- it searches this graph
abbrev pub IsKeptOver : GraphData → Kept → Type 0
IsKeptOver g (Shortest s) = AreSearchersOf g s
IsKeptOver g (Widest s) = AreSearchersOf g s
IsKeptOver g (Reach s) = AreSearchersOf g s
IsKeptOver g (Hops s) = AreSearchersOf g s
IsKeptOver g (Reliable s) = AreSearchersOf g s
IsKeptOver g (Within s) = AreSearchersOf g s

-- a search until then may give up
abbrev pub MayGiveUp : Until → Type 0
MayGiveUp Far = ⊤
MayGiveUp (Stopped stop) = IsSome stop.now
