-- The words and lemmas that many proofs of this crate use.
pub use Rattle.path_algebra.proofs.Least.{other_no_worse, same_no_worse}
pub use Rattle.path_algebra.proofs.Walks.{all_inside}
pub use Rattle.path_algebra.specs.Algebra.{Algebra, IsLawful, IsOrder}
pub use Rattle.path_algebra.specs.Composition.{Composition, IsComposition, applied}
pub use Rattle.path_algebra.specs.Walks.{IsBestLabel, IsWalkValue, better_label, label_of}
pub use Rattle.path_factors.proofs.HeadRows.{first_is_least, head_at, heads_packed, row_heads_count}
pub use Rattle.path_factors.specs.Asking.{Agree, AreAllUnknownUp, AreFound, AreOnlyUp, AreUnknownUp, IsAboveSource, IsAsking, IsBackRun, IsKnownUpward, is_on, sources_of}
pub use Rattle.path_factors.specs.Chains.{AreBelow, AreChains, ChainData, HasFrom, HasValue, IsMore, item_of}
pub use Rattle.path_factors.specs.Edges.{AreAligned, AreBlank, AreBlanked, AreEdgesImproved, AreJoined, IsBlankedTo, IsEdgeAt, IsReplaced, LinkRows, better_walk, falling, rising}
pub use Rattle.path_factors.specs.Eliminating.{AreClosedTo, AreImproved, CoversArcsFrom, CoversArcsOn, Improves, IsBegun, IsClosedOn, IsImproved, IsLesser, IsLesserOn, IsLinkUnder, IsOpen, IsUnder, IsWhole, IsWholeBut, IsWorthUnder, KeepsRest, LeadsOn}
pub use Rattle.path_factors.specs.Factors.{AreLinks, ArePlaces, AreStable, CoversArcs, FactorData, Falls, IsClosedAt, IsFactor, IsWorthOfWalk, Leads, LeadsNoWorse, Rises, place_of, row_of, vertex_at}
pub use Rattle.path_factors.specs.Heads.{AreAhead, AreArcsJoined, AreHeads, IsHead, IsJoined, IsOutline, heads_in}
pub use Rattle.path_factors.specs.Packing.{ArePacked, ArePackedBothWays, links_of, packed_rows, rows_between}
pub use Rattle.path_factors.specs.Pruning.{AreThinTo, DoForAll, IsBypassed, marked}
pub use Rattle.path_factors.specs.State.{FactorState, IsSameState}
pub use Rattle.path_factors.specs.Substituting.{AreOrigins, HasNoWorse, IsBackward, IsBackwardFrom, IsBestDown, IsForward, IsForwardTo, at, best_along, offered_along, offered_from}
pub use Rattle.path_factors.specs.Tree.{AreAtHeads, AreParentsTo, IsAncestor, IsFactored, IsTreeParent, IsUp}
pub use Rattle.path_factors.specs.declared.chains.Item.{Item}
pub use Rattle.path_factors.specs.declared.edge.Edge.{Edge}
pub use Rattle.path_factors.specs.declared.link.Link.{Link}
pub use Rattle.halting.specs.Halting.{CanHalt}
pub use Rattle.road_graph.proofs.Lists.{head_or_tail, here, later, not_in_empty}
pub use Rattle.road_graph.specs.GraphData.{GraphData, HasArc, HasVertex, IsGraph, ListsRoadsFrom, arc_of, road_of}
pub use Rattle.road_graph.specs.declared.OutRoad.{OutRoad}
pub use Rattle.std.proofs.Common.{Bool, List, None, Option, Some, [], ap, append-nil, append_assoc, arith, drop, false, get_or, get_or-set_other, get_or-set_same, inl, inr, length, length-set, map, refl, replicate, set, subst, suc, sym, take, true, zero, ℕ, ◌++◌, ◌+◌, ◌-◌, ◌<◌, ◌∙◌, ◌∷◌, ◌≡◌, ◌≤◌, ◌⊎◌}
pub use Rattle.std.proofs.lemmas.Bool.{cases_Bool, cases_eq, cases_lt}
pub use Rattle.std.proofs.lemmas.Grind.{common_steps}
pub use Rattle.std.proofs.lemmas.List.{get_or-map, get_or_append_left, get_or_default, get_or_past, get_or_push, length-append, length-map, length-replicate, take_all, take_more}
pub use Rattle.std.proofs.lemmas.List.Elements.{All-cons, All-contains, All-get_or, All-nil, All-push, All-weaker, Contains-append_left, Contains-get_or, Contains-push}
pub use Rattle.std.specs.Arc.{arc_value}
pub use Rattle.std.specs.List.Sorted.{IsStrictlyIncreasing}
pub use Rattle.std.specs.Prelude.{All, Contains, IsSome, IsTrue}
