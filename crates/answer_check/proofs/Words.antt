-- The words and lemmas that many proofs of this crate use.
pub use Rattle.answer_check.specs.Certificates.{IsCertifiedAt, IsRightLine, IsSupported}
pub use Rattle.answer_check.specs.Chunks.{chunk_start}
pub use Rattle.answer_check.specs.Evidence.{all_evidence, candidate, decoded, either, evidence_of, is_there}
pub use Rattle.answer_check.specs.Marked.{IsMarkedRight, TellsRefused}
pub use Rattle.answer_check.specs.Pairs.{TellsSuspect, TellsSuspectIn}
pub use Rattle.answer_check.specs.Places.{IsFirstNumber, IsJudgedAt}
pub use Rattle.answer_check.specs.Reasons.{Gives, IsCodeOf, IsFirstReason, IsLineRefused, IsRefuted, Offers, reason_number}
pub use Rattle.answer_check.specs.Verdicts.{HasHeader, IsEarlier}
pub use Rattle.answer_check.specs.declared.evidence.Evidence.{Evidence}
pub use Rattle.answer_check.specs.declared.place.Place.{Place}
pub use Rattle.answer_check.specs.declared.verdict.Reason.{Reason}
pub use Rattle.answer_check.specs.declared.verdict.Reason.TheVariants.{HasWalk, LesserParent, Mismatch, NoParent, NotBest, OtherHops, OtherRoute}
pub use Rattle.answer_check.specs.declared.verdict.Verdict.TheVariants.{Invalid}
pub use Rattle.answer_text.specs.AnswerData.{AnswerList, answer_list}
pub use Rattle.answer_text.specs.IsAnswer.{AreVertexLines}
pub use Rattle.answer_text.specs.declared.answers.Reached.{Reached}
pub use Rattle.path_algebra.proofs.Least.{same_no_worse}
pub use Rattle.path_algebra.proofs.Walks.{all_inside}
pub use Rattle.path_algebra.specs.Algebra.{Algebra, IsLawful}
pub use Rattle.path_algebra.specs.Walks.{AreHops, IsUnreached, is_marked, label_of}
pub use Rattle.rayon.proofs.ListFacts.{IfOk-then}
pub use Rattle.rayon.proofs.ToStd.{nat_range-All}
pub use Rattle.rayon.specs.Lists.{first_true}
pub use Rattle.rayon.specs.Numbers.{nat_range}
pub use Rattle.road_files.specs.Asked.{Asked, BetweenPair, FromSource, FromSources, asked_of, of_list, of_pair, of_source}
pub use Rattle.road_graph.proofs.Lists.{same_some}
pub use Rattle.road_graph.specs.GraphData.{GraphData, HasArc, HasVertex, IsGraph, ListsRoadsInto, arc_of, reversed_arc, road_of}
pub use Rattle.road_graph.specs.declared.OutRoad.{OutRoad}
pub use Rattle.std.proofs.Common.{All, Bool, Contains, IsTrue, List, None, Option, Some, [], ap, arith, false, get_or, inl, inr, length, map, nat_lt, refl, rules, subst, suc, sym, take, true, zero, ℕ, ◌++◌, ◌+◌, ◌-◌, ◌<◌, ◌^◌, ◌||◌, ◌↔◌, ◌∙◌, ◌∷◌, ◌≡◌, ◌≤◌, ◌⊎◌}
pub use Rattle.std.proofs.Crossing.{crosses}
pub use Rattle.std.proofs.lemmas.Grind.{common_steps}
pub use Rattle.std.proofs.lemmas.List.{length-map}
pub use Rattle.std.specs.List.{list_any}
pub use denote.Param.Send.{IsSync, sendable}
pub use denote.Ref.{NamedLft}
