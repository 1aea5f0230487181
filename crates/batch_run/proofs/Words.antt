-- The words and lemmas that many proofs of this crate use.
pub use Rattle.answer_text.proofs.OneAnswer.{answers_count}
pub use Rattle.answer_text.specs.AnswerData.{AnswerData, AnswerList, SourceAnswer, SourcesAnswer}
pub use Rattle.answer_text.specs.AnswerText.{blocks_text, header_text}
unfoldable pub use Rattle.answer_text.specs.AnswerText.{answer_text}
pub use Rattle.answer_text.specs.IsAnswer.{AreAnswers, IsAnswer, IsAnswerList}
pub use Rattle.answer_text.specs.declared.answers.Reached.{Reached}
pub use Rattle.batch_inputs.specs.declared.faults.File.TheVariants.{NoFile}
pub use Rattle.batch_inputs.specs.declared.faults.RunFault.{RunFault}
pub use Rattle.batch_run.proofs.Moved.{moved_all, moved_on}
pub use Rattle.batch_run.specs.Answered.{AnsweredAll, AsksWithin, WroteAllOrFirst, WroteAnswers, WroteFirst, WroteNext, WroteWhole, begun_text}
pub use Rattle.batch_run.specs.Batches.{IsEndedIn, IsGatheredFromIn, IsOpenedIn, MayStopBatch, asked_in, kind_in, questions_in}
pub use Rattle.batch_run.specs.Causes.{MayStop, fault_of, number_of}
pub use Rattle.batch_run.specs.Cut.{IsCut, order_of}
pub use Rattle.batch_run.specs.Diffusions.{AreNext, IsLabelling, IsNextSource}
unfoldable pub use Rattle.batch_run.specs.Diffusions.{sources_to_come}
pub use Rattle.batch_run.specs.Factored.{IsPreparedBy, MayTell}
pub use Rattle.batch_run.specs.Reports.{Account, Preparation, Reported, ReportedFirst, ReportedPrefix, count_diffusions}
pub use Rattle.batch_run.specs.Solvers.{IsReady, IsSameSolver, graph_of, is_without_diffusions}
pub use Rattle.batch_run.specs.Stopping.{HasEnoughTurns, IsDiffusionOf, Stopped, Stops}
unfoldable pub use Rattle.batch_run.specs.WrittenLines.{written_lines}
pub use Rattle.batch_run.specs.declared.batch.BatchOver.{BatchOver}
pub use Rattle.batch_run.specs.declared.cause.Cause.{Cause}
pub use Rattle.batch_run.specs.declared.cause.Cause.TheVariants.{Unsolved, Write}
pub use Rattle.batch_run.specs.declared.solve.diffusion.EndedDiffusion.{EndedDiffusion}
pub use Rattle.batch_run.specs.declared.solve.diffusion.GatheredDiffusion.{GatheredDiffusion}
pub use Rattle.batch_run.specs.declared.watcher.Progress.{Progress}
pub use Rattle.batch_settings.specs.Choice.{without_diffusions}
pub use Rattle.batch_settings.specs.declared.settings.Settings.{Settings}
pub use Rattle.elimination_order.specs.declared.counts.Counts.{Counts}
pub use Rattle.path_algebra.specs.Algebra.{Algebra}
pub use Rattle.path_algebra.specs.Walks.{AreBest, IsBestLabel, label_of}
pub use Rattle.path_algebra.specs.declared.algebra.PathAlgebra.{Ghosts}
pub use Rattle.path_algebra.specs.declared.counted_sums.Cost.{Cost}
pub use Rattle.question_solvers.proofs.Searches.{gathered}
pub use Rattle.question_solvers.specs.Solved.{IsSolvedFor}
pub use Rattle.question_solvers.specs.declared.factor_solver.Factoring.{Factoring}
pub use Rattle.rayon.proofs.ListFacts.{AllZip-weaken}
pub use Rattle.road_files.proofs.QuestionLaws.{any_of, in_sources}
pub use Rattle.road_files.specs.Asked.{Asked, FromSource, FromSources, IsVertexOf, Question, asked_of, sources_of}
pub use Rattle.road_files.specs.declared.questions.Questions.{Questions}
pub use Rattle.road_graph.specs.GraphData.{GraphData, HasVertex, IsGraph}
pub use Rattle.route_tree.specs.Tree.{IsTree}
pub use Rattle.shard_store.specs.Plans.{PlanData}
pub use Rattle.shard_store.specs.Setup.{SetupData, setup_of}
pub use Rattle.shard_store.specs.declared.queue_order.QueueOrder.TheVariants.{Arrival, BestFirst}
pub use Rattle.station.specs.Opened.{AreOpened}
pub use Rattle.station.specs.Station.{StationData}
pub use Rattle.std.proofs.Common.{Bool, Err, List, None, Ok, Option, Result, Some, [], ap, append-nil, append_assoc, arith, cond, drop, false, get_or, inl, inr, length, map, min, refl, rules, subst, suc, sym, take, true, zero, ℕ, ◌*◌, ◌++◌, ◌+◌, ◌-◌, ◌<◌, ◌∙◌, ◌∷◌, ◌≡◌, ◌≢◌, ◌≤◌, ◌⊎◌}
pub use Rattle.std.proofs.Crossing.{crosses}
pub use Rattle.std.proofs.KnownBytes.{Appends-kept}
pub use Rattle.std.proofs.lemmas.Bool.{cases_lt, false≢true}
pub use Rattle.std.proofs.lemmas.List.{get_or-map, length-map, map-append, take_all, take_more}
pub use Rattle.std.proofs.lemmas.List.Concat.{flat_map-cons}
pub use Rattle.std.proofs.lemmas.List.Elements.{All-cons, All-head, All-nil, All-tail}
pub use Rattle.std.proofs.lemmas.Result.{IfErr-weaker, err_from_is_err_and}
pub use Rattle.std.specs.Io.KnownBytes.{Appends, Keeps}
pub use Rattle.std.specs.List.{All, AllZip, flat_map}
pub use Rattle.std.specs.Prelude.{IfErr, IfNone, IfOk, IfSome, IsSome}
pub use Rattle.std.specs.Vec.Iter.{into_iter_items}
pub use Rattle.text_lines.proofs.WriteLaws.{fell_first, fell_out, left_appends, wrote_then}
pub use Rattle.text_lines.specs.Streams.{Output}
pub use Rattle.text_lines.specs.Written.{WrotePrefix}
pub use Rattle.worker_fleet.specs.Stops.{Says}
pub use Rattle.worker_fleet.specs.declared.group.GroupFault.{GroupFault}
pub use Rattle.worker_fleet.specs.declared.group.GroupFault.TheVariants.{Memory, Stalled}
pub use denote.Param.{copied}
pub use denote.Param.Send.{sendable}
pub use denote.Ref.{NamedLft}
