-- The words and lemmas that many proofs of this crate use.
pub use Rattle.answer_lists.specs.Answers.{IsOneOf, ReportsListRefusals, ReportsRefusals}
pub use Rattle.answer_lists.specs.Reweighing.{IsRefusal}
pub use Rattle.answer_lists.specs.Sharing.{Shared}
pub use Rattle.arc_numbers.specs.Numbering.{Numbering}
pub use Rattle.diffuse_c.specs.Holding.{has_graph, held_at, owner_row}
pub use Rattle.diffuse_c.specs.Leaving.{AreArcsFrom, arc_out_of}
pub use Rattle.diffuse_c.specs.Lent.{Fits, arc_from, lent}
pub use Rattle.diffuse_c.specs.Reweighing.{IsReweighFault}
pub use Rattle.diffuse_c.specs.declared.arcs.DiffuseArc.{DiffuseArc}
pub use Rattle.diffuse_c.specs.declared.owners.Owner.{Owner}
pub use Rattle.halting.specs.declared.stop.Stop.{Stop}
pub use Rattle.road_graph.specs.GraphData.{GraphData, HasVertex, IsGraph}
pub use Rattle.road_graph.specs.declared.RoadArc.{RoadArc}
pub use Rattle.std.proofs.BoxSteps.Steps.{box_in, box_out}
pub use Rattle.std.proofs.Common.{List, None, Option, Some, [], ap, arith, get_or, inl, inr, refl, rules, subst, sym, take, ℕ, ◌++◌, ◌∙◌, ◌∷◌, ◌≡◌}
pub use Rattle.std.proofs.alloc.Calls.{Goes-blank, handle_tells}
pub use Rattle.std.proofs.cell.Inside.{Good}
pub use Rattle.std.proofs.raw_atomic.Walks.{leaves, proved_at}
pub use Rattle.std.specs.Box.Ownership.{box_owns}
pub use Rattle.std.specs.List.{All}
pub use Rattle.std.specs.Prelude.{map, pos, ℤ}
pub use Rattle.std.specs.contracts.impls.GlobalAllocator.TheImpl.{ghosts}
pub use base.Fml.{flft, ftrue}
pub use base.Logic.{SProp, emp, ent, fst∗, id⊢, never}
pub use contract.Monad.{fact, fact_i}
pub use contract.Running.{tables}
pub use denote.Builtin.{RawPtr}
pub use denote.Exit.{no}
pub use denote.Memory.{lone}
pub use denote.Param.{bounded, layout, param}
pub use denote.Param.Laws.{param_laws}
pub use denote.RattleType.{RattleType, owns}
pub use denote.RawPtr.{Ptr, block_ptr, in_a_block, null_ptr, ptr_val}
pub use denote.Signature.{plain, types_at}
pub use denote.Steps.{heard, nothing, only}
pub use denote.Triple.Spec.{triple_of}
pub use denote.Triple.Walked.{Stays, stay_dropped, walk_of}
pub use mir.MapTy.{inst_fn}
pub use mir.Raw.{raw as bare}
pub use mir.Syntax.{a_type, dcons, dnil}
pub use mir.Val.{Val, of_list, vptr, vstruct}
pub use prog.Wp.{WpFn}
pub use types.ByLocal.{alloc_all, free_all, get, get_in, look_at, pass_all, sets}
pub use types.Kit.{ !, await, by, drop, feq_l, fjoin, fpick, fsplit, join, keep, later, move, pick, qed, raw, rewrite, some, split, split3, suffices, use0, use1, ‵, ◌$◌, ◌∵◌, ◌⊛◌}
pub use types.Logic.{sem}
pub use types.Part.{agg, sub, whole}
pub use types.Run.{and_then, enter, fld, no_more, of_opd, returns, stop}
