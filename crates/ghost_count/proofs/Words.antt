-- The words and lemmas that many proofs of this crate use.
pub use Rattle.std.proofs.Common.{List, [], refl, ◌∷◌}
pub use base.Logic.{SProp, ent}
pub use contract.Monad.{Fun}
pub use contract.Running.{tables}
unfoldable pub use contract.Running.{tables_of}
pub use denote.RattleType.{owns}
pub use denote.Signature.{types_at}
pub use denote.Steps.{nothing}
pub use denote.Triple.Clauses.{Clauses, Ended, closing}
pub use denote.Triple.Entry.{alive}
pub use denote.Triple.Spec.{Meets, triple_of}
pub use denote.Triple.Table.{entered}
pub use denote.Triple.Walked.{Stays, ends_at, says, walk_Meets, walk_of}
pub use mir.Syntax.{Fn}
pub use mir.Val.{Val}
pub use prog.Memory.{Memory}
pub use prog.Routine.{Routine}
pub use prog.Wp.{Calls, Loops, Tables, WpFn}
pub use seplogic.Ra.Ura.{Ura}
pub use sound.WpLaws.{WpFn-mono}
pub use types.ByLocal.{alloc_all, free_all, look_at, pass_all, sets}
pub use types.Kit.{ !, done, drop, fjoin, keep, move, qed, raw, split, suffices, ‵, ◌$◌, ◌∵◌, ◌⊛◌}
pub use types.Logic.{Logic}
pub use types.Part.{agg}
pub use types.Run.{enter, no_more, returns}
