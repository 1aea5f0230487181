-- The words and lemmas that many proofs of this crate use.
pub use Rattle.path_algebra.proofs.Least.{same_no_worse}
pub use Rattle.path_algebra.specs.Algebra.{Algebra, IsLawful}
pub use Rattle.path_algebra.specs.SimpleWalks.{HasSimpleWalks}
pub use Rattle.path_algebra.specs.Walks.{Extends, IsWalk, IsWalkValue}
pub use Rattle.road_graph.proofs.Lists.{head_or_tail, here, here_as, later, not_in_empty, only_element}
pub use Rattle.road_graph.specs.GraphData.{GraphData, HasVertex, IsGraph, arc_of}
pub use Rattle.scholten_core.proofs.Basics.{due_tells, idle-false, idle-true, not_due, one_if-most, out_idle-at, put-at, put-other, put-same, put_set, put_tells, same_self, sent_held, sent_message, sum_add, sum_at, sum_first, sum_most, sum_same, sum_zero}
pub use Rattle.scholten_core.proofs.Networks.{head-arc, real_arc, tail-arc, tail-entry, weight-arc, well_formed}
pub use Rattle.scholten_core.proofs.Walks.{AtMost, IsValueAt, Walk, along, walk_value_is_value}
pub use Rattle.scholten_core.specs.Accounts.{accepted_total, count_sent, delivered_total, is_acceptance, is_delivery, label_changes, sent_on, sent_total, totals_of}
pub use Rattle.scholten_core.specs.CoreView.{AreDeficits, AreTablesSized, CoreView, IsRun, network_of, state_of}
pub use Rattle.scholten_core.specs.Deficit.{deficit}
pub use Rattle.scholten_core.specs.Diffusion.{CoreState, HasEnded, IsQuiet, accepted, all_below, answer_to, arrive, better_of, count_enabled, delivered, engaged_by, extend_label, freed, improves, is_enabled, is_idle, is_message, is_signal, opening, pump, pump_one, released, rest, run_from, same_label, sent, settle, settle_tail, state_after, step}
unfoldable pub use Rattle.scholten_core.specs.Diffusion.{is_due, out_idle, put}
pub use Rattle.scholten_core.specs.DiffusionData.{IsDiffusion, network_in}
pub use Rattle.scholten_core.specs.IdleIsTold.{IdleIsTold}
pub use Rattle.scholten_core.specs.Items.{IsDistinct, item_of, pump_made}
pub use Rattle.scholten_core.specs.Network.{Network, WellFormed, network}
unfoldable pub use Rattle.scholten_core.specs.Network.{head_of}
pub use Rattle.scholten_core.specs.Progress.{CanGoOn}
pub use Rattle.scholten_core.specs.Reached.{LabelsAreBest}
pub use Rattle.scholten_core.specs.Rooted.{IsEngagementOrder, IsRooted}
pub use Rattle.scholten_core.specs.Shares.{Agree}
pub use Rattle.scholten_core.specs.SimpleWalks.{message_bound}
pub use Rattle.scholten_core.specs.Sums.{one_if, sum_below}
pub use Rattle.scholten_core.specs.declared.event.Event.{Event}
pub use Rattle.scholten_core.specs.declared.event.Event.TheVariants.{Accept, Deliver}
pub use Rattle.scholten_core.specs.declared.token.Token.{Token}
pub use Rattle.scholten_core.specs.declared.token.Token.TheVariants.{Held, Idle, Message, Signal}
pub use Rattle.std.proofs.Common.{Bool, Contains, List, None, Option, Some, [], ap, arith, cond, eq-eqb, eqb, eqb-true, false, get_or, get_or-set_other, get_or-set_same, inl, inr, is_some, length, length-set, ne_eqb, not, refl, replicate, rules, set, subst, suc, sym, true, zero, ℕ, ◌&&◌, ◌*◌, ◌++◌, ◌+◌, ◌-◌, ◌<◌, ◌^◌, ◌||◌, ◌∙◌, ◌∷◌, ◌≡◌, ◌≢◌, ◌≤◌, ◌⊎◌}
pub use Rattle.std.proofs.lemmas.Bool.{and_from, and_parts, and_right, cases_Bool, cases_eq, cases_lt, cond-false, cond-true, false≢true, not-true}
pub use Rattle.std.proofs.lemmas.Grind.{common_steps}
pub use Rattle.std.proofs.lemmas.List.{get_or_default, get_or_past}
pub use Rattle.std.specs.Prelude.{IsTrue}
