use Rattle.std.proofs.Common.{rules, ◌<◌, length, Some}
use Rattle.std.proofs.lemmas.List.{get_or-map, length-map}
use denote.Exit.{no}
use denote.Param.{copied}
use denote.Param.Send.{param_send, arg_send, sendable}
use Rattle.worker_fleet.proofs.Carrying.{stations_send, answer_send}
use Rattle.worker_fleet.proofs.group.drive_each.Goals as goal

pub run_each-requires-send-J : goal.run_each-requires-send-J
run_each-requires-send-J g c κs within = let s = c.type_bounds in
    param_send 0 _ (arg_send _ no _ (stations_send (copied 0 g.row.A) (copied 3 g.row.A-Value) g.A.PathAlgebra _ s.send-A s.send-A-Value))

pub run_each-requires-send-K-Answer : goal.run_each-requires-send-K-Answer
run_each-requires-send-K-Answer g c κs within = let s = c.type_bounds in
    param_send 4 _ (arg_send _ no _ (answer_send (copied 0 g.row.A) (copied 3 g.row.A-Value) g.A.PathAlgebra _ s.send-A s.send-A-Value))

pub run_each-requires-clause-can : goal.run_each-requires-clause-can
run_each-requires-clause-can g c κs within = λ k job low is. let s = c.type_bounds in
    (rw is (c.requires k job (search rules)), (search sendable, search sendable, search sendable, search sendable, search sendable))

pub returns-clause-each : goal.returns-clause-each
returns-clause-each g c = λ k share r low.
    let driven = c.in_ok-driven.driven.items in
    let n = length-map driven (λ d. Some d) in
    let few : k < length driven = search rules in
    rw (c.in_ok-driven.ensures, get_or-map Some driven k r (Some r) few) at (c.in_ok-answers.ensures.each k share (Some r) low)
