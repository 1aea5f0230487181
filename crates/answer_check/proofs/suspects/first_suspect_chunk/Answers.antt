use Rattle.answer_check.proofs.Words.{rules, ℕ, ◌+◌, ◌-◌, ◌<◌, ◌≤◌, ◌^◌, ◌∙◌, Bool, length, crosses, nat_range, nat_range-All, asked_of, answer_list, TellsSuspectIn, chunk_start, IsSync, sendable, NamedLft}
use denote.Param.{copied}
use Rattle.answer_check.specs.contracts.case.Case as Case
use Rattle.answer_check.proofs.FirstPlaces.{first_number}
use Rattle.answer_check.proofs.Sharing.{Case-sync}
use Rattle.answer_check.proofs.suspects.first_suspect_chunk.Goals as goal

pub position_first-requires-clause-items : goal.position_first-requires-clause-items
position_first-requires-clause-items g c κs within =
    let ends = c.into_par_iter.ensures in
    let inside = nat_range-All (λ k. (c.args.chunks.end ≤ length c.args.case.now.answers.now.list.items) × (k < c.args.chunks.count)) 0 c.args.chunks.count
    (λ k low high. (c.requires, high)) in
    rw (c.with_min_len.ensures.base, ends.0, ends.1) (λ k d lt. (inside k d lt, search (sendable, crosses) depth 40))

pub position_first-requires-sync-F : goal.position_first-requires-sync-F
position_first-requires-sync-F g c κs within =
    let case : (κ : NamedLft) → IsSync (Case.the_row κ (copied 0 g.row.A) (copied 2 g.row.A-Value) g.A.PathAlgebra) =
    λ κ. Case-sync κ (copied 0 g.row.A) (copied 2 g.row.A-Value) g.A.PathAlgebra c.type_bounds.sync-A in
    search (sendable, crosses, case) depth 60 fits 100000

pub returns : goal.returns
returns g c =
    let base = c.with_min_len.ensures.base in
    let ends = c.into_par_iter.ensures in
    let n = c.args.chunks.count in
    let done = rw base at c.position_first.ensures in
    let tells = λ (k : ℕ) (b : Bool). TellsSuspectIn (g.A.PathAlgebra.meaning c.args.case.now.algebra) c.args.case.now.graph.now (asked_of c.args.case.now.questions.now) (answer_list c.args.case.now.answers.now)
    (chunk_start c.args.chunks k) (chunk_start c.args.chunks (k + 1)) b in
    let short : n < 2 ^ 64 = search rules in
    rw done.4 (first_number tells n done.0 done.1 short (done.2 ∙ (λ i. nat_range (ends.0 i) (ends.1 i))) done.3)
