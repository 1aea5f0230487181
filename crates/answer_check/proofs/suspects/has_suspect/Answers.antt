use Rattle.answer_check.proofs.Words.{ℕ, ◌+◌, nat_lt, refl, subst, asked_of, answer_list, TellsSuspectIn, chunk_start}
use Rattle.answer_check.proofs.ChunksAreRight.{told_before}
use Rattle.answer_check.proofs.suspects.has_suspect.Goals as goal

pub returns : goal.returns
returns g c =
    let A = g.A.PathAlgebra.meaning c.args.case.now.algebra in
    let roads = c.args.case.now.graph.now in
    let asked = asked_of c.args.case.now.questions.now in
    let told = answer_list c.args.case.now.answers.now in
    let chunk = c.chunk-chunk.result in
    let first = c.first_suspect.result in
    let judged = told_before A roads asked told chunk.0 first chunk.1 c.first_suspect.ensures (nat_lt first chunk.1) refl in
    subst (λ (m : ℕ). TellsSuspectIn A roads asked told m (chunk_start c.args.chunks (c.args.k + 1)) (nat_lt first chunk.1)) c.chunk-chunk.ensures.start
    (subst (λ (n : ℕ). TellsSuspectIn A roads asked told chunk.0 n (nat_lt first chunk.1)) c.chunk-chunk.ensures.end judged)
