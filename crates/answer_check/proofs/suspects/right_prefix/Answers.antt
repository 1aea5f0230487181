use Rattle.answer_check.proofs.Words.{rules, ℕ, ◌+◌, ◌<◌, ◌≡◌, ◌∙◌, Bool, false, arith, Option, ap, subst, sym, asked_of, answer_list, TellsSuspect, TellsSuspectIn, IsFirstNumber, chunk_start}
use Rattle.answer_check.proofs.ChunksAreRight.{before_and_from, right_up_to}
use Rattle.answer_check.proofs.suspects.right_prefix.Goals as goal

pub loop-right-init : goal.loop-right-init
loop-right-init g c = record { within = search rules; prefix = λ k lt. absurd (omega (arith, lt)) }

pub returns-in-Some : goal.returns-in-Some
returns-in-Some g c =
    let A = g.A.PathAlgebra.meaning c.args.case.now.algebra in
    let asked = asked_of c.args.case.now.questions.now in
    let told = answer_list c.args.case.now.answers.now in
    let R = λ (i : ℕ). TellsSuspect A c.args.case.now.graph.now asked told i false in
    let chunks = c.next-chunks.result in
    let k = c.in-Some.k in
    let tells = λ (j : ℕ) (b : Bool). TellsSuspectIn A c.args.case.now.graph.now asked told (chunk_start chunks j) (chunk_start chunks (j + 1)) b in
    let found = subst (λ (o : Option ℕ). IsFirstNumber chunks.count tells o) c.in-Some.is c.first_suspect_chunk.ensures in
    let low = subst (λ (s : ℕ). (i : ℕ) → i < s → R i) (sym c.next-chunks.ensures.start) c.loop-right.invariant.prefix in
    let before : (i : ℕ) → i < chunk_start chunks k → R i = right_up_to R chunks k low found.2 in
    before_and_from R (chunk_start chunks k) c.first_suspect.result before (rw c.chunk.ensures.start at c.first_suspect.ensures)

pub loop-right-preserved : goal.loop-right-preserved
loop-right-preserved g c =
    let A = g.A.PathAlgebra.meaning c.args.case.now.algebra in
    let asked = asked_of c.args.case.now.questions.now in
    let told = answer_list c.args.case.now.answers.now in
    let R = λ (i : ℕ). TellsSuspect A c.args.case.now.graph.now asked told i false in
    let chunks = c.next-chunks.result in
    let tells = λ (j : ℕ) (b : Bool). TellsSuspectIn A c.args.case.now.graph.now asked told (chunk_start chunks j) (chunk_start chunks (j + 1)) b in
    let found = subst (λ (o : Option ℕ). IsFirstNumber chunks.count tells o) c.in-None.is c.first_suspect_chunk.ensures in
    let low = subst (λ (s : ℕ). (i : ℕ) → i < s → R i) (sym c.next-chunks.ensures.start) c.loop-right.invariant.prefix in
    let end : chunk_start chunks chunks.count ≡ chunks.end = ap (chunk_start chunks) c.next-chunks.ensures.count ∙ c.next-chunks.ensures.whole in
    record {
      within = search rules;
      prefix = subst (λ (e : ℕ). (i : ℕ) → i < e → R i) end (right_up_to R chunks chunks.count low found);
    }

pub returns : goal.returns
returns g c = c.loop-right.invariant.prefix
