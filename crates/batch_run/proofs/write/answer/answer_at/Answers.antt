use Rattle.batch_run.proofs.Words.{◌≡◌, ◌∙◌, ℕ, List, ap, arith, get_or, length, subst, sym, AreBest, IsTree, Question, FromSource, FromSources, asked_of, sources_of, in_sources, asked_in}
use Rattle.answer_text.specs.AnswerData.{answer_data}
use Rattle.question_solvers.specs.Solved.{IsTextFor, IsTreeFrom}
use Rattle.question_solvers.proofs.QuestionKinds.{list_asked, source_asked}
use Rattle.text_lines.specs.Written.{WritesText}
use Rattle.batch_run.specs.Answered.{WroteAnswer}
use Rattle.batch_run.proofs.write.answer.answer_at.Goals as goal
use Rattle.batch_run.proofs.write.answer.answer_at.Goals.{In-Tree}

pub index-requires : goal.index-requires
index-requires g c = let low = in_sources c.args.batch.now.task.questions.now c.args.i c.in-Sources.sources c.in-Sources.is c.requires.place in omega (arith, low, c.in-Sources.sources.ok.0)

-- labels and tree are those of a graph with so many vertices
counts : (g : _) (c : In-Tree g) → (length c.in-Tree.labels ≡ c.args.n) × (length c.in-Tree.tree.hops ≡ c.args.n)
counts g c =
    let over = c.requires.solved in
    let tree : IsTreeFrom (g.A.PathAlgebra.meaning c.args.batch.now.task.algebra) over.0 (asked_in c.args.batch.now).kind _ c.in-Tree.labels c.in-Tree.tree = rw c.in-Tree.is at (over.2 (FromSource 0)) in
    (tree.labels.count ∙ over.1, tree.tree.hops_count ∙ over.1)

pub answer_source-requires-clause-labels : goal.answer_source-requires-clause-labels
answer_source-requires-clause-labels g c κs within = (counts g (goal.at.answer_source-requires-clause-labels g c).In-Tree).0

pub answer_source-requires-clause-hops : goal.answer_source-requires-clause-hops
answer_source-requires-clause-hops g c κs within = (counts g (goal.at.answer_source-requires-clause-hops g c).In-Tree).1

pub answer_sources-requires-clause-labels : goal.answer_sources-requires-clause-labels
answer_sources-requires-clause-labels g c κs within = (counts g (goal.at.answer_sources-requires-clause-labels g c).In-Tree).0

pub answer_sources-requires-clause-hops : goal.answer_sources-requires-clause-hops
answer_sources-requires-clause-hops g c κs within = (counts g (goal.at.answer_sources-requires-clause-hops g c).In-Tree).1

pub returns-in-Answer : goal.returns-in-Answer
returns-in-Answer g c = λ roads d count solved. (answer_data c.in-Answer.answer, rw c.in-Answer.is at (solved d), c.write_answer.ensures)

pub returns-in-Text : goal.returns-in-Text
returns-in-Text g c = λ roads d count solved.
    let A = g.A.PathAlgebra.meaning c.args.batch.now.task.algebra in
    let found : IsTextFor A roads (get_or (asked_in c.args.batch.now).questions c.args.i d) c.in-Text.text.items = rw c.in-Text.is at (solved d) in
    (found.0, found.1, subst (λ (t : List ℕ). WritesText (g.W.RoadWrite.seen c.args.out.now) (g.W.RoadWrite.seen c.write_bytes.new.to) t c.write_bytes.result) (c.deref.ensures.value ∙ found.2) c.write_bytes.ensures)

pub returns-in-Sources : goal.returns-in-Sources
returns-in-Sources g c = λ roads d count solved.
    let A = g.A.PathAlgebra.meaning c.args.batch.now.task.algebra in
    let questions = c.args.batch.now.task.questions.now in
    let tree : IsTreeFrom A roads (asked_of questions).kind (sources_of (get_or (asked_of questions).questions c.args.i d)) c.in-Tree.labels c.in-Tree.tree = rw c.in-Tree.is at (solved d) in
    let is = source_asked questions c.args.i c.in-Sources.sources c.index.result.now c.in-Sources.is c.requires.place c.index.ensures d in
    subst (λ (q : Question). WroteAnswer A roads q (g.W.RoadWrite.seen c.args.out.now) (g.W.RoadWrite.seen c.answer_source.new.out) c.answer_source.result) (sym is)
    (c.answer_source.ensures roads count (subst (λ (q : Question). AreBest A roads (sources_of q) c.in-Tree.labels) is tree.labels)
    (subst (λ (q : Question). IsTree A roads (sources_of q) c.in-Tree.tree) is tree.tree))

pub returns-in_default : goal.returns-in_default
returns-in_default g c = λ roads d count solved.
    let A = g.A.PathAlgebra.meaning c.args.batch.now.task.algebra in
    let questions = c.args.batch.now.task.questions.now in
    let tree : IsTreeFrom A roads (asked_of questions).kind (sources_of (get_or (asked_of questions).questions c.args.i d)) c.in-Tree.labels c.in-Tree.tree = rw c.in-Tree.is at (solved d) in
    let is = list_asked questions c.args.i c.in_default.not-Sources tree.unpaired c.requires.place d in
    let asked = sym (c.sources.ensures d) in
    subst (λ (q : Question). WroteAnswer A roads q (g.W.RoadWrite.seen c.args.out.now) (g.W.RoadWrite.seen c.answer_sources.new.out) c.answer_sources.result) (ap FromSources (c.sources.ensures d) ∙ sym is)
    (c.answer_sources.ensures roads count (subst (λ (vs : List ℕ). AreBest A roads vs c.in-Tree.labels) asked tree.labels)
    (subst (λ (vs : List ℕ). IsTree A roads vs c.in-Tree.tree) asked tree.tree))
