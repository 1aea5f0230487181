use Rattle.std.proofs.Common.{rules, ◌≡◌, ◌<◌, ◌≤◌, length, arith, sym, ap, ◌∙◌, true, false, Option, Some, None, Ok}
use Rattle.answer_check.proofs.Words.{common_steps, length-map, asked_of, Place, Invalid, Mismatch, HasHeader}
use Rattle.answer_text.specs.AnswerData.{answer_data, answer_list}
use Rattle.answer_check.proofs.FirstWrong.{asks_of, question_at, mapped_read, one_right_more, list_is_right, both_clauses, header_first, answer_first}
use Rattle.answer_check.proofs.checking.check.Goals as goal

pub returns-then-not-has_header-clause-valid : goal.returns-then-not-has_header-clause-valid
returns-then-not-has_header-clause-valid g c =
    let A = g.A.PathAlgebra.meaning c.args.algebra in
    let graph = c.args.graph.now in
    let asked = asked_of c.args.questions.now in
    let told = answer_list c.args.answers.now in
    let asks = asks_of graph c.args.questions.now c.requires in
    let no_header : HasHeader A graph asked told → ⊥ = λ h. let t = c.has_header.ensures.1 h in let f : c.has_header.result ≡ false = search rules in (let bad : false ≡ true = sym f ∙ t in cc) in
    both_clauses A graph c.laws_hold.ensures.lawful c.holds.ensures asked told asks (Invalid 0 0 Mismatch)
    (header_first A graph c.laws_hold.ensures.lawful c.holds.ensures asked told asks no_header)

pub returns-in-Some-clause-verdict : goal.returns-in-Some-clause-verdict
returns-in-Some-clause-verdict g c =
    let asked = asked_of c.args.questions.now in
    let i = c.loop-i.i in
    let header = c.has_header.ensures.0 (search rules) in
    let lt : i < length c.args.answers.now.list.items = search rules in
    let q = question_at asked.questions i (omega (arith, lt, header.count, length-map c.args.answers.now.list.items answer_data)) in
    let t = mapped_read answer_data c.args.answers.now.list.items i c.index.result.now c.index.ensures lt in
    let found : c.judge.result ≡ Ok (Some c.in-Some.place) = c.in_ok-place.was ∙ ap (λ (o : Option Place). Ok o) c.in-Some.is in
    answer_first _ c.args.graph.now c.laws_hold.ensures.lawful c.holds.ensures asked (answer_list c.args.answers.now)
    (asks_of c.args.graph.now c.args.questions.now c.requires) header i q.0 (answer_data c.index.result.now) c.loop-i.invariant q.1 t
    c.in-Some.place (rw found at (c.judge.ensures q.0 q.1))

pub returns-in-Some-clause-valid : goal.returns-in-Some-clause-valid
returns-in-Some-clause-valid g c =
    both_clauses _ c.args.graph.now c.laws_hold.ensures.lawful c.holds.ensures _ _ (asks_of c.args.graph.now c.args.questions.now c.requires)
    _ (returns-in-Some-clause-verdict g c)

pub loop-i-preserved : goal.loop-i-preserved
loop-i-preserved g c =
    let asked = asked_of c.args.questions.now in
    let i = c.loop-i.i in
    let header = c.has_header.ensures.0 (search rules) in
    let lt : i < length c.args.answers.now.list.items = search rules in
    let q = question_at asked.questions i (omega (arith, lt, header.count, length-map c.args.answers.now.list.items answer_data)) in
    let t = mapped_read answer_data c.args.answers.now.list.items i c.index.result.now c.index.ensures lt in
    let none : c.judge.result ≡ Ok None = c.in_ok-place.was ∙ ap (λ (o : Option Place). Ok o) c.in_default.is in
    one_right_more _ c.args.graph.now c.laws_hold.ensures.lawful c.holds.ensures asked.questions _ i q.0 (answer_data c.index.result.now)
    c.loop-i.invariant q.1 t (rw none at (c.judge.ensures q.0 q.1))

pub returns-clause-verdict : goal.returns-clause-verdict
returns-clause-verdict g c =
    let header = c.has_header.ensures.0 (search rules) in
    let end : length c.args.answers.now.list.items ≤ c.loop-i.i = search rules in
    let n = length-map c.args.answers.now.list.items answer_data in
    list_is_right _ c.args.graph.now c.laws_hold.ensures.lawful c.holds.ensures _ _ header (λ k lt. c.loop-i.invariant k (omega (arith, lt, end, n)))

pub returns-clause-valid : goal.returns-clause-valid
returns-clause-valid g c =
    both_clauses _ c.args.graph.now c.laws_hold.ensures.lawful c.holds.ensures _ _ (asks_of c.args.graph.now c.args.questions.now c.requires)
    _ (returns-clause-verdict g c)

pub overflow_step-i : goal.overflow_step-i
overflow_step-i g c = grind (arith, common_steps)
