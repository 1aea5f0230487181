use Rattle.road_files.proofs.Words.{◌∙◌, ap, map, ℕ, List, codes, Vec, Global, spelled, list_words, lines_start, made_left, made_fell, made_end, fell_out, of_list, question_words}
use Rattle.road_files.proofs.writing.write_lists.Goals as goal

pub loop-list-init : goal.loop-list-init
loop-list-init g c = lines_start question_words _ (map of_list c.args.lists.now)

pub loop-list-preserved : goal.loop-list-preserved
loop-list-preserved g c = made_left question_words of_list _ _ _ _ _ c.args.lists.now c.loop-list.list-index c.list-item.result c.loop-list-test.true
    (ap (λ (xs : List ℕ). spelled (list_words (codes "m") xs)) c.deref.ensures.value ∙ ap (λ (v : Vec ℕ Global). spelled (question_words (of_list v))) c.list-item.is)
    c.loop-list.invariant c.in_ok-write_list.ensures

pub returns-in_err-write_list : goal.returns-in_err-write_list
returns-in_err-write_list g c = fell_out _ _ _ _ c.from_residual.result c.from_residual.ensures.1
    (made_fell question_words of_list _ _ _ _ _ c.args.lists.now c.loop-list.list-index c.list-item.result c.loop-list-test.true
    (ap (λ (xs : List ℕ). spelled (list_words (codes "m") xs)) c.deref.ensures.value ∙ ap (λ (v : Vec ℕ Global). spelled (question_words (of_list v))) c.list-item.is)
    c.loop-list.invariant c.in_err-write_list.ensures)

pub returns : goal.returns
returns g c = made_end question_words of_list _ _ _ c.loop-list.list-index c.args.lists.now c.loop-list-test.false c.loop-list.invariant
