use Rattle.std.proofs.Common.{◌≡◌, ◌∙◌, None, refl, subst, sym}
use Rattle.road_files.specs.Asked.{asked_of}
use Rattle.road_files.specs.QuestionFiles.{question_rules}
use Rattle.batch_inputs.specs.Spelled.{IsReadAs}
use Rattle.batch_inputs.specs.InputLaws.{not_failed}
use Rattle.batch_inputs.specs.declared.faults.File.TheVariants.{Graph, Questions}
use Rattle.batch_inputs.proofs.FileFaults.{told_of, of_file, no_setting}
use Rattle.batch_inputs.proofs.inputs.PairInputBatchInput.read.Goals as goal

pub returns-in-Ok-read_questions-clause-read : goal.returns-in-Ok-read_questions-clause-read
returns-in-Ok-read_questions-clause-read g c = record {
  graph_is = record { told = c.in-Ok.ensures.value; some_text = c.in-Ok.ensures.some_text };
  questions_are = subst (λ n. IsReadAs (question_rules n None) (g.Q.RoadRead.seen c.args.self.now.questions.now).left (asked_of c.in-Ok-read_questions.questions)) c.count_vertices.ensures.count
      (record { told = c.in-Ok-read_questions.ensures.reads.value; some_text = c.in-Ok-read_questions.ensures.reads.some_text });
}

pub returns-in-Err-read_questions-clause-fault : goal.returns-in-Err-read_questions-clause-fault
returns-in-Err-read_questions-clause-fault g c =
    let is = c.fault_in-in-Err-read_questions.ensures in
    let reads = c.in-Err-read_questions.ensures.reads in
    let own : c.fault_in-in-Err-read_questions.result.file ≡ Questions = of_file Questions c.in-Err-read_questions.fault _ is in (
      refl,
      refl,
      record {
        sound = tt;
        graph = λ e. let bad : Questions ≡ Graph = sym own ∙ e in cc;
        questions = λ e. rw is (
          g.B.FromArcs.roads c.in-Ok.graph,
          record { told = c.in-Ok.ensures.value; some_text = c.in-Ok.ensures.some_text },
          λ t. rw c.count_vertices.ensures.count at (reads.fault t.0 t.1),
        );
        read_graph = not_failed c.fault_in-in-Err-read_questions.result Graph _ _ (λ e. let bad : Questions ≡ Graph = sym own ∙ e in cc) c.in-Ok.ensures.sound _ refl;
        read_questions = told_of Questions c.in-Err-read_questions.fault _ is _ _ reads.told reads.untold reads.placed;
        memory = λ e. let bad : Questions ≡ Graph = sym own ∙ e in cc;
        memory_questions = λ e three. (
          g.B.FromArcs.roads c.in-Ok.graph,
          record { told = c.in-Ok.ensures.value; some_text = c.in-Ok.ensures.some_text },
          rw c.count_vertices.ensures.count at (reads.before_memory (rw is at three)),
        );
        untouched = λ e. absurd (no_setting Questions c.in-Err-read_questions.fault _ is reads.numbered e);
        ends = tt;
        asked = c.in-Ok.ensures.asked;
        asked_questions = reads.asked;
      },
    )
