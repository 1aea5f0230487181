-- The first answers begin the text of all answers.
use Rattle.std.proofs.Common.{◌≡◌, ℕ, List, ◌++◌, take, ap, ◌∙◌, append_assoc, All, Result, Ok, Err, ◌≤◌, inl, inr, arith}
use Rattle.std.proofs.lemmas.List.Elements.{All-map}
use Rattle.batch_run.proofs.Words.{IfErr-weaker, Output, GraphData, Questions, Algebra, AnswerData, AnswerList, AreAnswers, IsAnswerList, Cause, Write}
use Rattle.road_files.specs.Asked.{FromSource, Asked, asked_of, of_pair, of_list, AreQuestionsOf}
use Rattle.road_files.specs.declared.questions.Questions.TheVariants as variants
use Rattle.answer_text.specs.AnswerText.{answers_text}
use Rattle.std.specs.Prelude.{◌≢◌, IfErr}
use Rattle.batch_run.specs.Answered.{AsksWithin, IsPassedOn, begun_text, WroteFirst, WroteAnswersPrefix, WroteAllOrFirst, WroteAllOrPrefix}

-- questions that a reader gives ask within the graph
asks_by : (g : GraphData) (q : Questions) → AreQuestionsOf g.vertices q → All (AsksWithin g) (asked_of q).questions
asks_by g (variants.Sources vs) h = All-map (AsksWithin g) FromSource vs.items h.within
asks_by g (variants.Pairs ps) h = All-map (AsksWithin g) of_pair ps.items h.within
asks_by g (variants.Multi ls) h = All-map (AsksWithin g) of_list ls.items (λ k d lt. (h.within k d lt).vertices)

module _ {V : Type 0} (A : Algebra V) (g : GraphData) (q : Questions) (within : AreQuestionsOf g.vertices q)
    (exists : (asked : Asked) → All (AsksWithin g) asked.questions → (told : AnswerList) × IsAnswerList A g asked told)
    (begins : (asked : Asked) (count : ℕ) (ts : List AnswerData) (all : AnswerList) → AreAnswers A g (take count asked.questions) ts → IsAnswerList A g asked all →
    (rest : List ℕ) × (answers_text all ≡ begun_text A asked ts ++ rest)) where
  prefix_of_first : {X : Type 0} (old new : Output X) → WroteFirst A g (asked_of q) old new → WroteAnswersPrefix A g (asked_of q) old new
  prefix_of_first old new w =
      let all = exists (asked_of q) (asks_by g q within) in
      let more = begins (asked_of q) w.count w.answers all.0 w.right all.1 in
      record {
        answers = all.0;
        right = all.1;
        prefix = w.prefix;
        rest = w.rest ++ more.0;
        text_is = more.1 ∙ ap (λ x. x ++ more.0) w.text_is ∙ append_assoc w.prefix w.rest more.0;
        bytes = w.bytes;
      }

  pub all_or_prefix : {X E : Type 0} (old new : Output X) (r : Result (Unit {0}) E) → WroteAllOrFirst A g (asked_of q) old new r → WroteAllOrPrefix A g (asked_of q) old new r
  all_or_prefix old new (Ok u) w = w
  all_or_prefix old new (Err f) w = prefix_of_first old new w

-- what is passed on now is passed on, counted from an earlier moment
pub passed_on_since : (r : Result (Unit {0}) Cause) (held : List ℕ) (b m a : ℕ) → b ≤ m → IfErr r (λ cause. cause ≢ Write → IsPassedOn held m a) → IfErr r (λ cause. cause ≢ Write → IsPassedOn held b a)
passed_on_since r held b m a le = IfErr-weaker r _ _ (λ cause passed other. elim (passed other) [ inl none ↦ inl none | inr more ↦ inr (omega (arith, le, more)) ])
