-- A batch on its way: the first questions were answered, and their answers written.
use Rattle.batch_run.proofs.Words.{◌≡◌, ◌≢◌, ℕ, ◌+◌, ◌<◌, ◌≤◌, List, [], ◌∷◌, ◌++◌, length, take, get_or, Result, Ok, Err, Bool, true, false, inl, inr, ◌⊎◌, refl, sym, ap, ◌∙◌, subst, append_assoc, append-nil, arith, take_all, take_more, Appends, GraphData, Output, Question, Asked, Algebra, AnswerData, IsAnswer, AreAnswers, answer_text, blocks_text, header_text, Cause, GroupFault, AnsweredAll, WroteAnswers, WroteNext, begun_text, WroteFirst, WroteWhole, MayStop}
use Rattle.text_lines.specs.Written.{WrotePrefix, FailedAfterPrefix}
use Rattle.text_lines.proofs.WriteLaws.{left_more, left_fell, left_appends}
use Rattle.road_files.specs.declared.questions.Kind.{Kind}
use Rattle.path_algebra.specs.declared.name.AlgebraName.{AlgebraName}
use Rattle.answer_text.proofs.OneAnswer.{blocks_split, answers_count}
use Rattle.batch_run.specs.declared.cause.Cause.TheVariants as causes
use Rattle.worker_fleet.specs.declared.group.GroupFault.TheVariants as group
use Rattle.batch_run.proofs.CauseCases.{write_or_other}

-- the first i questions were answered, and the answers written
pub record AnsweredFirst {V X : Type 0} (A : Algebra V) (g : GraphData) (asked : Asked) (i : ℕ) (old new : Output X) : Type 0 where
  pub answers : List AnswerData
  pub right : AreAnswers A g (take i asked.questions) answers
  pub left : WrotePrefix old new (begun_text A asked answers) []

-- there are no questions, or one is first
none_or_some : (qs : List Question) → (qs ≡ []) ⊎ (0 < length qs)
none_or_some [] = inl refl
none_or_some (q ∷ qs) = inr (omega arith)

-- where one is at some place, there are some
none_first : (i : ℕ) (qs : List Question) → i < length qs → qs ≡ [] → ⊥
none_first i qs lt none = let bad : i < 0 = subst (λ (x : List Question). i < length x) none lt in omega (arith, bad)

blocks-push : (ts : List AnswerData) (t : AnswerData) → blocks_text (ts ++ t ∷ []) ≡ blocks_text ts ++ answer_text t
blocks-push ts t = blocks_split ts (t ∷ []) ∙ ap (λ y. blocks_text ts ++ y) (append-nil (answer_text t))

module _ {V : Type 0} (A : Algebra V) (g : GraphData) where
  answers-push : (qs : List Question) (ts : List AnswerData) (q : Question) (t : AnswerData) → AreAnswers A g qs ts → IsAnswer A g q t → AreAnswers A g (qs ++ q ∷ []) (ts ++ t ∷ [])
  answers-push [] [] q t h a = (a, tt)
  answers-push (x ∷ qs) (y ∷ ts) q t h a = (h.0, answers-push qs ts q t h.1 a)
  answers-push [] (y ∷ ts) q t h a = absurd h
  answers-push (x ∷ qs) [] q t h a = absurd h

module _ {V : Type 0} (A : Algebra V) (asked : Asked) where
  begun-push : (ts : List AnswerData) (t : AnswerData) → begun_text A asked (ts ++ t ∷ []) ≡ begun_text A asked ts ++ answer_text t
  begun-push ts t =
      let head = header_text asked.kind (length asked.questions) A.name in
      ap (λ y. head ++ y) (blocks-push ts t) ∙ sym (append_assoc head (blocks_text ts) (answer_text t))

  -- the header as the writer was given it
  module _ (kind : Kind) (count : ℕ) (name : AlgebraName) (same_kind : kind ≡ asked.kind) (same_count : count ≡ length asked.questions) (same_name : name ≡ A.name)
      {X : Type 0} (old new : Output X) where
    header_is : header_text kind count name ≡ begun_text A asked []
    header_is = ap (λ k. header_text k count name) same_kind ∙ ap (λ n. header_text asked.kind n name) same_count ∙ ap (λ m. header_text asked.kind (length asked.questions) m) same_name
        ∙ sym (append-nil (header_text asked.kind (length asked.questions) A.name))

    pub header_written : WrotePrefix old new (header_text kind count name) [] → WrotePrefix old new (begun_text A asked []) []
    header_written h = subst (λ t. WrotePrefix old new t []) header_is h

    pub header_failed : FailedAfterPrefix old new (header_text kind count name) → FailedAfterPrefix old new (begun_text A asked [])
    header_failed h = subst (λ t. FailedAfterPrefix old new t) header_is h

module _ {V : Type 0} (A : Algebra V) (g : GraphData) (asked : Asked) where
  -- no question is answered yet
  pub start : {X : Type 0} (old new : Output X) → WrotePrefix old new (begun_text A asked []) [] → AnsweredFirst A g asked 0 old new
  start old new h = record { answers = []; right = tt; left = h }

  stop : (i : ℕ) {X : Type 0} (old new : Output X) → AnsweredFirst A g asked i old new → WroteFirst A g asked old new
  stop i old new p = record { count = i; answers = p.answers; right = p.right; prefix = p.left.prefix; rest = []; text_is = p.left.text_is; bytes = p.left.bytes }

  -- what was written between two answers is whole
  stop_whole : (i : ℕ) {X : Type 0} (old new : Output X) → (asked.questions ≡ []) ⊎ (i < length asked.questions) → AnsweredFirst A g asked i old new → WroteWhole A g asked old new
  stop_whole i old new fewer p = record {
    count = i;
    fewer = fewer;
    answers = p.answers;
    right = p.right;
    bytes = left_appends old new (begun_text A asked p.answers) p.left;
  }

  module _ (i : ℕ) {X : Type 0} (old mid new : Output X) (t : AnswerData) (lt : i < length asked.questions) (q : Question)
      (is : IsAnswer A g (get_or asked.questions i q) t) (p : AnsweredFirst A g asked i old mid) where
    now_right : AreAnswers A g (take (i + 1) asked.questions) (p.answers ++ t ∷ [])
    now_right = subst (λ x. AreAnswers A g x (p.answers ++ t ∷ [])) (sym (take_more asked.questions i q lt))
        (answers-push A g (take i asked.questions) p.answers (get_or asked.questions i q) t p.right is)

    begun : WrotePrefix old mid (begun_text A asked (p.answers ++ t ∷ [])) (answer_text t ++ [])
    begun = record {
      prefix = p.left.prefix;
      text_is = begun-push A asked p.answers t ∙ ap (λ x. x ++ answer_text t) (p.left.text_is ∙ append-nil p.left.prefix) ∙ ap (λ x. p.left.prefix ++ x) (sym (append-nil (answer_text t)));
      bytes = p.left.bytes;
      sound = p.left.sound;
    }

    pub step : WrotePrefix mid new (answer_text t) [] → AnsweredFirst A g asked (i + 1) old new
    step h = record { answers = p.answers ++ t ∷ []; right = now_right; left = left_more begun h }

    pub fell : FailedAfterPrefix mid new (answer_text t) → WroteFirst A g asked old new
    fell h = let f = left_fell [] begun h in
        record { count = i + 1; answers = p.answers ++ t ∷ []; right = now_right; prefix = f.prefix; rest = f.rest; text_is = f.text_is; bytes = f.bytes }

  module _ (i : ℕ) {X : Type 0} (old mid new : Output X) (lt : i < length asked.questions) (q : Question) (p : AnsweredFirst A g asked i old mid) where
    -- one question more was answered
    pub answered : WroteNext A g (get_or asked.questions i q) mid new (Ok tt) → AnsweredFirst A g asked (i + 1) old new
    answered h = step i old mid new h.0 lt q h.1 p h.2

    -- it stopped at the question
    pub stopped_at : (MayStop : Cause → Type 0) (cause : Cause) → MayStop cause → WroteNext A g (get_or asked.questions i q) mid new (Err cause) →
        AnsweredAll A g asked MayStop old new (Err cause)
    stopped_at MayStop cause kind h = record {
      text = elim (write_or_other cause) [
        | inl write ↦ let failed = h.0 write in fell i old mid new failed.0 lt q failed.1 p failed.2
        | inr other ↦ subst (WroteFirst A g asked old) (sym (h.1 other)) (stop i old mid p)
      ];
      sound = tt;
      kind = kind;
      failed = λ write. let one = (h.0 write).2.failed in omega (arith, one, p.left.sound);
      unfailed = λ other. ap (λ (o : Output X). o.failures) (h.1 other) ∙ p.left.sound;
      whole = λ other. subst (WroteWhole A g asked old) (sym (h.1 other)) (stop_whole i old mid (inr lt) p);
      some = λ _ _ none. absurd (none_first i asked.questions lt none);
    }

  module _ (MayStop : Cause → Type 0) {X : Type 0} (old new : Output X) where
    -- the header was not written
    pub stopped_first : (cause : Cause) → cause ≡ causes.Write → MayStop cause → FailedAfterPrefix old new (begun_text A asked []) → AnsweredAll A g asked MayStop old new (Err cause)
    stopped_first cause write kind h = record {
      some = λ other. absurd (other write);
      text = record { count = 0; answers = []; right = tt; prefix = h.prefix; rest = h.rest; text_is = h.text_is; bytes = h.bytes };
      sound = tt;
      kind = kind;
      failed = λ _. h.failed;
      unfailed = λ other. absurd (other write);
      whole = λ other. absurd (other write);
    }

    -- want of memory stopped it before the first question
    pub stopped_for_memory : (cause : Cause) → cause ≡ causes.Unsolved group.Memory → MayStop cause → AnsweredFirst A g asked 0 old new → AnsweredAll A g asked MayStop old new (Err cause)
    stopped_for_memory cause memory kind p = record {
      text = stop 0 old new p;
      sound = tt;
      kind = kind;
      failed = λ write. let bad : causes.Unsolved group.Memory ≡ causes.Write = sym memory ∙ write in cc;
      unfailed = λ _. p.left.sound;
      whole = λ _. stop_whole 0 old new (none_or_some asked.questions) p;
      some = λ _ other. absurd (other memory);
    }

    -- no failure is taken back
    pub no_fewer_failures : (r : Result (Unit {0}) Cause) → AnsweredAll A g asked MayStop old new r → old.failures ≤ new.failures
    no_fewer_failures (Ok u) h = let same = h.sound in omega (arith, same)
    no_fewer_failures (Err cause) h = elim (write_or_other cause) [
      | inl write ↦ let one = h.failed write in omega (arith, one)
      | inr other ↦ let same = h.unfailed other in omega (arith, same)
    ]

module _ {V : Type 0} (A : Algebra V) (g : GraphData) (asked : Asked) where
  whole_text : (i : ℕ) {X : Type 0} (old new : Output X) → length asked.questions ≤ i → AnsweredFirst A g asked i old new → WroteAnswers A g asked old new
  whole_text i old new le p =
      let right : AreAnswers A g asked.questions p.answers = subst (λ x. AreAnswers A g x p.answers) (take_all i asked.questions le) p.right in
      record {
        answers = record { name = A.name; kind = asked.kind; n = g.vertices; list = p.answers };
        right = record { name_is = refl; kind_is = refl; n_is = refl; answers = right };
        bytes = subst (Appends old.written new.written) (ap (λ n. header_text asked.kind n A.name ++ blocks_text p.answers) (sym (answers_count A g asked.questions p.answers right)))
            (left_appends old new (begun_text A asked p.answers) p.left);
      }

  -- all questions are answered
  pub all_answered : (MayStop : Cause → Type 0) (i : ℕ) {X : Type 0} (old new : Output X) → length asked.questions ≤ i → AnsweredFirst A g asked i old new →
      AnsweredAll A g asked MayStop old new (Ok tt)
  all_answered MayStop i old new le p = record { text = whole_text i old new le p; sound = p.left.sound; kind = tt; failed = tt; unfailed = tt; whole = tt; some = tt }

-- a question is not solved: memory or a thread was refused; or, if workers answer, one of them
-- stopped
pub group_may_stop : (stops : GroupFault → Type 0) (undiffused : Bool) (f : GroupFault) → (undiffused ≡ true → f ≡ group.Memory) → stops f → MayStop undiffused stops (causes.Unsolved f)
group_may_stop stops true f only stop = λ other. absurd (other (only refl))
group_may_stop stops false f only stop = λ other. (refl, stop)

-- that is no failed write
no_write : (f : GroupFault) → causes.Unsolved f ≢ causes.Write
no_write f e = let bad : causes.Unsolved f ≡ causes.Write = e in cc

module _ {V : Type 0} (A : Algebra V) (g : GraphData) (q : Question) {X : Type 0} (old : Output X) where
  -- then nothing of its answer was written
  pub not_solved : (f : GroupFault) → WroteNext A g q old old (Err (causes.Unsolved f))
  not_solved f = (λ write. absurd (no_write f write), λ _. refl)

  -- its answer was not written whole
  pub not_written : (new : Output X) (cause : Cause) → cause ≡ causes.Write → (answer : AnswerData) × IsAnswer A g q answer × FailedAfterPrefix old new (answer_text answer) →
      WroteNext A g q old new (Err cause)
  not_written new cause write h = (λ _. h, λ other. absurd (other write))
