-- What was reported of a batch is so, and stays so.
use Rattle.batch_run.proofs.Words.{◌≡◌, inl, inr, ℕ, ◌+◌, ◌<◌, ◌≤◌, List, [], ◌∷◌, ◌++◌, length, map, get_or, Bool, false, Option, None, Some, Err, refl, sym, ap, ◌∙◌, subst, append_assoc, append-nil, IfNone, IfSome, Appends, Keeps, false≢true, take_all, GraphData, left_appends, Output, Question, Asked, Algebra, WrotePrefix, Cause, Settings, Progress, Counts, Factoring}
use Rattle.std.specs.List.{AllByRecursion}
use Rattle.std.proofs.KnownBytes.{Appends-kept, Appends-trans}
use Rattle.batch_run.specs.Answered.{WroteAtLeast, WroteNext, begun_text}
use Rattle.batch_run.specs.declared.watcher.Progress.TheVariants as report
use Rattle.batch_run.specs.Reports.{Account, Attempt, Beginning, Due, Ordering, Preparation, IsSo, Answering, Reported, ReportedFirst, ReportedPrefix, accounts_due, batch_due, count_diffusions, diffused, due_if, question_due, questions_due, start_due}
use Rattle.batch_run.proofs.CauseCases.{write_or_other}
use Rattle.batch_run.proofs.AnsweredFirst.{AnsweredFirst}
use Rattle.batch_run.proofs.Reporting.{accounts_follow, due_first, more, next_due, none, reported_if}

module _ {V : Type 0} (A : Algebra V) (g : GraphData) (asked : Asked) where
  -- the first answers are written
  pub at_least : (i : ℕ) {X : Type 0} (old new : Output X) → AnsweredFirst A g asked i old new → WroteAtLeast A g asked i old new
  at_least i old new p = record {
    answers = p.answers;
    right = p.right;
    more = [];
    bytes = subst (Appends old.written new.written) (sym (append-nil (begun_text A asked p.answers))) (left_appends old new (begun_text A asked p.answers) p.left);
  }

  module _ {X : Type 0} (old mid new : Output X) where
    -- they stay so when more is written
    pub more_at_least : (text : List ℕ) → Appends mid.written new.written text → (n : ℕ) → WroteAtLeast A g asked n old mid → WroteAtLeast A g asked n old new
    more_at_least text more n w = record {
      answers = w.answers;
      right = w.right;
      more = w.more ++ text;
      bytes = subst (Appends old.written new.written) (append_assoc (begun_text A asked w.answers) w.more text) (Appends-trans old.written mid.written new.written (begun_text A asked w.answers ++ w.more) text w.bytes more);
    }

    -- and when nothing is
    pub kept_at_least : Keeps mid.written new.written → (n : ℕ) → WroteAtLeast A g asked n old mid → WroteAtLeast A g asked n old new
    kept_at_least keeps n w = record { answers = w.answers; right = w.right; more = w.more; bytes = Appends-kept old.written mid.written new.written _ w.bytes keeps }

  -- what reports say stays so while these answers stay, and while no less may be told of factoring
  module _ (MayTell Wide : Factoring → Type 0) (wider : (f : Factoring) → MayTell f → Wide f) {X : Type 0} (old mid new : Output X)
      (still : (n : ℕ) → WroteAtLeast A g asked n old mid → WroteAtLeast A g asked n old new) where
    due_still : (d : Due) → IsSo A g asked MayTell old mid d → IsSo A g asked Wide old new d
    due_still (Beginning n k) w = still 0 w
    due_still (Ordering counts) w = tt
    due_still (Attempt became) w = wider became w
    due_still (Account k s) w = tt
    due_still (Answering n) w = still n w

    pub all_still : (ds : List Due) → AllByRecursion (IsSo A g asked MayTell old mid) ds → AllByRecursion (IsSo A g asked Wide old new) ds
    all_still [] all = tt
    all_still (d ∷ ds) all = (due_still d all.0, all_still ds all.1)

  module _ (MayTell : Factoring → Type 0) {X : Type 0} (old new : Output X) where
    pub so_then : (ds es : List Due) → AllByRecursion (IsSo A g asked MayTell old new) ds → AllByRecursion (IsSo A g asked MayTell old new) es →
        AllByRecursion (IsSo A g asked MayTell old new) (ds ++ es)
    so_then [] es all more = more
    so_then (d ∷ ds) es all more = (all.0, so_then ds es all.1 more)

    so_prefix : (ds es : List Due) → AllByRecursion (IsSo A g asked MayTell old new) (ds ++ es) → AllByRecursion (IsSo A g asked MayTell old new) ds
    so_prefix [] es all = tt
    so_prefix (d ∷ ds) es all = (all.0, so_prefix ds es all.1)

    -- accounts say nothing of what was written
    accounts_so : (k : ℕ) (xs : List ℕ) → AllByRecursion (IsSo A g asked MayTell old new) (map (Account k) xs)
    accounts_so k [] = tt
    accounts_so k (x ∷ xs) = (tt, accounts_so k xs)

    pub within_accounts : (undiffused : Bool) (k : ℕ) (q : Question) (ds es : List Due) → accounts_due undiffused k q ≡ ds ++ es → AllByRecursion (IsSo A g asked MayTell old new) ds
    within_accounts undiffused k q ds es e = so_prefix ds es (subst (AllByRecursion (IsSo A g asked MayTell old new)) e (accounts_so k (diffused undiffused q)))

    -- a question is reported as answered when its answer is written
    pub question_so : (undiffused : Bool) (k : ℕ) (q : Question) → WroteAtLeast A g asked k old new → AllByRecursion (IsSo A g asked MayTell old new) (question_due undiffused k q)
    question_so undiffused k q w = so_then (accounts_due undiffused k q) (Answering k ∷ []) (accounts_so k (diffused undiffused q)) (w, tt)

    so_if : {X : Type 0} (due : X → Due) (o : Option X) → ((x : X) → o ≡ Some x → IsSo A g asked MayTell old new (due x)) → AllByRecursion (IsSo A g asked MayTell old new) (due_if due o)
    so_if due None so = tt
    so_if due (Some x) so = (so x refl, tt)

    -- before the first question the header is written
    pub begun_so : (undiffused : Bool) (found : Option Counts) → WroteAtLeast A g asked 0 old new →
        AllByRecursion (IsSo A g asked MayTell old new) (Beginning (length asked.questions) (count_diffusions undiffused asked.questions) ∷ due_if Ordering found)
    begun_so undiffused found header = (header, so_if Ordering found (λ c is. tt))

    pub start_so : (undiffused : Bool) (made : Preparation) → ((f : Factoring) → made.became ≡ Some f → MayTell f) → WroteAtLeast A g asked 0 old new →
        AllByRecursion (IsSo A g asked MayTell old new) (start_due undiffused made asked.questions)
    start_so undiffused made may header =
        so_then (Beginning (length asked.questions) (count_diffusions undiffused asked.questions) ∷ due_if Ordering made.found) (due_if Attempt made.became) (begun_so undiffused made.found header)
        (so_if Attempt made.became may)

  -- when it stopped at a question
  pub so_at_stop : (MayTell : Factoring → Type 0) (q : Question) {X : Type 0} (old mid new : Output X) (cause : Cause) (ds : List Due) → WroteNext A g q mid new (Err cause) →
      AllByRecursion (IsSo A g asked MayTell old mid) ds → AllByRecursion (IsSo A g asked MayTell old new) ds
  so_at_stop MayTell q {X = X} old mid new cause ds h all = elim (write_or_other cause) [
    | inl write ↦ all_still MayTell MayTell (λ f may. may) old mid new (more_at_least old mid new (h.0 write).2.prefix (h.0 write).2.bytes) ds all
    | inr other ↦ subst (λ (x : Output X). AllByRecursion (IsSo A g asked MayTell old x) ds) (sym (h.1 other)) all
  ]

-- so many questions were reported as answered, with what may be told of factoring; and what that says
-- is so
pub record ReportedUntil {V S W : Type 0} (A : Algebra V) (how : Settings) (g : GraphData) (asked : Asked) (undiffused : Bool) (Told : Preparation → Type 0) (MayTell : Factoring → Type 0)
    (may_become : S → Progress → S → Type 0) (i : ℕ) (old new : S) (out out_after : Output W) : Type 0 where
  pub made : Preparation
  pub told : Told made
  pub reported : Reported A how g may_become (due_first undiffused made asked.questions i) old new
  pub so : AllByRecursion (IsSo A g asked MayTell out out_after) (due_first undiffused made asked.questions i)

module _ {V S W : Type 0} (A : Algebra V) (how : Settings) (g : GraphData) (asked : Asked) (undiffused : Bool) (Told : Preparation → Type 0) (MayTell : Factoring → Type 0)
    (may_become : S → Progress → S → Type 0) (old : S) (out : Output W) where
  module _ (made : Preparation) (told : Told made) (out_after : Output W) where
    first_are : (new : S) (ds rest : List Due) → batch_due undiffused made asked.questions ≡ ds ++ rest → Reported A how g may_become ds old new → AllByRecursion (IsSo A g asked MayTell out out_after) ds →
        ReportedFirst A how g asked undiffused Told MayTell may_become old new out out_after false
    first_are new ds rest e h so =
        (h.reports, record { made = made; told = told; prefix = ds; rest = rest; due_is = e; all = λ bad. absurd (false≢true bad); are_due = h.are_due; so = so }, h.told)

    -- nothing was reported
    pub unreported : (new : S) → new ≡ old → ReportedFirst A how g asked undiffused Told MayTell may_become old new out out_after false
    unreported new e = first_are new [] (batch_due undiffused made asked.questions) refl (subst (λ (s : S). Reported A how g may_become [] old s) (sym e) (none A how g may_become old)) tt

    module _ (header : WroteAtLeast A g asked 0 out out_after) (mid : S) (first : Reported A how g may_become (Beginning (length asked.questions) (count_diffusions undiffused asked.questions) ∷ []) old mid) where
      -- only that the batch begins was
      pub only_begun : ReportedFirst A how g asked undiffused Told MayTell may_become old mid out out_after false
      only_begun = first_are mid _ ((due_if Ordering made.found ++ due_if Attempt made.became) ++ questions_due undiffused 0 asked.questions) refl first (header, tt)

      module _ (next : S) (some : IfSome made.found (λ c. may_become mid (report.Ordered c) next)) (no : IfNone made.found (next ≡ mid)) where
        abbrev begin : List Due
        begin = Beginning (length asked.questions) (count_diffusions undiffused asked.questions) ∷ due_if Ordering made.found

        ordered : Reported A how g may_become begin old next
        ordered =
            more A how g may_become (Beginning (length asked.questions) (count_diffusions undiffused asked.questions) ∷ []) (due_if Ordering made.found) old mid next first
            (reported_if A how g may_become Ordering report.Ordered (λ c. refl) made.found mid next some no)

        -- and then what an order counted
        pub only_ordered : ReportedFirst A how g asked undiffused Told MayTell may_become old next out out_after false
        only_ordered =
            first_are next begin (due_if Attempt made.became ++ questions_due undiffused 0 asked.questions) (append_assoc begin (due_if Attempt made.became) (questions_due undiffused 0 asked.questions))
            ordered (begun_so A g asked MayTell out out_after undiffused made.found header)

        -- and then what became of factoring the graph
        pub until_first : ((f : Factoring) → made.became ≡ Some f → MayTell f) → (new : S) → IfSome made.became (λ f. may_become next (report.Factored f) new) → IfNone made.became (new ≡ next) →
            ReportedUntil A how g asked undiffused Told MayTell may_become 0 old new out out_after
        until_first may new told_some told_none =
            let none_yet = sym (append-nil (start_due undiffused made asked.questions)) in
            record {
              made = made;
              told = told;
              reported = subst (λ (ds : List Due). Reported A how g may_become ds old new) none_yet
                  (more A how g may_become begin (due_if Attempt made.became) old next new ordered (reported_if A how g may_become Attempt report.Factored (λ f. refl) made.became next new told_some told_none));
              so = subst (AllByRecursion (IsSo A g asked MayTell out out_after)) none_yet (start_so A g asked MayTell out out_after undiffused made may header);
            }

  module _ (i : ℕ) (mid : S) (out_mid : Output W) (was : ReportedUntil A how g asked undiffused Told MayTell may_become i old mid out out_mid) where
    -- one question more was
    pub until_next : (q : Question) (new : S) (out_after : Output W) (text : List ℕ) → i < length asked.questions → Reported A how g may_become (question_due undiffused (i + 1) (get_or asked.questions i q)) mid new →
        WrotePrefix out_mid out_after text [] → AnsweredFirst A g asked (i + 1) out out_after → ReportedUntil A how g asked undiffused Told MayTell may_become (i + 1) old new out out_after
    until_next q new out_after text low one wrote progress =
        let first = due_first undiffused was.made asked.questions i in
        let next = question_due undiffused (i + 1) (get_or asked.questions i q) in
        let due_is = sym (next_due undiffused was.made asked.questions i (i + 1) q low refl) in
        record {
          made = was.made;
          told = was.told;
          reported = subst (λ (x : List Due). Reported A how g may_become x old new) due_is (more A how g may_become first next old mid new was.reported one);
          so = subst (AllByRecursion (IsSo A g asked MayTell out out_after)) due_is
              (so_then A g asked MayTell out out_after first next
              (all_still A g asked MayTell MayTell (λ f may. may) out out_mid out_after (more_at_least A g asked out out_mid out_after text (left_appends out_mid out_after text wrote)) first was.so)
              (question_so A g asked MayTell out out_after undiffused (i + 1) (get_or asked.questions i q) (at_least A g asked (i + 1) out out_after progress)));
        }

    -- no more is to come
    pub until_all : (whole : Bool) → length asked.questions ≤ i → ReportedFirst A how g asked undiffused Told MayTell may_become old mid out out_mid whole
    until_all whole le =
        let first = due_first undiffused was.made asked.questions i in (
          was.reported.reports,
          record {
            made = was.made;
            told = was.told;
            prefix = first;
            rest = [];
            due_is = sym (ap (λ (qs : List Question). start_due undiffused was.made asked.questions ++ questions_due undiffused 0 qs) (take_all i asked.questions le)) ∙ sym (append-nil first);
            all = λ _. refl;
            are_due = was.reported.are_due;
            so = was.so;
          },
          was.reported.told,
        )

    -- it stopped at the next, after some accounts of it
    pub until_stopped : (q : Question) (new : S) (out_after : Output W) (cause : Cause) → i < length asked.questions →
        ReportedPrefix A how g may_become (accounts_due undiffused (i + 1) (get_or asked.questions i q)) mid new → WroteNext A g (get_or asked.questions i q) out_mid out_after (Err cause) →
        ReportedFirst A how g asked undiffused Told MayTell may_become old new out out_after false
    until_stopped q new out_after cause low part wrote =
        let first = due_first undiffused was.made asked.questions i in
        let after = accounts_follow undiffused was.made asked.questions i (i + 1) q low refl part.0 part.1 part.2 in
        first_are was.made was.told out_after new (first ++ part.0) after.0 after.1
        (more A how g may_become first part.0 old mid new was.reported part.3)
        (so_then A g asked MayTell out out_after first part.0 (so_at_stop A g asked MayTell (get_or asked.questions i q) out out_mid out_after cause first wrote was.so)
        (within_accounts A g asked MayTell out out_after undiffused (i + 1) (get_or asked.questions i q) part.0 part.1 part.2))

-- first reports stay so while what they say does, and while no less may be told of factoring
pub first_still : {V S W : Type 0} (A : Algebra V) (how : Settings) (g : GraphData) (asked : Asked) (undiffused : Bool) (Told WideTold : Preparation → Type 0) (wider_told : (p : Preparation) → Told p → WideTold p)
    (MayTell Wide : Factoring → Type 0) (wider : (f : Factoring) → MayTell f → Wide f) (may_become : S → Progress → S → Type 0) (old new : S) (out mid out_after : Output W)
    → ((n : ℕ) → WroteAtLeast A g asked n out mid → WroteAtLeast A g asked n out out_after) → (whole : Bool) → ReportedFirst A how g asked undiffused Told MayTell may_become old new out mid whole
    → ReportedFirst A how g asked undiffused WideTold Wide may_become old new out out_after whole
first_still A how g asked undiffused Told WideTold wider_told MayTell Wide wider may_become old new out mid out_after still whole w = (
  w.0,
  record {
    made = w.1.made;
    told = wider_told w.1.made w.1.told;
    prefix = w.1.prefix;
    rest = w.1.rest;
    due_is = w.1.due_is;
    all = w.1.all;
    are_due = w.1.are_due;
    so = all_still A g asked MayTell Wide wider out mid out_after still w.1.prefix w.1.so;
  },
  w.2,
)
