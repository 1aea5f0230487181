-- What was reported so far, and one report more.
use Rattle.batch_run.proofs.Words.{◌≡◌, ℕ, zero, suc, ◌+◌, ◌<◌, ◌≤◌, Bool, true, false, List, [], ◌∷◌, ◌++◌, length, map, take, get_or, Option, None, Some, Result, Err, refl, sym, ap, ◌∙◌, subst, append_assoc, append-nil, arith, IfNone, IfSome, AllZip, flat_map, false≢true, take_all, take_more, map-append, flat_map-cons, GraphData, HasVertex, Question, Ghosts, Algebra, AreBest, PlanData, SetupData, setup_of, BatchOver, EndedDiffusion, Settings, Progress, IsCut, order_of}
use Rattle.station.specs.declared.gathering.Gathered.{Gathered}
use Rattle.station.specs.Gather.{IsGathered}
use Rattle.batch_run.specs.declared.watcher.Progress.TheVariants as report
use Rattle.batch_run.specs.Batches.{IsCutIn, IsEndedIn}
use Rattle.batch_run.specs.Reports.{IsAccount, Due, Beginning, Account, Preparation, Answering, IsReportOf, FollowsReports, Reported, ReportedAllOrPrefix, ReportedPrefix, accounts_due, question_due, questions_due, due_if, start_due, batch_due, count_diffusions, diffused}

-- the counts of a diffusion that was run to its end are those that were gathered
module _ {S V : Type 0} (meaning : S → Algebra V) where
  account_of : (algebra : S) (how : Settings) (g : GraphData) (plan : PlanData) (source : ℕ) (found : Gathered V) → IsCut how g plan
      → IsGathered meaning (setup_of algebra g source plan (order_of how)) found → IsAccount (meaning algebra) how g source found.tally
  account_of algebra how g plan source found cut h = record {
    plan = plan;
    cut = cut;
    labels = found.labels;
    gathered = record { roads = h.roads; source = h.source; labels = h.labels; events = h.events; ended = h.ended; quiet = h.quiet; tally = h.tally; equal = h.equal; best = h.best };
  }

  best_of : (t : SetupData S) (found : Gathered V) → IsGathered meaning t found → AreBest (meaning t.diffusion.algebra) t.diffusion.roads (t.diffusion.source ∷ []) found.labels
  best_of t found h = h.labels

  module _ {R T : Type 0} {G : Ghosts S V} (over : BatchOver S R T V G) (plan : PlanData) (e : EndedDiffusion S V) (found : Gathered V) (ended : IsEndedIn over plan e)
      (h : IsGathered meaning e.floor.setup found) where
    gathered_of : IsGathered meaning (setup_of over.batch.now.task.algebra over.graph.now e.source plan (order_of over.batch.now.settings.now)) found
    gathered_of = subst (λ (t : SetupData S). IsGathered meaning t found) ended.setup h

    -- so are the labels
    pub are_best : AreBest (meaning over.batch.now.task.algebra) over.graph.now (e.source ∷ []) found.labels
    are_best = best_of (setup_of over.batch.now.task.algebra over.graph.now e.source plan (order_of over.batch.now.settings.now)) found gathered_of

    pub has_source : HasVertex over.graph.now e.source
    has_source = gathered_of.source

    pub is_account : IsCutIn over plan → IsAccount (meaning over.batch.now.task.algebra) over.batch.now.settings.now over.graph.now e.source found.tally
    is_account cut = account_of over.batch.now.task.algebra over.batch.now.settings.now over.graph.now plan e.source found cut gathered_of

module _ {V S : Type 0} (A : Algebra V) (how : Settings) (g : GraphData) (may_become : S → Progress → S → Type 0) where
  all_more : (ds es : List Due) (rs qs : List Progress) → AllZip (IsReportOf A how g) ds rs → AllZip (IsReportOf A how g) es qs → AllZip (IsReportOf A how g) (ds ++ es) (rs ++ qs)
  all_more [] es [] qs h k = k
  all_more [] es (r ∷ rs) qs h k = absurd h
  all_more (d ∷ ds) es [] qs h k = absurd h
  all_more (d ∷ ds) es (r ∷ rs) qs h k = (h.0, all_more ds es rs qs h.1 k)

  told_more : (rs qs : List Progress) (old mid new : S) → FollowsReports may_become old rs mid → FollowsReports may_become mid qs new → FollowsReports may_become old (rs ++ qs) new
  told_more [] qs old mid new h k = subst (λ (s : S). FollowsReports may_become s qs new) h k
  told_more (r ∷ rs) qs old mid new h k = (h.0, h.1, told_more rs qs h.0 mid new h.2 k)

  -- nothing was reported
  pub none : (s : S) → Reported A how g may_become [] s s
  none s = record { reports = []; are_due = tt; told = refl }

  -- nothing is due of a question that is solved without diffusions
  pub none_due : (undiffused : Bool) → undiffused ≡ true → (k : ℕ) (q : Question) (s : S) → Reported A how g may_become (accounts_due undiffused k q) s s
  none_due true e k q s = none s
  none_due false e k q s = absurd (false≢true e)

  -- one report was made
  pub one : (d : Due) (r : Progress) (old new : S) → IsReportOf A how g d r → may_become old r new → Reported A how g may_become (d ∷ []) old new
  one d r old new is become = record { reports = r ∷ []; are_due = (is, tt); told = (new, become, refl) }

  -- more was reported
  pub more : (ds es : List Due) (old mid new : S) → Reported A how g may_become ds old mid → Reported A how g may_become es mid new → Reported A how g may_become (ds ++ es) old new
  more ds es old mid new h k = record {
    reports = h.reports ++ k.reports;
    are_due = all_more ds es h.reports k.reports h.are_due k.are_due;
    told = told_more h.reports k.reports old mid new h.told k.told;
  }

  -- nothing was of what is due
  pub prefix_none : (due : List Due) (s : S) → ReportedPrefix A how g may_become due s s
  prefix_none due s = ([], due, refl, none s)

  pub prefix_if_err : {T E : Type 0} (due : List Due) (old new : S) (r : Result T E) (f : E) → r ≡ Err f → ReportedPrefix A how g may_become due old new → ReportedAllOrPrefix A how g may_become due old new r
  prefix_if_err due old new r f e h = subst (ReportedAllOrPrefix A how g may_become due old new) (sym e) h

  pub prefix_kept : (due : List Due) (old new : S) → new ≡ old → ReportedPrefix A how g may_become due old new
  prefix_kept due old new e = subst (λ (s : S). ReportedPrefix A how g may_become due old s) (sym e) (prefix_none due old)

  -- what was reported is a prefix of what is due
  pub prefix_whole : (ds rest due : List Due) (old new : S) → due ≡ ds ++ rest → Reported A how g may_become ds old new → ReportedPrefix A how g may_become due old new
  prefix_whole ds rest due old new e h = (ds, rest, e, h)

  pub prefix_all : (due : List Due) (old new : S) → Reported A how g may_become due old new → ReportedPrefix A how g may_become due old new
  prefix_all due old new h = prefix_whole due [] due old new (sym (append-nil due)) h

-- what is due of the first sources is a prefix of what is due of all
account_from : (k : ℕ) (xs : List ℕ) (i : ℕ) → (rest : List Due) × (map (Account k) xs ≡ map (Account k) (take i xs) ++ rest)
account_from k xs zero = (map (Account k) xs, refl)
account_from k [] (suc i) = ([], refl)
account_from k (x ∷ xs) (suc i) = let after = account_from k xs i in (after.0, ap (λ (l : List Due). Account k x ∷ l) after.1)

module _ {V S : Type 0} (A : Algebra V) (how : Settings) (g : GraphData) (may_become : S → Progress → S → Type 0) (k : ℕ) (xs : List ℕ) where
  -- of one source
  pub sources_begun : (x : ℕ) (old new : S) → take 1 xs ≡ x ∷ [] → Reported A how g may_become (Account k x ∷ []) old new → Reported A how g may_become (map (Account k) (take 1 xs)) old new
  sources_begun x old new e h = subst (λ (l : List ℕ). Reported A how g may_become (map (Account k) l) old new) (sym e) h

  -- of one source more
  pub sources_more : (i x : ℕ) (old mid new : S) → i < length xs → x ≡ get_or xs i x → Reported A how g may_become (map (Account k) (take i xs)) old mid →
      Reported A how g may_become (Account k x ∷ []) mid new → Reported A how g may_become (map (Account k) (take (i + 1) xs)) old new
  sources_more i x old mid new low is h one =
      let longer : take (i + 1) xs ≡ take i xs ++ x ∷ [] = take_more xs i x low ∙ ap (λ (y : ℕ). take i xs ++ y ∷ []) (sym is) in
      subst (λ (l : List Due). Reported A how g may_become l old new) (sym (ap (map (Account k)) longer ∙ map-append (Account k) (take i xs) (x ∷ [])))
      (more A how g may_become (map (Account k) (take i xs)) (Account k x ∷ []) old mid new h one)

  -- it stopped at a source
  pub sources_stopped : (i : ℕ) (old mid new : S) → Reported A how g may_become (map (Account k) (take i xs)) old mid → new ≡ mid → ReportedPrefix A how g may_become (map (Account k) xs) old new
  sources_stopped i old mid new h e =
      let after = account_from k xs i in
      subst (λ (s : S). ReportedPrefix A how g may_become (map (Account k) xs) old s) (sym e) (prefix_whole A how g may_become (map (Account k) (take i xs)) after.0 (map (Account k) xs) old mid after.1 h)

  pub sources_ended : (i : ℕ) (old new : S) → length xs ≤ i → Reported A how g may_become (map (Account k) (take i xs)) old new → Reported A how g may_become (map (Account k) xs) old new
  sources_ended i old new le h = subst (λ (l : List ℕ). Reported A how g may_become (map (Account k) l) old new) (take_all i xs le) h

-- due of a batch until so many questions are answered
abbrev pub due_first : Bool → Preparation → List Question → ℕ → List Due
due_first undiffused made qs i = start_due undiffused made qs ++ questions_due undiffused 0 (take i qs)

-- of one question more
due_push : (undiffused : Bool) (n : ℕ) (qs : List Question) (i k : ℕ) (d : Question) → i < length qs → k ≡ n + i + 1 →
    questions_due undiffused n (take (suc i) qs) ≡ questions_due undiffused n (take i qs) ++ question_due undiffused k (get_or qs i d)
due_push undiffused n [] i k d low e = absurd (omega (arith, low))
due_push undiffused n (q ∷ qs) zero k d low e =
    let number : n + 1 ≡ k = omega (arith, e) in
    append-nil (question_due undiffused (n + 1) q) ∙ ap (λ (m : ℕ). question_due undiffused m q) number
due_push undiffused n (q ∷ qs) (suc i) k d low e =
    let head = question_due undiffused (n + 1) q in
    ap (λ (x : List Due). head ++ x) (due_push undiffused (n + 1) qs i k d (omega (arith, low)) (omega (arith, e)))
    ∙ sym (append_assoc head (questions_due undiffused (n + 1) (take i qs)) (question_due undiffused k (get_or qs i d)))

-- what is due of the first questions is a prefix of what is due of all
due_from : (undiffused : Bool) (n : ℕ) (qs : List Question) (i : ℕ) → (rest : List Due) × (questions_due undiffused n qs ≡ questions_due undiffused n (take i qs) ++ rest)
due_from undiffused n qs zero = (questions_due undiffused n qs, refl)
due_from undiffused n [] (suc i) = ([], refl)
due_from undiffused n (q ∷ qs) (suc i) =
    let head = question_due undiffused (n + 1) q in
    let after = due_from undiffused (n + 1) qs i in
    (after.0, ap (λ (x : List Due). head ++ x) after.1 ∙ sym (append_assoc head (questions_due undiffused (n + 1) (take i qs)) after.0))

-- what is due until so many questions are answered is a prefix of all
first_follows : (undiffused : Bool) (made : Preparation) (qs : List Question) (i : ℕ) → (rest : List Due) × (batch_due undiffused made qs ≡ due_first undiffused made qs i ++ rest)
first_follows undiffused made qs i =
    let head = start_due undiffused made qs in
    let after = due_from undiffused 0 qs i in
    (after.0, ap (λ (x : List Due). head ++ x) after.1 ∙ sym (append_assoc head (questions_due undiffused 0 (take i qs)) after.0))

module _ (undiffused : Bool) (made : Preparation) (qs : List Question) (i k : ℕ) (q : Question) (low : i < length qs) (number : k ≡ i + 1) where
  pub next_due : due_first undiffused made qs (i + 1) ≡ due_first undiffused made qs i ++ question_due undiffused k (get_or qs i q)
  next_due =
      let head = start_due undiffused made qs in
      let same : i + 1 ≡ suc i = omega arith in
      ap (due_first undiffused made qs) same ∙ ap (λ (x : List Due). head ++ x) (due_push undiffused 0 qs i k q low (omega (arith, number)))
      ∙ sym (append_assoc head (questions_due undiffused 0 (take i qs)) (question_due undiffused k (get_or qs i q)))

  -- and so it is with some accounts of the next question
  pub accounts_follow : (ds es : List Due) → accounts_due undiffused k (get_or qs i q) ≡ ds ++ es → (rest : List Due) × (batch_due undiffused made qs ≡ (due_first undiffused made qs i ++ ds) ++ rest)
  accounts_follow ds es e =
      let first = due_first undiffused made qs i in
      let after = first_follows undiffused made qs (i + 1) in
      let last = Answering k ∷ [] in (
        es ++ (last ++ after.0),
        after.1 ∙ ap (λ (x : List Due). x ++ after.0) next_due
            ∙ ap (λ (x : List Due). (first ++ (x ++ last)) ++ after.0) e ∙ ap (λ (x : List Due). (first ++ x) ++ after.0) (append_assoc ds es last)
            ∙ append_assoc first (ds ++ (es ++ last)) after.0 ∙ ap (λ (x : List Due). first ++ x) (append_assoc ds (es ++ last) after.0)
            ∙ ap (λ (x : List Due). first ++ (ds ++ x)) (append_assoc es last after.0) ∙ sym (append_assoc first ds (es ++ (last ++ after.0))),
      )

module _ {V S : Type 0} (A : Algebra V) (how : Settings) (g : GraphData) (may_become : S → Progress → S → Type 0) where
  -- the batch begins
  pub begun : (undiffused : Bool) (qs : List Question) (n d : ℕ) (old new : S) → n ≡ length qs → d ≡ count_diffusions undiffused qs → may_become old (report.Begun n d) new →
      Reported A how g may_become (Beginning (length qs) (count_diffusions undiffused qs) ∷ []) old new
  begun undiffused qs n d old new count diffusions become =
      one A how g may_become (Beginning (length qs) (count_diffusions undiffused qs)) (report.Begun n d) old new
      (ap (λ (m : ℕ). report.Begun m d) count ∙ ap (λ (m : ℕ). report.Begun (length qs) m) diffusions) become

  -- what there is to tell is told
  pub reported_if : {X : Type 0} (due : X → Due) (said : X → Progress) → ((x : X) → IsReportOf A how g (due x) (said x)) → (o : Option X) (old new : S) → IfSome o (λ x. may_become old (said x) new)
      → IfNone o (new ≡ old) → Reported A how g may_become (due_if due o) old new
  reported_if due said is None old new told untold = subst (Reported A how g may_become [] old) (sym untold) (none A how g may_become old)
  reported_if due said is (Some x) old new told untold = one A how g may_become (due x) (said x) old new (is x) told

-- a question is answered
module _ {V S : Type 0} (A : Algebra V) (how : Settings) (g : GraphData) (may_become : S → Progress → S → Type 0) (undiffused : Bool) (k : ℕ) (q : Question) where
  pub question_answered : (old mid new : S) → Reported A how g may_become (accounts_due undiffused k q) old mid → may_become mid (report.Answered k) new → Reported A how g may_become (question_due undiffused k q) old new
  question_answered old mid new accounts become =
      more A how g may_become (accounts_due undiffused k q) (Answering k ∷ []) old mid new accounts (one A how g may_become (Answering k) (report.Answered k) mid new refl become)

-- without diffusions there are none
none_diffused : (qs : List Question) → flat_map (diffused true) qs ≡ []
none_diffused [] = refl
none_diffused (q ∷ qs) = flat_map-cons (diffused true) q qs ∙ none_diffused qs

pub none_counted : (qs : List Question) → 0 ≡ count_diffusions true qs
none_counted qs = sym (ap (λ (l : List ℕ). length l) (none_diffused qs))
